-- One command of a course: what it leaves, what the room before it comes to, and how long a chain's fit is. Assumes nothing.
use Prim.Native.Nat.{ℕ, ◌+◌, ◌-◌, ◌*◌, ◌/◌, ◌≤◌, ◌<◌}
use mathlib.Core.Path.{◌≡◌, sym, ap, subst, refl, ◌∙◌}
use mathlib.Core.Logic.{⊎_elim}
use mathlib.Core.Bool.{true, false}
use mathlib.Core.List.{List, [], ◌∷◌, ◌++◌}
use native.Mathlib.Omega.{arith}
use native.Mathlib.Nat.{mul-add, min-eq_left}
use lib.ListN.{length, length-append, take, drop, length-take}
use lib.Ieee.{Float}
use lib.Seq.{sets, sets-eq, length-sets}
use Rattle.floats.specs.Ops.{◌≺◌, ◌⊗◌, +0}
use Rattle.floats.specs.Limits.{quarter}
use Rattle.floats.proofs.Order.{lt_or_ge}
use Rattle.geo.specs.declared.types.Point3D.{Point3D}
use Rattle.geo.specs.declared.types.Command.{Command}
use Rattle.geo.specs.declared.types.Command.TheVariants.{Move, Line, Arc, Bezier}
use Rattle.geo.specs.Lent.{point_at, triple, flat, end_of}
use Rattle.geo.proofs.Stores.{take_front}
use Rattle.bezier.specs.Linearize.{step_end, param_steps}
use Rattle.pieces.specs.declared.pieces.Rule.{Rule}
use Rattle.pieces.specs.Commands.{kept_of}
use Rattle.pieces.specs.Written.{Noted, chain_noted, noted, NotedPlaced}
use Rattle.pieces.proofs.Fitted.{noted_length}
use Rattle.ranges.proofs.Chain.{kept-few, kept-some, no_noted}
use Rattle.pieces.proofs.Writing.{none-noted, both-noted, count-noted}
use Rattle.chain.specs.declared.chain.Walk.{Walk}
use Rattle.chain.specs.Parts.{Join, adds, ends, closed, carried, part_most, most_of}
use Rattle.chain.specs.declared.chain.Flush.{Flush}
use Rattle.chain.specs.declared.chain.Flush.TheVariants.{Fitted, AsItStands, Lines}
use Rattle.chain.specs.Joins.{joined, lines_joined}
use Rattle.chain.specs.Chains.{joins_beziers, joined_by, under_way, Room, Stepped, part_noted, noted_of}

-- ---- a buffer's front
pub length_front : {A : Type 0} (k : ℕ) (s : List A) → k ≤ length s → length (take k s) ≡ k
length_front k s h = length-take k s ∙ min-eq_left h

-- what is written right behind the front joins it
pub take_sets : {A : Type 0} (s : List A) (k n : ℕ) (vs : List A) → n ≡ k + length vs → n ≤ length s → take n (sets s k vs) ≡ take k s ++ vs
take_sets s k n vs e h =
    let t = length_front k s (omega arith) in
    let l : length (take k s ++ vs) ≡ n = length-append (take k s) vs ∙ omega arith in
    let q : sets s k vs ≡ take k s ++ vs ++ drop (k + length vs) s = sets-eq vs s k (omega arith) in
    subst (λ (m : ℕ). take m (sets s k vs) ≡ take k s ++ vs) l (ap (take (length (take k s ++ vs))) q ∙ take_front (take k s ++ vs) (drop (k + length vs) s))

-- ---- one command: it adds points
module _ (fit : List Float → List Noted) (c : Command) (w : Walk) (s : List Float) (ks : List ℕ) (ns : List Float) (ss : List ℕ) where
  pub stepped_adds : (n : ℕ) (ps : List Float) (j : Join) → j ≡ adds ps → length ps ≡ 3 * n → 3 * (w.points + n) ≤ length s → 1 ≤ w.points
      → (r : Walk) (s' : List Float) (end : Point3D) → end ≡ end_of c → r ≡ record { points = w.points + n; last = end; written = w.written } → s' ≡ sets s (3 * w.points) ps
      → Stepped fit j c w r s s' ks ks ns ns ss ss
  unfolding closed carried noted_of flat
  stepped_adds n ps j z l h o r s' end q e d =
      rw (z, e, d) (record {
        last = q;
        some = omega arith;
        inside = rw (length-sets s (3 * w.points) ps) h;
        carries = take_sets s (3 * w.points) (3 * (w.points + n)) ps (let b = mul-add 3 w.points n in omega arith) h;
        written = omega arith;
        wrote = none-noted [] refl w.written ks ns ss;
      })

  -- it ends the chain, whose fit leaves the buffer s₁, and is kept
  pub stepped_ends : (n : ℕ) (ks₁ ks₂ : List ℕ) (ns₁ ns₂ : List Float) (ss₁ ss₂ : List ℕ) (s₁ : List Float) → length s₁ ≡ length s → 3 ≤ length s
      → NotedPlaced (fit (under_way w s)) w.written n ks ks₁ ns ns₁ ss ss₁ → NotedPlaced (noted c 0 ∷ []) (w.written + n) 1 ks₁ ks₂ ns₁ ns₂ ss₁ ss₂
      → (r : Walk) (s' : List Float) (end : Point3D) → end ≡ end_of c → r ≡ record { points = 1; last = end; written = w.written + n + 1 } → s' ≡ sets s₁ 0 (triple end)
      → Stepped fit ends c w r s s' ks ks₂ ns ns₂ ss ss₂
  unfolding closed carried noted_of flat part_noted
  stepped_ends n ks₁ ks₂ ns₁ ns₂ ss₁ ss₂ s₁ ls h p k r s' end q e d =
      let xs : List Noted = fit (under_way w s) ++ noted c 0 ∷ [] in
      let b = both-noted (fit (under_way w s)) (noted c 0 ∷ []) w.written (w.written + n) n 1 ks ks₁ ks₂ ns ns₁ ns₂ ss ss₁ ss₂ refl p k in
      let m = count-noted xs w.written (n + 1) ks ks₂ ns ns₂ ss ss₂ b in
      rw (e, d) (record {
        last = q;
        some = omega arith;
        inside = rw (length-sets s₁ 0 (triple end)) (rw ls h);
        carries = take_sets s₁ 0 3 (triple end) refl (rw ls h) ∙ ap triple q;
        written = omega arith;
        wrote = subst (λ (x : ℕ). NotedPlaced xs w.written x ks ks₂ ns ns₂ ss ss₂) m b;
      })

-- ---- how long a chain's fit is, and the room before a command
-- a chain gives at most a command for each of its steps
pub chain-few : (r : Rule) → (+0 ≺ r.tolerance) ≡ true → (s : List Float) → length (chain_noted r s) ≤ length s / 3 - 1
chain-few r pos s = ⊎_elim none some (lt_or_ge (length s / 3) 2)
  where
    none : length s / 3 < 2 → length (chain_noted r s) ≤ length s / 3 - 1
    none h = let e = ap length (no_noted r s h) in omega arith

    some : 2 ≤ length s / 3 → length (chain_noted r s) ≤ length s / 3 - 1
    some h =
        let k = kept-some r s h in
        let f = kept-few r s in
        let l : length (chain_noted r s) ≤ length (kept_of r s) - 1 - 0 = unfold chain_noted in noted_length r pos (point_at (flat triple (kept_of r s))) 0 (length (kept_of r s) - 1) (omega arith) in omega arith

module _ (c : Command) (w : Walk) (s : List Float) (kinds numbers : ℕ) where
  pub front_length : (j : Join) → Room j c w s kinds numbers → length (under_way w s) ≡ 3 * w.points
  front_length j r = length_front (3 * w.points) s r.inside

  -- a command that ends the chain
  pub ends-room : Room ends c w s kinds numbers → (1 ≤ w.points) × (w.points ≤ 801) × (w.written + w.points ≤ kinds) × (9 * (w.written + w.points) ≤ numbers) × (w.written ≤ 800)
  unfolding closed most_of part_most
  ends-room r =
      let l = front_length ends r in
      let a = r.some in
      let b = r.inside in
      let d = r.buffer in
      let k = r.for_kinds in
      let n = r.for_numbers in
      (omega arith, omega arith, omega arith, omega arith, r.few)

  -- one that adds the points ps
  pub adds-room : (ps : List Float) (n : ℕ) (j : Join) → j ≡ adds ps → length ps ≡ 3 * n → Room j c w s kinds numbers → (1 ≤ w.points) × (w.points + n ≤ 801)
  unfolding carried
  adds-room ps n j e h r =
      let l = front_length j r in
      let a = length-append (under_way w s) ps in
      let b = r.some in
      let q = ap (λ (i : Join). length (carried (under_way w s) c i) / 3) e in
      let d = r.chain in
      (omega arith, omega arith)

-- ---- how each kind of command joins
module _ (tol : Float) (last : Point3D) (c : Command) where
  pub line_joins : (f : Flush) (p : Point3D) → c ≡ Line p → joined_by f tol last c ≡ adds (triple p)
  unfolding joined_by joins_beziers joined lines_joined
  line_joins Fitted p e = rw e
  line_joins AsItStands p e = rw e
  line_joins Lines p e = rw e

  pub bezier_joins : (f : Flush) (p q r : Point3D) → c ≡ Bezier p q r → joins_beziers f ≡ true → joined_by f tol last c ≡ adds (flat step_end (param_steps p q r last (tol ⊗ quarter)))
  unfolding joined_by joined
  bezier_joins f p q r e h = rw (h, e)

  pub bezier_ends : (f : Flush) (p q r : Point3D) → c ≡ Bezier p q r → joins_beziers f ≡ false → joined_by f tol last c ≡ ends
  unfolding joined_by lines_joined
  bezier_ends f p q r e h = rw (h, e)

  pub move-ends : (f : Flush) (p : Point3D) → c ≡ Move p → joined_by f tol last c ≡ ends
  unfolding joined_by joins_beziers joined lines_joined
  move-ends Fitted p e = rw e
  move-ends AsItStands p e = rw e
  move-ends Lines p e = rw e

  pub arc-ends : (f : Flush) (p q r : Point3D) → c ≡ Arc p q r → joined_by f tol last c ≡ ends
  unfolding joined_by joins_beziers joined lines_joined
  arc-ends Fitted p q r e = rw e
  arc-ends AsItStands p q r e = rw e
  arc-ends Lines p q r e = rw e

pub line-end : (c : Command) (p : Point3D) → c ≡ Line p → p ≡ end_of c
unfolding end_of
line-end c p e = rw e

pub bezier_end : (c : Command) (p q r : Point3D) → c ≡ Bezier p q r → p ≡ end_of c
unfolding end_of
bezier_end c p q r e = rw e

-- the same step, where the join is worked out
pub stepped_as : (fit : List Float → List Noted) (j k : Join) (c : Command) (w r : Walk) (s s' : List Float) (ks ks' : List ℕ) (ns ns' : List Float) (ss ss' : List ℕ) → j ≡ k
    → Stepped fit k c w r s s' ks ks' ns ns' ss ss' → Stepped fit j c w r s s' ks ks' ns ns' ss ss'
stepped_as fit j k c w r s s' ks ks' ns ns' ss ss' e t = subst (λ (i : Join). Stepped fit i c w r s s' ks ks' ns ns' ss ss') (sym e) t

-- the same command, written out
pub stepped_of : (fit : List Float → List Noted) (j : Join) (c d : Command) (w r : Walk) (s s' : List Float) (ks ks' : List ℕ) (ns ns' : List Float) (ss ss' : List ℕ) → c ≡ d
    → Stepped fit j d w r s s' ks ks' ns ns' ss ss' → Stepped fit j c w r s s' ks ks' ns ns' ss ss'
stepped_of fit j c d w r s s' ks ks' ns ns' ss ss' e t = subst (λ (x : Command). Stepped fit j x w r s s' ks ks' ns ns' ss ss') (sym e) t
