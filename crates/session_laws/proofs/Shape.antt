-- A fitted lap is formed as its lap is: it has its Move where that has it, and Lines and Arcs behind. Assumes nothing.
use Prim.Native.Nat.{ℕ, zero, suc, ◌-◌, ◌≤◌, ◌<◌}
use mathlib.Core.Path.{◌≡◌, refl, sym, ap, ◌∙◌, subst}
use mathlib.Core.Bool.{Bool, true, false, not, ◌||◌}
use mathlib.Core.List.{List, [], ◌∷◌, ◌++◌, map}
use native.Mathlib.Omega.{arith}
use borrow.Author.Tests.{eqb-true, eqb-false, not-false}
use lib.ListN.{length, get_or}
use lib.Dec.{eqb}
use lib.Ieee.{Float, of_bits, of_fields, odd}
use Rattle.floats.specs.Ops.{◌≺◌, ◌⊗◌, +0}
use Rattle.floats.specs.Limits.{quarter}
use Rattle.floats.proofs.Order.{clash, and_left}
use Rattle.geo.specs.declared.types.Point3D.{Point3D}
use Rattle.geo.specs.declared.types.Command.{Command}
use Rattle.geo.specs.declared.types.Command.TheVariants.{Move, Line, Arc, Bezier}
use Rattle.geo.specs.Lent.{point_at, triple, flat, origin, end_of, command_of}
use Rattle.geo.specs.Domain.{formed, zero3, is_plus_zero}
use Rattle.geo.proofs.Flat.{flat-one}
use Rattle.bezier.specs.Linearize.{step_end, param_steps}
use Rattle.file.specs.Command.{decoded, enc, well_formed, laid, point_from}
use Rattle.file.proofs.RoundTrip.{formed-laid}
use Rattle.file.proofs.Stores.{enc-move, enc-line, enc-arc}
use Rattle.pieces.specs.declared.pieces.Rule.{Rule}
use Rattle.pieces.specs.Pieces.{Shape, line, arc, Piece, pieces_in}
use Rattle.pieces.specs.Commands.{shaped, piece_command, fit_in, kept_of, chain_fit}
use Rattle.chain.specs.Parts.{Part, chain, kept, closed, carried, parts_from, part_fit, fit_of}
use Rattle.chain.specs.Joins.{joined}
use Rattle.course.specs.Course.{parts_on, fit_on}
use Rattle.course.proofs.Start.{fit-move}
use Rattle.laps.specs.File.{Lap, lacks, placed, form_ok, fitted_ok, lap_ok, lap_tested}
use Rattle.laps.proofs.Here.{cond_false}
use Rattle.lap_fit.specs.Fit.{fit_lap}
use Rattle.lap_fit.proofs.Lap.{fit-some}
use Rattle.session_laws.proofs.Held.{held-origin}

-- what holds for each command
abbrev Each : (Command → Bool) → List Command → Type 0
Each ok [] = Unit
Each ok (c ∷ cs) = (ok c ≡ true) × Each ok cs

each_append : (ok : Command → Bool) (xs ys : List Command) → Each ok xs → Each ok ys → Each ok (xs ++ ys)
each_append ok [] ys a b = b
each_append ok (x ∷ xs) ys a b = (a.0, each_append ok xs ys a.1 b)

-- no Move; a Line or an Arc
abbrev no_move : Command → Bool
no_move (Move p) = false
no_move (Line p) = true
no_move (Arc p o n) = true
no_move (Bezier p c d) = true

abbrev is_step : Command → Bool
is_step (Move p) = false
is_step (Line p) = true
is_step (Arc p o n) = true
is_step (Bezier p c d) = false

-- ---- a fit without Moves is of Lines and Arcs
shaped_step : (a b : Point3D) (s : Shape) → is_step (shaped a b s) ≡ true
unfolding shaped
shaped_step a b line = refl
shaped_step a b (arc m w) = refl

pieces-steps : (at : ℕ → Point3D) (ps : List Piece) → Each is_step (map (piece_command at) ps)
unfolding piece_command
pieces-steps at [] = tt
pieces-steps at (p ∷ ps) = (shaped_step (at p.from) (at p.to) p.shape, pieces-steps at ps)

module _ (r : Rule) where
  chain_steps_lem : (s : List Float) → Each is_step (chain_fit r s)
  unfolding chain_fit fit_in
  chain_steps_lem s = pieces-steps (point_at (flat triple (kept_of r s))) (pieces_in r (point_at (flat triple (kept_of r s))) 0 (length (kept_of r s) - 1))

  kept-steps : (s : List Float) (c : Command) (ps : List Part) → is_step c ≡ true → Each is_step (fit_of (chain_fit r) ps) → Each is_step (fit_of (chain_fit r) (chain s ∷ kept c ∷ ps))
  unfolding fit_of flat part_fit
  kept-steps s c ps e g = each_append is_step (chain_fit r s) (c ∷ flat (part_fit (chain_fit r)) ps) (chain_steps_lem s) (e, g)

  last-steps : (s : List Float) → Each is_step (fit_of (chain_fit r) (chain s ∷ []))
  unfolding fit_of part_fit
  last-steps s = subst (Each is_step) (sym (flat-one (part_fit (chain_fit r)) (chain s))) (chain_steps_lem s)

  parts-steps : (last : Point3D) (s : List Float) (cs : List Command) → Each no_move cs → Each is_step (fit_of (chain_fit r) (parts_from (joined r.tolerance) last s cs))
  unfolding parts_from closed carried joined end_of
  parts-steps last s [] e = last-steps s
  parts-steps last s (Move p ∷ cs) e = clash e.0
  parts-steps last s (Line p ∷ cs) e = parts-steps p (s ++ triple p) cs e.1
  parts-steps last s (Arc p o n ∷ cs) e = kept-steps s (Arc p o n) (parts_from (joined r.tolerance) p (triple p) cs) refl (parts-steps p (triple p) cs e.1)
  parts-steps last s (Bezier p c d ∷ cs) e = parts-steps p (s ++ flat step_end (param_steps p c d last (r.tolerance ⊗ quarter))) cs e.1

  fit-steps : (p : Point3D) (cs : List Command) → Each no_move cs → Each is_step (fit_on r p cs)
  unfolding fit_on parts_on
  fit-steps p cs e = parts-steps p (triple p) cs e

-- ---- recorded commands that are no Moves
kind_known : (n : ℕ) (p q r : Point3D) → (n ≡ 0 → ⊥) → no_move (command_of n p q r) ≡ true
unfolding command_of
kind_known zero p q r h = absurd (h refl)
kind_known (suc zero) p q r h = refl
kind_known (suc (suc zero)) p q r h = refl
kind_known (suc (suc (suc k))) p q r h = refl

one-behind : (c : List ℕ) → form_ok false c ≡ true → no_move (decoded c) ≡ true
unfolding form_ok placed decoded
one-behind c e =
    let a = and_left (not (eqb (get_or c 0 0) 0)) _ e in
    kind_known (get_or c 0 0) (point_from c 1) (point_from c 25) (point_from c 49) (eqb-false (get_or c 0 0) 0 (flip (eqb (get_or c 0 0) 0) a))
  where
    flip : (b : Bool) → not b ≡ true → b ≡ false
    flip true z = sym z
    flip false z = refl

all-behind : (l : Lap) → lap_ok form_ok false l ≡ true → Each no_move (map decoded l)
unfolding lap_ok
all-behind [] e = tt
all-behind (c ∷ l) e = let a = cond_false (form_ok false c) _ e in (one-behind c a.0, all-behind l a.1)

-- ---- the form of what is written
unused : (k : ℕ) → k ≤ 1 → formed k origin origin ≡ true
unfolding formed zero3 is_plus_zero of_bits of_fields odd
unused zero h = refl
unused (suc zero) h = refl
unused (suc (suc k)) h = absurd (omega arith)

kind-laid : (k : ℕ) (p q r : Point3D) → get_or (laid k p q r) 0 0 ≡ k
unfolding laid
kind-laid k p q r = refl

move-formed : (p : Point3D) → fitted_ok true (enc (Move p)) ≡ true
unfolding fitted_ok form_ok placed
move-formed p = rw (enc-move p, kind-laid 0 p origin origin, formed-laid 0 p origin origin held-origin held-origin, unused 0 (omega arith))

arc-formed : (p o n : Point3D) → well_formed (laid 2 p o n) ≡ true
unfolding well_formed laid formed
arc-formed p o n = refl

step_formed : (c : Command) → is_step c ≡ true → (fitted_ok false (enc c) ≡ true) × (eqb (get_or (enc c) 0 0) 0 ≡ false)
unfolding fitted_ok form_ok placed
step_formed (Move p) e = clash e
step_formed (Line p) e = rw (enc-line p, kind-laid 1 p origin origin, formed-laid 1 p origin origin held-origin held-origin, unused 1 (omega arith)) (refl, refl)
step_formed (Arc p o n) e = rw (enc-arc p o n, kind-laid 2 p o n, arc-formed p o n) (refl, refl)
step_formed (Bezier p c d) e = clash e

steps-formed : (cs : List Command) → Each is_step cs → lap_ok fitted_ok false (map enc cs) ≡ true
unfolding lap_ok
steps-formed [] e = refl
steps-formed (c ∷ cs) e = rw (step_formed c e.0).0 (steps-formed cs e.1)

steps_lack : (cs : List Command) → Each is_step cs → 0 < length (map enc cs) → lacks (map enc cs) ≡ true
unfolding lacks
steps_lack [] e h = absurd (omega arith)
steps_lack (c ∷ cs) e h = ap not (step_formed c e.0).1

either : (m t : Bool) → t ≡ false → (m || not t) ≡ true
either true t e = refl
either false true e = sym e
either false false e = refl

-- a Move put in front of them
moved : (p : Point3D) (l : Lap) → lacks (enc (Move p) ∷ l) ≡ false
unfolding lacks
moved p l = rw (enc-move p, kind-laid 0 p origin origin)

opened : (p : Point3D) (l : Lap) → lap_ok fitted_ok false l ≡ true → lap_ok fitted_ok true (enc (Move p) ∷ l) ≡ true
unfolding lap_ok
opened p l e = rw (move-formed p) e

-- a lap that has its Move, as a command
has_move : (c : List ℕ) (l : Lap) → lacks (c ∷ l) ≡ false → decoded c ≡ Move (point_from c 1)
unfolding lacks decoded command_of
has_move c l e = let k = eqb-true (get_or c 0 0) 0 (not-false _ e) in rw k

-- a lap that must have its Move has it
has_it : (c : List ℕ) (l : Lap) → lap_ok form_ok true (c ∷ l) ≡ true → lacks (c ∷ l) ≡ false
unfolding lap_ok form_ok placed lacks
has_it c l e = ap not (and_left (eqb (get_or c 0 0) 0) _ (cond_false (form_ok true c) _ e).0)

-- ---- the fit of a lap without a Move, and of one with it
module _ (r : Rule) (pos : (+0 ≺ r.tolerance) ≡ true) (p : Point3D) where
  pub without_move : (l : Lap) → 0 < length l → lap_ok form_ok false l ≡ true → (lacks (fit_lap r p l) ≡ true) × (lap_ok fitted_ok false (fit_lap r p l) ≡ true)
  unfolding fit_lap
  without_move l h b =
      let s = fit-steps r p (map decoded l) (all-behind l b) in
      (steps_lack (fit_on r p (map decoded l)) s (unfold fit_lap in fit-some r pos p l h), steps-formed (fit_on r p (map decoded l)) s)

  with_move : (c : List ℕ) (l : Lap) → lacks (c ∷ l) ≡ false → lap_ok form_ok true (c ∷ l) ≡ true → (lacks (fit_lap r p (c ∷ l)) ≡ false) × (lap_ok fitted_ok true (fit_lap r p (c ∷ l)) ≡ true)
  with_move c l q k =
      let a : Point3D = point_from c 1 in
      let f : fit_lap r p (c ∷ l) ≡ enc (Move a) ∷ map enc (fit_on r a (map decoded l)) = unfold fit_lap in rw (has_move c l q) (ap (map enc) (fit-move r p a (map decoded l))) in
      let b : lap_ok form_ok false l ≡ true = unfold lap_ok in (cond_false (form_ok true c) _ k).1 in
      let s = steps-formed (fit_on r a (map decoded l)) (fit-steps r a (map decoded l) (all-behind l b)) in
      rw f (moved a (map enc (fit_on r a (map decoded l))), opened a (map enc (fit_on r a (map decoded l))) s)

  -- The fit of a lap has its Move exactly where the lap has it, and passes row 4 as that does.
  pub fit-formed : (must : Bool) (l : Lap) → 0 < length l → lap_tested form_ok must l ≡ true → (lacks (fit_lap r p l) ≡ lacks l) × (lap_tested fitted_ok must (fit_lap r p l) ≡ true)
  fit-formed must [] h e = absurd (omega arith)
  fit-formed must (c ∷ l) h e = go (lacks (c ∷ l)) must refl e
    where
      full : lap_tested form_ok true (c ∷ l) ≡ true → lap_ok form_ok true (c ∷ l) ≡ true
      full k = unfold lap_tested in k

      go : (t m : Bool) → lacks (c ∷ l) ≡ t → lap_tested form_ok m (c ∷ l) ≡ true → (lacks (fit_lap r p (c ∷ l)) ≡ t) × (lap_tested fitted_ok m (fit_lap r p (c ∷ l)) ≡ true)
      go false m q k =
          let w = with_move c l q (unfold lap_tested in subst (λ (b : Bool). lap_ok form_ok b (c ∷ l) ≡ true) (either m (lacks (c ∷ l)) q) k) in
          (w.0, unfold lap_tested in subst (λ (b : Bool). lap_ok fitted_ok b (fit_lap r p (c ∷ l)) ≡ true) (sym (either m (lacks (fit_lap r p (c ∷ l))) w.0)) w.1)
      go true true q k = clash (sym (has_it c l (full k)) ∙ q)
      go true false q k =
          let b : lap_ok form_ok false (c ∷ l) ≡ true = unfold lap_tested in subst (λ (t : Bool). lap_ok form_ok (not t) (c ∷ l) ≡ true) q k in
          let i = without_move (c ∷ l) h b in
          (i.0, unfold lap_tested in subst (λ (t : Bool). lap_ok fitted_ok (not t) (fit_lap r p (c ∷ l)) ≡ true) (sym i.0) i.1)
