-- The fit of some commands has some command, from any start: "A lap with no command stays refused", and no fit makes one. Assumes nothing.
use Prim.Native.Nat.{ℕ, ◌+◌, ◌-◌, ◌*◌, ◌/◌, ◌^◌, ◌≤◌, ◌<◌}
use mathlib.Core.Path.{◌≡◌, refl, sym, ◌∙◌, subst}
use mathlib.Core.Bool.{Bool, true, false}
use mathlib.Core.List.{List, [], ◌∷◌, ◌++◌}
use native.Mathlib.Omega.{arith}
use borrow.Author.Tests.{ltb-false, lt-ltb}
use lib.ListN.{length, length-append, length-map}
use lib.IntN.{ℤ}
use lib.Ieee.{Float, nan, inf, fin, up, down, lt, is_nan, of_bits, to_unsigned}
use lib.Ieee.Fits.{down_pos}
use lib.Ieee.Nearest.{div_mono}
use Rattle.floats.specs.Ops.{◌≺◌, ◌⊗◌, +0, two}
use Rattle.floats.specs.Limits.{quarter}
use Rattle.floats.specs.Float.{max_of}
use Rattle.floats.proofs.Order.{clash}
use Rattle.geo.specs.declared.types.Point3D.{Point3D}
use Rattle.geo.specs.declared.types.Command.{Command}
use Rattle.geo.specs.declared.types.Command.TheVariants.{Move, Line, Arc, Bezier}
use Rattle.geo.specs.Lent.{triple, flat, end_of}
use Rattle.geo.proofs.Flat.{flat-one}
use Rattle.bezier.specs.Linearize.{step_end, step_count, steps_needed, param_steps}
use Rattle.bezier.proofs.Rows.{param_length}
use Rattle.pieces.specs.declared.pieces.Rule.{Rule}
use Rattle.pieces.specs.Pieces.{Piece}
use Rattle.pieces.specs.Laws.{Covers}
use Rattle.pieces.specs.Commands.{piece_command, fit_in, chain_fit}
use Rattle.ranges.proofs.Chain.{kept-some}
use Rattle.pieces.proofs.Laws.{pieces_cover}
use Rattle.chain.specs.Parts.{Part, chain, kept, Join, adds, ends, closed, carried, parts_from, part_fit, fit_of}
use Rattle.chain.specs.Joins.{joined}
use Rattle.chain.proofs.Count.{under_min}
use Rattle.chain.proofs.Steps.{ends_length}
use Rattle.course.specs.Course.{parts_on, fit_on}
use Rattle.course.specs.Demand.{thinned_at, steps_of, chain_pieces, SomeFitted}

-- ---- a Bezier has a step: the greater of any float and two counts as one at least, of NaN and infinity too
two-counts : 1 ≤ to_unsigned 64 two
unfolding to_unsigned of_bits
two-counts = omega arith

negative-below : (m : ℕ) (e : ℤ) → lt (fin true m e) two ≡ true
unfolding lt of_bits
negative-below m e = lt-ltb 0 (m * up e * 1 + 1 * 2 ^ 1 * down e) (let d = down_pos e in omega arith)

-- what is neither below two nor a NaN counts as one at least
not_below : (x : Float) → lt x two ≡ false → is_nan x ≡ false → 1 ≤ to_unsigned 64 x
not_below nan a b = clash (sym (unfold is_nan in b))
not_below (inf true) a b = clash (sym (unfold lt of_bits in a))
not_below (inf false) a b = unfold to_unsigned in omega arith
not_below (fin true m e) a b = clash (sym a ∙ negative-below m e)
not_below (fin false m e) a b =
    let l : 1 * 2 ^ 1 * down e ≤ m * up e * 1 = unfold lt of_bits in ltb-false (m * up e * 1) (1 * 2 ^ 1 * down e) a in
    let d : 1 / 1 ≤ m * up e / down e = div_mono 1 1 (m * up e) (down e) (omega arith) (down_pos e) (omega arith) in
    unfold to_unsigned in under_min 1 (m * up e / down e) (2 ^ 64 - 1) d (omega arith)

max_counts : (x : Float) → 1 ≤ to_unsigned 64 (max_of x two)
unfolding max_of
max_counts x = go (lt x two) (is_nan x) refl refl
  where
    go : (a b : Bool) → lt x two ≡ a → is_nan x ≡ b → 1 ≤ to_unsigned 64 (max_of x two)
    go true b p q = rw p two-counts
    go false true p q = rw (p, q) two-counts
    go false false p q = rw (p, q) (not_below x p q)

step_some : (e c d s : Point3D) (r : Float) → 1 ≤ length (param_steps e c d s r)
unfolding steps_needed step_count
step_some e c d s r =
    let p = param_length e c d s r (steps_needed e c d s r) (to_unsigned 64 (steps_needed e c d s r)) refl refl in
    subst (λ (n : ℕ). 1 ≤ n) p (max_counts _)

-- ---- a chain with a step has a piece
module _ (r : Rule) (pos : (+0 ≺ r.tolerance) ≡ true) where
  covered : (ps : List Piece) (hi : ℕ) → Covers 0 ps hi → 1 ≤ hi → 1 ≤ length ps
  covered [] hi v h = absurd (omega (arith, v))
  covered (p ∷ ps) hi v h = omega arith

  chain-some : (s : List Float) → 2 ≤ length s / 3 → 1 ≤ length (chain_fit r s)
  unfolding chain_fit fit_in
  chain-some s h =
      let k = kept-some r s h in
      let c = covered (chain_pieces r s) (steps_of r s) (pieces_cover r pos (thinned_at r s) 0 (steps_of r s) (omega arith)) (omega arith) in
      let l = length-map (chain_pieces r s) (piece_command (thinned_at r s)) in
      omega (arith, c, l)

  -- a command that is kept is written
  kept_writes : (s : List Float) (c : Command) (ps : List Part) → 1 ≤ length (fit_of (chain_fit r) (chain s ∷ kept c ∷ ps))
  unfolding fit_of flat part_fit
  kept_writes s c ps = let l = length-append (chain_fit r s) (c ∷ flat (part_fit (chain_fit r)) ps) in omega arith

  chain_writes : (s : List Float) → 2 ≤ length s / 3 → 1 ≤ length (fit_of (chain_fit r) (chain s ∷ []))
  unfolding fit_of
  chain_writes s h = rw (flat-one (part_fit (chain_fit r)) (chain s)) (unfold part_fit in chain-some s h)

  -- ---- with a step under way something is written
  step_writes : (last : Point3D) (s : List Float) (cs : List Command) → 2 ≤ length s / 3 → 1 ≤ length (fit_of (chain_fit r) (parts_from (joined r.tolerance) last s cs))
  unfolding parts_from closed carried
  step_writes last s [] h = chain_writes s h
  step_writes last s (c ∷ cs) h = go (joined r.tolerance last c) (λ t g. step_writes (end_of c) t cs g)
    where
      go : (j : Join) → ((t : List Float) → 2 ≤ length t / 3 → 1 ≤ length (fit_of (chain_fit r) (parts_from (joined r.tolerance) (end_of c) t cs)))
          → 1 ≤ length (fit_of (chain_fit r) (closed s c j ++ parts_from (joined r.tolerance) (end_of c) (carried s c j) cs))
      go (adds ps) rec = let l = length-append s ps in rec (s ++ ps) (omega arith)
      go ends rec = kept_writes s c (parts_from (joined r.tolerance) (end_of c) (triple (end_of c)) cs)

  some-on : (p : Point3D) (cs : List Command) → 0 < length cs → 0 < length (fit_on r p cs)
  unfolding fit_on parts_on end_of
  some-on p [] h = absurd (omega arith)
  some-on p (c ∷ cs) h = go c
    where
      go : (d : Command) → 0 < length (fit_of (chain_fit r) (parts_from (joined r.tolerance) p (triple p) (d ∷ cs)))
      go (Move q) = unfold parts_from closed carried joined in kept_writes (triple p) (Move q) (parts_from (joined r.tolerance) q (triple q) cs)
      go (Arc q o n) = unfold parts_from closed carried joined in kept_writes (triple p) (Arc q o n) (parts_from (joined r.tolerance) q (triple q) cs)
      go (Line q) = unfold parts_from closed carried joined in step_writes q (triple p ++ triple q) cs (omega arith)
      go (Bezier q a b) =
          let ss = param_steps q a b p (r.tolerance ⊗ quarter) in
          let l = length-append (triple p) (flat step_end ss) in
          let m = ends_length ss in
          let n = step_some q a b p (r.tolerance ⊗ quarter) in
          unfold parts_from closed carried joined in step_writes q (triple p ++ flat step_end ss) cs (omega (arith, l, m, n))

-- Some commands give some command, from any start.
pub some-fitted : SomeFitted
some-fitted r pos p cs h = some-on r pos p cs h
