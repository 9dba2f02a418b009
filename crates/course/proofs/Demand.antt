-- Demand 3's sentences about the chains of a course hold: of a chain by the laws of thinning and of a range, of a course part by part. Assumes nothing.
use Prim.Native.Nat.{◌/◌, ◌≤◌, ◌<◌}
use mathlib.Core.Path.{◌≡◌, refl, ap, subst}
use mathlib.Core.Bool.{true}
use mathlib.Core.List.{List, [], ◌∷◌, map}
use native.Mathlib.Omega.{arith}
use lib.ListN.{length}
use lib.Ieee.{Float}
use Rattle.floats.specs.Ops.{◌⊗◌, ◌≺◌, +0}
use Rattle.floats.proofs.Unsigned.{square_not_negative}
use Rattle.geo.specs.declared.types.Point3D.{Point3D}
use Rattle.geo.specs.declared.types.Command.{Command}
use Rattle.geo.specs.Lent.{point_at, flat}
use Rattle.simplify.specs.Thin.{thinned_points}
use Rattle.simplify.specs.Words.{Ascending}
use Rattle.simplify.proofs.Thinning.{ends-kept, kept_in_order, left_out_near}
use Rattle.pieces.specs.declared.pieces.Rule.{Rule}
use Rattle.pieces.specs.Pieces.{distance}
use Rattle.pieces.specs.Commands.{chain_fit}
use Rattle.pieces.proofs.Laws.{range_fitted}
use Rattle.ranges.proofs.Chain.{kept-some, no_chain}
use Rattle.chain.specs.Parts.{Part, chain, kept, part_fit, fit_of}
use Rattle.course.specs.Course.{parts_on, fit_on}
use Rattle.course.specs.Demand.{thinned_at, steps_of, ChainFitted, PartsGive}

-- Each chain of two or more points is as demand 3 says, at every tolerance above zero.
pub chain-fitted : (r : Rule) → (+0 ≺ r.tolerance) ≡ true → (s : List Float) → 2 ≤ length s / 3 → ChainFitted r s (chain_fit r s)
unfolding thinned_points chain_fit
chain-fitted r pos s h =
    let n = length s / 3 in
    let square = square_not_negative r.tolerance in
    let ends = ends-kept (distance r) (r.tolerance ⊗ r.tolerance) square (point_at s) n h in
    let two = kept-some r s h in
    record {
      thinned = ap (map (point_at s)) ends;
      ascending = subst (Ascending 0 n) ends (kept_in_order (distance r) (r.tolerance ⊗ r.tolerance) square (point_at s) n);
      neighbours = left_out_near (distance r) (r.tolerance ⊗ r.tolerance) square (point_at s) n;
      fitted = range_fitted r pos (thinned_at r s) 0 (steps_of r s) (omega arith);
    }

-- One with no step gives no command.
pub no_commands : (r : Rule) (s : List Float) → length s / 3 < 2 → chain_fit r s ≡ []
no_commands r s h = none (chain_fit r s) (no_chain r s h 0 [] []).count
  where
    none : (cs : List Command) → 0 ≡ length cs → cs ≡ []
    none [] e = refl
    none (c ∷ cs) e = absurd (omega arith)

-- So each list of parts gives, in order, its kept commands and those of its chains,
pub parts_give : (r : Rule) → (+0 ≺ r.tolerance) ≡ true → (ps : List Part) → PartsGive r ps (fit_of (chain_fit r) ps)
unfolding fit_of flat part_fit
parts_give r pos [] = refl
parts_give r pos (chain s ∷ ps) =
    record {
      front = chain_fit r s;
      rest = flat (part_fit (chain_fit r)) ps;
      joined = refl;
      here = record { some = chain-fitted r pos s; none = no_commands r s };
      there = parts_give r pos ps;
    }
parts_give r pos (kept c ∷ ps) = record { front = c ∷ []; rest = flat (part_fit (chain_fit r)) ps; joined = refl; here = refl; there = parts_give r pos ps }

-- and so does a course, whatever its start and its commands.
pub course_gives : (r : Rule) → (+0 ≺ r.tolerance) ≡ true → (p : Point3D) (cs : List Command) → PartsGive r (parts_on r.tolerance p cs) (fit_on r p cs)
unfolding fit_on
course_gives r pos p cs = parts_give r pos (parts_on r.tolerance p cs)
