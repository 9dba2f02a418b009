-- The laps that a replacement fits again, and its whole file, have no more commands than the most that its rows count. Assumes nothing.
use Prim.Native.Nat.{ℕ, ◌≤◌}
use mathlib.Core.Path.{◌≡◌}
use mathlib.Core.Bool.{true}
use mathlib.Core.List.{List}
use native.Mathlib.Omega.{arith}
use lib.Ieee.{Float}
use Rattle.floats.specs.Ops.{◌≺◌, +0}
use Rattle.pieces.specs.declared.pieces.Rule.{Rule}
use Rattle.course.specs.Course.{lent_course}
use Rattle.laps.specs.File.{laps_of, command_count}
use Rattle.lap_swap.specs.Swap.{next_lacks, most_both, new_fit, next_fit, replaced_laps}
use Rattle.lap_checks.specs.Checks.{lent_new, most_with}
use Rattle.lap_swap.proofs.Body.{both-few}
use Rattle.lap_swap.proofs.Replaced.{total_both}

module _ (r : Rule) (pos : (+0 ≺ r.tolerance) ≡ true) (s f : List ℕ) (k : ℕ) (ks : List ℕ) (ns : List Float) where
  pub own_in : most_both r.tolerance (laps_of s) k (lent_course ks ns) ≤ most_with (lent_new r.tolerance (laps_of s) k ks ns) k s f
  unfolding most_with
  own_in = omega arith

  pub most_in : 1 ≤ k → command_count (replaced_laps r k ks ns (laps_of s) (laps_of f)) ≤ most_with (lent_new r.tolerance (laps_of s) k ks ns) k s f
  unfolding most_with replaced_laps
  most_in h =
      let a = both-few r (laps_of s) k ks ns pos in
      let c = total_both (next_lacks k (laps_of s)) k (new_fit r (laps_of s) k ks ns) (next_fit r (laps_of s) k ks ns) (laps_of f) h in omega (arith, a, c)
