-- The rows of a course: what passed, and what an accepted call answers and leaves. Assumes nothing.
use Prim.Native.Nat.{ℕ, ◌*◌, ◌/◌, ◌≤◌, ◌<◌}
use mathlib.Core.Path.{◌≡◌, ap, ◌∙◌}
use mathlib.Core.Bool.{true}
use mathlib.Core.List.{List}
use native.Mathlib.Omega.{arith}
use borrow.Author.Tests.{ltb-false, eqb-true, not-false, lt-ltb, le-ltb}
use lib.ListN.{length}
use lib.Ieee.{Float}
use Rattle.floats.specs.Ops.{◌≺◌, +0}
use Rattle.geo.specs.declared.types.Point3D.{Point3D}
use Rattle.geo.specs.declared.types.Command.{Command}
use Rattle.std.specs.Prelude.{Ok}
use Rattle.geo.specs.Outcome.{refusal}
use Rattle.geo.specs.Wrote.{WroteCommands}
use Rattle.geo.specs.Lent.{origin, numbers_of}
use Rattle.geo.proofs.Rows.{row_passed}
use Rattle.geo.proofs.Tolerance.{tolerance-positive}
use Rattle.geo.proofs.Wrote.{commands-given}
use Rattle.geo.proofs.Wrote.{nine}
use Rattle.geo.proofs.Flat.{flat_length}
use Rattle.pieces.specs.declared.pieces.Rule.{Rule}
use Rattle.pieces.specs.Pieces.{laps_rule}
use Rattle.pieces.specs.Commands.{chain_fit}
use Rattle.pieces.specs.Written.{FitPlaced, commands_of, chain_noted}
use Rattle.pieces.proofs.Writing.{commands_length}
use Rattle.ranges.proofs.Chain.{chain-noted}
use Rattle.chain.specs.Chains.{cap}
use Rattle.chain.proofs.Count.{cap_passed, cap-over}
use Rattle.chain.proofs.Parts.{noted-few, parts-commands}
use Rattle.chain.proofs.Stepping.{chain-few}
use Rattle.course.specs.Course.{parts_on, fit_on, most_on, course_fit, course_most, lent_course, room_rows, arcs_rows, arcs_call}
use Rattle.course.specs.Walks.{noted_on}

-- what is noted beside the commands of a course does not change them
pub course_commands : (r : Rule) (p : Point3D) (cs : List Command) → commands_of (noted_on r p cs) ≡ fit_on r p cs
unfolding noted_on fit_on
course_commands r p cs = parts-commands (chain_noted r) (chain_fit r) (chain-noted r) (parts_on r.tolerance p cs)

-- what is written of a course is at most its most
noted_course_few : (r : Rule) → (+0 ≺ r.tolerance) ≡ true → (p : Point3D) (cs : List Command) → length (noted_on r p cs) ≤ most_on r.tolerance p cs
unfolding noted_on most_on
noted_course_few r pos p cs = noted-few (chain_noted r) (chain-few r pos) (parts_on r.tolerance p cs)

pub course_few : (r : Rule) → (+0 ≺ r.tolerance) ≡ true → (p : Point3D) (cs : List Command) → length (fit_on r p cs) ≤ most_on r.tolerance p cs
course_few r pos p cs = let a = noted_course_few r pos p cs in let l = commands_length (noted_on r p cs) in let e = ap length (course_commands r p cs) in omega arith

-- ---- rows 8 and 9, m being the most as it was counted
module _ (most kinds numbers m : ℕ) (e : m ≡ cap most) where
  pub many_refused : 800 < m → 8 ≡ refusal (room_rows most kinds numbers)
  unfolding room_rows refusal
  many_refused h = rw (lt-ltb 800 most (cap-over most (omega arith)))

  module _ (h : m ≤ 800) where
    is-most : m ≡ most
    is-most = e ∙ cap_passed most (omega arith)

    pub kinds-refused : kinds < m → 9 ≡ refusal (room_rows most kinds numbers)
    unfolding room_rows refusal
    kinds-refused k = let i = is-most in rw (le-ltb 800 most (omega arith), lt-ltb kinds most (omega arith))

    pub numbers-refused : m ≤ kinds → numbers / 9 < m → 9 ≡ refusal (room_rows most kinds numbers)
    unfolding room_rows refusal
    numbers-refused k n = let i = is-most in rw (le-ltb 800 most (omega arith), le-ltb kinds most (omega arith), lt-ltb (numbers / 9) most (omega arith))

    pub room_passed : m ≤ kinds → m ≤ numbers / 9 → 0 ≡ refusal (room_rows most kinds numbers)
    unfolding room_rows refusal
    room_passed k n = let i = is-most in rw (le-ltb 800 most (omega arith), le-ltb kinds most (omega arith), le-ltb (numbers / 9) most (omega arith))

-- ---- what an accepted course knows, answers and leaves
module _ (ks : List ℕ) (ns : List Float) (tol : Float) (kinds numbers : ℕ) (z : 0 ≡ refusal (arcs_rows ks ns tol kinds numbers)) where
  pub record Accepted : Type 0 where
    pub nine-each : length ns ≡ 9 * length ks
    pub above_zero : (+0 ≺ tol) ≡ true
    pub not_many : course_most tol (lent_course ks ns) ≤ 800
    pub room-kinds : course_most tol (lent_course ks ns) ≤ kinds
    pub room-numbers : course_most tol (lent_course ks ns) ≤ numbers / 9

  pub arcs_accepted : Accepted
  unfolding arcs_rows room_rows
  arcs_accepted =
      let a = row_passed 0 _ _ z in
      let b = row_passed 0 _ _ a.1 in
      let c = row_passed 1 _ _ b.1 in
      let d = row_passed 3 _ _ c.1 in
      let f = row_passed 4 _ _ d.1 in
      let g = row_passed 5 _ _ f.1 in
      let h = row_passed 7 _ _ g.1 in
      let i = row_passed 8 _ _ h.1 in
      let j = row_passed 8 _ _ i.1 in
      record {
        nine-each = eqb-true _ _ (not-false _ a.0);
        above_zero = tolerance-positive tol (not-false _ g.0);
        not_many = ltb-false _ _ h.0;
        room-kinds = ltb-false _ _ i.0;
        room-numbers = ltb-false _ _ j.0;
      }

pub wrote_arcs : (ks : List ℕ) (ns : List Float) (tol : Float) (oks oks' : List ℕ) (ons ons' : List Float) (k : ℕ)
    → 0 ≡ refusal (arcs_rows ks ns tol (length oks) (length ons)) → FitPlaced (course_fit (laps_rule tol) (lent_course ks ns)) 0 k oks oks' ons ons'
    → WroteCommands (arcs_call ks ns tol (length oks) (length ons)) oks oks' ons ons' (Ok k)
unfolding arcs_call
wrote_arcs ks ns tol oks oks' ons ons' k z p =
    let xs = course_fit (laps_rule tol) (lent_course ks ns) in
    let a = arcs_accepted ks ns tol (length oks) (length ons) z in
    let l = course_few (laps_rule tol) a.above_zero origin (lent_course ks ns) in
    let b = a.room-kinds in
    let c = a.room-numbers in
    commands-given _ z xs oks oks' ons ons' k p.count (omega arith) (omega (arith, flat_length numbers_of 9 nine xs)) p.kinds p.numbers
