-- `course::course::check_course` meets its contract: rows 1 to 6 by their check, then the most and the room. Assumes nothing.
use native.Mathlib.Omega.{arith}
use borrow.Author.Rules.{rules}
use mathlib.Core.Path.{◌≡◌, refl, sym, ◌∙◌}
use Rattle.std.specs.Prelude.{Err}
use Rattle.geo.proofs.Rows.{not_zero}
use Rattle.geo.proofs.Wrote.{number-positive}
use Rattle.course.specs.Course.{arcs_rows}
use Rattle.geo.proofs.Input.{input_refused, input_passed, input_accepted}
use Rattle.course.proofs.Accepted.{many_refused, kinds-refused, numbers-refused, room_passed}
use Rattle.course.proofs.course.check_course.Goals as goal

pub returns-in_err-check_input : goal.returns-in_err-check_input
unfolding arcs_rows
returns-in_err-check_input c = let a = c.args in
    let e : c.from_residual.result ≡ Err c.in_err-check_input.field-0.0 = search rules in
    rw e (input_refused a.kinds.now a.nums.now a.tolerance a.out_nums _ c.in_err-check_input.ensures _ (not_zero _ (number-positive _)))

pub invariant_of-commands : goal.invariant_of-commands
invariant_of-commands c = let a = c.args in let r = (input_accepted a.kinds.now a.nums.now a.tolerance a.out_nums _ c.in_ok-check_input.ensures refl).0 in record { whole = omega (arith, r) }

pub returns-then-most-gt-MOST : goal.returns-then-most-gt-MOST
unfolding arcs_rows
returns-then-most-gt-MOST c = let a = c.args in many_refused _ a.out_kinds a.out_nums _ c.course_most-most.ensures c.if-most-gt-MOST.true ∙ sym (input_passed a.kinds.now a.nums.now a.tolerance a.out_nums _ c.in_ok-check_input.ensures refl _)

pub returns-then-out_kinds-most : goal.returns-then-out_kinds-most
unfolding arcs_rows
returns-then-out_kinds-most c = let a = c.args in kinds-refused _ a.out_kinds a.out_nums _ c.course_most-most.ensures c.if-most-gt-MOST.false c.if-out_kinds-most.true ∙ sym (input_passed a.kinds.now a.nums.now a.tolerance a.out_nums _ c.in_ok-check_input.ensures refl _)

pub returns-then-out_nums-most : goal.returns-then-out_nums-most
unfolding arcs_rows
returns-then-out_nums-most c = let a = c.args in numbers-refused _ a.out_kinds a.out_nums _ c.course_most-most.ensures c.if-most-gt-MOST.false c.if-out_kinds-most.false c.if-out_nums-most.true ∙ sym (input_passed a.kinds.now a.nums.now a.tolerance a.out_nums _ c.in_ok-check_input.ensures refl _)

pub returns : goal.returns
unfolding arcs_rows
returns c = let a = c.args in room_passed _ a.out_kinds a.out_nums _ c.course_most-most.ensures c.if-most-gt-MOST.false c.if-out_kinds-most.false c.if-out_nums-most.false ∙ sym (input_passed a.kinds.now a.nums.now a.tolerance a.out_nums _ c.in_ok-check_input.ensures refl _)
