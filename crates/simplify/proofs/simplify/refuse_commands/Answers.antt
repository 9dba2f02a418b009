-- `simplify::simplify::refuse_commands` meets its contract: rows 1 to 6 by their check, then the room. Assumes nothing.
use Rattle.std.specs.Prelude.{Result, Err}
use Rattle.std.proofs.Common.{rules}
use mathlib.Core.List.{List, ◌++◌}
use mathlib.Core.Path.{◌≡◌, refl, sym, ◌∙◌}
use native.Mathlib.Omega.{arith}
use borrow.Author.Tests.{lt-ltb, le-ltb}
use Rattle.geo.specs.declared.refusal.Refusal.{Refusal}
use Rattle.geo.specs.Commands.{input_rows}
use Rattle.geo.specs.Outcome.{Row, refusal}
use Rattle.geo.specs.Refusal.{number, refused_by}
use Rattle.geo.proofs.Rows.{refusal-front, row_fails, row-passes, done}
use Rattle.geo.proofs.Wrote.{number-positive}
use Rattle.geo.proofs.Input.{input_passed}
use Rattle.simplify.proofs.simplify.refuse_commands.Goals as goal

-- what the check refuses is refused by the same number, whatever rows come later
refused-early : (rs ts : List Row) (cause : Refusal) → number cause ≡ refusal rs → (r : Result (Unit {0}) Refusal) → r ≡ Err cause → refused_by r ≡ refusal (rs ++ ts)
refused-early rs ts cause e r h = rw h (e ∙ refusal-front rs ts (omega (arith, e, number-positive cause)))

pub returns-in_err-check_input : goal.returns-in_err-check_input
returns-in_err-check_input c = let a = c.args in
    refused-early (input_rows a.kinds.now a.nums.now a.tolerance a.out_nums) _ _ c.in_err-check_input.ensures _ (search rules)

pub returns-then-out_kinds-n : goal.returns-then-out_kinds-n
returns-then-out_kinds-n c = let a = c.args in
    sym (input_passed a.kinds.now a.nums.now a.tolerance a.out_nums 0 c.in_ok-check_input.ensures refl _ ∙ row_fails 9 _ _ (lt-ltb _ _ c.if-out_kinds-n.true))

pub returns-then-out_nums-n : goal.returns-then-out_nums-n
returns-then-out_nums-n c = let a = c.args in
    sym (input_passed a.kinds.now a.nums.now a.tolerance a.out_nums 0 c.in_ok-check_input.ensures refl _ ∙ row-passes 9 _ _ (le-ltb _ _ c.if-out_kinds-n.false) ∙ row_fails 9 _ _ (lt-ltb _ _ c.if-out_nums-n.true))

pub returns : goal.returns
returns c = let a = c.args in
    sym (input_passed a.kinds.now a.nums.now a.tolerance a.out_nums 0 c.in_ok-check_input.ensures refl _ ∙ row-passes 9 _ _ (le-ltb _ _ c.if-out_kinds-n.false) ∙ row-passes 9 _ _ (le-ltb _ _ c.if-out_nums-n.false) ∙ done)
