-- `lapsvg::print_input` meets its contract: the file stands in the buffer, or the line of the refusal is written there. Assumes nothing.
use native.Mathlib.Omega.{arith}
use Rattle.printing.proofs.Printed.{answer_printed}
use Rattle.lapsvg.proofs.Printed.{as_printed}
use Rattle.lapsvg.proofs.print_input.Goals as goal

pub returns : goal.returns
returns c = let a = c.args in
    let p = as_printed a.input.now a.out.now _ _ c.requires (answer_printed _ a.out.now _ _ _ _ (omega (arith, c.requires)) c.read_course.ensures c.print_answer.ensures.given c.print_answer.ensures.refused) in
    record { count = p.0; bytes = p.1 }
