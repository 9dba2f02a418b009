-- `lapfit::print_input` meets its contract: the listing stands in the buffer, or the line of the refusal is written there. Assumes nothing.
use native.Mathlib.Omega.{arith}
use Rattle.printing.proofs.Printed.{answer_printed}
use Rattle.lapfit.proofs.Printed.{as_printed}
use Rattle.lapfit.proofs.print_input.Goals as goal

pub returns : goal.returns
returns c = let a = c.args in
    let p = as_printed a.input.now a.out.now _ _ c.requires (answer_printed _ a.out.now _ _ _ _ (omega (arith, c.requires)) c.list_input.ensures c.print_answer.ensures.given c.print_answer.ensures.refused) in
    record { count = p.0; text = p.1 }
