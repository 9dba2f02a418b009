-- `layout::Record::is_written` meets its contract: the numbers, and the bytes where these are written. Assumes nothing.
use mathlib.Core.Path.{refl, sym, ◌∙◌}
use native.Mathlib.Omega.{arith}
use Rattle.records.proofs.Lists.{numbers_there, bytes_there}
use Rattle.records.proofs.layout.Record.is_written.Goals as goal

pub returns-then-are_numbers_written : goal.returns-then-are_numbers_written
returns-then-are_numbers_written c =
    let r = c.args.self in
    let e = c.lent_size-numbers.ensures in
    let i = r.inside in
    rw (← e, sym (numbers_there r.body.now _ r.whole.head.written _ c.args.out.now refl (omega (arith, e, i))) ∙ sym c.are_numbers_written.ensures ∙ c.if-are_numbers_written.true)
    (c.are_bytes_written.ensures ∙ bytes_there r.body.now _ r.whole.head.stored _ c.args.bytes.now refl (omega (arith, e, i)))

pub returns-else-are_numbers_written : goal.returns-else-are_numbers_written
returns-else-are_numbers_written c =
    let r = c.args.self in
    let e = c.lent_size-numbers.ensures in
    let i = r.inside in
    rw (← e, sym (numbers_there r.body.now _ r.whole.head.written _ c.args.out.now refl (omega (arith, e, i))) ∙ sym c.are_numbers_written.ensures ∙ c.if-are_numbers_written.false) c.if-are_numbers_written.false
