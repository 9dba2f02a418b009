-- `records::are_bytes_written` meets its contract: two stretches of bytes are equal where each byte is. Assumes nothing.
use mathlib.Core.Path.{◌∙◌}
use Rattle.records.proofs.Lists.{same_bytes}
use Rattle.records.proofs.are_bytes_written.Goals as goal

pub returns : goal.returns
returns c = c.eq.ensures ∙ same_bytes c.args.bytes.now c.args.s.now c.requires
