-- `file::command::Encoded::read_to` meets its contract: by the kind; what is put is the command that the bytes are. Assumes nothing.
use Prim.Native.Nat.{◌*◌}
use mathlib.Core.Path.{ap, ◌∙◌}
use lib.ListN.{set}
use lib.Seq.{sets}
use Rattle.geo.specs.declared.types.Command.{Command}
use Rattle.geo.specs.Lent.{kind_of, numbers_of}
use Rattle.file.proofs.Blank.{a_move, a_line}
use Rattle.file.proofs.command.Encoded.read_to.Goals as goal

pub returns-in-0 : goal.returns-in-0
returns-in-0 c = let a = c.args in let e = a_move a.self.bytes.now _ c.in-0.is c.point_from.ensures in record { kinds = c.put_command.ensures.kinds ∙ ap (λ (x : Command). set a.kinds.now a.i (kind_of x)) e; numbers = c.put_command.ensures.numbers ∙ ap (λ (x : Command). sets a.nums.now (9 * a.i) (numbers_of x)) e }

pub returns-in-1 : goal.returns-in-1
returns-in-1 c = let a = c.args in let e = a_line a.self.bytes.now _ c.in-1.is c.point_from-in-1.ensures in record { kinds = c.put_command-in-1.ensures.kinds ∙ ap (λ (x : Command). set a.kinds.now a.i (kind_of x)) e; numbers = c.put_command-in-1.ensures.numbers ∙ ap (λ (x : Command). sets a.nums.now (9 * a.i) (numbers_of x)) e }

pub returns-in_default : goal.returns-in_default
returns-in_default c = let a = c.args in let e = c.read.ensures in record { kinds = c.put_command-in_default.ensures.kinds ∙ ap (λ (x : Command). set a.kinds.now a.i (kind_of x)) e; numbers = c.put_command-in_default.ensures.numbers ∙ ap (λ (x : Command). sets a.nums.now (9 * a.i) (numbers_of x)) e }
