-- `file::command::Encoded::read` meets its contract: a kind, its end, and two points more where the kind has them. Assumes nothing.
use mathlib.Core.Path.{◌∙◌}
use Rattle.file.specs.Command.{decoded}
use Rattle.file.proofs.Blank.{end-alone}
use Rattle.file.proofs.command.Encoded.read.Goals as goal

pub returns-then-s-lt2 : goal.returns-then-s-lt2
unfolding decoded
returns-then-s-lt2 c = rw (← c.point_from-p.ensures) (c.make_command.ensures ∙ end-alone _ _ _ _ _ _ c.if-s-lt2.true)

pub returns : goal.returns
unfolding decoded
returns c = rw (← c.point_from-p.ensures) c.curve.ensures
