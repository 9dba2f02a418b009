-- `laps::lap_file::check_sizes` meets its contract: the most, and then the room. Assumes nothing.
use mathlib.Core.Path.{sym}
use Rattle.laps.proofs.Rows.{size_8, size_9, size_0}
use Rattle.laps.proofs.lap_file.check_sizes.Goals as goal

pub returns-then-most-gt-MOST_COMMANDS : goal.returns-then-most-gt-MOST_COMMANDS
returns-then-most-gt-MOST_COMMANDS c = sym (size_8 _ _ _ c.if-most-gt-MOST_COMMANDS.true)

pub returns-then-room-laps : goal.returns-then-room-laps
returns-then-room-laps c = sym (size_9 _ _ _ c.if-most-gt-MOST_COMMANDS.false c.if-room-laps.true)

pub returns : goal.returns
returns c = sym (size_0 _ _ _ c.if-most-gt-MOST_COMMANDS.false c.if-room-laps.false)
