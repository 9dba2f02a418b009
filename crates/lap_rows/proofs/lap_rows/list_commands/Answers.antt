-- `lap_rows::lap_rows::list_commands` meets its contract: what was read into the arrays are the commands of the lap, and the rows are what their fit notes. Assumes nothing.
use mathlib.Core.Path.{refl, ap}
use native.Mathlib.Omega.{arith}
use Rattle.pieces.specs.Pieces.{laps_rule}
use Rattle.listing.specs.Rows.{rows_on}
use Rattle.listing.proofs.Noted.{rows-placed}
use Rattle.lap_fit.proofs.Arrays.{long_kinds, long_numbers, read_back, most-read}
use Rattle.lap_rows.specs.Listing.{lap_rows}
use Rattle.lap_text.proofs.Lines.{placed_same}
use Rattle.lap_rows.proofs.lap_rows.list_commands.Goals as goal

pub invariant_of-rule : goal.invariant_of-rule
invariant_of-rule c = record { positive = rw c.of_laps.ensures c.requires.0 }

pub fit_course_with_steps-requires : goal.fit_course_with_steps-requires
fit_course_with_steps-requires c = let a = c.args in let l = a.lap.body in let p = c.requires in let r = c.read_commands.ensures in
    let x = long_kinds l.bytes.now l.at l.count _ _ _ _ (omega (arith, p)) (omega (arith, p)) r.kinds r.numbers in
    let y = long_numbers l.bytes.now l.at l.count _ _ _ _ (omega (arith, p)) (omega (arith, p)) r.kinds r.numbers in
    let z = most-read l.bytes.now l.at l.count _ _ _ _ (omega (arith, p)) (omega (arith, p)) r.kinds r.numbers (laps_rule a.tolerance) a.lap.start in
    rw c.of_laps.ensures (omega (arith, p.1), omega (arith, p.1), omega (arith, p.1))

pub returns-clause-rows : goal.returns-clause-rows
unfolding lap_rows
returns-clause-rows c = let a = c.args in let l = a.lap.body in let p = c.requires in let r = c.read_commands.ensures in
    placed_same _ _ _ _ _ _ _ (ap (rows_on (laps_rule a.tolerance) a.lap.start) (read_back l.bytes.now l.at l.count _ _ _ _ (omega (arith, p)) (omega (arith, p)) r.kinds r.numbers)) (rows-placed (laps_rule a.tolerance) refl a.lap.start _ _ _ _ _ _ _ _ (rw c.of_laps.ensures at c.fit_course_with_steps.ensures))
