-- `lap_rows::lap_rows::list_file` meets its contract: a refusal is the table's, and what passed it is what `list_laps` asks. Assumes nothing.
use Rattle.std.proofs.Common.{rules}
use Rattle.geo.proofs.Tolerance.{tolerance-positive}
use Rattle.geo.proofs.Wrote.{wrote-refused}
use Rattle.laps.proofs.Rows.{wrote-bytes}
use Rattle.laps.proofs.Walks.{not_big}
use Rattle.lap_rows.specs.Listing.{list_file}
use Rattle.lap_rows.proofs.Rows.{text_passed}
use Rattle.lap_rows.proofs.lap_rows.list_file.Goals as goal

pub returns-in_err-file : goal.returns-in_err-file
unfolding list_file
returns-in_err-file c = wrote-refused _ _ c.in_err-file.ensures.row _ _ _ _ (search rules)

pub list_laps-requires : goal.list_laps-requires
list_laps-requires c = let a = c.args in let p = text_passed a.recorded.now a.tolerance _ c.in_ok-file.ensures.row in
    rw c.in_ok-file.ensures.same (tolerance-positive a.tolerance p.within, (not_big a.recorded.now p.file.small).1, p.few, p.space)

pub returns : goal.returns
unfolding list_file
returns c = wrote-bytes _ c.in_ok-file.ensures.row _ _ _ _ (rw c.in_ok-file.ensures.same at c.list_laps.ensures)
