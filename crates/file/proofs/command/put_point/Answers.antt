-- `file::command::put_point` meets its contract: three numbers, one behind the other. Assumes nothing.
use Rattle.file.proofs.Stores.{three}
use Rattle.file.proofs.command.put_point.Goals as goal

pub returns : goal.returns
returns c = let a = c.args in three a.out.now _ _ _ a.at a.p c.put_f64.ensures c.put_f64-2.ensures c.put_f64-3.ensures
