-- `file::command::put_points` meets its contract: the kind, and three points behind it. Assumes nothing.
use native.Mathlib.Omega.{arith}
use lib.ListN.{length-set}
use Rattle.file.proofs.Stores.{points}
use Rattle.file.proofs.command.put_points.Goals as goal

pub put_point-requires : goal.put_point-requires
put_point-requires c = simp length-set (omega arith)

pub put_point-requires-2 : goal.put_point-requires-2
put_point-requires-2 c = omega (arith, simp length-set at c.put_point.auto.out)

pub put_point-requires-3 : goal.put_point-requires-3
put_point-requires-3 c = omega (arith, simp length-set at c.put_point.auto.out)

pub shape_of-out : goal.shape_of-out
shape_of-out c = omega (arith, simp length-set at c.put_point.auto.out)

pub returns : goal.returns
returns c = let a = c.args in points a.out.now _ _ _ a.at a.kind a.p a.q a.r c.put_point.ensures c.put_point-2.ensures c.put_point-3.ensures
