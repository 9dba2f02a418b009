-- `file::command::write_command` meets its contract: by the case of the command, its kind and three points. Assumes nothing.
use Rattle.file.proofs.Stores.{wrote, enc-move, enc-line, enc-arc, enc_bezier}
use Rattle.file.proofs.command.write_command.Goals as goal

pub returns-in-Move : goal.returns-in-Move
returns-in-Move c = wrote c.args.c _ _ _ _ _ c.in-Move.is (enc-move _) c.put_points.ensures

pub returns-in-Line : goal.returns-in-Line
returns-in-Line c = wrote c.args.c _ _ _ _ _ c.in-Line.is (enc-line _) c.put_points-in-Line.ensures

pub returns-in-Arc : goal.returns-in-Arc
returns-in-Arc c = wrote c.args.c _ _ _ _ _ c.in-Arc.is (enc-arc _ _ _) c.put_points-in-Arc.ensures

pub returns-in-Bezier : goal.returns-in-Bezier
returns-in-Bezier c = wrote c.args.c _ _ _ _ _ c.in-Bezier.is (enc_bezier _ _ _) c.put_points-in-Bezier.ensures
