-- `lap_fit::fit::fit_lap` meets its contract: what was read into the arrays are the commands of the lap. Assumes nothing.
use mathlib.Core.Path.{ap}
use native.Mathlib.Omega.{arith}
use lib.ListN.{length}
use Rattle.lap_fit.proofs.Arrays.{most-read, fit-read, put_same}
use Rattle.lap_fit.proofs.fit.fit_lap.Goals as goal

pub fit_lent-requires : goal.fit_lent-requires
fit_lent-requires c = let a = c.args in let l = a.lap.body in let p = c.requires in let r = c.read_commands.ensures in
    let z = most-read l.bytes.now l.at l.count _ _ _ _ (omega (arith, p)) (omega (arith, p)) r.kinds r.numbers a.rule.rule a.lap.start in
    let w = ap length (fit-read l.bytes.now l.at l.count _ _ _ _ (omega (arith, p)) (omega (arith, p)) r.kinds r.numbers a.rule.rule a.lap.start) in
    (omega arith, omega arith, omega arith, omega (arith, p.1))

pub returns : goal.returns
returns c = let a = c.args in let l = a.lap.body in let p = c.requires in let r = c.read_commands.ensures in
    put_same _ _ _ _ _ _ (fit-read l.bytes.now l.at l.count _ _ _ _ (omega (arith, p)) (omega (arith, p)) r.kinds r.numbers a.rule.rule a.lap.start) c.fit_lent.ensures
