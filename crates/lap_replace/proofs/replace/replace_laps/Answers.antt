-- `lap_replace::replace::replace_laps` meets its contract: the buffer holds both laps as they are fitted again, and they are put in their places. Assumes nothing.
use native.Mathlib.Omega.{arith}
use Rattle.laps.specs.File.{laps_of}
use Rattle.lap_swap.proofs.Body.{both-few, as_replaced}
use Rattle.lap_replace.proofs.Most.{own_in, most_in}
use Rattle.lap_replace.proofs.replace.replace_laps.Goals as goal

pub fit_both-fit-requires : goal.fit_both-fit-requires
fit_both-fit-requires g c = let a = c.args in let p = c.requires in let o = own_in a.rule.rule a.rule.positive a.found.files.recorded.bytes.now a.found.files.fitted.bytes.now a.k a.found.commands.kinds.now a.found.commands.nums.now in (p.0, p.1, omega (arith, o, p.2), omega (arith, p.4, p.5))

pub invariant_of-part : goal.invariant_of-part
invariant_of-part g c = let a = c.args in let p = c.requires in let o = own_in a.rule.rule a.rule.positive a.found.files.recorded.bytes.now a.found.files.fitted.bytes.now a.k a.found.commands.kinds.now a.found.commands.nums.now in let b = both-few a.rule.rule (laps_of a.found.files.recorded.bytes.now) a.k a.found.commands.kinds.now a.found.commands.nums.now a.rule.positive in let put = c.fit_both-fit.ensures in let n = put.count in let m = put.behind in
    record { inside = omega (arith, n, m, b, o, p.2, c.fit_both-fit.auto) }

pub put_part-requires : goal.put_part-requires
put_part-requires g c = let a = c.args in let p = c.requires in let z = as_replaced a.rule.rule a.found.files.recorded.bytes.now a.found.files.fitted.bytes.now a.k a.found.commands.kinds.now a.found.commands.nums.now _ _ _ _ c.fit_both-fit.ensures in let w = most_in a.rule.rule a.rule.positive a.found.files.recorded.bytes.now a.found.files.fitted.bytes.now a.k a.found.commands.kinds.now a.found.commands.nums.now p.0 in (p.0, rw z (omega (arith, w, p.2)), rw z (omega (arith, w, p.3)))

pub returns : goal.returns
returns g c = let a = c.args in let z = as_replaced a.rule.rule a.found.files.recorded.bytes.now a.found.files.fitted.bytes.now a.k a.found.commands.kinds.now a.found.commands.nums.now _ _ _ _ c.fit_both-fit.ensures in rw z at c.put_part.ensures
