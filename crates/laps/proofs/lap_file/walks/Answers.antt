-- `laps::lap_file::walks` meets its contract: the entries that are left decide the whole answer, and the commands so far bound every sum. The measure is how many entries are left. Assumes nothing.
use native.Mathlib.Omega.{arith}
use native.Mathlib.Nat.{sub-zero}
use Rattle.laps.proofs.Walks.{walk_gap, walk_none, walk_many, walk_go, walk_end}
use Rattle.laps.proofs.lap_file.walks.Goals as goal

pub loop-j-init : goal.loop-j-init
loop-j-init c = (omega arith, omega arith, omega arith, rw sub-zero)

pub returns-then-offset_at-at : goal.returns-then-offset_at-at
returns-then-offset_at-at c = let a = c.args in let l = c.loop-j in walk_gap a.s.now l.j l.at l.total a.l _ c.loop-j-test.true _ c.offset_at.ensures.0 l.invariant.3 c.if-offset_at-at.true

pub returns-then-n-eq0 : goal.returns-then-n-eq0
returns-then-n-eq0 c = let a = c.args in let l = c.loop-j in walk_none a.s.now l.j l.at l.total a.l _ c.loop-j-test.true _ c.offset_at.ensures.0 l.invariant.3 c.if-offset_at-at.false _ c.count_at-n.ensures.0 c.if-n-eq0.true

pub returns-then-total-n-gt-MOST_COMMANDS : goal.returns-then-total-n-gt-MOST_COMMANDS
returns-then-total-n-gt-MOST_COMMANDS c = let a = c.args in let l = c.loop-j in walk_many a.s.now l.j l.at l.total a.l _ c.loop-j-test.true _ c.offset_at.ensures.0 l.invariant.3 c.if-offset_at-at.false _ c.count_at-n.ensures.0 c.if-n-eq0.false c.if-total-n-gt-MOST_COMMANDS.true

pub loop-j-preserved : goal.loop-j-preserved
loop-j-preserved c = let a = c.args in let l = c.loop-j in (omega arith, omega arith, omega arith, walk_go a.s.now l.j l.at l.total a.l _ c.loop-j-test.true _ c.offset_at.ensures.0 l.invariant.3 c.if-offset_at-at.false _ c.count_at-n.ensures.0 c.if-n-eq0.false c.if-total-n-gt-MOST_COMMANDS.false)

pub returns : goal.returns
returns c = let a = c.args in let l = c.loop-j in walk_end a.s.now l.j l.at l.total a.l _ c.loop-j-test.false l.invariant.3
