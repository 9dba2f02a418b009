-- `lap_session::session::check_asking` meets its contract: rows 1 to 7, and then the sizes by the most that is told. Assumes nothing.
use Rattle.std.proofs.Common.{rules}
use native.Mathlib.Omega.{arith}
use Rattle.laps.specs.File.{laps_of}
use Rattle.laps.proofs.Rows.{refused_on}
use Rattle.lap_fit.proofs.Cap.{cap_small}
use Rattle.lap_checks.specs.Checks.{lent_new}
use Rattle.lap_checks.proofs.Rows.{new_passed}
use Rattle.lap_session.proofs.Rows.{ask_refused, ask_8, ask_9, ask_0}
use Rattle.lap_session.proofs.session.check_asking.Goals as goal

pub returns-in_err-found-clause-row : goal.returns-in_err-found-clause-row
returns-in_err-found-clause-row c = let a = c.args.given in let s = a.files.recorded.now in let f = a.files.fitted.now in refused_on _ _ _ (search rules) (ask_refused s f a.lap (lent_new a.tolerance (laps_of s) a.lap a.kinds.now a.nums.now) a.tolerance c.args.room _ c.in_err-found.ensures.row)

pub returns-then-found-gt-MOST_COMMANDS-clause-row : goal.returns-then-found-gt-MOST_COMMANDS-clause-row
returns-then-found-gt-MOST_COMMANDS-clause-row c = let a = c.args.given in let s = a.files.recorded.now in let f = a.files.fitted.now in let w = c.in_ok-found.ensures in let p = new_passed s f a.lap (lent_new a.tolerance (laps_of s) a.lap a.kinds.now a.nums.now) a.tolerance w.row in
    ask_8 s f a.lap (lent_new a.tolerance (laps_of s) a.lap a.kinds.now a.nums.now) a.tolerance c.args.room p _ _ w.counts.0 w.counts.1 c.if-found-gt-MOST_COMMANDS.true

pub overflow_mul-found : goal.overflow_mul-found
overflow_mul-found c = let m = cap_small _ _ c.in_ok-found.ensures.counts.0 in omega (arith, m)

pub returns-then-room-found-clause-row : goal.returns-then-room-found-clause-row
returns-then-room-found-clause-row c = let a = c.args.given in let s = a.files.recorded.now in let f = a.files.fitted.now in let w = c.in_ok-found.ensures in let p = new_passed s f a.lap (lent_new a.tolerance (laps_of s) a.lap a.kinds.now a.nums.now) a.tolerance w.row in
    ask_9 s f a.lap (lent_new a.tolerance (laps_of s) a.lap a.kinds.now a.nums.now) a.tolerance c.args.room p _ _ w.counts.0 w.counts.1 c.if-found-gt-MOST_COMMANDS.false c.if-room-found.true

pub returns-clause-row : goal.returns-clause-row
returns-clause-row c = let a = c.args.given in let s = a.files.recorded.now in let f = a.files.fitted.now in let w = c.in_ok-found.ensures in let p = new_passed s f a.lap (lent_new a.tolerance (laps_of s) a.lap a.kinds.now a.nums.now) a.tolerance w.row in
    ask_0 s f a.lap (lent_new a.tolerance (laps_of s) a.lap a.kinds.now a.nums.now) a.tolerance c.args.room p _ _ w.counts.0 w.counts.1 c.if-found-gt-MOST_COMMANDS.false c.if-room-found.false
