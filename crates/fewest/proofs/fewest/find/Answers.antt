-- `fewest::fewest::find` meets its contract: the search is the whole search, from arrays in which the first point alone is reached. Assumes nothing.
use mathlib.Core.Path.{sym, ◌∙◌}
use native.Mathlib.Omega.{arith}
use Rattle.ways.proofs.Told.{is_arrived}
use Rattle.fewest.specs.Search.{state_of}
use Rattle.fewest.proofs.Search.{run-task, run-state}
use Rattle.fewest.proofs.Whole.{whole_below, whole-within, gave_found, gave_cut}
use Rattle.fewest.proofs.fewest.find.Goals as goal

pub overflow_add-bound : goal.overflow_add-bound
overflow_add-bound c = let t = c.args.task in let p = c.requires in let s = c.run.new.self in
    omega (arith, whole_below t.points.now t.tolerance t.budget t.positive (omega (arith, p)) (omega (arith, p, t.few)) (state_of s) (rw p.0 at (run-state _ _ s c.new-s.ensures c.run.ensures)), p, t.few)

pub trace-requires : goal.trace-requires
trace-requires c = let t = c.args.task in let p = c.requires in let s = c.run.new.self in
    let e = rw p.0 at (run-state _ _ s c.new-s.ensures c.run.ensures) in (
      omega (arith, whole_below t.points.now t.tolerance t.budget t.positive (omega (arith, p)) (omega (arith, p, t.few)) (state_of s) e, p),
      rw (run-task _ _ s c.new-s.ensures c.run.ensures, p.0) (whole-within t.points.now t.tolerance t.budget t.positive (omega (arith, p)) (omega (arith, p, t.few)) (state_of s) e),
    )

pub returns-then-eq : goal.returns-then-eq
returns-then-eq c = let t = c.args.task in let p = c.requires in let s = c.run.new.self in
    gave_found t.points.now t.tolerance t.budget t.positive (omega (arith, p)) (omega (arith, p, t.few)) (state_of s) (rw p.0 at (run-state _ _ s c.new-s.ensures c.run.ensures)) _ _
    (sym (is_arrived _) ∙ sym c.eq.ensures ∙ c.if-eq.true) (rw (run-task _ _ s c.new-s.ensures c.run.ensures, p.0) at c.trace.ensures)

pub returns-else-eq : goal.returns-else-eq
returns-else-eq c = let t = c.args.task in let p = c.requires in let s = c.run.new.self in
    gave_cut t.points.now t.tolerance t.budget t.positive (omega (arith, p)) (omega (arith, p, t.few)) (state_of s) (rw p.0 at (run-state _ _ s c.new-s.ensures c.run.ensures)) _ _ _
    (sym (is_arrived _) ∙ sym c.eq.ensures ∙ c.if-eq.false) (rw p.0 at c.cut-count.ensures)
