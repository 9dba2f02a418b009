-- `chain::chain::Walker::take` meets its contract: by the kind of the command. Assumes nothing.
use native.Mathlib.Omega.{arith}
use mathlib.Core.Path.{refl, sym, ◌∙◌, subst}
use lib.ListN.{length}
use Rattle.floats.specs.Ops.{◌⊗◌}
use Rattle.geo.specs.declared.types.Command.{Command}
use Rattle.geo.specs.Lent.{triple, flat}
use Rattle.bezier.specs.Linearize.{step_end, param_steps}
use Rattle.chain.specs.Parts.{Join, ends}
use Rattle.floats.specs.Limits.{quarter}
use Rattle.chain.specs.Chains.{joined_by, flushed_by, Room}
use Rattle.chain.proofs.Steps.{ends_length}
use Rattle.chain.proofs.Stepping.{adds-room, line_joins, bezier_joins, bezier_ends, move-ends, arc-ends, line-end, bezier_end, stepped_as, stepped_of, stepped_adds}
use Rattle.chain.proofs.chain.Walker.take.Goals as goal

pub add_line-requires : goal.add_line-requires
add_line-requires c = let a = c.args in
    let r = adds-room a.c a.self.now.at a.self.now.chain.now _ _ (triple c.in-Line.end) 1 (joined_by a.self.now.how a.self.now.rule.rule.tolerance a.self.now.at.last a.c) (line_joins _ _ _ a.self.now.how _ c.in-Line.is) refl c.requires in
    let b = c.requires.buffer in (omega (arith, r), omega (arith, r, b))

pub add_bezier-requires : goal.add_bezier-requires
add_bezier-requires c = let a = c.args in
    let xs = param_steps c.in-Bezier.end c.in-Bezier.control1 c.in-Bezier.control2 a.self.now.at.last (a.self.now.rule.rule.tolerance ⊗ quarter) in
    let r = adds-room a.c a.self.now.at a.self.now.chain.now _ _ (flat step_end xs) (length xs) (joined_by a.self.now.how a.self.now.rule.rule.tolerance a.self.now.at.last a.c) (bezier_joins _ _ _ a.self.now.how _ _ _ c.in-Bezier.is (sym c.joins_beziers.ensures ∙ c.if-joins_beziers.true)) (ends_length xs) c.requires in (r.1, r.0, c.requires.buffer)

pub returns-then-joins_beziers-clause-stepped : goal.returns-then-joins_beziers-clause-stepped
returns-then-joins_beziers-clause-stepped c = let a = c.args in
    let xs = param_steps c.in-Bezier.end c.in-Bezier.control1 c.in-Bezier.control2 a.self.now.at.last (a.self.now.rule.rule.tolerance ⊗ quarter) in
    let j = joined_by a.self.now.how a.self.now.rule.rule.tolerance a.self.now.at.last a.c in
    let e = bezier_joins _ _ _ a.self.now.how _ _ _ c.in-Bezier.is (sym c.joins_beziers.ensures ∙ c.if-joins_beziers.true) in
    let r = adds-room a.c a.self.now.at a.self.now.chain.now _ _ (flat step_end xs) (length xs) j e (ends_length xs) c.requires in
    let b = c.requires.buffer in
    stepped_adds (flushed_by a.self.now.how a.self.now.rule.rule) a.c a.self.now.at a.self.now.chain.now a.self.now.kinds.now a.self.now.nums.now a.self.now.steps.now (length xs) (flat step_end xs) j e (ends_length xs) (omega (arith, r, b)) r.0 _ _ c.in-Bezier.end (bezier_end a.c _ _ _ c.in-Bezier.is) c.add_bezier.ensures.0 c.add_bezier.ensures.1

pub keep-requires : goal.keep-requires
keep-requires c = let a = c.args in subst (λ (x : Command). Room ends x a.self.now.at a.self.now.chain.now (length a.self.now.kinds.now) (length a.self.now.nums.now)) c.in-Bezier.is (subst (λ (j : Join). Room j a.c a.self.now.at a.self.now.chain.now (length a.self.now.kinds.now) (length a.self.now.nums.now)) (bezier_ends _ _ _ a.self.now.how _ _ _ c.in-Bezier.is (sym c.joins_beziers.ensures ∙ c.if-joins_beziers.false)) c.requires)

pub keep-requires-in-Move : goal.keep-requires-in-Move
keep-requires-in-Move c = let a = c.args in subst (λ (j : Join). Room j a.c a.self.now.at a.self.now.chain.now (length a.self.now.kinds.now) (length a.self.now.nums.now)) (move-ends _ _ _ a.self.now.how _ c.in-Move.is) c.requires

pub keep-requires-in-Arc : goal.keep-requires-in-Arc
keep-requires-in-Arc c = let a = c.args in subst (λ (j : Join). Room j a.c a.self.now.at a.self.now.chain.now (length a.self.now.kinds.now) (length a.self.now.nums.now)) (arc-ends _ _ _ a.self.now.how _ _ _ c.in-Arc.is) c.requires

pub returns-in-Line-clause-stepped : goal.returns-in-Line-clause-stepped
returns-in-Line-clause-stepped c = let a = c.args in
    let p = c.in-Line.end in
    let j = joined_by a.self.now.how a.self.now.rule.rule.tolerance a.self.now.at.last a.c in
    let e = line_joins _ _ _ a.self.now.how _ c.in-Line.is in
    let r = adds-room a.c a.self.now.at a.self.now.chain.now _ _ (triple p) 1 j e refl c.requires in
    let b = c.requires.buffer in
    stepped_adds (flushed_by a.self.now.how a.self.now.rule.rule) a.c a.self.now.at a.self.now.chain.now a.self.now.kinds.now a.self.now.nums.now a.self.now.steps.now 1 (triple p) j e refl (omega (arith, r, b)) r.0 _ _ p (line-end a.c p c.in-Line.is) c.add_line.ensures.0 c.add_line.ensures.1

pub returns-else-joins_beziers-clause-stepped : goal.returns-else-joins_beziers-clause-stepped
returns-else-joins_beziers-clause-stepped c = let a = c.args in
    stepped_as (flushed_by a.self.now.how a.self.now.rule.rule) _ _ a.c a.self.now.at _ a.self.now.chain.now _ a.self.now.kinds.now _ a.self.now.nums.now _ a.self.now.steps.now _ (bezier_ends _ _ _ a.self.now.how _ _ _ c.in-Bezier.is (sym c.joins_beziers.ensures ∙ c.if-joins_beziers.false))
    (stepped_of (flushed_by a.self.now.how a.self.now.rule.rule) ends a.c _ a.self.now.at _ a.self.now.chain.now _ a.self.now.kinds.now _ a.self.now.nums.now _ a.self.now.steps.now _ c.in-Bezier.is c.keep.ensures.stepped)

pub returns-in-Move-clause-stepped : goal.returns-in-Move-clause-stepped
returns-in-Move-clause-stepped c = let a = c.args in
    stepped_as (flushed_by a.self.now.how a.self.now.rule.rule) _ _ a.c a.self.now.at _ a.self.now.chain.now _ a.self.now.kinds.now _ a.self.now.nums.now _ a.self.now.steps.now _ (move-ends _ _ _ a.self.now.how _ c.in-Move.is) c.keep-in-Move.ensures.stepped

pub returns-in-Arc-clause-stepped : goal.returns-in-Arc-clause-stepped
returns-in-Arc-clause-stepped c = let a = c.args in
    stepped_as (flushed_by a.self.now.how a.self.now.rule.rule) _ _ a.c a.self.now.at _ a.self.now.chain.now _ a.self.now.kinds.now _ a.self.now.nums.now _ a.self.now.steps.now _ (arc-ends _ _ _ a.self.now.how _ _ _ c.in-Arc.is) c.keep-in-Arc.ensures.stepped
