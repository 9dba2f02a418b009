-- `chain::chain::Walk::add_bezier` meets its contract: the steps counted are those written. Assumes nothing.
use native.Mathlib.Omega.{arith}
use Prim.Native.Nat.{ℕ, ◌+◌, ◌*◌}
use mathlib.Core.List.{List}
use lib.ListN.{length}
use lib.Seq.{sets}
use mathlib.Core.Path.{◌≡◌, ap, ◌∙◌}
use Rattle.floats.specs.Ops.{◌⊗◌}
use Rattle.floats.specs.Limits.{quarter}
use Rattle.geo.specs.Lent.{flat}
use Rattle.bezier.specs.Linearize.{Step, step_end, param_steps}
use Rattle.chain.proofs.Steps.{steps_counted, params_are_steps}
use Rattle.chain.proofs.chain.Walk.add_bezier.Goals as goal
use Rattle.chain.proofs.chain.Walk.add_bezier.Goals.{After-bezier_steps-n}

counted : (c : After-bezier_steps-n) → c.bezier_steps-n.result ≡ length (param_steps c.args.end c.args.control1 c.args.control2 c.args.self.now.last (c.args.tolerance ⊗ quarter))
counted c = let p = c.requires in
    steps_counted _ _ _ _ _ _ _ c.raise_controls-q.ensures c.bezier_steps-n.ensures (omega (arith, p))

pub put_ends-requires : goal.put_ends-requires
put_ends-requires c = let p = c.requires in
    let n = counted (goal.at.put_ends-requires c).After-bezier_steps-n in (omega (arith, p), omega (arith, p), omega (arith, p))

pub overflow_add-self : goal.overflow_add-self
overflow_add-self c = let p = c.requires in
    let n = counted (goal.at.overflow_add-self c).After-bezier_steps-n in omega (arith, p)

pub returns : goal.returns
returns c = let a = c.args in
    let n = counted (goal.at.returns c).After-bezier_steps-n in (
      ap (λ (k : ℕ). record { points = a.self.now.points + k; last = a.end; written = a.self.now.written }) n,
      c.put_ends.ensures ∙ ap (λ (l : List Step). sets a.chain.now (3 * a.self.now.points) (flat step_end l)) (params_are_steps a.end a.control1 a.control2 a.self.now.last (a.tolerance ⊗ quarter) _ _ c.raise_controls-q.ensures n),
    )
