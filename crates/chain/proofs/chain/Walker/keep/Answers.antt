-- `chain::chain::Walker::keep` meets its contract: the chain's commands, and behind them the one that ended it. Assumes nothing.
use native.Mathlib.Omega.{arith}
use Prim.Native.Nat.{ℕ, ◌+◌, ◌*◌, ◌≤◌}
use mathlib.Core.Path.{◌≡◌, ap, subst}
use mathlib.Core.List.{[], ◌∷◌}
use lib.ListN.{length}
use Rattle.pieces.specs.Written.{noted, NotedPlaced}
use Rattle.pieces.proofs.Writing.{count-noted, placed-kinds, placed-numbers}
use Rattle.chain.specs.declared.chain.Walk.{Walk}
use Rattle.chain.specs.Parts.{ends}
use Rattle.chain.specs.Chains.{flushed_by, under_way}
use Rattle.chain.proofs.Stepping.{front_length, ends-room, stepped_ends}
use Rattle.chain.proofs.Chains.{flushed_few}
use Rattle.chain.proofs.chain.Walker.keep.Goals as goal
use Rattle.chain.proofs.chain.Walker.keep.Goals.{After-flush-n}

pub flush-n-requires : goal.flush-n-requires
flush-n-requires c = let s = c.args.self.now in
    let r = ends-room c.args.c s.at s.chain.now _ _ c.requires in
    (c.requires.inside, omega (arith, r), omega (arith, r), omega (arith, r))

-- the room that is left behind the chain's commands
left : (c : After-flush-n) → let w : ℕ = c.flush-n.new.self.at.written + c.flush-n.result in (w ≤ 1601) × (w + 1 ≤ length c.flush-n.new.self.kinds.now) × (9 * (w + 1) ≤ length c.flush-n.new.self.nums.now)
left c =
    let s = c.args.self.now in
    let r = ends-room c.args.c s.at s.chain.now _ _ c.requires in
    let l = front_length c.args.c s.at s.chain.now _ _ ends c.requires in
    let f = flushed_few s.how s.rule.rule s.rule.positive (under_way s.at s.chain.now) in
    let n = count-noted _ _ _ _ _ _ _ _ _ c.flush-n.ensures.written in
    let k = placed-kinds _ _ _ _ _ _ _ _ _ c.flush-n.ensures.written in
    let m = placed-numbers _ _ _ _ _ _ _ _ _ c.flush-n.ensures.written in
    let e : c.flush-n.new.self.at.written ≡ s.at.written = ap (λ (w : Walk). w.written) c.flush-n.ensures.stays in
    (omega (arith, r, l, f, n, e), omega (arith, r, l, f, n, e, k), omega (arith, r, l, f, n, e, m))

pub overflow_add-written : goal.overflow_add-written
overflow_add-written c = omega (arith, left (goal.at.overflow_add-written c).After-flush-n)

pub put_noted-requires : goal.put_noted-requires
put_noted-requires c = let r = left (goal.at.put_noted-requires c).After-flush-n in (omega (arith, r), omega (arith, r))

pub overflow_add-self : goal.overflow_add-self
overflow_add-self c = omega (arith, left (goal.at.overflow_add-self c).After-flush-n)

pub returns-clause-stepped : goal.returns-clause-stepped
returns-clause-stepped c = let a = c.args in
    let s = a.self.now in
    let b = c.requires.buffer in
    let e : c.flush-n.new.self.at.written ≡ s.at.written = ap (λ (w : Walk). w.written) c.flush-n.ensures.stays in
    let p = subst (λ (w : ℕ). NotedPlaced (noted a.c 0 ∷ []) (w + c.flush-n.result) 1 c.flush-n.new.self.kinds.now c.put_noted.new.kinds c.flush-n.new.self.nums.now c.put_noted.new.nums c.flush-n.new.self.steps.now c.put_noted.new.notes) e c.put_noted.ensures in
    stepped_ends (flushed_by s.how s.rule.rule) a.c s.at s.chain.now s.kinds.now s.nums.now s.steps.now _ _ _ _ _ _ _ _ c.flush-n.ensures.same.buffer (omega (arith, b)) c.flush-n.ensures.written p _ _ _ c.end_point-end.ensures (rw e) c.put_point.ensures
