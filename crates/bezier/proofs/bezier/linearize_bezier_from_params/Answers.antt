-- `bezier::bezier::linearize_bezier_from_params` meets its contract: the first rows by their check, then the count of steps, then the room; else the steps at the front. Assumes nothing.
use Rattle.std.proofs.Common.{rules, ◌≡◌, ℕ, List, ◌*◌, ◌<◌, ◌≤◌, true, length, pos, sym, refl, ap, ◌∙◌, subst, arith}
use lib.Seq.{sets}
use lib.Ieee.{Float, fin, lt}
use Rattle.geo.specs.Lent.{flat}
use Rattle.geo.proofs.Flat.{flat_length}
use Rattle.geo.proofs.Wrote.{number-positive, wrote-refused, wrote-given}
use Rattle.bezier.specs.Linearize.{Step, six, step_count, param_steps}
use Rattle.bezier.specs.Calls.{param_call}
use Rattle.bezier.proofs.Count.{max_above}
use Rattle.bezier.proofs.Rows.{param_refused, param_many, param_no_room, param_accepted, needed-is, steps-are, param_length}
use Rattle.bezier.proofs.bezier.linearize_bezier_from_params.Goals as goal

pub returns-in_err-check_params : goal.returns-in_err-check_params
unfolding param_call
returns-in_err-check_params c = let a = c.args in
    wrote-refused _ _ (param_refused a.end a.control1 a.control2 a.start_point a.resolution _ _ c.in_err-check_params.ensures (number-positive _)) (flat six) (param_steps a.end a.control1 a.control2 a.start_point a.resolution) _ _ (search rules)

pub whole_steps-n-requires : goal.whole_steps-n-requires
unfolding step_count
whole_steps-n-requires c = record { above_minus_one = subst (λ (x : Float). lt (fin true 1 (pos 0)) x ≡ true) (sym c.steps_needed-needed.ensures) (max_above _); at_most_all = c.if-needed.true }

pub returns-then-out-n : goal.returns-then-out-n
unfolding param_call
returns-then-out-n c = let a = c.args in
    let e = needed-is a.end a.control1 a.control2 a.start_point a.resolution _ _ c.raise_controls-q.ensures c.steps_needed-needed.ensures in
    let n = param_length a.end a.control1 a.control2 a.start_point a.resolution _ _ e c.whole_steps-n.ensures.0 in
    wrote-refused _ _ (param_no_room _ _ _ _ _ _ _ c.in_ok-check_params.ensures e c.if-needed.true (subst (λ (k : ℕ). length a.out.now < 6 * k) n c.if-out-n.true)) (flat six) (param_steps a.end a.control1 a.control2 a.start_point a.resolution) _ _ refl

pub returns-then-needed : goal.returns-then-needed
unfolding param_call
returns-then-needed c = let a = c.args in
    let e = needed-is a.end a.control1 a.control2 a.start_point a.resolution _ _ c.raise_controls-q.ensures c.steps_needed-needed.ensures in
    let n = param_length a.end a.control1 a.control2 a.start_point a.resolution _ _ e c.whole_steps-n.ensures.0 in
    let s = steps-are a.end a.control1 a.control2 a.start_point a.resolution _ _ _ c.raise_controls-q.ensures e c.whole_steps-n.ensures.0 in
    let room : 6 * length (param_steps a.end a.control1 a.control2 a.start_point a.resolution) ≤ length a.out.now = subst (λ (k : ℕ). 6 * k ≤ length a.out.now) n c.if-out-n.false in
    wrote-given _ (param_accepted _ _ _ _ _ _ _ c.in_ok-check_params.ensures e c.if-needed.true room) (flat six) (param_steps a.end a.control1 a.control2 a.start_point a.resolution) _ _ _ n
    (omega (arith, room, flat_length six 6 (λ s. refl) (param_steps a.end a.control1 a.control2 a.start_point a.resolution)))
    (c.put_steps.ensures.written ∙ ap (λ (l : List Step). sets a.out.now 0 (flat six l)) s)

pub returns : goal.returns
unfolding param_call
returns c = let a = c.args in
    let e = needed-is a.end a.control1 a.control2 a.start_point a.resolution _ _ c.raise_controls-q.ensures c.steps_needed-needed.ensures in
    wrote-refused _ _ (param_many _ _ _ _ _ _ _ c.in_ok-check_params.ensures e c.if-needed.false) (flat six) (param_steps a.end a.control1 a.control2 a.start_point a.resolution) _ _ refl
