-- A new tolerance that is not below the old one: each held point passes again, so that nothing is handed out and every slot is as it was. Assumes nothing.
use Prim.Native.Nat.{ℕ, zero, suc, ◌+◌, ◌-◌, ◌*◌, ◌≤◌, ◌<◌}
use mathlib.Core.Path.{◌≡◌, refl, sym, ap, ◌∙◌, subst}
use mathlib.Core.Logic.{⊎_elim}
use mathlib.Core.Bool.{Bool, true, false, ◌||◌}
use mathlib.Core.List.{List, []}
use native.Mathlib.Omega.{arith}
use native.Mathlib.Nat.{eq-zero-or-pos}
use borrow.Author.Tests.{ltb-false, lt-ltb}
use lib.Seq.{set-get_or}
use lib.Dec.{ltb}
use lib.Ieee.{Float, nan, le, is_nan}
use Rattle.floats.specs.Ops.{◌≺◌}
use Rattle.floats.specs.Limits.{thousandth}
use Rattle.floats.proofs.Order.{clash, lt_gap, le_right, and_left}
use Rattle.geo.specs.Lent.{point_at}
use Rattle.geo.specs.Domain.{within, tolerance}
use Rattle.geo.specs.Outcome.{refusal}
use Rattle.geo.proofs.Rows.{unless-given}
use Rattle.deviations.specs.Line.{line_deviation}
use Rattle.farthest.specs.Measure.{line_sq}
use Rattle.live.specs.declared.live.Live.{Live}
use Rattle.live.specs.Thinner.{slot_count, slot, put, started, behind, goes_on, push, feed_again, anchored, forgotten, retuned}
use Rattle.live.specs.Calls.{retune, live_rows, next_of, live_call}
use Rattle.live_runs.specs.Run.{run}
use Rattle.live_runs.specs.Drawn.{CoarserKeeps}
use Rattle.live_runs.proofs.Holds.{push-held}
use Rattle.live_runs.proofs.Sound.{Sound, started_sound}
use Rattle.live_runs.proofs.Way.{run_sound, retune-tolerance}

-- a slot's own point put into it changes nothing
put-own : (ns : List Float) (i : ℕ) → put ns i (point_at ns i) ≡ ns
unfolding put point_at
put-own ns i =
    let b = 3 * i in
    let e₁ : b + 1 ≡ suc b = omega arith in
    let e₂ : b + 2 ≡ suc (suc b) = omega arith in
    rw (e₁, e₂, set-get_or ns b nan, set-get_or ns (suc b) nan, set-get_or ns (suc (suc b)) nan)

or_when : (a b : Bool) → (a ≡ false → b ≡ true) → (a || b) ≡ true
or_when true b f = refl
or_when false b f = f refl

number_of : (t : Float) → tolerance t ≡ true → is_nan t ≡ false
unfolding within
number_of t h = le_right thousandth t (and_left (le thousandth t) _ h)

module _ (s : Live) (h : Sound s) (u : Float) (number : is_nan u ≡ false) (coarser : (u ≺ s.tolerance) ≡ false) where
  -- s with the tolerance u, and the first k of its points
  abbrev first : ℕ → Live
  first k = record { tolerance = u; points = s.points; count = k; closed = s.closed }

  behind-own : (k : ℕ) → behind (first k) (slot s k) ≡ first (k + 1)
  unfolding behind slot
  behind-own k = rw (put-own s.points k)

  below : (x : Float) → (x ≺ s.tolerance) ≡ true → (x ≺ u) ≡ true
  below x l = ⊎_elim (λ z. z) (λ z. clash (sym coarser ∙ z)) (lt_gap x u s.tolerance number l)

  goes-again : (k : ℕ) → 2 ≤ k → k < s.count → goes_on (first k) (slot s k) ≡ true
  unfolding goes_on
  goes-again k l m =
      rw (lt-ltb k slot_count (omega (arith, h.few)), behind-own k)
      (unfold slot in below (line_deviation line_sq (point_at s.points) 0 k).dist (h.passed k l m))

  held-again : (k : ℕ) → 1 ≤ k → k < s.count → (ltb k 2 || goes_on (first k) (slot s k)) ≡ true
  held-again k l m = or_when (ltb k 2) (goes_on (first k) (slot s k)) (λ e. goes-again k (ltb-false k 2 e) m)

  pushed_again : (k : ℕ) → 1 ≤ k → k < s.count → push (first k) (slot s k) ≡ record { state = first (k + 1); ends = [] }
  pushed_again k l m = push-held (first k) (slot s k) (held-again k l m) ∙ ap (λ (x : Live). record { state = x; ends = [] }) (behind-own k)

  fed-again : (m k : ℕ) → 1 ≤ k → k + m ≡ s.count → feed_again (slot s) m k (first k) ≡ record { state = first s.count; ends = [] }
  unfolding feed_again
  fed-again zero k l e = let z : k ≡ s.count = omega arith in rw z
  fed-again (suc m) k l e = rw (pushed_again k l (omega arith), fed-again m (k + 1) (omega arith) (omega arith))

  kept : retuned s u ≡ record { state = first s.count; ends = [] }
  unfolding retuned forgotten anchored
  kept =
      ⊎_elim {A = s.count ≡ 0} {B = 0 < s.count} (λ e. unfold feed_again in rw e)
      (λ l. let e : s.count ≡ suc (s.count - 1) = omega arith in
      subst (λ (k : ℕ). feed_again (slot s) (s.count - 1) 1 (first (anchored k)) ≡ record { state = first s.count; ends = [] }) (sym e)
      (fed-again (s.count - 1) 1 (omega arith) (omega arith)))
      (eq-zero-or-pos s.count)

pub coarser_keeps : CoarserKeeps
unfolding live_call next_of
coarser_keeps t es u room r given coarser =
    let s = (run t es).last in
    let a = unless-given (refusal (live_rows s (retune u room))) (retuned s u) r given in
    let sound : Sound s = unfold run in run_sound es (started t) (started_sound t) in
    let e : r ≡ record { state = first s sound u (number_of u (retune-tolerance s u room a.0)) coarser s.count; ends = [] } =
    sym a.1 ∙ kept s sound u (number_of u (retune-tolerance s u room a.0)) coarser in
    rw e (refl, refl)
