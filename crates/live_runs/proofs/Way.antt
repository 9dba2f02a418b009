-- The states of a run from an accepted start are sound and have a tolerance of the domain; so no row but the last is met by a point of the domain. Assumes nothing.
use Prim.Native.Nat.{ℕ, zero, suc, ◌+◌, ◌-◌}
use mathlib.Core.Path.{◌≡◌, refl, sym, ap, ◌∙◌}
use mathlib.Core.Logic.{⊎_elim}
use mathlib.Core.Bool.{Bool, true, not, ◌&&◌}
use mathlib.Core.List.{List, [], ◌∷◌}
use native.Mathlib.Omega.{arith}
use native.Mathlib.Nat.{eq-zero-or-pos}
use borrow.Author.Tests.{le-ltb, not-false}
use lib.Dec.{ltb}
use lib.Ieee.{Float}
use Rattle.floats.proofs.Order.{and_right}
use Rattle.geo.specs.declared.types.Point3D.{Point3D}
use Rattle.geo.specs.Domain.{coordinate, numbers_in, point3_in, tolerance, whole}
use Rattle.geo.specs.Outcome.{row, refusal, refused}
use Rattle.geo.proofs.Rows.{row_passed, unless-refused, unless-gives}
use Rattle.live.specs.declared.live.Live.{Live}
use Rattle.live.specs.Thinner.{slot_count, push, shut, started, feed_again, forgotten, retuned}
use Rattle.live.specs.Calls.{Event, feed, retune, close, state_rows, live_rows, next_of, live_call}
use Rattle.live_runs.specs.Run.{run_from, run}
use Rattle.live_runs.specs.Drawn.{TakesPoints, ClosedForGood}
use Rattle.live_runs.proofs.Runs.{feed_domain, refused_step, accepted_step, push-under}
use Rattle.live_runs.proofs.Sound.{Sound, started_sound, push_sound, retuned_sound, shut_sound}

-- ---- sound states
next_sound : (s : Live) (e : Event) → refusal (live_rows s e) ≡ 0 → Sound s → Sound (next_of s e).state
unfolding next_of
next_sound s (feed p) z h = push_sound s h p (feed_domain s p z)
next_sound s (retune t n) z h = retuned_sound s t h
next_sound s close z h = shut_sound s h

pub run_sound : (es : List Event) (s : Live) → Sound s → Sound (run_from es s).last
run_sound [] s h = unfold run_from in h
run_sound (e ∷ es) s h =
    ⊎_elim
    (λ z. rw (accepted_step es s e z) (run_sound es (next_of s e).state (next_sound s e z h)))
    (λ z. rw (refused_step es s e z) (run_sound es s h)) (eq-zero-or-pos (refusal (live_rows s e)))

-- ---- tolerances of the domain
again-under : (at : ℕ → Point3D) (n i : ℕ) (s : Live) → (feed_again at n i s).state.tolerance ≡ s.tolerance
unfolding feed_again
again-under at zero i s = refl
again-under at (suc n) i s = again-under at n (i + 1) (push s (at i)).state ∙ push-under s (at i)

retuned-under : (s : Live) (t : Float) → (retuned s t).state.tolerance ≡ t
unfolding retuned forgotten
retuned-under s t = again-under _ (s.count - 1) 1 (forgotten s t)

-- an accepted new tolerance is one
pub retune-tolerance : (s : Live) (t : Float) (n : ℕ) → 0 ≡ refusal (live_rows s (retune t n)) → tolerance t ≡ true
unfolding live_rows state_rows
retune-tolerance s t n h =
    let a = row_passed 0 (not (whole 3 n)) _ h in
    let b = row_passed 1 (ltb slot_count s.count) _ a.1 in
    let d = row_passed 4 (not (numbers_in coordinate s.points && true)) _ b.1 in
    let e = row_passed 5 (not (tolerance s.tolerance && tolerance t)) _ d.1 in
    and_right (tolerance s.tolerance) (tolerance t) (not-false _ e.0)

next-tolerance : (s : Live) (e : Event) → refusal (live_rows s e) ≡ 0 → tolerance s.tolerance ≡ true → tolerance (next_of s e).state.tolerance ≡ true
unfolding next_of shut
next-tolerance s (feed p) z h = rw (push-under s p) h
next-tolerance s (retune t n) z h = rw (retuned-under s t) (retune-tolerance s t n (sym z))
next-tolerance s close z h = h

run-tolerance : (es : List Event) (s : Live) → tolerance s.tolerance ≡ true → tolerance (run_from es s).last.tolerance ≡ true
run-tolerance [] s h = unfold run_from in h
run-tolerance (e ∷ es) s h =
    ⊎_elim
    (λ z. rw (accepted_step es s e z) (run-tolerance es (next_of s e).state (next-tolerance s e z h)))
    (λ z. rw (refused_step es s e z) (run-tolerance es s h)) (eq-zero-or-pos (refusal (live_rows s e)))

-- ---- the rows of such a state
pub last_row : (s : Live) (inside tuned : Bool) → Sound s → tolerance s.tolerance ≡ true → inside ≡ true → tuned ≡ true
    → refusal (state_rows s inside tuned) ≡ refusal (row 10 s.closed ∷ [])
unfolding state_rows refusal
last_row s inside tuned h t i u = rw (le-ltb slot_count s.count h.few, h.inside, t, i, u)

module _ (t : Float) (es : List Event) (ok : tolerance t ≡ true) where
  rows_of : (inside : Bool) → inside ≡ true → refusal (state_rows (run t es).last inside true) ≡ refusal (row 10 (run t es).last.closed ∷ [])
  unfolding run
  rows_of inside i =
      last_row (run_from es (started t)).last inside true (run_sound es (started t) (started_sound t)) (run-tolerance es (started t) (unfold started in ok)) i refl

pub takes_points : TakesPoints
unfolding live_call live_rows next_of
takes_points t es p ok h going = unless-gives _ (push (run t es).last p) (rows_of t es ok (point3_in p) h ∙ (unfold refusal in rw going))

pub closed_for_good : ClosedForGood
unfolding live_call live_rows next_of
closed_for_good t es ok shutAt =
    let s = (run t es).last in
    let ten : (inside : Bool) → inside ≡ true → refusal (state_rows s inside true) ≡ 10 = λ b i. rows_of t es ok b i ∙ (unfold refusal in rw shutAt) in
    record {
      point = λ p h. let z = ten (point3_in p) h in unless-refused _ (push s p) (omega (arith, z)) ∙ ap refused z;
      second = let z = ten true refl in unless-refused _ (shut s) (omega (arith, z)) ∙ ap refused z;
    }
