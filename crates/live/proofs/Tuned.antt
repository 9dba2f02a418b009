-- A call with a new tolerance answers, writes and leaves what its outcome says, by what its rows found. Assumes nothing.
use Prim.Native.Nat.{ℕ, ◌/◌, ◌≤◌, ◌<◌}
use mathlib.Core.Path.{◌≡◌, refl, sym, ◌∙◌, subst}
use mathlib.Core.Bool.{true, not, ◌&&◌}
use mathlib.Core.List.{List}
use native.Mathlib.Omega.{arith}
use borrow.Author.Tests.{ltb-false}
use lib.ListN.{length}
use lib.Dec.{ltb}
use lib.Ieee.{Float}
use Rattle.std.specs.Prelude.{Result, Ok, Err}
use Rattle.geo.specs.declared.refusal.Refusal.{Refusal}
use Rattle.geo.specs.Lent.{flat, triple}
use Rattle.geo.specs.Domain.{coordinate, numbers_in, tolerance, whole}
use Rattle.geo.specs.Outcome.{refusal, unless}
use Rattle.geo.specs.Refusal.{number}
use Rattle.geo.proofs.Rows.{row_passed}
use Rattle.geo.proofs.Flat.{flat_length}
use Rattle.geo.proofs.Wrote.{number-positive, wrote-refused, wrote-given}
use Rattle.live.specs.declared.live.Live.{Live}
use Rattle.live.specs.Thinner.{slot_count, retuned}
use Rattle.live.specs.Calls.{retune, most_ends, state_rows, live_rows, next_of, live_call, ends_given, Tuned}
use Rattle.live.specs.Replay.{Replays}
use Rattle.live.proofs.Answers.{ends-unless, state-unless, state-kept}
use Rattle.live.proofs.Counts.{retune-most}

module _ (s : Live) (t : Float) (out : List Float) where
  ends_are : ends_given (live_call s (retune t (length out))) ≡ unless (refusal (live_rows s (retune t (length out)))) (retuned s t).ends
  unfolding live_call next_of
  ends_are = ends-unless (refusal (live_rows s (retune t (length out)))) (retuned s t)

  pub tuned_refused : (cause : Refusal) → number cause ≡ refusal (live_rows s (retune t (length out))) → (r : Result ℕ Refusal) → r ≡ Err cause
      → Tuned (live_call s (retune t (length out))) s s out out r
  tuned_refused cause is r h =
      record {
        wrote = rw ends_are (wrote-refused (refusal (live_rows s (retune t (length out)))) cause is (flat triple) (retuned s t).ends out r h);
        state = unfold live_call in sym (state-kept s (refusal (live_rows s (retune t (length out)))) (next_of s (retune t (length out))) (subst (λ (k : ℕ). 0 < k) is (number-positive cause)));
      }

  module _ (z : 0 ≡ refusal (live_rows s (retune t (length out)))) where
    -- an accepted call has a state of no more points than slots, and room for the most
    pub tuned_accepted : (s.count ≤ 65) × (189 ≤ length out)
    unfolding live_rows state_rows
    tuned_accepted =
        let a = row_passed 0 (not (whole 3 (length out))) _ z in
        let b = row_passed 1 (ltb slot_count s.count) _ a.1 in
        let d = row_passed 4 (not (numbers_in coordinate s.points && true)) _ b.1 in
        let e = row_passed 5 (not (tolerance s.tolerance && tolerance t)) _ d.1 in
        let f = row_passed 9 s.closed _ e.1 in
        let g = row_passed 8 (ltb (length out / 3) most_ends) _ f.1 in
        let l = ltb-false (length out / 3) most_ends g.0 in
        (ltb-false slot_count s.count b.0, omega arith)

    pub tuned_given : (s' : Live) (out' : List Float) (k : ℕ) → Replays s s' t out out' k → Tuned (live_call s (retune t (length out))) s s' out out' (Ok k)
    tuned_given s' out' k w =
        let a = tuned_accepted in
        let m = retune-most s t a.0 in
        let l : length (flat triple (retuned s t).ends) ≤ length out = let q = flat_length triple 3 (λ p. refl) (retuned s t).ends in omega (arith, a.1) in
        record {
          wrote = rw ends_are (wrote-given (refusal (live_rows s (retune t (length out)))) z (flat triple) (retuned s t).ends out out' k w.count l w.stored);
          state = unfold live_call next_of in w.state ∙ sym (state-unless s (refusal (live_rows s (retune t (length out)))) (retuned s t) (sym z));
        }
