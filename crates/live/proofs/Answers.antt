-- What the calls answer by what their rows found, and what an accepted state is known by. Assumes nothing.
use Prim.Native.Nat.{ℕ, zero, suc, ◌-◌, ◌/◌, ◌%◌, ◌≤◌, ◌<◌}
use mathlib.Core.Path.{◌≡◌, refl, sym, ap, ◌∙◌, subst}
use mathlib.Core.Logic.{⊎_elim}
use mathlib.Core.Bool.{Bool, true, false, ◌||◌}
use mathlib.Core.List.{List, [], ◌∷◌, ◌++◌}
use native.Mathlib.Omega.{arith}
use borrow.Author.Tests.{ltb-false, lt-ltb, le-ltb}
use lib.Dec.{ltb}
use lib.Ieee.{Float}
use Rattle.std.specs.Prelude.{Option, Some, None, Result, Ok, Err}
use Rattle.floats.proofs.Order.{either}
use Rattle.geo.specs.declared.types.Point3D.{Point3D}
use Rattle.geo.specs.declared.refusal.Refusal.{Refusal}
use Rattle.geo.specs.Outcome.{Row, row, refusal, unless}
use Rattle.geo.specs.Refusal.{number}
use Rattle.geo.specs.Domain.{tolerance}
use Rattle.geo.proofs.Rows.{row_passed, row_fails, row-passes, whole_fails, whole-passes, refusal-front}
use Rattle.geo.proofs.Wrote.{number-positive, outcome-refused, outcome-gives}
use Rattle.live.specs.declared.live.Live.{Live}
use Rattle.live.specs.Thinner.{Next, slot_count, goes_on, push, shut, slot, anchored, forgotten}
use Rattle.live.specs.Calls.{Event, retune, most_ends, state_rows, live_rows, next_of, live_call, end_for, end_given, ends_given, state_after, Fed}
use Rattle.live.specs.Replay.{ends_in}

-- ---- the parts of what a call comes to
pub end-unless : (n : ℕ) (r : Next) → end_given (unless n r) ≡ unless n (end_for r.ends)
unfolding end_given unless
end-unless zero r = refl
end-unless (suc n) r = refl

pub ends-unless : (n : ℕ) (r : Next) → ends_given (unless n r) ≡ unless n r.ends
unfolding ends_given unless
ends-unless zero r = refl
ends-unless (suc n) r = refl

pub state-unless : (s : Live) (n : ℕ) (r : Next) → n ≡ 0 → state_after s (unless n r) ≡ r.state
unfolding state_after unless
state-unless s n r h = rw h

pub state-kept : (s : Live) (n : ℕ) (r : Next) → 0 < n → state_after s (unless n r) ≡ s
unfolding state_after unless
state-kept s zero r h = absurd (omega arith)
state-kept s (suc n) r h = refl

-- ---- a point fed or a close: its rows found a cause, or none
module _ (s : Live) (e : Event) where
  pub fed_refused : (cause : Refusal) → number cause ≡ refusal (live_rows s e) → (r : Result (Option Point3D) Refusal) → r ≡ Err cause → Fed (live_call s e) s s r
  unfolding live_call
  fed_refused cause is r h =
      let n = refusal (live_rows s e) in
      record {
        says = outcome-refused n cause is (end_for (next_of s e).ends) r h ∙ sym (end-unless n (next_of s e));
        state = sym (state-kept s n (next_of s e) (subst (λ (k : ℕ). 0 < k) is (number-positive cause)));
      }

  pub fed_given : 0 ≡ refusal (live_rows s e) → (s' : Live) (r : Option Point3D) → r ≡ end_for (next_of s e).ends → s' ≡ (next_of s e).state → Fed (live_call s e) s s' (Ok r)
  unfolding live_call
  fed_given z s' r h q =
      let n = refusal (live_rows s e) in
      record {
        says = outcome-gives n z r (end_for (next_of s e).ends) h ∙ sym (end-unless n (next_of s e));
        state = q ∙ sym (state-unless s n (next_of s e) (sym z));
      }

-- ---- an accepted state has no more points than slots
pub few-accepted : (s : Live) (inside tuned : Bool) → 0 ≡ refusal (state_rows s inside tuned) → s.count ≤ slot_count
unfolding state_rows
few-accepted s inside tuned z = ltb-false slot_count s.count (row_passed 1 (ltb slot_count s.count) _ z).0

-- ---- the end of a point fed is all that it hands out
pub push-one-end : (s : Live) (p : Point3D) → ends_in (end_for (push s p).ends) ≡ (push s p).ends
unfolding push ends_in end_for
push-one-end s p = ⊎_elim (λ e. rw e refl) (λ e. rw e refl) (either (ltb s.count 2 || goes_on s p))

-- ---- rows of a new tolerance: those of the state, with one more behind them
passed_on : (n : ℕ) (b : Bool) (rs ts : List Row) → (0 ≡ refusal rs → refusal (rs ++ ts) ≡ refusal ts) → 0 ≡ refusal (row (suc n) b ∷ rs) → refusal (row (suc n) b ∷ rs ++ ts) ≡ refusal ts
unfolding refusal
passed_on n true rs ts f h = absurd (omega arith)
passed_on n false rs ts f h = f h

pub state_passed : (s : Live) (inside tuned : Bool) (ts : List Row) → 0 ≡ refusal (state_rows s inside tuned) → refusal (state_rows s inside tuned ++ ts) ≡ refusal ts
unfolding state_rows
state_passed s inside tuned ts h =
    passed_on 1 _ _ ts (passed_on 4 _ _ ts (passed_on 5 _ _ ts (passed_on 9 _ _ ts (λ z. refl)))) h

-- ---- the close
module _ (s : Live) where
  pub shut_none : s.count < 2 → None ≡ end_for (shut s).ends
  unfolding shut end_for
  shut_none h = rw (lt-ltb s.count 2 h)

  pub shut-last : (p : Point3D) → 2 ≤ s.count → p ≡ slot s (s.count - 1) → Some p ≡ end_for (shut s).ends
  unfolding shut end_for
  shut-last p h e = rw (le-ltb s.count 2 h, e)

-- ---- all but the anchor forgotten
pub forgotten-none : (s : Live) (t : Float) → s.count ≡ 0 → record { tolerance = t; points = s.points; count = s.count; closed = s.closed } ≡ forgotten s t
unfolding forgotten anchored
forgotten-none s t h = rw h

pub forgotten-some : (s : Live) (t : Float) → 0 < s.count → record { tolerance = t; points = s.points; count = 1; closed = s.closed } ≡ forgotten s t
unfolding forgotten anchored
forgotten-some s t h = let e : s.count ≡ suc (s.count - 1) = omega (arith, h) in rw e

-- ---- the refusal of a new tolerance t with an output of `lent` numbers; b is what the code found of t
module _ (s : Live) (t : Float) (lent : ℕ) where
  pub tuned_1 : (lent % 3 ≡ 0 → ⊥) → 1 ≡ refusal (live_rows s (retune t lent))
  unfolding live_rows refusal
  tuned_1 h = rw (whole_fails 3 lent h)

  module _ (b : Bool) (w : lent % 3 ≡ 0) (bt : b ≡ tolerance t) where
    pub tuned_state : (cause : Refusal) → number cause ≡ refusal (state_rows s true b) → number cause ≡ refusal (live_rows s (retune t lent))
    unfolding live_rows
    tuned_state cause is =
        let own : number cause ≡ refusal (state_rows s true (tolerance t)) = is ∙ ap (λ (c : Bool). refusal (state_rows s true c)) bt in
        let some : 0 < refusal (state_rows s true (tolerance t)) = subst (λ (k : ℕ). 0 < k) own (number-positive cause) in
        own ∙ refusal-front (state_rows s true (tolerance t)) (row 9 (ltb (lent / 3) most_ends) ∷ []) some ∙ sym (row-passes 1 _ _ (whole-passes 3 lent w))

    module _ (z : 0 ≡ refusal (state_rows s true b)) where
      all_passed : refusal (live_rows s (retune t lent)) ≡ refusal (row 9 (ltb (lent / 3) most_ends) ∷ [])
      unfolding live_rows
      all_passed =
          row-passes 1 _ _ (whole-passes 3 lent w)
          ∙ state_passed s true (tolerance t) (row 9 (ltb (lent / 3) most_ends) ∷ []) (z ∙ ap (λ (c : Bool). refusal (state_rows s true c)) bt)

      pub tuned_9 : lent / 3 < 63 → 9 ≡ refusal (live_rows s (retune t lent))
      tuned_9 l = sym (all_passed ∙ row_fails 9 _ [] (lt-ltb (lent / 3) most_ends l))

      pub tuned_0 : 63 ≤ lent / 3 → 0 ≡ refusal (live_rows s (retune t lent))
      tuned_0 l = sym (all_passed ∙ row-passes 9 _ [] (le-ltb (lent / 3) most_ends l) ∙ (unfold refusal in refl))
