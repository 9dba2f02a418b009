-- The theorems of the live thinner: what every run hands out, with new tolerances in it or without, and how many ends a new tolerance hands out at most.
-- Each call of a run moves its state and its chain of ends on; after the close all calls are refused. Assumes nothing.
use Prim.Native.Nat.{ℕ, suc, ◌+◌, ◌-◌, ◌/◌, ◌≤◌, ◌<◌}
use mathlib.Core.Path.{◌≡◌, refl, sym, ap, ◌∙◌, subst}
use mathlib.Core.Logic.{⊎_elim}
use mathlib.Core.Bool.{Bool, true, false, not, ◌&&◌, ◌||◌}
use mathlib.Core.List.{List, [], ◌∷◌, ◌++◌, map}
use native.Mathlib.Omega.{arith}
use native.Mathlib.Nat.{eq-zero-or-pos, zero-add, add-zero}
use borrow.Author.Tests.{ltb-true, ltb-false, lt-ltb, le-ltb, not-false}
use lib.ListN.{length, get_or, length-append, length-replicate, get_or-append}
use lib.Seq.{get_or-append-add}
use lib.Dec.{ltb}
use lib.Ieee.{Float}
use Rattle.floats.specs.Ops.{+0}
use Rattle.floats.proofs.Order.{either, clash, and_right}
use Rattle.geo.specs.declared.types.Point3D.{Point3D}
use Rattle.geo.specs.Lent.{origin}
use Rattle.geo.specs.Domain.{coordinate, numbers_in, point3_in, tolerance}
use Rattle.geo.specs.Outcome.{Row, row, refusal}
use Rattle.geo.proofs.Rows.{row_passed, row_fails, refusal-front, unless-refused, unless-gives}
use Rattle.live.specs.declared.live.Live.{Live}
use Rattle.live.specs.Thinner.{Next, slot_count, slot, started, behind, cutting, goes_on, push, shut, retuned}
use Rattle.live.specs.Calls.{Event, feed, retune, close, most_ends, state_rows, live_rows, next_of, live_call}
use Rattle.live_runs.specs.Run.{LineEnd, end_under, Ran, fed_by, call_then, run_from, run, fed_at}
use Rattle.live_runs.specs.Drawn.{last_of, Drawn, Untuned, RunsAreDrawn, BelowTheTolerance, RefusedLeftOut}
use Rattle.live_runs.proofs.Places.{Chain, chain-none, chain-one, chain_append, gaps-fed, gaps-ascend, gaps-none, gaps-below, AllUnder}
use Rattle.live_runs.proofs.Holds.{Holds, Moved, last_gap, pushed, retuned_moves}

-- ---- what the rows of an accepted call say
-- a closed thinner refuses all
some-row : (n : ℕ) (b : Bool) (rs : List Row) → 0 < refusal rs → 0 < refusal (row (suc n) b ∷ rs)
unfolding refusal
some-row n true rs h = omega arith
some-row n false rs h = h

state_refuses : (s : Live) (inside tuned : Bool) → s.closed ≡ true → 0 < refusal (state_rows s inside tuned)
unfolding state_rows
state_refuses s inside tuned h = some-row 1 _ _ (some-row 4 _ _ (some-row 5 _ _ (rw (row_fails 10 s.closed [] h) (omega arith))))

closed_refuses : (s : Live) (e : Event) → s.closed ≡ true → 0 < refusal (live_rows s e)
unfolding live_rows
closed_refuses s (feed p) h = state_refuses s (point3_in p) true h
closed_refuses s (retune t n) h =
    let l = state_refuses s true (tolerance t) h in
    some-row 0 _ _ (let e = refusal-front (state_rows s true (tolerance t)) (row 9 (ltb (n / 3) most_ends) ∷ []) l in omega arith)
closed_refuses s close h = state_refuses s true true h

-- an accepted point is in the domain
pub feed_domain : (s : Live) (p : Point3D) → refusal (live_rows s (feed p)) ≡ 0 → point3_in p ≡ true
unfolding live_rows state_rows
feed_domain s p h =
    let a = row_passed 1 (ltb slot_count s.count) _ (sym h) in
    let b = row_passed 4 (not (numbers_in coordinate s.points && point3_in p)) _ a.1 in
    and_right (numbers_in coordinate s.points) (point3_in p) (not-false _ b.0)

-- ---- the rest of a run after a live_call
pub refused_step : (es : List Event) (s : Live) (e : Event) → 0 < refusal (live_rows s e) → run_from (e ∷ es) s ≡ run_from es s
unfolding run_from live_call call_then
refused_step es s e h = rw (unless-refused (refusal (live_rows s e)) (next_of s e) h)

pub accepted_step : (es : List Event) (s : Live) (e : Event) → refusal (live_rows s e) ≡ 0
    → run_from (e ∷ es) s ≡ record {
      fed = fed_by e ++ (run_from es (next_of s e).state).fed;
      ends = map (end_under (next_of s e).state.tolerance) (next_of s e).ends ++ (run_from es (next_of s e).state).ends;
      last = (run_from es (next_of s e).state).last;
    }
unfolding run_from live_call call_then
accepted_step es s e h = rw (unless-gives (refusal (live_rows s e)) (next_of s e) h)

-- nothing is fed or end_under out after the close
closed_run : (es : List Event) (s : Live) → s.closed ≡ true → run_from es s ≡ record { fed = []; ends = []; last = s }
closed_run [] s h = unfold run_from in refl
closed_run (e ∷ es) s h = refused_step es s e (closed_refuses s e h) ∙ closed_run es s h

-- ---- one live_call
-- what it makes of a run that stands at n fed points: its ends lead to `reach`, the anchor's place, or the last point's after a close
record Called (at : ℕ → Point3D) (n a : ℕ) (r : Next) : Type 0 where
  reach : ℕ
  chain : Chain at a (map (end_under r.state.tolerance) r.ends) reach
  inside : reach ≤ n - 1
  prompt : n ≤ reach + 65
  held_while_open : r.state.closed ≡ false → Holds at n r.state reach
  ended : r.state.closed ≡ true → reach ≡ n - 1

anchor_inside : (at : ℕ → Point3D) (n : ℕ) (s : Live) (a : ℕ) → Holds at n s a → a ≤ n - 1
anchor_inside at n s a h =
    ⊎_elim (λ e. let z = h.some e in omega (arith, h.fill)) (λ l. omega (arith, h.fill)) (eq-zero-or-pos s.count)

module _ (at : ℕ → Point3D) where
  moved_on : (n a : ℕ) (t : Float) (r : Next) → Moved at n a t false r → Called at n a r
  moved_on n a t r m =
      record {
        reach = m.reach;
        chain = subst (λ (x : Float). Chain at a (map (end_under x) r.ends) m.reach) (sym m.under) m.chain;
        inside = anchor_inside at n r.state m.reach m.holds;
        prompt = omega (arith, m.holds.fill, m.holds.few);
        held_while_open = λ z. m.holds;
        ended = λ z. clash (sym m.shut ∙ z);
      }

  shut-few : (s : Live) → s.count < 2 → (shut s).ends ≡ []
  unfolding shut
  shut-few s l = rw (lt-ltb s.count 2 l)

  shut-more : (s : Live) → 2 ≤ s.count → (shut s).ends ≡ slot s (s.count - 1) ∷ []
  unfolding shut
  shut-more s l = rw (le-ltb s.count 2 l)

  shut-on : (n a : ℕ) (s : Live) → Holds at n s a → Called at n a (shut s)
  shut-on n a s h =
      ⊎_elim
      (λ e. let l = ltb-true s.count 2 e in
      let z : a ≡ n - 1 = ⊎_elim (λ q. let y = h.some q in omega (arith, h.fill)) (λ q. omega (arith, h.fill)) (eq-zero-or-pos s.count) in
      record {
        reach = a;
        chain = rw (shut-few s l) (chain-none at a);
        inside = omega arith;
        prompt = omega arith;
        held_while_open = λ q. clash (sym q ∙ (unfold shut in refl));
        ended = λ q. z;
      })
      (λ e. let l = ltb-false s.count 2 e in
      record {
        reach = n - 1;
        chain = rw (shut-more s l) (chain-one at a (n - 1) _ (last_gap at n s a h (shut s).state.tolerance (unfold shut in refl) l));
        inside = omega arith;
        prompt = omega arith;
        held_while_open = λ q. clash (sym q ∙ (unfold shut in refl));
        ended = λ q. refl;
      })
      (either (ltb s.count 2))

  -- the points ps are those of `at` from place n on
  abbrev Agree : ℕ → List Point3D → Type 0
  Agree n ps = (j : ℕ) → j < length ps → get_or ps j origin ≡ at (n + j)

  called : (s : Live) (e : Event) (n a : ℕ) → Holds at n s a → s.closed ≡ false → refusal (live_rows s e) ≡ 0 → Agree n (fed_by e) → Called at (n + length (fed_by e)) a (next_of s e)
  unfolding fed_by next_of
  called s (feed p) n a h o z f =
      moved_on (n + 1) a s.tolerance (push s p)
      (subst (λ (b : Bool). Moved at (n + 1) a s.tolerance b (push s p)) o
      (pushed at n s a h p (ap at (sym (add-zero n)) ∙ sym (f 0 (omega arith))) (feed_domain s p z) s.tolerance refl))
  called s (retune t m) n a h o z f =
      let e : n + 0 ≡ n = omega arith in
      rw e (moved_on n a t (retuned s t) (subst (λ (b : Bool). Moved at n a t b (retuned s t)) o (retuned_moves at n s a h t)))
  called s close n a h o z f = let e : n + 0 ≡ n = omega arith in rw e (shut-on n a s h)

  -- ---- a run
  record Went (n a : ℕ) (r : Ran) : Type 0 where
    reach : ℕ
    chain : Chain at a r.ends reach
    inside : reach ≤ n + length r.fed - 1
    prompt : n + length r.fed ≤ reach + 65
    ended : r.last.closed ≡ true → reach ≡ n + length r.fed - 1

  agree_front : (n : ℕ) (xs ys : List Point3D) → Agree n (xs ++ ys) → Agree n xs
  agree_front n xs ys f j l = sym (get_or-append xs ys origin j l) ∙ f j (rw (length-append xs ys) (omega arith))

  agree_back : (n : ℕ) (xs ys : List Point3D) → Agree n (xs ++ ys) → Agree (n + length xs) ys
  agree_back n xs ys f j l =
      let e : n + (length xs + j) ≡ n + length xs + j = omega arith in
      sym (get_or-append-add xs ys j origin) ∙ f (length xs + j) (rw (length-append xs ys) (omega arith)) ∙ ap at e

  -- a live_call in front of the rest of a run
  joined : (n a : ℕ) (xs : List Point3D) (t : Next) (rest : Ran) (c : Called at (n + length xs) a t) → Went (n + length xs) c.reach rest
      → Went n a (record { fed = xs ++ rest.fed; ends = map (end_under t.state.tolerance) t.ends ++ rest.ends; last = rest.last })
  joined n a xs t rest c w =
      let e : n + length (xs ++ rest.fed) ≡ n + length xs + length rest.fed = omega (arith, length-append xs rest.fed) in
      record {
        reach = w.reach;
        chain = chain_append at a c.reach w.reach _ _ c.chain w.chain;
        inside = rw e w.inside;
        prompt = rw e w.prompt;
        ended = λ z. rw e (w.ended z);
      }

  went_closed : (es : List Event) (s : Live) (n a : ℕ) → s.closed ≡ true → a ≡ n - 1 → Went n a (run_from es s)
  went_closed es s n a h z =
      let e : n + 0 ≡ n = omega arith in
      rw (closed_run es s h) (record { reach = a; chain = chain-none at a; inside = rw e (omega arith); prompt = rw e (omega arith); ended = λ y. rw e z })

  went : (es : List Event) (s : Live) (n a : ℕ) → Holds at n s a → s.closed ≡ false → Agree n (run_from es s).fed → Went n a (run_from es s)
  went [] s n a h o f = unfold run_from in
      let e : n + 0 ≡ n = omega arith in
      record { reach = a; chain = chain-none at a; inside = rw e (anchor_inside at n s a h); prompt = rw e (omega (arith, h.fill, h.few)); ended = λ z. clash (sym o ∙ z) }
  went (e ∷ es) s n a h o f =
      ⊎_elim
      (λ z. let q = accepted_step es s e z in
      let t = next_of s e in
      let rest = run_from es t.state in
      let g : Agree n (fed_by e ++ rest.fed) = subst (λ (r : Ran). Agree n r.fed) q f in
      let c = called s e n a h o z (agree_front n (fed_by e) rest.fed g) in
      rw q (joined n a (fed_by e) t rest c
      (⊎_elim (λ y. went_closed es t.state (n + length (fed_by e)) c.reach y (c.ended y))
      (λ y. went es t.state (n + length (fed_by e)) c.reach (c.held_while_open y) y (agree_back n (fed_by e) rest.fed g))
      (either t.state.closed))))
      (λ z. let q = refused_step es s e z in rw q (went es s n a h o (subst (λ (r : Ran). Agree n r.fed) q f)))
      (eq-zero-or-pos (refusal (live_rows s e)))

-- ---- whole runs
start_holds : (at : ℕ → Point3D) (t : Float) → Holds at 0 (started t) 0
unfolding started slot
start_holds at t =
    record {
      long = length-replicate 195 +0;
      few = omega arith;
      fill = refl;
      some = λ z. refl;
      slots = λ j l. absurd (omega arith);
      domain = λ j l. absurd (omega arith);
      near = λ j l k. absurd (omega arith);
    }

drawn : (r : Ran) → Went (fed_at r) 0 0 r → Drawn r
drawn r w =
    let at = fed_at r in
    let n = length r.fed in
    let ks = w.chain.places in
    let inside : last_of 0 ks ≤ n - 1 = rw w.chain.reach (let e = zero-add n in omega (arith, w.inside)) in
    let few : n < 2 → (r.ends ≡ []) × (ks ≡ []) = λ l. gaps-none at 0 r.ends ks w.chain.gaps (omega arith) in
    record {
      places = ks;
      ends-fed = gaps-fed at 0 r.ends ks w.chain.gaps;
      in_order =
          ⊎_elim (λ z. rw (few (omega arith)).1 tt) (λ l. gaps-ascend at 0 n r.ends ks w.chain.gaps (omega arith)) (eq-zero-or-pos n);
      gaps = w.chain.gaps;
      prompt = rw w.chain.reach (let e = zero-add n in omega (arith, w.prompt));
      last_included = λ z l. w.chain.reach ∙ w.ended z ∙ ap (λ (k : ℕ). k - 1) (zero-add n);
      none_of_few = λ l. (few l).0;
    }

pub runs_are_drawn : RunsAreDrawn
unfolding run
runs_are_drawn t es =
    let r = run_from es (started t) in
    drawn r (went (fed_at r) es (started t) 0 0 (start_holds (fed_at r) t) (unfold started in refl) (unfold fed_at in λ j l. ap (λ (k : ℕ). get_or r.fed k origin) (sym (zero-add j))))

-- ---- runs without a new tolerance
under_append : (t : Float) (hs gs : List LineEnd) → AllUnder t hs → AllUnder t gs → AllUnder t (hs ++ gs)
under_append t [] gs p q = q
under_append t (h ∷ hs) gs p q = (p.0, under_append t hs gs p.1 q)

under_map : (t : Float) (ps : List Point3D) → AllUnder t (map (end_under t) ps)
under_map t [] = tt
under_map t (p ∷ ps) = (refl, under_map t ps)

pub push-under : (s : Live) (p : Point3D) → (push s p).state.tolerance ≡ s.tolerance
unfolding push behind cutting
push-under s p = ⊎_elim (λ h. rw h refl) (λ h. rw h refl) (either (ltb s.count 2 || goes_on s p))

untuned_step : (t : Float) (es : List Event) (s : Live) (e : Event) → (next_of s e).state.tolerance ≡ t → s.tolerance ≡ t
    → ((u : Live) → u.tolerance ≡ t → AllUnder t (run_from es u).ends) → AllUnder t (run_from (e ∷ es) s).ends
untuned_step t es s e z o f =
    ⊎_elim
    (λ q. rw (accepted_step es s e q)
    (under_append t (map (end_under (next_of s e).state.tolerance) (next_of s e).ends) (run_from es (next_of s e).state).ends (subst (λ (x : Float). AllUnder t (map (end_under x) (next_of s e).ends)) (sym z) (under_map t (next_of s e).ends)) (f (next_of s e).state z)))
    (λ q. rw (refused_step es s e q) (f s o)) (eq-zero-or-pos (refusal (live_rows s e)))

untuned_from : (t : Float) (es : List Event) (s : Live) → Untuned es → s.tolerance ≡ t → AllUnder t (run_from es s).ends
untuned_from t [] s n z = unfold run_from in tt
untuned_from t (feed p ∷ es) s n z = untuned_step t es s (feed p) (unfold next_of in (push-under s p ∙ z)) z (λ u. untuned_from t es u n)
untuned_from t (retune x m ∷ es) s n z = absurd n
untuned_from t (close ∷ es) s n z = untuned_step t es s close (unfold next_of shut in z) z (λ u. untuned_from t es u n)

pub below_the_tolerance : BelowTheTolerance
unfolding run
below_the_tolerance t es n d =
    gaps-below (fed_at (run t es)) t 0 (run t es).ends d.places d.gaps (untuned_from t es (started t) n (unfold started in refl))

-- ---- refused calls
-- of a run that goes on after es, only the last state of es and what es fed and handed out count
joined-last : (es : List Event) (s : Live) (u v : List Event) → run_from u (run_from es s).last ≡ run_from v (run_from es s).last → run_from (es ++ u) s ≡ run_from (es ++ v) s
joined-last [] s u v h = unfold run_from in h
joined-last (e ∷ es) s u v h =
    ⊎_elim
    (λ q. let z : run_from (es ++ u) (next_of s e).state ≡ run_from (es ++ v) (next_of s e).state =
    joined-last es (next_of s e).state u v (subst (λ (r : Ran). run_from u r.last ≡ run_from v r.last) (accepted_step es s e q) h) in
    accepted_step (es ++ u) s e q
    ∙ ap (λ (r : Ran). record { fed = fed_by e ++ r.fed; ends = map (end_under (next_of s e).state.tolerance) (next_of s e).ends ++ r.ends; last = r.last }) z
    ∙ sym (accepted_step (es ++ v) s e q))
    (λ q. refused_step (es ++ u) s e q ∙ joined-last es s u v (subst (λ (r : Ran). run_from u r.last ≡ run_from v r.last) (refused_step es s e q) h) ∙ sym (refused_step (es ++ v) s e q))
    (eq-zero-or-pos (refusal (live_rows s e)))

pub refused-left_out : RefusedLeftOut
unfolding run
refused-left_out t es fs e n h = joined-last es (started t) (e ∷ fs) fs (unfold run_from call_then in rw h refl)
