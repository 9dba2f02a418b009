-- A run that goes to and fro between two points holds them all at a thousand, and hands out 63 ends when it is set to one: each point fed again is three away from
-- the point on which the line from its neighbour begins and ends. At most 63 come out of any state. Assumes nothing.
use Prim.Native.Nat.{ℕ, zero, suc, ◌+◌, ◌-◌, ◌*◌, ◌≤◌, ◌<◌}
use mathlib.Core.Path.{◌≡◌, refl, sym, ap, ◌∙◌, subst}
use mathlib.Core.Logic.{⊎_elim}
use mathlib.Core.Bool.{Bool, true, false, not, ◌&&◌, ◌||◌}
use mathlib.Core.List.{List, [], ◌∷◌}
use native.Mathlib.Omega.{arith}
use native.Mathlib.Nat.{eq-or-lt_of_le}
use borrow.Author.Tests.{ltb-false, lt-ltb, le-ltb}
use lib.ListN.{length, length-append}
use lib.Dec.{ltb}
use lib.Ieee.{Float, span, climb, size, odd, units, round, neg, sum, add, sub, mul, div, lt, eq, le, is_nan, of_fields, of_bits}
use Rattle.floats.specs.Ops.{◌≺◌, +0, one, three}
use Rattle.floats.specs.Limits.{thousand}
use Rattle.floats.specs.Float.{abs_of}
use Rattle.floats.specs.Root.{better, root_in, whole_root, root_from, in_units, root_of, plain}
use Rattle.geo.specs.declared.types.Point3D.{Point3D}
use Rattle.geo.specs.Lent.{origin, point_at}
use Rattle.geo.specs.Domain.{coordinate, point3_in, within, tolerance, whole}
use Rattle.geo.specs.Outcome.{row, refusal}
use Rattle.geo.proofs.Rows.{row_passed, row-passes, whole-passes, unless-gives, unless-given}
use Rattle.deviations.specs.Line.{rooted, line_deviation}
use Rattle.farthest.specs.Farthest.{farther, farthest_of, farthest_in}
use Rattle.farthest.specs.Measure.{chord_of, to_line, line_sq}
use Rattle.farthest.proofs.First.{first_farthest}
use Rattle.live.specs.declared.live.Live.{Live}
use Rattle.live.specs.Thinner.{Next, slot_count, slot, put, started, behind, cutting, goes_on, push, feed_again, anchored, forgotten, retuned}
use Rattle.live.specs.Calls.{Event, feed, retune, most_ends, state_rows, live_rows, next_of, live_call}
use Rattle.live.proofs.Counts.{retune-most}
use Rattle.live.proofs.Answers.{state_passed}
use Rattle.live_runs.specs.Run.{Ran, run_from, run}
use Rattle.live_runs.specs.Drawn.{AtMost63, SixtyThree}
use Rattle.live_runs.proofs.Slots.{put_length, put_same, put_other}
use Rattle.live_runs.proofs.Holds.{push-held, push-cut}
use Rattle.live_runs.proofs.Runs.{accepted_step}
use Rattle.live_runs.proofs.Sound.{Sound, same_line, started_sound, push_sound}
use Rattle.live_runs.proofs.Way.{last_row}

-- ---- at most 63
pub at_most_63 : AtMost63
unfolding live_call live_rows state_rows next_of
at_most_63 s t room r given =
    let a = unless-given (refusal (live_rows s (retune t room))) (retuned s t) r given in
    let b = row_passed 0 (not (whole 3 room)) _ a.0 in
    let c = row_passed 1 (ltb slot_count s.count) _ b.1 in
    subst (λ (n : Next). length n.ends ≤ 63) a.1 (retune-most s t (ltb-false slot_count s.count c.0))

-- ---- to and fro
-- the two points, and which of them is the i-th
abbrev corner : Bool → Point3D
corner true = origin
corner false = record { x = +0; y = three; z = +0 }

unfoldable even : ℕ → Bool
even zero = true
even (suc n) = not (even n)

abbrev zigzag : ℕ → Point3D
zigzag i = corner (even i)

even-next : (i : ℕ) → even (i + 1) ≡ not (even i)
even-next i = let e : i + 1 ≡ suc i = omega arith in ap even e ∙ (unfold even in refl)

not_not : (b : Bool) → not (not b) ≡ b
not_not true = refl
not_not false = refl

corner_in : (b : Bool) → point3_in (corner b) ≡ true
unfolding point3_in coordinate abs_of le of_bits
corner_in true = refl
corner_in false = refl

-- ---- at a thousand every line goes on
corners_near : (a b c : Bool) → (root_of (line_sq (corner a) (corner b) (corner c)) ≺ thousand) ≡ true
unfolding span climb size odd units round neg sum add sub mul div lt eq le is_nan of_fields of_bits abs_of better root_in whole_root root_from in_units root_of plain chord_of to_line line_sq
corners_near true true true = refl
corners_near true true false = refl
corners_near true false true = refl
corners_near true false false = refl
corners_near false true true = refl
corners_near false true false = refl
corners_near false false true = refl
corners_near false false false = refl

zero_near : (root_of +0 ≺ thousand) ≡ true
unfolding span climb size odd units round lt of_fields of_bits better root_in whole_root root_from in_units root_of plain
zero_near = refl

zigzag_near : (n : ℕ) → ((line_deviation line_sq zigzag 0 n).dist ≺ thousand) ≡ true
unfolding line_deviation rooted
zigzag_near n =
    ⊎_elim
    (λ r. subst (λ (x : Float). (root_of x ≺ thousand) ≡ true) (sym (ap (λ w. w.square) r.0)) zero_near)
    (λ r. subst (λ (x : Float). (root_of x ≺ thousand) ≡ true) (sym r.value) (corners_near (even 0) (even n) (even (farthest_in line_sq zigzag 0 n).index)))
    (first_farthest line_sq zigzag 0 n)

-- a state that holds the first k of them
record Holding (k : ℕ) (s : Live) : Type 0 where
  sound : Sound s
  under : s.tolerance ≡ thousand
  going : s.closed ≡ false
  count : s.count ≡ k
  slots : (j : ℕ) → j < k → slot s j ≡ zigzag j

thousand-is : tolerance thousand ≡ true
unfolding within le of_bits
thousand-is = refl

module _ (k : ℕ) (s : Live) (h : Holding k s) (l : k < 65) where
  new_slots : (j : ℕ) → j ≤ k → slot (behind s (zigzag k)) j ≡ zigzag j
  unfolding slot behind
  new_slots j a =
      ⊎_elim
      (λ e. subst (λ (i : ℕ). point_at (put s.points s.count (zigzag k)) i ≡ zigzag i) (sym e)
      (subst (λ (c : ℕ). point_at (put s.points c (zigzag k)) k ≡ zigzag k) (sym h.count) (put_same s.points k (zigzag k) (omega (arith, h.sound.long)))))
      (λ e. put_other s.points s.count j (zigzag k) (λ z. omega (arith, z, h.count)) ∙ h.slots j e) (eq-or-lt_of_le a)

  goes : 2 ≤ k → goes_on s (zigzag k) ≡ true
  unfolding goes_on
  goes m =
      rw (lt-ltb s.count slot_count (omega (arith, h.count)))
      (subst (λ (n : ℕ). ((line_deviation line_sq (slot (behind s (zigzag k))) 0 n).dist ≺ s.tolerance) ≡ true) (sym h.count)
      (subst (λ (t : Float). ((line_deviation line_sq (slot (behind s (zigzag k))) 0 k).dist ≺ t) ≡ true) (sym h.under)
      (subst (λ w. (w.dist ≺ thousand) ≡ true) (sym (same_line (slot (behind s (zigzag k))) zigzag k (omega arith) new_slots)) (zigzag_near k))))

  held : (ltb s.count 2 || goes_on s (zigzag k)) ≡ true
  held = go (ltb s.count 2) (λ e. goes (let z = ltb-false s.count 2 e in omega (arith, h.count)))
    where
      go : (b : Bool) → (b ≡ false → goes_on s (zigzag k) ≡ true) → (b || goes_on s (zigzag k)) ≡ true
      go true f = refl
      go false f = f refl

  taken : refusal (live_rows s (feed (zigzag k))) ≡ 0
  unfolding live_rows
  taken = last_row s (point3_in (zigzag k)) true h.sound (rw h.under thousand-is) (corner_in (even k)) refl ∙ (unfold refusal in rw h.going)

  next-holding : Holding (k + 1) (push s (zigzag k)).state
  next-holding =
      let sound = push_sound s h.sound (zigzag k) (corner_in (even k)) in
      subst (λ (r : Next). Sound r.state → Holding (k + 1) r.state) (sym (push-held s (zigzag k) held))
      (λ p. unfold behind in
      record { sound = p; under = h.under; going = h.going; count = ap (λ (n : ℕ). n + 1) h.count; slots = λ j a. unfold behind in new_slots j (omega arith) })
      sound

-- n more of them fed
feeds : ℕ → ℕ → List Event
feeds zero k = []
feeds (suc n) k = feed (zigzag k) ∷ feeds n (k + 1)

run-holding : (n k : ℕ) (s : Live) → Holding k s → k + n ≤ 65 → Holding (k + n) (run_from (feeds n k) s).last
unfolding feeds next_of
run-holding zero k s h l = let e : k + 0 ≡ k = omega arith in rw e (none s h)
  where
    none : (s : Live) → Holding k s → Holding k (run_from [] s).last
    none s h = unfold run_from in h
run-holding (suc n) k s h l =
    let e : k + suc n ≡ k + 1 + n = omega arith in
    rw e (subst (λ (r : Ran). Holding (k + 1 + n) r.last) (sym (accepted_step (feeds n (k + 1)) s (feed (zigzag k)) (taken k s h (omega arith))))
    (run-holding n (k + 1) (push s (zigzag k)).state (next-holding k s h (omega arith)) (omega arith)))

whole_run : Holding 65 (run thousand (feeds 65 0)).last
unfolding run
whole_run =
    run-holding 65 0 (started thousand)
    (unfold started in record { sound = unfold started in started_sound thousand; under = refl; going = refl; count = refl; slots = λ j a. absurd (omega arith) })
    (omega arith)

-- ---- at one every point fed again is an end
-- three points of the zigzag, from either corner on
abbrev peak : Bool → ℕ → Point3D
peak b zero = corner b
peak b (suc zero) = corner (not b)
peak b (suc (suc j)) = corner b

peaks_far : (b : Bool) → ((line_deviation line_sq (peak b) 0 2).dist ≺ one) ≡ false
unfolding span climb size odd units round neg sum add sub mul div lt eq le is_nan of_fields of_bits abs_of better root_in whole_root root_from in_units root_of plain farther farthest_of farthest_in chord_of to_line line_sq rooted line_deviation
peaks_far true = refl
peaks_far false = refl

-- a state that holds two of them, the next being the corner b
record Two (b : Bool) (s : Live) : Type 0 where
  long : length s.points ≡ 195
  under : s.tolerance ≡ one
  count : s.count ≡ 2
  anchor : slot s 0 ≡ corner b
  other : slot s 1 ≡ corner (not b)

module _ (b : Bool) (s : Live) (h : Two b s) where
  three_slots : (j : ℕ) → j ≤ 2 → slot (behind s (corner b)) j ≡ peak b j
  unfolding slot behind
  three_slots zero l = put_other s.points s.count 0 (corner b) (λ z. omega (arith, z, h.count)) ∙ h.anchor
  three_slots (suc zero) l = put_other s.points s.count 1 (corner b) (λ z. omega (arith, z, h.count)) ∙ h.other
  three_slots (suc (suc zero)) l = subst (λ (c : ℕ). point_at (put s.points c (corner b)) 2 ≡ corner b) (sym h.count) (put_same s.points 2 (corner b) (omega (arith, h.long)))
  three_slots (suc (suc (suc j))) l = absurd (omega arith)

  stops : ((line_deviation line_sq (slot (behind s (corner b))) 0 s.count).dist ≺ s.tolerance) ≡ false
  stops =
      subst (λ (n : ℕ). ((line_deviation line_sq (slot (behind s (corner b))) 0 n).dist ≺ s.tolerance) ≡ false) (sym h.count)
      (subst (λ (t : Float). ((line_deviation line_sq (slot (behind s (corner b))) 0 2).dist ≺ t) ≡ false) (sym h.under)
      (subst (λ w. (w.dist ≺ one) ≡ false) (sym (same_line (slot (behind s (corner b))) (peak b) 2 (omega arith) three_slots)) (peaks_far b)))

  cut : (ltb s.count 2 || goes_on s (corner b)) ≡ false
  unfolding goes_on
  cut = rw (le-ltb s.count 2 (omega (arith, h.count)), stops) (and_no (ltb s.count slot_count))
    where
      and_no : (a : Bool) → (a && false) ≡ false
      and_no true = refl
      and_no false = refl

  next-two : Two (not b) (cutting s (corner b))
  unfolding cutting slot
  next-two =
      let ps = s.points in
      let q = point_at ps (s.count - 1) in
      let e : s.count - 1 ≡ 1 = omega (arith, h.count) in
      let long₀ : length (put ps 0 q) ≡ 195 = put_length ps 0 q ∙ h.long in
      record {
        long = put_length (put ps 0 q) 1 (corner b) ∙ long₀;
        under = h.under;
        count = refl;
        anchor = put_other (put ps 0 q) 1 0 (corner b) (λ z. omega (arith, z)) ∙ put_same ps 0 q (omega (arith, h.long)) ∙ ap (point_at ps) e ∙ h.other;
        other = put_same (put ps 0 q) 1 (corner b) (omega (arith, long₀)) ∙ ap corner (sym (not_not b));
      }

  one_end : length (push s (corner b)).ends ≡ 1
  one_end = rw (push-cut s (corner b) cut) refl

  pushed_two : Two (not b) (push s (corner b)).state
  pushed_two = rw (push-cut s (corner b) cut) next-two

all-ends : (at : ℕ → Point3D) (n i : ℕ) (s : Live) → Two (even i) s → ((j : ℕ) → i ≤ j → j < i + n → at j ≡ zigzag j) → length (feed_again at n i s).ends ≡ n
unfolding feed_again
all-ends at zero i s h f = refl
all-ends at (suc n) i s h f =
    let e = f i (omega arith) (omega arith) in
    let u : length (push s (at i)).ends ≡ 1 = rw e (one_end (even i) s h) in
    let w : Two (even (i + 1)) (push s (at i)).state = rw (e, even-next i) (pushed_two (even i) s h) in
    let v = all-ends at n (i + 1) (push s (at i)).state w (λ j a b. f j (omega arith) (omega arith)) in
    omega (arith, length-append (push s (at i)).ends (feed_again at n (i + 1) (push s (at i)).state).ends)

again-held : (at : ℕ → Point3D) (n i : ℕ) (s y : Live) → push s (at i) ≡ record { state = y; ends = [] } → (feed_again at (suc n) i s).ends ≡ (feed_again at n (i + 1) y).ends
unfolding feed_again
again-held at n i s y e = rw e

module _ (s : Live) (h : Holding 65 s) where
  first-held : push (forgotten s one) (slot s 1) ≡ record { state = behind (forgotten s one) (slot s 1); ends = [] }
  unfolding forgotten anchored
  first-held = push-held (forgotten s one) (slot s 1) (rw h.count refl)

  two : Two true (behind (forgotten s one) (slot s 1))
  unfolding behind forgotten anchored slot
  two =
      rw h.count
      (record {
        long = put_length s.points 1 (point_at s.points 1) ∙ h.sound.long;
        under = refl;
        count = refl;
        anchor = put_other s.points 1 0 (point_at s.points 1) (λ z. omega (arith, z)) ∙ h.slots 0 (omega arith) ∙ (unfold even in refl);
        other = put_same s.points 1 (point_at s.points 1) (omega (arith, h.sound.long)) ∙ h.slots 1 (omega arith) ∙ (unfold even in refl);
      })

  sixty_three-ends : length (retuned s one).ends ≡ 63
  unfolding retuned
  sixty_three-ends =
      let y = behind (forgotten s one) (slot s 1) in
      let e : s.count - 1 ≡ suc 63 = omega (arith, h.count) in
      let t : Two (even 2) y = unfold even in two in
      ap (λ (n : ℕ). length (feed_again (slot s) n 1 (forgotten s one)).ends) e
      ∙ ap length (again-held (slot s) 63 1 (forgotten s one) y first-held)
      ∙ all-ends (slot s) 63 2 y t (λ j a b. h.slots j (omega arith))

  one-is : tolerance one ≡ true
  unfolding within le of_bits
  one-is = refl

  tuned : refusal (live_rows s (retune one (3 * 63))) ≡ 0
  unfolding live_rows
  tuned =
      let z : refusal (state_rows s true (tolerance one)) ≡ 0 = last_row s true (tolerance one) h.sound (rw h.under thousand-is) refl one-is ∙ (unfold refusal in rw h.going) in
      row-passes 1 _ _ (whole-passes 3 189 refl) ∙ state_passed s true (tolerance one) (row 9 (ltb 63 most_ends) ∷ []) (sym z) ∙ (unfold refusal in refl)

pub sixty_three : SixtyThree
unfolding live_call next_of
sixty_three =
    let s = (run thousand (feeds 65 0)).last in
    record {
      coarse = thousand;
      calls = feeds 65 0;
      finer = one;
      next = retuned s one;
      accepted = unless-gives (refusal (live_rows s (retune one (3 * 63)))) (retuned s one) (tuned s whole_run);
      ends = sixty_three-ends s whole_run;
    }
