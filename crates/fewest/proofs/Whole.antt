-- The code's answer is the answer. Assumes nothing.
use Prim.Native.Nat.{ℕ, ◌+◌, ◌/◌, ◌*◌, ◌≤◌}
use mathlib.Core.Path.{◌≡◌, refl, sym, ◌∙◌}
use mathlib.Core.Bool.{true, false}
use mathlib.Core.List.{List, []}
use native.Mathlib.Omega.{arith}
use borrow.Author.Tests.{ltb-false, not-false}
use lib.ListN.{length}
use lib.Seq.{sets}
use lib.Ieee.{Float}
use Rattle.floats.specs.Ops.{◌≺◌, +0}
use Rattle.geo.specs.Lent.{flat}
use Rattle.geo.specs.Outcome.{refusal, gives, left, Placed}
use Rattle.std.specs.Prelude.{Result, Err}
use Rattle.geo.specs.Refusal.{number, outcome}
use Rattle.geo.specs.declared.refusal.Refusal.{Refusal}
use Rattle.geo.proofs.Wrote.{refused-is}
use Rattle.geo.proofs.Rows.{row_passed, unless-gives}
use Rattle.geo.proofs.Flat.{flat_length}
use Rattle.geo.proofs.Stores.{sets_front}
use Rattle.geo.proofs.Tolerance.{tolerance-positive}
use Rattle.ways.specs.Layers.{State, arrived, back, found, best_of, searched, fewest}
use Rattle.ways.proofs.Walk.{searched-held}
use Rattle.ways.proofs.Laws.{finished-below, back_length, answer-most}
use Rattle.fewest.specs.declared.fewest.Counts.{Counts}
use Rattle.fewest.specs.Straights.{last_of, passing, cut_ends, fewest_of, numbers_at}
use Rattle.fewest.specs.Calls.{straights_rows, straights_call, straights_answer, ends_given}
use Rattle.fewest.specs.Lent.{Gave}
use Rattle.fewest.specs.Search.{Within}
use Rattle.fewest.proofs.Cut.{passing-neighbours, cut-way}

module _ (s : List Float) (t : Float) (budget : ℕ) (pos : (+0 ≺ t) ≡ true) (two : 2 ≤ length s / 3) (few : length s / 3 ≤ 256) where
  -- at most one end for each step
  pub ends-most : length (fewest_of s t budget).ends ≤ last_of s
  unfolding fewest_of
  ends-most = answer-most (passing s t) 256 (last_of s) budget (omega arith) (omega arith) (passing-neighbours s t pos (last_of s)) _ (cut-way s t pos 0 (last_of s) (omega arith))

  -- ---- e is the search as it stopped
  module _ (e : State) (q : e ≡ searched (passing s t) 256 (last_of s) budget) where
    pub whole_below : e.finished + 1 ≤ last_of s
    whole_below = rw q (finished-below (passing s t) 256 (last_of s) budget (omega arith) (omega arith) (passing-neighbours s t pos (last_of s)))

    pub whole-within : Within (last_of s) e.parent
    whole-within = rw q (searched-held (passing s t) 256 (last_of s) budget (omega arith) (omega arith)).within

    as_best : fewest_of s t budget ≡ best_of (last_of s) (cut_ends s t 0 (last_of s)) e
    unfolding fewest_of fewest
    as_best = rw q

    module _ (out out' : List Float) where
      pub gave_found : arrived e.phase ≡ true → out' ≡ sets out 0 (flat (numbers_at s) (back e.parent (e.finished + 1) (last_of s) []))
          → Gave s (fewest_of s t budget) out out' record { count = e.finished + 1; tested = e.tested; bound = e.finished + 1 }
      gave_found g w =
          let n : e.finished + 1 ≡ length (found (last_of s) e) = omega (arith, back_length e.parent (e.finished + 1) (last_of s) []) in
          rw as_best (rw g record { count = n; tested = refl; bound = n; ends = w })

      pub gave_cut : (n : ℕ) → arrived e.phase ≡ false → Placed (numbers_at s) 3 (cut_ends s t 0 (last_of s)) 0 n out out'
          → Gave s (fewest_of s t budget) out out' record { count = n; tested = e.tested; bound = e.finished + 1 }
      gave_cut n g p = rw as_best (rw g record { count = p.count; tested = refl; bound = refl; ends = p.stored })

-- ---- the public call, which no row refuses
module _ (s : List Float) (t : Float) (budget room : ℕ) (e : 0 ≡ refusal (straights_rows s t room)) where
  pub record Accepted : Type 0 where
    pub two : 2 ≤ length s / 3
    pub few : length s / 3 ≤ 256
    pub room_for : 3 * last_of s ≤ room
    pub positive : (+0 ≺ t) ≡ true

  pub accepted : Accepted
  unfolding straights_rows
  accepted =
      let a = row_passed 0 _ _ e in
      let b = row_passed 0 _ _ a.1 in
      let c = row_passed 1 _ _ b.1 in
      let d = row_passed 1 _ _ c.1 in
      let f = row_passed 4 _ _ d.1 in
      let g = row_passed 5 _ _ f.1 in
      let h = row_passed 8 _ _ g.1 in
      let w = ltb-false (room / 3) (last_of s) h.0 in
      record {
        two = ltb-false (length s / 3) 2 c.0;
        few = ltb-false 256 (length s / 3) d.0;
        room_for = omega (arith, w);
        positive = tolerance-positive t (not-false _ g.0);
      }

  pub call_given : (out out' : List Float) (c : Counts) → length out ≡ room → Gave s (fewest_of s t budget) out out' c
      → (gives c ≡ straights_answer (straights_call s t budget room)) × (out' ≡ left (flat (numbers_at s)) out (ends_given (straights_call s t budget room)))
  unfolding straights_call straights_answer ends_given left
  call_given out out' c l g =
      let m = ends-most s t budget accepted.positive accepted.two accepted.few in
      let n = flat_length (numbers_at s) 3 (λ k. refl) (fewest_of s t budget).ends in
      rw (unless-gives (refusal (straights_rows s t room)) (fewest_of s t budget) (sym e))
      (rw (g.count, g.tested, g.bound), g.ends ∙ sets_front (flat (numbers_at s) (fewest_of s t budget).ends) out (omega (arith, l, m, n, accepted.room_for)))

-- a call that is refused for this cause; r is what it answers
pub call_refused : (s : List Float) (t : Float) (budget room : ℕ) (cause : Refusal) → number cause ≡ refusal (straights_rows s t room) → (out : List Float) (r : Result Counts Refusal) → r ≡ Err cause
    → (outcome r ≡ straights_answer (straights_call s t budget room)) × (out ≡ left (flat (numbers_at s)) out (ends_given (straights_call s t budget room)))
unfolding straights_call straights_answer ends_given left
call_refused s t budget room cause e out r h = rw (h, ← refused-is _ cause e (fewest_of s t budget)) (refl, refl)
