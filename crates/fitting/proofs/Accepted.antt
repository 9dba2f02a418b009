-- The rows of the public calls behind those of their points, and what an accepted call answers and leaves. Assumes nothing.
use Rattle.std.specs.Prelude.{Result, Ok}
use Prim.Native.Nat.{ℕ, ◌-◌, ◌/◌, ◌%◌, ◌≤◌, ◌<◌}
use mathlib.Core.Path.{◌≡◌, refl, sym, ap, ◌∙◌, subst}
use mathlib.Core.Bool.{Bool, true, false, not, ◌&&◌}
use mathlib.Core.List.{List, [], ◌∷◌}
use native.Mathlib.Omega.{arith}
use borrow.Author.Tests.{ltb-true, ltb-false, lt-ltb, le-ltb, not-false}
use lib.ListN.{length}
use lib.Dec.{ltb}
use lib.Seq.{sets}
use lib.Ieee.{Float}
use Rattle.floats.specs.Ops.{◌≺◌, +0}
use Rattle.geo.specs.declared.types.Command.{Command}
use Rattle.geo.specs.declared.refusal.Refusal.{Refusal}
use Rattle.geo.specs.Wrote.{Wrote, WroteCommands}
use Rattle.geo.specs.Domain.{tolerance, most_points}
use Rattle.geo.specs.Lent.{point_at, flat, numbers_of}
use Rattle.geo.specs.Outcome.{Row, row, refusal, unless, left}
use Rattle.geo.proofs.Tolerance.{tolerance-positive}
use Rattle.geo.proofs.Rows.{row_fails, row-passes, row_passed, whole-passes}
use Rattle.deviations.proofs.Accepted.{points_passed}
use Rattle.geo.proofs.Wrote.{wrote-given, commands-given}
use Rattle.geo.proofs.Wrote.{nine}
use Rattle.geo.proofs.Flat.{flat_length}
use Rattle.circle.specs.Calls.{points_rows}
use Rattle.pieces.specs.declared.pieces.Rule.{Rule}
use Rattle.pieces.specs.Pieces.{points_rule, pieces_by}
use Rattle.pieces.specs.Commands.{fit_in, worst_in}
use Rattle.pieces.specs.Written.{noted_in, NotedPlaced}
use Rattle.pieces.proofs.Fitted.{noted-fit, noted-worst, fit_length, worst_length, worst-count}
use Rattle.pieces.proofs.Writing.{commands-placed}
use Rattle.fitting.specs.Calls.{fit_rows, fit_call, worst_call}

-- a range with steps that is not outside n points ends inside
inside-points : (lo hi n : ℕ) → (ltb lo hi && not (ltb hi n)) ≡ false → lo < hi → hi < n
inside-points lo hi n h l = ltb-true hi n (not-false _ (subst (λ (b : Bool). (b && not (ltb hi n)) ≡ false) (lt-ltb lo hi l) h))

-- ---- the rows of the outputs, those before being passed
module _ (s : List Float) (tol : Float) (lo hi kinds numbers places : ℕ)
    (nines : numbers % 9 ≡ 0) (points : 0 ≡ refusal (points_rows s)) (above : tolerance tol ≡ true) (inside : (ltb lo hi && not (ltb hi (length s / 3))) ≡ false) where
  abbrev room-rows : List Row
  room-rows = row 9 (ltb kinds (hi - lo)) ∷ row 9 (ltb (numbers / 9) (hi - lo)) ∷ row 9 (ltb places (hi - lo)) ∷ []

  room-decides : refusal (fit_rows s tol lo hi kinds numbers places) ≡ refusal room-rows
  unfolding fit_rows
  room-decides = row-passes _ _ _ (whole-passes 9 numbers nines) ∙ points_passed s _ points ∙ row-passes 6 _ _ (ap not above) ∙ row-passes 7 _ _ inside

  pub kinds_short : kinds < hi - lo → 9 ≡ refusal (fit_rows s tol lo hi kinds numbers places)
  kinds_short h = sym (room-decides ∙ row_fails 9 _ _ (lt-ltb kinds (hi - lo) h))

  module _ (k : hi - lo ≤ kinds) where
    kinds-pass : refusal room-rows ≡ refusal (row 9 (ltb (numbers / 9) (hi - lo)) ∷ row 9 (ltb places (hi - lo)) ∷ [])
    kinds-pass = row-passes 9 _ _ (le-ltb kinds (hi - lo) k)

    pub numbers_short : numbers / 9 < hi - lo → 9 ≡ refusal (fit_rows s tol lo hi kinds numbers places)
    numbers_short h = sym (room-decides ∙ kinds-pass ∙ row_fails 9 _ _ (lt-ltb (numbers / 9) (hi - lo) h))

    pub places_short : hi - lo ≤ numbers / 9 → places < hi - lo → 9 ≡ refusal (fit_rows s tol lo hi kinds numbers places)
    places_short n h = sym (room-decides ∙ kinds-pass ∙ row-passes 9 _ _ (le-ltb (numbers / 9) (hi - lo) n) ∙ row_fails 9 _ _ (lt-ltb places (hi - lo) h))

-- ---- what passed
module _ (s : List Float) (tol : Float) (lo hi kinds numbers places : ℕ) (q : 0 ≡ refusal (fit_rows s tol lo hi kinds numbers places)) where
  pub record Accepted : Type 0 where
    pub few : length s / 3 ≤ most_points
    pub above_zero : (+0 ≺ tol) ≡ true
    pub ends-inside : lo < hi → hi < length s / 3
    pub room-kinds : hi - lo ≤ kinds
    pub room-numbers : hi - lo ≤ numbers / 9
    pub room-places : hi - lo ≤ places

  pub fit-accepted : Accepted
  unfolding fit_rows points_rows
  fit-accepted =
      let w = row_passed 0 _ _ q in
      let a = row_passed 0 _ _ w.1 in
      let b = row_passed 1 _ _ a.1 in
      let c = row_passed 4 _ _ b.1 in
      let d = row_passed 5 _ _ c.1 in
      let e = row_passed 6 _ _ d.1 in
      let f = row_passed 8 _ _ e.1 in
      let g = row_passed 8 _ _ f.1 in
      let h = row_passed 8 _ _ g.1 in
      record {
        few = ltb-false _ _ b.0;
        above_zero = tolerance-positive tol (not-false _ d.0);
        ends-inside = inside-points lo hi _ e.0;
        room-kinds = ltb-false _ _ f.0;
        room-numbers = ltb-false _ _ g.0;
        room-places = ltb-false _ _ h.0;
      }

-- ---- what an accepted fit answers and leaves
module _ (s : List Float) (tol : Float) (lo hi : ℕ) (ks ks' : List ℕ) (ns ns' : List Float) (ws ws' : List ℕ) (k : ℕ)
    (q : 0 ≡ refusal (fit_rows s tol lo hi (length ks) (length ns) (length ws))) where
  abbrev rule : Rule
  rule = points_rule tol

  -- its commands and their worst steps
  abbrev pub WroteFit : Type 0
  WroteFit =
      WroteCommands (fit_call s tol lo hi (length ks) (length ns) (length ws)) ks ks' ns ns' (Ok k)
      × Wrote (λ ns. ns) (worst_call s tol lo hi (length ks) (length ns) (length ws)) ws ws' (Ok k)

  pub wrote-fit : lo < hi → NotedPlaced (noted_in rule (point_at s) lo hi) 0 k ks ks' ns ns' ws ws' → WroteFit
  unfolding fit_call worst_call
  wrote-fit some p =
      let xs = fit_in rule (point_at s) lo hi in
      let vs = worst_in rule (point_at s) lo hi in
      let c = commands-placed (noted_in rule (point_at s) lo hi) xs 0 k ks ks' ns ns' ws ws' (noted-fit rule (point_at s) lo hi) p in
      let a = fit-accepted s tol lo hi (length ks) (length ns) (length ws) q in
      let l = fit_length rule a.above_zero (point_at s) lo hi some in
      let v = worst_length rule a.above_zero (point_at s) lo hi some in
      let rk = a.room-kinds in
      let rn = a.room-numbers in
      let rw' = a.room-places in (
        commands-given _ q xs ks ks' ns ns' k c.count (omega arith) (omega (arith, flat_length numbers_of 9 nine xs)) c.kinds c.numbers,
        wrote-given _ q (λ ns. ns) vs ws ws' k (c.count ∙ worst-count rule (point_at s) lo hi) (omega arith)
            (p.notes ∙ ap (sets ws 0) (noted-worst rule refl (point_at s) lo hi)),
      )

  -- a range with no step
  pub wrote_no_fit : hi ≤ lo → k ≡ 0 → ks' ≡ ks → ns' ≡ ns → ws' ≡ ws → WroteFit
  unfolding fit_call worst_call fit_in worst_in pieces_by flat
  wrote_no_fit none g p o v =
      let d : hi - lo ≡ 0 = omega arith in
      let e : fit_in rule (point_at s) lo hi ≡ [] = rw d in
      let f : worst_in rule (point_at s) lo hi ≡ [] = rw d in (
        subst (λ (xs : List Command). WroteCommands (unless (refusal (fit_rows s tol lo hi (length ks) (length ns) (length ws))) xs) ks ks' ns ns' (Ok k)) (sym e)
            (commands-given _ q [] ks ks' ns ns' k g (omega arith) (omega (arith, flat_length numbers_of 9 nine [])) p o),
        subst (λ (xs : List ℕ). Wrote (λ ns. ns) (unless (refusal (fit_rows s tol lo hi (length ks) (length ns) (length ws))) xs) ws ws' (Ok k)) (sym f)
            (wrote-given _ q (λ ns. ns) [] ws ws' k g (omega arith) v),
      )

-- to the index that the code worked out
module _ (s : List Float) (tol : Float) (k hi kinds numbers places : ℕ) (r : Result ℕ Refusal) (e : k ≡ hi) where
  pub wrote-to : (ks ks' : List ℕ) (ns ns' : List Float)
      → WroteCommands (fit_call s tol 0 k kinds numbers places) ks ks' ns ns' r → WroteCommands (fit_call s tol 0 hi kinds numbers places) ks ks' ns ns' r
  wrote-to ks ks' ns ns' w = subst (λ (i : ℕ). WroteCommands (fit_call s tol 0 i kinds numbers places) ks ks' ns ns' r) e w

  pub left-to : (ws ws' : List ℕ) → Wrote (λ ns. ns) (worst_call s tol 0 k kinds numbers places) ws ws' r → ws' ≡ left (λ ns. ns) ws (worst_call s tol 0 hi kinds numbers places)
  left-to ws ws' w = subst (λ (i : ℕ). ws' ≡ left (λ ns. ns) ws (worst_call s tol 0 i kinds numbers places)) e w.leaves
