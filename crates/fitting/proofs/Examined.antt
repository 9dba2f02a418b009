-- The ranges that a fit of all points examines, by its pieces. Assumes nothing.
use Rattle.std.specs.Prelude.{Result, Err}
use Prim.Native.Nat.{ℕ, ◌-◌, ◌*◌, ◌/◌, ◌≤◌, ◌<◌}
use mathlib.Core.Path.{◌≡◌, refl, sym, ap, ◌∙◌}
use mathlib.Core.Logic.{⊎_elim}
use mathlib.Core.Bool.{true}
use mathlib.Core.List.{List}
use native.Mathlib.Omega.{arith}
use lib.ListN.{length, length-map}
use lib.Ieee.{Float}
use Rattle.floats.specs.Ops.{◌≺◌, +0}
use Rattle.floats.proofs.Order.{lt_or_ge}
use Rattle.geo.specs.declared.types.Command.{Command}
use Rattle.geo.specs.declared.refusal.Refusal.{Refusal}
use Rattle.geo.specs.Domain.{most_points}
use Rattle.geo.specs.Lent.{point_at}
use Rattle.geo.specs.Outcome.{Outcome, refused, gives, refusal}
use Rattle.geo.specs.Refusal.{number, outcome}
use Rattle.geo.specs.Wrote.{answer}
use Rattle.geo.proofs.Rows.{unless-given}
use Rattle.pieces.specs.Pieces.{points_rule, pieces_by, pieces_in, ranges_by}
use Rattle.pieces.specs.Commands.{piece_command, fit_in}
use Rattle.pieces.proofs.Recursion.{pieces_length}
use Rattle.pieces.proofs.Laws.{ranges_examined}
use Rattle.fitting.specs.declared.fitting.Primitives.{Primitives}
use Rattle.fitting.specs.Calls.{fit_rows, fit_call, primitives_call, examined, primitives_answer}
use Rattle.fitting.specs.Examined.{pieces_of, RangesExamined}
use Rattle.fitting.proofs.Accepted.{fit-accepted}

module _ (s : List Float) (tol : Float) where
  -- with no step there is no range, and no piece
  no_ranges : length s / 3 < 2 → examined s tol ≡ 0
  unfolding ranges_by
  no_ranges h = let z : length s / 3 - 1 - 0 ≡ 0 = omega arith in rw z

  no_pieces : length s / 3 < 2 → pieces_of s tol ≡ 0
  unfolding pieces_by
  no_pieces h = let z : length s / 3 - 1 - 0 ≡ 0 = omega arith in rw z

  some_ranges : (+0 ≺ tol) ≡ true → 2 ≤ length s / 3 → examined s tol ≡ 2 * pieces_of s tol - 1
  some_ranges pos h = ranges_examined (points_rule tol) pos (point_at s) 0 (length s / 3 - 1) (omega arith)

  written : length (fit_in (points_rule tol) (point_at s) 0 (length s / 3 - 1)) ≡ pieces_of s tol
  unfolding fit_in
  written = length-map (pieces_in (points_rule tol) (point_at s) 0 (length s / 3 - 1)) (piece_command (point_at s))

-- Of every accepted call.
pub ranges_of_the_call : RangesExamined
unfolding fit_call
ranges_of_the_call s tol kinds numbers places xs e =
    let g = unless-given (refusal (fit_rows s tol 0 (length s / 3 - 1) kinds numbers places)) _ xs e in
    let pos = (fit-accepted s tol 0 (length s / 3 - 1) kinds numbers places g.0).above_zero in
    record {
      none = no_ranges s tol;
      some = some_ranges s tol pos;
      most = λ h. let a = some_ranges s tol pos h in let b = pieces_length (points_rule tol) pos (point_at s) 0 (length s / 3 - 1) (omega arith) in omega arith;
      pieces = sym (ap length g.1) ∙ written s tol;
    }

-- ---- the answer, by what the fit of the range answers
module _ (s : List Float) (tol : Float) (kinds numbers places : ℕ) where
  twice-written : (xs : List Command) → primitives_call s tol kinds numbers places ≡ gives xs → examined s tol ≡ 2 * length xs - 1
  twice-written xs e =
      let w = ranges_of_the_call s tol kinds numbers places xs e in
      let p = w.pieces in
      ⊎_elim (λ h. let a = w.none h in let b = no_pieces s tol h in omega arith) (λ h. let a = w.some h in omega arith) (lt_or_ge (length s / 3) 2)

  pub answer-fitted : (n ranges : ℕ) → gives n ≡ answer (primitives_call s tol kinds numbers places) → ranges ≡ 2 * n - 1
      → gives (record { count = n; ranges = ranges }) ≡ primitives_answer (primitives_call s tol kinds numbers places) (examined s tol)
  unfolding answer primitives_answer
  answer-fitted n ranges e r = go (primitives_call s tol kinds numbers places) refl
    where
      go : (o : Outcome (List Command)) → primitives_call s tol kinds numbers places ≡ o
          → gives (record { count = n; ranges = ranges }) ≡ primitives_answer (primitives_call s tol kinds numbers places) (examined s tol)
      go (refused k) h = let d : gives n ≡ refused k = e ∙ ap answer h in let z : ◌≡◌ {A = ℕ} 0 1 = cc in absurd (omega arith)
      go (gives xs) h =
          let d : gives n ≡ gives (length xs) = e ∙ ap answer h in
          let z : n ≡ length xs = cc in
          let t = twice-written xs h in
          let k : ranges ≡ examined s tol = omega arith in
          rw (h, z, k)

  pub answer-refused : (cause : Refusal) → refused (number cause) ≡ answer (primitives_call s tol kinds numbers places) → (r : Result Primitives Refusal) → r ≡ Err cause
      → outcome r ≡ primitives_answer (primitives_call s tol kinds numbers places) (examined s tol)
  unfolding answer primitives_answer
  answer-refused cause e r q = rw q (go (primitives_call s tol kinds numbers places) refl)
    where
      go : (o : Outcome (List Command)) → primitives_call s tol kinds numbers places ≡ o
          → refused (number cause) ≡ primitives_answer (primitives_call s tol kinds numbers places) (examined s tol)
      go (refused k) h =
          let d : ◌≡◌ {A = Outcome ℕ} (refused (number cause)) (refused k) = e ∙ ap answer h in
          let z : number cause ≡ k = cc in rw (h, z)
      go (gives xs) h = let d : refused (number cause) ≡ gives (length xs) = e ∙ ap answer h in let z : ◌≡◌ {A = ℕ} 0 1 = cc in absurd (omega arith)

  -- an accepted call has at most 2,047 pieces
  pub answer-few : (n : ℕ) → gives n ≡ answer (primitives_call s tol kinds numbers places) → n ≤ most_points
  unfolding answer fit_call
  answer-few n e = go (primitives_call s tol kinds numbers places) refl
    where
      go : (o : Outcome (List Command)) → primitives_call s tol kinds numbers places ≡ o → n ≤ most_points
      go (refused k) h = let d : gives n ≡ refused k = e ∙ ap answer h in let z : ◌≡◌ {A = ℕ} 0 1 = cc in absurd (omega arith)
      go (gives xs) h =
          let d : gives n ≡ gives (length xs) = e ∙ ap answer h in
          let z : n ≡ length xs = cc in
          let g = unless-given (refusal (fit_rows s tol 0 (length s / 3 - 1) kinds numbers places)) _ xs h in
          let acc = fit-accepted s tol 0 (length s / 3 - 1) kinds numbers places g.0 in
          let w = ranges_of_the_call s tol kinds numbers places xs h in
          let p = w.pieces in
          let f = acc.few in
          ⊎_elim (λ l. let b = no_pieces s tol l in omega arith)
          (λ l. let b = pieces_length (points_rule tol) acc.above_zero (point_at s) 0 (length s / 3 - 1) (omega arith) in omega arith) (lt_or_ge (length s / 3) 2)
