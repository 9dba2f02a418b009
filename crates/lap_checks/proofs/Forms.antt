-- Rows 4 and 5 of the recorded file and of a new lap, where the file was looked at for both rows at once. Assumes nothing.
use Prim.Native.Nat.{ℕ}
use mathlib.Core.Path.{◌≡◌, refl, sym, ◌∙◌}
use mathlib.Core.Bool.{Bool, true, false, not, ◌||◌}
use mathlib.Core.List.{List, [], ◌∷◌}
use native.Mathlib.Omega.{arith}
use Rattle.geo.specs.Outcome.{Row, row, refusal}
use Rattle.geo.proofs.Rows.{row_fails, row-passes, row_passed}
use Rattle.laps.specs.File.{laps_of, form_ok, domain_ok, laps_ok}
use Rattle.laps.specs.Rows.{commands_rows}
use Rattle.lap_checks.specs.Checks.{row4, row5}

or_true : (b : Bool) → (b || true) ≡ true
or_true true = refl
or_true false = refl

-- x and y: whether the file passes row 4 and row 5, which r tells
refused_by : (x y near : Bool) (r : ℕ) → r ≡ refusal (row 4 (not x) ∷ row 5 (not y) ∷ []) → (r ≡ 0 → ⊥) → r ≡ refusal (row 4 (not x || not true) ∷ row 5 (not y || not near) ∷ [])
unfolding refusal
refused_by false y near r e h = e
refused_by true false near r e h = e
refused_by true true near r e h = absurd (h e)

passed_by : (x y near : Bool) (r : ℕ) → r ≡ refusal (row 4 (not x) ∷ row 5 (not y) ∷ []) → r ≡ 0 → refusal (row 4 (not x || not true) ∷ row 5 (not y || not near) ∷ []) ≡ refusal (row 5 (not near) ∷ [])
unfolding refusal
passed_by false y near r e h = absurd (omega (arith, e, h))
passed_by true false near r e h = absurd (omega (arith, e, h))
passed_by true true near r e h = refl

module _ (s : List ℕ) (formed near : Bool) where
  -- a new lap that is none decides, whatever the file is
  pub no_lap : formed ≡ false → 4 ≡ refusal (row 4 (row4 s formed) ∷ row 5 (row5 s near) ∷ [])
  unfolding row4
  no_lap e = rw e (sym (row_fails 4 _ _ (or_true (not (laps_ok form_ok true (laps_of s))))))

  module _ (e : formed ≡ true) (r : ℕ) (q : r ≡ refusal (commands_rows s)) where
    pub file-refused : (r ≡ 0 → ⊥) → r ≡ refusal (row 4 (row4 s formed) ∷ row 5 (row5 s near) ∷ [])
    unfolding row4 row5
    file-refused h = rw e (refused_by (laps_ok form_ok true (laps_of s)) (laps_ok domain_ok true (laps_of s)) near r q h)

    file_passed : r ≡ 0 → refusal (row 4 (row4 s formed) ∷ row 5 (row5 s near) ∷ []) ≡ refusal (row 5 (not near) ∷ [])
    unfolding row4 row5
    file_passed h = rw e (passed_by (laps_ok form_ok true (laps_of s)) (laps_ok domain_ok true (laps_of s)) near r q h)

    pub both-near : r ≡ 0 → near ≡ true → 0 ≡ refusal (row 4 (row4 s formed) ∷ row 5 (row5 s near) ∷ [])
    unfolding refusal
    both-near h n = sym (file_passed h ∙ rw n)

    pub not_near : r ≡ 0 → near ≡ false → 5 ≡ refusal (row 4 (row4 s formed) ∷ row 5 (row5 s near) ∷ [])
    unfolding refusal
    not_near h n = sym (file_passed h ∙ rw n)

  -- behind both rows, where none refuses
  pub behind_forms : (ts : List Row) → 0 ≡ refusal (row 4 (row4 s formed) ∷ row 5 (row5 s near) ∷ []) → refusal (row 4 (row4 s formed) ∷ row 5 (row5 s near) ∷ ts) ≡ refusal ts
  behind_forms ts e =
      let a = row_passed 3 (row4 s formed) _ e in
      let b = row_passed 4 (row5 s near) _ a.1 in
      row-passes 4 (row4 s formed) _ a.0 ∙ row-passes 5 (row5 s near) _ b.0
