-- The rows of a listing: what each test of the code tells of a row, and what a call has that passes them. Assumes nothing.
use Prim.Native.Nat.{ℕ, zero, suc, ◌≤◌, ◌<◌}
use mathlib.Core.Path.{◌≡◌, refl, sym, ◌∙◌}
use mathlib.Core.Bool.{true, false, not}
use mathlib.Core.List.{List, [], ◌∷◌, ◌++◌}
use native.Mathlib.Omega.{arith}
use borrow.Author.Tests.{not-false, lt-ltb, le-ltb, ltb-false}
use lib.Dec.{ltb}
use lib.Ieee.{Float}
use Rattle.geo.specs.Domain.{tolerance}
use Rattle.geo.specs.Outcome.{Row, row, refusal}
use Rattle.geo.proofs.Rows.{row_fails, row-passes, row_passed, refusal-front, done}
use Rattle.laps.specs.File.{laps_of}
use Rattle.laps.specs.Rows.{file_rows}
use Rattle.laps.proofs.Rows.{FilePassed, file_passed, behind-file}
use Rattle.geo.specs.Lent.{origin}
use Rattle.lap_fit.specs.Fit.{laps_most}
use Rattle.lap_rows.specs.Listing.{most_text, text_rows}

-- rows in front of others that pass
front_passed : (rs ts : List Row) → 0 ≡ refusal (rs ++ ts) → 0 ≡ refusal rs
front_passed rs ts e = either (refusal rs) refl
  where
    either : (n : ℕ) → refusal rs ≡ n → 0 ≡ refusal rs
    either zero q = sym q
    either (suc n) q = let z = refusal-front rs ts (omega arith) in absurd (omega arith)

-- no row has a number above k
abbrev Numbered : ℕ → List Row → Type 0
Numbered k [] = Unit
Numbered k (row n fails ∷ rs) = (n ≤ k) × Numbered k rs

refusal-few : (k : ℕ) (rs : List Row) → Numbered k rs → refusal rs ≤ k
unfolding refusal
refusal-few k [] h = omega arith
refusal-few k (row n true ∷ rs) h = h.0
refusal-few k (row n false ∷ rs) h = refusal-few k rs h.1

-- A listing is refused by at most 9.
pub text-number : (s : List ℕ) (tol : Float) (room : ℕ) → refusal (text_rows s tol room) ≤ 9
unfolding text_rows file_rows
text-number s tol room = refusal-few 9 (text_rows s tol room) (omega arith, (omega arith, (omega arith, (omega arith, (omega arith, (omega arith, (omega arith, (omega arith, tt))))))))

pub record TextPassed (s : List ℕ) (tol : Float) (room : ℕ) : Type 0 where
  pub file : FilePassed s
  pub within : tolerance tol ≡ true
  pub few : laps_most tol origin (laps_of s) ≤ 800
  pub space : most_text (laps_most tol origin (laps_of s)) ≤ room

module _ (s : List ℕ) (tol : Float) (room : ℕ) where
  pub text_passed : 0 ≡ refusal (text_rows s tol room) → TextPassed s tol room
  unfolding text_rows
  text_passed e =
      let p = file_passed s 0 (front_passed (file_rows s) _ e) refl in
      let b = row_passed 5 (not (tolerance tol)) _ (e ∙ behind-file s _ p) in
      let c = row_passed 7 (ltb 800 (laps_most tol origin (laps_of s))) _ b.1 in
      let d = row_passed 8 (ltb room (most_text (laps_most tol origin (laps_of s)))) _ c.1 in
      record { file = p; within = not-false _ b.0; few = ltb-false 800 (laps_most tol origin (laps_of s)) c.0; space = ltb-false room (most_text (laps_most tol origin (laps_of s))) d.0 }

  module _ (p : FilePassed s) where
    pub text_6 : not (tolerance tol) ≡ true → refusal (text_rows s tol room) ≡ 6
    unfolding text_rows
    text_6 h = behind-file s _ p ∙ row_fails 6 _ _ h

    module _ (t : not (tolerance tol) ≡ false) where
      pub text_8 : 800 < laps_most tol origin (laps_of s) → refusal (text_rows s tol room) ≡ 8
      unfolding text_rows
      text_8 h = behind-file s _ p ∙ row-passes 6 _ _ t ∙ row_fails 8 _ _ (lt-ltb 800 (laps_most tol origin (laps_of s)) h)

      pub text_9 : laps_most tol origin (laps_of s) ≤ 800 → room < most_text (laps_most tol origin (laps_of s)) → refusal (text_rows s tol room) ≡ 9
      unfolding text_rows
      text_9 h k =
          behind-file s _ p ∙ row-passes 6 _ _ t ∙ row-passes 8 _ _ (le-ltb 800 (laps_most tol origin (laps_of s)) h) ∙ row_fails 9 _ _ (lt-ltb room (most_text (laps_most tol origin (laps_of s))) k)

      pub text_0 : laps_most tol origin (laps_of s) ≤ 800 → most_text (laps_most tol origin (laps_of s)) ≤ room → refusal (text_rows s tol room) ≡ 0
      unfolding text_rows
      text_0 h k =
          behind-file s _ p ∙ row-passes 6 _ _ t ∙ row-passes 8 _ _ (le-ltb 800 (laps_most tol origin (laps_of s)) h)
          ∙ row-passes 9 _ _ (le-ltb room (most_text (laps_most tol origin (laps_of s))) k) ∙ done
