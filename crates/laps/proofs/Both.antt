-- Rows 4 and 5 in one walk: each command of all laps passes both tests exactly where each passes the one and each passes the other. Assumes nothing.
use Rattle.std.specs.Prelude.{if◌then◌else◌}
use mathlib.Core.Path.{◌≡◌, refl, sym, ap, ◌∙◌}
use mathlib.Core.Bool.{Bool, true, false, not, ◌&&◌, ◌||◌}
use mathlib.Core.List.{List, [], ◌∷◌}
use Prim.Native.Nat.{ℕ}
use Rattle.floats.proofs.Order.{and_left, and_right}
use Rattle.geo.specs.Outcome.{refusal}
use Rattle.geo.proofs.Rows.{row_fails, row-passes, done}
use Rattle.laps.specs.File.{Lap, laps_of, lacks, form_ok, domain_ok, both_ok, lap_ok, lap_tested, laps_ok}
use Rattle.laps.specs.Rows.{commands_rows}

both_then : (a b p q : Bool) → (if a && b then p && q else false) ≡ ((if a then p else false) && (if b then q else false))
both_then false b p q = refl
both_then true true p q = refl
both_then true false true q = refl
both_then true false false q = refl

lap-both : (first : Bool) (l : Lap) → lap_ok both_ok first l ≡ (lap_ok form_ok first l && lap_ok domain_ok first l)
unfolding lap_ok both_ok
lap-both first [] = refl
lap-both first (c ∷ cs) = rw (lap-both false cs) (both_then (form_ok first c) (domain_ok first c) (lap_ok form_ok false cs) (lap_ok domain_ok false cs))

laps-both : (must : Bool) (ls : List Lap) → laps_ok both_ok must ls ≡ (laps_ok form_ok must ls && laps_ok domain_ok must ls)
unfolding laps_ok lap_tested
laps-both must [] = refl
laps-both must (l ∷ ls) =
    rw (lap-both (must || not (lacks l)) l, laps-both false ls)
    (both_then (lap_ok form_ok (must || not (lacks l)) l) (lap_ok domain_ok (must || not (lacks l)) l) (laps_ok form_ok false ls) (laps_ok domain_ok false ls))

-- ---- what the tests of the code tell of the two rows
module _ (s : List ℕ) where
  abbrev formed : Bool
  formed = laps_ok form_ok true (laps_of s)

  abbrev near : Bool
  near = laps_ok domain_ok true (laps_of s)

  pub both_pass : laps_ok both_ok true (laps_of s) ≡ true → 0 ≡ refusal (commands_rows s)
  both_pass h =
      let g : (formed && near) ≡ true = sym (laps-both true (laps_of s)) ∙ h in
      sym (row-passes 4 (not formed) _ (ap not (and_left formed near g)) ∙ row-passes 5 (not near) _ (ap not (and_right formed near g)) ∙ done)

  pub form_alone : laps_ok both_ok true (laps_of s) ≡ false → formed ≡ true → 5 ≡ refusal (commands_rows s)
  form_alone h f =
      let g : (formed && near) ≡ false = sym (laps-both true (laps_of s)) ∙ h in
      let n : near ≡ false = sym (ap (λ (b : Bool). b && near) f) ∙ g in
      sym (row-passes 4 (not formed) _ (ap not f) ∙ row_fails 5 (not near) _ (ap not n))

  pub no_form : formed ≡ false → 4 ≡ refusal (commands_rows s)
  no_form f = sym (row_fails 4 (not formed) _ (ap not f))
