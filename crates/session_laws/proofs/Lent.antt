-- New commands that pass rows 4 and 5 of a replacement are, as a lap of a file, a lap that passes them. Assumes nothing.
use Prim.Native.Nat.{ℕ, zero, suc, ◌+◌, ◌*◌, ◌<◌}
use mathlib.Core.Path.{◌≡◌, refl, sym, ap, ◌∙◌}
use mathlib.Core.Bool.{Bool, true, false, not, ◌&&◌, ◌||◌}
use mathlib.Core.List.{List}
use native.Mathlib.Omega.{arith}
use borrow.Author.Tests.{ne_eqb}
use lib.ListN.{length, get_or}
use lib.Dec.{eqb}
use lib.Ieee.{Float}
use Rattle.geo.specs.Walk.{list_from}
use Rattle.geo.specs.Lent.{point_at, command_at}
use Rattle.geo.specs.Domain.{every_from, formed, commands_formed, command_in, commands_in}
use Rattle.file.specs.Command.{lent_bytes, lent_lap, Held}
use Rattle.laps.specs.File.{lacks, placed, form_ok, domain_ok, lap_ok, lap_tested}
use Rattle.laps.proofs.Here.{cond_false}
use Rattle.lap_checks.specs.Checks.{move_placed}
use Rattle.lap_replace.proofs.New.{decoded-lent, formed-lent, kind-lent, lacks-lent}

every_here : (ok : ℕ → Bool) (n i : ℕ) → every_from ok (suc n) i ≡ true → (ok i ≡ true) × (every_from ok n (i + 1) ≡ true)
unfolding every_from
every_here ok n i e = cond_false (ok i) _ e

module _ (ks : List ℕ) (ns : List Float) (held : Held ns) where
  -- ---- row 4
  one_lent : (first : Bool) (i : ℕ) → placed first (get_or ks i 0) ≡ true → formed (get_or ks i 0) (point_at ns (3 * i + 1)) (point_at ns (3 * i + 2)) ≡ true → form_ok first (lent_bytes ks ns i) ≡ true
  unfolding form_ok
  one_lent first i a b = rw (kind-lent ks ns held i, formed-lent ks ns held i, a, b)

  -- m: the first of them is a Move
  from-lent : (m : Bool) (n i : ℕ) (first : Bool) → first ≡ (eqb i 0 && m) → every_from (λ (k : ℕ). placed (eqb k 0 && m) (get_or ks k 0)) n i ≡ true
      → every_from (λ (k : ℕ). formed (get_or ks k 0) (point_at ns (3 * k + 1)) (point_at ns (3 * k + 2))) n i ≡ true → lap_ok form_ok first (list_from (lent_bytes ks ns) n i) ≡ true
  unfolding lap_ok list_from
  from-lent m zero i first q a b = refl
  from-lent m (suc n) i first q a b =
      let x = every_here (λ (k : ℕ). placed (eqb k 0 && m) (get_or ks k 0)) n i a in
      let y = every_here (λ (k : ℕ). formed (get_or ks k 0) (point_at ns (3 * k + 1)) (point_at ns (3 * k + 2))) n i b in
      let z : false ≡ (eqb (i + 1) 0 && m) = ap (λ (t : Bool). t && m) (sym (ne_eqb (i + 1) 0 (λ w. omega arith))) in
      rw (one_lent first i (ap (λ (t : Bool). placed t (get_or ks i 0)) q ∙ x.0) y.0) (from-lent m n (i + 1) false z x.1 y.1)

  pub lent-tested : (must : Bool) → 0 < length ks → move_placed must ks ≡ true → commands_formed ks ns ≡ true → lap_tested form_ok must (lent_lap ks ns) ≡ true
  unfolding lap_tested lent_lap move_placed commands_formed
  lent-tested must h a b =
      from-lent (must || eqb (get_or ks 0 0) 0) (length ks) 0 (must || not (lacks (list_from (lent_bytes ks ns) (length ks) 0)))
      (ap (λ (t : Bool). must || t) (lacks-lent ks ns held (length ks) h)) a b

  -- ---- row 5
  near-lent : (n i : ℕ) (first : Bool) → every_from (λ (k : ℕ). command_in (command_at ks ns k)) n i ≡ true → lap_ok domain_ok first (list_from (lent_bytes ks ns) n i) ≡ true
  unfolding lap_ok list_from domain_ok
  near-lent zero i first a = refl
  near-lent (suc n) i first a =
      let x = every_here (λ (k : ℕ). command_in (command_at ks ns k)) n i a in
      rw (decoded-lent ks ns held i, x.0) (near-lent n (i + 1) false x.1)

  pub lent_domain : (must : Bool) → commands_in ks ns ≡ true → lap_tested domain_ok must (lent_lap ks ns) ≡ true
  unfolding lap_tested lent_lap commands_in
  lent_domain must a = near-lent (length ks) 0 _ a
