-- The new commands as a lap of a file: read back they are the lent commands, and its rows are theirs. Assumes nothing.
use Prim.Native.Nat.{ℕ, zero, suc, ◌+◌, ◌*◌, ◌<◌}
use mathlib.Core.Path.{◌≡◌, refl, sym, ap, ◌∙◌}
use mathlib.Core.Bool.{Bool, true, false, not, ◌&&◌, ◌||◌}
use mathlib.Core.List.{List, map}
use native.Mathlib.Omega.{arith}
use borrow.Author.Tests.{ne_eqb}
use lib.ListN.{length, get_or}
use lib.Dec.{eqb}
use lib.Ieee.{Float}
use Rattle.floats.proofs.Order.{and_left, and_right}
use Rattle.geo.specs.declared.types.Point3D.{Point3D}
use Rattle.geo.specs.declared.types.Command.{Command}
use Rattle.geo.specs.Walk.{list_from}
use Rattle.geo.specs.Lent.{point_at, command_at, commands_from}
use Rattle.geo.specs.Domain.{every_from, formed, commands_formed, command_in, commands_in}
use Rattle.geo.proofs.Walk.{list_length}
use Rattle.file.specs.Command.{decoded, well_formed, laid, enc, lent_bytes, lent_lap, Held, HeldPoint}
use Rattle.file.proofs.RoundTrip.{decoded-laid, formed-laid}
use Rattle.pieces.specs.declared.pieces.Rule.{Rule}
use Rattle.course.specs.Course.{fit_on, most_on, end_on, lent_course}
use Rattle.laps.specs.File.{lacks, placed, form_ok, domain_ok, lap_ok, lap_tested}
use Rattle.laps.proofs.Here.{cond_false}
use Rattle.lap_fit.specs.Fit.{lap_end, fit_lap, most_lap, fit_new}
use Rattle.lap_checks.specs.Checks.{move_placed}

pub length_lent : (ks : List ℕ) (ns : List Float) → length (lent_lap ks ns) ≡ length ks
unfolding lent_lap
length_lent ks ns = list_length (lent_bytes ks ns) (length ks) 0

module _ (ks : List ℕ) (ns : List Float) (held : Held ns) where
  point-held : (i : ℕ) → HeldPoint (point_at ns i)
  unfolding point_at
  point-held i = (held (3 * i), held (3 * i + 1), held (3 * i + 2))

  pub decoded-lent : (i : ℕ) → decoded (lent_bytes ks ns i) ≡ command_at ks ns i
  unfolding lent_bytes command_at
  decoded-lent i = decoded-laid (get_or ks i 0) (point_at ns (3 * i)) (point_at ns (3 * i + 1)) (point_at ns (3 * i + 2)) (point-held (3 * i)) (point-held (3 * i + 1)) (point-held (3 * i + 2))

  pub formed-lent : (i : ℕ) → well_formed (lent_bytes ks ns i) ≡ formed (get_or ks i 0) (point_at ns (3 * i + 1)) (point_at ns (3 * i + 2))
  unfolding lent_bytes
  formed-lent i = formed-laid (get_or ks i 0) (point_at ns (3 * i)) (point_at ns (3 * i + 1)) (point_at ns (3 * i + 2)) (point-held (3 * i + 1)) (point-held (3 * i + 2))

  pub kind-lent : (i : ℕ) → get_or (lent_bytes ks ns i) 0 0 ≡ get_or ks i 0
  unfolding lent_bytes laid
  kind-lent i = refl

  -- ---- the commands
  decoded-from : (n i : ℕ) → map decoded (list_from (lent_bytes ks ns) n i) ≡ commands_from ks ns n i
  unfolding list_from commands_from
  decoded-from zero i = refl
  decoded-from (suc n) i = rw (decoded-lent i, decoded-from n (i + 1))

  pub lent_course_lem : map decoded (lent_lap ks ns) ≡ lent_course ks ns
  unfolding lent_lap
  lent_course_lem = decoded-from (length ks) 0

  pub lent-most : (tol : Float) (p : Point3D) → most_lap tol p (lent_lap ks ns) ≡ most_on tol p (lent_course ks ns)
  unfolding most_lap
  lent-most tol p = ap (most_on tol p) lent_course_lem

  pub lent-fit : (r : Rule) (p : Point3D) → fit_lap r p (lent_lap ks ns) ≡ fit_new r p ks ns
  unfolding fit_lap fit_new
  lent-fit r p = ap (λ (cs : List Command). map enc (fit_on r p cs)) lent_course_lem

  pub lent-end : (p : Point3D) → lap_end p (lent_lap ks ns) ≡ end_on p (lent_course ks ns)
  unfolding lap_end
  lent-end p = ap (end_on p) lent_course_lem

  -- ---- row 4
  every_more : (ok : ℕ → Bool) (n i : ℕ) → ok i ≡ true → every_from ok n (i + 1) ≡ true → every_from ok (suc n) i ≡ true
  unfolding every_from
  every_more ok n i h e = rw h e

  every_none : (ok : ℕ → Bool) (i : ℕ) → every_from ok zero i ≡ true
  unfolding every_from
  every_none ok i = refl

  one-formed : (first : Bool) (i : ℕ) → form_ok first (lent_bytes ks ns i) ≡ true
      → (placed first (get_or ks i 0) ≡ true) × (formed (get_or ks i 0) (point_at ns (3 * i + 1)) (point_at ns (3 * i + 2)) ≡ true)
  unfolding form_ok
  one-formed first i e =
      let a = and_left (placed first (get_or (lent_bytes ks ns i) 0 0)) _ e in
      let b = and_right (placed first (get_or (lent_bytes ks ns i) 0 0)) _ e in
      (ap (placed first) (sym (kind-lent i)) ∙ a, sym (formed-lent i) ∙ b)

  -- m: the first of them is a Move
  formed-from : (m : Bool) (n i : ℕ) (first : Bool) → first ≡ (eqb i 0 && m) → lap_ok form_ok first (list_from (lent_bytes ks ns) n i) ≡ true
      → (every_from (λ (k : ℕ). placed (eqb k 0 && m) (get_or ks k 0)) n i ≡ true) × (every_from (λ (k : ℕ). formed (get_or ks k 0) (point_at ns (3 * k + 1)) (point_at ns (3 * k + 2))) n i ≡ true)
  unfolding lap_ok list_from
  formed-from m zero i first q e = (every_none _ i, every_none _ i)
  formed-from m (suc n) i first q e =
      let a = cond_false (form_ok first (lent_bytes ks ns i)) _ e in
      let b = one-formed first i a.0 in
      let z : false ≡ (eqb (i + 1) 0 && m) = ap (λ (t : Bool). t && m) (sym (ne_eqb (i + 1) 0 (λ w. omega arith))) in
      let c = formed-from m n (i + 1) false z a.1 in
      (every_more _ n i (ap (λ (t : Bool). placed t (get_or ks i 0)) (sym q) ∙ b.0) c.0, every_more _ n i b.1 c.1)

  pub lacks-lent : (n : ℕ) → 0 < n → not (lacks (list_from (lent_bytes ks ns) n 0)) ≡ eqb (get_or ks 0 0) 0
  unfolding lacks list_from
  lacks-lent zero h = absurd (omega arith)
  lacks-lent (suc n) h = ap (λ (k : ℕ). not (not (eqb k 0))) (kind-lent 0) ∙ twice (eqb (get_or ks 0 0) 0)
    where
      twice : (b : Bool) → not (not b) ≡ b
      twice true = refl
      twice false = refl

  pub lent-formed : (must : Bool) → 0 < length ks → lap_tested form_ok must (lent_lap ks ns) ≡ true → (move_placed must ks ≡ true) × (commands_formed ks ns ≡ true)
  unfolding lap_tested lent_lap move_placed commands_formed
  lent-formed must h e =
      formed-from (must || eqb (get_or ks 0 0) 0) (length ks) 0 (must || not (lacks (list_from (lent_bytes ks ns) (length ks) 0)))
      (ap (λ (b : Bool). must || b) (lacks-lent (length ks) h)) e

  -- ---- row 5
  near-from : (n i : ℕ) (first : Bool) → lap_ok domain_ok first (list_from (lent_bytes ks ns) n i) ≡ true → every_from (λ (k : ℕ). command_in (command_at ks ns k)) n i ≡ true
  unfolding lap_ok list_from domain_ok
  near-from zero i first e = every_none _ i
  near-from (suc n) i first e =
      let a = cond_false (command_in (decoded (lent_bytes ks ns i))) _ e in
      every_more _ n i (ap command_in (sym (decoded-lent i)) ∙ a.0) (near-from n (i + 1) false a.1)

  pub lent-near : (must : Bool) → lap_tested domain_ok must (lent_lap ks ns) ≡ true → commands_in ks ns ≡ true
  unfolding lap_tested lent_lap commands_in
  lent-near must e = near-from (length ks) 0 _ e
