-- What an accepted fit has, and its fitted file read back. Assumes nothing.
use Prim.Native.Nat.{ℕ, ◌≤◌}
use mathlib.Core.Path.{◌≡◌, ◌∙◌}
use mathlib.Core.Bool.{true}
use mathlib.Core.List.{List, [], ◌∷◌}
use native.Mathlib.Omega.{arith}
use lib.ListN.{length}
use Rattle.floats.specs.Ops.{◌≺◌, +0}
use Rattle.geo.specs.declared.types.Point3D.{Point3D}
use Rattle.geo.specs.Lent.{origin}
use Rattle.geo.specs.Outcome.{gives, refusal}
use Rattle.geo.proofs.Tolerance.{tolerance-positive}
use Rattle.pieces.specs.declared.pieces.Rule.{Rule}
use Rattle.geo.proofs.Rows.{unless-given}
use Rattle.laps.specs.File.{Lap, lap_count, laps_of, encode, table_ok, AllFull}
use Rattle.laps.proofs.Laps.{somes_of}
use Rattle.laps.proofs.ReadBack.{lap-count-encode, laps-encode, table-encode, Somes}
use Rattle.laps.proofs.Turns.{length_laps_of}
use Rattle.laps.proofs.Walks.{not_big}
use Rattle.laps.proofs.Whole.{length_encode}
use Rattle.lap_fit.specs.Fit.{lap_end, fit_laps, laps_most, file_fit_rows, fit_file_by}
use Rattle.lap_fit.proofs.Lap.{wholes_fit, fit-some}
use Rattle.lap_fit.proofs.Rows.{FitPassed, fit_passed}
use Rattle.lap_fit.proofs.Turns.{total_most, length_fits}

-- no fitted lap is empty
pub somes_fit : (r : Rule) → (+0 ≺ r.tolerance) ≡ true → (p : Point3D) (ls : List Lap) → Somes ls → Somes (fit_laps r p ls)
unfolding fit_laps
somes_fit r pos p [] e = tt
somes_fit r pos p (l ∷ ls) e = (fit-some r pos p l e.0, somes_fit r pos (lap_end p l) ls e.1)

pub record Accepted (r : Rule) (s : List ℕ) (room : ℕ) (f : List ℕ) : Type 0 where
  pub passed : FitPassed s r.tolerance room
  pub bytes : encode (fit_laps r origin (laps_of s)) ≡ f

pub accepted : (r : Rule) (s : List ℕ) (room : ℕ) (f : List ℕ) → fit_file_by r s room ≡ gives f → Accepted r s room f
unfolding fit_file_by
accepted r s room f e = let a = unless-given (refusal (file_fit_rows s r.tolerance room)) _ f e in record { passed = fit_passed s r.tolerance room a.0; bytes = a.1 }

-- the fitted file, read back
pub record Fitted (r : Rule) (s f : List ℕ) : Type 0 where
  pub laps : laps_of f ≡ fit_laps r origin (laps_of s)
  pub count : lap_count f ≡ lap_count s
  pub table : table_ok f ≡ true
  pub size : length f ≤ 65536
  pub long : 8 ≤ length f

pub fitted : (r : Rule) (s : List ℕ) (room : ℕ) (f : List ℕ) → Accepted r s room f → Fitted r s f
fitted r s room f a =
    let p = a.passed in
    let pos = tolerance-positive r.tolerance p.within in
    let ls : List Lap = fit_laps r origin (laps_of s) in
    let b = not_big s p.file.small in
    let n : length ls ≡ lap_count s = length_fits r origin (laps_of s) ∙ length_laps_of s in
    let t = total_most r pos origin (laps_of s) in
    let few : laps_most r.tolerance origin (laps_of s) ≤ 800 = p.few in
    let w : AllFull ls = wholes_fit r origin (laps_of s) in
    let e = length_encode ls w in
    rw (← a.bytes)
    (record {
      laps = laps-encode ls w (omega arith) (omega arith);
      count = lap-count-encode ls w (omega arith) ∙ n;
      table = table-encode ls w (omega arith) (omega arith) (omega arith) (somes_fit r pos origin (laps_of s) (somes_of s p.file.table));
      size = omega arith;
      long = omega arith;
    })
