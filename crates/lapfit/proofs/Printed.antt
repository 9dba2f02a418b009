-- What the program prints, by what `list_input` answers: the listing, or the line of a refusal, whose number is at most 9. Assumes nothing.
use Rattle.std.specs.Prelude.{if◌then◌else◌}
use Prim.Native.Nat.{ℕ, zero, suc, ◌≤◌}
use mathlib.Core.Path.{◌≡◌, subst}
use mathlib.Core.Bool.{Bool, true, false}
use mathlib.Core.List.{List, ◌++◌}
use native.Mathlib.Omega.{arith}
use lib.ListN.{length, drop}
use lib.Dec.{ltb}
use Rattle.geo.specs.Outcome.{refusal, Outcome, refused, unless}
use Rattle.file.specs.Bytes.{number_at}
use Rattle.lap_rows.specs.Listing.{most_text, text_rows, list_file}
use Rattle.lap_rows.proofs.Rows.{text-number}
use Rattle.printing.proofs.Printed.{Prints}
use Rattle.printing.specs.Input.{list_input}
use Rattle.lapfit.specs.Input.{lapfit_text}

-- ---- the number of a refusal
few-unless : (k : ℕ) (text : List ℕ) (n : ℕ) → k ≤ 9 → unless k text ≡ refused n → n ≤ 9
unfolding unless
few-unless zero text n h e = let z : ◌≡◌ {A = ℕ} 0 1 = cc in absurd (omega arith)
few-unless (suc k) text n h e = let z : suc k ≡ n = cc in omega arith

few_if : (b : Bool) (o : Outcome (List ℕ)) (n : ℕ) → (o ≡ refused n → n ≤ 9) → (if b then refused 1 else o) ≡ refused n → n ≤ 9
few_if true o n h e = let z : ◌≡◌ {A = ℕ} 1 n = cc in omega arith
few_if false o n h e = h e

pub number-few : (s : List ℕ) (room n : ℕ) → list_input s room ≡ refused n → n ≤ 9
unfolding list_input list_file
number-few s room n e =
    few_if (ltb (length s) 16) (list_file (drop 8 s) (number_at s 0) room) n
    (λ q. few-unless (refusal (text_rows (drop 8 s) (number_at s 0) room)) _ n (text-number (drop 8 s) (number_at s 0) room) q) e

-- ---- the buffer has room for the text of 800 rows
pub as_printed : (s out out' : List ℕ) (n : ℕ) → length out ≡ most_text 800 → Prints (list_input s (length out)) out n out'
    → (n ≡ length (lapfit_text s)) × (out' ≡ lapfit_text s ++ drop (length (lapfit_text s)) out)
unfolding lapfit_text
as_printed s out out' n e p = subst (λ (room : ℕ). Prints (list_input s room) out n out') e p
