-- The bytes of commands as they stand. Assumes nothing.
use Prim.Native.Nat.{ℕ, zero, suc, ◌+◌, ◌*◌}
use mathlib.Core.Path.{◌≡◌, refl, sym, ap, ◌∙◌}
use mathlib.Core.List.{List, ◌++◌}
use native.Mathlib.Omega.{arith}
use lib.ListN.{take, drop}
use lib.Seq.{drop-drop, take-add}
use Rattle.file.specs.Command.{commands_at}
use Rattle.laps.specs.File.{body}

-- n commands are 73 n bytes as they stand
pub body-commands : (s : List ℕ) (at n : ℕ) → body (commands_at s at n) ≡ take (73 * n) (drop at s)
unfolding body commands_at
body-commands s at zero = refl
body-commands s at (suc n) =
    ap (λ (r : List ℕ). take 73 (drop at s) ++ r) (body-commands s (at + 73) n ∙ ap (take (73 * n)) (sym (drop-drop 73 at s)))
    ∙ sym (take-add 73 (73 * n) (drop at s)) ∙ let e : 73 + 73 * n ≡ 73 * suc n = omega arith in rw e
