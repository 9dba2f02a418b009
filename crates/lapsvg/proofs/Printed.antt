-- What the program prints: the buffer has room for the largest file. Assumes nothing.
use Prim.Native.Nat.{ℕ}
use mathlib.Core.Path.{◌≡◌, subst}
use mathlib.Core.List.{List, ◌++◌}
use lib.ListN.{length, drop}
use Rattle.svg.specs.Course.{read_course}
use Rattle.printing.proofs.Printed.{Prints}
use Rattle.lapsvg.specs.Output.{most_file, lapsvg_bytes}

pub as_printed : (s out out' : List ℕ) (n : ℕ) → length out ≡ most_file → Prints (read_course s (length out)) out n out'
    → (n ≡ length (lapsvg_bytes s)) × (out' ≡ lapsvg_bytes s ++ drop (length (lapsvg_bytes s)) out)
unfolding lapsvg_bytes
as_printed s out out' n e p = subst (λ (room : ℕ). Prints (read_course s room) out n out') e p
