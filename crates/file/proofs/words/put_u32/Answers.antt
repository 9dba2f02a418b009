-- `file::words::put_u32` meets its contract: four bytes, one behind the other. Assumes nothing.
use Prim.Native.Nat.{ℕ}
use mathlib.Core.Path.{ap, ◌∙◌}
use mathlib.Core.List.{List}
use Rattle.std.proofs.Common.{slice_index_or}
use Rattle.file.proofs.Stores.{four, digit-0, digit-1, digit-2, digit-3}
use Rattle.file.proofs.words.put_u32.Goals as goal

pub returns : goal.returns
returns c =
    let a = c.args in
    let e = c.to_le_bytes.ensures in
    four a.out.now a.at a.n _ _ _ _
    (ap (λ (l : List ℕ). slice_index_or l 0 0) e ∙ digit-0 a.n)
    (ap (λ (l : List ℕ). slice_index_or l 1 0) e ∙ digit-1 a.n)
    (ap (λ (l : List ℕ). slice_index_or l 2 0) e ∙ digit-2 a.n)
    (ap (λ (l : List ℕ). slice_index_or l 3 0) e ∙ digit-3 a.n)
