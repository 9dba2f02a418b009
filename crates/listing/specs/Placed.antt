-- The code's own way: what a function that lists rows leaves in two columns. Definitions only.
use Rattle.std.specs.Prelude.{ℕ, ◌≡◌, List, length}
use Rattle.std.proofs.lemmas.List.Edits.{sets}
use Rattle.listing.specs.Rows.{ListRow, kinds_of, steps_in}

-- the rows rs, n in number, written from the front on
pub record RowsPlaced (rs : List ListRow) (n : ℕ) (ks ks' ss ss' : List ℕ) : Type 0 where
  pub count : n ≡ length rs
  pub kinds : ks' ≡ sets ks 0 (kinds_of rs)
  pub steps : ss' ≡ sets ss 0 (steps_in rs)
