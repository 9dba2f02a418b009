-- The code's own way: what a reader answers, as a reading of the text's definitions. Definitions only.
use Rattle.std.specs.Prelude.{ℕ, ◌+◌, ◌*◌, ◌^◌, ◌≤◌, ◌≡◌, List, Option, Some, None}
use Rattle.std.specs.Borrow.{Bor}
use Rattle.svg_items.specs.declared.figures.Run.{Run}
use Rattle.svg_text.specs.Path.{Drawn, curve, Reading, broken, read, and_then, digits, pair_of}

-- what was read, and the text behind it
abbrev pub reading : {A : Type 0} → Option (A × Bor (List ℕ)) → Reading A
reading None = broken
reading (Some p) = read p.0 p.1.now

-- a reading with f of what was read
abbrev pub mapped : {A B : Type 0} → (A → B) → Reading A → Reading B
mapped f broken = broken
mapped f (read a t) = read (f a) t

-- a curve behind its letter, as `command` reads it
abbrev pub bent : List ℕ → Reading Drawn
bent t = and_then (and_then (pair_of (λ a b c d x y. curve a b c d x y) t) pair_of) pair_of

-- digits behind v in a text, and that they are as few as they may be
pub record IsRun (v most : ℕ) (t : List ℕ) (r : Run) : Type 0 where
  pub is : digits v most t ≡ record { value = r.value; room = r.room; rest = r.rest.now }
  pub bound : (r.value + 1) * 10 ^ r.room ≤ (v + 1) * 10 ^ most
  pub left : r.room ≤ most
