-- The words in which the laws of the search are put (proofs/First.antt). Definitions only.
use Rattle.std.specs.Prelude.{ℕ, ◌≤◌, ◌<◌, ◌≡◌, ◌⊎◌, true, false, Float}
use Rattle.std.specs.Float.Ieee.{is_nan}
use Rattle.floats.specs.Ops.{◌≺◌}
use Rattle.farthest.specs.declared.farthest.Farthest.{Farthest}

-- none of the squared distances f i, .., f (e - 1) is above b
abbrev pub NoneAbove : (ℕ → Float) → ℕ → ℕ → Float → Type 0
NoneAbove f i e b = (j : ℕ) → i ≤ j → j < e → (b ≺ f j) ≡ false

-- w is the first of the greatest above b among the squared distances f i, .., f (e - 1): those before it are below it, or no numbers, and none after it is above it
pub record FirstAbove (f : ℕ → Float) (i e : ℕ) (b : Float) (w : Farthest) : Type 0 where
  pub from : i ≤ w.index
  pub to : w.index < e
  pub value : w.square ≡ f w.index
  pub above : (b ≺ w.square) ≡ true
  pub before : (j : ℕ) → i ≤ j → j < w.index → ((f j ≺ w.square) ≡ true) ⊎ (is_nan (f j) ≡ true)
  pub after : (j : ℕ) → w.index < j → j < e → (w.square ≺ f j) ≡ false
