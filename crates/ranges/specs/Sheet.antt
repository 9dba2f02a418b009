-- The code's own way: the three outputs of a fit in one value, and what a step leaves in it. Definitions only.
use Rattle.std.specs.Prelude.{ℕ, ◌≡◌, List}
use Rattle.geo.specs.declared.types.Point3D.{Point3D}
use Rattle.pieces.specs.declared.pieces.Rule.{Rule}
use Rattle.pieces.specs.Written.{Noted, NotedPlaced}
use Rattle.ranges.specs.declared.ranges.Stand.{Stand}
use Rattle.ranges.specs.declared.ranges.Sheet.{Sheet}
use Rattle.ranges.specs.Ranges as ranges

-- the outputs are the ones that were lent
pub record Lent (s s' : Sheet) : Type 0 where
  pub kinds : s'.kinds.ghost_name ≡ s.kinds.ghost_name
  pub nums : s'.nums.ghost_name ≡ s.nums.ghost_name
  pub notes : s'.notes.ghost_name ≡ s.notes.ghost_name

abbrev pub Placed : List Noted → ℕ → ℕ → Sheet → Sheet → Type 0
Placed xs at n s s' = NotedPlaced xs at n s.kinds.now s'.kinds.now s.nums.now s'.nums.now s.notes.now s'.notes.now

abbrev pub Looked : Rule → (ℕ → Point3D) → Stand → Stand → List ℕ → List ℕ → Sheet → Sheet → Type 0
Looked r at w w' ends ends' s s' = ranges.Looked r at w w' ends ends' s.kinds.now s'.kinds.now s.nums.now s'.nums.now s.notes.now s'.notes.now
