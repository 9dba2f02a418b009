-- A course taken apart: chains of points, and commands that are kept as they stand. Definitions only.
-- "A chain is the points of one `flush_chain` in the Rust" (document 01). A chain has its first point from the start: (+0, +0, +0) where no command is before it, else the
-- end of the command that ended the last one. With that point alone it has no step, and comes to nothing, as a chain with no point does in the Rust.
use Rattle.std.specs.Prelude.{ℕ, ◌+◌, ◌-◌, ◌/◌, List, [], ◌∷◌, ◌++◌, length, Float}
use Rattle.geo.specs.declared.types.Point3D.{Point3D}
use Rattle.geo.specs.declared.types.Command.{Command}
use Rattle.geo.specs.Lent.{triple, flat, end_of}

-- a chain, as the triples of its points; or a command that is kept
pub data Part : Type 0 where
  chain : List Float → Part
  kept : Command → Part

-- what a command does to the chain under way: it adds points, or ends it and is kept
pub data Join : Type 0 where
  adds : List Float → Join
  ends : Join

-- the parts that a command closes, s being the chain under way
unfoldable pub closed : List Float → Command → Join → List Part
closed s c (adds ps) = []
closed s c ends = chain s ∷ kept c ∷ []

-- the chain under way behind it
unfoldable pub carried : List Float → Command → Join → List Float
carried s c (adds ps) = s ++ ps
carried s c ends = triple (end_of c)

-- the parts of the commands cs, from the position `last` and the chain s on
unfoldable pub parts_from : (Point3D → Command → Join) → Point3D → List Float → List Command → List Part
parts_from join last s [] = chain s ∷ []
parts_from join last s (c ∷ cs) = closed s c (join last c) ++ parts_from join (end_of c) (carried s c (join last c)) cs

-- the commands of a part, a chain's by `fit`
unfoldable pub part_fit : (List Float → List Command) → Part → List Command
part_fit fit (chain s) = fit s
part_fit fit (kept c) = c ∷ []

-- the most of a part: a chain's points less one; one command that is kept
unfoldable pub part_most : Part → ℕ
part_most (chain s) = length s / 3 - 1
part_most (kept c) = 1

-- of several parts
unfoldable pub most_of : List Part → ℕ
most_of [] = 0
most_of (p ∷ ps) = part_most p + most_of ps

unfoldable pub fit_of : (List Float → List Command) → List Part → List Command
fit_of fit ps = flat (part_fit fit) ps
