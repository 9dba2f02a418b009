-- How points and commands are lent: points as numbers one after the other, commands as kinds and nine numbers each (document 01, "Domain"). Definitions only.
use Rattle.std.specs.Prelude.{ℕ, zero, suc, ◌+◌, ◌*◌, List, [], ◌∷◌, ◌++◌, get_or, Float}
use Rattle.std.specs.Float.{nan}
use Rattle.floats.specs.Ops.{+0}
use Rattle.geo.specs.declared.types.Point.{Point}
use Rattle.geo.specs.declared.types.Point3D.{Point3D}
use Rattle.geo.specs.declared.types.Command.{Command}
use Rattle.geo.specs.declared.types.Command.TheVariants.{Move, Line, Arc, Bezier}

-- ---- points, lent as pairs and as triples
unfoldable pub pair_at : List Float → ℕ → Point
pair_at s i = record { x = get_or s (2 * i) nan; y = get_or s (2 * i + 1) nan }

unfoldable pub point_at : List Float → ℕ → Point3D
point_at s i = record { x = get_or s (3 * i) nan; y = get_or s (3 * i + 1) nan; z = get_or s (3 * i + 2) nan }

abbrev pub pair : Point → List Float
pair p = p.x ∷ p.y ∷ []

abbrev pub triple : Point3D → List Float
triple p = p.x ∷ p.y ∷ p.z ∷ []

-- each item laid out, one behind the other
unfoldable pub flat : {A B : Type 0} → (A → List B) → List A → List B
flat f [] = []
flat f (x ∷ xs) = f x ++ flat f xs

-- ---- commands
unfoldable pub end_of : Command → Point3D
end_of (Move p) = p
end_of (Line p) = p
end_of (Arc p o n) = p
end_of (Bezier p c d) = p

unfoldable pub kind_of : Command → ℕ
kind_of (Move p) = 0
kind_of (Line p) = 1
kind_of (Arc p o n) = 2
kind_of (Bezier p c d) = 3

abbrev pub origin : Point3D
origin = record { x = +0; y = +0; z = +0 }

-- the nine numbers of a command: its end, and then its centre offset and normal, or its controls; unused ones are +0
unfoldable pub numbers_of : Command → List Float
numbers_of (Move p) = triple p ++ triple origin ++ triple origin
numbers_of (Line p) = triple p ++ triple origin ++ triple origin
numbers_of (Arc p o n) = triple p ++ triple o ++ triple n
numbers_of (Bezier p c d) = triple p ++ triple c ++ triple d

-- the command of a kind and three points; a kind above 3 is no command's, and is refused before this is asked
unfoldable pub command_of : ℕ → Point3D → Point3D → Point3D → Command
command_of zero p q r = Move p
command_of (suc zero) p q r = Line p
command_of (suc (suc zero)) p q r = Arc p q r
command_of (suc (suc (suc k))) p q r = Bezier p q r

-- the i-th command of kinds and numbers
unfoldable pub command_at : List ℕ → List Float → ℕ → Command
unfolding command_of point_at
command_at ks ns i = command_of (get_or ks i 0) (point_at ns (3 * i)) (point_at ns (3 * i + 1)) (point_at ns (3 * i + 2))

-- the n commands from index i on
unfoldable pub commands_from : List ℕ → List Float → ℕ → ℕ → List Command
unfolding command_at
commands_from ks ns zero i = []
commands_from ks ns (suc n) i = command_at ks ns i ∷ commands_from ks ns n (i + 1)
