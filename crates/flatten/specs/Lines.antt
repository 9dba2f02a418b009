-- The Lines that draw an Arc, one for each of its parts. Definitions only.
use Rattle.std.specs.Prelude.{ℕ, ◌+◌, List, [], ◌∷◌, length, eqb, pos, Float, if◌then◌else◌}
use Rattle.std.specs.Float.{binary64}
use Rattle.std.specs.Float.Ieee.{of_int}
use Rattle.floats.specs.Ops.{◌⊕◌, ◌⊖◌, ◌⊗◌, ◌⊘◌, ◌≺◌, +0}
use Rattle.geo.specs.declared.types.Point.{Point}
use Rattle.geo.specs.declared.types.Point3D.{Point3D}
use Rattle.geo.specs.declared.types.Command.{Command}
use Rattle.geo.specs.declared.types.Command.TheVariants.{Line}
use Rattle.flatten.specs.Parts.{centre_of, ArcPart, parts_of}

-- the height after part i of n, between those of a and b
unfoldable pub height_after : Point3D → Point3D → ℕ → ℕ → Float
height_after a b n i = a.z ⊕ (b.z ⊖ a.z) ⊗ (of_int binary64 (pos i) ⊘ of_int binary64 (pos n))

-- where part i of n ends that ends at the vector v: the last at the command's own end b, any other at the centre plus v
unfoldable pub end_after : Point → Point3D → Point3D → ℕ → ℕ → Point → Point3D
end_after m a b n i v =
    if eqb i n then b else record { x = m.x ⊕ v.x; y = m.y ⊕ v.y; z = height_after a b n i }

unfoldable pub line_after : Point → Point3D → Point3D → ℕ → ℕ → ArcPart → Command
line_after m a b n i p = Line (end_after m a b n i p.to)

-- each item with its number, counted from i on
unfoldable pub numbered : {A B : Type 0} → (ℕ → A → B) → ℕ → List A → List B
numbered f i [] = []
numbered f i (x ∷ xs) = f i x ∷ numbered f (i + 1) xs

-- the Lines of all parts, counted from 1
unfoldable pub lines_of : Point → Point3D → Point3D → List ArcPart → List Command
lines_of m a b ps = numbered (line_after m a b (length ps)) 1 ps

-- the Arc from a with the end b, the offset o and the normal d, drawn by Lines
unfoldable pub drawn : Point3D → Point3D → Point3D → Point3D → Float → List Command
drawn a b o d tol = lines_of (centre_of a o) a b (parts_of (d.z ≺ +0) tol (centre_of a o) a b)
