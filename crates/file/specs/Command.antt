-- The bytes of a command: "A command has 73 bytes: kind, nine numbers" (document 01, "The lap file"). Definitions only.
use Rattle.std.specs.Prelude.{ℕ, zero, suc, ◌+◌, ◌*◌, Bool, List, [], ◌∷◌, ◌++◌, length, get_or, take, drop, T, Float}
use Rattle.std.specs.Float.{nan, binary64}
use Rattle.std.specs.Float.Ieee.{fits}
use Rattle.geo.specs.declared.types.Point3D.{Point3D}
use Rattle.geo.specs.declared.types.Command.{Command}
use Rattle.geo.specs.Walk.{list_from}
use Rattle.geo.specs.Lent.{flat, triple, point_at, kind_of, numbers_of, command_of}
use Rattle.geo.specs.Domain.{formed}
use Rattle.file.specs.Bytes.{f64_bytes, number_at}

-- ---- reading
-- the point whose three numbers stand from `at` on
unfoldable pub point_from : List ℕ → ℕ → Point3D
point_from s at = record { x = number_at s at; y = number_at s (at + 8); z = number_at s (at + 16) }

-- the command of 73 bytes; one of an unknown kind is refused before this is asked
unfoldable pub decoded : List ℕ → Command
decoded c = command_of (get_or c 0 0) (point_from c 1) (point_from c 25) (point_from c 49)

-- the kind is known, and the numbers that it does not use are +0
unfoldable pub well_formed : List ℕ → Bool
well_formed c = formed (get_or c 0 0) (point_from c 25) (point_from c 49)

-- the n commands from `at` on, as they stand
unfoldable pub commands_at : List ℕ → ℕ → ℕ → List (List ℕ)
commands_at s at zero = []
commands_at s at (suc n) = take 73 (drop at s) ∷ commands_at s (at + 73) n

-- ---- writing
-- a kind and three points
unfoldable pub laid : ℕ → Point3D → Point3D → Point3D → List ℕ
laid k p q r = k ∷ flat f64_bytes (triple p ++ triple q ++ triple r)

-- a command
unfoldable pub enc : Command → List ℕ
enc c = kind_of c ∷ flat f64_bytes (numbers_of c)

-- the command that is lent at index i, as it stands, whatever its kind
unfoldable pub lent_bytes : List ℕ → List Float → ℕ → List ℕ
lent_bytes ks ns i = laid (get_or ks i 0) (point_at ns (3 * i)) (point_at ns (3 * i + 1)) (point_at ns (3 * i + 2))

-- all lent commands
unfoldable pub lent_lap : List ℕ → List Float → List (List ℕ)
lent_lap ks ns = list_from (lent_bytes ks ns) (length ks) 0

-- ---- what an f64 can hold: each number of a list, of a point, of a command
-- A `Float` may be any value, of any precision; a lent f64 has a pattern of 64 bits, and the value of each pattern is held (the library's `of_bits-fits`). So where a law asks
-- `Held` of lent numbers, it excludes none.
abbrev pub Held : List Float → Type 0
Held ns = (i : ℕ) → T (fits binary64 (get_or ns i nan))

abbrev pub HeldPoint : Point3D → Type 0
HeldPoint p = T (fits binary64 p.x) × T (fits binary64 p.y) × T (fits binary64 p.z)
