-- Document 01's domain: which numbers a call takes. Definitions only.
use Rattle.std.specs.Prelude.{ℕ, zero, suc, ◌+◌, ◌*◌, ◌%◌, Bool, true, false, ◌&&◌, List, length, get_or, eqb, Float, if◌then◌else◌}
use Rattle.std.specs.Float.{nan, inf, fin}
use Rattle.floats.specs.Ops.{◌≼◌, +0, one}
use Rattle.floats.specs.Limits.{thousandth, thousand, millionth, million, trillion}
use Rattle.floats.specs.Float.{abs_of}
use Rattle.geo.specs.declared.types.Point.{Point}
use Rattle.geo.specs.declared.types.Point3D.{Point3D}
use Rattle.geo.specs.declared.types.Command.{Command}
use Rattle.geo.specs.declared.types.Command.TheVariants.{Move, Line, Arc, Bezier}
use Rattle.geo.specs.Lent.{point_at, command_at}

-- ---- how many points, and how many commands, are lent at most
abbrev pub most_points : ℕ
most_points = 2048

abbrev pub most_commands : ℕ
most_commands = 800

-- ---- single numbers: each test fails on a NaN

-- ends and controls: at most 1,000,000 from zero
unfoldable pub coordinate : Float → Bool
coordinate x = abs_of x ≼ million

-- centre offsets and normals
unfoldable pub is_finite : Float → Bool
is_finite nan = false
is_finite (inf s) = false
is_finite (fin s m e) = true

-- a centre handed in: at most 1e12 from zero
unfoldable pub centre : Float → Bool
centre x = abs_of x ≼ trillion

-- from least to most
unfoldable pub within : Float → Float → Float → Bool
within least most x = (least ≼ x) && (x ≼ most)

-- a radius, a curve's parameter, a tolerance or resolution, a squared tolerance
abbrev pub radius : Float → Bool
radius = within +0 trillion

abbrev pub parameter : Float → Bool
parameter = within +0 one

abbrev pub tolerance : Float → Bool
tolerance = within thousandth thousand

abbrev pub tolerance_sq : Float → Bool
tolerance_sq = within millionth million

-- the bit pattern 0, as which an unused number is lent
unfoldable pub is_plus_zero : Float → Bool
is_plus_zero nan = false
is_plus_zero (inf s) = false
is_plus_zero (fin true m e) = false
is_plus_zero (fin false zero e) = true
is_plus_zero (fin false (suc m) e) = false

-- ---- points and lists of numbers
unfoldable pub point_in : Point → Bool
point_in p = coordinate p.x && coordinate p.y

unfoldable pub point3_in : Point3D → Bool
point3_in p = coordinate p.x && coordinate p.y && coordinate p.z

-- whether `ok` holds at each of the n indices from i on
unfoldable pub every_from : (ℕ → Bool) → ℕ → ℕ → Bool
every_from ok zero i = true
every_from ok (suc n) i = if ok i then every_from ok n (i + 1) else false

-- of each number of a list
unfoldable pub numbers_in : (Float → Bool) → List Float → Bool
unfolding every_from
numbers_in ok s = every_from (λ i. ok (get_or s i nan)) (length s) 0

-- ---- a list of n numbers is whole items of `width` numbers each
unfoldable pub whole : ℕ → ℕ → Bool
whole width n = eqb (n % width) 0

-- ---- commands
unfoldable pub zero3 : Point3D → Bool
zero3 p = is_plus_zero p.x && is_plus_zero p.y && is_plus_zero p.z

unfoldable pub finite3 : Point3D → Bool
finite3 p = is_finite p.x && is_finite p.y && is_finite p.z

-- of a kind and the six numbers behind the end: the kind is known, and numbers that it does not use are +0
unfoldable pub formed : ℕ → Point3D → Point3D → Bool
unfolding zero3
formed zero q r = zero3 q && zero3 r
formed (suc zero) q r = zero3 q && zero3 r
formed (suc (suc zero)) q r = true
formed (suc (suc (suc zero))) q r = true
formed (suc (suc (suc (suc k)))) q r = false

-- of each of the lent commands
unfoldable pub commands_formed : List ℕ → List Float → Bool
commands_formed ks ns = every_from (λ i. formed (get_or ks i 0) (point_at ns (3 * i + 1)) (point_at ns (3 * i + 2))) (length ks) 0

-- ends and controls lie in the domain, offsets and normals are finite
unfoldable pub command_in : Command → Bool
unfolding point3_in finite3
command_in (Move p) = point3_in p
command_in (Line p) = point3_in p
command_in (Arc p o n) = point3_in p && finite3 o && finite3 n
command_in (Bezier p c d) = point3_in p && point3_in c && point3_in d

unfoldable pub commands_in : List ℕ → List Float → Bool
commands_in ks ns = every_from (λ i. command_in (command_at ks ns i)) (length ks) 0
