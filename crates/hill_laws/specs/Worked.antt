-- Laps over a hill, each a file with one lap of three commands, at a tolerance of half a metre. Definitions only; proofs/Worked.antt shows that they hold.
use Rattle.std.specs.Prelude.{ℕ, ◌≡◌, List, [], ◌∷◌, map}
use Rattle.floats.specs.Limits.{fraction}
use Rattle.geo.specs.declared.types.Point3D.{Point3D}
use Rattle.geo.specs.declared.types.Command.{Command}
use Rattle.geo.specs.declared.types.Command.TheVariants.{Move, Line}
use Rattle.geo.specs.Outcome.{gives}
use Rattle.file.specs.Command.{enc}
use Rattle.laps.specs.File.{encode}
use Rattle.lap_fit.specs.Fit.{fit_file, hill_file}
use Rattle.lap_replace.specs.Worked.{metres, shuttle-file}

-- a point of the x axis at a height
abbrev pub uphill : ℕ → ℕ → Point3D
uphill x z = record { x = metres x; y = metres 0; z = metres z }

abbrev pub alone : List Command → List ℕ
alone cs = encode (map enc cs ∷ [])

-- over a summit of 20 m, half way along 100 m; and its two ends alone
abbrev pub over : List Command
over = Move (uphill 0 0) ∷ Line (uphill 50 20) ∷ Line (uphill 100 0) ∷ []

abbrev pub through : List Command
through = Move (uphill 0 0) ∷ Line (uphill 100 0) ∷ []

-- a steady climb of 40 m, recorded half way; and its two ends alone
abbrev pub steady : List Command
steady = Move (uphill 0 0) ∷ Line (uphill 50 20) ∷ Line (uphill 100 40) ∷ []

abbrev pub slope : List Command
slope = Move (uphill 0 0) ∷ Line (uphill 100 40) ∷ []

pub record WorkedHills : Type 0 where
  -- "Fell runners find that climbs vanish": by x and y the summit lies on the Line through the hill
  pub vanished : fit_file (alone over) (fraction 1 2) 235 ≡ gives (alone through)
  pub climbed : hill_file (alone over) (fraction 1 2) 235 ≡ gives (alone over)
  -- what lies on the slope is thinned out
  pub thinned : hill_file (alone steady) (fraction 1 2) 235 ≡ gives (alone slope)
  -- the out-and-back keeps its far turn
  pub turned : hill_file shuttle-file (fraction 1 2) 235 ≡ gives shuttle-file
