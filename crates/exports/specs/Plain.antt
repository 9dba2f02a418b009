-- What a call gives to a caller that knows numbers only: 0, with the answer's numbers in lent memory, or the number of its refusal. Definitions only.
use Rattle.std.specs.Prelude.{ℕ, ◌≡◌, Bool, true, false, List, [], ◌++◌, map, length, Float, Option, Some, None, Result, Ok, Err}
use Rattle.std.proofs.lemmas.List.Edits.{sets}
use Rattle.geo.specs.declared.types.Point.{Point}
use Rattle.geo.specs.declared.types.Point3D.{Point3D}
use Rattle.geo.specs.declared.types.CubicBezier.{CubicBezier}
use Rattle.geo.specs.declared.refusal.Refusal.{Refusal}
use Rattle.geo.specs.declared.types.Command.{Command}
use Rattle.geo.specs.Lent.{pair, triple, flat, kind_of, numbers_of}
use Rattle.geo.specs.Outcome.{Outcome, refused, gives, left}
use Rattle.geo.specs.Refusal.{refused_by}
use Rattle.bezier.specs.declared.bezier.Halves.{Halves}
use Rattle.circle.specs.declared.circle.Circle.{Circle}
use Rattle.circle.specs.declared.circle.LeastSquares.{LeastSquares}

-- ---- points from their numbers
abbrev pub plane_point : Float → Float → Point
plane_point x y = record { x = x; y = y }

abbrev pub point3 : Float → Float → Float → Point3D
point3 x y z = record { x = x; y = y; z = z }

-- ---- curves as numbers: four points of two, and both parts one behind the other
abbrev pub eight : CubicBezier Point → List Float
eight q = pair q.0 ++ pair q.1 ++ pair q.2 ++ pair q.3

abbrev pub sixteen : Halves Point → List Float
sixteen h = eight h.left ++ eight h.right

-- a curve or a circle, or none: whether there is one
unfoldable pub is_found : {A : Type 0} → Option A → Bool
is_found (Some a) = true
is_found None = false

-- the fitted curve
unfoldable pub curve_numbers : Option (CubicBezier Point) → List Float
curve_numbers (Some q) = eight q
curve_numbers None = []

-- the circle through three points: centre and radius
unfoldable pub through_numbers : Option Circle → List Float
through_numbers (Some c) = triple (point3 c.center.x c.center.y c.radius)
through_numbers None = []

-- the circle of least squares: centre, radius and greatest error
unfoldable pub circle_numbers : Option LeastSquares → List Float
circle_numbers (Some c) = pair c.center ++ pair (plane_point c.radius c.error)
circle_numbers None = []

-- ---- a tolerance that is given, or else the source's
unfoldable pub tolerance_by : Bool → Float → Option Float
tolerance_by true t = Some t
tolerance_by false t = None

-- ---- an outcome in plain numbers

-- the number of the refusal, or 0
unfoldable pub number_of : {A : Type 0} → Outcome A → ℕ
number_of (refused n) = n
number_of (gives a) = 0

-- lent numbers afterwards: the value's at the front, or all as it was where the call is refused
unfoldable pub laid_plain : {A B : Type 0} → (A → List B) → List B → Outcome A → List B
laid_plain lay out (refused n) = out
laid_plain lay out (gives a) = sets out 0 (lay a)

-- a lent flag or count afterwards: what `of` says of the value, or as it was
unfoldable pub told : {A B : Type 0} → (A → B) → B → Outcome A → B
told of b (refused n) = b
told of b (gives a) = of a

-- the count that a result says, or what stood there
unfoldable pub count_or : {E : Type 0} → ℕ → Result ℕ E → ℕ
count_or count (Ok n) = n
count_or count (Err cause) = count

-- the refusal's number that a result has, or 0
abbrev pub number_in : Result ℕ ℕ → ℕ
number_in (Ok n) = 0
number_in (Err number) = number

-- ---- the promises

-- the value's numbers go to lent memory
pub record Gave {A : Type 0} (lay : A → List Float) (o : Outcome A) (out out' : List Float) (r : ℕ) : Type 0 where
  pub says : r ≡ number_of o
  pub leaves : out' ≡ laid_plain lay out o

-- the value, or a part of it, is a truth or one number, and goes to lent memory for one
pub record Told {A B : Type 0} (of : A → B) (o : Outcome A) (b b' : B) (r : ℕ) : Type 0 where
  pub says : r ≡ number_of o
  pub leaves : b' ≡ told of b o

-- a count or a refusal's number, handed on to a lent number or back
pub record HandedNumber (a : Result ℕ ℕ) (count count' : ℕ) (r : ℕ) : Type 0 where
  pub says : r ≡ number_in a
  pub leaves : count' ≡ count_or count a

-- the same of a refusal with its cause
pub record Handed (a : Result ℕ Refusal) (count count' : ℕ) (r : ℕ) : Type 0 where
  pub says : r ≡ refused_by a
  pub leaves : count' ≡ count_or count a

-- the value is a list of items, whose numbers or bytes go to lent memory and whose count to a lent number
pub record Listed {A B : Type 0} (lay : List A → List B) (o : Outcome (List A)) (out out' : List B) (count count' : ℕ) (r : ℕ) : Type 0 where
  pub says : r ≡ number_of o
  pub counts : count' ≡ told length count o
  pub leaves : out' ≡ left lay out o

-- the same of commands, whose kinds go to lent memory of their own
pub record ListedCommands (o : Outcome (List Command)) (ks ks' : List ℕ) (ns ns' : List Float) (count count' : ℕ) (r : ℕ) : Type 0 where
  pub says : r ≡ number_of o
  pub counts : count' ≡ told length count o
  pub kinds : ks' ≡ left (map kind_of) ks o
  pub numbers : ns' ≡ left (flat numbers_of) ns o
