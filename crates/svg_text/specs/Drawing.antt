-- A command that a text names as a command of a course (document 02, §11). Definitions only.
use Rattle.std.specs.Prelude.{ℤ}
use Rattle.floats.specs.Ops.{+0}
use Rattle.geo.specs.declared.types.Point3D.{Point3D}
use Rattle.geo.specs.declared.types.Command.{Command}
use Rattle.geo.specs.declared.types.Command.TheVariants.{Move, Line, Bezier}
use Rattle.svg_text.specs.Thousandths.{float_of}
use Rattle.svg_text.specs.Path.{Drawn, move, line, curve}

-- "z is 0"
unfoldable pub place : ℤ → ℤ → Point3D
place x y = record { x = float_of x; y = float_of y; z = +0 }

-- the text has a curve's end last, a command has it first
unfoldable pub drawn : Drawn → Command
drawn (move x y) = Move (place x y)
drawn (line x y) = Line (place x y)
drawn (curve a b c d x y) = Bezier (place x y) (place a b) (place c d)
