-- Texts of path data and the files that they are read to, or their refusals: one table. Definitions only; proofs/Worked.antt shows that it holds.
use Rattle.std.specs.Prelude.{ℕ, ◌*◌, ◌≡◌, List, [], ◌∷◌, pos}
use Prim.Native.String.{String}
use Rattle.geo.specs.declared.types.Point3D.{Point3D}
use Rattle.geo.specs.declared.types.Command.TheVariants.{Move, Line, Bezier}
use Rattle.geo.specs.Outcome.{Outcome, refused, gives}
use Rattle.file.specs.Command.{enc}
use Rattle.laps.specs.File.{encode}
use Rattle.svg_text.specs.Drawing.{place}
use Rattle.svg_text.specs.Worked.{as_bytes}
use Rattle.svg.specs.Course.{read_course}

-- a text read with ample room
abbrev pub file : String → Outcome (List ℕ)
file t = read_course (as_bytes t) 65536

-- "LAPS" and no laps
abbrev pub empty_file : List ℕ
empty_file = 0x4c ∷ 0x41 ∷ 0x50 ∷ 0x53 ∷ 0 ∷ 0 ∷ 0 ∷ 0 ∷ []

-- a point of whole units
abbrev pub spot : ℕ → ℕ → Point3D
spot x y = place (pos (1000 * x)) (pos (1000 * y))

pub record WorkedFiles : Type 0 where
  pub no_course : file "" ≡ gives empty_file
  pub too_far : file "M 1000000.001 0" ≡ refused 5
  pub rules_first : file "M 1000000.001 0," ≡ refused 14
  pub no_room : read_course (as_bytes "M 1 2") 88 ≡ refused 9
  pub exact-room : read_course (as_bytes "M 1 2") 89 ≡ gives (encode ((enc (Move (spot 1 2)) ∷ []) ∷ []))
  pub two-laps : file "M 1 2 L 3 4 M 5 6" ≡ gives (encode ((enc (Move (spot 1 2)) ∷ enc (Line (spot 3 4)) ∷ []) ∷ (enc (Move (spot 5 6)) ∷ []) ∷ []))
  pub a_curve : file "M 0 0 C 1 2 3 4 5 6" ≡ gives (encode ((enc (Move (spot 0 0)) ∷ enc (Bezier (spot 5 6) (spot 1 2) (spot 3 4)) ∷ []) ∷ []))
