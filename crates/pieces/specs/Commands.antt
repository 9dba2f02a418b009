-- The commands of the pieces of a fit, and the worst step of each. Definitions only.
use Rattle.std.specs.Prelude.{ℕ, ◌-◌, ◌/◌, Bool, true, false, List, map, length, Float}
use Rattle.std.specs.Float.Ieee.{neg}
use Rattle.floats.specs.Ops.{◌⊖◌, ◌⊗◌, +0, one}
use Rattle.geo.specs.declared.types.Point3D.{Point3D}
use Rattle.geo.specs.declared.types.Command.{Command}
use Rattle.geo.specs.declared.types.Command.TheVariants.{Line, Arc}
use Rattle.geo.specs.Lent.{point_at, triple, flat}
use Rattle.circle.specs.Three.{radius_from}
use Rattle.trial.specs.Deviation.{arc_deviation}
use Rattle.simplify.specs.Thin.{thinned_points}
use Rattle.pieces.specs.declared.pieces.Rule.{Rule}
use Rattle.pieces.specs.Pieces.{distance, Shape, line, arc, Piece, pieces_in}

-- the normal of an arc: (0, 0, −1) clockwise, else (0, 0, 1)
unfoldable pub normal_of : Bool → Point3D
normal_of true = record { x = +0; y = +0; z = neg one }
normal_of false = record { x = +0; y = +0; z = one }

-- a Line ends at the piece's last point; an Arc too, its centre given from the piece's first point
unfoldable pub shaped : Point3D → Point3D → Shape → Command
shaped a b line = Line b
shaped a b (arc m clockwise) = Arc b (record { x = m.x ⊖ a.x; y = m.y ⊖ a.y; z = +0 }) (normal_of clockwise)

unfoldable pub piece_command : (ℕ → Point3D) → Piece → Command
piece_command at p = shaped (at p.from) (at p.to) p.shape

-- one command for each piece, in order
unfoldable pub fit_in : Rule → (ℕ → Point3D) → ℕ → ℕ → List Command
fit_in r at lo hi = map (piece_command at) (pieces_in r at lo hi)

-- ---- the worst step of each piece, counted in the points: "for each Arc this index, [...] and 0 for each Line" (document 02, §5). An Arc's deviation is that of its trial's centre,
-- with the radius from there to the piece's first point
unfoldable pub worst_step : (ℕ → Point3D) → ℕ → ℕ → Shape → ℕ
worst_step at lo hi line = 0
worst_step at lo hi (arc m clockwise) = (arc_deviation m (radius_from m (at lo)) at lo hi).index

unfoldable pub piece_worst : (ℕ → Point3D) → Piece → ℕ
piece_worst at p = worst_step at p.from p.to p.shape

-- "one number a command", in order
unfoldable pub worst_in : Rule → (ℕ → Point3D) → ℕ → ℕ → List ℕ
worst_in r at lo hi = map (piece_worst at) (pieces_in r at lo hi)

-- what thinning keeps of a chain of points, lent as the triples s
abbrev pub kept_of : Rule → List Float → List Point3D
kept_of r s = thinned_points (distance r) (r.tolerance ⊗ r.tolerance) (point_at s) (length s / 3)

-- the fit of a chain: what is kept, laid out as triples again, from its first point to its last; nothing where fewer than two are kept
unfoldable pub chain_fit : Rule → List Float → List Command
chain_fit r s = fit_in r (point_at (flat triple (kept_of r s))) 0 (length (kept_of r s) - 1)
