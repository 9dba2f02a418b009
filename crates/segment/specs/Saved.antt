-- The code's own way: a foot that is clamped costs no division. What a reader has to believe stands in Segment.antt. Definitions only.
use Rattle.std.specs.Prelude.{◌≡◌, Bool, false, List, Float, if◌then◌else◌}
use Rattle.floats.specs.Ops.{◌⊕◌, ◌⊖◌, ◌⊗◌, ◌⊘◌, ◌≺◌, ◌≼◌, +0}
use Rattle.geo.specs.declared.types.Point3D.{Point3D}
use Rattle.segment.specs.declared.segment.Segment.{Segment}
use Rattle.segment.specs.Segment.{Axis, degenerate, sum_over, dot_on, parameter_of, from_foot}
use Rattle.segment.specs.Axes.{HeldOn}

-- the squared distance of p from the segment's end start + 1 × (end − start), which rounding can part from b
abbrev pub from_end : List Axis → Point3D → Point3D → Point3D → Float
from_end cs a b p = sum_over cs (λ c. (c p ⊖ (c a ⊕ (c b ⊖ c a))) ⊗ (c p ⊖ (c a ⊕ (c b ⊖ c a))))

-- of a point whose dot product is `along`, on a chord that is not degenerate: strictly inside the segment by one division; from its end; from its start. `level` is +0, or a NaN
-- where the chord's square is not finite: then no test by it holds
abbrev pub besides : Float → Float → Float → (Float → Float) → Float → Float → Float
besides level along square foot past before =
    if level ≺ along then if along ≺ square then foot (along ⊘ square) else past
    else if along ≼ level then before
    else foot (parameter_of along square)

abbrev pub saved_on : List Axis → Point3D → Point3D → Point3D → Float
saved_on cs a b p =
    if dot_on cs a b b ≺ degenerate then dot_on cs a p p
    else besides (+0 ⊗ dot_on cs a b b) (dot_on cs a p b) (dot_on cs a b b) (from_foot cs a b p) (from_end cs a b p) (dot_on cs a p p)

-- whether the foot of a point with that dot product lies strictly inside
unfoldable pub is_inside : Float → Float → Float → Bool
is_inside square level along = if square ≺ degenerate then false else if level ≺ along then along ≺ square else false

-- the segment from a to b by the coordinates cs, of which `make` makes points
abbrev pub segment_of : {V : Type 0} → List Axis → ((Axis → Float) → V) → Point3D → Point3D → Segment V
segment_of cs make a b = record {
  start = make (λ c. c a);
  chord = make (λ c. c b ⊖ c a);
  end = make (λ c. c a ⊕ (c b ⊖ c a));
  square = dot_on cs a b b;
  level = +0 ⊗ dot_on cs a b b;
}

-- s is the segment from a to b, and the start's coordinates are values of the format
pub record Laid {V : Type 0} (cs : List Axis) (make : (Axis → Float) → V) (a b : Point3D) (s : Segment V) : Type 0 where
  pub is : s ≡ segment_of cs make a b
  pub held : HeldOn cs a
