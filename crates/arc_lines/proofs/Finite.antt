-- Every number that an accepted call writes is finite. Assumes nothing.
use Prim.Native.Nat.{ℕ, zero, suc, ◌+◌, ◌-◌, ◌^◌, ◌<◌}
use mathlib.Core.Path.{◌≡◌, refl, sym, subst}
use mathlib.Core.Logic.{inl, inr, ⊎_elim}
use mathlib.Core.Bool.{true, false}
use mathlib.Core.List.{List, [], ◌∷◌}
use native.Mathlib.Omega.{arith}
use lib.Dec.{T}
use lib.ListN.{length, get_or}
use lib.Ieee.{Float, nan, inf, fin, of_bits}
use Rattle.floats.specs.Ops.{◌≺◌, +0}
use Rattle.floats.specs.Limits.{nano}
use Rattle.floats.specs.Float.{abs_of}
use Rattle.floats.specs.Root.{plain}
use Rattle.floats.proofs.Order.{lt_or_ge}
use Rattle.floats.proofs.Bounds.{Below, AtLeast, add_below, below_more, at_least_of_abs}
use Rattle.geo.specs.declared.types.Point.{Point}
use Rattle.geo.specs.declared.types.Point3D.{Point3D}
use Rattle.geo.specs.declared.types.Command.{Command}
use Rattle.geo.specs.declared.types.Command.TheVariants.{Line}
use Rattle.geo.specs.Lent.{point_at, triple, origin, numbers_of}
use Rattle.geo.specs.Domain.{point3_in}
use Rattle.trial.specs.Traversal.{offset_of}
use Rattle.course.specs.Finite.{AllFinite, FiniteNumbers}
use Rattle.course.proofs.FiniteCenters.{Flat}
use Rattle.course.proofs.FinitePoints.{point_in}
use Rattle.course.proofs.FiniteFit.{below-is-finite, triple-finite, placed-finite, zeros_finite, nine-finite, laid_out_finite}
use Rattle.flatten.specs.Parts.{centre_of, length_by, ArcPart, arc_part}
use Rattle.flatten.specs.Lines.{height_after}
use Rattle.arc_lines.specs.Laws.{Drawing, EveryNumberFinite}
use Rattle.arc_lines.proofs.Sizes.{least_or_small}
use Rattle.arc_lines.proofs.Sided.{not_both_small}
use Rattle.arc_lines.proofs.Accepted.{Drawable, call_drawable, centre-x, centre-y, vector_x, vector_y}
use Rattle.arc_lines.proofs.Heights.{height_finite}
use Rattle.arc_lines.proofs.Lengths.{vector_length_plain, vector_length_below}
use Rattle.arc_lines.proofs.Stretched.{Radius, plain-sign}
use Rattle.arc_lines.proofs.Middles.{EndsInside}
use Rattle.arc_lines.proofs.Starts.{Long, turns-inside}
use Rattle.arc_lines.proofs.Drawing.{call_right}

-- ---- a vector that is 1e-9 long or longer
nano-least : AtLeast 30 nano
unfolding of_bits
nano-least = omega arith

nano-plain : T (plain nano)
unfolding plain of_bits
nano-plain = tt

plain_abs : (x : Float) → T (plain x) → abs_of x ≡ x
unfolding plain abs_of
plain_abs nan p = absurd p
plain_abs (inf s) p = absurd p
plain_abs (fin true m e) p = absurd p
plain_abs (fin false m e) p = refl

vector_radius : (u : Point) → Flat 22 u → (length_by u ≺ nano) ≡ false → Radius (length_by u)
unfolding length_by
vector_radius u U h =
    let p = vector_length_plain 22 (omega arith) u.x u.y U.in_x U.in_y in
    let b : Below 23 (length_by u) = vector_length_below 22 (omega arith) u.x u.y U.in_x U.in_y in
    record {
      below = b;
      least = at_least_of_abs 30 (2 ^ 23) (length_by u) nano b.within nano-plain (subst (λ (z : Float). (z ≺ nano) ≡ false) (sym (plain_abs (length_by u) p)) h) nano-least;
      plus = plain-sign (length_by u) p;
    }

vector_long : (u : Point) → Flat 22 u → (length_by u ≺ nano) ≡ false → Long u
unfolding length_by
vector_long u U h =
    record {
      bounds = U;
      large =
          ⊎_elim inl
          (λ s. ⊎_elim inr (λ t. absurd (not_both_small u.x u.y U.in_x U.in_y h s t)) (least_or_small 31 (2 ^ 22) u.y U.in_y.within))
          (least_or_small 31 (2 ^ 22) u.x U.in_x.within);
    }

-- ---- the Lines
ends_at : (ps : List ArcPart) (i : ℕ) (p : ArcPart) → i < length ps → EndsInside ps → Flat 24 (get_or ps i p).to
ends_at [] i p h e = absurd (omega arith)
ends_at (q ∷ ps) zero p h e = e.0
ends_at (q ∷ ps) (suc i) p h e = ends_at ps i p (omega arith) e.1

line-finite : (p : Point3D) → AllFinite (triple p) → AllFinite (numbers_of (Line p))
unfolding numbers_of
line-finite p h = nine-finite p origin origin h zeros_finite zeros_finite

each-finite : (cs : List Command) → ((i : ℕ) (c : Command) → i < length cs → AllFinite (numbers_of (get_or cs i c))) → FiniteNumbers cs
each-finite [] h = tt
each-finite (c ∷ cs) h = (h 0 c (omega arith), each-finite cs (λ i d l. h (suc i) d (omega arith)))

nowhere : ArcPart
nowhere = arc_part (record { x = +0; y = +0 }) (record { x = +0; y = +0 })

module _ (a b o d : Point3D) (tol : Float) (cs : List Command) (A : Drawable a b o) (D : Drawing a b o d tol cs) where
  vector_in : (p : Point3D) → point3_in p ≡ true → Flat 22 (offset_of (centre_of a o) p)
  vector_in p i = record { in_x = vector_x a b o A p i; in_y = vector_y a b o A p i }

  parts-inside : EndsInside D.parts
  parts-inside =
      let u = offset_of (centre_of a o) a in
      let w = offset_of (centre_of a o) b in
      let U = vector_in a A.start_in in
      let W = vector_in b A.end_in in
      turns-inside _ (length_by u) _ (vector_radius u U A.first_long) D.turns u w D.parts (vector_long u U A.first_long) (vector_long w W A.last_long) D.before D.turned

  line_at : (i : ℕ) (c : Command) → i < length cs → AllFinite (numbers_of (get_or cs i c))
  unfolding height_after
  line_at i c h =
      let n = D.counted in
      let f = D.at_most in
      ⊎_elim
      (λ l.
      let v = ends_at D.parts i nowhere (omega arith) parts-inside in
      let x = add_below {k = 24} (omega arith) (below_more 24 (omega arith) (centre-x a b o A)) v.in_x in
      let y = add_below {k = 24} (omega arith) (below_more 24 (omega arith) (centre-y a b o A)) v.in_y in
      let z = height_finite a b (length cs) (i + 1) A.start_in A.end_in (omega arith) f (omega arith) in
      subst (λ (e : Command). AllFinite (numbers_of e)) (sym (D.each i c nowhere l)) (line-finite _ (triple-finite _ (below-is-finite x) (below-is-finite y) z)))
      (λ l.
      let q : length cs - 1 ≡ i = omega arith in
      subst (λ (e : Command). AllFinite (numbers_of e)) (sym (subst (λ (j : ℕ). get_or cs j c ≡ Line b) q (D.last c))) (line-finite b (placed-finite (point_in b A.end_in))))
      (lt_or_ge (i + 1) (length cs))

pub call_finite : EveryNumberFinite
call_finite kind s a tol kinds numbers cs e =
    laid_out_finite cs
    (each-finite cs
    (line_at a (point_at s 0) (point_at s 1) (point_at s 2) tol cs (call_drawable kind s a tol kinds numbers cs e) (call_right kind s a tol kinds numbers cs e)))
