-- What an accepted call's arguments are: points and an offset in the domain, both radii 1e-9 or longer; and so its vectors are bounded, and beside each other. Assumes nothing.
use Prim.Native.Nat.{ℕ}
use mathlib.Core.Path.{◌≡◌, subst}
use mathlib.Core.Bool.{Bool, true, false, not, ◌&&◌}
use mathlib.Core.List.{List}
use native.Mathlib.Omega.{arith}
use borrow.Author.Tests.{eqb-true, not-true, not-false}
use lib.Dec.{eqb}
use lib.Ieee.{Float}
use Rattle.floats.specs.Ops.{◌≺◌, ◌⊖◌}
use Rattle.floats.specs.Limits.{nano}
use Rattle.floats.specs.Float.{abs_of}
use Rattle.floats.proofs.Order.{and_left, and_right}
use Rattle.floats.proofs.Bounds.{Below, below_more, add_below, sub_below}
use Rattle.geo.specs.declared.types.Point3D.{Point3D}
use Rattle.geo.specs.declared.types.Command.{Command}
use Rattle.geo.specs.Lent.{point_at, command_of}
use Rattle.geo.specs.Domain.{point3_in, finite3, command_in}
use Rattle.geo.specs.Outcome.{refusal, gives}
use Rattle.geo.proofs.Rows.{row_passed, unless-given}
use Rattle.trial.specs.Traversal.{offset_of}
use Rattle.course.proofs.FinitePoints.{point_in}
use Rattle.flatten.specs.Parts.{centre_of, length_by}
use Rattle.flatten.specs.Lines.{drawn}
use Rattle.flatten.specs.Calls.{upright, near_radii, round_by, drawable, flatten_rows, flatten_call}
use Rattle.arc_lines.proofs.Quarters.{Sided}
use Rattle.arc_lines.proofs.Sided.{sided}

-- the Arc from a with the end b and the offset o
pub record Drawable (a b o : Point3D) : Type 0 where
  pub start_in : point3_in a ≡ true
  pub end_in : point3_in b ≡ true
  pub offset_in : point3_in o ≡ true
  pub first_long : (length_by (offset_of (centre_of a o) a) ≺ nano) ≡ false
  pub last_long : (length_by (offset_of (centre_of a o) b) ≺ nano) ≡ false

arc-end : (kind : ℕ) (b o d : Point3D) → kind ≡ 2 → command_in (command_of kind b o d) ≡ true → point3_in b ≡ true
unfolding command_in command_of
arc-end kind b o d e h =
    let g : (point3_in b && finite3 o && finite3 d) ≡ true = subst (λ (k : ℕ). command_in (command_of k b o d) ≡ true) e h in
    and_left (point3_in b) (finite3 o) (and_left (point3_in b && finite3 o) (finite3 d) g)

near_long : (tol r s : Float) → near_radii tol r s ≡ true → ((r ≺ nano) ≡ false) × ((s ≺ nano) ≡ false)
unfolding near_radii
near_long tol r s h = (
  not-true (r ≺ nano) (and_left (not (r ≺ nano)) (not (s ≺ nano) && (abs_of (s ⊖ r) ≺ tol)) h),
  not-true (s ≺ nano) (and_left (not (s ≺ nano)) (abs_of (s ⊖ r) ≺ tol) (and_right (not (r ≺ nano)) (not (s ≺ nano) && (abs_of (s ⊖ r) ≺ tol)) h)),
)

pub call_drawable : (kind : ℕ) (s : List Float) (a : Point3D) (tol : Float) (kinds numbers : ℕ) (cs : List Command) → flatten_call kind s a tol kinds numbers ≡ gives cs
    → Drawable a (point_at s 0) (point_at s 1)
unfolding flatten_call flatten_rows drawable round_by
call_drawable kind s a tol kinds numbers cs e =
    let b = point_at s 0 in
    let o = point_at s 1 in
    let d = point_at s 2 in
    let z = (unless-given (refusal (flatten_rows kind s a tol kinds numbers)) (drawn a b o d tol) cs e).0 in
    let r₁ = row_passed 0 _ _ z in
    let r₂ = row_passed 0 _ _ r₁.1 in
    let r₃ = row_passed 3 _ _ r₂.1 in
    let r₄ = row_passed 4 _ _ r₃.1 in
    let r₅ = row_passed 4 _ _ r₄.1 in
    let r₆ = row_passed 5 _ _ r₅.1 in
    let r₇ = row_passed 10 _ _ r₆.1 in
    let k = not-false _ r₇.0 in
    let k₁ = and_right (eqb kind 2) _ k in
    let k₂ = and_right (upright d) _ k₁ in
    let m = centre_of a o in
    let k₃ = near_long tol (length_by (offset_of m a)) (length_by (offset_of m b)) (and_right (point3_in o) (round_by tol m a b) k₂) in
    record {
      start_in = not-false _ r₅.0;
      end_in = arc-end kind b o d (eqb-true kind 2 (and_left (eqb kind 2) _ k)) (not-false _ r₄.0);
      offset_in = and_left (point3_in o) _ k₂;
      first_long = k₃.0;
      last_long = k₃.1;
    }

-- ---- its vectors
module _ (a b o : Point3D) (h : Drawable a b o) where
  pub centre-x : Below 21 (centre_of a o).x
  unfolding centre_of
  centre-x = add_below (omega arith) (point_in a h.start_in).in_x (point_in o h.offset_in).in_x

  pub centre-y : Below 21 (centre_of a o).y
  unfolding centre_of
  centre-y = add_below (omega arith) (point_in a h.start_in).in_y (point_in o h.offset_in).in_y

  pub vector_x : (p : Point3D) → point3_in p ≡ true → Below 22 (offset_of (centre_of a o) p).x
  unfolding offset_of
  vector_x p i = sub_below (omega arith) (below_more 21 (omega arith) (point_in p i).in_x) centre-x

  pub vector_y : (p : Point3D) → point3_in p ≡ true → Below 22 (offset_of (centre_of a o) p).y
  unfolding offset_of
  vector_y p i = sub_below (omega arith) (below_more 21 (omega arith) (point_in p i).in_y) centre-y

  -- The cross or the dot of the first and the last vector lies above or below zero.
  pub vectors_sided : (clockwise : Bool) → Sided clockwise (offset_of (centre_of a o) a) (offset_of (centre_of a o) b)
  vectors_sided clockwise =
      sided (offset_of (centre_of a o) a) (offset_of (centre_of a o) b) (vector_x a h.start_in) (vector_y a h.start_in) (vector_x b h.end_in) (vector_y b h.end_in)
      h.first_long h.last_long clockwise
