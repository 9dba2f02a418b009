-- What the Lines of an Arc are: all that the marker checks, together, of every call that is accepted. Assumes nothing.
use Prim.Native.Nat.{ℕ, zero, suc, ◌+◌, ◌-◌, ◌*◌, ◌≤◌, ◌<◌}
use mathlib.Core.Path.{◌≡◌, refl, sym, ap, ◌∙◌, subst}
use mathlib.Core.Bool.{Bool}
use mathlib.Core.List.{List, [], ◌∷◌}
use native.Mathlib.Omega.{arith}
use borrow.Author.Tests.{eq-eqb, ne_eqb}
use lib.ListN.{length, get_or}
use lib.Ieee.{Float}
use Rattle.floats.specs.Ops.{◌⊗◌, ◌≺◌, +0}
use Rattle.floats.specs.Limits.{quarter}
use Rattle.geo.specs.declared.types.Point.{Point}
use Rattle.geo.specs.declared.types.Point3D.{Point3D}
use Rattle.geo.specs.declared.types.Command.{Command}
use Rattle.geo.specs.declared.types.Command.TheVariants.{Line}
use Rattle.geo.specs.Lent.{point_at}
use Rattle.geo.specs.Outcome.{refusal, gives}
use Rattle.geo.proofs.Rows.{unless-given}
use Rattle.trial.specs.Traversal.{offset_of, dot2}
use Rattle.flatten.specs.Parts.{most_halvings, centre_of, length_by, quarter_turn, onward, turns_before, ArcPart, halved, quartered, parts_between, parts_of}
use Rattle.flatten.specs.Lines.{height_after, end_after, line_after, numbered, lines_of, drawn}
use Rattle.flatten.specs.Calls.{flatten_rows, flatten_call}
use Rattle.flatten.proofs.Parts.{turns-few, quartered-some, quartered-few}
use Rattle.flatten.proofs.Lines.{numbered_length}
use Rattle.arc_lines.specs.Laws.{Chained, TurnsDrawn, line_to, Drawing}
use Rattle.arc_lines.proofs.Halving.{chained-both, quarter-drawn}
use Rattle.arc_lines.proofs.Quarters.{Sided, turns-before-end}
use Rattle.arc_lines.proofs.Accepted.{call_drawable, vectors_sided}

-- ---- parts
module _ (clockwise : Bool) (r limit : Float) where
  -- Order: the parts follow one another from the first vector to the last.
  pub quartered-chained : (k : ℕ) (u w : Point) → Chained u (quartered clockwise r limit k u w) w
  unfolding quartered
  quartered-chained zero u w = (quarter-drawn r limit u w).chained
  quartered-chained (suc k) u w =
      let v = quarter_turn clockwise u in
      chained-both u v w (halved r limit most_halvings u v) (quartered clockwise r limit k v w) (quarter-drawn r limit u v).chained (quartered-chained k v w)

  -- Each quarter turn, and the rest, is drawn as a quarter is.
  pub quartered-turns : (k : ℕ) (u w : Point) → TurnsDrawn clockwise r limit k u w (quartered clockwise r limit k u w)
  unfolding quartered
  quartered-turns zero u w = quarter-drawn r limit u w
  quartered-turns (suc k) u w =
      let v = quarter_turn clockwise u in
      record {
        front = halved r limit most_halvings u v;
        rest = quartered clockwise r limit k v w;
        joined = refl;
        drawn = quarter-drawn r limit u v;
        others = quartered-turns k v w;
      }

-- ---- Lines
module _ {A B : Type 0} (f : ℕ → A → B) where
  -- the i-th item, numbered from n on
  pub numbered_at : (n i : ℕ) (xs : List A) (c : B) (p : A) → i < length xs → get_or (numbered f n xs) i c ≡ f (n + i) (get_or xs i p)
  unfolding numbered
  numbered_at n i [] c p h = absurd (omega arith)
  numbered_at n zero (x ∷ xs) c p h = let e : n + 0 ≡ n = omega arith in rw e
  numbered_at n (suc i) (x ∷ xs) c p h = let e : n + 1 + i ≡ n + suc i = omega arith in numbered_at (n + 1) i xs c p (omega arith) ∙ rw e

module _ (m : Point) (a b : Point3D) where
  line_before : (n i : ℕ) (p : ArcPart) → i < n → line_after m a b n i p ≡ line_to m a b n i p.to
  unfolding line_after end_after height_after
  line_before n i p h = rw (ne_eqb i n (λ e. omega (arith, e)))

  line-last : (n i : ℕ) (p : ArcPart) → i ≡ n → line_after m a b n i p ≡ Line b
  unfolding line_after end_after
  line-last n i p h = rw (eq-eqb i n h)

  pub each_line : (ps : List ArcPart) (i : ℕ) (c : Command) (p : ArcPart) → i + 1 < length ps
      → get_or (lines_of m a b ps) i c ≡ line_to m a b (length ps) (i + 1) (get_or ps i p).to
  unfolding lines_of
  each_line ps i c p h =
      let n = length ps in
      let e : 1 + i ≡ i + 1 = omega arith in
      numbered_at (line_after m a b n) 1 i ps c p (omega arith) ∙ ap (λ (j : ℕ). line_after m a b n j (get_or ps i p)) e ∙ line_before n (i + 1) (get_or ps i p) h

  pub last_line : (p : ArcPart) (ps : List ArcPart) (c : Command) → get_or (lines_of m a b (p ∷ ps)) (length (p ∷ ps) - 1) c ≡ Line b
  unfolding lines_of
  last_line p ps c =
      let n = length (p ∷ ps) in
      let e : 1 + (n - 1) ≡ n = omega arith in
      numbered_at (line_after m a b n) 1 (n - 1) (p ∷ ps) c p (omega arith) ∙ line-last n (1 + (n - 1)) (get_or (p ∷ ps) (n - 1) p) e

last_of : (m : Point) (a b : Point3D) (ps : List ArcPart) (c : Command) → 1 ≤ length ps → get_or (lines_of m a b ps) (length ps - 1) c ≡ Line b
last_of m a b [] c h = absurd (omega arith)
last_of m a b (p ∷ ps) c h = last_line m a b p ps c

-- ---- all together
-- The Lines of an Arc whose first and last vector are beside each other are such a drawing.
drawn-right : (a b o d : Point3D) (tol : Float) → Sided (d.z ≺ +0) (offset_of (centre_of a o) a) (offset_of (centre_of a o) b) → Drawing a b o d tol (drawn a b o d tol)
unfolding drawn parts_of parts_between
drawn-right a b o d tol s =
    let m = centre_of a o in
    let u = offset_of m a in
    let w = offset_of m b in
    let clockwise = d.z ≺ +0 in
    let k = turns_before clockwise u w in
    let ps = quartered clockwise (length_by u) (tol ⊗ quarter) k u w in
    let l : length (lines_of m a b ps) ≡ length ps = unfold lines_of in numbered_length (line_after m a b (length ps)) 1 ps in
    let q : 1 ≤ length ps = quartered-some (length_by u) (tol ⊗ quarter) clockwise k u w in
    let f : length ps ≤ (k + 1) * 1024 = quartered-few (length_by u) (tol ⊗ quarter) clockwise k u w in
    let t : k ≤ 3 = unfold turns_before in turns-few (onward clockwise u w) (dot2 u w) in
    record {
      parts = ps;
      turns = k;
      few-turns = t;
      before = turns-before-end clockwise k u w s refl;
      turned = quartered-turns clockwise (length_by u) (tol ⊗ quarter) k u w;
      chained = quartered-chained clockwise (length_by u) (tol ⊗ quarter) k u w;
      counted = l;
      some = omega arith;
      few = omega arith;
      at_most = omega arith;
      each = λ i c p h. subst (λ (n : ℕ). get_or (lines_of m a b ps) i c ≡ line_to m a b n (i + 1) (get_or ps i p).to) (sym l) (each_line m a b ps i c p (omega arith));
      last = λ c. subst (λ (n : ℕ). get_or (lines_of m a b ps) (n - 1) c ≡ Line b) (sym l) (last_of m a b ps c q);
    }

-- The Lines that every accepted call gives are such a drawing of the command's Arc, from the start a on.
pub call_right : (kind : ℕ) (s : List Float) (a : Point3D) (tol : Float) (kinds numbers : ℕ) (cs : List Command) → flatten_call kind s a tol kinds numbers ≡ gives cs
    → Drawing a (point_at s 0) (point_at s 1) (point_at s 2) tol cs
unfolding flatten_call
call_right kind s a tol kinds numbers cs e =
    let b = point_at s 0 in
    let o = point_at s 1 in
    let d = point_at s 2 in
    subst (λ (xs : List Command). Drawing a b o d tol xs) (unless-given (refusal (flatten_rows kind s a tol kinds numbers)) (drawn a b o d tol) cs e).1
    (drawn-right a b o d tol (vectors_sided a b o (call_drawable kind s a tol kinds numbers cs e) (d.z ≺ +0)))
