-- Every number that a fit of points, or of a chain, writes is finite, for coordinates of at most 2 ^ 27 and at most 2,048 points. Assumes nothing.
use Prim.Native.Nat.{ℕ, zero, suc, ◌+◌, ◌-◌, ◌*◌, ◌/◌, ◌^◌, ◌≤◌, ◌<◌}
use mathlib.Core.Path.{◌≡◌, refl, sym, subst}
use mathlib.Core.Logic.{⊎_elim}
use mathlib.Core.Bool.{Bool, true, false}
use mathlib.Core.List.{List, [], ◌∷◌, ◌++◌, map}
use native.Mathlib.Omega.{arith}
use borrow.Author.Tests.{eqb-true}
use lib.ListN.{length, get_or}
use lib.Dec.{eqb}
use lib.Ieee.{Float, nan, inf, fin, lt}
use Rattle.floats.specs.Ops.{◌⊖◌, ◌⊗◌, +0}
use Rattle.floats.proofs.Order.{either, lt_or_ge}
use Rattle.floats.proofs.Bounds.{Within, Below, sub_below, below_more, neg_below}
use Rattle.floats.proofs.Unsigned.{square_not_negative}
use Rattle.geo.specs.declared.types.Point.{Point}
use Rattle.geo.specs.declared.types.Point3D.{Point3D}
use Rattle.geo.specs.declared.types.Command.{Command}
use Rattle.geo.specs.Lent.{point_at, triple, flat, origin, numbers_of}
use Rattle.geo.specs.Domain.{is_finite}
use Rattle.geo.proofs.Flat.{flat_length}
use Rattle.std.specs.Prelude.{Option, Some, None}
use Rattle.circle.specs.declared.circle.Center.{Center}
use Rattle.circle.specs.declared.circle.Circle.{Circle}
use Rattle.circle.specs.Three.{radius_from, through_three}
use Rattle.circle.specs.Kasa.{kasa_center}
use Rattle.circle.specs.Bisector.{projected}
use Rattle.trial.specs.declared.trial.Trial.{Trial}
use Rattle.trial.specs.Deviation.{arc_deviation}
use Rattle.trial.specs.Traversal.{traverses}
use Rattle.trial.specs.Trial.{sharp_at, closed_range, measured_by, going_round, of_measured, trial_round, trial_of, of_circle, of_center, trial_three, trial_least, or_else, try_arcs}
use Rattle.farthest.specs.declared.farthest.Farthest.{Farthest}
use Rattle.farthest.proofs.First.{found_in}
use Rattle.simplify.specs.Words.{Ascending}
use Rattle.simplify.specs.Thin.{thinned, thinned_points}
use Rattle.simplify.proofs.Thinning.{kept_in_order}
use Rattle.pieces.specs.declared.pieces.Rule.{Rule}
use Rattle.deviations.specs.Line.{rooted, line_deviation}
use Rattle.pieces.specs.Pieces.{distance, Shape, line, arc, Piece, Choice, whole, cut_at, counted, arc_or_cut, choose_by, choice, follow, pieces_by, pieces_in}
use Rattle.pieces.specs.Commands.{normal_of, shaped, piece_command, fit_in, kept_of, chain_fit}
use Rattle.ranges.proofs.Chain.{kept-few}
use Rattle.course.specs.Finite.{AllFinite, FiniteNumbers}
use Rattle.course.proofs.FiniteCenters.{Placed, Flat, flat-more, zero_below, one_below, Through, three-flat, Centered, kasa_flat, projected-flat}

-- ---- a bound says finite
pub below-is-finite : {k : ℕ} {x : Float} → Below k x → is_finite x ≡ true
below-is-finite {k} {x} h = go x h.within
  where
    go : (y : Float) → Within (2 ^ k) y → is_finite y ≡ true
    go nan w = absurd w
    go (inf s) w = absurd w
    go (fin s m e) w = unfold is_finite in refl

pub zero_is-finite : is_finite +0 ≡ true
zero_is-finite = below-is-finite (zero_below 0)

-- ---- the centre of an arc that a trial found
abbrev Tried : Option Trial → Type 0
Tried (Some t) = Flat 434 t.center
Tried None = Unit

module _ (tol : Float) (at : ℕ → Point3D) (lo hi : ℕ) where
  tried_round : (m : Point) → Flat 434 m → Tried (trial_round at lo hi tol m)
  unfolding trial_round measured_by of_measured going_round
  tried_round m h =
      ⊎_elim (λ g. rw g (⊎_elim (λ t. rw t h) (λ t. rw t tt) (either (traverses m at lo hi))))
      (λ g. rw g tt) (either (lt (arc_deviation m (radius_from m (at lo)) at lo hi).dist tol))

  tried_or : (t u : Option Trial) → Tried t → Tried u → Tried (or_else t u)
  unfolding or_else
  tried_or (Some t) u p q = p
  tried_or None u p q = q

  module _ (order : lo ≤ hi) (few : hi - lo < 2048) (each : (j : ℕ) → lo ≤ j → j ≤ hi → Placed 27 (at j)) where
    first-placed : Placed 27 (at lo)
    first-placed = each lo (omega arith) order

    last-placed : Placed 27 (at hi)
    last-placed = each hi order (omega arith)

    tried_of : (m : Point) → Flat 335 m → Tried (trial_of at lo hi tol m)
    unfolding trial_of
    tried_of m h = tried_round (projected (at lo) (at hi) m) (projected-flat first-placed last-placed h)

    tried_circle : (b : Point3D) (B : Placed 27 b) (c : Option Circle) → Through first-placed B last-placed c → Tried (of_circle at lo hi tol c)
    unfolding of_circle
    tried_circle b B (Some c) h = tried_of c.center (flat-more 335 (omega arith) h)
    tried_circle b B None h = tt

    tried_three : hi - lo ≡ 2 → Tried (trial_three at lo hi tol)
    unfolding trial_three
    tried_three e =
        let B = each (lo + 1) (omega arith) (omega arith) in
        tried_circle (at (lo + 1)) B (through_three (at lo) (at (lo + 1)) (at hi)) (three-flat first-placed B last-placed)

    tried_center : (c : Option Center) → Centered c → Tried (of_center at lo hi tol c)
    unfolding of_center
    tried_center (Some c) h = tried_of c.center h
    tried_center None h = tt

    tried_least : Tried (trial_least at lo hi tol)
    unfolding trial_least
    tried_least = tried_center (kasa_center at lo hi) (kasa_flat at lo hi order few (λ j a b. each j a (omega arith)))

    -- An arc of the first trial that passes has its centre at most 2 ^ 434 from zero.
    pub tried_flat : (k : ℕ) → Tried (try_arcs at lo hi k tol)
    unfolding try_arcs
    tried_flat k =
        ⊎_elim (λ h. rw h tt)
        (λ h. rw h
        (⊎_elim (λ g. rw g tt)
        (λ g. rw g
        (⊎_elim (λ e. rw e (tried_or (trial_three at lo hi tol) (trial_least at lo hi tol) (tried_three (eqb-true (hi - lo) 2 e)) tried_least)) (λ e. rw e tried_least) (either (eqb (hi - lo) 2))))
        (either (closed_range (at lo) (at hi)))))
        (either (sharp_at at lo hi k))

-- ---- the choice of a range: a shape with a near centre, or a cut inside the range
abbrev Shaped : Shape → Type 0
Shaped line = Unit
Shaped (arc m d) = Flat 434 m

abbrev Chosen : ℕ → ℕ → Choice → Type 0
Chosen lo hi (whole s) = Shaped s
Chosen lo hi (cut_at k) = (lo ≤ k) × (k ≤ hi)

module _ (r : Rule) (at : ℕ → Point3D) where
  farthest_within : (lo hi : ℕ) → lo ≤ hi → (lo ≤ (line_deviation (distance r) at lo hi).index) × ((line_deviation (distance r) at lo hi).index ≤ hi)
  unfolding line_deviation rooted
  farthest_within lo hi o =
      ⊎_elim (λ e. subst (λ (w : Farthest). (lo ≤ w.index) × (w.index ≤ hi)) (sym e.0) (omega arith, o))
      (λ e. let f = e.from in let t = e.to in (omega arith, omega arith)) (found_in (distance r) at lo hi)

  chosen_or : (t : Option Trial) (lo k hi : ℕ) → Tried t → lo ≤ k → k ≤ hi → Chosen lo hi (arc_or_cut t k)
  unfolding arc_or_cut
  chosen_or (Some t) lo k hi h a b = h
  chosen_or None lo k hi h a b = (a, b)

  tried_counted : (t : Option Trial) → Tried t → Tried (counted r t)
  tried_counted t h = ⊎_elim (λ e. rw e h) (λ e. rw e tt) (either r.arcs)

  chosen : (lo hi : ℕ) → lo ≤ hi → hi - lo < 2048 → ((j : ℕ) → lo ≤ j → j ≤ hi → Placed 27 (at j)) → Chosen lo hi (choice r at lo hi)
  unfolding choice choose_by
  chosen lo hi o l each =
      let w = line_deviation (distance r) at lo hi in
      let i = farthest_within lo hi o in
      ⊎_elim (λ h. rw h tt)
      (λ h. rw h (chosen_or (counted r (try_arcs at lo hi w.index r.tolerance)) lo w.index hi (tried_counted (try_arcs at lo hi w.index r.tolerance) (tried_flat r.tolerance at lo hi o l each w.index)) i.0 i.1))
      (either (lt w.dist r.tolerance))

-- ---- the numbers of a command
pub triple-finite : (p : Point3D) → is_finite p.x ≡ true → is_finite p.y ≡ true → is_finite p.z ≡ true → AllFinite (triple p)
triple-finite p x y z = (x, (y, (z, tt)))

pub placed-finite : {k : ℕ} {p : Point3D} → Placed k p → AllFinite (triple p)
placed-finite {k} {p} h = triple-finite p (below-is-finite h.in_x) (below-is-finite h.in_y) (below-is-finite h.in_z)

pub all_append : (xs ys : List Float) → AllFinite xs → AllFinite ys → AllFinite (xs ++ ys)
all_append [] ys h g = g
all_append (x ∷ xs) ys h g = (h.0, all_append xs ys h.1 g)

pub nine-finite : (p q r : Point3D) → AllFinite (triple p) → AllFinite (triple q) → AllFinite (triple r) → AllFinite (triple p ++ triple q ++ triple r)
nine-finite p q r a b c = all_append (triple p) (triple q ++ triple r) a (all_append (triple q) (triple r) b c)

pub zeros_finite : AllFinite (triple origin)
zeros_finite = triple-finite origin zero_is-finite zero_is-finite zero_is-finite

normal-finite : (d : Bool) → AllFinite (triple (normal_of d))
unfolding normal_of
normal-finite true = triple-finite (normal_of true) zero_is-finite zero_is-finite (below-is-finite (neg_below one_below))
normal-finite false = triple-finite (normal_of false) zero_is-finite zero_is-finite (below-is-finite one_below)

shaped-finite : {a b : Point3D} (s : Shape) → Placed 27 a → Placed 27 b → Shaped s → AllFinite (numbers_of (shaped a b s))
unfolding numbers_of shaped
shaped-finite {a} {b} line A B h = nine-finite b origin origin (placed-finite B) zeros_finite zeros_finite
shaped-finite {a} {b} (arc m d) A B h =
    let x = sub_below (omega arith) h.in_x (below_more 434 (omega arith) A.in_x) in
    let y = sub_below (omega arith) h.in_y (below_more 434 (omega arith) A.in_y) in
    let o : Point3D = record { x = m.x ⊖ a.x; y = m.y ⊖ a.y; z = +0 } in
    nine-finite b o (normal_of d) (placed-finite B) (triple-finite o (below-is-finite x) (below-is-finite y) zero_is-finite) (normal-finite d)

-- ---- the pieces of a range
pub finite_append : (cs ds : List Command) → FiniteNumbers cs → FiniteNumbers ds → FiniteNumbers (cs ++ ds)
finite_append [] ds h g = g
finite_append (c ∷ cs) ds h g = (h.0, finite_append cs ds h.1 g)

-- Where the numbers of each command are finite, so are all of them, laid out one behind the other.
pub laid_out_finite : (cs : List Command) → FiniteNumbers cs → AllFinite (flat numbers_of cs)
unfolding flat
laid_out_finite [] h = tt
laid_out_finite (c ∷ cs) h = all_append (numbers_of c) (flat numbers_of cs) h.0 (laid_out_finite cs h.1)

abbrev FinitePieces : (ℕ → Point3D) → List Piece → Type 0
FinitePieces at [] = Unit
FinitePieces at (p ∷ ps) = AllFinite (numbers_of (piece_command at p)) × FinitePieces at ps

pieces_append : (at : ℕ → Point3D) (ps qs : List Piece) → FinitePieces at ps → FinitePieces at qs → FinitePieces at (ps ++ qs)
pieces_append at [] qs h g = g
pieces_append at (p ∷ ps) qs h g = (h.0, pieces_append at ps qs h.1 g)

commands_of : (at : ℕ → Point3D) (ps : List Piece) → FinitePieces at ps → FiniteNumbers (map (piece_command at) ps)
commands_of at [] h = tt
commands_of at (p ∷ ps) h = (h.0, commands_of at ps h.1)

no_pieces : (r : Rule) (at : ℕ → Point3D) (lo hi : ℕ) → hi ≤ lo → FinitePieces at (pieces_in r at lo hi)
unfolding pieces_by
no_pieces r at lo hi h = let z : hi - lo ≡ 0 = omega arith in rw z tt

-- A range with no step has no command, whatever its points.
pub no_step_finite : (r : Rule) (at : ℕ → Point3D) (lo hi : ℕ) → hi ≤ lo → FiniteNumbers (fit_in r at lo hi)
unfolding fit_in
no_step_finite r at lo hi h = commands_of at (pieces_in r at lo hi) (no_pieces r at lo hi h)

module _ (r : Rule) (at : ℕ → Point3D) (lo hi : ℕ) (few : hi - lo < 2048) (each : (j : ℕ) → lo ≤ j → j ≤ hi → Placed 27 (at j)) where
  follow-finite : (f : ℕ → ℕ → List Piece) (a b : ℕ) (c : Choice) → lo ≤ a → a ≤ b → b ≤ hi → Chosen a b c
      → ((i j : ℕ) → lo ≤ i → i ≤ j → j ≤ hi → FinitePieces at (f i j)) → FinitePieces at (follow f a b c)
  unfolding follow piece_command
  follow-finite f a b (whole s) p q r h e = (shaped-finite s (each a p (omega arith)) (each b (omega arith) r) h, tt)
  follow-finite f a b (cut_at k) p q r h e =
      let u = h.0 in
      let v = h.1 in
      pieces_append at (f a k) (f k b) (e a k p u (omega arith)) (e k b (omega arith) v r)

  pieces-finite : (n a b : ℕ) → lo ≤ a → a ≤ b → b ≤ hi → FinitePieces at (pieces_by r at n a b)
  unfolding pieces_by
  pieces-finite zero a b p q l = tt
  pieces-finite (suc n) a b p q l =
      follow-finite (pieces_by r at n) a b (choice r at a b) p q l
      (chosen r at a b q (omega arith) (λ j x y. each j (omega arith) (omega arith)))
      (λ i j x y z. pieces-finite n i j x y z)

  -- Every number that the fit of the points from lo to hi writes is finite, at any tolerance and by any measure of Lines.
  pub fit-finite : FiniteNumbers (fit_in r at lo hi)
  unfolding fit_in
  fit-finite =
      commands_of at (pieces_in r at lo hi)
      (⊎_elim (λ h. pieces-finite (hi - lo) lo hi (omega arith) (omega arith) (omega arith)) (λ h. no_pieces r at lo hi h) (lt_or_ge lo hi))

-- ---- points that are lent as triples
-- each number of a list is at most 2 ^ k in size
abbrev pub EachBelow : ℕ → List Float → Type 0
EachBelow k [] = Unit
EachBelow k (x ∷ xs) = Below k x × EachBelow k xs

pub each_append : (k : ℕ) (xs ys : List Float) → EachBelow k xs → EachBelow k ys → EachBelow k (xs ++ ys)
each_append k [] ys h g = g
each_append k (x ∷ xs) ys h g = (h.0, each_append k xs ys h.1 g)

pub number-below : (k : ℕ) (s : List Float) → EachBelow k s → (i : ℕ) → i < length s → Below k (get_or s i nan)
number-below k [] h i l = absurd (omega arith)
number-below k (x ∷ xs) h zero l = h.0
number-below k (x ∷ xs) h (suc i) l = number-below k xs h.1 i (omega arith)

pub point-placed : (k : ℕ) (s : List Float) → EachBelow k s → (i : ℕ) → i < length s / 3 → Placed k (point_at s i)
unfolding point_at
point-placed k s h i l =
    record {
      in_x = number-below k s h (3 * i) (omega arith);
      in_y = number-below k s h (3 * i + 1) (omega arith);
      in_z = number-below k s h (3 * i + 2) (omega arith);
    }

-- Every number that the fit of lent points from lo to hi writes is finite.
pub lent-finite : (r : Rule) (s : List Float) (lo hi : ℕ) → length s / 3 ≤ 2048 → EachBelow 27 s → (lo < hi → hi < length s / 3)
    → FiniteNumbers (fit_in r (point_at s) lo hi)
lent-finite r s lo hi few h inside =
    ⊎_elim
    (λ g. let e = inside g in fit-finite r (point_at s) lo hi (omega arith) (λ j a b. point-placed 27 s h j (omega arith)))
    (λ g. no_step_finite r (point_at s) lo hi g) (lt_or_ge lo hi)

-- ---- what thinning keeps
kept-placed : (k n i : ℕ) (at : ℕ → Point3D) (is : List ℕ) → ((j : ℕ) → j < n → Placed k (at j)) → Ascending i n is → EachBelow k (flat triple (map at is))
unfolding flat
kept-placed k n i at [] h a = tt
kept-placed k n i at (j ∷ js) h a =
    let p = h j a.1 in
    each_append k (triple (at j)) (flat triple (map at js)) (p.in_x, (p.in_y, (p.in_z, tt))) (kept-placed k n (j + 1) at js h a.2)

module _ (r : Rule) (s : List Float) (h : EachBelow 27 s) where
  pub kept-below : EachBelow 27 (flat triple (kept_of r s))
  unfolding thinned_points
  kept-below =
      kept-placed 27 (length s / 3) 0 (point_at s) (thinned (distance r) (r.tolerance ⊗ r.tolerance) (point_at s) (length s / 3)) (λ j l. point-placed 27 s h j l)
      (kept_in_order (distance r) (r.tolerance ⊗ r.tolerance) (square_not_negative r.tolerance) (point_at s) (length s / 3))

  -- Every number that the fit of a chain writes is finite, at any tolerance.
  pub chain-finite : length s / 3 ≤ 2048 → FiniteNumbers (chain_fit r s)
  unfolding chain_fit
  chain-finite few =
      let f = kept-few r s in
      let w = flat_length triple 3 (λ p. refl) (kept_of r s) in
      lent-finite r (flat triple (kept_of r s)) 0 (length (kept_of r s) - 1) (omega arith) kept-below (λ l. omega arith)
