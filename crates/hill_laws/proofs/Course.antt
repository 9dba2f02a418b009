-- Courses: the fit for hills keeps the recorded Arcs and makes no others; and of a course of one height without Beziers it gives the flat fit's thinned points. Assumes nothing.
use Prim.Native.Nat.{ℕ, zero, suc, ◌-◌, ◌/◌, ◌<◌}
use mathlib.Core.Path.{◌≡◌, refl, sym, ap, ◌∙◌, subst}
use mathlib.Core.Logic.{⊎_elim}
use mathlib.Core.Bool.{true}
use mathlib.Core.List.{List, [], ◌∷◌, ◌++◌, map}
use native.Mathlib.Omega.{arith}
use lib.Dec.{T}
use lib.ListN.{length, get_or, drop}
use lib.Ieee.{Float, binary64, fits, eq}
use lib.Ieee.Fits.{add-fits}
use Rattle.floats.specs.Ops.{◌⊗◌, ◌≺◌}
use Rattle.floats.proofs.Order.{either}
use Rattle.floats.proofs.Unsigned.{square_not_negative}
use Rattle.geo.specs.declared.types.Point3D.{Point3D}
use Rattle.geo.specs.declared.types.Command.{Command}
use Rattle.geo.specs.declared.types.Command.TheVariants.{Move, Line, Arc, Bezier}
use Rattle.geo.specs.Domain.{tolerance}
use Rattle.geo.specs.Lent.{point_at, triple, flat, origin, end_of}
use Rattle.geo.proofs.Flat.{flat_append, flat-one, flat_length}
use Rattle.floats.specs.Limits.{quarter}
use Rattle.bezier.specs.Linearize.{step_end, param_steps}
use Rattle.segment.specs.Segment.{dot_on, spatial, degenerate, segment_on, space_sq}
use Rattle.simplify.specs.Thin.{thinned, thinned_points}
use Rattle.file.specs.Command.{HeldPoint}
use Rattle.deviations.specs.Line.{line_deviation}
use Rattle.pieces.specs.Pieces.{distance, laps_rule, hills_rule, line, Piece, arc_or_cut, choose_by, choice, follow, pieces_by, pieces_in}
use Rattle.pieces.specs.Commands.{shaped, piece_command, fit_in, kept_of, chain_fit}
use Rattle.chain.specs.Parts.{Part, chain, kept, closed, carried, parts_from, part_fit, fit_of}
use Rattle.chain.specs.Joins.{joined}
use Rattle.course.specs.Course.{parts_on, fit_on}
use Rattle.course.specs.Demand.{thinned_chain}
use Rattle.course.specs.Finite.{CommandsIn}
use Rattle.course.proofs.FiniteCenters.{Placed}
use Rattle.course.proofs.FiniteCourse.{end-placed}
use Rattle.course.proofs.FinitePoints.{placed-more}
use Rattle.hill_laws.specs.Hills.{arcs_of, NoBeziers, course_points, ShareZ, EachChain, HeldEnds, flat_lines, FlatPoints}
use Rattle.hill_laws.proofs.Level.{equal-through}
use Rattle.hill_laws.proofs.OneHeight.{below-finite, one_height_points}
use Rattle.hill_laws.proofs.Straight.{point-back, chain-lines}

-- ---- Arcs
arcs_append : (xs ys : List Command) → arcs_of (xs ++ ys) ≡ arcs_of xs ++ arcs_of ys
unfolding arcs_of
arcs_append [] ys = refl
arcs_append (Move p ∷ xs) ys = arcs_append xs ys
arcs_append (Line p ∷ xs) ys = arcs_append xs ys
arcs_append (Arc p o n ∷ xs) ys = ap (λ (l : List Command). Arc p o n ∷ l) (arcs_append xs ys)
arcs_append (Bezier p c d ∷ xs) ys = arcs_append xs ys

-- each piece is a Line, whatever the tolerance
abbrev Lines : List Piece → Type 0
Lines [] = Unit
Lines (p ∷ ps) = (p.shape ≡ line) × Lines ps

lines_append : (ps qs : List Piece) → Lines ps → Lines qs → Lines (ps ++ qs)
lines_append [] qs h k = k
lines_append (p ∷ ps) qs h k = (h.0, lines_append ps qs h.1 k)

module _ (tol : Float) (at : ℕ → Point3D) where
  lines-follow : (inside : ℕ → ℕ → List Piece) (lo hi : ℕ) → ((i j : ℕ) → Lines (inside i j)) → Lines (follow inside lo hi (choice (hills_rule tol) at lo hi))
  unfolding choice choose_by arc_or_cut follow
  lines-follow inside lo hi h = ⊎_elim (λ k. rw k (refl, tt)) (λ k. rw k (lines_append (inside lo _) (inside _ hi) (h lo _) (h _ hi))) (either ((line_deviation (distance (hills_rule tol)) at lo hi).dist ≺ tol))

  lines_by : (n lo hi : ℕ) → Lines (pieces_by (hills_rule tol) at n lo hi)
  unfolding pieces_by
  lines_by zero lo hi = tt
  lines_by (suc n) lo hi = lines-follow (pieces_by (hills_rule tol) at n) lo hi (λ i j. lines_by n i j)

no_arcs : (at : ℕ → Point3D) (ps : List Piece) → Lines ps → arcs_of (map (piece_command at) ps) ≡ []
unfolding piece_command shaped arcs_of
no_arcs at [] h = refl
no_arcs at (p ∷ ps) h = rw h.0 (no_arcs at ps h.1)

chain_no_arcs : (tol : Float) (s : List Float) → arcs_of (chain_fit (hills_rule tol) s) ≡ []
unfolding chain_fit fit_in
chain_no_arcs tol s =
    let at = point_at (flat triple (kept_of (hills_rule tol) s)) in
    let n = length (kept_of (hills_rule tol) s) - 1 in
    no_arcs at (pieces_in (hills_rule tol) at 0 n) (lines_by tol at (n - 0) 0 n)

module _ (tol : Float) where
  abbrev rest : Point3D → List Float → List Command → List Command
  rest last s cs = fit_of (chain_fit (hills_rule tol)) (parts_from (joined tol) last s cs)

  behind-chain : (s : List Float) (xs : List Command) → arcs_of (chain_fit (hills_rule tol) s ++ xs) ≡ arcs_of xs
  behind-chain s xs = arcs_append (chain_fit (hills_rule tol) s) xs ∙ ap (λ (l : List Command). l ++ arcs_of xs) (chain_no_arcs tol s)

  arcs_from : (last : Point3D) (s : List Float) (cs : List Command) → arcs_of (rest last s cs) ≡ arcs_of cs
  unfolding parts_from joined closed carried fit_of flat part_fit arcs_of end_of
  arcs_from last s [] = behind-chain s []
  arcs_from last s (Move p ∷ cs) = behind-chain s (Move p ∷ rest p (triple p) cs) ∙ arcs_from p (triple p) cs
  arcs_from last s (Line p ∷ cs) = arcs_from p (s ++ triple p) cs
  arcs_from last s (Arc p o n ∷ cs) =
      behind-chain s (Arc p o n ∷ rest p (triple p) cs) ∙ ap (λ (l : List Command). Arc p o n ∷ l) (arcs_from p (triple p) cs)
  arcs_from last s (Bezier p c d ∷ cs) = arcs_from p (s ++ flat step_end (param_steps p c d last (tol ⊗ quarter))) cs

  -- The Arcs of the fit are the recorded ones, in their order.
  pub arcs_recorded : (p : Point3D) (cs : List Command) → arcs_of (fit_on (hills_rule tol) p cs) ≡ arcs_of cs
  unfolding fit_on parts_on
  arcs_recorded p cs = arcs_from p (triple p) cs

-- ---- squared distances in space are values of the format
pub space-fits : (a b p : Point3D) → T (fits binary64 (space_sq a b p))
unfolding space_sq segment_on
space-fits a b p = ⊎_elim (λ h. rw h (add-fits binary64 _ _)) (λ h. rw h (add-fits binary64 _ _)) (either (dot_on spatial a b b ≺ degenerate))

-- Each Line of the fit of a chain is one thinned step.
pub hill_lines : (tol : Float) → T (fits binary64 tol) → tolerance tol ≡ true → (s : List Float) → chain_fit (hills_rule tol) s ≡ map Line (drop 1 (thinned_chain (hills_rule tol) s))
hill_lines tol f dom s = chain-lines (hills_rule tol) refl f dom space-fits s

-- ---- points at the height z
pub record Standing (z : Float) (p : Point3D) : Type 0 where
  pub placed : Placed 27 p
  pub held : T (fits binary64 p.z)
  pub level : eq p.z z ≡ true

abbrev Standings : Float → List Point3D → Type 0
Standings z [] = Unit
Standings z (p ∷ ps) = Standing z p × Standings z ps

standing_at : (z : Float) (ps : List Point3D) → Standings z ps → (i : ℕ) → i < length ps → Standing z (get_or ps i origin)
standing_at z [] h i l = absurd (omega arith)
standing_at z (p ∷ ps) h zero l = h.0
standing_at z (p ∷ ps) h (suc i) l = standing_at z ps h.1 i (omega arith)

standings_append : (z : Float) (ps qs : List Point3D) → Standings z ps → Standings z qs → Standings z (ps ++ qs)
standings_append z [] qs h k = k
standings_append z (p ∷ ps) qs h k = (h.0, standings_append z ps qs h.1 k)

module _ (tol : Float) where
  abbrev Same : List Float → Type 0
  Same s = thinned_chain (hills_rule tol) s ≡ thinned_chain (laps_rule tol) s

  -- a chain of such points is thinned alike
  chain_same : (z : Float) (ps : List Point3D) → Standings z ps → Same (flat triple ps)
  chain_same z ps h =
      let at = point_at (flat triple ps) in
      let l = flat_length triple 3 (λ p. refl) ps in
      let S : (i : ℕ) → i < length (flat triple ps) / 3 → Standing z (at i) =
      λ i k. subst (Standing z) (sym (point-back ps i (omega (arith, l, k)))) (standing_at z ps h i (omega (arith, l, k))) in
      one_height_points (tol ⊗ tol) (square_not_negative tol) at (length (flat triple ps) / 3) (λ i k. ((S i k).placed, (S i k).held))
      (λ i j a b. equal-through (at i).z (at j).z z (below-finite (S i a).placed.in_z) (below-finite (S j b).placed.in_z) (S i a).level (S j b).level)

  -- and one of a single point, wherever that stands
  single_same : (p : Point3D) → Same (triple p)
  unfolding thinned_points thinned
  single_same p = refl

  -- ---- the parts of a course without Beziers
  parts_same : (z : Float) (last : Point3D) (ps : List Point3D) (cs : List Command) → Standings z ps → Standings z (map end_of cs) → NoBeziers cs
      → EachChain Same (parts_from (joined tol) last (flat triple ps) cs)
  unfolding parts_from joined closed carried end_of
  parts_same z last ps [] h k n = (chain_same z ps h, tt)
  parts_same z last ps (Move p ∷ cs) h k n = (chain_same z ps h, subst (λ (t : List Float). EachChain Same (parts_from (joined tol) p t cs)) (flat-one triple p) (parts_same z p (p ∷ []) cs (k.0, tt) k.1 n))
  parts_same z last ps (Line p ∷ cs) h k n =
      subst (λ (t : List Float). EachChain Same (parts_from (joined tol) p t cs)) (flat_append triple ps (p ∷ []) ∙ ap (λ (t : List Float). flat triple ps ++ t) (flat-one triple p))
      (parts_same z p (ps ++ p ∷ []) cs (standings_append z ps (p ∷ []) h (k.0, tt)) k.1 n)
  parts_same z last ps (Arc p o m ∷ cs) h k n = (chain_same z ps h, subst (λ (t : List Float). EachChain Same (parts_from (joined tol) p t cs)) (flat-one triple p) (parts_same z p (p ∷ []) cs (k.0, tt) k.1 n))
  parts_same z last ps (Bezier p c d ∷ cs) h k n = absurd n

  from_start : (z : Float) (p : Point3D) (cs : List Command) → Standing z p → Standings z (map end_of cs) → NoBeziers cs → EachChain Same (parts_from (joined tol) p (triple p) cs)
  from_start z p cs h k n = subst (λ (t : List Float). EachChain Same (parts_from (joined tol) p t cs)) (flat-one triple p) (parts_same z p (p ∷ []) cs (h, tt) k n)

  standing : (z : Float) (p : Point3D) → Placed 20 p → HeldPoint p → eq p.z z ≡ true → Standing z p
  standing z p P h e = record { placed = placed-more 27 (omega arith) P; held = h.2; level = e }

  standings : (z : Float) (cs : List Command) → CommandsIn cs → HeldEnds cs → ShareZ z (map end_of cs) → Standings z (map end_of cs)
  standings z [] c h e = tt
  standings z (x ∷ cs) c h e = (standing z (end_of x) (end-placed x c.0) h.0 e.0, standings z cs c.1 h.1 e.1)

  pub chains_same : (p : Point3D) → Placed 20 p → HeldPoint p → (cs : List Command) → CommandsIn cs → HeldEnds cs → NoBeziers cs → (z : Float) → ShareZ z (course_points p cs)
      → EachChain Same (parts_on tol p cs)
  unfolding parts_on course_points end_of
  chains_same p P h [] c k n z e = unfold parts_from in (single_same p, tt)
  chains_same p P h (Move q ∷ cs) c k n z e =
      let s = standings z (Move q ∷ cs) c k e in
      unfold parts_from joined closed carried in (single_same p, from_start z q cs s.0 s.1 n)
  chains_same p P h (Line q ∷ cs) c k n z e = from_start z p (Line q ∷ cs) (standing z p P h e.0) (standings z (Line q ∷ cs) c k e.1) n
  chains_same p P h (Arc q o m ∷ cs) c k n z e = from_start z p (Arc q o m ∷ cs) (standing z p P h e.0) (standings z (Arc q o m ∷ cs) c k e.1) n
  chains_same p P h (Bezier q a b ∷ cs) c k n z e = absurd n

  -- ---- their fit
  fit_parts : T (fits binary64 tol) → tolerance tol ≡ true → (ps : List Part) → EachChain Same ps → fit_of (chain_fit (hills_rule tol)) ps ≡ fit_of (flat_lines tol) ps
  unfolding fit_of flat part_fit flat_lines
  fit_parts f dom [] h = refl
  fit_parts f dom (chain s ∷ ps) h = rw (hill_lines tol f dom s, h.0, fit_parts f dom ps h.1)
  fit_parts f dom (kept c ∷ ps) h = ap (λ (l : List Command). c ∷ l) (fit_parts f dom ps h)

  pub flat-points : T (fits binary64 tol) → tolerance tol ≡ true → (p : Point3D) → Placed 20 p → HeldPoint p → (cs : List Command) → CommandsIn cs → HeldEnds cs → NoBeziers cs
      → (z : Float) → ShareZ z (course_points p cs) → FlatPoints tol p cs
  unfolding fit_on
  flat-points f dom p P h cs c k n z e =
      let S = chains_same p P h cs c k n z e in record { thinned = S; fit = fit_parts f dom (parts_on tol p cs) S }
