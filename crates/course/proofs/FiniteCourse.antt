-- Every number that a course, a path or a fit of lent points writes is finite, for input of the domain. Assumes nothing.
use Prim.Native.Nat.{ℕ, zero, suc, ◌+◌, ◌-◌, ◌*◌, ◌/◌, ◌≤◌, ◌<◌}
use mathlib.Core.Path.{◌≡◌, refl, sym, ap, ◌∙◌, subst}
use mathlib.Core.Bool.{Bool, true, false}
use mathlib.Core.List.{List, [], ◌∷◌, ◌++◌, map}
use native.Mathlib.Omega.{arith}
use borrow.Author.Tests.{ltb-false, not-false}
use lib.ListN.{length, drop, get_or, length-append}
use lib.Ieee.{Float, nan, to_unsigned}
use Rattle.floats.specs.Ops.{◌⊗◌, +0}
use Rattle.floats.proofs.Bounds.{below_more}
use Rattle.geo.specs.declared.types.Point3D.{Point3D}
use Rattle.geo.specs.declared.types.Command.{Command}
use Rattle.geo.specs.declared.types.Command.TheVariants.{Move, Line, Arc, Bezier}
use Rattle.geo.specs.Lent.{point_at, triple, flat, origin, end_of, numbers_of, command_at, commands_from}
use Rattle.geo.proofs.Every.{every_at}
use Rattle.geo.specs.Domain.{coordinate, is_finite, numbers_in, point3_in, finite3, command_in, commands_in}
use Rattle.geo.specs.Walk.{list_from}
use Rattle.geo.specs.Outcome.{refusal, gives}
use Rattle.geo.proofs.Rows.{row_passed, unless-given}
use Rattle.geo.proofs.Walk.{list_length}
use Rattle.geo.proofs.Flat.{flat_length}
use Rattle.bezier.specs.Linearize.{step_end, step_at, steps, first_third, last_third, steps_needed, param_steps}
use Rattle.simplify.specs.Simplify.{command_rows}
use Rattle.circle.specs.Calls.{points_rows}
use Rattle.pieces.specs.declared.pieces.Rule.{Rule}
use Rattle.pieces.specs.Pieces.{points_rule, laps_rule}
use Rattle.pieces.specs.Commands.{fit_in, kept_of, chain_fit}
use Rattle.fitting.specs.Calls.{fit_rows, fit_call, primitives_call}
use Rattle.fitting.proofs.Accepted.{fit-accepted}
use Rattle.chain.specs.Parts.{Join, adds, ends, closed, carried, parts_from, part_fit, part_most, most_of, fit_of}
use Rattle.floats.specs.Limits.{quarter}
use Rattle.chain.specs.Joins.{joined, lines_joined}
use Rattle.chain.specs.Chains.{joins_beziers, joined_by}
use Rattle.chain.proofs.Parts.{chain-counts}
use Rattle.course.specs.Course.{parts_on, fit_on, most_on, course_fit, lent_course, arcs_rows, arcs_call, optimized_chain, optimized, optimize_call}
use Rattle.course.specs.Walks.{path_flush, parts_by}
use Rattle.course.specs.Finite.{AllFinite, FiniteNumbers, CommandsIn}
use Rattle.course.proofs.Accepted.{arcs_accepted}
use Rattle.course.proofs.Paths.{path_most, course_length}
use Rattle.course.proofs.FiniteCenters.{Placed, zero_below}
use Rattle.course.proofs.FiniteFit.{triple-finite, placed-finite, nine-finite, zeros_finite, finite_append, EachBelow, each_append, lent-finite, kept-below, chain-finite}
use Rattle.geo.proofs.Coordinates.{coordinate-below}
use Rattle.course.proofs.FinitePoints.{and3, point_in, placed-more, triple-each, first_third_lem, last_third_lem, steps-each}

-- ---- a command of the domain
finite_3 : (p : Point3D) → finite3 p ≡ true → AllFinite (triple p)
unfolding finite3
finite_3 p h = let a = and3 (is_finite p.x) (is_finite p.y) (is_finite p.z) h in triple-finite p a.0 a.1 a.2

in_finite : (p : Point3D) → point3_in p ≡ true → AllFinite (triple p)
in_finite p h = placed-finite (point_in p h)

-- Each number of a command of the domain is finite.
pub command-finite : (c : Command) → command_in c ≡ true → AllFinite (numbers_of c)
unfolding command_in numbers_of
command-finite (Move p) h = nine-finite p origin origin (in_finite p h) zeros_finite zeros_finite
command-finite (Line p) h = nine-finite p origin origin (in_finite p h) zeros_finite zeros_finite
command-finite (Arc p o n) h =
    let a = and3 (point3_in p) (finite3 o) (finite3 n) h in nine-finite p o n (in_finite p a.0) (finite_3 o a.1) (finite_3 n a.2)
command-finite (Bezier p c d) h =
    let a = and3 (point3_in p) (point3_in c) (point3_in d) h in nine-finite p c d (in_finite p a.0) (in_finite c a.1) (in_finite d a.2)

pub end-placed : (c : Command) → command_in c ≡ true → Placed 20 (end_of c)
unfolding command_in end_of
end-placed (Move p) h = point_in p h
end-placed (Line p) h = point_in p h
end-placed (Arc p o n) h = point_in p (and3 (point3_in p) (finite3 o) (finite3 n) h).0
end-placed (Bezier p c d) h = point_in p (and3 (point3_in p) (point3_in c) (point3_in d) h).0

end-each : (c : Command) → command_in c ≡ true → EachBelow 27 (triple (end_of c))
end-each c h = triple-each (placed-more 27 (omega arith) (end-placed c h))

-- ---- the parts of a course: `join` adds points that are at most 2 ^ 27 from zero where they are few, and `fit` writes finite numbers of them
abbrev Joins : Join → Type 0
Joins (adds ps) = length ps / 3 ≤ 2048 → EachBelow 27 ps
Joins ends = Unit

module _ (join : Point3D → Command → Join) (fit : List Float → List Command)
    (near : (last : Point3D) (c : Command) → Placed 20 last → command_in c ≡ true → Joins (join last c))
    (fine : (s : List Float) → EachBelow 27 s → length s / 3 ≤ 2048 → FiniteNumbers (fit s)) where
  -- Every number of the fit of the parts is finite.
  pub parts-finite : (last : Point3D) (s : List Float) (cs : List Command) → Placed 20 last → EachBelow 27 s → CommandsIn cs → most_of (parts_from join last s cs) ≤ 800
      → FiniteNumbers (fit_of fit (parts_from join last s cs))
  unfolding parts_from closed carried most_of part_most fit_of flat part_fit
  parts-finite last s [] L S C M = finite_append (fit s) [] (fine s S (omega arith)) tt
  parts-finite last s (c ∷ cs) L S C M =
      go (join last c) refl (near last c L C.0) M (λ t T m. parts-finite (end_of c) t cs (end-placed c C.0) T C.1 m)
    where
      go : (j : Join) → join last c ≡ j → Joins j → most_of (closed s c j ++ parts_from join (end_of c) (carried s c j) cs) ≤ 800
          → ((t : List Float) → EachBelow 27 t → most_of (parts_from join (end_of c) t cs) ≤ 800 → FiniteNumbers (fit_of fit (parts_from join (end_of c) t cs)))
          → FiniteNumbers (fit_of fit (closed s c j ++ parts_from join (end_of c) (carried s c j) cs))
      go (adds ps) e n m r =
          let k = chain-counts join (end_of c) (s ++ ps) cs in
          let l = length-append s ps in
          r (s ++ ps) (each_append 27 s ps S (n (omega arith))) m
      go ends e n m r =
          finite_append (fit s) _ (fine s S (omega arith)) (command-finite c C.0, r (triple (end_of c)) (end-each c C.0) (omega arith))

-- ---- fit_arcs
ends-few : (p0 c1 c2 p1 : Point3D) (n : ℕ) → length (flat step_end (steps p0 c1 c2 p1 n)) ≡ 3 * n
unfolding steps
ends-few p0 c1 c2 p1 n = flat_length step_end 3 (λ s. refl) (list_from (step_at p0 c1 c2 p1 n) n 0) ∙ ap (λ (k : ℕ). 3 * k) (list_length (step_at p0 c1 c2 p1 n) n 0)

-- the points of a Bezier, where they are few
bezier_each : (end c1 c2 start : Point3D) (resolution : Float) → Placed 20 end → Placed 20 c1 → Placed 20 c2 → Placed 20 start
    → length (flat step_end (param_steps end c1 c2 start resolution)) / 3 ≤ 2048 → EachBelow 27 (flat step_end (param_steps end c1 c2 start resolution))
unfolding param_steps
bezier_each end c1 c2 start resolution E C D S h =
    let n = to_unsigned 64 (steps_needed end c1 c2 start resolution) in
    let l = ends-few start (first_third start end c1) (last_third start end c2) end n in
    steps-each n (omega arith) S (first_third_lem S E C) (last_third_lem S E D) E

course_near : (tol : Float) (last : Point3D) (c : Command) → Placed 20 last → command_in c ≡ true → Joins (joined tol last c)
unfolding joined command_in
course_near tol last (Move p) L h = tt
course_near tol last (Line p) L h = λ l. triple-each (placed-more 27 (omega arith) (point_in p h))
course_near tol last (Arc p o n) L h = tt
course_near tol last (Bezier p c d) L h =
    let a = and3 (point3_in p) (point3_in c) (point3_in d) h in
    λ l. bezier_each p c d last (tol ⊗ quarter) (point_in p a.0) (point_in c a.1) (point_in d a.2) L l

pub origin-placed : (k : ℕ) → Placed k origin
origin-placed k = record { in_x = zero_below k; in_y = zero_below k; in_z = zero_below k }

-- Every number that a course's fit writes is finite, at any tolerance, for a start and commands of the domain and a most of at most 800.
pub course_finite : (r : Rule) (p : Point3D) (cs : List Command) → Placed 20 p → CommandsIn cs → most_on r.tolerance p cs ≤ 800 → FiniteNumbers (fit_on r p cs)
unfolding fit_on most_on parts_on
course_finite r p cs P h m =
    parts-finite (joined r.tolerance) (chain_fit r) (course_near r.tolerance) (λ s S l. chain-finite r s S l) p (triple p) cs
    P (triple-each (placed-more 27 (omega arith) P)) h m

-- ---- what the checks of a public call leave
each_from : (s : List Float) → ((j : ℕ) → j < length s → coordinate (get_or s j nan) ≡ true) → EachBelow 27 s
each_from [] h = tt
each_from (x ∷ xs) h = (below_more 27 (omega arith) (coordinate-below (h 0 (omega arith))), each_from xs (λ j l. h (suc j) (omega arith)))

numbers-each : (s : List Float) → numbers_in coordinate s ≡ true → EachBelow 27 s
unfolding numbers_in
numbers-each s h = each_from s (λ j l. every_at (λ i. coordinate (get_or s i nan)) (length s) 0 h j (omega arith) (omega arith))

commands_in_lem : (ks : List ℕ) (ns : List Float) (n i : ℕ) → ((j : ℕ) → i ≤ j → j < i + n → command_in (command_at ks ns j) ≡ true) → CommandsIn (commands_from ks ns n i)
unfolding commands_from
commands_in_lem ks ns zero i h = tt
commands_in_lem ks ns (suc n) i h = (h i (omega arith) (omega arith), commands_in_lem ks ns n (i + 1) (λ j a b. h j (omega arith) (omega arith)))

lent_in : (ks : List ℕ) (ns : List Float) → commands_in ks ns ≡ true → CommandsIn (lent_course ks ns)
unfolding commands_in
lent_in ks ns h = commands_in_lem ks ns (length ks) 0 (λ j a b. every_at (λ i. command_in (command_at ks ns i)) (length ks) 0 h j a b)

-- Every number that `fit_points_recursive` gives is finite.
pub fit-points-finite : (s : List Float) (tol : Float) (lo hi kinds numbers places : ℕ) (xs : List Command) → fit_call s tol lo hi kinds numbers places ≡ gives xs → FiniteNumbers xs
unfolding fit_call fit_rows points_rows
fit-points-finite s tol lo hi kinds numbers places xs e =
    let g = unless-given (refusal (fit_rows s tol lo hi kinds numbers places)) (fit_in (points_rule tol) (point_at s) lo hi) xs e in
    let acc = fit-accepted s tol lo hi kinds numbers places g.0 in
    let a = row_passed 0 _ _ g.0 in
    let b = row_passed 0 _ _ a.1 in
    let c = row_passed 1 _ _ b.1 in
    let d = row_passed 4 _ _ c.1 in
    subst FiniteNumbers g.1 (lent-finite (points_rule tol) s lo hi acc.few (numbers-each s (not-false _ d.0)) acc.ends-inside)

-- Every number that `fit_points_with_primitives` gives is finite.
pub primitives_finite : (s : List Float) (tol : Float) (kinds numbers places : ℕ) (xs : List Command) → primitives_call s tol kinds numbers places ≡ gives xs → FiniteNumbers xs
primitives_finite s tol kinds numbers places xs e = fit-points-finite s tol 0 (length s / 3 - 1) kinds numbers places xs e

-- Every number that `fit_arcs` gives is finite.
pub arcs_finite : (ks : List ℕ) (ns : List Float) (tol : Float) (kinds numbers : ℕ) (xs : List Command) → arcs_call ks ns tol kinds numbers ≡ gives xs → FiniteNumbers xs
unfolding arcs_call arcs_rows
arcs_finite ks ns tol kinds numbers xs e =
    let g = unless-given (refusal (arcs_rows ks ns tol kinds numbers)) (course_fit (laps_rule tol) (lent_course ks ns)) xs e in
    let acc = arcs_accepted ks ns tol kinds numbers g.0 in
    let a = row_passed 0 _ _ g.0 in
    let b = row_passed 0 _ _ a.1 in
    let c = row_passed 1 _ _ b.1 in
    let d = row_passed 3 _ _ c.1 in
    let f = row_passed 4 _ _ d.1 in
    subst FiniteNumbers g.1 (course_finite (laps_rule tol) origin (lent_course ks ns) (origin-placed 20) (lent_in ks ns (not-false _ f.0)) acc.not_many)

-- ---- optimize_path_from_array
lines-finite : (k : ℕ) (ps : List Point3D) → EachBelow k (flat triple ps) → FiniteNumbers (map Line ps)
unfolding flat numbers_of
lines-finite k [] h = tt
lines-finite k (p ∷ ps) h =
    let P : Placed k p = record { in_x = h.0; in_y = h.1.0; in_z = h.1.1.0 } in
    (nine-finite p origin origin (placed-finite P) zeros_finite zeros_finite, lines-finite k ps h.1.1.1)

behind-finite : (k : ℕ) (ps : List Point3D) → EachBelow k (flat triple ps) → FiniteNumbers (map Line (drop 1 ps))
unfolding flat
behind-finite k [] h = tt
behind-finite k (p ∷ ps) h = lines-finite k ps h.1.1.1

path_chain-finite : (arcs : Bool) (tol : Float) (s : List Float) → EachBelow 27 s → length s / 3 ≤ 2048 → FiniteNumbers (optimized_chain arcs tol s)
unfolding optimized_chain
path_chain-finite true tol s h l = lent-finite (points_rule tol) s 0 (length s / 3 - 1) l h (λ g. omega arith)
path_chain-finite false tol s h l = behind-finite 27 (kept_of (points_rule tol) s) (kept-below (points_rule tol) s h)

path_near : (last : Point3D) (c : Command) → Placed 20 last → command_in c ≡ true → Joins (lines_joined last c)
unfolding lines_joined command_in
path_near last (Move p) L h = tt
path_near last (Line p) L h = λ l. triple-each (placed-more 27 (omega arith) (point_in p h))
path_near last (Arc p o n) L h = tt
path_near last (Bezier p c d) L h = tt

path_most-few : (cs : List Command) → length cs ≤ 800 → most_of (parts_from lines_joined origin (triple origin) cs) ≤ 800
unfolding path_flush parts_by joined_by joins_beziers
path_most-few cs h = subst (λ (n : ℕ). n ≤ 800) (sym (path_most true +0 cs)) h

-- Every number that a path's optimisation writes is finite, at any tolerance, for at most 800 commands of the domain.
pub path_finite : (arcs : Bool) (tol : Float) (cs : List Command) → CommandsIn cs → length cs ≤ 800 → FiniteNumbers (optimized arcs tol cs)
unfolding optimized
path_finite arcs tol cs h m =
    parts-finite lines_joined (optimized_chain arcs tol) path_near (path_chain-finite arcs tol) origin (triple origin) cs
    (origin-placed 20) (triple-each (origin-placed 27)) h (path_most-few cs m)

-- Every number that `optimize_path_from_array` gives is finite.
pub optimize_finite : (ks : List ℕ) (ns : List Float) (tol : Float) (arcs : Bool) (kinds numbers : ℕ) (xs : List Command)
    → optimize_call ks ns tol arcs kinds numbers ≡ gives xs → FiniteNumbers xs
unfolding optimize_call
optimize_finite ks ns tol arcs kinds numbers xs e =
    let g = unless-given (refusal (command_rows ks ns tol kinds numbers)) (optimized arcs tol (lent_course ks ns)) xs e in
    let a = row_passed 0 _ _ g.0 in
    let b = row_passed 0 _ _ a.1 in
    let c = row_passed 1 _ _ b.1 in
    let d = row_passed 3 _ _ c.1 in
    let f = row_passed 4 _ _ d.1 in
    let l = course_length ks ns (length ks) 0 in
    let m : length ks ≤ 800 = ltb-false 800 (length ks) c.0 in
    subst FiniteNumbers g.1 (path_finite arcs tol (lent_course ks ns) (lent_in ks ns (not-false _ f.0)) (omega arith))
