-- The two courses as the walk has them, and the most of a path. Assumes nothing.
use Prim.Native.Nat.{ℕ, zero, suc, ◌+◌, ◌-◌, ◌*◌, ◌/◌, ◌≤◌}
use mathlib.Core.Path.{◌≡◌, refl, ap, ◌∙◌}
use mathlib.Core.Bool.{Bool, true, false}
use mathlib.Core.List.{List, [], ◌∷◌, map}
use native.Mathlib.Omega.{arith}
use borrow.Author.Tests.{not-false}
use lib.ListN.{length, drop}
use lib.Ieee.{Float}
use Rattle.floats.specs.Ops.{◌≺◌, +0}
use Rattle.geo.specs.declared.types.Point3D.{Point3D}
use Rattle.geo.specs.declared.types.Command.{Command}
use Rattle.geo.specs.declared.types.Command.TheVariants.{Move, Line, Arc, Bezier}
use Rattle.std.specs.Prelude.{Ok}
use Rattle.geo.specs.Outcome.{refusal}
use Rattle.geo.specs.Wrote.{WroteCommands}
use Rattle.geo.specs.Lent.{triple, origin, end_of, numbers_of, commands_from, point_at}
use Rattle.geo.proofs.Wrote.{commands-given}
use Rattle.geo.proofs.Wrote.{nine}
use Rattle.geo.proofs.Flat.{flat_length}
use Rattle.geo.proofs.Rows.{row_passed}
use Rattle.geo.proofs.Tolerance.{tolerance-positive}
use Rattle.simplify.specs.Simplify.{command_rows}
use Rattle.simplify.proofs.Accepted.{commands-accepted}
use Rattle.pieces.specs.declared.pieces.Rule.{Rule}
use Rattle.pieces.specs.Pieces.{points_rule}
use Rattle.pieces.specs.Written.{commands_of, NotedPlaced}
use Rattle.pieces.proofs.Writing.{commands_length, commands-placed}
use Rattle.pieces.specs.Commands.{kept_of}
use Rattle.pieces.proofs.Fitted.{noted-fit}
use Rattle.chain.specs.declared.chain.Flush.{Flush}
use Rattle.chain.specs.declared.chain.Flush.TheVariants.{Fitted, AsItStands, Lines}
use Rattle.chain.specs.Parts.{most_of, parts_from}
use Rattle.chain.specs.Joins.{lines_joined}
use Rattle.chain.specs.Chains.{joins_beziers, joined_by, flushed_by, line_noted}
use Rattle.chain.proofs.Parts.{noted-few, parts-commands}
use Rattle.chain.proofs.Chains.{flushed_few}
use Rattle.course.specs.Course.{parts_on, most_on, lent_course, optimized_chain, optimized, optimize_call}
use Rattle.course.specs.Walks.{weight_of, weights_from, path_flush, parts_by, fit_by, noted_on}
use Rattle.course.proofs.Most.{Whole, most_by_weights}

-- ---- the course of `fit_arcs`
pub course_fit : (r : Rule) (p : Point3D) (cs : List Command) → fit_by Fitted r p cs ≡ noted_on r p cs
unfolding fit_by parts_by noted_on parts_on joined_by joins_beziers flushed_by
course_fit r p cs = refl

pub course_most : (tol : Float) (p : Point3D) (cs : List Command) → most_of (parts_by Fitted tol p cs) ≡ most_on tol p cs
unfolding parts_by most_on parts_on joined_by joins_beziers
course_most tol p cs = refl

-- ---- that of `optimize_path_from_array`
-- what is noted beside a path's commands does not change them
lines-commands : (ps : List Point3D) → commands_of (map line_noted ps) ≡ map Line ps
unfolding commands_of line_noted
lines-commands [] = refl
lines-commands (p ∷ ps) = ap (λ (cs : List Command). Line p ∷ cs) (lines-commands ps)

pub path_commands : (arcs : Bool) (tol : Float) (s : List Float) → commands_of (flushed_by (path_flush arcs) (points_rule tol) s) ≡ optimized_chain arcs tol s
unfolding path_flush flushed_by optimized_chain
path_commands true tol s = noted-fit (points_rule tol) (point_at s) 0 (length s / 3 - 1)
path_commands false tol s = lines-commands (drop 1 (kept_of (points_rule tol) s))

pub path_fit : (arcs : Bool) (tol : Float) (cs : List Command) → commands_of (fit_by (path_flush arcs) (points_rule tol) origin cs) ≡ optimized arcs tol cs
unfolding fit_by parts_by optimized joined_by joins_beziers path_flush
path_fit true tol cs = parts-commands (flushed_by AsItStands (points_rule tol)) (optimized_chain true tol) (path_commands true tol) (parts_from lines_joined origin (triple origin) cs)
path_fit false tol cs = parts-commands (flushed_by Lines (points_rule tol)) (optimized_chain false tol) (path_commands false tol) (parts_from lines_joined origin (triple origin) cs)

whole-lines : (last : Point3D) (c : Command) → Whole (lines_joined last c)
unfolding lines_joined
whole-lines last (Move p) = tt
whole-lines last (Line p) = refl
whole-lines last (Arc p o n) = tt
whole-lines last (Bezier p c d) = tt

-- every command counts as one
one_each : (last : Point3D) (c : Command) → weight_of (lines_joined last c) ≡ 1
unfolding lines_joined weight_of
one_each last (Move p) = refl
one_each last (Line p) = refl
one_each last (Arc p o n) = refl
one_each last (Bezier p c d) = refl

weights_count : (last : Point3D) (cs : List Command) → weights_from lines_joined last cs ≡ length cs
unfolding weights_from
weights_count last [] = refl
weights_count last (c ∷ cs) = let a = one_each last c in let b = weights_count (end_of c) cs in omega arith

lines-most : (cs : List Command) → most_of (parts_from lines_joined origin (triple origin) cs) ≡ length cs
lines-most cs = let e = most_by_weights lines_joined whole-lines origin (triple origin) 1 refl (omega arith) cs in let w = weights_count origin cs in omega arith

pub path_most : (arcs : Bool) (tol : Float) (cs : List Command) → most_of (parts_by (path_flush arcs) tol origin cs) ≡ length cs
unfolding path_flush parts_by joined_by joins_beziers
path_most true tol cs = lines-most cs
path_most false tol cs = lines-most cs

pub course_length : (ks : List ℕ) (ns : List Float) (n i : ℕ) → length (commands_from ks ns n i) ≡ n
unfolding commands_from
course_length ks ns zero i = refl
course_length ks ns (suc n) i = ap suc (course_length ks ns n (i + 1))

-- what is written is at most the most
path_few : (arcs : Bool) (tol : Float) → (+0 ≺ tol) ≡ true → (cs : List Command) → length (fit_by (path_flush arcs) (points_rule tol) origin cs) ≤ most_of (parts_by (path_flush arcs) tol origin cs)
unfolding fit_by
path_few arcs tol pos cs = noted-few (flushed_by (path_flush arcs) (points_rule tol)) (flushed_few (path_flush arcs) (points_rule tol) pos) (parts_by (path_flush arcs) tol origin cs)

-- the tolerance of a path that is accepted
path_positive : (ks : List ℕ) (ns : List Float) (tol : Float) (kinds numbers : ℕ) → 0 ≡ refusal (command_rows ks ns tol kinds numbers) → (+0 ≺ tol) ≡ true
path_positive ks ns tol kinds numbers z =
    let a = row_passed 0 _ _ z in
    let b = row_passed 0 _ _ a.1 in
    let c = row_passed 1 _ _ b.1 in
    let d = row_passed 3 _ _ c.1 in
    let f = row_passed 4 _ _ d.1 in
    let g = row_passed 5 _ _ f.1 in
    tolerance-positive tol (not-false _ g.0)

-- what an accepted path knows, answers and leaves
module _ (ks : List ℕ) (ns : List Float) (tol : Float) (arcs : Bool) (oks : List ℕ) (ons : List Float)
    (z : 0 ≡ refusal (command_rows ks ns tol (length oks) (length ons))) where
  most-is : most_of (parts_by (path_flush arcs) tol origin (lent_course ks ns)) ≡ length ks
  most-is = path_most arcs tol (lent_course ks ns) ∙ course_length ks ns (length ks) 0

  pub path_accepted : ((+0 ≺ tol) ≡ true) × ((9 * length ks ≤ length ns) × (most_of (parts_by (path_flush arcs) tol origin (lent_course ks ns)) ≤ 800)
      × (most_of (parts_by (path_flush arcs) tol origin (lent_course ks ns)) ≤ length oks) × (9 * most_of (parts_by (path_flush arcs) tol origin (lent_course ks ns)) ≤ length ons))
  path_accepted =
      let a = commands-accepted ks ns tol (length oks) (length ons) z in
      let m = most-is in
      (path_positive ks ns tol (length oks) (length ons) z, (omega (arith, a), omega (arith, a, m), omega (arith, a, m), omega (arith, a, m)))

  pub wrote_path : (f : Flush) → f ≡ path_flush arcs → (oks' : List ℕ) (ons' : List Float) (oss oss' : List ℕ) (k : ℕ) → NotedPlaced (fit_by f (points_rule tol) origin (lent_course ks ns)) 0 k oks oks' ons ons' oss oss'
      → WroteCommands (optimize_call ks ns tol arcs (length oks) (length ons)) oks oks' ons ons' (Ok k)
  unfolding optimize_call
  wrote_path f is oks' ons' oss oss' k q =
      let fitted = fit_by (path_flush arcs) (points_rule tol) origin (lent_course ks ns) in
      let d = path_fit arcs tol (lent_course ks ns) in
      let p = commands-placed _ _ 0 k oks oks' ons ons' oss oss' (ap (λ (h : Flush). commands_of (fit_by h (points_rule tol) origin (lent_course ks ns))) is ∙ d) q in
      let xs = optimized arcs tol (lent_course ks ns) in
      let a = path_accepted in
      let l : length fitted ≤ most_of (parts_by (path_flush arcs) tol origin (lent_course ks ns)) = path_few arcs tol a.0 (lent_course ks ns) in
      let m = commands_length fitted in
      let s = ap length d in
      commands-given _ z xs oks oks' ons ons' k p.count (omega (arith, a.1)) (omega (arith, a.1, flat_length numbers_of 9 nine xs)) p.kinds p.numbers
