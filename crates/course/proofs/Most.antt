-- The most of a course, by what its commands count as, counted command by command. Assumes nothing.
use Prim.Native.Nat.{ℕ, ◌+◌, ◌-◌, ◌*◌, ◌/◌, ◌%◌, ◌≤◌, ◌<◌}
use mathlib.Core.Path.{◌≡◌, refl, sym, ap, ◌∙◌, subst}
use mathlib.Core.List.{List, [], ◌∷◌, ◌++◌}
use native.Mathlib.Omega.{arith}
use lib.ListN.{length, length-append}
use lib.Ieee.{Float}
use Rattle.floats.specs.Ops.{◌⊗◌}
use Rattle.floats.specs.Limits.{quarter}
use Rattle.geo.specs.declared.types.Point3D.{Point3D}
use Rattle.geo.specs.declared.types.Command.{Command}
use Rattle.geo.specs.declared.types.Command.TheVariants.{Move, Line, Arc, Bezier}
use Rattle.geo.specs.Lent.{triple, flat, end_of, command_at, commands_from}
use Rattle.bezier.specs.Linearize.{Step, step_end, param_steps}
use Rattle.chain.specs.Parts.{Join, adds, ends, closed, carried, parts_from, part_most, most_of}
use Rattle.chain.specs.Joins.{joined}
use Rattle.chain.specs.Chains.{cap}
use Rattle.chain.proofs.Count.{cap-next}
use Rattle.chain.proofs.Steps.{ends_length}
use Rattle.course.specs.Course.{parts_on, most_on}
use Rattle.course.specs.Walks.{weight_of, weights_from}
use Rattle.course.proofs.Walking.{commands_step}

-- a command adds whole triples
abbrev pub Whole : Join → Type 0
Whole (adds ps) = length ps % 3 ≡ 0
Whole ends = Unit

-- the most by commands: a chain's points are whole triples
module _ (join : Point3D → Command → Join) (whole : (last : Point3D) (c : Command) → Whole (join last c)) where
  pub most_by_weights : (last : Point3D) (s : List Float) (k : ℕ) → length s ≡ 3 * k → 1 ≤ k → (cs : List Command)
      → most_of (parts_from join last s cs) ≡ k - 1 + weights_from join last cs
  unfolding parts_from closed carried most_of part_most weight_of weights_from
  most_by_weights last s k l h [] = omega arith
  most_by_weights last s k l h (c ∷ cs) = go (join last c) refl (λ t n p q. most_by_weights (end_of c) t n p q cs)
    where
      go : (j : Join) → join last c ≡ j
          → ((t : List Float) (n : ℕ) → length t ≡ 3 * n → 1 ≤ n → most_of (parts_from join (end_of c) t cs) ≡ n - 1 + weights_from join (end_of c) cs)
          → most_of (parts_from join last s (c ∷ cs)) ≡ k - 1 + weights_from join last (c ∷ cs)
      go (adds ps) e r =
          rw e (let a = length-append s ps in let d = subst Whole e (whole last c) in let b = r (s ++ ps) (k + length ps / 3) (omega arith) (omega arith) in omega arith)
      go ends e r = rw e (let b = r (triple (end_of c)) 1 refl (omega arith) in omega arith)

-- ---- of a course of `fit_arcs`
pub bezier_weight : (xs : List Step) → weight_of (adds (flat step_end xs)) ≡ length xs
unfolding weight_of
bezier_weight xs = let l = ends_length xs in omega arith

whole-joined : (tol : Float) (last : Point3D) (c : Command) → Whole (joined tol last c)
unfolding joined
whole-joined tol last (Move p) = tt
whole-joined tol last (Line p) = refl
whole-joined tol last (Arc p o n) = tt
whole-joined tol last (Bezier p c d) = let l = ends_length (param_steps p c d last (tol ⊗ quarter)) in omega arith

-- the most of a course is what its commands count as
pub most_of_commands : (tol : Float) (p : Point3D) (cs : List Command) → most_on tol p cs ≡ weights_from (joined tol) p cs
unfolding most_on parts_on
most_of_commands tol p cs = let e = most_by_weights (joined tol) (whole-joined tol) p (triple p) 1 refl (omega arith) cs in omega arith

-- ---- counted command by command: m before the command c at index i, m' behind it
module _ (tol : Float) (ks : List ℕ) (ns : List Float) (n : ℕ) where
  -- what the commands from index i on count as, behind the position `last`
  abbrev pub left : Point3D → ℕ → ℕ
  left last i = weights_from (joined tol) last (commands_from ks ns (n - i) i)

  pub count_next : (last last' : Point3D) (c : Command) (i m k m' total : ℕ) → i < n → c ≡ command_at ks ns i → last' ≡ end_of c → k ≡ cap (weight_of (joined tol last c)) → m' ≡ cap (m + k)
      → cap (m + left last i) ≡ total → cap (m' + left last' (i + 1)) ≡ total
  unfolding weights_from
  count_next last last' c i m k m' total h e q f g t =
      let s : commands_from ks ns (n - i) i ≡ c ∷ commands_from ks ns (n - (i + 1)) (i + 1) = commands_step ks ns n i h ∙ ap (λ (x : Command). x ∷ commands_from ks ns (n - (i + 1)) (i + 1)) (sym e) in
      rw q (cap-next m (weight_of (joined tol last c)) k m' (left (end_of c) (i + 1)) f g ∙ sym (ap (λ (l : List Command). cap (m + weights_from (joined tol) last l)) s) ∙ t)
