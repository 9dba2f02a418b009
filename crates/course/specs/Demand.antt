-- Demand 3's sentences about the chains of a course, as propositions, over the rule r by which a course is thinned and fitted. Definitions only;
-- proofs/Demand.antt shows that they hold.
use Rattle.std.specs.Prelude.{ℕ, ◌+◌, ◌-◌, ◌/◌, ◌≤◌, ◌<◌, ◌≡◌, true, List, [], ◌∷◌, ◌++◌, map, length, Float}
use Rattle.floats.specs.Ops.{◌⊗◌, ◌≺◌, +0}
use Rattle.geo.specs.declared.types.Point3D.{Point3D}
use Rattle.geo.specs.declared.types.Command.{Command}
use Rattle.geo.specs.declared.types.Command.TheVariants.{Move}
use Rattle.geo.specs.Lent.{point_at, triple, flat}
use Rattle.simplify.specs.Thin.{kept_in, thinned_points}
use Rattle.simplify.specs.Words.{Ascending, Near, Neighbours}
use Rattle.pieces.specs.declared.pieces.Rule.{Rule}
use Rattle.pieces.specs.Pieces.{distance, Piece, pieces_in}
use Rattle.pieces.specs.Laws.{RangeFitted}
use Rattle.chain.specs.Parts.{Part, chain, kept}
use Rattle.course.specs.Course.{fit_on, most_on, course_fit, course_most}

-- ---- the thinned chain: its points, one by its index, and its last index, which is the number of its steps
abbrev pub thinned_chain : Rule → List Float → List Point3D
thinned_chain r s = thinned_points (distance r) (r.tolerance ⊗ r.tolerance) (point_at s) (length s / 3)

abbrev pub thinned_at : Rule → List Float → ℕ → Point3D
thinned_at r s = point_at (flat triple (thinned_chain r s))

abbrev pub steps_of : Rule → List Float → ℕ
steps_of r s = length (thinned_chain r s) - 1

-- the pieces of the chain s
abbrev pub chain_pieces : Rule → List Float → List Piece
chain_pieces r s = pieces_in r (thinned_at r s) 0 (steps_of r s)

-- the indices that thinning keeps strictly between the first point of the chain s and its last, and all that it keeps
abbrev pub kept_inside : Rule → List Float → List ℕ
kept_inside r s = kept_in (distance r) (r.tolerance ⊗ r.tolerance) (point_at s) 0 (length s / 3 - 1)

abbrev pub kept_indices : Rule → List Float → List ℕ
kept_indices r s = 0 ∷ (kept_inside r s ++ (length s / 3 - 1) ∷ [])

-- What demand 3 says of a chain s of two or more points and the commands xs that it gives.
pub record ChainFitted (r : Rule) (s : List Float) (xs : List Command) : Type 0 where
  -- the thinned chain is the chain's first point, those kept between, and its last, in the chain's order
  pub thinned : thinned_chain r s ≡ map (point_at s) (kept_indices r s)
  pub ascending : Ascending 0 (length s / 3) (kept_indices r s)
  -- "each thinned-out point is, as computed, within [the tolerance] of the line through its kept neighbours": by the rule's distance, in laps the one to the segment
  -- between them (document 02, §4)
  pub neighbours : Neighbours (Near (distance r) (r.tolerance ⊗ r.tolerance) (point_at s)) 0 (kept_inside r s) (length s / 3 - 1)
  -- "A thinned chain of two or more points is a range": one Line or new Arc for each piece, each step in one piece, each deviation below the tolerance, and the cut rule
  pub fitted : RangeFitted r (point_at (flat triple (thinned_chain r s))) 0 (length (thinned_chain r s) - 1) xs

-- and of any chain: with fewer than two points it has no step, and gives nothing
pub record ChainGives (r : Rule) (s : List Float) (xs : List Command) : Type 0 where
  pub some : 2 ≤ length s / 3 → ChainFitted r s xs
  pub none : length s / 3 < 2 → xs ≡ []

-- The commands xs are some of which A holds, and then some of which B does.
pub record Joined (A B : List Command → Type 0) (xs : List Command) : Type 0 where
  pub front : List Command
  pub rest : List Command
  pub joined : xs ≡ front ++ rest
  pub here : A front
  pub there : B rest

-- What demand 3 says of the parts of a course and the commands xs that it gives: in order, each kept command itself, and of each chain the commands that it gives.
abbrev pub PartsGive : Rule → List Part → List Command → Type 0
PartsGive r [] xs = xs ≡ []
PartsGive r (chain s ∷ ps) xs = Joined (ChainGives r s) (PartsGive r ps) xs
PartsGive r (kept c ∷ ps) xs = Joined (λ ys. ys ≡ c ∷ []) (PartsGive r ps) xs

-- ---- commands from a start (document 02, §13)
-- "Its reference is the Rust on that lap with such a Move put in front, which is then taken out of the answer": the course with a Move to p in front is fitted to that Move
-- and then to the fit from p; and its most is one more
abbrev pub Reference : Type 0
Reference =
    (r : Rule) (p : Point3D) (cs : List Command)
    → (course_fit r (Move p ∷ cs) ≡ Move p ∷ fit_on r p cs) × (course_most r.tolerance (Move p ∷ cs) ≡ 1 + most_on r.tolerance p cs)

-- Commands that have their Move are fitted alike from any start.
abbrev pub StartNotAsked : Type 0
StartNotAsked =
    (r : Rule) (p q m : Point3D) (cs : List Command)
    → (fit_on r p (Move m ∷ cs) ≡ fit_on r q (Move m ∷ cs)) × (most_on r.tolerance p (Move m ∷ cs) ≡ most_on r.tolerance q (Move m ∷ cs))

-- Some commands are fitted to some command, from any start: no fit makes a lap with no command.
abbrev pub SomeFitted : Type 0
SomeFitted = (r : Rule) → (+0 ≺ r.tolerance) ≡ true → (p : Point3D) (cs : List Command) → 0 < length cs → 0 < length (fit_on r p cs)
