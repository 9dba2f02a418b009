-- What §10 says of the answer holds, whatever the points, the tolerance and the budget. Assumes nothing.
use Prim.Native.Nat.{ℕ, ◌+◌, ◌/◌, ◌≤◌}
use mathlib.Core.Path.{◌≡◌, subst}
use mathlib.Core.Bool.{true}
use mathlib.Core.List.{List}
use native.Mathlib.Omega.{arith}
use lib.ListN.{length}
use lib.Ieee.{Float}
use Rattle.floats.specs.Ops.{◌≺◌, +0}
use Rattle.geo.specs.Outcome.{refusal, gives}
use Rattle.geo.proofs.Rows.{unless-given}
use Rattle.ways.specs.Way.{Way, Fewest, all_pairs}
use Rattle.ways.specs.Layers.{Best}
use Rattle.ways.proofs.Laws.{answer-way, between, exact, bound-exact, tested_budget, tested-all, apart_spent}
use Rattle.fewest.specs.Straights.{last_of, passing, cut_ends, fewest_of}
use Rattle.fewest.specs.Calls.{straights_rows, straights_call}
use Rattle.fewest.specs.Laws.{Promised}
use Rattle.fewest.proofs.Cut.{passing-neighbours, cut-way}
use Rattle.fewest.proofs.Whole.{accepted, ends-most}

module _ (s : List Float) (t : Float) (pos : (+0 ≺ t) ≡ true) (two : 2 ≤ length s / 3) (few : length s / 3 ≤ 256) where
  again : last_of s + 1 ≡ length s / 3
  again = omega arith

  known : Way (passing s t) 0 (last_of s) (cut_ends s t 0 (last_of s))
  known = cut-way s t pos 0 (last_of s) (omega arith)

  exactly : (budget : ℕ) → all_pairs (length s / 3) ≤ budget → Fewest (passing s t) (last_of s) (length (fewest_of s t budget).ends)
  unfolding fewest_of
  exactly budget e = exact (passing s t) 256 (last_of s) budget (omega arith) (omega arith) (passing-neighbours s t pos (last_of s)) _ known (rw again e)

  promised : (budget : ℕ) → Promised s t budget (fewest_of s t budget)
  unfolding fewest_of
  promised budget =
      let pass = passing-neighbours s t pos (last_of s) in
      record {
        way = answer-way (passing s t) 256 (last_of s) budget (omega arith) (omega arith) pass _ known;
        most = ends-most s t budget pos two few;
        cut-way = known;
        between = between (passing s t) 256 (last_of s) budget (omega arith) (omega arith) pass _ known;
        true_fewest = exactly (all_pairs (length s / 3)) (omega arith);
        equal = λ e. bound-exact (passing s t) 256 (last_of s) budget (omega arith) (omega arith) pass _ known (rw again e);
        exact = exactly budget;
        paid = tested_budget (passing s t) 256 (last_of s) budget (omega arith) (omega arith) pass _ known;
        pairs = subst (λ (n : ℕ). (fewest_of s t budget).tested ≤ all_pairs n) again (tested-all (passing s t) 256 (last_of s) budget (omega arith) (omega arith) pass _ known);
        spent_else = apart_spent (passing s t) 256 (last_of s) budget (omega arith) (omega arith) pass _ known;
      }

-- Whatever a call gives is as §10 says.
pub straights_promised : (s : List Float) (t : Float) (budget room : ℕ) (b : Best) → straights_call s t budget room ≡ gives b → Promised s t budget b
unfolding straights_call
straights_promised s t budget room b e =
    let g = unless-given (refusal (straights_rows s t room)) (fewest_of s t budget) b e in
    let a = accepted s t budget room g.0 in
    subst (λ (x : Best). Promised s t budget x) g.1 (promised s t a.positive a.two a.few budget)
