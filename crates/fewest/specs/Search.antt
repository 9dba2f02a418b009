-- The code's own way: the search in one value. What a reader has to believe stands in Straights.antt and Calls.antt. Definitions only.
use Rattle.std.specs.Prelude.{ℕ, ◌<◌, ◌≤◌, ◌≡◌, true, List, map, get_or}
use Rattle.ways.specs.Way.{Test}
use Rattle.ways.specs.Layers.{State, going, start, try_pair, try_point, try_layer}
use Rattle.fewest.specs.declared.fewest.Reach.{Reach}
use Rattle.fewest.specs.declared.fewest.Search.{Search}
use Rattle.fewest.specs.declared.fewest.Task.{Task}
use Rattle.fewest.specs.Straights.{most_points, passing}

-- the state that a search stands for
abbrev pub levels : List Reach → List ℕ
levels rs = map (λ (r : Reach). r.level) rs

abbrev pub parents : List Reach → List ℕ
parents rs = map (λ (r : Reach). r.parent) rs

abbrev pub state_of : Search → State
state_of s = record { level = levels s.reached; parent = parents s.reached; tested = s.tested; finished = s.finished; phase = s.phase }

-- ---- the steps of a search by what it is asked: a pair, a point and a layer
abbrev pub test_of : Task → Test
test_of t = passing t.points.now t.tolerance

abbrev pub pair_of : Task → ℕ → ℕ → State → State
pair_of t = try_pair (test_of t) t.last t.budget

abbrev pub point_of : Task → ℕ → State → State
point_of t = try_point (test_of t) t.last t.budget

abbrev pub layer_of : Task → State → State
layer_of t = try_layer (test_of t) t.last t.budget

-- the search goes on, in a layer that is not finished
abbrev pub On : Search → Type 0
On s = (s.finished < s.task.last) × (going s.phase ≡ true)

-- s has become s' by the steps f, inside a layer; what it is asked stays
pub record Went (f : Task → State → State) (s s' : Search) : Type 0 where
  pub task : s'.task ≡ s.task
  pub finished : s'.finished ≡ s.finished
  pub state : state_of s' ≡ f s.task (state_of s)

-- the same, layer after layer
pub record Ran (f : Task → State → State) (s s' : Search) : Type 0 where
  pub task : s'.task ≡ s.task
  pub state : state_of s' ≡ f s.task (state_of s)

-- the search for t, before its first pair
pub record Begun (t : Task) (s : Search) : Type 0 where
  pub task : s.task ≡ t
  pub state : state_of s ≡ start most_points

-- no parent lies behind the last point
abbrev pub Within : ℕ → List ℕ → Type 0
Within last parent = (i : ℕ) → get_or parent i 0 ≤ last
