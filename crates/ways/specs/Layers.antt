-- The search in layers, by a budget of tests, over any test `ok` of the points 0 to `last`. Definitions only.
use Rattle.std.specs.Prelude.{ℕ, zero, suc, ◌+◌, ◌-◌, Bool, true, false, List, [], ◌∷◌, length, get_or, set, replicate, eqb, ltb, if◌then◌else◌}
use Rattle.ways.specs.declared.phase.Phase.{Phase}
use Rattle.ways.specs.declared.phase.Phase.TheVariants.{Going, Arrived, Spent}
use Rattle.ways.specs.Way.{Test}

-- `level` has for each point the number of the layer that reached it, the first point's being 1, and 0 for a point not reached; `parent` the point that it was reached from
pub record State : Type 0 where
  pub level : List ℕ
  pub parent : List ℕ
  pub tested : ℕ
  pub finished : ℕ
  pub phase : Phase

abbrev pub going : Phase → Bool
going Going = true
going Arrived = false
going Spent = false

abbrev pub arrived : Phase → Bool
arrived Going = false
arrived Arrived = true
arrived Spent = false

-- before the first pair: the first point alone is reached; the lists have room for `size` points
abbrev pub start : ℕ → State
start size = record { level = set (replicate size 0) 0 1; parent = replicate size 0; tested = 0; finished = 0; phase = Going }

-- a pair is due, and the budget is spent
abbrev pub spent : State → State
spent s = record { level = s.level; parent = s.parent; tested = s.tested; finished = s.finished; phase = Spent }

-- a pair was tested, and does not pass
abbrev pub missed : State → State
missed s = record { level = s.level; parent = s.parent; tested = s.tested + 1; finished = s.finished; phase = Going }

-- the pair of u, in the layer after the finished ones, and v passes: v is reached, one layer deeper, from u; at the last point the search stops
abbrev pub reached : ℕ → ℕ → ℕ → State → State
reached last u v s = record {
  level = set s.level v (s.finished + 2);
  parent = set s.parent v u;
  tested = s.tested + 1;
  finished = s.finished;
  phase = if eqb v last then Arrived else Going;
}

-- the pair of u and v comes up: it is passed over where the search has stopped or v is reached already; else it is due, and tested if the budget is not spent
unfoldable pub try_pair : Test → ℕ → ℕ → ℕ → ℕ → State → State
try_pair ok last budget u v s =
    if going s.phase then
    (if ltb 0 (get_or s.level v 0) then s else
    if eqb s.tested budget then spent s else
    if ok u v then reached last u v s else missed s)
    else s

-- the n steps f i, f (i + 1) .., one after the other
unfoldable pub in_order : (ℕ → State → State) → ℕ → ℕ → State → State
in_order f zero i s = s
in_order f (suc n) i s = in_order f n (i + 1) (f i s)

-- a point with each of its later points, in list order, if it is of the layer after the finished ones
unfoldable pub try_point : Test → ℕ → ℕ → ℕ → State → State
unfolding try_pair in_order
try_point ok last budget u s = if eqb (get_or s.level u 0) (s.finished + 1) then in_order (try_pair ok last budget u) (last - u) (u + 1) s else s

-- a layer whose points are through is finished, if the search did not stop in it
abbrev pub closed : State → State
closed s =
    if going s.phase then record { level = s.level; parent = s.parent; tested = s.tested; finished = s.finished + 1; phase = s.phase } else s

-- a layer: its points in list order
unfoldable pub try_layer : Test → ℕ → ℕ → State → State
unfolding try_point in_order
try_layer ok last budget s = closed (in_order (try_point ok last budget) (last + 1) 0 s)

-- the whole search, layer after layer: it stops in the layer of number `last` at the latest
unfoldable pub searched : Test → ℕ → ℕ → ℕ → State
unfolding try_layer in_order
searched ok size last budget = in_order (λ i. try_layer ok last budget) last 0 (start size)

-- the ends of the last n Lines of the way to v, before ks
unfoldable pub back : List ℕ → ℕ → ℕ → List ℕ → List ℕ
back parent zero v ks = ks
back parent (suc n) v ks = back parent n (get_or parent v 0) (v ∷ ks)

-- the ends of the way that was found: one Line more than layers finished
abbrev pub found : ℕ → State → List ℕ
found last s = back s.parent (s.finished + 1) last []

-- the answer: the ends of the Lines, of which there are `length ends`, the pairs tested, and a lower bound
pub record Best : Type 0 where
  pub ends : List ℕ
  pub tested : ℕ
  pub bound : ℕ

-- of the way c that is known at no cost, and the search as it stopped
abbrev pub best_of : ℕ → List ℕ → State → Best
best_of last c s =
    if arrived s.phase then record { ends = found last s; tested = s.tested; bound = length (found last s) }
    else record { ends = c; tested = s.tested; bound = s.finished + 1 }

-- the fewest straights from the first point to the last that a budget of tests finds, where c is a way already known
unfoldable pub fewest : Test → ℕ → ℕ → ℕ → List ℕ → Best
unfolding searched back
fewest ok size last budget c = best_of last c (searched ok size last budget)
