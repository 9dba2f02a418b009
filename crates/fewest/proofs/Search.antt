-- The search in one value, step by step: each answer of the code is the state that the definition has. Assumes nothing.
use Prim.Native.Nat.{ℕ, ◌+◌, ◌≤◌, ◌<◌}
use mathlib.Core.Path.{◌≡◌, refl, sym, ap, ◌∙◌, subst}
use mathlib.Core.Bool.{true, false}
use mathlib.Core.List.{List}
use lib.ListN.{get_or, set, get_or-map}
use Rattle.std.proofs.lemmas.List.{map-set}
use Rattle.ways.specs.declared.phase.Phase.{Phase}
use Rattle.ways.specs.declared.phase.Phase.TheVariants.{Going, Arrived, Spent}
use Rattle.ways.specs.Layers.{State, going, spent, in_order, searched}
use Rattle.ways.proofs.Steps.{pair_old, pair-spent, pair-missed, pair_end, pair-on, Steady, Loop, loop_start, loop_next, loop_stop, loop_done, layers_steady, layer_on, layer_end}
use Rattle.fewest.specs.declared.fewest.Reach.{Reach}
use Rattle.fewest.specs.declared.fewest.Search.{Search}
use Rattle.fewest.specs.declared.fewest.Task.{Task}
use Rattle.fewest.specs.Straights.{most_points}
use Rattle.fewest.specs.Search.{levels, parents, state_of, test_of, pair_of, point_of, layer_of, On, Went, Ran, Begun}

-- how a point is held that was not reached
abbrev pub unreached : Reach
unreached = record { level = 0; parent = 0 }

pub level-at : (rs : List Reach) (v : ℕ) → get_or (levels rs) v 0 ≡ (get_or rs v unreached).level
level-at rs v = get_or-map (λ (r : Reach). r.level) rs v unreached

pub parent-at : (rs : List Reach) (v : ℕ) → get_or (parents rs) v 0 ≡ (get_or rs v unreached).parent
parent-at rs v = get_or-map (λ (r : Reach). r.parent) rs v unreached

pub going-is : (p : Phase) → going p ≡ true → p ≡ Going
going-is Going g = refl
going-is Arrived g = cc
going-is Spent g = cc

-- ---- the pair of u and v in a search that goes on, which is left as it is, spent, missed or reached; p is where it stands then
module _ (s : Search) (u v : ℕ) (g : going s.phase ≡ true) where
  pub stays : 0 < (get_or s.reached v unreached).level → state_of s ≡ pair_of s.task u v (state_of s)
  stays l = pair_old (test_of s.task) s.task.last s.task.budget u v (state_of s) g (rw (level-at s.reached v) l)

  module _ (l : (get_or s.reached v unreached).level ≤ 0) where
    pub is_spent : s.tested ≡ s.task.budget → spent (state_of s) ≡ pair_of s.task u v (state_of s)
    is_spent b = pair-spent (test_of s.task) s.task.last s.task.budget u v (state_of s) g (rw (level-at s.reached v) l) b

    module _ (b : s.tested ≡ s.task.budget → ⊥) where
      pub is_missed : test_of s.task u v ≡ false
          → record { level = levels s.reached; parent = parents s.reached; tested = s.tested + 1; finished = s.finished; phase = s.phase } ≡ pair_of s.task u v (state_of s)
      is_missed o =
          ap (λ (p : Phase). record { level = levels s.reached; parent = parents s.reached; tested = s.tested + 1; finished = s.finished; phase = p }) (going-is s.phase g)
          ∙ pair-missed (test_of s.task) s.task.last s.task.budget u v (state_of s) g (rw (level-at s.reached v) l) b o

      -- with the point v reached from u
      abbrev pub reached_with : Phase → State
      reached_with p =
          let rs = set s.reached v (record { level = s.finished + 2; parent = u }) in
          record { level = levels rs; parent = parents rs; tested = s.tested + 1; finished = s.finished; phase = p }

      pub is_end : test_of s.task u v ≡ true → v ≡ s.task.last → reached_with Arrived ≡ pair_of s.task u v (state_of s)
      is_end o e =
          rw (map-set (λ (r : Reach). r.level) s.reached v _, map-set (λ (r : Reach). r.parent) s.reached v _)
          (pair_end (test_of s.task) s.task.last s.task.budget u v (state_of s) g (rw (level-at s.reached v) l) b o e)

      pub is_on : test_of s.task u v ≡ true → (v ≡ s.task.last → ⊥) → reached_with s.phase ≡ pair_of s.task u v (state_of s)
      is_on o e =
          ap (λ (p : Phase). reached_with p) (going-is s.phase g)
          ∙ rw (map-set (λ (r : Reach). r.level) s.reached v _, map-set (λ (r : Reach). r.parent) s.reached v _)
          (pair-on (test_of s.task) s.task.last s.task.budget u v (state_of s) g (rw (level-at s.reached v) l) b o e)

-- ---- a loop over the steps f in order, n of them from `first` up to e, in a layer: the search s₀ has come to s, before step i
pub record Walked (f : Task → ℕ → State → State) (e : ℕ) (whole : State) (s₀ s : Search) (i : ℕ) : Type 0 where
  pub task : s.task ≡ s₀.task
  pub finished : s.finished ≡ s₀.finished
  pub loop : Loop (f s₀.task) e s₀.task.budget whole (state_of s) i

module _ (f : Task → ℕ → State → State) (n : Task → ℕ) (first e : ℕ) (s₀ : Search) (o : On s₀) where
  abbrev whole : State
  whole = in_order (f s₀.task) (n s₀.task) first (state_of s₀)

  pub walk_start : first + n s₀.task ≡ e → Walked f e whole s₀ s₀ first
  walk_start h = record { task = refl; finished = refl; loop = loop_start (f s₀.task) e s₀.task.budget (n s₀.task) first (state_of s₀) o.1 s₀.paid h }

  module _ (s : Search) (i : ℕ) (w : Walked f e whole s₀ s i) where
    pub walk_on : On s
    walk_on = (rw (w.finished, w.task) o.0, w.loop.on)

    pub walk_done : e ≤ i → Went (λ t. in_order (f t) (n t) first) s₀ s
    walk_done h = record { task = w.task; finished = w.finished; state = loop_done (f s₀.task) e s₀.task.budget whole (state_of s) i w.loop h }

    -- after one step more, which led to s'
    module _ (k : Steady (f s₀.task) s₀.task.budget) (s' : Search) (h : i < e) (q : Went (λ t. f t i) s s') where
      by_first : state_of s' ≡ f s₀.task i (state_of s)
      by_first = q.state ∙ ap (λ (t : Task). f t i (state_of s)) w.task

      pub walk_next : going s'.phase ≡ true → Walked f e whole s₀ s' (i + 1)
      walk_next g =
          record { task = q.task ∙ w.task; finished = q.finished ∙ w.finished; loop = loop_next (f s₀.task) e s₀.task.budget whole (state_of s) i w.loop k (state_of s') h by_first g }

      pub walk_stop : going s'.phase ≡ false → Went (λ t. in_order (f t) (n t) first) s₀ s'
      walk_stop g =
          record { task = q.task ∙ w.task; finished = q.finished ∙ w.finished; state = loop_stop (f s₀.task) e s₀.task.budget whole (state_of s) i w.loop k (state_of s') h by_first g }

-- ---- layer after layer: the search s₀ has come to s, and its next layer leads to s'
module _ (s₀ : Search) (whole : State) (s s' : Search) (e : s.task ≡ s₀.task) (l : Loop (λ i. layer_of s₀.task) s₀.task.last s₀.task.budget whole (state_of s) s.finished)
    (h : s.finished < s.task.last) (q : Went (λ t. in_order (point_of t) (t.last + 1) 0) s s') where
  by_first_task : state_of s' ≡ in_order (point_of s₀.task) (s₀.task.last + 1) 0 (state_of s)
  by_first_task = q.state ∙ ap (λ (t : Task). in_order (point_of t) (t.last + 1) 0 (state_of s)) e

  before : s.finished < s₀.task.last
  before = subst (λ (t : Task). s.finished < t.last) e h

  pub layer-stops : going s'.phase ≡ false → state_of s' ≡ whole
  layer-stops g =
      loop_stop (λ i. layer_of s₀.task) s₀.task.last s₀.task.budget whole (state_of s) s.finished l (layers_steady (test_of s₀.task) s₀.task.last s₀.task.budget) (state_of s') before
      (layer_end (test_of s₀.task) s₀.task.last s₀.task.budget (state_of s) (state_of s') by_first_task g) g

  pub layer-next : going s'.phase ≡ true
      → Loop (λ i. layer_of s₀.task) s₀.task.last s₀.task.budget whole
      (record { level = levels s'.reached; parent = parents s'.reached; tested = s'.tested; finished = s'.finished + 1; phase = s'.phase }) (s'.finished + 1)
  layer-next g =
      let t : State = record { level = levels s'.reached; parent = parents s'.reached; tested = s'.tested; finished = s'.finished + 1; phase = s'.phase } in
      subst (λ (n : ℕ). Loop (λ i. layer_of s₀.task) s₀.task.last s₀.task.budget whole t (n + 1)) (sym q.finished)
      (loop_next (λ i. layer_of s₀.task) s₀.task.last s₀.task.budget whole (state_of s) s.finished l (layers_steady (test_of s₀.task) s₀.task.last s₀.task.budget) t before
      (layer_on (test_of s₀.task) s₀.task.last s₀.task.budget (state_of s) (state_of s') by_first_task g) g)

-- the search for t, run from before its first pair, is the whole search
module _ (t : Task) (s s' : Search) (b : Begun t s) (r : Ran (λ t. in_order (λ i. layer_of t) t.last 0) s s') where
  pub run-task : s'.task ≡ t
  run-task = r.task ∙ b.task

  pub run-state : state_of s' ≡ searched (test_of t) most_points t.last t.budget
  unfolding searched
  run-state = r.state ∙ ap (λ (k : Task). in_order (λ i. layer_of k) k.last 0 (state_of s)) b.task ∙ ap (in_order (λ i. layer_of t) t.last 0) b.state
