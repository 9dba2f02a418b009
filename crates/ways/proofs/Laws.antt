-- The laws of the fewest straights, each stated alone, over any test that neighbours pass and any way c known before. Assumes nothing.
use Prim.Native.Nat.{ℕ, zero, suc, ◌+◌, ◌≤◌, ◌<◌}
use mathlib.Core.Path.{◌≡◌, refl, sym, ap, ◌∙◌, subst}
use mathlib.Core.Bool.{true, false}
use mathlib.Core.List.{List, [], ◌∷◌}
use native.Mathlib.Omega.{arith}
use borrow.Author.Tests.{ltb-true, ltb-false}
use lib.ListN.{length, get_or}
use lib.Dec.{ltb}
use Rattle.floats.proofs.Order.{clash}
use Rattle.ways.specs.Way.{Test, NeighboursPass, Way, steps, Fewest, all_pairs}
use Rattle.ways.specs.Layers.{State, Best, going, arrived, searched, back, found, fewest}
use Rattle.ways.proofs.Steps.{lev, split}
use Rattle.ways.proofs.Pairs.{tri_pairs}
use Rattle.ways.proofs.Held.{Held}
use Rattle.ways.proofs.Walk.{searched-held, searched-finished}

-- ---- ways
-- a way goes forward
pub way_forward : (ok : Test) (u v : ℕ) (ks : List ℕ) → Way ok u v ks → u ≤ v
way_forward ok u v [] w = omega arith
way_forward ok u v (k ∷ ks) w = omega (arith, w.0, way_forward ok k v ks w.2)

-- so it has no more Lines than it passes points
pub way-most : (ok : Test) (u v : ℕ) (ks : List ℕ) → Way ok u v ks → u + length ks ≤ v
way-most ok u v [] w = omega arith
way-most ok u v (k ∷ ks) w = omega (arith, w.0, way-most ok k v ks w.2)

-- from neighbour to neighbour is a way
pub steps-way : (ok : Test) (last : ℕ) → NeighboursPass ok last → (n u : ℕ) → u + n ≡ last → Way ok u last (steps n u)
unfolding steps
steps-way ok last p zero u e = omega arith
steps-way ok last p (suc n) u e = (omega arith, p u (omega arith), steps-way ok last p n (u + 1) (omega arith))

pub steps_length : (n u : ℕ) → length (steps n u) ≡ n
unfolding steps
steps_length zero u = refl
steps_length (suc n) u = ap suc (steps_length n (u + 1))

pub back_length : (parent : List ℕ) (n v : ℕ) (ks : List ℕ) → length (back parent n v ks) ≡ n + length ks
unfolding back
back_length parent zero v ks = omega arith
back_length parent (suc n) v ks = omega (arith, back_length parent n (get_or parent v 0) (v ∷ ks))

-- ---- what was found, of any state in which the laws hold
module _ (ok : Test) (last budget : ℕ) (s : State) (h : Held ok last budget s) where
  -- parents lead back to the first point
  back-way : (n v : ℕ) (ks : List ℕ) → lev s v ≡ n + 1 → Way ok v last ks → Way ok 0 last (back s.parent n v ks)
  unfolding back
  back-way zero v ks e w = subst (λ (k : ℕ). Way ok k last ks) (h.alone v (omega arith)) w
  back-way (suc n) v ks e w =
      let r = h.from v (omega arith) in
      back-way n (get_or s.parent v 0) (v ∷ ks) (omega (arith, r.above)) (r.before, r.passes, w)

  -- what n Lines lead to from a point of a finished layer is reached, and at most n layers deeper
  near : (ks : List ℕ) (u v : ℕ) → Way ok u v ks → v ≤ last → 1 ≤ lev s u → lev s u + length ks ≤ s.finished + 1
      → (1 ≤ lev s v) × (lev s v ≤ lev s u + length ks)
  near [] u v w l a b = let q = ap (lev s) w in (omega arith, omega arith)
  near (k ∷ ks) u v w l a b =
      let f = way_forward ok k v ks w.2 in
      let r = h.shut u k a (omega arith) w.0 (omega arith) w.1 in
      let t = near ks k v w.2 l r.0 (omega (arith, r.1)) in (t.0, omega (arith, r.1, t.1))

  -- no way has fewer Lines than one more than the layers finished
  pub no_shorter : (ks : List ℕ) → Way ok 0 last ks → s.finished + 1 ≤ length ks
  no_shorter ks w =
      split (ltb (length ks) (s.finished + 1))
      (λ a. let b = ltb-true (length ks) (s.finished + 1) a in
      let t = near ks 0 last w (omega arith) (omega (arith, h.first)) (omega (arith, h.first)) in
      split (going s.phase)
      (λ g. absurd (omega (arith, h.on g, t.0)))
      (λ g. split (arrived s.phase)
      (λ r. absurd (omega (arith, h.there r, t.1, h.first)))
      (λ r. absurd (omega (arith, (h.out g r).0, t.0)))))
      (λ a. ltb-false (length ks) (s.finished + 1) a)

  pub found-way : arrived s.phase ≡ true → Way ok 0 last (found last s)
  found-way r = back-way (s.finished + 1) last [] (omega (arith, h.there r)) refl

  pub found_length : length (found last s) ≡ s.finished + 1
  found_length = omega (arith, back_length s.parent (s.finished + 1) last [])

-- ---- the whole answer, of 2 points or more
module _ (ok : Test) (size last budget : ℕ) (some : 1 ≤ last) (room : last < size) (pass : NeighboursPass ok last) where
  -- fewer layers are finished than there are Lines from neighbour to neighbour
  pub finished-below : (searched ok size last budget).finished + 1 ≤ last
  finished-below =
      omega (
        arith,
        steps_length last 0,
        no_shorter ok last budget (searched ok size last budget) (searched-held ok size last budget some room) (steps last 0) (steps-way ok last pass last 0 (omega arith)),
      )

  -- the search stops: it never runs dry
  pub stops : going (searched ok size last budget).phase ≡ false
  stops =
      let s = searched ok size last budget in
      split (going s.phase)
      (λ g. absurd (omega (arith, searched-finished ok size last budget some room g, finished-below)))
      (λ g. g)

  -- it stops short of the end only when the budget is spent, which is then less than all pairs
  pub short : arrived (searched ok size last budget).phase ≡ false → ((searched ok size last budget).tested ≡ budget) × (budget < all_pairs (last + 1))
  short r =
      let t = (searched-held ok size last budget some room).out stops r in (t.1, omega (arith, t.2, tri_pairs (last + 1)))

  -- with a budget of all pairs the end is reached
  pub enough : all_pairs (last + 1) ≤ budget → arrived (searched ok size last budget).phase ≡ true
  enough e =
      split (arrived (searched ok size last budget).phase) (λ r. r) (λ r. absurd (omega (arith, (short r).1)))

  module _ (c : List ℕ) (known : Way ok 0 last c) where
    -- the two forms of the answer
    cases : (P : Best → Type 0)
        → (arrived (searched ok size last budget).phase ≡ true → P record {
          ends = found last (searched ok size last budget);
          tested = (searched ok size last budget).tested;
          bound = length (found last (searched ok size last budget));
        })
        → (arrived (searched ok size last budget).phase ≡ false → P record {
          ends = c;
          tested = (searched ok size last budget).tested;
          bound = (searched ok size last budget).finished + 1;
        })
        → P (fewest ok size last budget c)
    unfolding fewest
    cases P f g = split (arrived (searched ok size last budget).phase) (λ r. rw r (f r)) (λ r. rw r (g r))

    -- the answer is a way
    pub answer-way : Way ok 0 last (fewest ok size last budget c).ends
    answer-way =
        cases (λ (a : Best). Way ok 0 last a.ends)
        (λ r. found-way ok last budget (searched ok size last budget) (searched-held ok size last budget some room) r) (λ r. known)

    -- of at most one Line less than points
    pub answer-most : length (fewest ok size last budget c).ends ≤ last
    answer-most = omega (arith, way-most ok 0 last (fewest ok size last budget c).ends answer-way)

    -- its bound is one more than the layers finished, whether or not the end was reached
    pub answer-bound : (fewest ok size last budget c).bound ≡ (searched ok size last budget).finished + 1
    answer-bound =
        cases (λ (a : Best). a.bound ≡ (searched ok size last budget).finished + 1)
        (λ r. found_length ok last budget (searched ok size last budget) (searched-held ok size last budget some room)) (λ r. refl)

    -- no way has fewer Lines than the bound
    pub bound-below : (ks : List ℕ) → Way ok 0 last ks → (fewest ok size last budget c).bound ≤ length ks
    bound-below ks w =
        rw answer-bound (no_shorter ok last budget (searched ok size last budget) (searched-held ok size last budget some room) ks w)

    -- where the end was reached the count is the bound
    pub reached-bound : arrived (searched ok size last budget).phase ≡ true → length (fewest ok size last budget c).ends ≡ (fewest ok size last budget c).bound
    reached-bound t =
        cases (λ (a : Best). length a.ends ≡ a.bound) (λ r. refl) (λ r. clash (sym r ∙ t))

    -- with a budget of all pairs they are equal
    pub bound-exact : all_pairs (last + 1) ≤ budget → length (fewest ok size last budget c).ends ≡ (fewest ok size last budget c).bound
    bound-exact e = reached-bound (enough e)

    -- the pairs tested are within the budget, and within all pairs
    pub tested_budget : (fewest ok size last budget c).tested ≤ budget
    tested_budget =
        let h = searched-held ok size last budget some room in cases (λ (a : Best). a.tested ≤ budget) (λ r. h.paid) (λ r. h.paid)

    pub tested-all : (fewest ok size last budget c).tested ≤ all_pairs (last + 1)
    tested-all =
        let h = searched-held ok size last budget some room in
        let m : (searched ok size last budget).tested ≤ all_pairs (last + 1) = omega (arith, h.most, tri_pairs (last + 1)) in
        cases (λ (a : Best). a.tested ≤ all_pairs (last + 1)) (λ r. m) (λ r. m)

    -- the true fewest lies between bound and count
    pub between : (m : ℕ) → Fewest ok last m
        → ((fewest ok size last budget c).bound ≤ m) × (m ≤ length (fewest ok size last budget c).ends)
    between m f =
        (omega (arith, f.lines, bound-below f.ends f.way), f.least (fewest ok size last budget c).ends answer-way)

    -- with a budget of all pairs the count is the fewest
    pub exact : all_pairs (last + 1) ≤ budget → Fewest ok last (length (fewest ok size last budget c).ends)
    exact e = record {
      ends = (fewest ok size last budget c).ends;
      way = answer-way;
      lines = refl;
      least = λ ks w. omega (arith, bound-exact e, bound-below ks w);
    }

    -- the pairs tested are those of the search
    pub answer-tested : (fewest ok size last budget c).tested ≡ (searched ok size last budget).tested
    answer-tested = cases (λ (a : Best). a.tested ≡ (searched ok size last budget).tested) (λ r. refl) (λ r. refl)

    -- where count and bound differ the budget was spent
    pub apart_spent : (length (fewest ok size last budget c).ends ≡ (fewest ok size last budget c).bound → ⊥) → (fewest ok size last budget c).tested ≡ budget
    apart_spent n =
        split (arrived (searched ok size last budget).phase) (λ r. absurd (n (reached-bound r))) (λ r. answer-tested ∙ (short r).0)
