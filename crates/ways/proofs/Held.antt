-- What holds of the search at each step. Assumes nothing.
use Prim.Native.Nat.{ℕ, ◌+◌, ◌-◌, ◌≤◌, ◌<◌}
use mathlib.Core.Path.{◌≡◌, sym, ap, ◌∙◌}
use mathlib.Core.Bool.{true, false}
use native.Mathlib.Omega.{arith}
use borrow.Author.Tests.{eqb-true, eqb-false}
use lib.ListN.{length, get_or, set, length-set}
use lib.Seq.{get_or-set_same, get_or-set_other}
use lib.Dec.{eqb}
use Rattle.floats.proofs.Order.{clash}
use Rattle.ways.specs.declared.phase.Phase.{Phase}
use Rattle.ways.specs.declared.phase.Phase.TheVariants.{Going, Arrived, Spent}
use Rattle.ways.specs.Way.{Test}
use Rattle.ways.specs.Layers.{State, going, arrived, spent, missed, reached}
use Rattle.ways.proofs.Steps.{lev, split}
use Rattle.ways.proofs.Pairs.{tri, weigh, weigh_same, pending, pending_unreached, pending_deeper}

-- the point i was reached by a Line that passes, from an earlier point of the layer before
pub record From (ok : Test) (s : State) (i : ℕ) : Type 0 where
  pub before : get_or s.parent i 0 < i
  pub above : lev s (get_or s.parent i 0) + 1 ≡ lev s i
  pub passes : ok (get_or s.parent i 0) i ≡ true

-- at every step
pub record Held (ok : Test) (last budget : ℕ) (s : State) : Type 0 where
  pub levels : last < length s.level
  pub parents : last < length s.parent
  pub within : (i : ℕ) → get_or s.parent i 0 ≤ last
  pub first : lev s 0 ≡ 1
  pub alone : (i : ℕ) → lev s i ≡ 1 → i ≡ 0
  pub top : (i : ℕ) → lev s i ≤ s.finished + 2
  pub from : (i : ℕ) → 2 ≤ lev s i → From ok s i
  pub shut : (i j : ℕ) → 1 ≤ lev s i → lev s i ≤ s.finished → i < j → j ≤ last → ok i j ≡ true → (1 ≤ lev s j) × (lev s j ≤ lev s i + 1)
  pub paid : s.tested ≤ budget
  pub most : s.tested ≤ tri (last + 1)
  pub on : going s.phase ≡ true → lev s last ≡ 0
  pub there : arrived s.phase ≡ true → lev s last ≡ s.finished + 2
  pub out : going s.phase ≡ false → arrived s.phase ≡ false → (lev s last ≡ 0) × (s.tested ≡ budget) × (budget < tri (last + 1))

-- the pairs still to come, where of the layer after the finished ones the points before u are taken
abbrev pub ahead : ℕ → State → ℕ → ℕ
ahead last s u = weigh (λ i. pending s.finished u (lev s i) i) (last + 1) 0

-- of the points before u in the layer after the finished ones, all that they lead to is reached
abbrev pub Done : Test → ℕ → State → ℕ → Type 0
Done ok last s u = (i j : ℕ) → lev s i ≡ s.finished + 1 → i < u → i < j → j ≤ last → ok i j ≡ true → 1 ≤ lev s j

-- while it goes on, between two points
pub record Outer (ok : Test) (last : ℕ) (s : State) (u : ℕ) : Type 0 where
  pub done : Done ok last s u
  pub cost : s.tested + ahead last s u ≤ tri (last + 1)

-- while it goes on, at the pair of u and v
pub record Inner (ok : Test) (last : ℕ) (s : State) (u v : ℕ) : Type 0 where
  pub now : lev s u ≡ s.finished + 1
  pub done : Done ok last s u
  pub half : (j : ℕ) → u < j → j < v → ok u j ≡ true → 1 ≤ lev s j
  pub cost : s.tested + (last + 1 - v) + ahead last s (u + 1) ≤ tri (last + 1)

pub never_both : {X : Type 0} (p : Phase) → going p ≡ true → arrived p ≡ true → X
never_both Going a b = clash b
never_both Arrived a b = clash a
never_both Spent a b = clash a

-- ---- a point is reached
module _ (last u v : ℕ) (s : State) (levels : last < length s.level) (inside : v ≤ last) (new : lev s v ≡ 0) where
  -- every point that was reached keeps its layer
  at_new : lev (reached last u v s) v ≡ s.finished + 2
  at_new = get_or-set_same s.level v (s.finished + 2) 0 (omega arith)

  at_other : (i : ℕ) → (i ≡ v → ⊥) → lev (reached last u v s) i ≡ lev s i
  at_other i d = get_or-set_other s.level v i (s.finished + 2) 0 d

  kept : (i : ℕ) → 1 ≤ lev s i → lev (reached last u v s) i ≡ lev s i
  kept i h = at_other i (λ z. let e = ap (lev s) z in omega arith)

  -- by whether the point is the new one
  fate : {X : Type 0} (i : ℕ) → (i ≡ v → lev (reached last u v s) i ≡ s.finished + 2 → X)
      → ((i ≡ v → ⊥) → lev (reached last u v s) i ≡ lev s i → X) → X
  fate i f g =
      split (eqb i v) (λ e. let z = eqb-true i v e in f z (ap (lev (reached last u v s)) z ∙ at_new)) (λ e. let d = eqb-false i v e in g d (at_other i d))

  same_ahead : (w : ℕ) → ahead last (reached last u v s) w ≡ ahead last s w
  same_ahead w =
      weigh_same
      (λ i. pending s.finished w (lev (reached last u v s) i) i)
      (λ i. pending s.finished w (lev s i) i) (last + 1) 0 (last + 1) (omega arith)
      (λ j k l. fate j
      (λ z e. let q : lev s j ≡ 0 = ap (lev s) z ∙ new in
      rw (e, q) (pending_deeper s.finished w (s.finished + 2) j (omega arith) ∙ sym (pending_unreached s.finished w j)))
      (λ d e. rw e))

  module _ (ok : Test) (budget : ℕ) (forward : u < v) (pass : ok u v ≡ true) (h : Held ok last budget s) (o : Inner ok last s u v)
      (g : going s.phase ≡ true) (left : s.tested ≡ budget → ⊥) where
    reached-from : (i : ℕ) → 2 ≤ lev (reached last u v s) i → From ok (reached last u v s) i
    reached-from i l =
        fate i
        (λ z e.
        let p : get_or (set s.parent v u) i 0 ≡ u = ap (λ (k : ℕ). get_or (set s.parent v u) k 0) z ∙ get_or-set_same s.parent v u 0 (omega (arith, h.parents)) in
        let w : lev (reached last u v s) u ≡ s.finished + 1 = kept u (omega (arith, o.now)) ∙ o.now in
        record { before = rw p (omega arith); above = rw (p, w, e) (omega arith); passes = rw (p, z) pass })
        (λ d e.
        let r = h.from i (omega arith) in
        let p : get_or (set s.parent v u) i 0 ≡ get_or s.parent i 0 = get_or-set_other s.parent v i u 0 d in
        let b = r.above in
        let w : lev (reached last u v s) (get_or s.parent i 0) ≡ lev s (get_or s.parent i 0) = kept (get_or s.parent i 0) (omega arith) in
        record { before = rw p r.before; above = rw (p, w, e) b; passes = rw p r.passes })

    pub reached-held : Held ok last budget (reached last u v s)
    reached-held = record {
      levels = rw length-set levels;
      parents = rw length-set h.parents;
      within = λ i. split (eqb i v)
          (λ e. let z = eqb-true i v e in
          let p : get_or (set s.parent v u) i 0 ≡ u = ap (λ (k : ℕ). get_or (set s.parent v u) k 0) z ∙ get_or-set_same s.parent v u 0 (omega (arith, h.parents)) in
          rw p (omega arith))
          (λ e. rw (get_or-set_other s.parent v i u 0 (eqb-false i v e)) (h.within i));
      first = kept 0 (omega (arith, h.first)) ∙ h.first;
      alone = λ i e. fate i (λ z q. absurd (omega arith)) (λ d q. h.alone i (sym q ∙ e));
      top = λ i. fate i (λ z q. omega arith) (λ d q. omega (arith, h.top i));
      from = reached-from;
      shut = λ i j a b c d e. fate i (λ z q. absurd (omega arith))
          (λ z q. let r = h.shut i j (omega arith) (omega arith) c d e in let w = kept j r.0 in (omega (arith, r.0), omega (arith, r.1)));
      paid = omega (arith, h.paid);
      most = omega (arith, o.cost);
      on = split (eqb v last) (λ e. rw e (λ t. clash t)) (λ e. rw e (λ t. at_other last (λ z. eqb-false v last e (sym z)) ∙ h.on g));
      there = split (eqb v last) (λ e. rw e (λ t. ap (lev (reached last u v s)) (sym (eqb-true v last e)) ∙ at_new)) (λ e. rw e (λ t. clash t));
      out = split (eqb v last) (λ e. rw e (λ t q. clash (sym q))) (λ e. rw e (λ t q. clash (sym t)));
    }

    pub reached_inner : Inner ok last (reached last u v s) u (v + 1)
    reached_inner = record {
      now = kept u (omega (arith, o.now)) ∙ o.now;
      done = λ i j a b c d e. fate i (λ z q. absurd (omega arith))
          (λ z q. let r = o.done i j (omega arith) b c d e in let w = kept j r in omega arith);
      half = λ j a b e. fate j (λ z q. omega arith) (λ z q. let r = o.half j a (omega arith) e in omega arith);
      cost = rw (same_ahead (u + 1)) (omega (arith, o.cost));
    }

-- ---- the other outcomes of a pair
module _ (ok : Test) (last budget u v : ℕ) (s : State) (inside : v ≤ last) (h : Held ok last budget s) (o : Inner ok last s u v) (g : going s.phase ≡ true) where
  pub passed_inner : 1 ≤ lev s v → Inner ok last s u (v + 1)
  passed_inner r = record {
    now = o.now;
    done = o.done;
    half = λ j a b e. split (eqb j v) (λ z. let q = ap (lev s) (eqb-true j v z) in omega arith) (λ z. let d = eqb-false j v z in o.half j a (omega arith) e);
    cost = omega (arith, o.cost);
  }

  pub missed-held : (s.tested ≡ budget → ⊥) → Held ok last budget (missed s)
  missed-held left = record {
    levels = h.levels;
    parents = h.parents;
    within = h.within;
    first = h.first;
    alone = h.alone;
    top = h.top;
    from = λ i l. let r = h.from i l in record { before = r.before; above = r.above; passes = r.passes };
    shut = h.shut;
    paid = omega (arith, h.paid);
    most = omega (arith, o.cost);
    on = λ t. h.on g;
    there = λ t. clash t;
    out = λ t q. clash (sym t);
  }

  pub missed_inner : ok u v ≡ false → Inner ok last (missed s) u (v + 1)
  missed_inner m = record {
    now = o.now;
    done = o.done;
    half = λ j a b e. split (eqb j v) (λ z. clash (sym m ∙ ap (ok u) (sym (eqb-true j v z)) ∙ e)) (λ z. let d = eqb-false j v z in o.half j a (omega arith) e);
    cost = omega (arith, o.cost);
  }

  pub spent-held : s.tested ≡ budget → Held ok last budget (spent s)
  spent-held b = record {
    levels = h.levels;
    parents = h.parents;
    within = h.within;
    first = h.first;
    alone = h.alone;
    top = h.top;
    from = λ i l. let r = h.from i l in record { before = r.before; above = r.above; passes = r.passes };
    shut = h.shut;
    paid = h.paid;
    most = h.most;
    on = λ t. clash t;
    there = λ t. clash t;
    out = λ t q. (h.on g, b, omega (arith, o.cost));
  }
