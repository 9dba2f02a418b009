-- What holds at each step holds to the end: over the pairs of a point, the points of a layer, and the layers. Assumes nothing.
use Prim.Native.Nat.{ℕ, zero, suc, ◌+◌, ◌-◌, ◌≤◌, ◌<◌}
use mathlib.Core.Path.{◌≡◌, refl, sym, ap, ◌∙◌, subst}
use mathlib.Core.Bool.{true}
use native.Mathlib.Omega.{arith}
use borrow.Author.Tests.{eqb-true, eqb-false, leb-true, leb-false}
use lib.ListN.{get_or, replicate, length-set, length-replicate}
use lib.Seq.{get_or-set_same, get_or-set_other}
use lib.Dec.{eqb, leb}
use Rattle.floats.proofs.Order.{clash}
use Rattle.ways.specs.Way.{Test}
use Rattle.ways.specs.Layers.{State, going, start, try_pair, in_order, try_point, closed, try_layer, searched}
use Rattle.ways.proofs.Steps.{lev, split, in_order_lem, pair_cases, layer_stopped, closed_on, closed_off}
use Rattle.ways.proofs.Pairs.{weigh_same, weigh_take, weigh_most, pending, pending_now, taken_now, pending_next, pending_finished}
use Rattle.ways.proofs.Held.{Held, Outer, Inner, never_both, reached-held, reached_inner, passed_inner, missed-held, missed_inner, spent-held}

module _ (ok : Test) (last budget : ℕ) where
  -- at a pair of u
  abbrev AtPair : ℕ → ℕ → State → Type 0
  AtPair u v s = Held ok last budget s × (going s.phase ≡ true → Inner ok last s u v)

  -- at a point
  abbrev AtPoint : ℕ → State → Type 0
  AtPoint u s = Held ok last budget s × (going s.phase ≡ true → Outer ok last s u)

  -- at a layer
  abbrev AtLayer : ℕ → State → Type 0
  AtLayer i s = AtPoint 0 s × (going s.phase ≡ true → s.finished ≡ i)

  pair_keeps : (u v : ℕ) (s : State) → u < v → v ≤ last → AtPair u v s → AtPair u (v + 1) (try_pair ok last budget u v s)
  pair_keeps u v s a b p =
      let h = p.0 in
      pair_cases ok last budget u v s (AtPair u (v + 1))
      (λ g. (h, λ t. clash (sym g ∙ t)))
      (λ g r. (h, λ t. passed_inner ok last budget u v s b h (p.1 g) g r))
      (λ g z e. (spent-held ok last budget u v s b h (p.1 g) g e, λ t. clash t))
      (λ g z d m. (missed-held ok last budget u v s b h (p.1 g) g d, λ t. missed_inner ok last budget u v s b h (p.1 g) g m))
      (λ g z d m. (
        reached-held last u v s h.levels b z ok budget a m h (p.1 g) g d,
        λ t. reached_inner last u v s h.levels b z ok budget a m h (p.1 g) g d,
      ))

  pairs_keep : (u : ℕ) (s : State) → u ≤ last → AtPair u (u + 1) s → AtPair u (last + 1) (in_order (try_pair ok last budget u) (last - u) (u + 1) s)
  pairs_keep u s a p =
      in_order_lem (AtPair u) (try_pair ok last budget u) (last - u) (u + 1) (last + 1) s (omega arith) (λ v t b e q. pair_keeps u v t (omega arith) (omega arith) q) p

  -- a point of the layer is taken
  enter : (u : ℕ) (s : State) → u ≤ last → lev s u ≡ s.finished + 1 → Outer ok last s u → Inner ok last s u (u + 1)
  enter u s a e o = record {
    now = e;
    done = o.done;
    half = λ j b c t. absurd (omega arith);
    cost =
        let w = weigh_take (λ i. pending s.finished u (lev s i) i) (λ i. pending s.finished (u + 1) (lev s i) i) (last + 1) 0 (last + 1) u
        (omega arith) (omega arith) (omega arith) (rw e (pending_now s.finished u u (omega arith))) (rw e (taken_now s.finished (u + 1) u (omega arith)))
        (λ j b d. pending_next s.finished u (lev s j) j (λ z q. d z)) in
        omega (arith, o.cost);
  }

  leave : (u : ℕ) (s : State) → Inner ok last s u (last + 1) → Outer ok last s (u + 1)
  leave u s o = record {
    done = λ i j e a b c t. split (eqb i u)
        (λ z. let q = eqb-true i u z in o.half j (omega arith) (omega arith) (subst (λ (k : ℕ). ok k j ≡ true) q t))
        (λ z. let d = eqb-false i u z in o.done i j e (omega arith) b c t);
    cost = omega (arith, o.cost);
  }

  -- a point of another layer is passed over
  pass : (u : ℕ) (s : State) → (lev s u ≡ s.finished + 1 → ⊥) → Outer ok last s u → Outer ok last s (u + 1)
  pass u s d o = record {
    done = λ i j e a b c t. split (eqb i u)
        (λ z. absurd (d (ap (lev s) (sym (eqb-true i u z)) ∙ e)))
        (λ z. let q = eqb-false i u z in o.done i j e (omega arith) b c t);
    cost =
        let w = weigh_same (λ i. pending s.finished u (lev s i) i) (λ i. pending s.finished (u + 1) (lev s i) i) (last + 1) 0 (last + 1)
        (omega arith) (λ j a b. pending_next s.finished u (lev s j) j (λ z q. d (ap (lev s) (sym z) ∙ q))) in
        omega (arith, o.cost);
  }

  point_keeps : (u : ℕ) (s : State) → u ≤ last → AtPoint u s → AtPoint (u + 1) (try_point ok last budget u s)
  unfolding try_point
  point_keeps u s a p =
      split (eqb (lev s u) (s.finished + 1))
      (λ e. rw e
      (let r = pairs_keep u s a (p.0, λ g. enter u s a (eqb-true (lev s u) (s.finished + 1) e) (p.1 g)) in
      (r.0, λ g. leave u (in_order (try_pair ok last budget u) (last - u) (u + 1) s) (r.1 g))))
      (λ e. rw e (p.0, λ g. pass u s (eqb-false (lev s u) (s.finished + 1) e) (p.1 g)))

  points_keep : (s : State) → AtPoint 0 s → AtPoint (last + 1) (in_order (try_point ok last budget) (last + 1) 0 s)
  points_keep s p =
      in_order_lem AtPoint (try_point ok last budget) (last + 1) 0 (last + 1) s (omega arith) (λ u t a b q. point_keeps u t (omega arith) q) p

  -- a layer is finished
  closed_keeps : (s : State) → AtPoint (last + 1) s → AtPoint 0 (closed s)
  closed_keeps s p =
      split (going s.phase)
      (λ g. rw g (let h = p.0 in let o = p.1 g in (
        record {
          levels = h.levels;
          parents = h.parents;
          within = h.within;
          first = h.first;
          alone = h.alone;
          top = λ i. omega (arith, h.top i);
          from = λ i l. let r = h.from i l in record { before = r.before; above = r.above; passes = r.passes };
          shut = λ i j a b c d e. split (leb (lev s i) s.finished)
              (λ z. h.shut i j a (leb-true (lev s i) s.finished z) c d e)
              (λ z. let y = leb-false (lev s i) s.finished z in
              let x = o.done i j (omega arith) (omega arith) c d e in (x, omega (arith, h.top j)));
          paid = h.paid;
          most = h.most;
          on = h.on;
          there = λ t. never_both s.phase g t;
          out = λ t q. clash (sym t ∙ g);
        },
        λ t. record {
          done = λ i j e a b c q. absurd (omega arith);
          cost =
              let w = weigh_same (λ i. pending s.finished (last + 1) (lev s i) i) (λ i. pending (s.finished + 1) 0 (lev s i) i) (last + 1) 0 (last + 1)
              (omega arith) (λ j a b. pending_finished s.finished (last + 1) (lev s j) j b) in
              omega (arith, o.cost);
        },
      )))
      (λ g. rw g (p.0, λ t. clash (sym g ∙ t)))

  -- no step within a layer finishes one
  pair-finished : (u v : ℕ) (s : State) → (try_pair ok last budget u v s).finished ≡ s.finished
  pair-finished u v s =
      pair_cases ok last budget u v s (λ (t : State). t.finished ≡ s.finished) (λ g. refl) (λ g a. refl) (λ g a b. refl) (λ g a b c. refl) (λ g a b c. refl)

  point-finished : (u : ℕ) (s : State) → u ≤ last → (try_point ok last budget u s).finished ≡ s.finished
  unfolding try_point
  point-finished u s a =
      split (eqb (lev s u) (s.finished + 1))
      (λ e. rw e
      (in_order_lem (λ (v : ℕ) (t : State). t.finished ≡ s.finished) (try_pair ok last budget u) (last - u) (u + 1) (last + 1) s (omega arith)
      (λ v t b c q. pair-finished u v t ∙ q) refl))
      (λ e. rw e)

  points-finished : (s : State) → (in_order (try_point ok last budget) (last + 1) 0 s).finished ≡ s.finished
  points-finished s =
      in_order_lem (λ (u : ℕ) (t : State). t.finished ≡ s.finished) (try_point ok last budget) (last + 1) 0 (last + 1) s (omega arith)
      (λ u t a b q. point-finished u t (omega arith) ∙ q) refl

  layer_keeps : (i : ℕ) (s : State) → AtLayer i s → AtLayer (i + 1) (try_layer ok last budget s)
  unfolding try_layer
  layer_keeps i s p =
      let t = in_order (try_point ok last budget) (last + 1) 0 s in (
        closed_keeps t (points_keep s p.0),
        λ g. split (going s.phase)
            (λ a. split (going t.phase)
            (λ b. ap (λ (x : State). x.finished) (closed_on t b) ∙ ap (λ (k : ℕ). k + 1) (points-finished s ∙ p.1 a))
            (λ b. clash (sym b ∙ sym (ap (λ (x : State). going x.phase) (closed_off t b)) ∙ g)))
            (λ a. clash (sym a ∙ sym (ap (λ (x : State). going x.phase) (layer_stopped ok last budget s a)) ∙ g)),
      )

-- ---- before the first pair
zeros : (n i : ℕ) → ◌≡◌ {A = ℕ} (get_or (replicate n 0) i 0) 0
zeros zero zero = refl
zeros zero (suc i) = refl
zeros (suc n) zero = refl
zeros (suc n) (suc i) = zeros n i

module _ (ok : Test) (size last budget : ℕ) (some : 1 ≤ last) (room : last < size) where
  start_first : lev (start size) 0 ≡ 1
  start_first = get_or-set_same (replicate size 0) 0 1 0 (simp length-replicate (omega arith))

  start_other : (i : ℕ) → (i ≡ 0 → ⊥) → lev (start size) i ≡ 0
  start_other i d = get_or-set_other (replicate size 0) 0 i 1 0 d ∙ zeros size i

  start_top : (i : ℕ) → lev (start size) i ≤ 1
  start_top i = split (eqb i 0) (λ z. let q = ap (lev (start size)) (eqb-true i 0 z) in omega (arith, start_first)) (λ z. omega (arith, start_other i (eqb-false i 0 z)))

  start_keeps : AtPoint ok last budget 0 (start size)
  start_keeps = (
    record {
      levels = simp (length-set, length-replicate) room;
      parents = simp length-replicate room;
      within = λ i. rw (zeros size i) (omega arith);
      first = start_first;
      alone = λ i e. split (eqb i 0) (λ z. eqb-true i 0 z) (λ z. absurd (omega (arith, e, start_other i (eqb-false i 0 z))));
      top = λ i. omega (arith, start_top i);
      from = λ i l. absurd (omega (arith, start_top i));
      shut = λ i j a b c d e. absurd (omega arith);
      paid = omega arith;
      most = omega arith;
      on = λ t. start_other last (omega arith);
      there = λ t. clash t;
      out = λ t q. clash (sym t);
    },
    λ t. record {
      done = λ i j e a b c q. absurd (omega arith);
      cost = omega (arith, weigh_most (λ i. pending 0 0 (lev (start size) i) i) (last + 1) 0);
    },
  )

  -- the search as it stopped; if it went on, it would have finished all its layers
  searched_keeps : AtLayer ok last budget last (searched ok size last budget)
  unfolding searched
  searched_keeps =
      in_order_lem (AtLayer ok last budget) (λ i. try_layer ok last budget) last 0 last (start size) (omega arith) (λ i t a b q. layer_keeps ok last budget i t q)
      (start_keeps, λ g. refl)

  pub searched-held : Held ok last budget (searched ok size last budget)
  searched-held = searched_keeps.0.0

  pub searched-finished : going (searched ok size last budget).phase ≡ true → (searched ok size last budget).finished ≡ last
  searched-finished = searched_keeps.1
