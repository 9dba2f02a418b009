-- The way is written from its end to its start. Assumes nothing.
use Prim.Native.Nat.{ℕ, zero, suc, ◌+◌, ◌-◌, ◌*◌, ◌≤◌, ◌<◌}
use mathlib.Core.Path.{◌≡◌, refl, sym, ap, ◌∙◌}
use mathlib.Core.List.{List, [], ◌∷◌}
use native.Mathlib.Omega.{arith}
use lib.ListN.{length, get_or, set}
use lib.Seq.{sets, set_comm, length-sets}
use lib.Ieee.{Float}
use Rattle.geo.specs.Lent.{flat}
use Rattle.geo.proofs.Stores.{sets_append}
use Rattle.ways.specs.Layers.{back}
use Rattle.fewest.specs.Straights.{numbers_at}

-- a store before a run of stores may come after it, and so may a run
set_sets : (vs l : List Float) (i k : ℕ) (a : Float) → k < i → set (sets l i vs) k a ≡ sets (set l k a) i vs
set_sets [] l i k a h = refl
set_sets (v ∷ vs) l i k a h =
    set_sets vs (set l i v) (suc i) k a (omega arith) ∙ ap (λ (r : List Float). sets r (suc i) vs) (set_comm l i k v a (omega arith))

sets_sets : (ws vs l : List Float) (i k : ℕ) → k + length ws ≤ i → sets (sets l i vs) k ws ≡ sets (sets l k ws) i vs
sets_sets [] vs l i k h = refl
sets_sets (w ∷ ws) vs l i k h =
    ap (λ (r : List Float). sets r (suc k) ws) (set_sets vs l i k w (omega arith)) ∙ sets_sets ws vs (set l k w) i (suc k) (omega arith)

-- the ends from the k-th on stand in `out`; those before it lead to v, and all give the whole way
pub record Traced (s : List Float) (parent : List ℕ) (start : List Float) (whole : List ℕ) (out : List Float) (k v : ℕ) : Type 0 where
  pub ends : List ℕ
  pub written : out ≡ sets start (3 * k) (flat (numbers_at s) ends)
  pub rest : back parent k v ends ≡ whole
  pub long : length out ≡ length start

module _ (s : List Float) (parent : List ℕ) (start : List Float) where
  pub trace_start : (n last : ℕ) → Traced s parent start (back parent n last []) start n last
  unfolding flat
  trace_start n last = record { ends = []; written = refl; rest = refl; long = refl }

  module _ (whole : List ℕ) (out out' : List Float) where
    pub trace_next : (k v : ℕ) → Traced s parent start whole out k v → 0 < k → out' ≡ sets out (3 * (k - 1)) (numbers_at s v)
        → Traced s parent start whole out' (k - 1) (get_or parent v 0)
    unfolding back flat
    trace_next zero v t h e = absurd (omega arith)
    trace_next (suc k) v t h e =
        let z : suc k - 1 ≡ k = omega arith in
        let n : 3 * k + 3 ≡ 3 * suc k = omega arith in
        rw z record {
          ends = v ∷ t.ends;
          written = rw z at (e) ∙ ap (λ (l : List Float). sets l (3 * k) (numbers_at s v)) t.written
              ∙ sets_sets (numbers_at s v) (flat (numbers_at s) t.ends) start (3 * suc k) (3 * k) (omega arith)
              ∙ sym (sets_append (numbers_at s v) (flat (numbers_at s) t.ends) start (3 * k) ∙ rw n);
          rest = t.rest;
          long = ap length e ∙ length-sets out (3 * (suc k - 1)) (numbers_at s v) ∙ t.long;
        }

  pub trace_done : (whole : List ℕ) (out : List Float) (k v : ℕ) → Traced s parent start whole out k v → k ≤ 0 → out ≡ sets start 0 (flat (numbers_at s) whole)
  unfolding back
  trace_done whole out zero v t h = t.written ∙ ap (λ (l : List ℕ). sets start 0 (flat (numbers_at s) l)) t.rest
  trace_done whole out (suc k) v t h = absurd (omega arith)
