-- Where the loop stands that feeds the held points again: what is left to feed, fed from here, gives the whole. Assumes nothing.
use Prim.Native.Nat.{ℕ, suc, ◌+◌, ◌-◌, ◌*◌, ◌≤◌, ◌<◌}
use mathlib.Core.Path.{◌≡◌, refl, sym, ap, ◌∙◌, subst}
use mathlib.Core.List.{List, [], ◌++◌}
use native.Mathlib.Omega.{arith}
use lib.ListN.{length, length-append}
use lib.Seq.{sets, length-sets}
use lib.Ieee.{Float}
use Rattle.std.specs.Prelude.{Option}
use Rattle.geo.specs.declared.types.Point3D.{Point3D}
use Rattle.geo.specs.Lent.{flat, triple, point_at}
use Rattle.geo.proofs.Flat.{sets_flat}
use Rattle.live.specs.declared.live.Live.{Live}
use Rattle.live.specs.Thinner.{Next, slot, push, feed_again, forgotten, retuned}
use Rattle.live.specs.Replay.{ends_in, Pushed, Replays}
use Rattle.live.proofs.Counts.{push-few_slots, anchored-few}
use Rattle.live.proofs.Answers.{push-one-end}

-- what is left of n points `at` from index i on, fed to the state u
unfoldable pub rest : (ℕ → Point3D) → ℕ → ℕ → Live → Next
rest at n i u = feed_again at (n - i) i u

-- k ends are written, and the state is u; `whole` is what all n points come to, and out₀ the output at first
pub record Replaying (at : ℕ → Point3D) (n : ℕ) (whole : Next) (out₀ out : List Float) (u : Live) (k i : ℕ) : Type 0 where
  pub few : u.count ≤ 65
  pub state : (rest at n i u).state ≡ whole.state
  pub total : k + length (rest at n i u).ends ≡ length whole.ends
  pub stored : sets out (3 * k) (flat triple (rest at n i u).ends) ≡ sets out₀ 0 (flat triple whole.ends)
  pub long : length out ≡ length out₀

-- of the points that s holds, the anchor first
pub forgotten-few : (s : Live) (t : Float) → (forgotten s t).count ≤ 65
unfolding forgotten
forgotten-few s t = let a = anchored-few s.count in omega arith

rest_over : (at : ℕ → Point3D) (n i : ℕ) (u : Live) → n ≤ i → ((rest at n i u).state ≡ u) × ((rest at n i u).ends ≡ [])
unfolding rest feed_again
rest_over at n i u h = let z : n - i ≡ 0 = omega arith in rw z (refl, refl)

pub replaying_start : (at : ℕ → Point3D) (n : ℕ) (out : List Float) (u : Live) → u.count ≤ 65 → Replaying at n (feed_again at (n - 1) 1 u) out out u 0 1
unfolding rest
replaying_start at n out u h = record { few = h; state = refl; total = omega arith; stored = refl; long = refl }

module _ (at : ℕ → Point3D) (n : ℕ) (whole : Next) (out₀ out : List Float) (u : Live) (k i : ℕ) (w : Replaying at n whole out₀ out u k i) where
  -- one more point
  module _ (h : i < n) where
    rest-state : (rest at n i u).state ≡ (rest at n (i + 1) (push u (at i)).state).state
    unfolding rest feed_again
    rest-state = let z : n - i ≡ suc (n - (i + 1)) = omega arith in rw z

    rest-ends : (rest at n i u).ends ≡ (push u (at i)).ends ++ (rest at n (i + 1) (push u (at i)).state).ends
    unfolding rest feed_again
    rest-ends = let z : n - i ≡ suc (n - (i + 1)) = omega arith in rw z

    -- the end of the point fed has room behind the others
    pub replaying_room : length whole.ends ≤ 63 → 189 ≤ length out₀ → (u' : Live) (r : Option Point3D) → Pushed u u' (at i) r → 3 * (k + length (ends_in r)) ≤ length out
    replaying_room m g u' r e =
        let a = length-append (push u (at i)).ends (rest at n (i + 1) (push u (at i)).state).ends in
        let b : length (ends_in r) ≡ length (push u (at i)).ends = ap (λ (o : Option Point3D). length (ends_in o)) e.end ∙ ap length (push-one-end u (at i)) in
        omega (arith, ap length rest-ends, w.total, w.long)

    pub replaying_turn : (u' : Live) (r : Option Point3D) (k' : ℕ) (out' : List Float) → Pushed u u' (at i) r → k' ≡ k + length (ends_in r)
        → out' ≡ sets out (3 * k) (flat triple (ends_in r)) → Replaying at n whole out₀ out' u' k' (i + 1)
    replaying_turn u' r k' out' e c o =
        let xs = (push u (at i)).ends in
        let ys = (rest at n (i + 1) (push u (at i)).state).ends in
        let q : u' ≡ (push u (at i)).state = e.state in
        let b : ends_in r ≡ xs = ap ends_in e.end ∙ push-one-end u (at i) in
        let c' : k' ≡ k + length xs = c ∙ ap (λ (l : List Point3D). k + length l) b in
        let o' : out' ≡ sets out (3 * k) (flat triple xs) = o ∙ ap (λ (l : List Point3D). sets out (3 * k) (flat triple l)) b in
        subst (λ (v : Live). Replaying at n whole out₀ out' v k' (i + 1)) (sym q)
        (record {
          few = push-few_slots u (at i) w.few;
          state = sym rest-state ∙ w.state;
          total = omega (arith, length-append xs ys, ap length rest-ends, w.total);
          stored =
              ap (λ (l : List Float). sets l (3 * k') (flat triple ys)) o'
              ∙ ap (λ (m : ℕ). sets (sets out (3 * k) (flat triple xs)) (3 * m) (flat triple ys)) c'
              ∙ sym (sets_flat triple 3 (λ p. refl) xs ys out k)
              ∙ ap (λ (l : List Point3D). sets out (3 * k) (flat triple l)) (sym rest-ends)
              ∙ w.stored;
          long = ap length o' ∙ length-sets out (3 * k) (flat triple xs) ∙ w.long;
        })

  -- no point is left
  pub replaying_done : (s : Live) (t : Float) → whole ≡ retuned s t → n ≤ i → Replays s u t out₀ out k
  unfolding flat
  replaying_done s t e h =
      let over = rest_over at n i u h in
      record {
        state = sym over.0 ∙ w.state ∙ ap (λ r. r.state) e;
        count = let z = ap length over.1 in let y : length whole.ends ≡ length (retuned s t).ends = rw e in omega (arith, w.total);
        stored = ap (λ (l : List Point3D). sets out (3 * k) (flat triple l)) (sym over.1) ∙ w.stored ∙ ap (λ (r : Next). sets out₀ 0 (flat triple r.ends)) e;
      }

-- all that s holds, fed again to u
pub replay_whole : (s : Live) (t : Float) (u : Live) → u ≡ forgotten s t → feed_again (point_at s.points) (s.count - 1) 1 u ≡ retuned s t
unfolding retuned slot
replay_whole s t u e = ap (feed_again (point_at s.points) (s.count - 1) 1) e
