-- The laws of thinning, each stated alone; over any measure and any points, for a limit that is not below zero, as the square of a tolerance is not. The last
-- two are of commands. Assumes nothing.
use Prim.Native.Nat.{ℕ, zero, suc, ◌-◌, ◌≤◌, ◌<◌}
use mathlib.Core.Path.{◌≡◌, refl, sym, ap, ◌∙◌, subst}
use mathlib.Core.Logic.{⊎_elim}
use mathlib.Core.Bool.{true, false, ◌||◌}
use mathlib.Core.List.{List, [], ◌∷◌, ◌++◌}
use native.Mathlib.Omega.{arith}
use lib.ListN.{length, get_or}
use lib.Ieee.{Float}
use Rattle.floats.specs.Ops.{◌≺◌, +0}
use Rattle.floats.proofs.Order.{either, clash}
use Rattle.geo.specs.declared.types.Command.{Command}
use Rattle.farthest.specs.Measure.{Measure}
use Rattle.farthest.specs.Farthest.{farthest_in}
use Rattle.farthest.specs.Ends.{is_move, to_command, command_sq}
use Rattle.simplify.specs.Thin.{cut_at, kept_in, thinned, thinned_points, thin_list}
use Rattle.simplify.specs.Data.{among, kept_commands}
use Rattle.simplify.specs.Words.{Ascending, Near, Neighbours}
use Rattle.simplify.proofs.Kept.{cut-first, cut_inside, no_cut, kept-cut, kept_yes, kept_no, thinned-ascending}
use Rattle.simplify.proofs.Flags.{select_has, among-cut}
use Rattle.simplify.proofs.Near.{kept_near}
use Rattle.simplify.proofs.Again.{list_again}
use Rattle.simplify.proofs.Accepted.{ascending_length}

-- a Move counts as on the chord
on_chord : (a b c : Command) → is_move c ≡ true → command_sq a b c ≡ +0
unfolding command_sq to_command
on_chord a b c h = rw h

module _ {P : Type 0} (m : Measure P) (limit : Float) (pos : (limit ≺ +0) ≡ false) (at : ℕ → P) where
  -- What is kept strictly between lo and hi is what the rule says, with no bound on the cuts: nothing, or the cut and what is kept on either side of it.
  pub kept_by_the_rule : (lo hi : ℕ) → kept_in m limit at lo hi ≡ cut_at (kept_in m limit at) limit lo hi (farthest_in m at lo hi)
  kept_by_the_rule lo hi = kept-cut m limit pos at lo hi

  -- A range is cut strictly inside.
  pub cut-within : (lo hi : ℕ) → (limit ≺ (farthest_in m at lo hi).square) ≡ true → (lo < (farthest_in m at lo hi).index) × ((farthest_in m at lo hi).index < hi)
  cut-within lo hi h = cut_inside m limit pos at lo hi h

  -- A range's first farthest point is kept exactly where its squared distance is above the limit.
  pub farthest_kept : (lo hi : ℕ) → among (farthest_in m at lo hi).index (kept_in m limit at lo hi) ≡ (limit ≺ (farthest_in m at lo hi).square)
  farthest_kept lo hi =
      let w = farthest_in m at lo hi in
      ⊎_elim
      (λ h. ap (among w.index) (kept_yes m limit pos at lo hi w refl h) ∙ among-cut w.index (kept_in m limit at lo w.index) (kept_in m limit at w.index hi) ∙ sym h)
      (λ h. ap (among w.index) (kept_no m limit pos at lo hi w refl h) ∙ (unfold among in sym h)) (either (limit ≺ w.square))

  -- Both ends of a list are kept, and between them what the rule keeps.
  pub ends-kept : (n : ℕ) → 2 ≤ n → thinned m limit at n ≡ 0 ∷ (kept_in m limit at 0 (n - 1) ++ (n - 1) ∷ [])
  unfolding thinned
  ends-kept zero h = absurd (omega arith)
  ends-kept (suc zero) h = absurd (omega arith)
  ends-kept (suc (suc n)) h = let z : suc (suc n) - 1 ≡ suc n = omega arith in rw z

  -- The kept indices ascend, so that the thinned list is a part of the list in its order.
  pub kept_in_order : (n : ℕ) → Ascending 0 n (thinned m limit at n)
  kept_in_order n = thinned-ascending m limit pos at n

  -- At most all n points are kept.
  pub kept_at_most : (n : ℕ) → length (thinned m limit at n) ≤ n
  kept_at_most n = let r = ascending_length 0 n (thinned m limit at n) (kept_in_order n) (omega arith) in omega arith

  -- No point that is left out lies farther from the chord of its kept neighbours than the limit.
  pub left_out_near : (n : ℕ) → Neighbours (Near m limit at) 0 (kept_in m limit at 0 (n - 1)) (n - 1)
  left_out_near n = kept_near m limit pos at (n - 1 - 0) 0 (n - 1) (omega arith)

-- Thinning a thinned list at the same limit changes nothing.
pub thinned-twice : {P : Type 0} (m : Measure P) (limit : Float) → (limit ≺ +0) ≡ false → (d : P) (ps : List P)
    → thin_list m limit d (thin_list m limit d ps) ≡ thin_list m limit d ps
thinned-twice m limit pos d ps = list_again m limit pos d ps

-- A list of fewer than three points is left as it is.
pub few-kept : {P : Type 0} (m : Measure P) (limit : Float) → (limit ≺ +0) ≡ false → (d : P) (ps : List P) → length ps < 3 → thin_list m limit d ps ≡ ps
unfolding thinned_points thinned
few-kept m limit pos d [] h = refl
few-kept m limit pos d (p ∷ []) h = refl
few-kept {P} m limit pos d (p ∷ q ∷ []) h =
    let at : ℕ → P = λ i. get_or (p ∷ q ∷ []) i d in
    rw (kept_no m limit pos at 0 1 (farthest_in m at 0 1) refl (no_cut m limit pos at 0 1 (omega arith)))
few-kept m limit pos d (p ∷ q ∷ r ∷ ps) h = absurd (omega arith)

-- ---- commands
-- Every Move is kept.
pub move-kept : (limit : Float) (at : ℕ → Command) (n i : ℕ) → i < n → is_move (at i) ≡ true → among i (kept_commands limit at n) ≡ true
unfolding kept_commands
move-kept limit at n i h t = select_has (λ j. is_move (at j) || among j (thinned command_sq limit at n)) n 0 i (omega arith) (omega arith) (rw t)

-- No range is cut at a Move.
pub no_cut_at_move : (limit : Float) → (limit ≺ +0) ≡ false → (at : ℕ → Command) (lo hi : ℕ) → (limit ≺ (farthest_in command_sq at lo hi).square) ≡ true
    → is_move (at (farthest_in command_sq at lo hi).index) ≡ false
no_cut_at_move limit pos at lo hi h =
    let w = farthest_in command_sq at lo hi in
    let e = (cut-first command_sq limit pos at lo hi h).value in
    ⊎_elim (λ t. clash (sym pos ∙ subst (λ (x : Float). (limit ≺ x) ≡ true) (e ∙ on_chord (at lo) (at hi) (at w.index) t) h)) (λ t. t) (either (is_move (at w.index)))
