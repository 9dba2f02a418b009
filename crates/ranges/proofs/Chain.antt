-- A chain thinned into a buffer: how many points are kept, that they stand at its front, and what its fit leaves. Assumes nothing.
use Prim.Native.Nat.{ℕ, ◌-◌, ◌*◌, ◌/◌, ◌≤◌, ◌<◌}
use mathlib.Core.Path.{◌≡◌, refl, ap, ◌∙◌, subst}
use mathlib.Core.List.{List, [], ◌∷◌}
use native.Mathlib.Omega.{arith}
use lib.ListN.{length, take, drop, length-append, length-map}
use lib.Seq.{length-sets}
use lib.Ieee.{Float}
use Rattle.floats.specs.Ops.{◌⊗◌}
use Rattle.floats.proofs.Unsigned.{square_not_negative}
use Rattle.geo.specs.Lent.{point_at, triple, flat}
use Rattle.geo.proofs.Stores.{sets_front, take_front}
use Rattle.geo.proofs.Flat.{flat_length}
use Rattle.simplify.specs.Thin.{kept_in, thinned, thinned_points}
use Rattle.simplify.specs.Flags.{Copied}
use Rattle.simplify.proofs.Thinning.{ends-kept, kept_at_most}
use Rattle.pieces.specs.declared.pieces.Rule.{Rule}
use Rattle.pieces.specs.Pieces.{distance, pieces_by}
use Rattle.pieces.specs.Commands.{fit_in, kept_of, chain_fit}
use Rattle.pieces.specs.Written.{FitPlaced, commands_of, noted_in, chain_noted, NotedPlaced}
use Rattle.pieces.proofs.Fitted.{noted-fit}

module _ (r : Rule) (s : List Float) where
  kept_length : length (kept_of r s) ≡ length (thinned (distance r) (r.tolerance ⊗ r.tolerance) (point_at s) (length s / 3))
  unfolding thinned_points
  kept_length = length-map (thinned (distance r) (r.tolerance ⊗ r.tolerance) (point_at s) (length s / 3)) (point_at s)

  pub kept-few : length (kept_of r s) ≤ length s / 3
  kept-few = let l = kept_at_most (distance r) (r.tolerance ⊗ r.tolerance) (square_not_negative r.tolerance) (point_at s) (length s / 3) in omega (arith, kept_length)

  -- both ends of a chain with a step
  pub kept-some : 2 ≤ length s / 3 → 2 ≤ length (kept_of r s)
  kept-some h =
      let ks = kept_in (distance r) (r.tolerance ⊗ r.tolerance) (point_at s) 0 (length s / 3 - 1) in
      let e = ap length (ends-kept (distance r) (r.tolerance ⊗ r.tolerance) (square_not_negative r.tolerance) (point_at s) (length s / 3) h) in
      let l = length-append ks ((length s / 3 - 1) ∷ []) in omega (arith, kept_length)

  -- the k points kept stand at the front of the buffer
  module _ (out out' : List Float) (k : ℕ) (c : Copied triple (kept_of r s) out out' k) (room : 3 * (length s / 3) ≤ length out) where
    wide : length (flat triple (kept_of r s)) ≡ 3 * k
    wide = let e = c.count in omega (arith, flat_length triple 3 (λ p. refl) (kept_of r s))

    pub kept-fits : 3 * k ≤ length out'
    kept-fits = let e = c.count in let f = kept-few in let l = ap length c.items ∙ length-sets out 0 (flat triple (kept_of r s)) in omega arith

    pub kept-front : take (3 * k) out' ≡ flat triple (kept_of r s)
    kept-front =
        let e = c.count in
        let f = kept-few in
        let vs = flat triple (kept_of r s) in
        subst (λ (j : ℕ). take j out' ≡ vs) wide (ap (take (length vs)) (c.items ∙ sets_front vs out (omega (arith, wide))) ∙ take_front vs (drop (length vs) out))

    pub kept_wide : length (take (3 * k) out') ≡ 3 * k
    kept_wide = ap length kept-front ∙ wide

    -- what the fit of the buffer's front leaves is the chain's
    pub fitted-chain : (at n : ℕ) (ks ks' : List ℕ) (ns ns' : List Float) (ss ss' : List ℕ) → NotedPlaced (noted_in r (point_at (take (3 * k) out')) 0 (k - 1)) at n ks ks' ns ns' ss ss'
        → NotedPlaced (chain_noted r s) at n ks ks' ns ns' ss ss'
    unfolding chain_noted
    fitted-chain at n ks ks' ns ns' ss ss' p =
        subst (λ (j : ℕ). NotedPlaced (noted_in r (point_at (flat triple (kept_of r s))) 0 (j - 1)) at n ks ks' ns ns' ss ss') c.count
        (subst (λ (l : List Float). NotedPlaced (noted_in r (point_at l) 0 (k - 1)) at n ks ks' ns ns' ss ss') kept-front p)

  -- what is noted beside a chain's commands does not change them
  pub chain-noted : commands_of (chain_noted r s) ≡ chain_fit r s
  unfolding chain_noted chain_fit
  chain-noted = noted-fit r (point_at (flat triple (kept_of r s))) 0 (length (kept_of r s) - 1)

  -- a chain with no step
  pub no_chain : length s / 3 < 2 → (at : ℕ) (ks : List ℕ) (ns : List Float) → FitPlaced (chain_fit r s) at 0 ks ks ns ns
  unfolding chain_fit fit_in pieces_by flat
  no_chain h at ks ns =
      let f = kept-few in
      let d : length (kept_of r s) - 1 ≡ 0 = omega arith in rw d (record { count = refl; kinds = refl; numbers = refl })

  pub no_noted : length s / 3 < 2 → chain_noted r s ≡ []
  unfolding chain_noted noted_in pieces_by
  no_noted h =
      let f = kept-few in
      let d : length (kept_of r s) - 1 ≡ 0 = omega arith in rw d
