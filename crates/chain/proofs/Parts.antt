-- Laws of a course's parts: their most, the length of their fit, and a command at a time. Assumes nothing.
use Prim.Native.Nat.{◌+◌, ◌-◌, ◌/◌, ◌≤◌}
use mathlib.Core.Path.{◌≡◌, refl, ap, ◌∙◌}
use mathlib.Core.List.{List, [], ◌∷◌, ◌++◌}
use native.Mathlib.Omega.{arith}
use lib.ListN.{length, length-append}
use lib.Ieee.{Float}
use Rattle.geo.specs.declared.types.Point3D.{Point3D}
use Rattle.geo.specs.declared.types.Command.{Command}
use Rattle.geo.specs.Lent.{flat, end_of}
use Rattle.geo.proofs.Flat.{flat_append, flat-one}
use Rattle.pieces.specs.Written.{Noted, commands_of}
use Rattle.pieces.proofs.Writing.{commands_append}
use Rattle.chain.specs.Parts.{Part, chain, kept, Join, adds, ends, closed, carried, parts_from, part_fit, part_most, most_of, fit_of}
use Rattle.chain.specs.Chains.{part_noted, noted_of}

pub most_append : (xs ys : List Part) → most_of (xs ++ ys) ≡ most_of xs + most_of ys
unfolding most_of
most_append [] ys = omega arith
most_append (x ∷ xs) ys = let e = most_append xs ys in omega arith

pub noted_append : (fit : List Float → List Noted) (xs ys : List Part) → noted_of fit (xs ++ ys) ≡ noted_of fit xs ++ noted_of fit ys
unfolding noted_of
noted_append fit xs ys = flat_append (part_noted fit) xs ys

-- what is written of several parts is at most their most, where it is so of a chain
module _ (fit : List Float → List Noted) (few : (s : List Float) → length (fit s) ≤ length s / 3 - 1) where
  part_few : (p : Part) → length (part_noted fit p) ≤ part_most p
  unfolding part_noted part_most
  part_few (chain s) = few s
  part_few (kept c) = omega arith

  pub noted-few : (ps : List Part) → length (noted_of fit ps) ≤ most_of ps
  unfolding noted_of flat most_of
  noted-few [] = omega arith
  noted-few (p ∷ ps) = let a = part_few p in let b = noted-few ps in let l = length-append (part_noted fit p) (flat (part_noted fit) ps) in omega arith

-- the parts of one chain alone
pub noted-chain : (fit : List Float → List Noted) (s : List Float) → noted_of fit (chain s ∷ []) ≡ fit s
unfolding noted_of part_noted
noted-chain fit s = flat-one (part_noted fit) (chain s)

-- what is noted beside the commands of several parts does not change them, where it is so of a chain
module _ (noting : List Float → List Noted) (fit : List Float → List Command) (same : (s : List Float) → commands_of (noting s) ≡ fit s) where
  part_commands : (p : Part) → commands_of (part_noted noting p) ≡ part_fit fit p
  unfolding part_noted part_fit
  part_commands (chain s) = same s
  part_commands (kept c) = unfold commands_of in refl

  pub parts-commands : (ps : List Part) → commands_of (noted_of noting ps) ≡ fit_of fit ps
  unfolding noted_of fit_of flat
  parts-commands [] = unfold commands_of in refl
  parts-commands (p ∷ ps) =
      commands_append (part_noted noting p) (noted_of noting ps)
      ∙ ap (λ (l : List Command). l ++ commands_of (noted_of noting ps)) (part_commands p) ∙ ap (λ (l : List Command). part_fit fit p ++ l) (parts-commands ps)

module _ (join : Point3D → Command → Join) where
  pub parts_step : (last : Point3D) (s : List Float) (c : Command) (cs : List Command)
      → parts_from join last s (c ∷ cs) ≡ closed s c (join last c) ++ parts_from join (end_of c) (carried s c (join last c)) cs
  unfolding parts_from
  parts_step last s c cs = refl

  pub parts-end : (last : Point3D) (s : List Float) → parts_from join last s [] ≡ chain s ∷ []
  unfolding parts_from
  parts-end last s = refl

  -- the chain under way counts in the most
  pub chain-counts : (last : Point3D) (s : List Float) (cs : List Command) → length s / 3 - 1 ≤ most_of (parts_from join last s cs)
  unfolding parts_from closed carried most_of part_most
  chain-counts last s [] = omega arith
  chain-counts last s (c ∷ cs) = go (join last c) refl (λ l. chain-counts (end_of c) l cs)
    where
      go : (j : Join) → join last c ≡ j → ((l : List Float) → length l / 3 - 1 ≤ most_of (parts_from join (end_of c) l cs)) → length s / 3 - 1 ≤ most_of (parts_from join last s (c ∷ cs))
      go (adds ps) e r = rw e (let l = length-append s ps in let q = r (s ++ ps) in omega arith)
      go ends e r = rw e (omega arith)
