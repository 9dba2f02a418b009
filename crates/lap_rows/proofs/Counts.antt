-- How many rows a lap has, how many steps each, and how many bytes its text. Assumes nothing.
use Prim.Native.Nat.{ℕ, ◌*◌, ◌≤◌, ◌<◌}
use mathlib.Core.Path.{◌≡◌}
use mathlib.Core.Bool.{true}
use mathlib.Core.List.{List, [], ◌∷◌, map}
use native.Mathlib.Omega.{arith}
use lib.ListN.{length}
use lib.Ieee.{Float}
use Rattle.floats.specs.Ops.{◌≺◌, +0}
use Rattle.geo.specs.declared.types.Point3D.{Point3D}
use Rattle.file.specs.Command.{decoded}
use Rattle.pieces.specs.Pieces.{laps_rule}
use Rattle.chain.specs.Parts.{Part, chain, kept, part_most}
use Rattle.chain.specs.Parts as parts
use Rattle.course.specs.Course.{parts_on, most_on}
use Rattle.listing.specs.Rows.{steps_in, sum_of, chains_steps}
use Rattle.listing.proofs.Laws.{chain-few, course_steps, course_rows-few}
use Rattle.laps.specs.File.{Lap}
use Rattle.lap_fit.specs.Fit.{lap_end, most_lap, laps_most}
use Rattle.lap_rows.specs.Listing.{lap_rows, lap_text, lap_steps, laps_steps}
use Rattle.lap_text.proofs.Written.{lines_length}

-- the chains among several parts have no more steps than the parts' most
chains_few : (tol : Float) (ps : List Part) → chains_steps (laps_rule tol) ps ≤ parts.most_of ps
unfolding chains_steps parts.most_of part_most
chains_few tol [] = omega arith
chains_few tol (chain s ∷ ps) = let a = chains_few tol ps in let f = chain-few (laps_rule tol) s in omega arith
chains_few tol (kept c ∷ ps) = let a = chains_few tol ps in omega arith

-- a lap has no more steps than its most, and laps no more than theirs together
pub lap-few : (tol : Float) (p : Point3D) (l : Lap) → lap_steps tol p l ≤ most_lap tol p l
unfolding lap_steps most_lap most_on
lap-few tol p l = chains_few tol (parts_on tol p (map decoded l))

pub laps-few : (tol : Float) (p : Point3D) (ls : List Lap) → laps_steps tol p ls ≤ laps_most tol p ls
unfolding laps_steps laps_most
laps-few tol p [] = omega arith
laps-few tol p (l ∷ ls) = let a = lap-few tol p l in let b = laps-few tol (lap_end p l) ls in omega arith

module _ (tol : Float) (pos : (+0 ≺ tol) ≡ true) where
  -- a lap
  module _ (p : Point3D) (l : Lap) where
    pub rows_few : length (lap_rows tol p l) ≤ most_lap tol p l
    unfolding lap_rows most_lap
    rows_few = course_rows-few (laps_rule tol) pos p (map decoded l)

    -- the steps that its rows give are those of its chains
    pub rows-steps : sum_of (steps_in (lap_rows tol p l)) ≡ lap_steps tol p l
    unfolding lap_rows lap_steps
    rows-steps = course_steps (laps_rule tol) pos p (map decoded l)

    pub rows_short : most_lap tol p l ≤ 800 → sum_of (steps_in (lap_rows tol p l)) < 1000
    rows_short h = let a = rows-steps in let b = lap-few tol p l in omega arith

    pub text-few : (lap : ℕ) → lap < 100 → most_lap tol p l ≤ 800 → length (lap_text tol lap p l) ≤ 9 * most_lap tol p l
    unfolding lap_text
    text-few lap b h = let a = lines_length lap (lap_rows tol p l) b (rows_short h) in let f = rows_few in omega arith
