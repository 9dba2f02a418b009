-- Thinning of commands, where Moves have rules of their own. Definitions only.
use Rattle.std.specs.Prelude.{ℕ, zero, suc, ◌+◌, Bool, false, ◌||◌, List, [], ◌∷◌, map, eqb, Float, if◌then◌else◌}
use Rattle.geo.specs.declared.types.Command.{Command}
use Rattle.farthest.specs.Ends.{is_move, command_sq}
use Rattle.simplify.specs.Thin.{thinned}

-- whether k is among these indices
unfoldable pub among : ℕ → List ℕ → Bool
among k [] = false
among k (j ∷ js) = eqb k j || among k js

-- of the n indices from i on those for which p holds
unfoldable pub select : (ℕ → Bool) → ℕ → ℕ → List ℕ
select p zero i = []
select p (suc n) i = if p i then i ∷ select p n (i + 1) else select p n (i + 1)

-- the indices kept of n commands `at`: those that the rule keeps, and every Move. Ranges are not cut at Moves.
unfoldable pub kept_commands : Float → (ℕ → Command) → ℕ → List ℕ
unfolding is_move command_sq thinned among select
kept_commands limit at n = select (λ i. is_move (at i) || among i (thinned command_sq limit at n)) n 0

-- the commands, thinned
unfoldable pub thinned_commands : Float → (ℕ → Command) → ℕ → List Command
unfolding kept_commands
thinned_commands limit at n = map at (kept_commands limit at n)
