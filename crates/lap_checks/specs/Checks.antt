-- Which row of document 01's table refuses the replacement of a lap, its asking or its commit, by what each tells of its new lap. Definitions only.
use Rattle.std.specs.Prelude.{ℕ, ◌+◌, ◌*◌, Bool, true, not, ◌&&◌, ◌||◌, List, [], ◌∷◌, ◌++◌, length, get_or, ltb, leb, eqb, Float}
use Rattle.geo.specs.Domain.{tolerance, every_from, commands_formed, commands_in}
use Rattle.geo.specs.Outcome.{Row, row}
use Rattle.course.specs.Course.{lent_course}
use Rattle.laps.specs.File.{Lap, lap_count, laps_of, command_count, short, big, table_ok, placed, form_ok, domain_ok, laps_ok}
use Rattle.laps.specs.Rows.{size_rows}
use Rattle.lap_swap.specs.Swap.{swap_both, next_lacks, most_both}

-- ---- what a call tells of its new lap, in whatever form it is lent
pub record NewLap : Type 0 where
  -- row 1: it is whole commands
  pub whole : Bool
  -- row 2: they are at most 800
  pub few : Bool
  -- row 3: they are as many as their ticket tells (document 02, §13); new commands have no ticket
  pub counted : Bool
  -- row 4: they are a lap
  pub formed : Bool
  -- row 5: their numbers are in the domain
  pub near : Bool
  -- what they, and the next lap where that is fitted again, could become at most
  pub most : ℕ

-- of commands that are lent as the kinds ks and the numbers ns
unfoldable pub lent_whole : List ℕ → List Float → Bool
lent_whole ks ns = eqb (length ns) (9 * length ks)

-- "Each lap has one Move, its first command"; or, where they need not have one, none is
unfoldable pub move_placed : Bool → List ℕ → Bool
move_placed must ks = every_from (λ i. placed (eqb i 0 && (must || eqb (get_or ks 0 0) 0)) (get_or ks i 0)) (length ks) 0

-- a lap has a command; its Move is placed; "Unknown kind, unused number not +0"
unfoldable pub lent_formed : Bool → List ℕ → List Float → Bool
lent_formed must ks ns = not (eqb (length ks) 0) && move_placed must ks && commands_formed ks ns

-- new commands may lack their Move for every lap but the first; lap 0, which row 7 refuses, counts as that
abbrev pub lent_new : Float → List Lap → ℕ → List ℕ → List Float → NewLap
lent_new tol ls k ks ns =
    record {
      whole = lent_whole ks ns;
      few = leb (length ks) 800;
      counted = true;
      formed = lent_formed (leb k 1) ks ns;
      near = commands_in ks ns;
      most = most_both tol ls k (lent_course ks ns);
    }

-- ---- the rows: s is the recorded file, f its fitted file, k the lap's number
-- "A slice is not whole points or commands; a file under 8 bytes"
unfoldable pub row1 : List ℕ → List ℕ → Bool → Bool
row1 s f whole = short s || short f || not whole

-- "More than the domain's ... commands, laps, file bytes"
unfoldable pub row2 : List ℕ → List ℕ → Bool → Bool
row2 s f few = big s || big f || not few

-- "Wrong mark or table, over 800 commands in a table, lap counts that differ"
unfoldable pub row3 : List ℕ → List ℕ → Bool
row3 s f = not (table_ok s) || not (table_ok f) || not (eqb (lap_count s) (lap_count f))

-- "Unknown kind, unused number not +0, or in a lap a Move missing or misplaced": in the recorded file, and in the new commands, which are a lap too
unfoldable pub row4 : List ℕ → Bool → Bool
row4 s formed = not (laps_ok form_ok true (laps_of s)) || not formed

-- "Number not in the domain"
unfoldable pub row5 : List ℕ → Bool → Bool
row5 s near = not (laps_ok domain_ok true (laps_of s)) || not near

-- "lap 0 or above L"
unfoldable pub row7 : ℕ → List ℕ → Bool
row7 k s = eqb k 0 || ltb (lap_count s) k

-- rows 1 to 3 of both files and of how many commands the new lap has
unfoldable pub table_rows : List ℕ → List ℕ → Bool → Bool → List Row
table_rows s f whole few = row 1 (row1 s f whole) ∷ row 2 (row2 s f few) ∷ row 3 (row3 s f) ∷ []

-- rows 4 to 7 of the recorded laps, the new lap's commands, the tolerance and the lap's number
unfoldable pub later_rows : List ℕ → ℕ → Bool → Bool → Float → List Row
later_rows s k formed near tol = row 4 (row4 s formed) ∷ row 5 (row5 s near) ∷ row 6 (not (tolerance tol)) ∷ row 7 (row7 k s) ∷ []

-- rows 1 to 7: of a replacement, of its asking and of its commit, each with its own new lap
unfoldable pub new_rows : List ℕ → List ℕ → ℕ → NewLap → Float → List Row
new_rows s f k new tol = table_rows s f new.whole new.few ++ (row 3 (not new.counted) ∷ later_rows s k new.formed new.near tol)

-- "for a replacement, the new lap's most and the fitted file's command count in all other laps": in those that are not fitted again
unfoldable pub most_with : NewLap → ℕ → List ℕ → List ℕ → ℕ
most_with new k s f = new.most + command_count (swap_both (next_lacks k (laps_of s)) k [] [] (laps_of f))

unfoldable pub replace_rows : List ℕ → List ℕ → ℕ → NewLap → Float → ℕ → List Row
replace_rows s f k new tol room = new_rows s f k new tol ++ size_rows (lap_count f) (most_with new k s f) room
