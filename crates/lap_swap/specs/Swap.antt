-- The laps of a file with one replaced and, where it is fitted again, the one behind it; what both become, and could become at most. Definitions only.
use Rattle.std.specs.Prelude.{ℕ, ◌+◌, ◌-◌, ◌*◌, Bool, List, [], ◌++◌, ◌≡◌, length, get_or, set, drop, Float, if◌then◌else◌, Option, Some, None}
use Rattle.geo.specs.declared.types.Command.{Command}
use Rattle.file.specs.declared.command.Body.{Body}
use Rattle.file.specs.Command.{commands_at}
use Rattle.pieces.specs.declared.pieces.Rule.{Rule}
use Rattle.course.specs.Course.{most_on, end_on, lent_course}
use Rattle.laps.specs.File.{Lap, body, lacks}
use Rattle.lap_fit.specs.Fit.{start_of, fit_lap, most_lap, fit_new}

-- the commands of a lap, if there is one
abbrev pub commands_of : Option Body → Lap
commands_of None = []
commands_of (Some b) = commands_at b.bytes.now b.at b.count

-- laps that are numbered from `first` on, with a new lap k
abbrev pub swap : ℕ → Lap → ℕ → List Lap → List Lap
swap k new first ls = set ls (k - first) new

-- with a new lap k and, where `both` says so, a new lap k + 1: every other lap is as it was
unfoldable pub swap_both : Bool → ℕ → Lap → Lap → List Lap → List Lap
swap_both both k new next ls = if both then swap (k + 1) next 1 (swap k new 1 ls) else swap k new 1 ls

-- ---- "Replacing lap k now refits the next lap too if it has no Move" (document 02, §13); ls are the recorded laps
unfoldable pub next_lacks : ℕ → List Lap → Bool
next_lacks k ls = lacks (get_or ls k [])

-- that lap, or no commands where it is not fitted again
unfoldable pub next_lap : ℕ → List Lap → Lap
next_lap k ls = if next_lacks k ls then get_or ls k [] else []

-- "counting that lap's own most instead of its fitted commands": the next lap's, from the end of the new commands, which start where lap k does
unfoldable pub most_both : Float → List Lap → ℕ → List Command → ℕ
most_both tol ls k cs = most_on tol (start_of k ls) cs + most_lap tol (end_on (start_of k ls) cs) (next_lap k ls)

-- ---- what is written: the new commands are lent as the kinds ks and the numbers ns
-- the fit of the new commands, and that of the next lap from their end; no commands where it is not fitted again
abbrev pub new_fit : Rule → List Lap → ℕ → List ℕ → List Float → Lap
new_fit r ls k ks ns = fit_new r (start_of k ls) ks ns

abbrev pub next_fit : Rule → List Lap → ℕ → List ℕ → List Float → Lap
next_fit r ls k ks ns = fit_lap r (end_on (start_of k ls) (lent_course ks ns)) (next_lap k ls)

-- "It writes the new lap's fit and copies every other lap's body from the fitted file as it stands", but for the next lap where that is fitted again
unfoldable pub replaced_laps : Rule → ℕ → List ℕ → List Float → List Lap → List Lap → List Lap
replaced_laps r k ks ns ls fs = swap_both (next_lacks k ls) k (new_fit r ls k ks ns) (next_fit r ls k ks ns) fs

-- the same where both laps stand in a buffer: the first n commands of it, and the m behind them
unfoldable pub stored_laps : ℕ → List Lap → List ℕ → ℕ → ℕ → List Lap → List Lap
stored_laps k ls buffer n m fs = swap_both (next_lacks k ls) k (commands_at buffer 0 n) (commands_at buffer (73 * n) m) fs

-- what a function that writes both laps to the front of a buffer, of n and m commands, leaves
pub record PutBoth (new next : Lap) (buffer buffer' : List ℕ) (n m : ℕ) : Type 0 where
  pub count : n ≡ length new
  pub behind : m ≡ length next
  pub bytes : buffer' ≡ (body new ++ body next) ++ drop (length (body new ++ body next)) buffer
