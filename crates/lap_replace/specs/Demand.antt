-- Demand 3 in words that can be checked: what is said of files, their fits and the replacement of a lap. Definitions only; `proofs/Demand.antt` has the proofs.
use Rattle.std.specs.Prelude.{ℕ, ◌+◌, ◌-◌, ◌*◌, ◌≤◌, ◌<◌, Bool, true, false, ◌≡◌, List, [], ◌∷◌, map, length, get_or, take, Float, if◌then◌else◌}
use Rattle.geo.specs.declared.types.Point3D.{Point3D}
use Rattle.geo.specs.declared.types.Command.{Command}
use Rattle.geo.specs.Outcome.{gives}
use Rattle.geo.specs.Lent.{flat, origin, end_of, kind_of, numbers_of}
use Rattle.pieces.specs.declared.pieces.Rule.{Rule}
use Rattle.file.specs.Command.{decoded, enc, lent_lap, Held}
use Rattle.pieces.specs.Pieces.{laps_rule}
use Rattle.course.specs.Course.{parts_on, fit_on, end_on, course_fit, course_most, lent_course}
use Rattle.course.specs.Demand.{PartsGive}
use Rattle.course.specs.Finite.{FiniteNumbers}
use Rattle.laps.specs.File.{Lap, lap_count, laps_of, mark, encode, table_ok, Bytes, AllFull, command_count, lacks, form_ok, lap_ok, laps_ok}
use Rattle.lap_fit.specs.Fit.{start_of, fit_lap, fit_laps, laps_most, fit_new, fit_file_by, fit_file}
use Rattle.lap_swap.specs.Swap.{swap, next_lacks}
use Rattle.lap_replace.specs.Replace.{replace_lap}

-- lap number j of a file, its commands as they stand
unfoldable pub lap_at : List ℕ → ℕ → Lap
lap_at s j = get_or (laps_of s) (j - 1) []

-- "the course with lap k replaced by" the commands that are lent as ks and ns: the file of these laps
unfoldable pub course_with : List ℕ → ℕ → List ℕ → List Float → List ℕ
course_with s k ks ns = encode (swap k (lent_lap ks ns) 1 (laps_of s))

-- ---- the format
-- a file whose mark and table are right is what its laps are encoded to
abbrev pub Canonical : Type 0
Canonical = (s : List ℕ) → Bytes s → 8 ≤ length s → table_ok s ≡ true → encode (laps_of s) ≡ s

-- laps that a u32 can count are read back from the file that they are encoded to
abbrev pub ReadBack : Type 0
ReadBack = (ls : List Lap) → AllFull ls → length ls < 4294967296 → command_count ls < 4294967296 → laps_of (encode ls) ≡ ls

-- so the course with lap k replaced is one file: any file with these laps is it
abbrev pub OneCourse : Type 0
OneCourse =
    (s g : List ℕ) (k : ℕ) (ks : List ℕ) (ns : List Float) → Bytes g → 8 ≤ length g → table_ok g ≡ true → laps_of g ≡ swap k (lent_lap ks ns) 1 (laps_of s) → g ≡ course_with s k ks ns

-- ---- the fit by a rule: `fit_file s tol room` is that by `laps_rule tol`
-- "Each lap of an accepted fit is document 01's fit of the recorded lap": the fit has as many laps, and each is the fit of the lap of that number from its start, encoded
abbrev pub LapsAreFittedBy : Rule → Type 0
LapsAreFittedBy r =
    (s f : List ℕ) (room : ℕ) → fit_file_by r s room ≡ gives f
    → (lap_count f ≡ lap_count s)
    × ((j : ℕ) → 1 ≤ j → j ≤ lap_count s → lap_at f j ≡ map enc (fit_on r (start_of j (laps_of s)) (map decoded (lap_at s j))))

-- A lap "starts at the previous lap's last recorded end" (document 02, §13), whatever that command is, and whether or not that lap carries on itself.
abbrev pub StartsAtTheEndBy : Rule → Type 0
StartsAtTheEndBy r =
    (s f : List ℕ) (room : ℕ) → fit_file_by r s room ≡ gives f
    → (j : ℕ) → 1 ≤ j → j < lap_count s → start_of (j + 1) (laps_of s) ≡ end_of (decoded (get_or (lap_at s j) (length (lap_at s j) - 1) []))

-- "and in it each chain gives, in order, one Line or new Arc for each of its pieces; each step of each thinned chain lies in exactly one piece; a Line's or new Arc's
-- computed deviation over its piece is below the tolerance; each thinned-out point is, as computed, within it of the line through its kept neighbours; and a range is cut
-- exactly when its Line and both arc trials fail": a fitted lap is the bytes of commands which are, in order, the recorded lap's kept commands and what each of its chains
-- gives, as `ChainFitted` of `course/specs/Demand.antt` says sentence by sentence; the first chain starts at p, where the lap does. "The kept-neighbour distance and the Line
-- deviation [..] are then to the segment" (document 02, §4): both are by the rule's distance
pub record LapGives (r : Rule) (p : Point3D) (recorded fitted : Lap) : Type 0 where
  pub commands : List Command
  pub bytes : fitted ≡ map enc commands
  pub parts : PartsGive r (parts_on r.tolerance p (map decoded recorded)) commands
  -- a fitted lap is never empty, and each number in it is finite
  pub some : 0 < length fitted
  pub finite : FiniteNumbers commands

abbrev pub EachLapGivesBy : Rule → Type 0
EachLapGivesBy r =
    (s f : List ℕ) (room : ℕ) → fit_file_by r s room ≡ gives f
    → (lap_count f ≡ lap_count s) × ((j : ℕ) → 1 ≤ j → j ≤ lap_count s → LapGives r (start_of j (laps_of s)) (lap_at s j) (lap_at f j))

-- an accepted fit is a lap file: bytes within document 01's limits, with the mark and a right table
pub record IsLapFile (f : List ℕ) : Type 0 where
  pub bytes : Bytes f
  pub least : 8 ≤ length f
  pub greatest : length f ≤ 65536
  pub laps : lap_count f ≤ 64
  pub marked : take 4 f ≡ mark
  pub table : table_ok f ≡ true
  pub commands : command_count (laps_of f) ≤ 800

abbrev pub FitIsLapFileBy : Rule → Type 0
FitIsLapFileBy r = (s f : List ℕ) (room : ℕ) → fit_file_by r s room ≡ gives f → IsLapFile f

-- ---- so of the fit of a file, at every tolerance
abbrev pub LapsAreFitted : Type 0
LapsAreFitted = (tol : Float) → LapsAreFittedBy (laps_rule tol)

abbrev pub StartsAtTheEnd : Type 0
StartsAtTheEnd = (tol : Float) → StartsAtTheEndBy (laps_rule tol)

abbrev pub EachLapGives : Type 0
EachLapGives = (tol : Float) → EachLapGivesBy (laps_rule tol)

abbrev pub FitIsLapFile : Type 0
FitIsLapFile = (tol : Float) → FitIsLapFileBy (laps_rule tol)

-- ---- laps that all have their Move (document 02, §13, changes nothing for them)
abbrev pub HaveMoves : List Lap → Type 0
HaveMoves [] = Unit
HaveMoves (l ∷ ls) = (lacks l ≡ false) × HaveMoves ls

-- the fits, the mosts and row 4 as they were before it: each lap by itself, as a course
unfoldable pub fits_apart : Float → List Lap → List Lap
fits_apart tol ls = map (λ (l : Lap). map enc (course_fit (laps_rule tol) (map decoded l))) ls

unfoldable pub most_apart : Float → List Lap → ℕ
most_apart tol [] = 0
most_apart tol (l ∷ ls) = course_most tol (map decoded l) + most_apart tol ls

unfoldable pub formed_apart : List Lap → Bool
formed_apart [] = true
formed_apart (l ∷ ls) = if lap_ok form_ok true l then formed_apart ls else false

-- they agree with today's, and no replacement fits a next lap again
pub record AsBefore (tol : Float) (ls : List Lap) : Type 0 where
  pub fits : fit_laps (laps_rule tol) origin ls ≡ fits_apart tol ls
  pub most : laps_most tol origin ls ≡ most_apart tol ls
  pub formed : laps_ok form_ok true ls ≡ formed_apart ls
  pub alone : (k : ℕ) → next_lacks k ls ≡ false

abbrev pub NothingChanged : Type 0
NothingChanged = (tol : Float) (ls : List Lap) → HaveMoves ls → AsBefore tol ls

-- ---- the replacement
-- f is the fit of the file s at tol, k is one of its laps, and the new commands are lent as ks and ns. A fresh fit at tol, into r bytes, accepts the course with lap k
-- replaced by them, and g are its bytes
pub record Fresh (s f : List ℕ) (tol : Float) (k : ℕ) (ks : List ℕ) (ns : List Float) (r : ℕ) (g : List ℕ) : Type 0 where
  pub room : ℕ
  pub fit : fit_file s tol room ≡ gives f
  pub first : 1 ≤ k
  pub last : k ≤ lap_count s
  pub whole : length ns ≡ 9 * length ks
  pub held : Held ns
  pub fresh : fit_file (course_with s k ks ns) tol r ≡ gives g

-- "lap replacement, given the file, its fit, k, those commands, that tolerance and an output at least as long as the one lent to the fresh fit, gives exactly the fresh
-- fit's bytes"
abbrev pub ReplacedIsFresh : Type 0
ReplacedIsFresh =
    (s f : List ℕ) (tol : Float) (k : ℕ) (ks : List ℕ) (ns : List Float) (r : ℕ) (g : List ℕ) → Fresh s f tol k ks ns r g
    → (r' : ℕ) → r ≤ r' → replace_lap s f k ks ns tol r' ≡ gives g

-- "bodies of all others stay": of every lap other than k, and than k + 1 where that lacks its Move
abbrev pub OthersStay : Type 0
OthersStay =
    (s f : List ℕ) (tol : Float) (k : ℕ) (ks : List ℕ) (ns : List Float) (r : ℕ) (g : List ℕ) → Fresh s f tol k ks ns r g
    → (j : ℕ) → 1 ≤ j → (j ≡ k → ⊥) → (j ≡ k + 1 → lacks (lap_at s j) ≡ false) → lap_at g j ≡ lap_at f j

-- and lap k is the fit of the new commands from the start of lap k; lap k + 1, where it lacks its Move, that of the recorded lap from the new commands' end
abbrev pub NewIsFitted : Type 0
NewIsFitted =
    (s f : List ℕ) (tol : Float) (k : ℕ) (ks : List ℕ) (ns : List Float) (r : ℕ) (g : List ℕ) → Fresh s f tol k ks ns r g
    → (lap_at g k ≡ fit_new (laps_rule tol) (start_of k (laps_of s)) ks ns)
    × (lacks (lap_at s (k + 1)) ≡ true → lap_at g (k + 1) ≡ fit_lap (laps_rule tol) (end_on (start_of k (laps_of s)) (lent_course ks ns)) (lap_at s (k + 1)))

-- the lent form says it of each list of commands: they are lent by their kinds and numbers, and the file has their bytes
abbrev pub LentAsCommands : Type 0
LentAsCommands = (cs : List Command) → lent_lap (map kind_of cs) (flat numbers_of cs) ≡ map enc cs

-- so the first sentence of demand 3 with the new commands as a list
abbrev pub CommandsReplaced : Type 0
CommandsReplaced =
    (s f : List ℕ) (tol : Float) (room : ℕ) → fit_file s tol room ≡ gives f
    → (k : ℕ) → 1 ≤ k → k ≤ lap_count s
    → (new : List Command) → Held (flat numbers_of new)
    → (r : ℕ) (g : List ℕ) → fit_file (encode (swap k (map enc new) 1 (laps_of s))) tol r ≡ gives g
    → (r' : ℕ) → r ≤ r' → replace_lap s f k (map kind_of new) (flat numbers_of new) tol r' ≡ gives g
