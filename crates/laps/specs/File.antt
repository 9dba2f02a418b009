-- The lap file as a list of laps, each a list of commands of 73 bytes as they stand (document 01, "The lap file"). Definitions only.
use Rattle.std.specs.Prelude.{ℕ, zero, suc, ◌+◌, ◌*◌, ◌<◌, Bool, true, false, not, ◌&&◌, ◌||◌, List, [], ◌∷◌, ◌++◌, ◌≡◌, length, get_or, ltb, eqb, if◌then◌else◌}
use Rattle.std.proofs.lemmas.List.Edits.{sets}
use Rattle.geo.specs.Domain.{finite3, command_in}
use Rattle.file.specs.Bytes.{half_at, u32_bytes}
use Rattle.file.specs.Command.{commands_at, decoded, point_from, well_formed}

-- the commands of a lap, each of 73 bytes
abbrev pub Lap : Type 0
Lap = List (List ℕ)

-- ---- reading
-- the lap count L; of entry j of the table, its offset and its command count
unfoldable pub lap_count : List ℕ → ℕ
lap_count s = half_at s 4

unfoldable pub offset_at : List ℕ → ℕ → ℕ
offset_at s j = half_at s (8 + 8 * j)

unfoldable pub count_at : List ℕ → ℕ → ℕ
count_at s j = half_at s (12 + 8 * j)

-- the n laps from entry j on, the first of which is at `at`: "then the bodies in that order, without gaps"
unfoldable pub laps_at : List ℕ → ℕ → ℕ → ℕ → List Lap
laps_at s j at zero = []
laps_at s j at (suc n) = commands_at s at (count_at s j) ∷ laps_at s (j + 1) (at + 73 * count_at s j) n

-- "The first is at 8 + 8 × L"
unfoldable pub laps_of : List ℕ → List Lap
laps_of s = laps_at s 0 (8 + 8 * lap_count s) (lap_count s)

-- ---- writing
-- a lap's body
unfoldable pub body : Lap → List ℕ
body [] = []
body (c ∷ cs) = c ++ body cs

unfoldable pub bodies : List Lap → List ℕ
bodies [] = []
bodies (l ∷ ls) = body l ++ bodies ls

-- the table of contents, the first body being at `at`: "offset from the file's start, number of commands"
unfoldable pub table : ℕ → List Lap → List ℕ
table at [] = []
table at (l ∷ ls) = u32_bytes at ++ u32_bytes (length l) ++ table (at + 73 * length l) ls

-- "LAPS"
abbrev pub mark : List ℕ
mark = 0x4c ∷ 0x41 ∷ 0x50 ∷ 0x53 ∷ []

unfoldable pub encode : List Lap → List ℕ
encode ls = mark ++ u32_bytes (length ls) ++ table (8 + 8 * length ls) ls ++ bodies ls

-- what a function that writes a lap from `to` on, of n commands, leaves
pub record PutLap (l : Lap) (out out' : List ℕ) (to n : ℕ) : Type 0 where
  pub count : n ≡ length l
  pub bytes : out' ≡ sets out to (body l)

-- what a slice of bytes holds
abbrev pub Bytes : List ℕ → Type 0
Bytes s = (i : ℕ) → get_or s i 0 < 256

-- laps of commands of 73 bytes, and how many these are
abbrev pub EachFull : Lap → Type 0
EachFull [] = Unit
EachFull (c ∷ l) = (length c ≡ 73) × EachFull l

abbrev pub AllFull : List Lap → Type 0
AllFull [] = Unit
AllFull (l ∷ ls) = EachFull l × AllFull ls

unfoldable pub command_count : List Lap → ℕ
command_count [] = 0
command_count (l ∷ ls) = length l + command_count ls

-- ---- row 1 and row 2 of one file: "a file under 8 bytes"; 65,536 bytes, 64 laps
unfoldable pub short : List ℕ → Bool
short s = ltb (length s) 8

unfoldable pub big : List ℕ → Bool
big s = ltb 65536 (length s) || ltb 64 (lap_count s)

-- ---- row 3 of one file: its mark and its table
unfoldable pub has_mark : List ℕ → Bool
has_mark s = eqb (get_or s 0 0) 0x4c && eqb (get_or s 1 0) 0x41 && eqb (get_or s 2 0) 0x50 && eqb (get_or s 3 0) 0x53

-- n entries from j on, with `total` commands before them: each offset is where the last body ended, each count is 1 or more, there are at most 800 commands, and the last
-- body ends with the file
unfoldable pub walk : List ℕ → ℕ → ℕ → ℕ → ℕ → Bool
walk s j at total zero = eqb at (length s)
walk s j at total (suc n) =
    if eqb (offset_at s j) at
    then (if eqb (count_at s j) 0
    then false
    else (if ltb 800 (total + count_at s j) then false else walk s (j + 1) (at + 73 * count_at s j) (total + count_at s j) n))
    else false

unfoldable pub table_ok : List ℕ → Bool
table_ok s =
    if has_mark s
    then (if ltb (length s) (8 + 8 * lap_count s) then false else walk s 0 (8 + 8 * lap_count s) 0 (lap_count s))
    else false

-- ---- row 4 and row 5 of a lap
-- whether a lap lacks its Move (document 02, §13): its first kind is not 0
unfoldable pub lacks : Lap → Bool
lacks [] = false
lacks (c ∷ cs) = not (eqb (get_or c 0 0) 0)

-- "Each lap has one Move, its first command": whether a kind may stand where it does; `first` where a Move is to stand
unfoldable pub placed : Bool → ℕ → Bool
placed true kind = eqb kind 0
placed false kind = not (eqb kind 0)

-- row 4 of a command
unfoldable pub form_ok : Bool → List ℕ → Bool
form_ok first c = placed first (get_or c 0 0) && well_formed c

-- row 5 of a command, wherever it stands
unfoldable pub domain_ok : Bool → List ℕ → Bool
domain_ok first c = command_in (decoded c)

-- row 4 of a command of a fitted lap: no fit writes a Bezier, so "a Bezier gives 4" (document 02, §9)
unfoldable pub fitted_ok : Bool → List ℕ → Bool
fitted_ok first c = form_ok first c && not (eqb (get_or c 0 0) 3)

-- row 5 of a command of a fitted lap: "its numbers need only be finite", since a fit may write a number just above 1,000,000
unfoldable pub finite_numbers : List ℕ → Bool
finite_numbers c = finite3 (point_from c 1) && finite3 (point_from c 25) && finite3 (point_from c 49)

unfoldable pub finite_ok : Bool → List ℕ → Bool
finite_ok first c = finite_numbers c

-- a test of each command of a lap, of which the first is to be a Move or none is
unfoldable pub lap_ok : (Bool → List ℕ → Bool) → Bool → Lap → Bool
lap_ok test first [] = true
lap_ok test first (c ∷ cs) = if test first c then lap_ok test false cs else false

-- of a lap that must have its Move, or may lack it: then none of its commands is one
unfoldable pub lap_tested : (Bool → List ℕ → Bool) → Bool → Lap → Bool
lap_tested test must l = lap_ok test (must || not (lacks l)) l

-- of all laps: "A lap after the first may lack its Move"
unfoldable pub laps_ok : (Bool → List ℕ → Bool) → Bool → List Lap → Bool
laps_ok test must [] = true
laps_ok test must (l ∷ ls) = if lap_tested test must l then laps_ok test false ls else false

-- both rows of a command
unfoldable pub both_ok : Bool → List ℕ → Bool
both_ok first c = form_ok first c && domain_ok first c
