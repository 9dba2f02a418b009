-- What the listing of a file says of its fit. Definitions only; `proofs/Demand.antt` has the proofs.
use Rattle.std.specs.Prelude.{ℕ, ◌+◌, ◌-◌, ◌*◌, ◌≤◌, ◌≡◌, List, [], ◌∷◌, ◌++◌, map, get_or, Float}
use Rattle.geo.specs.Outcome.{refusal, gives}
use Rattle.geo.specs.declared.types.Point3D.{Point3D}
use Rattle.geo.specs.Lent.{flat, origin}
use Rattle.file.specs.Command.{decoded}
use Rattle.pieces.specs.Pieces.{laps_rule}
use Rattle.chain.specs.Parts.{chain}
use Rattle.course.specs.Course.{parts_on}
use Rattle.course.specs.Demand.{chain_pieces}
use Rattle.listing.specs.Rows.{ListRow, piece_row, part_rows, kinds_of, steps_in, sum_of, chains_steps}
use Rattle.laps.specs.File.{Lap, lap_count, laps_of}
use Rattle.laps.specs.Rows.{file_size}
use Rattle.lap_fit.specs.Fit.{lap_end, start_of, file_fit_rows, fit_file}
use Rattle.lap_replace.specs.Demand.{lap_at}
use Rattle.lap_text.specs.Text.{decimal}
use Rattle.lap_rows.specs.Listing.{lap_rows, laps_steps, list_text, most_text, text_rows, list_file}

-- ---- the text
-- the number that decimal digits spell, `before` being that of the digits in front of them
unfoldable pub spelled : ℕ → List ℕ → ℕ
spelled before [] = before
spelled before (d ∷ ds) = spelled (10 * before + (d - 48)) ds

-- The digits of a number spell it.
abbrev pub DigitsSpell : Type 0
DigitsSpell = (n : ℕ) → spelled 0 (decimal n) ≡ n

-- No digit 0 stands in front.
abbrev pub NoZeroInFront : Type 0
NoZeroInFront = (n : ℕ) → 1 ≤ n → get_or (decimal n) 0 0 ≡ 48 → ⊥

-- ---- refusals
-- With room for the text of 800 rows, and for a fitted file of 64 laps and 800 commands (58,920 bytes), the listing is refused exactly where the fit is, by the same row.
abbrev pub RefusedAlike : Type 0
RefusedAlike =
    (s : List ℕ) (tol : Float) (room room' : ℕ) → most_text 800 ≤ room → file_size 64 800 ≤ room' → refusal (text_rows s tol room) ≡ refusal (file_fit_rows s tol room')

-- Each file that the fit accepts is listed.
abbrev pub EachIsListed : Type 0
EachIsListed =
    (s f : List ℕ) (tol : Float) (room room' : ℕ) → fit_file s tol room' ≡ gives f → most_text 800 ≤ room → list_file s tol room ≡ gives (list_text tol (laps_of s))

-- ---- the rows of the laps, of which `list_text` has the lines: f is the fit of the file s
-- the first byte of a command is its kind
abbrev pub kind_byte : List ℕ → ℕ
kind_byte c = get_or c 0 0

-- The rows of lap k have, one for one and in order, the kinds of the commands in the fitted lap.
abbrev pub KindsOfTheFit : Type 0
KindsOfTheFit =
    (s f : List ℕ) (tol : Float) (room : ℕ) → fit_file s tol room ≡ gives f
    → (k : ℕ) → 1 ≤ k → k ≤ lap_count s → kinds_of (lap_rows tol (start_of k (laps_of s)) (lap_at s k)) ≡ map kind_byte (lap_at f k)

-- They are those of the lap's parts in order: of a chain one row for each piece of its fit, with the piece's steps; of a command that is kept one row with no step.
abbrev pub RowsOfTheParts : Type 0
RowsOfTheParts = (s : List ℕ) (tol : Float) (k : ℕ) → lap_rows tol (start_of k (laps_of s)) (lap_at s k) ≡ flat (part_rows (laps_rule tol)) (parts_on tol (start_of k (laps_of s)) (map decoded (lap_at s k)))

abbrev pub RowsOfAChain : Type 0
RowsOfAChain = (tol : Float) (points : List Float) → part_rows (laps_rule tol) (chain points) ≡ map piece_row (chain_pieces (laps_rule tol) points)

-- The steps that they give are, together, those of the lap's chains: the points that are kept of each, less one.
abbrev pub StepsOfTheChains : Type 0
StepsOfTheChains =
    (s f : List ℕ) (tol : Float) (room : ℕ) → fit_file s tol room ≡ gives f
    → (k : ℕ) → 1 ≤ k → k ≤ lap_count s → sum_of (steps_in (lap_rows tol (start_of k (laps_of s)) (lap_at s k))) ≡ chains_steps (laps_rule tol) (parts_on tol (start_of k (laps_of s)) (map decoded (lap_at s k)))

-- ---- the sum under the listing (document 02, §8)
-- the rows of laps, the first of which starts at p, those of one behind those of another
unfoldable pub all_rows : Float → Point3D → List Lap → List ListRow
all_rows tol p [] = []
all_rows tol p (l ∷ ls) = lap_rows tol p l ++ all_rows tol (lap_end p l) ls

-- The sum, which is worked out over the thinned chains, is that of the steps in all rows, and is at most 800.
abbrev pub SumOfTheRows : Type 0
SumOfTheRows =
    (s text : List ℕ) (tol : Float) (room : ℕ) → list_file s tol room ≡ gives text
    → (laps_steps tol origin (laps_of s) ≡ sum_of (steps_in (all_rows tol origin (laps_of s)))) × (laps_steps tol origin (laps_of s) ≤ 800)
