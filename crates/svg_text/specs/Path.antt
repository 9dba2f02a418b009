-- What a text names (document 02, §11): SVG path data, bytes read from left to right. No float occurs here. Definitions only.
use Rattle.std.specs.Prelude.{ℕ, zero, suc, ◌+◌, ◌-◌, ◌*◌, ◌^◌, Bool, ◌&&◌, List, [], ◌∷◌, length, leb, eqb, ℤ, pos, neg_ℤ, if◌then◌else◌}
use Rattle.geo.specs.Outcome.{Outcome, refused, gives}

-- a command, its numbers in whole thousandths and in the text's order: C has x1 y1 x2 y2 x y
pub data Drawn : Type 0 where
  move : ℤ → ℤ → Drawn
  line : ℤ → ℤ → Drawn
  curve : ℤ → ℤ → ℤ → ℤ → ℤ → ℤ → Drawn

-- what was read, and the text behind it; or the text breaks the rules. An `Option` of a pair would be no plainer: its two parts would have no name
pub data Reading (A : Type 0) : Type 0 where
  broken : Reading A
  read : A → List ℕ → Reading A

-- one reading behind another, with what the first one read
unfoldable pub and_then : {A B : Type 0} → Reading A → (A → List ℕ → Reading B) → Reading B
and_then broken next = broken
and_then (read a t) next = next a t

-- ---- bytes
abbrev pub space : ℕ
space = 0x20

abbrev pub hyphen : ℕ
hyphen = 0x2d

abbrev pub full_stop : ℕ
full_stop = 0x2e

abbrev pub nought : ℕ
nought = 0x30

abbrev pub nine : ℕ
nine = 0x39

abbrev pub letter_c : ℕ
letter_c = 0x43

abbrev pub letter_l : ℕ
letter_l = 0x4c

abbrev pub letter_m : ℕ
letter_m = 0x4d

-- 0 to 9
abbrev pub is_digit : ℕ → Bool
is_digit b = leb nought b && leb b nine

-- ---- numbers: "an optional minus, 1 to 7 digits and optionally a point with one to three decimals"
-- what stands behind digits: their value, how many more there might have been, and the text from there
pub record Digits : Type 0 where
  pub value : ℕ
  pub room : ℕ
  pub rest : List ℕ

-- the value v goes on with as many digits as there are, at most `room`
unfoldable pub digits : ℕ → ℕ → List ℕ → Digits
digits v zero t = record { value = v; room = zero; rest = t }
digits v (suc n) [] = record { value = v; room = suc n; rest = [] }
digits v (suc n) (b ∷ t) = if is_digit b then digits (10 * v + (b - nought)) n t else record { value = v; room = suc n; rest = b ∷ t }

-- behind a point at least one of three decimals; those that are missing are 0
unfoldable pub in_thousandths : Digits → Reading ℕ
in_thousandths d = if eqb d.room 3 then broken else read (d.value * 10 ^ d.room) d.rest

-- the thousandths of v units and the decimals that may follow
unfoldable pub decimals : ℕ → List ℕ → Reading ℕ
decimals v [] = read (v * 1000) []
decimals v (b ∷ t) = if eqb b full_stop then in_thousandths (digits v 3 t) else read (v * 1000) (b ∷ t)

-- at least one of seven digits
unfoldable pub units : Digits → Reading ℕ
units d = if eqb d.room 7 then broken else decimals d.value d.rest

-- a number without its sign, in thousandths
unfoldable pub unsigned : List ℕ → Reading ℕ
unsigned t = units (digits 0 7 t)

-- with a sign; −0 is 0
unfoldable pub signed : (ℕ → ℤ) → Reading ℕ → Reading ℤ
signed sign broken = broken
signed sign (read n t) = read (sign n) t

abbrev pub negative : ℕ → ℤ
negative n = neg_ℤ (pos n)

-- a number, in thousandths
unfoldable pub number : List ℕ → Reading ℤ
number [] = broken
number (b ∷ t) = if eqb b hyphen then signed negative (unsigned t) else signed pos (unsigned (b ∷ t))

-- ---- commands: "absolute M, L and C", "one letter before each command", "single spaces between all items"
-- a space and a number
unfoldable pub spaced : List ℕ → Reading ℤ
spaced [] = broken
spaced (b ∷ t) = if eqb b space then number t else broken

-- a point, handed to what is made of it
unfoldable pub pair_of : {A : Type 0} → (ℤ → ℤ → A) → List ℕ → Reading A
pair_of make t = and_then (spaced t) (λ x u. and_then (spaced u) (λ y w. read (make x y) w))

-- a command: its letter, and one point or three
unfoldable pub command : List ℕ → Reading Drawn
command [] = broken
command (b ∷ t) =
    if eqb b letter_m
    then pair_of move t
    else (if eqb b letter_l then pair_of line t else (if eqb b letter_c then and_then (and_then (pair_of (λ a b c d x y. curve a b c d x y) t) pair_of) pair_of else broken))

-- ---- the text
-- 14: "the text breaks these rules"
abbrev pub bad : Outcome (List Drawn)
bad = refused 14

-- a command in front of those that the rest of the text names
unfoldable pub in_front : Drawn → Outcome (List Drawn) → Outcome (List Drawn)
in_front c (refused n) = refused n
in_front c (gives cs) = gives (c ∷ cs)

-- a command that was read, and what the rest of the text is read to
unfoldable pub then_rest : (List ℕ → Outcome (List Drawn)) → Reading Drawn → Outcome (List Drawn)
then_rest rest broken = bad
then_rest rest (read c t) = in_front c (rest t)

-- the commands behind a command, each behind a space, and there are at most n of them
unfoldable pub more : ℕ → List ℕ → Outcome (List Drawn)
more zero [] = gives []
more zero (b ∷ t) = bad
more (suc n) [] = gives []
more (suc n) (b ∷ t) = if eqb b space then then_rest (more n) (command t) else bad

-- all that is behind a command: there are fewer commands than bytes
abbrev pub others : List ℕ → Outcome (List Drawn)
others t = more (length t) t

-- "M first"; "An empty text gives the file of no laps"
unfoldable pub named : List ℕ → Outcome (List Drawn)
named [] = gives []
named (b ∷ t) = if eqb b letter_m then then_rest others (command (b ∷ t)) else bad
