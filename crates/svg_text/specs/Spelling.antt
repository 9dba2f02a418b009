-- Document 02's grammar of path data from the other side: how commands are spelled, and what each spelling names. A text is read exactly if it is spelled so. Definitions
-- only; `proofs/Read.antt` and `proofs/Spelled.antt` have the proofs.
use Rattle.std.specs.Prelude.{ℕ, ◌+◌, ◌-◌, ◌*◌, ◌^◌, ◌≤◌, ◌<◌, Bool, true, false, ◌≡◌, List, [], ◌∷◌, ◌++◌, map, length, ℤ, pos}
use Rattle.geo.specs.Outcome.{gives}
use Rattle.svg_text.specs.Path.{Drawn, move, line, curve, space, hyphen, full_stop, nought, letter_c, letter_l, letter_m, negative, named}

-- ---- a number: minus or not, the digits before the point and those behind it
pub record Number : Type 0 where
  pub minus : Bool
  pub whole : List ℕ
  pub decimals : List ℕ

-- digits from 0 to 9
abbrev pub Figures : List ℕ → Type 0
Figures [] = Unit
Figures (d ∷ ds) = (d < 10) × Figures ds

-- "1 to 7 digits and optionally a point with one to three decimals"
pub record Fine (n : Number) : Type 0 where
  pub figures : Figures n.whole
  pub some : 1 ≤ length n.whole
  pub most : length n.whole ≤ 7
  pub figures-behind : Figures n.decimals
  pub most-behind : length n.decimals ≤ 3

-- as bytes
abbrev pub sign : Bool → List ℕ
sign true = hyphen ∷ []
sign false = []

abbrev pub shown : List ℕ → List ℕ
shown [] = []
shown (d ∷ ds) = (nought + d) ∷ shown ds

abbrev pub behind : List ℕ → List ℕ
behind [] = []
behind (d ∷ ds) = full_stop ∷ shown (d ∷ ds)

unfoldable pub spell : Number → List ℕ
spell n = sign n.minus ++ (shown n.whole ++ behind n.decimals)

-- in thousandths: the value of all digits, times ten for each decimal that is missing
unfoldable pub value : ℕ → List ℕ → ℕ
value v [] = v
value v (d ∷ ds) = value (10 * v + d) ds

unfoldable pub thousandths : Number → ℕ
thousandths n = value (value 0 n.whole) n.decimals * 10 ^ (3 - length n.decimals)

abbrev pub with_sign : Bool → ℕ → ℤ
with_sign true v = negative v
with_sign false v = pos v

unfoldable pub meant : Number → ℤ
meant n = with_sign n.minus (thousandths n)

-- ---- a command: its letter and its numbers
pub data Spelled : Type 0 where
  spelledM spelledL : Number → Number → Spelled
  spelled_c : Number → Number → Number → Number → Number → Number → Spelled

abbrev pub Proper : Spelled → Type 0
Proper (spelledM x y) = Fine x × Fine y
Proper (spelledL x y) = Fine x × Fine y
Proper (spelled_c a b c d x y) = Fine a × Fine b × Fine c × Fine d × Fine x × Fine y

unfoldable pub spell_pair : Number → Number → List ℕ → List ℕ
spell_pair x y t = space ∷ (spell x ++ (space ∷ (spell y ++ t)))

-- in front of the text t
unfoldable pub spell_command : Spelled → List ℕ → List ℕ
spell_command (spelledM x y) t = letter_m ∷ spell_pair x y t
spell_command (spelledL x y) t = letter_l ∷ spell_pair x y t
spell_command (spelled_c a b c d x y) t = letter_c ∷ spell_pair a b (spell_pair c d (spell_pair x y t))

unfoldable pub meaning : Spelled → Drawn
meaning (spelledM x y) = move (meant x) (meant y)
meaning (spelledL x y) = line (meant x) (meant y)
meaning (spelled_c a b c d x y) = curve (meant a) (meant b) (meant c) (meant d) (meant x) (meant y)

-- ---- a text: nothing, or commands with single spaces between them, the first an M
unfoldable pub spell_more : List Spelled → List ℕ
spell_more [] = []
spell_more (c ∷ cs) = space ∷ spell_command c (spell_more cs)

unfoldable pub spell_text : List Spelled → List ℕ
spell_text [] = []
spell_text (c ∷ cs) = spell_command c (spell_more cs)

abbrev pub All : List Spelled → Type 0
All [] = Unit
All (c ∷ cs) = Proper c × All cs

abbrev pub FirstM : List Spelled → Type 0
FirstM [] = Unit
FirstM (spelledM x y ∷ cs) = Unit
FirstM (spelledL x y ∷ cs) = ⊥
FirstM (spelled_c a b c d x y ∷ cs) = ⊥

-- ---- every text that is so spelled is read to what it names
abbrev pub SpelledIsRead : Type 0
SpelledIsRead = (cs : List Spelled) → FirstM cs → All cs → named (spell_text cs) ≡ gives (map meaning cs)

-- ---- and every text that is read is so spelled
pub record Spells (t : List ℕ) (cs : List Drawn) : Type 0 where
  pub commands : List Spelled
  pub first : FirstM commands
  pub all : All commands
  pub text : spell_text commands ≡ t
  pub names : map meaning commands ≡ cs

abbrev pub ReadIsSpelled : Type 0
ReadIsSpelled = (t : List ℕ) (cs : List Drawn) → named t ≡ gives cs → Spells t cs
