-- Every text that is spelled by the grammar is read to what it names. Assumes nothing.
use Prim.Native.Nat.{ℕ, zero, suc, ◌+◌, ◌-◌, ◌*◌, ◌^◌, ◌≤◌, ◌<◌}
use mathlib.Core.Path.{◌≡◌, refl, ap, ◌∙◌}
use mathlib.Core.Bool.{Bool, true, false}
use mathlib.Core.List.{List, [], ◌∷◌, ◌++◌, map, append_assoc}
use native.Mathlib.Omega.{arith}
use borrow.Author.Tests.{ne_eqb, le-leb}
use lib.ListN.{length, length-append}
use lib.Dec.{eqb}
use lib.IntN.{ℤ}
use Rattle.geo.specs.Outcome.{gives}
use Rattle.svg_text.specs.Path.{Drawn, move, line, curve, read, and_then, space, full_stop, nought, is_digit, digits, in_thousandths, decimals, units, unsigned, signed, number, spaced, pair_of, command, in_front, then_rest, more, named}
use Rattle.svg_text.specs.Spelling.{Number, Figures, Fine, sign, shown, behind, spell, value, thousandths, with_sign, meant, Spelled, spelledM, spelledL, spelled_c, Proper, spell_pair, spell_command, meaning, spell_more, spell_text, All, SpelledIsRead}

-- what follows digits is no digit; what follows a number is nothing or a space
abbrev Stops : List ℕ → Type 0
Stops [] = Unit
Stops (b ∷ t) = is_digit b ≡ false

abbrev Ends : List ℕ → Type 0
Ends [] = Unit
Ends (b ∷ t) = b ≡ space

ends_stop : (t : List ℕ) → Ends t → Stops t
ends_stop [] e = tt
ends_stop (b ∷ t) e = rw e

-- ---- digits
is_digit_lem : (d : ℕ) → d < 10 → is_digit (nought + d) ≡ true
is_digit_lem d h = rw (le-leb 48 (48 + d) (omega arith), le-leb (48 + d) 57 (omega arith))

none : (n : ℕ) → n - 0 ≡ n
none n = omega arith

digits-shown : (ds : List ℕ) (v n : ℕ) (t : List ℕ) → Figures ds → length ds ≤ n → Stops t
    → digits v n (shown ds ++ t) ≡ record { value = value v ds; room = n - length ds; rest = t }
unfolding digits value
digits-shown [] v zero t f h s = refl
digits-shown [] v (suc n) [] f h s = rw (none (suc n))
digits-shown [] v (suc n) (b ∷ t) f h s = rw (s, none (suc n))
digits-shown (d ∷ ds) v zero t f h s = absurd (omega arith)
digits-shown (d ∷ ds) v (suc n) t f h s =
    let e : 48 + d - 48 ≡ d = omega arith in
    let g : suc n - suc (length ds) ≡ n - length ds = omega arith in
    rw (is_digit_lem d f.0, e, g) (digits-shown ds (10 * v + d) n t f.1 (omega arith) s)

-- ---- numbers
module _ (ws : List ℕ) (fw : Figures ws) (some : 1 ≤ length ws) (most : length ws ≤ 7) (t : List ℕ) (end : Ends t) where
  not_none : eqb (7 - length ws) 7 ≡ false
  not_none = ne_eqb (7 - length ws) 7 (λ e. omega arith)

  whole-read : unsigned (shown ws ++ t) ≡ read (value 0 ws * 1000) t
  unfolding unsigned units decimals
  whole-read = rw (digits-shown ws 0 7 t fw most (ends_stop t end), not_none) (go t end)
    where
      go : (t : List ℕ) → Ends t → decimals (value 0 ws) t ≡ read (value 0 ws * 1000) t
      go [] e = refl
      go (b ∷ t) e = rw e

  decimals-read : (ds : List ℕ) → Figures ds → 1 ≤ length ds → length ds ≤ 3
      → unsigned (shown ws ++ (full_stop ∷ (shown ds ++ t))) ≡ read (value (value 0 ws) ds * 10 ^ (3 - length ds)) t
  unfolding unsigned units decimals in_thousandths
  decimals-read ds fd s m =
      let z : eqb (3 - length ds) 3 ≡ false = ne_eqb (3 - length ds) 3 (λ e. omega arith) in
      rw (digits-shown ws 0 7 (full_stop ∷ (shown ds ++ t)) fw most refl, not_none, digits-shown ds (value 0 ws) 3 t fd m (ends_stop t end), z)

  unsigned-read : (ds : List ℕ) → Figures ds → length ds ≤ 3
      → unsigned (shown ws ++ (behind ds ++ t)) ≡ read (value (value 0 ws) ds * 10 ^ (3 - length ds)) t
  unfolding value
  unsigned-read [] fd m = whole-read
  unsigned-read (d ∷ ds) fd m = decimals-read (d ∷ ds) fd (omega arith) m

signed-read : (minus : Bool) (ws : List ℕ) (r t : List ℕ) (n : ℕ) → Figures ws → 1 ≤ length ws → unsigned (shown ws ++ r) ≡ read n t
    → number (sign minus ++ (shown ws ++ r)) ≡ read (with_sign minus n) t
unfolding number signed
signed-read true ws r t n f s e = rw e
signed-read false [] r t n f s e = absurd (omega arith)
signed-read false (w ∷ ws) r t n f s e = rw (ne_eqb (48 + w) 45 (λ z. omega arith), e)

number_read : (n : Number) → Fine n → (t : List ℕ) → Ends t → number (spell n ++ t) ≡ read (meant n) t
unfolding spell meant thousandths
number_read n f t e =
    let ws = n.whole in
    let ds = n.decimals in
    let a : (sign n.minus ++ (shown ws ++ behind ds)) ++ t ≡ sign n.minus ++ (shown ws ++ (behind ds ++ t)) =
    append_assoc (sign n.minus) (shown ws ++ behind ds) t ∙ ap (λ (l : List ℕ). sign n.minus ++ l) (append_assoc (shown ws) (behind ds) t) in
    ap number a
    ∙ signed-read n.minus ws (behind ds ++ t) t (value (value 0 ws) ds * 10 ^ (3 - length ds)) f.figures f.some
    (unsigned-read ws f.figures f.some f.most t e ds f.figures-behind f.most-behind)

-- ---- commands
pair_read : {A : Type 0} (make : ℤ → ℤ → A) (x y : Number) → Fine x → Fine y → (t : List ℕ) → Ends t → pair_of make (spell_pair x y t) ≡ read (make (meant x) (meant y)) t
unfolding pair_of spaced and_then spell_pair
pair_read make x y f g t e = rw (number_read x f (space ∷ (spell y ++ t)) refl, number_read y g t e)

pair_ends : (x y : Number) (t : List ℕ) → Ends (spell_pair x y t)
unfolding spell_pair
pair_ends x y t = refl

command-read : (c : Spelled) → Proper c → (t : List ℕ) → Ends t → command (spell_command c t) ≡ read (meaning c) t
unfolding command spell_command meaning and_then
command-read (spelledM x y) p t e = pair_read move x y p.0 p.1 t e
command-read (spelledL x y) p t e = pair_read line x y p.0 p.1 t e
command-read (spelled_c a b c d x y) p t e =
    let u = spell_pair x y t in
    let w = spell_pair c d u in
    rw (pair_read {A = ℤ → ℤ → ℤ → ℤ → Drawn} (λ a b c d x y. curve a b c d x y) a b p.0 p.1 w (pair_ends c d u), pair_read {A = ℤ → ℤ → Drawn} (λ c d x y. curve (meant a) (meant b) c d x y) c d p.2 p.3 u (pair_ends x y t))
    (pair_read {A = Drawn} (λ x y. curve (meant a) (meant b) (meant c) (meant d) x y) x y p.4 p.5 t e)

-- ---- texts
more-ends : (cs : List Spelled) → Ends (spell_more cs)
unfolding spell_more
more-ends [] = tt
more-ends (c ∷ cs) = refl

more-read : (cs : List Spelled) (n : ℕ) → length cs ≤ n → All cs → more n (spell_more cs) ≡ gives (map meaning cs)
unfolding more spell_more then_rest in_front
more-read [] zero h p = refl
more-read [] (suc n) h p = refl
more-read (c ∷ cs) zero h p = absurd (omega arith)
more-read (c ∷ cs) (suc n) h p = rw (command-read c p.0 (spell_more cs) (more-ends cs), more-read cs n (omega arith) p.1)

pair_longer : (x y : Number) (t : List ℕ) → length t < length (spell_pair x y t)
unfolding spell_pair
pair_longer x y t = simp length-append (omega arith)

pub command_longer : (c : Spelled) (t : List ℕ) → length t < length (spell_command c t)
unfolding spell_command
command_longer (spelledM x y) t = let h = pair_longer x y t in omega arith
command_longer (spelledL x y) t = let h = pair_longer x y t in omega arith
command_longer (spelled_c a b c d x y) t =
    let h = pair_longer x y t in
    let g = pair_longer c d (spell_pair x y t) in
    let f = pair_longer a b (spell_pair c d (spell_pair x y t)) in omega arith

fewer_commands : (cs : List Spelled) → length cs ≤ length (spell_more cs)
unfolding spell_more
fewer_commands [] = omega arith
fewer_commands (c ∷ cs) = let h = fewer_commands cs in let g = command_longer c (spell_more cs) in omega arith

first_read : (x y : Number) (t : List ℕ) → named (spell_command (spelledM x y) t) ≡ then_rest (λ u. more (length u) u) (command (spell_command (spelledM x y) t))
unfolding named spell_command
first_read x y t = refl

-- Every text that is spelled so is read to what it names.
pub complete : SpelledIsRead
unfolding spell_text then_rest in_front
complete [] f p = unfold named in refl
complete (spelledL x y ∷ cs) f p = absurd f
complete (spelled_c a b c d x y ∷ cs) f p = absurd f
complete (spelledM x y ∷ cs) f p =
    let c = spelledM x y in
    first_read x y (spell_more cs) ∙ rw (command-read c p.0 (spell_more cs) (more-ends cs), more-read cs (length (spell_more cs)) (fewer_commands cs) p.1)
