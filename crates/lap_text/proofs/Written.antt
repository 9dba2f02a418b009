-- Texts written one behind the other, and a line's. Assumes nothing.
use Prim.Native.Nat.{ℕ, suc, ◌+◌, ◌-◌, ◌*◌, ◌≤◌, ◌<◌}
use mathlib.Core.Path.{◌≡◌, refl, sym, ap, ◌∙◌}
use mathlib.Core.List.{List, [], ◌∷◌, ◌++◌, append_assoc, append-nil}
use native.Mathlib.Omega.{arith}
use lib.ListN.{length, set, take, drop, length-append, length-drop, drop_of_length-le}
use lib.Seq.{sets, length-sets, sets-eq, take_all, drop-drop}
use Rattle.geo.specs.Lent.{flat}
use Rattle.geo.specs.Walk.{list_from}
use Rattle.geo.proofs.Stores.{sets_append, sets_front}
use Rattle.listing.specs.Rows.{ListRow, letter_of, steps_in, sum_of}
use Rattle.lap_text.specs.Text.{ascii, decimal, refusal_text, total_text, comma, newline, row_text, rows_text}
use Rattle.lap_text.specs.Left.{TextPut, listed}
use Rattle.lap_text.proofs.Decimal.{below_100, below_1000}

-- a text, and another behind it
pub put_both : (xs ys out out₁ out₂ : List ℕ) (at mid end : ℕ) → TextPut xs out out₁ at mid → TextPut ys out₁ out₂ mid end → TextPut (xs ++ ys) out out₂ at end
put_both xs ys out out₁ out₂ at mid end a b =
    let p = a.ends in
    let q = b.ends in
    let l = length-append xs ys in
    record { ends = omega arith; bytes = b.bytes ∙ rw (a.bytes, p) (sym (sets_append xs ys out at)) }

pub put_length : (text out out' : List ℕ) (at end : ℕ) → TextPut text out out' at end → length out' ≡ length out
put_length text out out' at end p = ap length p.bytes ∙ length-sets out at text

-- a text written under another name
pub put_same : (xs ys out out' : List ℕ) (at end : ℕ) → xs ≡ ys → TextPut xs out out' at end → TextPut ys out out' at end
put_same xs ys out out' at end e p = record { ends = p.ends ∙ ap (λ (l : List ℕ). at + length l) e; bytes = p.bytes ∙ ap (sets out at) e }

-- bytes stored one by one
pub put_one : (out : List ℕ) (at x : ℕ) → TextPut (x ∷ []) out (set out at x) at (at + 1)
put_one out at x = record { ends = refl; bytes = refl }

pub put_two : (out : List ℕ) (at x y : ℕ) → TextPut (x ∷ y ∷ []) out (set (set out at x) (at + 1) y) at (at + 2)
put_two out at x y = let e : at + 1 ≡ suc at = omega arith in record { ends = refl; bytes = rw e }

pub put_three : (out : List ℕ) (at x y z : ℕ) → TextPut (x ∷ y ∷ z ∷ []) out (set (set (set out at x) (at + 1) y) (at + 2) z) at (at + 3)
put_three out at x y z =
    let e : at + 1 ≡ suc at = omega arith in
    let f : at + 2 ≡ suc (suc at) = omega arith in
    record { ends = refl; bytes = rw (e, f) }

-- ---- a line
-- the lap's digits, the letter between commas, the steps' digits, the line's end
pub put-line : (out out₁ out₂ : List ℕ) (at a b lap kind steps letter : ℕ) → TextPut (decimal lap) out out₁ at a → letter ≡ letter_of kind
    → TextPut (decimal steps) (set (set (set out₁ a comma) (a + 1) letter) (a + 2) comma) out₂ (a + 3) b
    → TextPut (row_text lap (listed kind steps)) out (set out₂ b newline) at (b + 1)
unfolding row_text
put-line out out₁ out₂ at a b lap kind steps letter p e q =
    let between : List ℕ = comma ∷ letter_of kind ∷ comma ∷ [] in
    let m : TextPut between out₁ (set (set (set out₁ a comma) (a + 1) letter) (a + 2) comma) a (a + 3) = rw e (put_three out₁ a comma (letter_of kind) comma) in
    put_both (decimal lap ++ between ++ decimal steps) (newline ∷ []) out out₂ _ at b (b + 1)
    (put_both (decimal lap ++ between) (decimal steps) out _ out₂ at (a + 3) b (put_both (decimal lap) between out out₁ _ at a (a + 3) p m) q)
    (put_one out₂ b newline)

-- it has at most nine bytes
pub line_length : (lap : ℕ) (r : ListRow) → lap < 100 → r.steps < 1000 → length (row_text lap r) ≤ 9
unfolding row_text
line_length lap r h k =
    let a = below_100 lap h in
    let b = below_1000 r.steps k in
    simp length-append (omega arith)

pub lines_length : (lap : ℕ) (rs : List ListRow) → lap < 100 → sum_of (steps_in rs) < 1000 → length (rows_text lap rs) ≤ 9 * length rs
unfolding rows_text flat sum_of steps_in
lines_length lap [] h w = omega arith
lines_length lap (r ∷ rs) h w =
    let a = line_length lap r h (omega arith) in
    let b = lines_length lap rs h (omega arith) in
    let l = length-append (row_text lap r) (rows_text lap rs) in omega arith

-- ---- the line of a refusal
refused-word : length (ascii "refused,") ≡ 8
unfolding ascii list_from
refused-word = refl

pub put_refused : (out out₁ out₂ : List ℕ) (n at end : ℕ) → at ≡ 8 → 8 ≤ length out → out₁ ≡ ascii "refused," ++ drop 8 out → TextPut (decimal n) out₁ out₂ at end
    → TextPut (refusal_text n) out (set out₂ end newline) 0 (end + 1)
unfolding refusal_text
put_refused out out₁ out₂ n at end e h o p =
    let d = refused-word in
    let front : out₁ ≡ sets out 0 (ascii "refused,") = o ∙ sym (sets_front (ascii "refused,") out (omega arith) ∙ ap (λ (k : ℕ). ascii "refused," ++ drop k out) d) in
    put_both (ascii "refused," ++ decimal n) (newline ∷ []) out out₂ _ 0 end (end + 1)
    (put_both (ascii "refused,") (decimal n) out out₁ out₂ 0 at end (record { ends = omega arith; bytes = front }) p) (put_one out₂ end newline)

-- it has at most twelve bytes
pub refused_length : (n : ℕ) → n < 1000 → length (refusal_text n) ≤ 12
unfolding refusal_text
refused_length n h =
    let a = refused-word in
    let b = below_1000 n h in simp length-append (omega arith)

-- ---- the last line
total_word : length (ascii "total,") ≡ 6
unfolding ascii list_from
total_word = refl

-- it has at most ten bytes
pub total_length : (n : ℕ) → n < 1000 → length (total_text n) ≤ 10
unfolding total_text
total_length n h =
    let a = total_word in
    let b = below_1000 n h in simp length-append (omega arith)

-- the word, copied to the front of the part that reaches from place `at` to the output's end
pub put_word : (out part : List ℕ) (at n : ℕ) → at + 6 ≤ length out → n ≡ 6 → part ≡ ascii "total," ++ drop 6 (take (length out - at) (drop at out))
    → TextPut (ascii "total,") out (take at out ++ (part ++ drop (length out - at) (drop at out))) at (at + n)
put_word out part at n h e p =
    let d = total_word in
    let l = length-drop at out in
    let all = take_all (length out - at) (drop at out) (omega arith) in
    let none = drop_of_length-le (drop at out) {i = length out - at} (omega arith) in
    let rest : drop 6 (drop at out) ≡ drop (at + length (ascii "total,")) out = rw d (drop-drop 6 at out) in
    record { ends = omega arith; bytes = rw (p, all, none, rest, append-nil (ascii "total," ++ drop (at + length (ascii "total,")) out)) (sym (sets-eq (ascii "total,") out at (omega arith) ∙ append_assoc (take at out) (ascii "total,") (drop (at + length (ascii "total,")) out))) }

pub put_total : (out out₁ out₂ : List ℕ) (n at a end : ℕ) → TextPut (ascii "total,") out out₁ at a → TextPut (decimal n) out₁ out₂ a end
    → TextPut (total_text n) out (set out₂ end newline) at (end + 1)
unfolding total_text
put_total out out₁ out₂ n at a end w p =
    put_both (ascii "total," ++ decimal n) (newline ∷ []) out out₂ _ at end (end + 1) (put_both (ascii "total,") (decimal n) out out₁ out₂ at a end w p) (put_one out₂ end newline)

-- ---- a loop that writes a text: `left` of it is left, to be written from `to` on
pub record Writing (out₀ out : List ℕ) (at to : ℕ) (left all : List ℕ) : Type 0 where
  pub same : length out ≡ length out₀
  pub work : sets out to left ≡ sets out₀ at all
  pub ends : to + length left ≡ at + length all

pub write_start : (out : List ℕ) (at : ℕ) (left all : List ℕ) → left ≡ all → Writing out out at at left all
write_start out at left all e = rw e (record { same = refl; work = refl; ends = refl })

pub write_step : (out₀ out out' : List ℕ) (at to to' : ℕ) (text next left all : List ℕ) → left ≡ text ++ next → TextPut text out out' to to'
    → Writing out₀ out at to left all → Writing out₀ out' at to' next all
write_step out₀ out out' at to to' text next left all e p w =
    let a = p.ends in
    let b = w.ends in
    let l = ap length e ∙ length-append text next in
    record {
      same = put_length text out out' to to' p ∙ w.same;
      work = rw (p.bytes, a) (sym (sets_append text next out to)) ∙ sym (ap (sets out to) e) ∙ w.work;
      ends = omega arith;
    }

pub write_done : (out₀ out : List ℕ) (at to : ℕ) (left all : List ℕ) → left ≡ [] → Writing out₀ out at to left all → TextPut all out₀ out at to
write_done out₀ out at to left all e w =
    let a = w.ends in
    let l = ap length e in
    record { ends = omega arith; bytes = sym (ap (sets out to) e) ∙ w.work }
