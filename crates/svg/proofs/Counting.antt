-- The first walk over a text: what was counted so far and what the rest adds give the whole. Assumes nothing.
use Rattle.std.specs.Prelude.{if◌then◌else◌}
use Prim.Native.Nat.{ℕ, ◌+◌, ◌-◌, ◌≤◌, ◌<◌}
use mathlib.Core.Path.{◌≡◌, refl, sym, ap, ◌∙◌}
use mathlib.Core.Bool.{Bool, true, false, ◌&&◌}
use mathlib.Core.List.{List, [], ◌∷◌}
use native.Mathlib.Omega.{arith}
use borrow.Author.Tests.{eq-eqb, ne_eqb}
use lib.ListN.{length, get_or, take, drop}
use lib.Seq.{take_all}
use Rattle.geo.specs.declared.types.Command.{Command}
use Rattle.geo.specs.declared.types.Command.TheVariants.{Move, Line, Arc, Bezier}
use Rattle.geo.specs.Domain.{command_in}
use Rattle.geo.specs.Outcome.{Outcome, refused, gives}
use Rattle.svg.specs.declared.tally.Tally.{Tally}
use Rattle.svg_text.specs.Path.{Drawn, move, line, curve, Reading, broken, read, command, bad, in_front, then_rest, others, named}
use Rattle.svg_text.specs.Drawing.{drawn}
use Rattle.svg_text.proofs.Steps.{command_takes, others-none, others-some}
use Rattle.svg_items.specs.Readings.{mapped}
use Rattle.svg_items.proofs.Drawing.{Stroked, stroked, unread}
use Rattle.svg.specs.Course.{laps_drawn, all_in}
use Rattle.svg.specs.Tally.{tally_of}

-- ---- one command more
-- how many laps it opens
abbrev pub opens : Command → ℕ
opens (Move p) = 1
opens (Line p) = 0
opens (Arc p o n) = 0
opens (Bezier p c d) = 0

laps-more : (c : Drawn) (cs : List Drawn) (l : ℕ) → l + length (laps_drawn (c ∷ cs)) ≡ l + opens (drawn c) + length (laps_drawn cs)
unfolding laps_drawn drawn
laps-more (move x y) cs l = omega arith
laps-more (line x y) cs l = omega arith
laps-more (curve a b c d x y) cs l = omega arith

in_more : (b x y : Bool) → (b && (if x then y else false)) ≡ ((b && x) && y)
in_more true true y = refl
in_more true false y = refl
in_more false x y = refl

tally_front : (l n : ℕ) (b : Bool) (c : Drawn) (o : Outcome (List Drawn)) → tally_of l n b (in_front c o) ≡ tally_of (l + opens (drawn c)) (n + 1) (b && command_in (drawn c)) o
unfolding tally_of in_front all_in
tally_front l n b c (refused k) = refl
tally_front l n b c (gives cs) =
    let e : n + length (c ∷ cs) ≡ n + 1 + length cs = omega arith in
    rw (laps-more c cs l, e, in_more b (command_in (drawn c)) (all_in cs))

abbrev tally : ℕ → ℕ → Bool → Tally
tally l n b = record { laps = l; commands = n; inside = b }

counted : (l n : ℕ) (b : Bool) → tally_of l n b (gives []) ≡ gives (tally l n b)
unfolding tally_of laps_drawn all_in
counted l n true = let p : l + 0 ≡ l = omega arith in let q : n + 0 ≡ n = omega arith in rw (p, q)
counted l n false = let p : l + 0 ≡ l = omega arith in let q : n + 0 ≡ n = omega arith in rw (p, q)

pub at_most_one : (c : Command) → opens c ≤ 1
at_most_one (Move p) = omega arith
at_most_one (Line p) = omega arith
at_most_one (Arc p o n) = omega arith
at_most_one (Bezier p q r) = omega arith

pub opens_none : (c : Command) → ((p : _) → c ≡ Move p → ⊥) → opens c ≡ 0
opens_none (Move p) h = absurd (h p refl)
opens_none (Line p) h = refl
opens_none (Arc p o n) h = refl
opens_none (Bezier p q r) h = refl

-- ---- the loop: a command stands at the front of `rest`, and what it and the text behind it add to the counts gives the whole
pub record Counting (s rest : List ℕ) (laps commands : ℕ) (inside : Bool) : Type 0 where
  pub is : tally_of laps commands inside (then_rest others (command rest)) ≡ tally_of 0 0 true (named s)
  pub laps-few : laps ≤ commands
  pub few : commands + length rest ≤ length s

named_m : (b : ℕ) (t : List ℕ) → b ≡ 77 → named (b ∷ t) ≡ then_rest others (command (b ∷ t))
unfolding named
named_m b t e = rw e

named_other : (b : ℕ) (t : List ℕ) → (b ≡ 77 → ⊥) → named (b ∷ t) ≡ bad
unfolding named
named_other b t e = rw (ne_eqb b 77 e)

pub nothing-named : (s : List ℕ) → length s ≡ 0 → gives (tally 0 0 true) ≡ tally_of 0 0 true (named s)
unfolding named
nothing-named [] h = sym (counted 0 0 true)
nothing-named (b ∷ t) h = absurd (omega arith)

pub no_first_m : (s : List ℕ) → (length s ≡ 0 → ⊥) → (get_or s 0 0 ≡ 77 → ⊥) → refused 14 ≡ tally_of 0 0 true (named s)
unfolding tally_of
no_first_m [] h e = absurd (h refl)
no_first_m (b ∷ t) h e = sym (ap (tally_of 0 0 true) (named_other b t e))

pub counting_starts : (s : List ℕ) → (length s ≡ 0 → ⊥) → get_or s 0 0 ≡ 77 → Counting s s 0 0 true
counting_starts [] h e = absurd (h refl)
counting_starts (b ∷ t) h e = record { is = sym (ap (tally_of 0 0 true) (named_m b t e)); laps-few = omega arith; few = omega arith }

-- the text behind a byte, as it is sliced
pub behind-byte : (t : List ℕ) → (length t ≡ 0 → ⊥) → t ≡ get_or t 0 0 ∷ take (length t - 1) (drop 1 t)
behind-byte [] h = absurd (h refl)
behind-byte (b ∷ t) h = ap (λ (u : List ℕ). b ∷ u) (sym (take_all (length (b ∷ t) - 1) t (omega arith)))

pub nothing-behind : (t : List ℕ) → length t ≡ 0 → t ≡ []
nothing-behind [] h = refl
nothing-behind (b ∷ t) h = absurd (omega arith)

module _ {s rest : List ℕ} {laps commands : ℕ} {inside : Bool} (k : Counting s rest laps commands inside) where
  pub no_command-there : broken ≡ mapped drawn (command rest) → refused 14 ≡ tally_of 0 0 true (named s)
  unfolding tally_of then_rest
  no_command-there e = sym (ap (λ (r : Reading Drawn). tally_of laps commands inside (then_rest others r)) (unread (command rest) e)) ∙ k.is

  module _ (c : Command) (t : List ℕ) (e : read c t ≡ mapped drawn (command rest)) where
    there : Stroked (command rest) c t
    there = stroked (command rest) c t e

    one_more : tally_of (laps + opens c) (commands + 1) (inside && command_in c) (others t) ≡ tally_of 0 0 true (named s)
    unfolding then_rest
    one_more =
        ap (λ (x : Command). tally_of (laps + opens x) (commands + 1) (inside && command_in x) (others t)) there.is
        ∙ sym (tally_front laps commands inside there.named (others t))
        ∙ sym (ap (λ (r : Reading Drawn). tally_of laps commands inside (then_rest others r)) there.reads) ∙ k.is

    pub onward : length t < length rest
    onward = command_takes rest there.named t there.reads

    pub bad-behind : (length t ≡ 0 → ⊥) → (get_or t 0 0 ≡ 32 → ⊥) → refused 14 ≡ tally_of 0 0 true (named s)
    unfolding tally_of
    bad-behind n h =
        let z : others t ≡ bad = ap others (behind-byte t n) ∙ others-some (get_or t 0 0) (take (length t - 1) (drop 1 t)) ∙ rw (ne_eqb (get_or t 0 0) 32 h) in
        sym (ap (tally_of (laps + opens c) (commands + 1) (inside && command_in c)) z) ∙ one_more

    module _ (l : ℕ) (p : l ≡ laps + opens c) (a : Bool) (q : a ≡ (inside && command_in c)) where
      pub all-counted : length t ≡ 0 → gives (tally l (commands + 1) a) ≡ tally_of 0 0 true (named s)
      all-counted z =
          let o : others t ≡ gives [] = ap others (nothing-behind t z) ∙ others-none in
          rw (p, q) (sym (counted (laps + opens c) (commands + 1) (inside && command_in c)) ∙ sym (ap (tally_of (laps + opens c) (commands + 1) (inside && command_in c)) o) ∙ one_more)

      pub counting_goes-on : (length t ≡ 0 → ⊥) → get_or t 0 0 ≡ 32 → Counting s (take (length t - 1) (drop 1 t)) l (commands + 1) a
      counting_goes-on n h =
          let u = take (length t - 1) (drop 1 t) in
          let f = onward in
          let x = k.laps-few in
          let y = k.few in
          let w = at_most_one c in
          let d = ap length (behind-byte t n) in
          let z : others t ≡ then_rest others (command u) = ap others (behind-byte t n) ∙ others-some (get_or t 0 0) u ∙ rw (eq-eqb (get_or t 0 0) 32 h) in
          record {
            is = rw (p, q) (ap (tally_of (laps + opens c) (commands + 1) (inside && command_in c)) (sym z) ∙ one_more);
            laps-few = omega (arith, p);
            few = omega arith;
          }
