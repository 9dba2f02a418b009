-- The second walk over a text, in one lap: the commands that are left, written from here, give the whole lap. Assumes nothing.
use Rattle.std.specs.Prelude.{if◌then◌else◌}
use Prim.Native.Nat.{ℕ, ◌+◌, ◌-◌, ◌*◌, ◌≤◌, ◌<◌}
use mathlib.Core.Path.{◌≡◌, refl, sym, ap, ◌∙◌, subst}
use mathlib.Core.Bool.{Bool, true, false}
use mathlib.Core.List.{List, [], ◌∷◌, ◌++◌, map, append-nil, append_assoc, head-eq_of_cons-eq}
use native.Mathlib.Omega.{arith}
use borrow.Author.Tests.{eq-eqb, ne_eqb}
use denote.Bor.{Bor}
use lib.ListN.{length, get_or, take, drop, length-map}
use lib.Seq.{sets, length-sets}
use lib.Dec.{eqb}
use Rattle.geo.specs.declared.types.Command.{Command}
use Rattle.geo.specs.Outcome.{gives}
use Rattle.geo.proofs.Stores.{sets_append}
use Rattle.file.specs.Command.{enc}
use Rattle.file.proofs.Stores.{length_enc}
use Rattle.laps.specs.File.{body}
use Rattle.svg_text.specs.Path.{Drawn, move, line, curve, broken, read, space, letter_c, letter_l, letter_m, command, bad, then_rest, others}
use Rattle.svg_text.specs.Drawing.{drawn}
use Rattle.svg_text.specs.Spelling.{Number, spell, Spelled, spelledM, spelledL, spelled_c, spell_pair, spell_command, meaning}
use Rattle.svg_text.proofs.Spelled.{no_reading, no_text, value_of, rest_of, followed, command_means}
use Rattle.svg_text.proofs.Steps.{command_takes, others-none, others-some}
use Rattle.svg_items.specs.Readings.{mapped}
use Rattle.svg_items.proofs.Drawing.{Stroked, stroked, unread}
use Rattle.svg.specs.Course.{until_move, inked}
use Rattle.svg.specs.Laps.{named_from, from_move, LapFits, LapPut}
use Rattle.svg.proofs.Counting.{behind-byte, nothing-behind}

-- ---- what the text names from a command on
stands : (t : List ℕ) (c : Drawn) (cs : List Drawn) → named_from t ≡ gives (c ∷ cs) → then_rest others (command t) ≡ gives (c ∷ cs)
unfolding named_from
stands [] c cs e = let z : ◌≡◌ {A = ℕ} 0 1 = cc in absurd (omega arith)
stands (b ∷ t) c cs e = e

-- the command that is read there is the first, and the rest is what follows it
record FirstRead (u : List ℕ) (c : Command) (first : Drawn) (rest : List Drawn) : Type 0 where
  is : c ≡ drawn first
  then_names : others u ≡ gives rest

first_read : (t u : List ℕ) (c : Command) (first : Drawn) (rest : List Drawn) → named_from t ≡ gives (first ∷ rest)
    → Stroked (command t) c u → FirstRead u c first rest
first_read t u c first rest e j =
    let f = followed others (command t) (first ∷ rest) (stands t first rest e) in
    let w = sym j.reads ∙ f.was in
    let x : j.named ≡ first = value_of j.named f.c u f.here w ∙ head-eq_of_cons-eq f.all in
    let y : u ≡ f.here = rest_of j.named f.c u f.here w in
    let z : f.later ≡ rest = let a = f.all in cc in
    record { is = j.is ∙ ap drawn x; then_names = ap others y ∙ f.then_was ∙ ap gives z }

-- ---- what is behind a command is a tail of the text
pub record Tail (u t : List ℕ) : Type 0 where
  pub front : List ℕ
  pub split : t ≡ front ++ u

-- a tail's tail
tail_of : (u v t : List ℕ) → Tail v t → Tail u v → Tail u t
tail_of u v t e f = record { front = e.front ++ f.front; split = e.split ∙ ap (λ (w : List ℕ). e.front ++ w) f.split ∙ sym (append_assoc e.front f.front u) }

tail_behind : (p v u : List ℕ) → Tail u v → Tail u (p ++ v)
tail_behind p v u f = tail_of u v (p ++ v) (record { front = p; split = refl }) f

pair_tail : (x y : Number) (v u : List ℕ) → Tail u v → Tail u (spell_pair x y v)
unfolding spell_pair
pair_tail x y v u f =
    tail_behind (space ∷ []) (spell x ++ (space ∷ (spell y ++ v))) u
    (tail_behind (spell x) (space ∷ (spell y ++ v)) u
    (tail_behind (space ∷ []) (spell y ++ v) u
    (tail_behind (spell y) v u f)))

command_tail : (k : Spelled) (u : List ℕ) → Tail u (spell_command k u)
unfolding spell_command
command_tail (spelledM x y) u = tail_behind (letter_m ∷ []) (spell_pair x y u) u (pair_tail x y u u (record { front = []; split = refl }))
command_tail (spelledL x y) u = tail_behind (letter_l ∷ []) (spell_pair x y u) u (pair_tail x y u u (record { front = []; split = refl }))
command_tail (spelled_c p q r s x y) u =
    tail_behind (letter_c ∷ []) (spell_pair p q (spell_pair r s (spell_pair x y u))) u
    (pair_tail p q (spell_pair r s (spell_pair x y u)) u (pair_tail r s (spell_pair x y u) u (pair_tail x y u u (record { front = []; split = refl }))))

read_tail : (t : List ℕ) (c : Drawn) (u : List ℕ) → command t ≡ read c u → Tail u t
read_tail t c u e = let m = command_means t c u e in subst (Tail u) m.text (command_tail m.spelling u)

-- ---- which letter opens a lap
abbrev is_move : Drawn → Bool
is_move (move x y) = true
is_move (line x y) = false
is_move (curve a b c d x y) = false

letter_told : (b : ℕ) (t u : List ℕ) (k : Spelled) (c : Drawn) → spell_command k u ≡ b ∷ t → meaning k ≡ c → eqb b letter_m ≡ is_move c
unfolding spell_command meaning
letter_told b t u (spelledM x y) c e w = rw (sym (head-eq_of_cons-eq e)) (ap is_move w)
letter_told b t u (spelledL x y) c e w = rw (sym (head-eq_of_cons-eq e)) (ap is_move w)
letter_told b t u (spelled_c p q r s x y) c e w = rw (sym (head-eq_of_cons-eq e)) (ap is_move w)

-- another command is due behind a command
record Coming (t : List ℕ) (rest : List Drawn) : Type 0 where
  second : Drawn
  later : List Drawn
  are : rest ≡ second ∷ later
  names : named_from t ≡ gives (second ∷ later)
  some : 0 < length t
  letter : eqb (get_or t 0 0) letter_m ≡ is_move second

due : (b : ℕ) (t : List ℕ) (rest : List Drawn) → others (b ∷ t) ≡ gives rest → then_rest others (command t) ≡ gives rest
due b t rest e = go (eqb b space) (sym (others-some b t) ∙ e)
  where
    go : (x : Bool) → (if x then then_rest others (command t) else bad) ≡ gives rest → then_rest others (command t) ≡ gives rest
    go true h = h
    go false h = no_text 14 rest h

coming : (t : List ℕ) (rest : List Drawn) → then_rest others (command t) ≡ gives rest → Coming t rest
unfolding named_from command
coming [] rest e = let f = followed others (command []) rest e in no_reading f.c f.here f.was
coming (b ∷ t) rest e =
    let f = followed others (command (b ∷ t)) rest e in
    let m = command_means (b ∷ t) f.c f.here f.was in
    record {
      second = f.c;
      later = f.later;
      are = sym f.all;
      names = e ∙ ap gives (sym f.all);
      some = omega arith;
      letter = letter_told b t f.here m.spelling f.c m.text m.worth;
    }

-- ---- the lap that a command opens, and what follows it
lap-goes-on : (c d : Drawn) (cs : List Drawn) → is_move d ≡ false → (map inked (c ∷ until_move (d ∷ cs)) ≡ inked c ∷ map inked (d ∷ until_move cs)) × (from_move (d ∷ cs) ≡ from_move cs)
unfolding until_move from_move
lap-goes-on c (move x y) cs e = let z : ◌≡◌ {A = ℕ} 0 1 = cc in absurd (omega arith)
lap-goes-on c (line x y) cs e = (refl, refl)
lap-goes-on c (curve p q r s x y) cs e = (refl, refl)

lap-ends : (c d : Drawn) (cs : List Drawn) → is_move d ≡ true → (map inked (c ∷ until_move (d ∷ cs)) ≡ inked c ∷ []) × (from_move (d ∷ cs) ≡ d ∷ cs)
unfolding until_move from_move
lap-ends c (move x y) cs e = (refl, refl)
lap-ends c (line x y) cs e = let z : ◌≡◌ {A = ℕ} 0 1 = cc in absurd (omega arith)
lap-ends c (curve p q r s x y) cs e = let z : ◌≡◌ {A = ℕ} 0 1 = cc in absurd (omega arith)

-- ---- the loop over a lap's commands: what is left, written from here, gives the whole lap
pub record Lapping (s out₀ out : List ℕ) (to : ℕ) (t : List ℕ) (commands : ℕ) : Type 0 where
  pub first₀ : Drawn
  pub rest₀ : List Drawn
  pub names₀ : named_from s ≡ gives (first₀ ∷ rest₀)
  pub first : Drawn
  pub rest : List Drawn
  pub names : named_from t ≡ gives (first ∷ rest)
  pub tail : Tail t s
  pub same : length out ≡ length out₀
  pub work : sets out (to + 73 * commands) (body (map inked (first ∷ until_move rest))) ≡ sets out₀ to (body (map inked (first₀ ∷ until_move rest₀)))
  pub count : commands + length (map inked (first ∷ until_move rest)) ≡ length (map inked (first₀ ∷ until_move rest₀))
  pub goes : from_move rest ≡ from_move rest₀
  pub room : to + 73 * (commands + length (map inked (first ∷ until_move rest))) ≤ length out₀

pub lapping_starts : (s out : List ℕ) (to : ℕ) → LapFits s to (length out) → Lapping s out out to s 0
lapping_starts s out to f =
    let e : to + 73 * 0 ≡ to = omega arith in
    record {
      first₀ = f.first;
      rest₀ = f.rest;
      names₀ = f.names;
      first = f.first;
      rest = f.rest;
      names = f.names;
      tail = record { front = []; split = refl };
      same = refl;
      work = rw e;
      count = omega arith;
      goes = refl;
      room = let r = f.room in let m = length-map (until_move f.rest) inked in omega (arith, m);
    }

module _ {s out₀ out : List ℕ} {to : ℕ} {t : List ℕ} {commands : ℕ} (k : Lapping s out₀ out to t commands) where
  pub command-there : {X : Type 0} → broken ≡ mapped drawn (command t) → X
  command-there e =
      let f = followed others (command t) (k.first ∷ k.rest) (stands t k.first k.rest k.names) in
      no_reading f.c f.here (sym (unread (command t) e) ∙ f.was)

  pub room-there : to + 73 * commands + 73 ≤ length out
  room-there = let r = k.room in let e = k.same in omega arith

  module _ (c : Command) (u : List ℕ) (e : read c u ≡ mapped drawn (command t)) where
    there : Stroked (command t) c u
    there = stroked (command t) c u e

    reads_first : FirstRead u c k.first k.rest
    reads_first = first_read t u c k.first k.rest k.names there

    tail_read : Tail u s
    tail_read = tail_of u t s k.tail (read_tail t there.named u there.reads)

    pub further : length u < length t
    further = command_takes t there.named u there.reads

    module _ (out₁ : List ℕ) (w : out₁ ≡ sets out (to + 73 * commands) (enc c)) where
      written : out₁ ≡ sets out (to + 73 * commands) (inked k.first)
      written = w ∙ ap (λ (x : Command). sets out (to + 73 * commands) (enc x)) reads_first.is

      -- the command was the lap's last
      closed : map inked (k.first ∷ until_move k.rest) ≡ inked k.first ∷ [] → (b : Bor (List ℕ)) → named_from b.now ≡ gives (from_move k.rest) → Tail b.now s
          → LapPut s out₀ out₁ to (record { commands = commands + 1; rest = b })
      unfolding body
      closed e b g j =
          let m = length-map (until_move k.rest₀) inked in
          let l = ap length e in
          let q = k.count in
          record {
            first = k.first₀;
            rest = k.rest₀;
            names = k.names₀;
            count = omega (arith, m, l, q);
            bytes = written ∙ ap (sets out (to + 73 * commands)) (sym (ap body e ∙ append-nil (inked k.first))) ∙ k.work;
            goes = g ∙ ap gives k.goes;
            front = j.front;
            tail = j.split;
          }

      pub text-ends : length u ≡ 0 → (b : Bor (List ℕ)) → b.now ≡ u → LapPut s out₀ out₁ to (record { commands = commands + 1; rest = b })
      text-ends h b r =
          let n = nothing-behind u h in
          let none : gives [] ≡ gives k.rest = sym others-none ∙ sym (ap others n) ∙ reads_first.then_names in
          let z : [] ≡ k.rest = cc in
          closed (rw (sym z) last) b (rw (r, n, sym z) nothing) (subst (λ (w : List ℕ). Tail w s) (sym r) tail_read)
        where
          last : map inked (k.first ∷ until_move []) ≡ inked k.first ∷ []
          last = unfold until_move in refl

          nothing : named_from [] ≡ gives (from_move [])
          nothing = unfold named_from in unfold from_move in refl

      module _ (more : length u ≡ 0 → ⊥) (v : List ℕ) (vs : v ≡ take (length u - 1) (drop 1 u)) where
        then_comes : Coming v k.rest
        then_comes = coming v k.rest (due (get_or u 0 0) v k.rest (sym (ap others (behind-byte u more ∙ ap (λ (w : List ℕ). get_or u 0 0 ∷ w) (sym vs))) ∙ reads_first.then_names))

        tail_on : Tail v s
        tail_on = tail_of v u s tail_read (record { front = get_or u 0 0 ∷ []; split = behind-byte u more ∙ ap (λ (w : List ℕ). get_or u 0 0 ∷ w) (sym vs) })

        pub read-on : 0 < length v
        read-on = then_comes.some

        pub lap-closed : get_or v 0 0 ≡ 77 → (b : Bor (List ℕ)) → b.now ≡ v → LapPut s out₀ out₁ to (record { commands = commands + 1; rest = b })
        lap-closed e b r =
            let d = then_comes in
            let m : is_move d.second ≡ true = sym d.letter ∙ eq-eqb (get_or v 0 0) 77 e in
            let q = lap-ends k.first d.second d.later m in
            closed (rw d.are q.0) b (rw r d.names ∙ ap gives (sym (ap from_move d.are ∙ q.1))) (subst (λ (w : List ℕ). Tail w s) (sym r) tail_on)

        pub lapping_goes-on : (get_or v 0 0 ≡ 77 → ⊥) → Lapping s out₀ out₁ to v (commands + 1)
        unfolding body
        lapping_goes-on e =
            let d = then_comes in
            let m : is_move d.second ≡ false = sym d.letter ∙ ne_eqb (get_or v 0 0) 77 e in
            let q = lap-goes-on k.first d.second d.later m in
            let l : map inked (k.first ∷ until_move k.rest) ≡ inked k.first ∷ map inked (d.second ∷ until_move d.later) = ap (λ (cs : List Drawn). map inked (k.first ∷ until_move cs)) d.are ∙ q.0 in
            let n = ap length l in
            let x = k.count in
            let y = k.room in
            let b = to + 73 * commands in
            let w : b + length (inked k.first) ≡ to + 73 * (commands + 1) = ap (λ (z : ℕ). b + z) (length_enc (drawn k.first)) ∙ step to commands in
            record {
              first₀ = k.first₀;
              rest₀ = k.rest₀;
              names₀ = k.names₀;
              first = d.second;
              rest = d.later;
              names = d.names;
              tail = tail_on;
              same = ap length written ∙ length-sets out b (inked k.first) ∙ k.same;
              work =
                  ap (λ (o : List ℕ). sets o (to + 73 * (commands + 1)) (body (map inked (d.second ∷ until_move d.later)))) written
                  ∙ sym (sets_append (inked k.first) (body (map inked (d.second ∷ until_move d.later))) out b ∙ ap (λ (z : ℕ). sets (sets out b (inked k.first)) z (body (map inked (d.second ∷ until_move d.later)))) w)
                  ∙ sym (ap (λ (z : List (List ℕ)). sets out b (body z)) l) ∙ k.work;
              count = omega (arith, n, x);
              goes = sym (ap from_move d.are ∙ q.1) ∙ k.goes;
              room = omega (arith, n, y);
            }
          where
            step : (to commands : ℕ) → to + 73 * commands + 73 ≡ to + 73 * (commands + 1)
            step to commands = omega arith
