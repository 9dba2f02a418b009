-- Every text that is read is spelled by the grammar. Assumes nothing.
use Rattle.std.specs.Prelude.{if◌then◌else◌}
use Prim.Native.Nat.{ℕ, zero, suc, ◌+◌, ◌-◌, ◌*◌, ◌^◌, ◌≤◌, ◌<◌}
use mathlib.Core.Path.{◌≡◌, refl, sym, ap, ◌∙◌, subst}
use mathlib.Core.Bool.{Bool, true, false, ◌&&◌}
use mathlib.Core.List.{List, [], ◌∷◌, ◌++◌, map, append_assoc}
use native.Mathlib.Omega.{arith}
use borrow.Author.Tests.{eqb-true, eqb-false, leb-true}
use lib.ListN.{length}
use lib.Dec.{eqb, leb}
use lib.IntN.{ℤ, pos}
use Rattle.geo.specs.Outcome.{Outcome, refused, gives}
use Rattle.svg_text.specs.Path.{Drawn, move, line, curve, Reading, broken, read, and_then, space, hyphen, full_stop, nought, nine, letter_c, letter_l, letter_m, is_digit, Digits, digits, in_thousandths, decimals, units, unsigned, signed, negative, number, spaced, pair_of, command, bad, in_front, then_rest, more, others, named}
use Rattle.svg_text.specs.Spelling.{Number, Figures, Fine, sign, shown, behind, spell, value, thousandths, with_sign, meant, Spelled, spelledM, spelledL, spelled_c, Proper, spell_pair, spell_command, meaning, spell_more, spell_text, All, FirstM, Spells, ReadIsSpelled}

-- ---- what is broken was not read
pub no_reading : {A X : Type 0} (a : A) (t : List ℕ) → broken ≡ read a t → X
no_reading a t e = let z : ◌≡◌ {A = ℕ} 0 1 = cc in absurd (omega arith)

pub no_text : {X : Type 0} (n : ℕ) (cs : List Drawn) → ◌≡◌ {A = Outcome (List Drawn)} (refused n) (gives cs) → X
no_text n cs e = let z : ◌≡◌ {A = ℕ} 0 1 = cc in absurd (omega arith)

pub value_of : {A : Type 0} (a b : A) (t u : List ℕ) → read a t ≡ read b u → a ≡ b
value_of a b t u e = cc

pub rest_of : {A : Type 0} (a b : A) (t u : List ℕ) → read a t ≡ read b u → t ≡ u
rest_of a b t u e = cc

-- one reading behind another: what the first one read
pub record Between {A B : Type 0} (r : Reading A) (next : A → List ℕ → Reading B) (b : B) (w : List ℕ) : Type 0 where
  pub first : A
  pub here : List ℕ
  pub was : r ≡ read first here
  pub then_was : next first here ≡ read b w

pub between : {A B : Type 0} (r : Reading A) (next : A → List ℕ → Reading B) (b : B) (w : List ℕ) → and_then r next ≡ read b w → Between r next b w
unfolding and_then
between broken next b w e = no_reading b w e
between (read a t) next b w e = record { first = a; here = t; was = refl; then_was = e }

-- ---- digits
record Seen (v n : ℕ) (t : List ℕ) (d : Digits) : Type 0 where
  ds : List ℕ
  figures : Figures ds
  text : shown ds ++ d.rest ≡ t
  worth : value v ds ≡ d.value
  count : length ds + d.room ≡ n

pub digit_byte : (b : ℕ) → is_digit b ≡ true → (b - nought < 10) × (nought + (b - nought) ≡ b)
digit_byte b e = go (leb nought b) (leb b nine) refl refl e
  where
    go : (x y : Bool) → leb nought b ≡ x → leb b nine ≡ y → (x && y) ≡ true → (b - nought < 10) × (nought + (b - nought) ≡ b)
    go true true p q h = let l = leb-true nought b p in let m = leb-true b nine q in (omega arith, omega arith)
    go true false p q h = let z : ◌≡◌ {A = ℕ} 0 1 = cc in absurd (omega arith)
    go false y p q h = let z : ◌≡◌ {A = ℕ} 0 1 = cc in absurd (omega arith)

digits_seen : (v n : ℕ) (t : List ℕ) → Seen v n t (digits v n t)
unfolding digits value
digits_seen v zero t = record { ds = []; figures = tt; text = refl; worth = refl; count = refl }
digits_seen v (suc n) [] = record { ds = []; figures = tt; text = refl; worth = refl; count = omega arith }
digits_seen v (suc n) (b ∷ t) = go (is_digit b) refl (digits_seen (10 * v + (b - nought)) n t)
  where
    go : (x : Bool) → is_digit b ≡ x → Seen (10 * v + (b - nought)) n t (digits (10 * v + (b - nought)) n t)
        → Seen v (suc n) (b ∷ t) (if x then digits (10 * v + (b - nought)) n t else record { value = v; room = suc n; rest = b ∷ t })
    go true e s =
        let q = digit_byte b e in
        let c = s.count in
        record {
          ds = (b - nought) ∷ s.ds;
          figures = (q.0, s.figures);
          text = rw (q.1, s.text);
          worth = s.worth;
          count = omega arith;
        }
    go false e s = record { ds = []; figures = tt; text = refl; worth = refl; count = omega arith }

-- ---- numbers without a sign
record Known (t : List ℕ) (m : ℕ) (u : List ℕ) : Type 0 where
  whole : List ℕ
  decs : List ℕ
  figures : Figures whole
  some : 1 ≤ length whole
  most : length whole ≤ 7
  figures-behind : Figures decs
  most-behind : length decs ≤ 3
  text : shown whole ++ (behind decs ++ u) ≡ t
  worth : value (value 0 whole) decs * 10 ^ (3 - length decs) ≡ m

-- the part behind the digits ws
record Tail (v : ℕ) (t : List ℕ) (m : ℕ) (u : List ℕ) : Type 0 where
  decs : List ℕ
  figures : Figures decs
  most : length decs ≤ 3
  text : behind decs ++ u ≡ t
  worth : value v decs * 10 ^ (3 - length decs) ≡ m

tail_none : (v m : ℕ) (t u : List ℕ) → read (v * 1000) t ≡ read m u → Tail v t m u
unfolding value
tail_none v m t u e = record { decs = []; figures = tt; most = omega arith; text = sym (rest_of (v * 1000) m t u e); worth = value_of (v * 1000) m t u e }

behind-some : (ds u : List ℕ) → 1 ≤ length ds → behind ds ++ u ≡ full_stop ∷ (shown ds ++ u)
behind-some [] u h = absurd (omega arith)
behind-some (d ∷ ds) u h = refl

tail_some : (v m : ℕ) (t u : List ℕ) (d : Digits) → Seen v 3 t d → in_thousandths d ≡ read m u → Tail v (full_stop ∷ t) m u
unfolding in_thousandths
tail_some v m t u d s e = go (eqb d.room 3) refl e
  where
    go : (x : Bool) → eqb d.room 3 ≡ x → (if x then broken else read (d.value * 10 ^ d.room) d.rest) ≡ read m u → Tail v (full_stop ∷ t) m u
    go true p h = no_reading m u h
    go false p h =
        let c = s.count in
        let n = eqb-false d.room 3 p in
        let k : 3 - length s.ds ≡ d.room = omega arith in
        let l : 1 ≤ length s.ds = omega arith in
        record {
          decs = s.ds;
          figures = s.figures;
          most = omega arith;
          text = behind-some s.ds u l ∙ ap (λ (w : List ℕ). full_stop ∷ (shown s.ds ++ w)) (sym (rest_of (d.value * 10 ^ d.room) m d.rest u h)) ∙ ap (λ (w : List ℕ). full_stop ∷ w) s.text;
          worth = rw (k, s.worth) (value_of (d.value * 10 ^ d.room) m d.rest u h);
        }

tail_known : (v m : ℕ) (t u : List ℕ) → decimals v t ≡ read m u → Tail v t m u
unfolding decimals
tail_known v m [] u e = tail_none v m [] u e
tail_known v m (b ∷ t) u e = go (eqb b full_stop) refl e
  where
    go : (x : Bool) → eqb b full_stop ≡ x → (if x then in_thousandths (digits v 3 t) else read (v * 1000) (b ∷ t)) ≡ read m u → Tail v (b ∷ t) m u
    go true p h = rw (eqb-true b full_stop p) (tail_some v m t u (digits v 3 t) (digits_seen v 3 t) h)
    go false p h = tail_none v m (b ∷ t) u h

unsigned_known : (t : List ℕ) (m : ℕ) (u : List ℕ) → unsigned t ≡ read m u → Known t m u
unfolding unsigned units
unsigned_known t m u e = go (eqb (digits 0 7 t).room 7) refl e
  where
    go : (x : Bool) → eqb (digits 0 7 t).room 7 ≡ x → (if x then broken else decimals (digits 0 7 t).value (digits 0 7 t).rest) ≡ read m u → Known t m u
    go true p h = no_reading m u h
    go false p h =
        let s = digits_seen 0 7 t in
        let c = s.count in
        let n = eqb-false (digits 0 7 t).room 7 p in
        let l = tail_known (digits 0 7 t).value m (digits 0 7 t).rest u h in
        record {
          whole = s.ds;
          decs = l.decs;
          figures = s.figures;
          some = omega arith;
          most = omega arith;
          figures-behind = l.figures;
          most-behind = l.most;
          text = rw l.text s.text;
          worth = rw s.worth l.worth;
        }

-- ---- numbers
pub record Means (t : List ℕ) (z : ℤ) (u : List ℕ) : Type 0 where
  pub spelling : Number
  pub fine : Fine spelling
  pub text : spell spelling ++ u ≡ t
  pub worth : meant spelling ≡ z

means : (minus : Bool) (t : List ℕ) (m : ℕ) (u : List ℕ) → Known t m u → Means (sign minus ++ t) (with_sign minus m) u
unfolding spell meant thousandths
means minus t m u k =
    record {
      spelling = record { minus = minus; whole = k.whole; decimals = k.decs };
      fine = record { figures = k.figures; some = k.some; most = k.most; figures-behind = k.figures-behind; most-behind = k.most-behind };
      text =
          append_assoc (sign minus) (shown k.whole ++ behind k.decs) u
          ∙ ap (λ (l : List ℕ). sign minus ++ l) (append_assoc (shown k.whole) (behind k.decs) u ∙ k.text);
      worth = ap (with_sign minus) k.worth;
    }

signed_means : (minus : Bool) (t : List ℕ) (z : ℤ) (u : List ℕ) (r : Reading ℕ) → unsigned t ≡ r → signed (with_sign minus) r ≡ read z u → Means (sign minus ++ t) z u
unfolding signed
signed_means minus t z u broken p e = no_reading z u e
signed_means minus t z u (read m w) p e =
    let k = means minus t m w (unsigned_known t m w p) in
    subst (λ (y : ℤ). Means (sign minus ++ t) y u) (value_of (with_sign minus m) z w u e)
    (subst (λ (y : List ℕ). Means (sign minus ++ t) (with_sign minus m) y) (rest_of (with_sign minus m) z w u e) k)

number_means : (t : List ℕ) (z : ℤ) (u : List ℕ) → number t ≡ read z u → Means t z u
unfolding number
number_means [] z u e = no_reading z u e
number_means (b ∷ t) z u e = go (eqb b hyphen) refl e
  where
    go : (x : Bool) → eqb b hyphen ≡ x → (if x then signed negative (unsigned t) else signed pos (unsigned (b ∷ t))) ≡ read z u → Means (b ∷ t) z u
    go true p h = rw (eqb-true b hyphen p) (signed_means true t z u (unsigned t) refl h)
    go false p h = signed_means false (b ∷ t) z u (unsigned (b ∷ t)) refl h

spaced_means : (t : List ℕ) (z : ℤ) (u : List ℕ) → spaced t ≡ read z u → (w : List ℕ) × (t ≡ space ∷ w) × Means w z u
unfolding spaced
spaced_means [] z u e = no_reading z u e
spaced_means (b ∷ t) z u e = go (eqb b space) refl e
  where
    go : (x : Bool) → eqb b space ≡ x → (if x then number t else broken) ≡ read z u → (w : List ℕ) × (b ∷ t ≡ space ∷ w) × Means w z u
    go true p h = (t, rw (eqb-true b space p), number_means t z u h)
    go false p h = no_reading z u h

-- ---- points
record Paired {A : Type 0} (make : ℤ → ℤ → A) (t : List ℕ) (a : A) (u : List ℕ) : Type 0 where
  x : Number
  y : Number
  fine_x : Fine x
  fine_y : Fine y
  text : spell_pair x y u ≡ t
  worth : make (meant x) (meant y) ≡ a

pair_means : {A : Type 0} (make : ℤ → ℤ → A) (t : List ℕ) (a : A) (u : List ℕ) → pair_of make t ≡ read a u → Paired make t a u
unfolding pair_of spell_pair
pair_means make t a u e =
    let f = between (spaced t) (λ x u. and_then (spaced u) (λ y w. read (make x y) w)) a u e in
    let g = between (spaced f.here) (λ y w. read (make f.first y) w) a u f.then_was in
    let p = spaced_means t f.first f.here f.was in
    let q = spaced_means f.here g.first g.here g.was in
    let m = p.2 in
    let n = q.2 in
    let r : g.here ≡ u = rest_of (make f.first g.first) a g.here u g.then_was in
    record {
      x = m.spelling;
      y = n.spelling;
      fine_x = m.fine;
      fine_y = n.fine;
      text =
          ap (λ (l : List ℕ). space ∷ (spell m.spelling ++ (space ∷ (spell n.spelling ++ l)))) (sym r)
          ∙ ap (λ (l : List ℕ). space ∷ (spell m.spelling ++ (space ∷ l))) n.text
          ∙ ap (λ (l : List ℕ). space ∷ (spell m.spelling ++ l)) (sym q.1)
          ∙ ap (λ (l : List ℕ). space ∷ l) m.text
          ∙ sym p.1;
      worth = ap (λ (z : ℤ). make z (meant n.spelling)) m.worth ∙ ap (make f.first) n.worth ∙ value_of (make f.first g.first) a g.here u g.then_was;
    }

-- ---- commands
pub record Commanded (t : List ℕ) (c : Drawn) (u : List ℕ) : Type 0 where
  pub spelling : Spelled
  pub proper : Proper spelling
  pub text : spell_command spelling u ≡ t
  pub worth : meaning spelling ≡ c

commanded_m : (t : List ℕ) (c : Drawn) (u : List ℕ) → pair_of move t ≡ read c u → Commanded (letter_m ∷ t) c u
unfolding spell_command meaning
commanded_m t c u e =
    let p = pair_means move t c u e in
    record { spelling = spelledM p.x p.y; proper = (p.fine_x, p.fine_y); text = ap (λ (l : List ℕ). letter_m ∷ l) p.text; worth = p.worth }

commanded_l : (t : List ℕ) (c : Drawn) (u : List ℕ) → pair_of line t ≡ read c u → Commanded (letter_l ∷ t) c u
unfolding spell_command meaning
commanded_l t c u e =
    let p = pair_means line t c u e in
    record { spelling = spelledL p.x p.y; proper = (p.fine_x, p.fine_y); text = ap (λ (l : List ℕ). letter_l ∷ l) p.text; worth = p.worth }

abbrev full : ℤ → ℤ → ℤ → ℤ → ℤ → ℤ → Drawn
full = λ a b c d x y. curve a b c d x y

-- three points, read one behind the other
module _ (t h k u : List ℕ) (f : ℤ → ℤ → ℤ → ℤ → Drawn) (g : ℤ → ℤ → Drawn) (c : Drawn) where
  curve_of : Paired full t f h → Paired f h g k → Paired g k c u → Commanded (letter_c ∷ t) c u
  unfolding spell_command meaning
  curve_of p q r =
      record {
        spelling = spelled_c p.x p.y q.x q.y r.x r.y;
        proper = (p.fine_x, p.fine_y, q.fine_x, q.fine_y, r.fine_x, r.fine_y);
        text = ap (λ (l : List ℕ). letter_c ∷ l) (rw (r.text, q.text) p.text);
        worth =
            ap (λ (m : ℤ → ℤ → ℤ → ℤ → Drawn). m (meant q.x) (meant q.y) (meant r.x) (meant r.y)) p.worth
            ∙ ap (λ (m : ℤ → ℤ → Drawn). m (meant r.x) (meant r.y)) q.worth
            ∙ r.worth;
      }

commanded_c : (t : List ℕ) (c : Drawn) (u : List ℕ) → and_then (and_then (pair_of full t) pair_of) pair_of ≡ read c u → Commanded (letter_c ∷ t) c u
commanded_c t c u e =
    let f = between (and_then (pair_of full t) pair_of) pair_of c u e in
    let g = between (pair_of full t) pair_of f.first f.here f.was in
    curve_of t g.here f.here u g.first f.first c (pair_means full t g.first g.here g.was)
    (pair_means g.first g.here f.first f.here g.then_was) (pair_means f.first f.here c u f.then_was)

pub command_means : (t : List ℕ) (c : Drawn) (u : List ℕ) → command t ≡ read c u → Commanded t c u
unfolding command
command_means [] c u e = no_reading c u e
command_means (b ∷ t) c u e = m (eqb b letter_m) refl e
  where
    c' : (x : Bool) → eqb b letter_c ≡ x → (if x then and_then (and_then (pair_of full t) pair_of) pair_of else broken) ≡ read c u → Commanded (b ∷ t) c u
    c' true p h = rw (eqb-true b letter_c p) (commanded_c t c u h)
    c' false p h = no_reading c u h

    l : (x : Bool) → eqb b letter_l ≡ x → (if x then pair_of line t else (if eqb b letter_c then and_then (and_then (pair_of full t) pair_of) pair_of else broken)) ≡ read c u → Commanded (b ∷ t) c u
    l true p h = rw (eqb-true b letter_l p) (commanded_l t c u h)
    l false p h = c' (eqb b letter_c) refl h

    m : (x : Bool) → eqb b letter_m ≡ x
        → (if x then pair_of move t else (if eqb b letter_l then pair_of line t else (if eqb b letter_c then and_then (and_then (pair_of full t) pair_of) pair_of else broken))) ≡ read c u → Commanded (b ∷ t) c u
    m true p h = rw (eqb-true b letter_m p) (commanded_m t c u h)
    m false p h = l (eqb b letter_l) refl h

-- ---- texts
pub record Followed (rest : List ℕ → Outcome (List Drawn)) (r : Reading Drawn) (cs : List Drawn) : Type 0 where
  pub c : Drawn
  pub here : List ℕ
  pub later : List Drawn
  pub was : r ≡ read c here
  pub then_was : rest here ≡ gives later
  pub all : c ∷ later ≡ cs

pub followed : (rest : List ℕ → Outcome (List Drawn)) (r : Reading Drawn) (cs : List Drawn) → then_rest rest r ≡ gives cs → Followed rest r cs
unfolding then_rest in_front
followed rest broken cs e = no_text 14 cs e
followed rest (read c t) cs e = go (rest t) refl e
  where
    go : (o : Outcome (List Drawn)) → rest t ≡ o → in_front c o ≡ gives cs → Followed rest (read c t) cs
    go (refused n) p h = no_text n cs h
    go (gives later) p h = record { c = c; here = t; later = later; was = refl; then_was = p; all = cc }

record MoreSpelled (t : List ℕ) (cs : List Drawn) : Type 0 where
  commands : List Spelled
  all : All commands
  text : spell_more commands ≡ t
  names : map meaning commands ≡ cs

more-none : (cs : List Drawn) → ◌≡◌ {A = Outcome (List Drawn)} (gives []) (gives cs) → MoreSpelled [] cs
unfolding spell_more
more-none cs e = record { commands = []; all = tt; text = refl; names = cc }

more-one : (c : Drawn) (later cs : List Drawn) (t u : List ℕ) → Commanded t c u → MoreSpelled u later → c ∷ later ≡ cs → MoreSpelled (space ∷ t) cs
unfolding spell_more
more-one c later cs t u k m e =
    record {
      commands = k.spelling ∷ m.commands;
      all = (k.proper, m.all);
      text = ap (λ (l : List ℕ). space ∷ l) (rw m.text k.text);
      names = rw (k.worth, m.names) e;
    }

more-spelled : (n : ℕ) (t : List ℕ) (cs : List Drawn) → more n t ≡ gives cs → MoreSpelled t cs
unfolding more
more-spelled zero [] cs e = more-none cs e
more-spelled zero (b ∷ t) cs e = no_text 14 cs e
more-spelled (suc n) [] cs e = more-none cs e
more-spelled (suc n) (b ∷ t) cs e = go (more-spelled n) (eqb b space) refl e
  where
    go : ((u : List ℕ) (ds : List Drawn) → more n u ≡ gives ds → MoreSpelled u ds)
        → (x : Bool) → eqb b space ≡ x → (if x then then_rest (more n) (command t) else bad) ≡ gives cs → MoreSpelled (b ∷ t) cs
    go rec true p h =
        let f = followed (more n) (command t) cs h in
        rw (eqb-true b space p)
        (more-one f.c f.later cs t f.here (command_means t f.c f.here f.was) (rec f.here f.later f.then_was) f.all)
    go rec false p h = no_text 14 cs h

-- the first command is an M where the text begins with one
first_m : (b : ℕ) (t u : List ℕ) (s : Spelled) → b ≡ letter_m → spell_command s u ≡ b ∷ t → (ss : List Spelled) → FirstM (s ∷ ss)
unfolding spell_command
first_m b t u (spelledM x y) p e ss = tt
first_m b t u (spelledL x y) p e ss = let z : letter_l ≡ letter_m = cc in absurd (omega arith)
first_m b t u (spelled_c a c d f x y) p e ss = let z : letter_c ≡ letter_m = cc in absurd (omega arith)

-- Every text that is read is spelled so.
pub sound : ReadIsSpelled
unfolding named spell_text
sound [] cs e = record { commands = []; first = tt; all = tt; text = refl; names = cc }
sound (b ∷ t) cs e = go (eqb b letter_m) refl e
  where
    go : (x : Bool) → eqb b letter_m ≡ x → (if x then then_rest others (command (b ∷ t)) else bad) ≡ gives cs → Spells (b ∷ t) cs
    go true p h =
        let f = followed others (command (b ∷ t)) cs h in
        let k = command_means (b ∷ t) f.c f.here f.was in
        let m = more-spelled (length f.here) f.here f.later f.then_was in
        record {
          commands = k.spelling ∷ m.commands;
          first = first_m b t f.here k.spelling (eqb-true b letter_m p) k.text m.commands;
          all = (k.proper, m.all);
          text = rw m.text k.text;
          names = rw (k.worth, m.names) f.all;
        }
    go false p h = no_text 14 cs h
