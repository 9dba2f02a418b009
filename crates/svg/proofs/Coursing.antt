-- The second walk over a text, lap after lap: the laps that are left, written from here, give the whole file. Assumes nothing.
use Rattle.std.specs.Prelude.{if◌then◌else◌}
use Prim.Native.Nat.{ℕ, suc, ◌+◌, ◌*◌, ◌≤◌, ◌<◌}
use mathlib.Core.Path.{◌≡◌, refl, sym, ap, ◌∙◌, subst}
use mathlib.Core.Bool.{Bool, true, false}
use mathlib.Core.List.{List, [], ◌∷◌, ◌++◌, map}
use native.Mathlib.Omega.{arith}
use lib.ListN.{length, length-map}
use lib.Seq.{sets}
use lib.Dec.{eqb}
use Rattle.geo.specs.Outcome.{gives}
use Rattle.file.specs.Bytes.{u32_bytes}
use Rattle.file.proofs.Stores.{length_enc}
use Rattle.laps.specs.File.{Lap, body, mark, EachFull, AllFull, command_count}
use Rattle.laps.proofs.Going.{Going, begin, turn, done}
use Rattle.laps.proofs.Turns.{fits_next, ends_by}
use Rattle.svg_text.specs.Path.{Drawn, move, line, curve, command, letter_m, bad, then_rest, others, named}
use Rattle.svg_text.specs.Drawing.{drawn}
use Rattle.svg_text.proofs.Spelled.{no_text}
use Rattle.svg_text.proofs.Tens.{Opened, opened}
use Rattle.svg.specs.declared.reading.LapRead.{LapRead}
use Rattle.svg.specs.Course.{until_move, laps_drawn, inked, course_laps, course_file}
use Rattle.svg.specs.Laps.{named_from, from_move, LapFits, LapPut, CourseFits, CoursePut}

-- ---- a text is named from its start on
named-from : (s : List ℕ) (cs : List Drawn) → named s ≡ gives cs → named_from s ≡ gives cs
unfolding named named_from
named-from [] cs e = e
named-from (b ∷ t) cs e = go (eqb b letter_m) e
  where
    go : (x : Bool) → (if x then then_rest others (command (b ∷ t)) else bad) ≡ gives cs → then_rest others (command (b ∷ t)) ≡ gives cs
    go true h = h
    go false h = no_text 14 cs h

-- ---- laps have whole commands, and no more than the text
pub whole-lap : (cs : List Drawn) → EachFull (map inked cs)
whole-lap [] = tt
whole-lap (c ∷ cs) = (length_enc (drawn c), whole-lap cs)

whole-laps : (ls : List (List Drawn)) → AllFull (map (map inked) ls)
whole-laps [] = tt
whole-laps (l ∷ ls) = (whole-lap l, whole-laps ls)

pub whole_course : (cs : List Drawn) → AllFull (course_laps cs)
unfolding course_laps
whole_course cs = whole-laps (laps_drawn cs)

pub count-laps : (cs : List Drawn) → length (course_laps cs) ≡ length (laps_drawn cs)
unfolding course_laps
count-laps cs = length-map (laps_drawn cs) (map inked)

pub count-commands : (cs : List Drawn) → length (until_move cs) + command_count (course_laps cs) ≡ length cs
unfolding until_move laps_drawn course_laps command_count
count-commands [] = refl
count-commands (move x y ∷ cs) = let h = count-commands cs in rw (length-map (until_move cs) inked) (omega arith)
count-commands (line x y ∷ cs) = let h = count-commands cs in omega arith
count-commands (curve a b c d x y ∷ cs) = let h = count-commands cs in omega arith

no_laps : (cs : List Drawn) → length (laps_drawn cs) ≡ 0 → course_laps cs ≡ []
unfolding course_laps
no_laps cs e = go (laps_drawn cs) e
  where
    go : (ls : List (List Drawn)) → length ls ≡ 0 → map (map inked) ls ≡ []
    go [] q = refl
    go (l ∷ ls) q = absurd (omega arith)

-- ---- behind a lap stands an M, or nothing
laps-on : (cs : List Drawn) → laps_drawn cs ≡ laps_drawn (from_move cs)
unfolding laps_drawn from_move
laps-on [] = refl
laps-on (move x y ∷ cs) = refl
laps-on (line x y ∷ cs) = laps-on cs
laps-on (curve a b c d x y ∷ cs) = laps-on cs

opens_on : (cs : List Drawn) → Opened (from_move cs)
unfolding from_move
opens_on [] = tt
opens_on (move x y ∷ cs) = tt
opens_on (line x y ∷ cs) = opens_on cs
opens_on (curve a b c d x y ∷ cs) = opens_on cs

-- a text that starts with an M, by its first lap
record FirstLap (left : List Drawn) : Type 0 where
  first : Drawn
  rest : List Drawn
  are : left ≡ first ∷ rest
  laps : course_laps left ≡ map inked (first ∷ until_move rest) ∷ course_laps (from_move rest)
  fewer : length (laps_drawn left) ≡ suc (length (laps_drawn (from_move rest)))

first-lap : (left : List Drawn) → Opened left → 0 < length (laps_drawn left) → FirstLap left
unfolding laps_drawn course_laps
first-lap [] o h = absurd (omega arith)
first-lap (move x y ∷ cs) o h =
    record {
      first = move x y;
      rest = cs;
      are = refl;
      laps = ap (λ (ls : List (List Drawn)). map inked (move x y ∷ until_move cs) ∷ map (map inked) ls) (laps-on cs);
      fewer = ap (λ (ls : List (List Drawn)). suc (length ls)) (laps-on cs);
    }
first-lap (line x y ∷ cs) o h = absurd o
first-lap (curve a b c d x y ∷ cs) o h = absurd o

-- ---- the loop
pub record Coursing (s : List ℕ) (l : ℕ) (out₀ out t : List ℕ) (to j : ℕ) : Type 0 where
  pub cs : List Drawn
  pub says : named s ≡ gives cs
  pub laps : l ≡ length (laps_drawn cs)
  pub few-laps : l ≤ 64
  pub few : command_count (course_laps cs) ≤ 800
  pub left : List Drawn
  pub names : named_from t ≡ gives left
  pub opens : Opened left
  pub to_come : j + length (laps_drawn left) ≡ l
  pub going : Going out₀ out l j to (course_laps left) (course_laps cs)

pub coursing_starts : (s out₁ out : List ℕ) (l : ℕ) → CourseFits s l (length out₁) → length out ≡ length out₁ → Coursing s l out out s (8 + 8 * l) 0
coursing_starts s out₁ out l f e =
    let m = count-commands f.cs in
    let r = f.room in
    let n = f.count in
    let w = f.few in
    record {
      cs = f.cs;
      says = f.says;
      laps = f.count;
      few-laps = f.few-laps;
      few = omega (arith, m, w);
      left = f.cs;
      names = named-from s f.cs f.says;
      opens = opened s f.cs f.says;
      to_come = omega (arith, n);
      going = begin out l (course_laps f.cs) (omega (arith, m, r, e));
    }

module _ {s : List ℕ} {l : ℕ} {out₀ out t : List ℕ} {to j : ℕ} (k : Coursing s l out₀ out t to j) where
  module _ (h : j < l) where
    first-left : FirstLap k.left
    first-left = let t = k.to_come in first-lap k.left k.opens (omega (arith, t))

    going-first : Going out₀ out l j to (map inked (first-left.first ∷ until_move first-left.rest) ∷ course_laps (from_move first-left.rest)) (course_laps k.cs)
    going-first = subst (λ (ls : List Lap). Going out₀ out l j to ls (course_laps k.cs)) first-left.laps k.going

    pub lap-fits : LapFits t to (length out)
    lap-fits =
        let f = fits_next out₀ out l j to _ _ _ going-first in
        let m = length-map (until_move first-left.rest) inked in
        record { first = first-left.first; rest = first-left.rest; names = k.names ∙ ap gives first-left.are; room = omega (arith, f, m) }

    pub lap_entry : 16 + 8 * j ≤ length out
    lap_entry = let g = k.going in omega (arith, g.same, g.after, g.room)

    module _ (out₁ : List ℕ) (r : LapRead) (p : LapPut t out out₁ to r) where
      same-lap : (p.first ≡ first-left.first) × (p.rest ≡ first-left.rest)
      same-lap = let e : gives (p.first ∷ p.rest) ≡ gives (first-left.first ∷ first-left.rest) = sym p.names ∙ k.names ∙ ap gives first-left.are in (cc, cc)

      lap-count : r.commands ≡ length (map inked (first-left.first ∷ until_move first-left.rest))
      lap-count = p.count ∙ ap (λ (cs : List Drawn). suc (length (until_move cs))) same-lap.1 ∙ sym (ap suc (length-map (until_move first-left.rest) inked))

      pub lap-ends_by : to + 73 * r.commands ≤ 8 + 8 * l + 58400
      lap-ends_by = ends_by out₀ out l j to r.commands _ _ _ going-first lap-count k.few

      pub coursing_goes-on : (out₂ : List ℕ) → out₂ ≡ sets out₁ (8 + 8 * j) (u32_bytes to ++ u32_bytes r.commands) → Coursing s l out₀ out₂ r.rest.now (to + 73 * r.commands) (j + 1)
      coursing_goes-on out₂ e =
          let t = k.to_come in
          let f = first-left.fewer in
          let b = p.bytes ∙ ap (λ (c : Drawn). sets out to (body (map inked (c ∷ until_move p.rest)))) same-lap.0 ∙ ap (λ (cs : List Drawn). sets out to (body (map inked (first-left.first ∷ until_move cs)))) same-lap.1 in
          record {
            cs = k.cs;
            says = k.says;
            laps = k.laps;
            few-laps = k.few-laps;
            few = k.few;
            left = from_move first-left.rest;
            names = p.goes ∙ ap (λ (cs : List Drawn). gives (from_move cs)) same-lap.1;
            opens = opens_on first-left.rest;
            to_come = omega (arith, t, f);
            going = turn out₀ out out₁ out₂ l j to r.commands _ _ _ going-first lap-count b e;
          }

  pub course_put : (out_first : List ℕ) → out₀ ≡ sets out_first 0 (mark ++ u32_bytes l) → l ≤ j → CoursePut s out_first out to
  unfolding course_file
  course_put out_first e h =
      let t = k.to_come in
      let z : course_laps k.left ≡ [] = no_laps k.left (omega (arith, t)) in
      let g = subst (λ (ls : List Lap). Going out₀ out l j to ls (course_laps k.cs)) z k.going in
      let d = done out_first out₀ out l j to (course_laps k.cs) g (k.laps ∙ sym (count-laps k.cs)) (whole_course k.cs) e in
      record { cs = k.cs; says = k.says; count = d.0; bytes = d.1 }
