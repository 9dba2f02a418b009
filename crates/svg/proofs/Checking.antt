-- The rows of a text, and what the call answers and leaves by the row that decides. Assumes nothing.
use Prim.Native.Nat.{ℕ, ◌+◌, ◌≤◌, ◌<◌}
use mathlib.Core.Path.{◌≡◌, refl, sym, ap, ◌∙◌}
use mathlib.Core.Bool.{Bool, true, not, ◌||◌}
use mathlib.Core.List.{List}
use native.Mathlib.Omega.{arith}
use borrow.Author.Tests.{lt-ltb, le-ltb, ltb-false, not-false}
use lib.ListN.{length}
use lib.Dec.{ltb}
use Rattle.floats.proofs.Order.{or_false}
use Rattle.std.specs.Prelude.{Result, Ok, Err}
use Rattle.geo.specs.declared.refusal.Refusal.{Refusal}
use Rattle.geo.specs.declared.refusal.Refusal.TheVariants.{TooMany}
use Rattle.geo.specs.Outcome.{Outcome, refused, gives, refusal, unless, left}
use Rattle.geo.specs.Refusal.{number}
use Rattle.geo.specs.Wrote.{answer, Wrote}
use Rattle.geo.proofs.Rows.{row_passed}
use Rattle.geo.proofs.Wrote.{wrote-same, wrote-refused}
use Rattle.laps.specs.Rows.{file_size}
use Rattle.svg.specs.declared.tally.Tally.{Tally}
use Rattle.svg_text.specs.Path.{Drawn, named}
use Rattle.svg.specs.Course.{laps_drawn, all_in, course_file, read_rows, made, read_course}
use Rattle.svg.specs.Tally.{tally_of}
use Rattle.svg.specs.Laps.{CourseFits, CoursePut}

-- ---- the rows of counts: what passed them
pub record Counted (laps commands : ℕ) (inside : Bool) (room : ℕ) : Type 0 where
  pub few-laps : laps ≤ 64
  pub few : commands ≤ 800
  pub near : inside ≡ true
  pub space : file_size laps commands ≤ room

pub counted : (laps commands : ℕ) (inside : Bool) (room : ℕ) → 0 ≡ refusal (read_rows laps commands inside room) → Counted laps commands inside room
unfolding read_rows
counted laps commands inside room e =
    let p = row_passed 1 (ltb 64 laps || ltb 800 commands) _ e in
    let q = row_passed 4 (not inside) _ p.1 in
    let r = row_passed 8 (ltb room (file_size laps commands)) _ q.1 in
    let o = or_false (ltb 64 laps) (ltb 800 commands) p.0 in
    record { few-laps = ltb-false 64 laps o.0; few = ltb-false 800 commands o.1; near = not-false inside q.0; space = ltb-false room (file_size laps commands) r.0 }

-- ---- what the walk's answer tells
pub record Known (t : List ℕ) (y : Tally) : Type 0 where
  pub cs : List Drawn
  pub says : named t ≡ gives cs
  pub laps : y.laps ≡ length (laps_drawn cs)
  pub count : y.commands ≡ length cs
  pub inside : y.inside ≡ all_in cs

pub known : (t : List ℕ) (y : Tally) → gives y ≡ tally_of 0 0 true (named t) → Known t y
unfolding tally_of
known t y e = go (named t) refl e
  where
    go : (o : Outcome (List Drawn)) → named t ≡ o → gives y ≡ tally_of 0 0 true o → Known t y
    go (refused k) p h = let z : ◌≡◌ {A = ℕ} 0 1 = cc in absurd (omega arith)
    go (gives cs) p h =
        let x : y.laps ≡ 0 + length (laps_drawn cs) = cc in
        let w : y.commands ≡ 0 + length cs = cc in
        record { cs = cs; says = p; laps = omega arith; count = omega arith; inside = cc }

-- ---- what the call answers and leaves
read_made : (t : List ℕ) (room : ℕ) → length t ≤ 65536 → read_course t room ≡ made room (named t)
unfolding read_course
read_made t room h = rw (le-ltb 65536 (length t) h)

pub too_long : (t : List ℕ) (room : ℕ) (out : List ℕ) → 65536 < length t → Wrote (λ (bytes : List ℕ). bytes) (read_course t room) out out (Err TooMany)
unfolding read_course answer left
too_long t room out h = rw (lt-ltb 65536 (length t) h) record { says = refl; leaves = refl }

-- a text that breaks the rules is refused as the walk is
pub breaks_rules : (t : List ℕ) (room : ℕ) (out : List ℕ) (cause : Refusal) (r : Result ℕ Refusal) → length t ≤ 65536 → refused (number cause) ≡ tally_of 0 0 true (named t) → r ≡ Err cause
    → Wrote (λ (bytes : List ℕ). bytes) (read_course t room) out out r
unfolding tally_of made answer left
breaks_rules t room out cause r h e q = wrote-same _ (made room (named t)) _ out out _ (sym (read_made t room h)) (go (named t) e)
  where
    go : (o : Outcome (List Drawn)) → refused (number cause) ≡ tally_of 0 0 true o → Wrote (λ (bytes : List ℕ). bytes) (made room o) out out r
    go (refused k) z = let n : number cause ≡ k = cc in rw (q, sym n) record { says = refl; leaves = refl }
    go (gives cs) z = let n : ◌≡◌ {A = ℕ} 0 1 = cc in absurd (omega arith)

module _ (t : List ℕ) (room : ℕ) (y : Tally) (h : length t ≤ 65536) (k : Known t y) where
  read_known : unless (refusal (read_rows y.laps y.commands y.inside room)) (course_file k.cs) ≡ read_course t room
  unfolding made
  read_known = sym (read_made t room h ∙ ap (made room) k.says ∙ rw (sym k.laps, sym k.count, sym k.inside))

  pub counts-refused : (cause : Refusal) (r : Result ℕ Refusal) (out : List ℕ) → number cause ≡ refusal (read_rows y.laps y.commands y.inside room) → r ≡ Err cause
      → Wrote (λ (bytes : List ℕ). bytes) (read_course t room) out out r
  counts-refused cause r out e q = wrote-same _ _ _ out out _ read_known (wrote-refused _ cause e (λ (bytes : List ℕ). bytes) (course_file k.cs) out r q)

  pub counts-fit : 0 ≡ refusal (read_rows y.laps y.commands y.inside room) → CourseFits t y.laps room
  counts-fit e =
      let c = counted y.laps y.commands y.inside room e in
      let m = k.count in
      let w = c.few in
      let s = c.space in
      record { cs = k.cs; says = k.says; count = k.laps; few-laps = c.few-laps; few = omega (arith, m, w); room = omega (arith, m, s) }

  pub course_read : (out out' : List ℕ) (w : ℕ) → 0 ≡ refusal (read_rows y.laps y.commands y.inside room) → CoursePut t out out' w → Wrote (λ (bytes : List ℕ). bytes) (read_course t room) out out' (Ok w)
  unfolding unless answer left
  course_read out out' w e p =
      let q : gives p.cs ≡ gives k.cs = sym p.says ∙ k.says in
      let c : p.cs ≡ k.cs = cc in
      wrote-same _ _ _ out out' _ (ap (λ (cs : List Drawn). unless (refusal (read_rows y.laps y.commands y.inside room)) (course_file cs)) c ∙ read_known)
      (rw (sym e) record { says = rw p.count; leaves = p.bytes })
