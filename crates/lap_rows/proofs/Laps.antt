-- The laps of a file, listed one after the other behind the first line. Assumes nothing.
use Prim.Native.Nat.{ℕ, ◌+◌, ◌*◌, ◌≤◌, ◌<◌}
use mathlib.Core.Path.{◌≡◌, refl, sym, ap, ◌∙◌}
use mathlib.Core.Bool.{true}
use mathlib.Core.List.{List, [], ◌++◌}
use native.Mathlib.Nat.{zero-add}
use native.Mathlib.Omega.{arith}
use lib.ListN.{length, get_or, drop}
use lib.Seq.{sets, length-sets}
use lib.Ieee.{Float}
use Rattle.floats.specs.Ops.{◌≺◌, +0}
use Rattle.geo.proofs.Stores.{sets_front}
use Rattle.geo.specs.Walk.{list_from}
use Rattle.laps.specs.File.{Lap}
use Rattle.laps.proofs.Turns.{laps_next, laps_over}
use Rattle.geo.specs.declared.types.Point3D.{Point3D}
use Rattle.geo.specs.Lent.{origin}
use Rattle.lap_fit.specs.Fit.{lap_end, most_lap, laps_most}
use Rattle.lap_fit.proofs.Lap.{mosts_step}
use Rattle.lap_text.specs.Text.{ascii, total_text}
use Rattle.lap_rows.specs.Listing.{header, lap_text, laps_text, lap_steps, laps_steps, list_text, most_text}
use Rattle.lap_text.specs.Left.{TextPut}
use Rattle.lap_text.proofs.Written.{put_both, put_same, total_length, Writing, write_start, write_step, write_done}
use Rattle.lap_rows.proofs.Counts.{text-few, laps-few}

-- where the loop stands before lap j + 1, which starts at p: what is left, written from `to` on, gives the whole, and has room with the last line; its steps, added to `total`, are all
pub record Listing (tol : Float) (ls : List Lap) (out₀ out : List ℕ) (p : Point3D) (to total j : ℕ) : Type 0 where
  pub few : laps_most tol p (drop j ls) ≤ 800
  pub room : to + 9 * laps_most tol p (drop j ls) + 10 ≤ length out₀
  pub adding : total + laps_steps tol p (drop j ls) ≡ laps_steps tol origin ls
  pub going : Writing out₀ out 15 to (laps_text tol (j + 1) p (drop j ls)) (laps_text tol 1 origin ls)

-- what a turn has: room for the text of lap l
pub record Turn (tol : Float) (out : List ℕ) (p : Point3D) (to : ℕ) (l : Lap) : Type 0 where
  pub few : most_lap tol p l ≤ 800
  pub room : to + 9 * most_lap tol p l ≤ length out

module _ (tol : Float) (ls : List Lap) (out₀ : List ℕ) where
  pub laps-start : (to : ℕ) → to ≡ 15 → laps_most tol origin ls ≤ 800 → most_text (laps_most tol origin ls) ≤ length out₀ → Listing tol ls out₀ out₀ origin to 0 0
  laps-start to f h k =
      record {
        few = h;
        room = rw f k;
        adding = zero-add (laps_steps tol origin ls);
        going = rw f (write_start out₀ 15 _ _ refl);
      }

  module _ (out : List ℕ) (p q : Point3D) (to total j : ℕ) (l : Lap) (w : Listing tol ls out₀ out p to total j) (h : j < length ls) (e : l ≡ get_or ls j []) (z : q ≡ lap_end p l) where
    pub turn : Turn tol out p to l
    turn =
        let m = mosts_step tol p q ls j l h e z in
        let f = w.few in
        let r = w.room in
        let y = w.going.same in
        record { few = omega arith; room = omega arith }

    text_cons : laps_text tol (j + 1) p (drop j ls) ≡ lap_text tol (j + 1) p l ++ laps_text tol (j + 1 + 1) q (drop (j + 1) ls)
    unfolding laps_text
    text_cons = rw (laps_next ls j h, z, e)

    steps_cons : laps_steps tol p (drop j ls) ≡ lap_steps tol p l + laps_steps tol q (drop (j + 1) ls)
    unfolding laps_steps
    steps_cons = rw (laps_next ls j h, z, e)

    pub laps_step : (+0 ≺ tol) ≡ true → length ls ≤ 64 → (out' : List ℕ) (to' steps : ℕ) → TextPut (lap_text tol (j + 1) p l) out out' to to'
        → steps ≡ lap_steps tol p l → Listing tol ls out₀ out' q to' (total + steps) (j + 1)
    laps_step pos b out' to' steps put d =
        let m = mosts_step tol p q ls j l h e z in
        let f = w.few in
        let r = w.room in
        let o = put.ends in
        let t = turn in
        let x = text-few tol pos p l (j + 1) (omega arith) t.few in
        let a = w.adding in
        let c = steps_cons in
        record {
          few = omega arith;
          room = omega arith;
          adding = omega arith;
          going = write_step out₀ out out' 15 to to' _ _ _ _ text_cons put w.going;
        }

    -- what is added up stays small
    pub turn_sum : laps_most tol origin ls ≤ 800 → (steps : ℕ) → steps ≡ lap_steps tol p l → total + steps ≤ 800
    turn_sum k steps d =
        let a = w.adding in
        let c = steps_cons in
        let f = laps-few tol origin ls in omega arith

  -- all laps are written, behind the first line, and all steps added up
  header_length : length header ≡ 15
  unfolding ascii list_from
  header_length = refl

  laps-written : (out : List ℕ) (p : Point3D) (to total j : ℕ) → Listing tol ls out₀ out p to total j → length ls ≤ j → TextPut (laps_text tol 1 origin ls) out₀ out 15 to
  unfolding laps_text
  laps-written out p to total j w h = write_done out₀ out 15 to _ _ (ap (laps_text tol (j + 1) p) (laps_over ls j h)) w.going

  pub laps_added : (out : List ℕ) (p : Point3D) (to total j : ℕ) → Listing tol ls out₀ out p to total j → length ls ≤ j → total ≡ laps_steps tol origin ls
  unfolding laps_steps
  laps_added out p to total j w h = let z = ap (laps_steps tol p) (laps_over ls j h) in let a = w.adding in omega arith

  -- there is room for the last line,
  pub total_room : (out : List ℕ) (p : Point3D) (to total j : ℕ) → Listing tol ls out₀ out p to total j → to + 10 ≤ length out
  total_room out p to total j w = let r = w.room in let z = w.going.same in omega arith

  -- which is written behind them
  pub laps-done : (first : List ℕ) → 15 ≤ length first → out₀ ≡ header ++ drop 15 first → (out : List ℕ) (p : Point3D) (to total j : ℕ) → Listing tol ls out₀ out p to total j → length ls ≤ j
      → laps_most tol origin ls ≤ 800 → (out' : List ℕ) (end : ℕ) → TextPut (total_text total) out out' to end
      → (end ≡ length (list_text tol ls)) × (out' ≡ list_text tol ls ++ drop (length (list_text tol ls)) first)
  unfolding list_text
  laps-done first k o out p to total j w h m out' end t =
      let d = header_length in
      let front : out₀ ≡ sets first 0 header = o ∙ sym (sets_front header first (omega arith) ∙ ap (λ (n : ℕ). header ++ drop n first) d) in
      let rows = put_both header (laps_text tol 1 origin ls) first out₀ out 0 15 to (record { ends = omega arith; bytes = front }) (laps-written out p to total j w h) in
      let sum = laps_added out p to total j w h in
      let last = put_same (total_text total) (total_text (laps_steps tol origin ls)) out out' to end (ap total_text sum) t in
      let both = put_both (header ++ laps_text tol 1 origin ls) (total_text (laps_steps tol origin ls)) first out out' 0 to end rows last in
      let z = ap length front ∙ length-sets first 0 header in
      let r = total_room out p to total j w in
      let y = w.going.same in
      let q = both.ends in
      let a = last.ends in
      let f = laps-few tol origin ls in
      let b = total_length (laps_steps tol origin ls) (omega arith) in
      (omega arith, both.bytes ∙ sets_front (header ++ laps_text tol 1 origin ls ++ total_text (laps_steps tol origin ls)) first (omega arith))
