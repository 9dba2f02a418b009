-- Two laps in a buffer, one behind the other: what stands there are the laps whose bodies were written; and they are few enough. Assumes nothing.
use Prim.Native.Nat.{ℕ, ◌+◌, ◌*◌, ◌≤◌}
use mathlib.Core.Path.{◌≡◌, sym, ap, ◌∙◌}
use mathlib.Core.Bool.{true, false}
use Rattle.std.specs.Prelude.{Option, Some, None}
use Rattle.file.specs.declared.command.Body.{Body}
use mathlib.Core.List.{List, [], ◌++◌, append_assoc}
use native.Mathlib.Omega.{arith}
use lib.ListN.{length, drop, length-append}
use lib.Seq.{sets, drop_at}
use lib.Ieee.{Float}
use Rattle.floats.specs.Ops.{◌≺◌, +0}
use Rattle.geo.specs.declared.types.Point3D.{Point3D}
use Rattle.geo.proofs.Stores.{sets_front, sets_append}
use Rattle.file.specs.Command.{commands_at}
use Rattle.pieces.specs.declared.pieces.Rule.{Rule}
use Rattle.course.specs.Course.{most_on, end_on, lent_course}
use Rattle.laps.specs.File.{Lap, laps_of, body, EachFull, PutLap}
use Rattle.laps.proofs.ReadBack.{commands-back}
use Rattle.laps.proofs.Whole.{length_body, whole-commands}
use Rattle.lap_fit.specs.Fit.{start_of, fit_lap, most_lap, fit_new}
use Rattle.lap_fit.proofs.Lap.{new_most, fit-most, whole_new, whole-fit}
use Rattle.lap_swap.specs.Swap.{commands_of, swap_both, next_lacks, next_lap, most_both, new_fit, next_fit, replaced_laps, stored_laps, PutBoth}

-- ---- the laps x and y, written to the front of a buffer, one behind the other
module _ (x y : Lap) (wx : EachFull x) (wy : EachFull y) where
  pub put_both : (buffer bytes₁ bytes₂ : List ℕ) (n m : ℕ) → n ≡ length x → m ≡ length y → 73 * (n + m) ≤ length buffer → bytes₁ ≡ sets buffer 0 (body x) → bytes₂ ≡ sets bytes₁ (73 * n) (body y)
      → PutBoth x y buffer bytes₂ n m
  put_both buffer bytes₁ bytes₂ n m ex ey room a b =
      let p = length_body x wx in
      let q = length_body y wy in
      let l = length-append (body x) (body y) in
      let t : 73 * n ≡ 0 + length (body x) = omega (arith, p, ex) in
      record {
        count = ex;
        behind = ey;
        bytes =
            b ∙ ap (λ (r : List ℕ). sets r (73 * n) (body y)) a ∙ ap (λ (i : ℕ). sets (sets buffer 0 (body x)) i (body y)) t ∙ sym (sets_append (body x) (body y) buffer 0)
            ∙ sets_front (body x ++ body y) buffer (omega (arith, l, p, q, ex, ey, room));
      }

  module _ (buffer bytes : List ℕ) (n m : ℕ) (put : PutBoth x y buffer bytes n m) where
    in_buffer : bytes ≡ body x ++ (body y ++ drop (length (body x ++ body y)) buffer)
    in_buffer = put.bytes ∙ append_assoc (body x) (body y) (drop (length (body x ++ body y)) buffer)

    pub first_in : commands_at bytes 0 n ≡ x
    first_in = ap (commands_at bytes 0) put.count ∙ commands-back x bytes 0 (body y ++ drop (length (body x ++ body y)) buffer) in_buffer wx

    pub next_in : commands_at bytes (73 * n) m ≡ y
    next_in =
        let p = length_body x wx in
        let e = put.count in
        ap (commands_at bytes (73 * n)) put.behind
        ∙ commands-back y bytes (73 * n) (drop (length (body x ++ body y)) buffer)
        (ap (drop (73 * n)) in_buffer ∙ drop_at (body x) (body y ++ drop (length (body x ++ body y)) buffer) (73 * n) (omega (arith, p, e))) wy

-- ---- both laps as they are fitted again
module _ (r : Rule) (ls : List Lap) (k : ℕ) (ks : List ℕ) (ns : List Float) where
  pub whole_new_fit : EachFull (new_fit r ls k ks ns)
  whole_new_fit = whole_new r (start_of k ls) ks ns

  pub whole-next-fit : EachFull (next_fit r ls k ks ns)
  whole-next-fit = whole-fit r (end_on (start_of k ls) (lent_course ks ns)) (next_lap k ls)

  -- they are no more than their most
  pub both-few : (+0 ≺ r.tolerance) ≡ true → length (new_fit r ls k ks ns) + length (next_fit r ls k ks ns) ≤ most_both r.tolerance ls k (lent_course ks ns)
  unfolding most_both
  both-few pos =
      let a = new_most r pos (start_of k ls) ks ns in
      let b = fit-most r pos (end_on (start_of k ls) (lent_course ks ns)) (next_lap k ls) in omega (arith, a, b)

  -- what the code works out: where the new commands start and end, and the next lap
  module _ (p q : Point3D) (l : Lap) (ep : p ≡ start_of k ls) (eq : q ≡ end_on p (lent_course ks ns)) (el : l ≡ next_lap k ls) where
    pub few-laps : (+0 ≺ r.tolerance) ≡ true → (most : ℕ) → most_both r.tolerance ls k (lent_course ks ns) ≤ most
        → (most_on r.tolerance p (lent_course ks ns) ≤ most) × (most_lap r.tolerance q l ≤ most)
        × (length (fit_new r p ks ns) + length (fit_lap r q l) ≤ most_both r.tolerance ls k (lent_course ks ns))
    few-laps pos most h =
        let m : most_on r.tolerance p (lent_course ks ns) + most_lap r.tolerance q l ≡ most_both r.tolerance ls k (lent_course ks ns) = unfold most_both in rw (el, eq, ep) in
        (omega (arith, m), omega (arith, m), rw (el, eq, ep) (both-few pos))

    -- both are written as they are worked out
    pub put-fits : (+0 ≺ r.tolerance) ≡ true → (buffer bytes₁ bytes₂ : List ℕ) (n m : ℕ) → 73 * most_both r.tolerance ls k (lent_course ks ns) ≤ length buffer
        → PutLap (fit_new r p ks ns) buffer bytes₁ 0 n → PutLap (fit_lap r q l) bytes₁ bytes₂ (73 * n) m → PutBoth (new_fit r ls k ks ns) (next_fit r ls k ks ns) buffer bytes₂ n m
    put-fits pos buffer bytes₁ bytes₂ n m h px py =
        let u : fit_new r p ks ns ≡ new_fit r ls k ks ns = rw ep in
        let v : fit_lap r q l ≡ next_fit r ls k ks ns = rw (el, eq, ep) in
        let f = both-few pos in
        let cx = px.count ∙ ap length u in
        let cy = py.count ∙ ap length v in
        put_both (new_fit r ls k ks ns) (next_fit r ls k ks ns) whole_new_fit whole-next-fit buffer bytes₁ bytes₂ n m cx cy
        (omega (arith, f, cx, cy, h)) (px.bytes ∙ ap (λ (w : Lap). sets buffer 0 (body w)) u) (py.bytes ∙ ap (λ (w : Lap). sets bytes₁ (73 * n) (body w)) v)

-- ---- both laps stand in the buffer
module _ (r : Rule) (s f : List ℕ) (k : ℕ) (ks : List ℕ) (ns : List Float) where
  pub as_replaced : (buffer bytes : List ℕ) (n m : ℕ) → PutBoth (new_fit r (laps_of s) k ks ns) (next_fit r (laps_of s) k ks ns) buffer bytes n m
      → stored_laps k (laps_of s) bytes n m (laps_of f) ≡ replaced_laps r k ks ns (laps_of s) (laps_of f)
  unfolding stored_laps replaced_laps
  as_replaced buffer bytes n m put =
      let x = new_fit r (laps_of s) k ks ns in
      let y = next_fit r (laps_of s) k ks ns in
      let wx = whole_new_fit r (laps_of s) k ks ns in
      let wy = whole-next-fit r (laps_of s) k ks ns in
      rw (first_in x y wx wy buffer bytes n m put, next_in x y wx wy buffer bytes n m put)

-- ---- the laps of a part
pub whole_of : (o : Option Body) → EachFull (commands_of o)
whole_of None = tt
whole_of (Some b) = whole-commands b.bytes.now b.at b.count b.inside

module _ (k : ℕ) (ls fs : List Lap) (bytes : List ℕ) (n m : ℕ) (new : Body) (en : (new.bytes.now ≡ bytes) × (new.at ≡ 0) × (new.count ≡ n)) where
  pub two_stored : (next : Body) → (next.bytes.now ≡ bytes) × (next.at ≡ 73 * n) × (next.count ≡ m) → true ≡ next_lacks k ls
      → stored_laps k ls bytes n m fs ≡ swap_both true k (commands_at new.bytes.now new.at new.count) (commands_at next.bytes.now next.at next.count) fs
  unfolding stored_laps
  two_stored next ex e = rw (← e, en.0, en.1, en.2, ex.0, ex.1, ex.2)

  pub one_stored : false ≡ next_lacks k ls → stored_laps k ls bytes n m fs ≡ swap_both false k (commands_at new.bytes.now new.at new.count) [] fs
  unfolding stored_laps swap_both
  one_stored e = rw (← e, en.0, en.1, en.2)
