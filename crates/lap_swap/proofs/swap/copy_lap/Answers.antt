-- `lap_swap::swap::copy_lap` meets its contract: the bytes that are left to copy, stored from here, give the whole. Assumes nothing.
use Prim.Native.Nat.{ℕ, zero, suc, ◌+◌, ◌-◌, ◌*◌, ◌≤◌, ◌<◌}
use mathlib.Core.Path.{◌≡◌, sym, ap, ◌∙◌}
use mathlib.Core.List.{List, ◌∷◌}
use native.Mathlib.Nat.{sub-zero, add-zero}
use native.Mathlib.Omega.{arith}
use lib.ListN.{length, get_or, take, drop, set}
use lib.Seq.{sets, drop-cons}
use Rattle.laps.proofs.Copy.{body-commands}
use Rattle.laps.proofs.Whole.{length_commands}
use Rattle.lap_swap.proofs.swap.copy_lap.Goals as goal

-- one byte further
copy_go : (s out g : List ℕ) (at to w i : ℕ) → i < w → at + w ≤ length s → sets out (to + i) (take (w - i) (drop (at + i) s)) ≡ g
    → sets (set out (to + i) (get_or s (at + i) 0)) (to + (i + 1)) (take (w - (i + 1)) (drop (at + (i + 1)) s)) ≡ g
copy_go s out g at to w i h k v =
    let e : w - i ≡ suc (w - (i + 1)) = omega arith in
    let a : at + (i + 1) ≡ suc (at + i) = omega arith in
    let t : to + (i + 1) ≡ suc (to + i) = omega arith in
    let d : drop (at + i) s ≡ get_or s (at + i) 0 ∷ drop (suc (at + i)) s = drop-cons s (at + i) 0 (omega arith) in
    rw (a, t) (rw (e, d) at v)

copy_end : (s out g : List ℕ) (at to w i : ℕ) → w ≤ i → sets out (to + i) (take (w - i) (drop (at + i) s)) ≡ g → out ≡ g
copy_end s out g at to w i h v = let e : w - i ≡ zero = omega arith in rw e at v

pub loop-i-init : goal.loop-i-init
loop-i-init c = rw (sub-zero, add-zero, add-zero)

pub loop-i-preserved : goal.loop-i-preserved
loop-i-preserved c = let a = c.args in let l = c.loop-i in copy_go a.lap.bytes.now l.out _ a.lap.at a.to (73 * a.lap.count) l.i c.loop-i-test.true a.lap.inside l.invariant

pub returns : goal.returns
returns c = let a = c.args in let b = a.lap in let l = c.loop-i in
    record {
      count = sym (length_commands b.bytes.now b.at b.count);
      bytes = copy_end b.bytes.now l.out _ b.at a.to (73 * b.count) l.i c.loop-i-test.false l.invariant ∙ ap (sets a.out.now a.to) (sym (body-commands b.bytes.now b.at b.count));
    }
