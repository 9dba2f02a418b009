-- The part of a commit: what its counts tell, and the laps that it holds. Assumes nothing.
use Prim.Native.Nat.{ℕ, ◌+◌, ◌*◌, ◌/◌, ◌≤◌}
use mathlib.Core.Path.{◌≡◌}
use mathlib.Core.Bool.{Bool, true, false, not, ◌&&◌}
use mathlib.Core.List.{List}
use native.Mathlib.Omega.{arith}
use borrow.Author.Tests.{eq-eqb, ne_eqb, eqb-true}
use lib.ListN.{length}
use lib.Dec.{eqb}
use Rattle.floats.proofs.Order.{and_left}
use Rattle.file.specs.Command.{commands_at}
use Rattle.laps.specs.File.{Lap, laps_of, command_count}
use Rattle.laps.proofs.Whole.{length_commands}
use Rattle.lap_swap.specs.Swap.{next_lacks, stored_laps}
use Rattle.lap_checks.specs.Checks.{most_with}
use Rattle.lap_swap.proofs.Replaced.{total_both}
use Rattle.lap_session.specs.declared.session.Ticket.{Ticket}
use Rattle.lap_session.specs.Session.{refits_next, counts_agree, part_new}

-- ---- whether the next lap is fitted again
pub inside : (k : ℕ) (ls : List Lap) → (k ≡ 0 → ⊥) → next_lacks k ls ≡ refits_next k ls
unfolding refits_next
inside k ls h = rw (ne_eqb k 0 h)

-- ---- the counts, as they are compared
module _ (k : ℕ) (ls : List Lap) (all n m : ℕ) where
  module _ (e : n + m ≡ all) (h : n ≡ 0 → ⊥) (b : Bool) (f : b ≡ refits_next k ls) where
    pub counts-both : b ≡ true → not (eqb m 0) ≡ counts_agree k ls all n m
    unfolding counts_agree
    counts-both g = rw (eq-eqb (n + m) all e, ne_eqb n 0 h, ← f, g)

    pub counts-one : b ≡ false → eqb m 0 ≡ counts_agree k ls all n m
    unfolding counts_agree
    counts-one g = rw (eq-eqb (n + m) all e, ne_eqb n 0 h, ← f, g)

  -- counts that agree add up
  pub counts_sum : counts_agree k ls all n m ≡ true → n + m ≡ all
  unfolding counts_agree
  counts_sum e = eqb-true (n + m) all (and_left (eqb (n + m) all) _ (and_left (eqb (n + m) all && not (eqb n 0)) _ e))

-- so the laps of a part lie in it
pub in_part : (k : ℕ) (ls : List Lap) (part : List ℕ) (n m : ℕ) → counts_agree k ls (length part / 73) n m ≡ true → 73 * (n + m) ≤ length part
in_part k ls part n m e = let s = counts_sum k ls (length part / 73) n m e in omega (arith, s)

-- ---- the file that is stored has no more commands than its most
pub stored-most : (t : Ticket) (s f part : List ℕ) → 1 ≤ t.lap → counts_agree t.lap (laps_of s) (length part / 73) t.count t.next ≡ true
    → command_count (stored_laps t.lap (laps_of s) part t.count t.next (laps_of f)) ≤ most_with (part_new t (laps_of s) part) t.lap s f
unfolding stored_laps most_with
stored-most t s f part h e =
    let a = counts_sum t.lap (laps_of s) (length part / 73) t.count t.next e in
    let x = length_commands part 0 t.count in
    let y = length_commands part (73 * t.count) t.next in
    let b = total_both (next_lacks t.lap (laps_of s)) t.lap (commands_at part 0 t.count) (commands_at part (73 * t.count) t.next) (laps_of f) h in
    omega (arith, a, x, y, b)
