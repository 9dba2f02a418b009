-- `records::read_numbers` meets its contract: the numbers that are left, stored from here, give the whole. The measure is how many they are. Assumes nothing.
use Prim.Native.Nat.{◌+◌, ◌-◌, ◌*◌, ◌/◌}
use mathlib.Core.Path.{◌≡◌}
use lib.Ieee.{binary64, of_bits}
use lib.ListN.{length}
use Rattle.file.specs.Bytes.{word_at}
use Rattle.records.proofs.Lists.{Storing}
use Rattle.records.proofs.read_numbers.Given as goal

abbrev pub invariant-loop-i : goal.invariant-loop-i
invariant-loop-i l = (l.i-end ≡ length l.s / 8) × Storing (λ k. of_bits binary64 (word_at l.s (0 + 8 * k))) (length l.s / 8) l.initial.numbers l.numbers l.i

abbrev pub decreases-loop-i : goal.decreases-loop-i
decreases-loop-i l = l.i-end - l.i
