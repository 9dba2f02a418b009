-- `records::are_numbers_written` meets its contract: the numbers that are not compared yet decide the whole answer. The measure is how many they are. Assumes nothing.
use mathlib.Core.Path.{◌≡◌}
use Prim.Native.Nat.{◌+◌, ◌-◌, ◌*◌, ◌/◌}
use lib.ListN.{length, get_or}
use lib.Ieee.{nan}
use Rattle.geo.specs.Domain.{every_from}
use Rattle.file.specs.Bytes.{word_at}
use Rattle.records.specs.Words.{has_pattern, numbers_written}
use Rattle.records.proofs.are_numbers_written.Given as goal

abbrev pub invariant-loop-i : goal.invariant-loop-i
invariant-loop-i l = (l.i-end ≡ length l.s / 8) × (every_from (λ k. has_pattern (get_or l.out k nan) (word_at l.s (0 + 8 * k))) (length l.s / 8 - l.i) l.i ≡ numbers_written l.s 0 (length l.s / 8) l.out)

abbrev pub decreases-loop-i : goal.decreases-loop-i
decreases-loop-i l = l.i-end - l.i
