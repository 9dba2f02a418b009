-- `laps::lap_file::walks` meets its contract: the entries that are left decide the whole answer, and the commands so far bound every sum. The measure is how many entries are left. Assumes nothing.
use Prim.Native.Nat.{◌+◌, ◌-◌, ◌*◌, ◌≤◌}
use mathlib.Core.Path.{◌≡◌}
use Rattle.laps.specs.File.{walk}
use Rattle.laps.proofs.lap_file.walks.Given as goal

abbrev pub invariant-loop-j : goal.invariant-loop-j
invariant-loop-j l = (l.j ≤ l.l) × (l.total ≤ 800) × (l.at ≡ 8 + 8 * l.l + 73 * l.total) × (walk l.s l.j l.at l.total (l.l - l.j) ≡ walk l.s 0 (8 + 8 * l.l) 0 l.l)

abbrev pub decreases-loop-j : goal.decreases-loop-j
decreases-loop-j l = l.l - l.j
