-- `lap_swap::swap::put_file` meets its contract: the laps that are left, written from here, give the whole file, each lap in what is left of the output. Assumes nothing.
use Prim.Native.Nat.{◌+◌}
use lib.ListN.{drop}
use Rattle.std.specs.Option.{is_some}
use Rattle.laps.specs.File.{laps_of}
use Rattle.laps.proofs.Going.{Going}
use Rattle.file.specs.Command.{commands_at}
use Rattle.lap_swap.specs.Swap.{commands_of, swap_both}
use Rattle.lap_swap.proofs.Turns.{both_from}
use Rattle.lap_swap.proofs.swap.put_file.Given as goal

abbrev pub invariant-loop-j : goal.invariant-loop-j
invariant-loop-j l = Going l.initial.out l.out l.l l.j l.to (both_from (is_some l.next) l.k (commands_at l.new.bytes.now l.new.at l.new.count) (commands_of l.next) (l.j + 1) (drop l.j (laps_of l.fitted.bytes.now))) (swap_both (is_some l.next) l.k (commands_at l.new.bytes.now l.new.at l.new.count) (commands_of l.next) (laps_of l.fitted.bytes.now))
