-- `lap_swap::swap::put_file` meets its contract: the laps that are left, written from here, give the whole file, each lap in what is left of the output. Assumes nothing.
use native.Mathlib.Omega.{arith}
use Rattle.std.specs.Option.{is_some}
use Rattle.laps.proofs.Going.{turn}
use Rattle.laps.proofs.Turns.{fits_next}
use Rattle.file.specs.Command.{commands_at}
use Rattle.laps.proofs.Whole.{length_commands, whole-commands}
use Rattle.lap_swap.specs.Swap.{commands_of}
use Rattle.lap_swap.proofs.Body.{whole_of}
use Rattle.lap_swap.proofs.Turns.{swap_begin, swap_turn, swap-done}
use Rattle.lap_swap.proofs.swap.put_file.Goals as goal

pub loop-j-init : goal.loop-j-init
loop-j-init c = let a = c.args in let p = c.requires in swap_begin a.fitted.bytes.now (is_some a.next) a.k (commands_at a.new.bytes.now a.new.at a.new.count) (commands_of a.next) _ _ p.0 c.lap_count-l.ensures.0 (omega (arith, p, c.put_head.auto))

pub copy_lap-requires : goal.copy_lap-requires
copy_lap-requires c = let a = c.args in let l = c.loop-j in let b = c.choose-lap.result in
    let f = fits_next _ _ _ _ _ _ _ _ (swap_turn a.fitted.bytes.now (is_some a.next) a.k (commands_at a.new.bytes.now a.new.at a.new.count) (commands_of a.next) _ l.out _ l.j l.to _ _ _ (omega arith) c.lap.ensures.lap c.choose-lap.ensures l.invariant) in
    let n = length_commands b.bytes.now b.at b.count in omega (arith, f, n)

pub loop-j-preserved : goal.loop-j-preserved
loop-j-preserved c = let a = c.args in let l = c.loop-j in
    turn _ l.out _ _ _ l.j l.to _ _ _ _ (swap_turn a.fitted.bytes.now (is_some a.next) a.k (commands_at a.new.bytes.now a.new.at a.new.count) (commands_of a.next) _ l.out _ l.j l.to _ _ _ (omega arith) c.lap.ensures.lap c.choose-lap.ensures l.invariant) c.copy_lap.ensures.count c.copy_lap.ensures.bytes c.put_entry.ensures

pub returns : goal.returns
returns c = let a = c.args in let l = c.loop-j in let n = a.new in
    swap-done a.fitted.bytes.now (is_some a.next) a.k (commands_at n.bytes.now n.at n.count) (commands_of a.next) a.out.now _ l.out _ l.j l.to (whole-commands n.bytes.now n.at n.count n.inside) (whole_of a.next) c.lap_count-l.ensures.0 c.loop-j-test.false a.fitted.table c.put_head.ensures l.invariant
