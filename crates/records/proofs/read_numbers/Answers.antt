-- `records::read_numbers` meets its contract: the numbers that are left, stored from here, give the whole. The measure is how many they are. Assumes nothing.
use Prim.Native.Nat.{◌/◌}
use mathlib.Core.Path.{refl, ap, ◌∙◌}
use native.Mathlib.Omega.{arith}
use lib.Ieee.{binary64, of_bits}
use lib.ListN.{length}
use Rattle.file.specs.Bytes.{word_at}
use Rattle.records.specs.Words.{numbers_at}
use Rattle.records.proofs.Lists.{storing_start, storing_step, storing_done}
use Rattle.records.proofs.read_numbers.Goals as goal

pub loop-i-init : goal.loop-i-init
loop-i-init c = (refl, storing_start _ (length c.args.s.now / 8) _)

pub offset_bounds-numbers-i : goal.offset_bounds-numbers-i
offset_bounds-numbers-i c = let e = c.loop-i.invariant.0 in let l = c.loop-i.invariant.1.long in omega arith

pub bounds-numbers-i : goal.bounds-numbers-i
bounds-numbers-i c = let e = c.loop-i.invariant.0 in let l = c.loop-i.invariant.1.long in omega arith

pub loop-i-preserved : goal.loop-i-preserved
loop-i-preserved c = let e = c.loop-i.invariant.0 in (e, storing_step _ (length c.args.s.now / 8) _ c.loop-i.numbers c.loop-i.i _ (omega (arith, e)) (c.float_of.ensures ∙ ap (of_bits binary64) (c.word_at.ensures ∙ ap (word_at c.args.s.now) (omega arith))) c.loop-i.invariant.1)

pub shape_of-numbers : goal.shape_of-numbers
shape_of-numbers c = c.loop-i.invariant.1.long

pub returns : goal.returns
unfolding numbers_at
returns c = let e = c.loop-i.invariant.0 in storing_done _ (length c.args.s.now / 8) _ c.loop-i.numbers c.loop-i.i (omega (arith, e)) c.loop-i.invariant.1
