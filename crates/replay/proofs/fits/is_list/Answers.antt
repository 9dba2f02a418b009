-- `replay::fits::is_list` is safe: the bytes reach as far as the list. The measure is how many numbers are left. Assumes nothing.
use mathlib.Core.Path.{refl}
use native.Mathlib.Omega.{arith}
use Rattle.replay.proofs.fits.is_list.Goals as goal

pub loop-i-init : goal.loop-i-init
loop-i-init c = (omega arith, refl)
