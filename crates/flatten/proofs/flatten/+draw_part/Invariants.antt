-- `flatten::flatten::draw_part` meets its contract: one Line where no halving is left or the part is flat, else those of its two halves, one behind the other. The measure is the number of halvings left. Assumes nothing.
use Rattle.flatten.proofs.flatten.+draw_part.Given as goal

abbrev pub decreases-draw_part : goal.decreases-draw_part
decreases-draw_part l = l.left
