-- `flatten::flatten::draw_quarters` meets its contract: the Lines of the first quarter, and behind them those of the rest. The measure is the number of quarter turns left. Assumes nothing.
use Rattle.flatten.proofs.flatten.+draw_quarters.Given as goal

abbrev pub decreases-draw_quarters : goal.decreases-draw_quarters
decreases-draw_quarters l = l.k
