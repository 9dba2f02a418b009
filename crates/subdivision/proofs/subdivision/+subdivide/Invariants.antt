-- `subdivision::subdivision::subdivide` meets its contract: one end where it stops, else the left half's ends and the right half's behind them. The measure is the depth. Assumes nothing.
use Rattle.subdivision.proofs.subdivision.+subdivide.Given as goal

abbrev pub decreases-subdivide : goal.decreases-subdivide
decreases-subdivide g l = l.depth
