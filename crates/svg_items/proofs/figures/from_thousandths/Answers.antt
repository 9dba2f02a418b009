-- `svg_items::figures::from_thousandths` meets its contract. Assumes nothing.
use Rattle.svg_items.proofs.Signed.{divided}
use Rattle.svg_items.proofs.figures.from_thousandths.Goals as goal

pub returns : goal.returns
returns c = divided c.args.v c.requires
