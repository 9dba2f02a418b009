-- `listing::listing::letter` meets its contract: by the kind. Assumes nothing.
use native.Mathlib.Omega.{arith}
use Rattle.listing.specs.Rows.{letter_of}
use Rattle.listing.proofs.Laws.{arc_letter}
use Rattle.listing.proofs.listing.letter.Goals as goal

pub returns-in-0 : goal.returns-in-0
unfolding letter_of
returns-in-0 c = rw c.in-0.is

pub returns-in-1 : goal.returns-in-1
unfolding letter_of
returns-in-1 c = rw c.in-1.is

pub returns-in_default : goal.returns-in_default
returns-in_default c = arc_letter c.args.kind (omega arith)
