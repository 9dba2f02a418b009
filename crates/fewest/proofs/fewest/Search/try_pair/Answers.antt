-- `fewest::fewest::Search::try_pair` meets its contract: each way out is one answer that a pair has in a search that goes on. Assumes nothing.
use mathlib.Core.Path.{refl, sym, ◌∙◌}
use Rattle.fewest.proofs.Search.{stays, is_spent, is_missed, is_end, is_on}
use Rattle.fewest.proofs.fewest.Search.try_pair.Goals as goal

pub returns-then-self-v-gt0 : goal.returns-then-self-v-gt0
returns-then-self-v-gt0 c = let a = c.args in record { task = refl; finished = refl; state = stays a.self.now a.u a.v c.requires.2.1 c.if-self-v-gt0.true }

pub returns-then-self : goal.returns-then-self
returns-then-self c = let a = c.args in record { task = refl; finished = refl; state = is_spent a.self.now a.u a.v c.requires.2.1 c.if-self-v-gt0.false c.if-self.true }

pub returns-then-v-self : goal.returns-then-v-self
returns-then-v-self c = let a = c.args in
    record { task = refl; finished = refl; state = is_end a.self.now a.u a.v c.requires.2.1 c.if-self-v-gt0.false c.if-self.false (sym c.passes.ensures ∙ c.if-passes.true) c.if-v-self.true }

pub returns-else-v-self : goal.returns-else-v-self
returns-else-v-self c = let a = c.args in
    record { task = refl; finished = refl; state = is_on a.self.now a.u a.v c.requires.2.1 c.if-self-v-gt0.false c.if-self.false (sym c.passes.ensures ∙ c.if-passes.true) c.if-v-self.false }

pub returns-else-passes : goal.returns-else-passes
returns-else-passes c = let a = c.args in
    record { task = refl; finished = refl; state = is_missed a.self.now a.u a.v c.requires.2.1 c.if-self-v-gt0.false c.if-self.false (sym c.passes.ensures ∙ c.if-passes.false) }
