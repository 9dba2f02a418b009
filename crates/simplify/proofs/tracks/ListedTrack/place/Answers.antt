-- `Listed::place` meets its contract: one command more at the outputs' fronts. Assumes nothing.
use mathlib.Core.Path.{◌≡◌, ap, ◌∙◌}
use Prim.Native.Nat.{◌*◌}
use lib.ListN.{set}
use lib.Seq.{sets}
use Rattle.geo.specs.declared.types.Command.{Command}
use Rattle.geo.specs.Lent.{command_at, kind_of, numbers_of}
use Rattle.geo.proofs.Wrote.{nine}
use Rattle.simplify.specs.Placed.{one_placed, kind_placed}
use Rattle.simplify.proofs.tracks.ListedTrack.place.Goals as goal

pub returns : goal.returns
returns c = λ s xs w h. let a = c.args in
    let e : c.at.result ≡ command_at s.commands.kinds.now s.commands.nums.now a.from = c.at.ensures ∙ rw (w.0, w.1) in (
      w.0,
      w.1,
      w.2,
      w.3,
      kind_placed s.kinds.now a.self.now.kinds.now _ xs _ a.to w.4 h (c.put_command.ensures.kinds ∙ ap (λ (q : Command). set a.self.now.kinds.now a.to (kind_of q)) e),
      one_placed numbers_of 9 nine s.nums.now a.self.now.nums.now _ xs _ a.to w.5 h (c.put_command.ensures.numbers ∙ ap (λ (q : Command). sets a.self.now.nums.now (9 * a.to) (numbers_of q)) e),
    )
