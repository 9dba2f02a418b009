-- `replay::thinner::put_slots` is safe: there is room for the slots. Assumes nothing.
use Rattle.std.proofs.Common.{sym, ◌∙◌}
use Rattle.std.proofs.lemmas.List.{length-take-le}
use Rattle.replay.proofs.thinner.put_slots.Goals as goal

pub copy_from_slice-requires : goal.copy_from_slice-requires
copy_from_slice-requires c = length-take-le 195 c.args.out.now c.requires ∙ sym c.told-points
