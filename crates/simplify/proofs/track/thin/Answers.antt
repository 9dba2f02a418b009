-- `track::thin` meets its contract: the flags set are those of the kept indices, which ascend, so that what closes up is the track, thinned. Assumes nothing.
use mathlib.Core.Path.{sym, ap, ◌∙◌, subst}
use native.Mathlib.Omega.{arith}
use lib.ListN.{length}
use Rattle.simplify.proofs.Flags.{flagged_kept, none-kept}
use Rattle.simplify.proofs.track.thin.Goals as goal

pub returns-then-n-eq0-clause-count : goal.returns-then-n-eq0-clause-count
returns-then-n-eq0-clause-count g c = let s = c.args.track.now in
    sym (ap length (none-kept g.T.Track.always (g.T.Track.measure s) c.args.limit (g.T.Track.item s) _ (sym c.len-n.ensures ∙ c.if-n-eq0.true)))

pub returns-then-n-eq0-clause-items : goal.returns-then-n-eq0-clause-items
returns-then-n-eq0-clause-items g c = let s = c.args.track.now in
    subst (λ xs. g.T.Track.Placed s xs s) (sym (none-kept g.T.Track.always (g.T.Track.measure s) c.args.limit (g.T.Track.item s) _ (sym c.len-n.ensures ∙ c.if-n-eq0.true))) (g.met.T.Track.begun s)

pub returns-clause-count : goal.returns-clause-count
returns-clause-count g c = let s = c.args.track.now in
    c.close_up.ensures.count ∙ ap length (flagged_kept (g.T.Track.measure s) c.args.limit c.requires.0 (g.T.Track.item s) 2048 _ (omega arith) (omega arith) _ c.mark.ensures g.T.Track.always _ c.len-n.ensures)

pub returns-clause-items : goal.returns-clause-items
returns-clause-items g c = let s = c.args.track.now in
    subst (λ xs. g.T.Track.Placed s xs c.close_up.new.track) (flagged_kept (g.T.Track.measure s) c.args.limit c.requires.0 (g.T.Track.item s) 2048 _ (omega arith) (omega arith) _ c.mark.ensures g.T.Track.always _ c.len-n.ensures) c.close_up.ensures.items
