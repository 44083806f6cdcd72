-- If the record at the guessed place bears the link, it is the one that a search would find, since no other bears it. Assumes nothing.
use Rattle.std.proofs.Common.{sym, ◌∙◌}
use Rattle.clip.proofs.Indexed.{of-record}
use Rattle.chains.proofs.ByIndex.{slots-below}
use Rattle.chains.proofs.lookup.Indexed.lookup.Goals as goal

pub returns-then-index_at-link : goal.returns-then-index_at-link
returns-then-index_at-link c =
    let below = slots-below _ _ c.args.self.now.ordered.fits _ c.args.self.now.ordered.positions _ c.if-place-self.true in
    sym (of-record _ c.args.self.now.ordered.indexed c.args.link _ below (sym c.index_at.ensures ∙ c.if-index_at-link.true))
