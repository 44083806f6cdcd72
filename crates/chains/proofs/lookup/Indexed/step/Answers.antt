-- The record of a link is one of the kind's, so its next link can be read. Assumes nothing.
use Rattle.std.proofs.Common.{sym}
use Rattle.clip.proofs.Indexed.{record_of-found}
use Rattle.chains.proofs.lookup.Indexed.step.Goals as goal

pub next_at-requires : goal.next_at-requires
next_at-requires c = (record_of-found _ _ _ (sym c.in_ok-at.ensures)).0
