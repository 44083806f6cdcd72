-- Slots by rising index have numbers that do not fall, as the search asks. Assumes nothing.
use Rattle.chains.proofs.ByIndex.{slots-rise}
use Rattle.chains.proofs.lookup.Indexed.by_index.Goals as goal

pub invariant_of-rising : goal.invariant_of-rising
invariant_of-rising c = record { numbers_rise = slots-rise _ _ c.args.self.now.ordered.fits _ c.args.self.now.ordered.positions }
