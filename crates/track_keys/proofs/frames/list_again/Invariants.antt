-- The positions passed, which are the front of the chain, stand at the front of the list.
use Rattle.std.proofs.Common.{◌≡◌, length, take}
use Rattle.chains.specs.Chain.{chain_at}
use Rattle.blocks.specs.Track.{number_of_track}
use Rattle.track_keys.proofs.frames.list_again.Given as goal

abbrev pub invariant-loop-i : goal.invariant-loop-i
invariant-loop-i l = take (length l.yielded) l.list ≡ take (length l.yielded) (chain_at l.chain.indexed.records.section.now l.chain.indexed.records.block (number_of_track l.chain.track))
