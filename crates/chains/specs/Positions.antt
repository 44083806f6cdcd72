-- The records of a chain, and what is left of them where it is followed.
use Rattle.std.specs.Prelude.{ℕ, List, drop}
use Rattle.blocks.specs.Track.{number_of_track}
use Rattle.chains.specs.Chain.{chain_at}
use Rattle.chains.specs.declared.{chain.Chain.{Chain}, positions.Positions.{Positions}}

abbrev pub records_of : Chain → List ℕ
records_of c = chain_at c.indexed.records.section.now c.indexed.records.block (number_of_track c.track)

abbrev pub positions_left : Positions → List ℕ
positions_left p = drop p.taken (records_of p.chain)
