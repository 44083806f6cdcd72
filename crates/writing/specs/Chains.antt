-- The bytes of what a chain, or all chains, are of in a strip, and that its keys were accepted.
use Rattle.std.specs.Prelude.{ℕ, List}
use Rattle.blocks.specs.Track.{number_of_track}
use Rattle.chains.specs.Positions.{records_of}
use Rattle.chains.specs.declared.chain.{Chain.{Chain}, Chains.{Chains}}
use Rattle.track_keys.specs.Fine.{KeysFine, AllFine}
use Rattle.writing.specs.Tracks.{records_bytes, strip_track, strip_tracks}

-- The keys of a chain's records; the track; all tracks.
abbrev pub keys_bytes_of : Chain → List ℕ
keys_bytes_of c = records_bytes c.indexed.records.section.now c.indexed.records.block (records_of c)

abbrev pub track_of : Chain → List ℕ
track_of c = strip_track c.indexed.records.section.now c.indexed.records.block (number_of_track c.track)

abbrev pub tracks_of : Chains → List ℕ
tracks_of c = strip_tracks c.indexed.records.section.now c.indexed.records.block

-- No key of the track meets anything; no key of any track.
abbrev pub Fine : Chain → Type 0
Fine c = KeysFine c.indexed.records.section.now c.indexed.records.block (number_of_track c.track)

abbrev pub FineTracks : Chains → Type 0
FineTracks c = AllFine c.indexed.records.section.now c.indexed.records.block
