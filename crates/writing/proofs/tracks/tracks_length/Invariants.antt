-- The tracks below `number` have `bytes` bytes.
use Rattle.writing.specs.Tracks.{first_tracks}
use mathlib.Core.Path.{◌≡◌}
use lib.ListN.{length}
use Rattle.writing.proofs.tracks.tracks_length.Given as goal

abbrev pub invariant-loop-number : goal.invariant-loop-number
invariant-loop-number l = l.bytes ≡ length (first_tracks l.chains.indexed.records.section.now l.chains.indexed.records.block l.number)
