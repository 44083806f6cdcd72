use Rattle.blocks.specs.Kind.{kind_of}
use Rattle.strip_reader.specs.Key.{form_of}
use Rattle.strip_reader.proofs.Found.{TracksPassed}
use Rattle.strip_reader.proofs.find.skip_tracks.Given as goal

abbrev pub invariant-tracks : goal.invariant-tracks
invariant-tracks l = TracksPassed (form_of (kind_of l.kind)) l.strip l.at l.counter l.next
