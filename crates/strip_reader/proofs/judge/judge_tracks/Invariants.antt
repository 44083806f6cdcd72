use Rattle.blocks.specs.Kind.{kind_of}
use Rattle.strip_reader.specs.Key.{form_of}
use Rattle.strip_reader.proofs.JudgedTracks.{Judging}
use Rattle.strip_reader.proofs.judge.judge_tracks.Given as goal

abbrev pub invariant-tracks : goal.invariant-tracks
invariant-tracks l = Judging (form_of (kind_of l.kind)) l.count l.strip l.at l.next l.counter l.additional
