use Rattle.std.proofs.Common.{◌+◌, ◌*◌, ◌≤◌}
use Rattle.blocks.specs.Kind.{kind_of}
use Rattle.strip_reader.proofs.RowsWritten.{TracksAlong}
use Rattle.strip_reader.proofs.all_keys.put_tracks.Given as goal

abbrev pub invariant-tracks : goal.invariant-tracks
invariant-tracks l = record {
  along : TracksAlong (kind_of l.kind) l.count l.first l.strip l.fn.from l.fn.slice l.reached l.track l.slice;
  within : l.reached.number ≤ l.fn.from.number + 65535 * l.track;
}
