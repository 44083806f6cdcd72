use Rattle.blocks.specs.Kind.{kind_of}
use Rattle.strip_reader.proofs.RowsWritten.{KeysAlong}
use Rattle.strip_reader.proofs.all_keys.put_track.Given as goal

abbrev pub invariant-keys : goal.invariant-keys
invariant-keys l = KeysAlong (kind_of l.kind) l.track l.count l.first l.strip l.from l.fn.slice l.next l.place l.slice
