use Rattle.blocks.specs.Kind.{kind_of}
use Rattle.strip_reader.specs.Key.{form_of}
use Rattle.strip_reader.proofs.Found.{Passed}
use Rattle.strip_reader.proofs.find.skip_keys.Given as goal

abbrev pub invariant-keys : goal.invariant-keys
invariant-keys l = Passed (form_of (kind_of l.kind)) l.strip l.at l.counter l.next
