use Rattle.blocks.specs.Kind.{kind_of}
use Rattle.strip_reader.specs.Key.{form_of}
use Rattle.strip_reader.proofs.KeysPassed.{Passing}
use Rattle.strip_reader.proofs.pass.pass_keys.Given as goal

abbrev pub invariant-keys : goal.invariant-keys
invariant-keys l = Passing (form_of (kind_of l.kind)) l.count l.strip l.at l.next l.read l.least l.rise
