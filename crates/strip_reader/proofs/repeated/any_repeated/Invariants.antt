use Rattle.std.proofs.Common.{◌-◌, drop}
use Rattle.blocks.specs.Kind.{kind_of}
use Rattle.strip_reader.specs.Key.{form_of}
use Rattle.strip_reader.specs.Skip.{frames}
use Rattle.strip_reader.proofs.Passes.{DistinctBelow}
use Rattle.strip_reader.proofs.repeated.any_repeated.Given as goal

abbrev pub invariant-passes : goal.invariant-passes
invariant-passes l = DistinctBelow l.least (frames (form_of (kind_of l.kind)) l.count (drop l.at l.strip))

abbrev pub decreases-passes : goal.decreases-passes
decreases-passes l = 4294967296 - l.least
