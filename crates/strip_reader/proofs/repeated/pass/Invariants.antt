-- The pass over all frames is the pass over those still to come, with what is kept. Assumes nothing.
use Rattle.std.proofs.Common.{◌≡◌, ◌-◌, ◌≤◌, length, take, drop}
use Rattle.blocks.specs.Kind.{kind_of}
use Rattle.strip_reader.specs.Key.{form_of}
use Rattle.strip_reader.specs.Skip.{frames}
use Rattle.strip_reader.specs.Repeated.{pass, nothing, kept_in, Ascending}
use Rattle.strip_reader.proofs.repeated.pass.Given as goal

abbrev pub invariant-keys : goal.invariant-keys
invariant-keys l = record {
  within : l.collected.count ≤ length l.space;
  ascending : Ascending l.least (take l.collected.count l.space);
  same : pass (length l.space) l.least (frames (form_of (kind_of l.kind)) (l.count - l.counter) (drop l.at l.strip)) (kept_in l.space l.collected) ≡ pass (length l.initial.space) l.least (frames (form_of (kind_of l.kind)) l.count (drop l.at-2 l.strip)) nothing;
}
