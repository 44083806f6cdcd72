-- What is left of the list, with what was met so far, gives what the whole list gives.
use Rattle.std.proofs.Common.{◌≡◌, ◌+◌, ◌≤◌, length}
use Rattle.asset_references.specs.{Normalize.{collapsed}, References.{references}, Index.{index_in}}
use Rattle.asset_references.proofs.EntryByEntry.{index_behind}
use Rattle.asset_references.proofs.index.index_in.Given as goal

abbrev pub invariant-entries : goal.invariant-entries
invariant-entries l = record {
  same : index_in l.path (references l.list) ≡ index_behind (collapsed l.normalized) l.is_all_ascii l.found l.number (references l.rest);
  few : l.number + length l.rest ≤ length l.list;
}

abbrev pub decreases-entries : goal.decreases-entries
decreases-entries l = length l.rest
