-- An entry is passed: what was met and what is left go on to give the same (EntryByEntry), and the list left is shorter. Assumes nothing.
use Rattle.std.proofs.Common.{sym, ◌∙◌, arith}
use Rattle.asset_references.specs.{Normalize.{collapsed}, References.{reference}}
use Rattle.asset_references.proofs.{References.{shorter}, EntryByEntry.{index-more}}
use Rattle.asset_references.proofs.index.index_in.Goals as goal

pub entries-smaller : goal.entries-smaller
entries-smaller c = shorter c.entries.rest.now (reference c.in-Some.kind c.in-Some.text.now) c.in-Some.others.now (sym c.in-Some.ensures)

pub entries-preserved : goal.entries-preserved
entries-preserved c =
    let first = reference c.in-Some.kind c.in-Some.text.now in
    let less = shorter c.entries.rest.now first c.in-Some.others.now (sym c.in-Some.ensures) in
    record {
      same = c.entries.invariant.same ∙ index-more (collapsed c.normalize_path-normalized.result.now) c.entries.is_all_ascii c.entries.found c.entries.number c.entries.rest.now first c.in-Some.others.now _ _ c.in-Some.ensures c.is_ascii-is_all_ascii-in-entries.ensures c.first_found-found.ensures;
      few = omega (arith, c.entries.invariant.few);
    }
