use Rattle.std.proofs.Common.{sym, arith}
use Rattle.listing_lines.proofs.{Behind.{behind, ends-here, same-text}, RowLines.{next-row, no-row}}
use Rattle.listing_lines.proofs.rows.write_rows.Goals as goal

pub loop-row-preserved : goal.loop-row-preserved
loop-row-preserved c =
    let next = next-row c.args.rows.now c.loop-row.row-index c.loop-row-test.true in
    let written = c.write_row-end.ensures.ends in
    record {
      within = omega arith;
      all = λ last new others. c.loop-row.invariant.all last new (same-text (sym next) (behind c.write_row-end.ensures others));
    }

pub returns : goal.returns
returns c =
    c.loop-row.invariant.all _ _
    (ends-here c.loop-row.invariant.within (no-row c.args.rows.now c.loop-row.row-index c.loop-row-test.false))
