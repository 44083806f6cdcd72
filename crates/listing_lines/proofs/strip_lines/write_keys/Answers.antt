use Rattle.std.proofs.Common.{length, take, ◌≡◌, sym, ap, ◌∙◌, arith}
use Rattle.strip_reader.specs.Answers.{rows}
use Rattle.listing_lines.specs.Rows.{row_lines}
use Rattle.listing_lines.proofs.{Behind.{behind, ends-here, same-text}, RowLines.{no-row, of-strip, count-strip}, Chunks.{chunk, chunk-lines}}
use Rattle.listing_lines.proofs.strip_lines.write_keys.Goals as goal

pub loop-first-init : goal.loop-first-init
loop-first-init c =
    record {
      long = omega arith;
      within = c.requires.place;
      met = omega arith;
      all = λ contents reads last new others. same-text (of-strip contents) others;
    }

pub loop-first-preserved : goal.loop-first-preserved
loop-first-preserved c =
    let l = c.loop-first in
    let ends = c.write_rows-end.ensures.ends in
    let met = c.min-met.result in
    let some = c.min-met.ensures in
    let same : length c.keys.new.rows ≡ length l.rows = c.keys.auto.rows in
    record {
      long = same ∙ l.invariant.long;
      within = omega arith;
      met = omega arith;
      all = λ contents reads last new others.
          let counts = c.requires.counted contents reads ∙ sym (count-strip contents) in
          let asked = ap (take met) c.as_chunks.ensures.front ∙ chunk {old = l.rows} c.args.count met contents c.keys.ensures reads same counts (omega arith) in
          l.invariant.all contents reads last new
          (same-text (chunk-lines l.first met (rows contents)) (behind (same-text (ap row_lines asked) c.write_rows-end.ensures) others));
    }

pub returns-clause-writes : goal.returns-clause-writes
returns-clause-writes c contents reads =
    let l = c.loop-first in
    let counts = c.requires.counted contents reads in
    l.invariant.all contents reads _ _ (ends-here l.invariant.within (no-row (rows contents) l.first (omega (arith, counts, count-strip contents))))
