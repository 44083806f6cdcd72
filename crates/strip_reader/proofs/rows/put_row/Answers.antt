use Rattle.strip_reader.proofs.RowNumbers.{row-before, row-outside, row-copied}
use Rattle.strip_reader.proofs.rows.put_row.Goals as goal
use Rattle.strip_reader.proofs.rows.put_row.Goals.{then-number-first-via-then-number-first, then-number-first-via-else-number-first+then-rows-number}

pub returns-then-number-first : goal.returns-then-number-first
returns-then-number-first c =
    elim c.then-number-first.branch [
      | then-number-first-via-then-number-first w ↦ row-before _ _ _ _ w.if-number-first.true
      | then-number-first-via-else-number-first+then-rows-number w ↦ row-outside _ _ _ _ w.if-rows-number.true
    ]

pub returns : goal.returns
returns c = row-copied _ _ _ _ c.copy_from_slice.new.self c.if-number-first.false c.if-rows-number.false c.copy_from_slice.ensures.after
