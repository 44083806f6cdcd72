use Rattle.std.proofs.Common.{◌-◌, drop, ◌∙◌, arith, length-drop, take_all}
use Rattle.listing_lines.proofs.Behind.{behind, same-text}
use Rattle.listing_lines.proofs.text.write_spaced.Goals as goal

-- The slice of the digits is all that stands from their beginning on.
pub returns : goal.returns
returns c =
    let digits = c.write_digits-begin.new.digits in
    let begin = c.write_digits-begin.result in
    let whole = take_all (20 - begin) (drop begin digits) (omega (arith, length-drop begin digits, c.write_digits-begin.auto.digits)) in
    behind c.write-behind.ensures (same-text (whole ∙ c.write_digits-begin.ensures.leaves) c.write.ensures)
