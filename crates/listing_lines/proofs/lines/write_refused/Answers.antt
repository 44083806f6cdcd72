use Rattle.listing_lines.specs.Lines.{refused_line}
use Rattle.listing_lines.proofs.Behind.{behind}
use Rattle.listing_lines.proofs.lines.write_refused.Goals as goal

pub returns : goal.returns
unfolding refused_line
returns c =
    behind (behind c.write-behind.ensures c.write_spaced-behind_number.ensures) c.write.ensures
