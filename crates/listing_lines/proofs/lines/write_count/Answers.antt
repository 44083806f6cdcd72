use Rattle.listing_lines.specs.Lines.{count_line}
use Rattle.listing_lines.proofs.Behind.{behind}
use Rattle.listing_lines.proofs.lines.write_count.Goals as goal

pub returns : goal.returns
unfolding count_line
returns c =
    behind (behind (behind (behind c.write-behind.ensures c.write_spaced-behind_keys.ensures) c.write-behind_word.ensures) c.write_spaced-behind_loose.ensures) c.write.ensures
