use Rattle.listing_lines.specs.Lines.{key_line}
use Rattle.listing_lines.proofs.Behind.{behind}
use Rattle.listing_lines.proofs.lines.write_key.Goals as goal

pub returns : goal.returns
unfolding key_line
returns c =
    behind (behind (behind (behind c.write-behind.ensures c.write_spaced-behind_track.ensures) c.write_spaced-behind_frame.ensures) c.write_spaced-behind_map.ensures) c.write.ensures
