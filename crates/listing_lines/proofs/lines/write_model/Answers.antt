use Rattle.listing_lines.specs.Lines.{model_line}
use Rattle.listing_lines.proofs.Behind.{behind}
use Rattle.listing_lines.proofs.lines.write_model.Goals as goal

pub returns : goal.returns
unfolding model_line
returns c =
    behind (behind (behind (behind c.write-behind.ensures c.write_spaced-behind_bones.ensures) c.write_spaced-behind_morphs.ensures) c.write_spaced-behind_end.ensures) c.write.ensures
