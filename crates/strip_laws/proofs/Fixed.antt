-- What a call answers is fixed by its contract (specs, Fixed), since an answer is told back from what is said of it (Back). Assumes
-- nothing.
use Rattle.std.proofs.Common.{sym, ◌∙◌}
use Rattle.section.specs.Limits.{edition1}
use Rattle.strip.specs.Strip.{count_width}
use Rattle.blocks.specs.{Kind.{kind_of}, Track.{kind_of_track, number_of_track}}
use Rattle.strip_reader.specs.Answers.{counts, key_count, key, keys}
use Rattle.strip_laws.specs.Fixed.{Fixed}
use Rattle.strip_laws.proofs.Back.{same-said}

pub fixed : Fixed
fixed =
    record {
      counts = λ strip x y e f. same-said x y (counts edition1 count_width strip) e f;
      key_count = λ strip track x y e f. same-said x y (key_count edition1 count_width (kind_of (kind_of_track track)) (number_of_track track) strip) e f;
      key = λ strip track place x y e f. same-said x y (key edition1 count_width (kind_of (kind_of_track track)) (number_of_track track) place strip) e f;
      keys = λ strip first before x y after_x after_y e f. (same-said x y (keys edition1 count_width first strip before).answer e.answers f.answers, e.leaves ∙ sym f.leaves);
    }
