-- What a judge answers is what the call answers. Assumes nothing.
use Rattle.std.proofs.Common.{◌≡◌, ℕ, List, sym}
use Rattle.layout.specs.Walk.{answered, declined}
use Rattle.section.specs.Limits.{edition1}
use Rattle.strip.specs.Strip.{count_width}
use Rattle.strip_reader.specs.Answers.{reader_refusal, counts}
use Rattle.strip_reader.specs.declared.{refusal.ReaderRefusal.{ReaderRefusal}, counts.StripCounts.{StripCounts}}

module _ (s : List ℕ) where
  pub counted : (told : StripCounts) → counts edition1 count_width s ≡ answered told → answered told ≡ counts edition1 count_width s
  counted told e = sym e

  pub refused : (why : ReaderRefusal) → counts edition1 count_width s ≡ declined (reader_refusal why) → declined (reader_refusal why) ≡ counts edition1 count_width s
  refused why e = sym e

pub ruleset calls = (counted, refused)
