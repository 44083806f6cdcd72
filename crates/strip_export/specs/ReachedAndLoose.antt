-- Reached and loose (FORMAT, The build) as a caller in C sees them: the second and the third of the values, where there are places for
-- three. "Reached plus loose is the number of additional bone and morph records." The proof is in proofs/Seen.antt.
use Rattle.std.specs.Prelude.{◌+◌, ◌≤◌, ◌≡◌, length, get_or}
use Rattle.layout.specs.Walk.{answered}
use Rattle.section.specs.{Limits.{edition1}, Summary.{model_summary}}
use Rattle.section.specs.declared.summary.PmmDocumentModelSummary.{PmmDocumentModelSummary}
use Rattle.clip.specs.Section.{bones, morphs}
use Rattle.strip.specs.{Strip.{count_width}, Runs.{Within}}
use Rattle.strip_export.specs.Run.{Run}

pub record ReachedAndLoose (x : Run) : Type 0 where
  -- The records are those that the build is given.
  pub of_section :
      3 ≤ length x.before → x.returned ≡ 0 → (read : Within edition1 count_width x.lent)
      → get_or x.values 1 0 + get_or x.values 2 0 ≡ (bones x.lent.section read.model).additional + (morphs x.lent.section read.model).additional
  -- They are as many as the section's summary says.
  pub of_summary :
      3 ≤ length x.before → x.returned ≡ 0 → (summary : PmmDocumentModelSummary)
      → model_summary edition1 x.lent.section x.lent.start ≡ answered summary
      → get_or x.values 1 0 + get_or x.values 2 0 ≡ summary.bone_keyframes + summary.morph_keyframes
