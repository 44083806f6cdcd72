-- Document 01, "Build order" (FORMAT, The build): "Reached plus loose is the number of additional bone and morph records." The proof is in
-- proofs/ReachedAndLoose.antt.
use Rattle.std.specs.Prelude.{◌+◌, ◌≡◌}
use Rattle.layout.specs.Walk.{answered}
use Rattle.section.specs.{Limits.{edition1}, Summary.{model_summary}}
use Rattle.section.specs.declared.summary.PmmDocumentModelSummary.{PmmDocumentModelSummary}
use Rattle.clip.specs.Section.{bones, morphs}
use Rattle.strip_call.specs.Run.{Run, ReadWithin, Accepted}

pub record ReachedAndLoose : Type 0 where
  -- The records are those that the build is given.
  pub of_section :
      (x : Run) (read : ReadWithin x) (accepted : Accepted x)
      → accepted.built.reached + accepted.built.loose ≡ (bones x.lent.section read.model).additional + (morphs x.lent.section read.model).additional
  -- They are as many as the section's summary says.
  pub of_summary :
      (x : Run) (accepted : Accepted x) (summary : PmmDocumentModelSummary)
      → model_summary edition1 x.lent.section x.lent.start ≡ answered summary
      → accepted.built.reached + accepted.built.loose ≡ summary.bone_keyframes + summary.morph_keyframes
