-- A bone record's interpolation by the record's number: the first 16 bytes behind its base (document 01, "Records"; FORMAT, Calls by
-- number).
use Rattle.std.specs.Prelude.{ℕ, List}
use Rattle.layout.specs.Walk.{Answer, answered, declined}
use Rattle.records.specs.Curves.{curves_at, no_curves}
use Rattle.records.specs.declared.bone.PmmDocumentBoneKeyframeSummary.{PmmDocumentBoneKeyframeSummary}

-- All 0 where the record's own call refuses.
abbrev pub curves_or : Answer PmmDocumentBoneKeyframeSummary → List ℕ → List (List ℕ)
curves_or (answered b) s = curves_at s b.span.payload_offset
curves_or (declined why) s = no_curves
