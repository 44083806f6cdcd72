-- Document 01, "Sections by hand": what the listing program tells of a section. Its strip is built and read back.
use Rattle.std.specs.Prelude.{ℕ, List, ◌++◌, take}
use Rattle.layout.specs.Walk.{Answer, answered, declined}
use Rattle.section.specs.{Limits.{edition1}, Summary.{model_summary}}
use Rattle.section.specs.declared.summary.PmmDocumentModelSummary.{PmmDocumentModelSummary}
use Rattle.strip.specs.{Strip.{count_width, Contents}, Call.{Built, Outcome}, Runs.{Lent, outcome}}
use Rattle.strip_reader.specs.Read.{read_strip}
use Rattle.listing_lines.specs.Lines.{model_line, key_lines, count_line, all_keys, refused_line}

-- Of an accepted section: the summary's counts and end, the keys of its strip, and how many records are loose.
unfoldable pub listing : PmmDocumentModelSummary → ℕ → Contents → List ℕ
listing m loose c = model_line m.bone_count m.morph_count m.offset_end ++ key_lines c ++ count_line (all_keys c) loose

abbrev pub strip_listed : PmmDocumentModelSummary → ℕ → Answer Contents → List ℕ
strip_listed m loose (answered c) = listing m loose c
strip_listed m loose (declined why) = refused_line why.number

-- The strip is "the output up to the length answered".
abbrev pub built_listed : PmmDocumentModelSummary → List ℕ → Answer Built → List ℕ
built_listed m output (answered b) = strip_listed m b.loose (read_strip edition1 count_width (take b.strip_length output))
built_listed m output (declined why) = refused_line why.number

abbrev pub outcome_listed : PmmDocumentModelSummary → Outcome → List ℕ
outcome_listed m o = built_listed m o.output o.answer

abbrev pub section_listed : Lent → Answer PmmDocumentModelSummary → List ℕ
section_listed x (answered m) = outcome_listed m (outcome edition1 count_width x)
section_listed x (declined why) = refused_line why.number

unfoldable pub section_listing : Lent → List ℕ
section_listing x = section_listed x (model_summary edition1 x.section x.start)
