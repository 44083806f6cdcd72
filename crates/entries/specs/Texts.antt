-- Document 01, "Model section" and module 7 (FORMAT, A model section and Calls by number): where the name, English name, path and the names
-- of bones and morphs stand, each as "the part of the section that holds it".
use Rattle.std.specs.Prelude.{ℕ, cond, List, [], ltb}
use Rattle.layout.specs.{Refusals.{absent}, Walk.{Walk, refused, refusal, after, Answer, answer, times, string, fixed_string}}
use Rattle.layout.specs.declared.Part.{Part}
use Rattle.section.specs.declared.{limits.Limits.{Limits}, model.Model.{Model}, names.Names.{Names}}
use Rattle.section.specs.Model.{path_width, model_section}
use Rattle.entries.specs.declared.texts.Text.{Text}

-- "bone count i32 and names; morph count i32 and names": name k stands behind k others. 19: there is none of that number.
unfoldable pub name_at : Names → ℕ → List ℕ → Walk Part
name_at names k s =
    cond (ltb k names.count) (after (times k string s names.offset) (λ u at. string s at)) (refused (refusal absent []))

-- "name and English name (length u8, then that many bytes); path, 256 bytes, ending before its first zero byte if it has one"
unfoldable pub text_at : Text → Model → List ℕ → Walk Part
text_at Text.Name m s = string s m.front.opening.name_offset
text_at Text.EnglishName m s = string s m.front.opening.english_name_offset
text_at Text.Path m s = fixed_string path_width s m.front.opening.path_offset
text_at (Text.Bone k) m s = name_at m.front.counts.bones k s
text_at (Text.Morph k) m s = name_at m.front.counts.morphs k s

-- 19 is "tested after reading": a section that is not read gives its own refusal.
unfoldable pub text_of : Limits → Text → List ℕ → ℕ → Answer Part
text_of limits text s start = answer (after (model_section limits s start) (λ m end. text_at text m s))
