use Rattle.std.proofs.Common.{rules, ap, ◌∙◌, take}
use Rattle.clip.specs.Keys.{pose_asked, posed}
use Rattle.clip.specs.Section.{bone_body}
use Rattle.keys.specs.Plain.{bone_plain, standing}
use Rattle.strip_reader.specs.Key.{some_byte_above}
use Rattle.strip_reader.proofs.BoneKeys.{not-of-builder}
use Rattle.strip_reader.proofs.bone_key.BoneKeyFields.not_of_builder.Goals as goal

pub returns : goal.returns
returns c =
    let f = c.args.self.now.fields in
    let section = c.body-section.ensures in
    not-of-builder f.curves f.rotation f.translation f.orientation (search rules) (search rules) (search rules) (search rules) c.args.self.now.map c.args.self.now.frame c.map_byte.result c.asked.result c.some_above_top-above_top.result c.is_err-pose_refused.result
    (c.map_byte.ensures ∙ ap (standing 1 2 4 8) (c.plain.ensures ∙ ap (λ s. bone_plain (bone_body s 0)) section))
    (c.some_above_top-above_top.ensures ∙ ap (λ s. some_byte_above 127 (take 16 s)) section)
    (c.asked.ensures ∙ ap (λ s. pose_asked (posed (bone_body s 0))) section)
    c.is_err-pose_refused.ensures.value
