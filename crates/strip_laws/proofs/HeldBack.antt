-- A strip that the builder made is read back with equal values: what it holds can be read back (Contents), so reading gives it with the
-- plain values filled in (strip_reader, ReadWritten), and those are equal to what they stand for (Bones, Morphs). Assumes nothing.
use Prim.Native.Nat.{ℕ, ◌≤◌}
use mathlib.Core.List.{List}
use mathlib.Core.Option.{none}
use mathlib.Core.Path.{◌≡◌}
use Rattle.layout.specs.Walk.{fine, answered}
use Rattle.section.specs.Model.{model_section}
use Rattle.section.specs.declared.limits.Limits.{Limits}
use Rattle.section.specs.declared.model.Model.{Model}
use Rattle.clip.specs.Fields.{BoneBody, bone, morph}
use Rattle.clip.specs.Keys.{Key, pose_asked, posed, weight_asked, float_at}
use Rattle.clip.specs.Section.{bones, morphs, clip_refusal}
use Rattle.clip.proofs.Clip.{sound-clip}
use Rattle.strip.specs.Plain.{bone_groups, bone_fields, morph_groups, morph_fields}
use Rattle.strip.specs.Strip.{FieldsKey, Contents, with_fields, clip_contents, strip_of}
use Rattle.strip.proofs.Keys.{Shaped}
use Rattle.strip.proofs.Written.{Wide, bones-shaped, morphs-shaped}
use Rattle.strip_reader.specs.Answers.{bone_key, morph_key}
use Rattle.strip_reader.proofs.Absent.{filled, filled_key, filled_contents}
use Rattle.strip_reader.specs.Key.{form_of}
use Rattle.strip_reader.specs.Read.{read_strip}
use Rattle.strip_reader.proofs.ReadWritten.{read-written}
use Rattle.strip_laws.specs.Same.{SameBone, SameMorph}
use Rattle.strip_laws.proofs.Bones.{bone-same}
use Rattle.strip_laws.proofs.Morphs.{morph-same}
use Rattle.strip_laws.proofs.Contents.{built-readable}
use Rattle.strip_laws.proofs.Places.{TracksHeld, tracks-held}

abbrev pub SameBones : FieldsKey → Key BoneBody → Type 0
SameBones read built = SameBone (bone_key read) built

same_bone : (k : Key BoneBody) → Shaped bone_groups (bone_fields k.body) → pose_asked (posed k.body) ≡ none → SameBones (filled_key bone_groups (with_fields bone_fields k)) k
unfolding filled
same_bone k shaped asked = bone-same k.body shaped asked k.frame

abbrev pub SameMorphs : FieldsKey → Key (List ℕ) → Type 0
SameMorphs read built = SameMorph (morph_key read) built

same_morph : (k : Key (List ℕ)) → Shaped morph_groups (morph_fields k.body) → weight_asked (float_at k.body 0) ≡ none → SameMorphs (filled_key morph_groups (with_fields morph_fields k)) k
unfolding filled
same_morph k shaped asked = morph-same k.body asked k.frame

-- What is read of the strip of a section that is read as this model.
pub record HeldBack (limits : Limits) (width : ℕ) (s : List ℕ) (m : Model) (strip : List ℕ) : Type 0 where
  pub contents : Contents
  pub answers : read_strip limits width strip ≡ answered contents
  pub bones : TracksHeld SameBones bone (bones s m) contents.bones
  pub morphs : TracksHeld SameMorphs morph (morphs s m) contents.morphs

module _ (s : List ℕ) (m : Model) (passes : clip_refusal s m ≡ none) where
  bones-held : TracksHeld SameBones bone (bones s m) (filled_contents (clip_contents s m)).bones
  unfolding clip_contents
  bones-held = tracks-held bone (λ b. pose_asked (posed b)) (form_of bone) bone_fields SameBones same_bone (bones s m) (bones-shaped s m) (sound-clip s m passes).bones

  morphs-held : TracksHeld SameMorphs morph (morphs s m) (filled_contents (clip_contents s m)).morphs
  unfolding clip_contents
  morphs-held = tracks-held morph (λ w. weight_asked (float_at w 0)) (form_of morph) morph_fields SameMorphs same_morph (morphs s m) (morphs-shaped s m) (sound-clip s m passes).morphs

-- For any edition whose counts fit their bytes.
pub held-back : (limits : Limits) (width : ℕ) → width ≤ 4 → Wide limits width → (s : List ℕ) (start : ℕ) (m : Model) (end : ℕ) → model_section limits s start ≡ fine m end → clip_refusal s m ≡ none → HeldBack limits width s m (strip_of width s m)
unfolding strip_of
held-back limits width narrow wide s start m end reads passes =
    record {
      contents = filled_contents (clip_contents s m);
      answers = read-written limits width (clip_contents s m) (built-readable limits width narrow wide s start m end reads passes);
      bones = bones-held s m passes;
      morphs = morphs-held s m passes;
    }
