-- What the strip of an accepted section holds satisfies all that reading it back asks (Tracks): the counts fit their bytes and the limits,
-- since the section was read within them, and the strip is no longer than the section (strip, Length). Assumes nothing.
use Prim.Native.Nat.{ℕ, ◌≤◌}
use native.Mathlib.Omega.{arith}
use borrow.Author.Tests.{ltb-false}
use mathlib.Core.Bool.{Bool, true, false, cond}
use mathlib.Core.List.{List, []}
use mathlib.Core.Option.{none}
use mathlib.Core.Path.{◌≡◌, refl}
use lib.Dec.{ltb}
use lib.ListN.{length}
use Rattle.layout.specs.Refusals.{too_long}
use Rattle.layout.specs.Walk.{refusal, fine, refused}
use Rattle.section.specs.declared.limits.Limits.{Limits}
use Rattle.section.specs.declared.model.Model.{Model}
use Rattle.section.specs.Model.{model_parts, model_section}
use Rattle.clip.specs.Fields.{bone, morph}
use Rattle.clip.specs.Keys.{pose_asked, posed, weight_asked, float_at}
use Rattle.clip.specs.Section.{records_at, bones, morphs, clip_refusal}
use Rattle.clip.proofs.Clip.{sound-clip}
use Rattle.clip.proofs.Facts.{Blocks, blocks}
use Rattle.strip.specs.Plain.{bone_fields, morph_fields}
use Rattle.strip.specs.Strip.{clip_contents, strip_of}
use Rattle.strip.proofs.Length.{no_longer}
use Rattle.strip.proofs.Written.{Wide, bones-shaped, morphs-shaped}
use Rattle.strip_reader.proofs.Absent.{filled}
use Rattle.strip_reader.specs.Key.{form_of}
use Rattle.strip_reader.proofs.ReadWritten.{Readable}
use Rattle.strip_laws.proofs.Bones.{bone-not_refused}
use Rattle.strip_laws.proofs.Morphs.{morph-not_refused}
use Rattle.strip_laws.proofs.Tracks.{StillFine, tracks-readable}

bone-fine : StillFine bone (λ b. pose_asked (posed b)) (form_of bone) bone_fields
unfolding filled
bone-fine b shaped asked = bone-not_refused b shaped asked

morph-fine : StillFine morph (λ w. weight_asked (float_at w 0)) (form_of morph) morph_fields
unfolding filled
morph-fine w shaped asked = morph-not_refused w asked

-- Counts within the limits.
record Few (limits : Limits) (s : List ℕ) (m : Model) : Type 0 where
  pub bone_tracks : (bones s m).tracks ≤ limits.tracks
  pub bone_records : (bones s m).additional ≤ limits.additional
  pub morph_tracks : (morphs s m).tracks ≤ limits.tracks
  pub morph_records : (morphs s m).additional ≤ limits.additional

few-records : (limits : Limits) (s : List ℕ) (m : Model) → Blocks limits s m → Few limits s m
unfolding bones morphs records_at
few-records limits s m b =
    record { bone_tracks = b.bone_names.within; bone_records = b.bones.within; morph_tracks = b.morph_names.within; morph_records = b.morphs.within }

section-within : (limits : Limits) (s : List ℕ) (start : ℕ) (m : Model) (end : ℕ) → model_section limits s start ≡ fine m end → length s ≤ limits.bytes
unfolding model_section
section-within limits s start m end e = go (ltb limits.bytes (length s)) refl e
  where
    go : (b : Bool) → ltb limits.bytes (length s) ≡ b → cond b (refused (refusal too_long [])) (model_parts limits s start) ≡ fine m end → length s ≤ limits.bytes
    go true seen e = absurd (let z : ◌≡◌ {A = ℕ} 0 1 = cc in omega arith)
    go false seen e = ltb-false limits.bytes (length s) seen

pub built-readable : (limits : Limits) (width : ℕ) → width ≤ 4 → Wide limits width → (s : List ℕ) (start : ℕ) (m : Model) (end : ℕ) → model_section limits s start ≡ fine m end → clip_refusal s m ≡ none → Readable limits width (clip_contents s m)
unfolding clip_contents strip_of
built-readable limits width narrow wide s start m end reads passes =
    let c = sound-clip s m passes in
    let few = few-records limits s m (blocks limits s start m end reads) in
    let within = section-within limits s start m end reads in
    let length = no_longer limits width narrow s start m end reads passes in
    record {
      bytes = omega (arith, length, within);
      bones = tracks-readable bone (λ b. pose_asked (posed b)) (form_of bone) bone_fields bone-fine (bones s m) (bones-shaped s m) c.bones limits width wide few.bone_tracks few.bone_records;
      morphs = tracks-readable morph (λ w. weight_asked (float_at w 0)) (form_of morph) morph_fields morph-fine (morphs s m) (morphs-shaped s m) c.morphs limits width wide few.morph_tracks few.morph_records;
    }
