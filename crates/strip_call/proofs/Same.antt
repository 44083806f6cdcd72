-- The definition of the strip call, by what its blocks give: of bodies it asks nothing but the tests and the fields of keys, so bodies
-- known by their offsets make no difference (clip and strip, Bodies). Assumes nothing.
use Prim.Native.Nat.{ℕ}
use native.Mathlib.Omega.{arith}
use mathlib.Core.List.{List}
use mathlib.Core.Option.{Option, none, some}
use mathlib.Core.Path.{◌≡◌, refl, ap, ◌∙◌}
use Rattle.layout.specs.Walk.{Refusal}
use Rattle.layout.specs.Records.{size}
use Rattle.section.specs.Limits.{edition1}
use Rattle.section.specs.declared.model.Model.{Model}
use Rattle.clip.specs.First.{◌or◌}
use Rattle.clip.specs.Fields.{bone, morph}
use Rattle.clip.specs.Keys.{key_test, bone_test, morph_test}
use Rattle.clip.specs.Section.{bone_body, morph_body, initial_at, additional_at, records_at, bones, morphs, clip_refusal, reached_records, loose_records}
use Rattle.clip.proofs.Bodies.{same-build, same-links, same-loose}
use Rattle.clip.proofs.Facts.{Blocks}
use Rattle.strip.specs.Plain.{bone_groups, bone_fields, morph_groups, morph_fields}
use Rattle.strip.specs.Strip.{count_width, strip_of}
use Rattle.strip.specs.Work.{first_work, second_work}
use Rattle.strip.specs.Call.{built}
use Rattle.strip.proofs.Bodies.{same-by_index, same-marks, same_bytes}
use Rattle.strip.proofs.ByTrack.{strip-of-tracks}
use Rattle.blocks.specs.Block.{Fits, links}
use Rattle.strip_call.specs.Blocks.{bone_block, morph_block}
use Rattle.strip_call.specs.Building.{kind_meets}
use Rattle.strip_call.specs.Outcomes.{outcome_by, outcome_of, parts_of}
use Rattle.strip_call.specs.Bytes.{strip_bytes}

module _ (s : List ℕ) (m : Model) where
  pub same_met : clip_refusal s m ≡ (kind_meets s (bone_block m) or kind_meets s (morph_block m))
  unfolding clip_refusal bones morphs records_at initial_at additional_at bone_block morph_block key_test
  same_met = rw (same-build (bone_body s) bone (links s (bone_block m)) bone_test, same-build (morph_body s) morph (links s (morph_block m)) morph_test)

  pub same-strip : strip_of count_width s m ≡ strip_bytes s (bone_block m) (morph_block m)
  unfolding strip_bytes bones morphs records_at initial_at additional_at bone_block morph_block
  same-strip =
      strip-of-tracks count_width s m
      ∙ rw (
        same_bytes (bone_body s) (links s (bone_block m)) bone count_width bone_groups bone_fields 0 m.front.counts.bones.count,
        same_bytes (morph_body s) (links s (morph_block m)) morph count_width morph_groups morph_fields 0 m.front.counts.morphs.count,
      )

  pub same-reached : reached_records s m ≡ (parts_of s (bone_block m) (morph_block m)).reached
  unfolding reached_records bones morphs records_at initial_at additional_at bone_block morph_block
  same-reached = rw (same-links (bone_body s) bone (links s (bone_block m)), same-links (morph_body s) morph (links s (morph_block m)))

  pub same_left : loose_records s m ≡ (parts_of s (bone_block m) (morph_block m)).loose_count
  unfolding loose_records bones morphs records_at initial_at additional_at bone_block morph_block
  same_left = rw (same-loose (bone_body s) bone (links s (bone_block m)), same-loose (morph_body s) morph (links s (morph_block m)))

  pub same_first : first_work s m ≡ (parts_of s (bone_block m) (morph_block m)).first_work
  unfolding first_work bones morphs records_at initial_at additional_at bone_block morph_block
  same_first = rw (same-by_index (bone_body s) (links s (bone_block m)) m.keyframes.bones.count, same-by_index (morph_body s) (links s (morph_block m)) m.keyframes.morphs.count)

  pub same_second : second_work s m ≡ (parts_of s (bone_block m) (morph_block m)).second_work
  unfolding second_work bones morphs records_at initial_at additional_at bone_block morph_block
  same_second = rw (same-marks (bone_body s) (links s (bone_block m)) bone m.keyframes.bones.count, same-marks (morph_body s) (links s (morph_block m)) morph m.keyframes.morphs.count)

  -- What the definition gives once the slices are long enough.
  by-met : (first second output : List ℕ) (need : ℕ) (met : Option Refusal) → built first second output count_width s m need met ≡ outcome_by first second output need met (parts_of s (bone_block m) (morph_block m))
  by-met first second output need (some why) = refl
  by-met first second output need none = rw (same-strip, same-reached, same_left, same_first, same_second)

  pub same_outcome : (first second output : List ℕ) (need : ℕ) → built first second output count_width s m need (clip_refusal s m) ≡ outcome_of first second output need (parts_of s (bone_block m) (morph_block m))
  same_outcome first second output need = by-met first second output need (clip_refusal s m) ∙ ap (λ (o : Option Refusal). outcome_by first second output need o (parts_of s (bone_block m) (morph_block m))) same_met

  module _ (b : Blocks edition1 s m) where
    pub bones-stand : Fits s (bone_block m)
    unfolding bone_block size
    bones-stand =
        let b1 = b.bones.begins in
        let b2 = b.bones.offset in
        let b3 = b.bones.ends in
        let b4 = b.morphs.offset in
        let b5 = b.morphs.ends in
        let last = b.within in
        record {
          initials = omega (arith, b1, b2, b3, b4, b5, last);
          records = omega (arith, b2, b3, b4, b5, last);
          initial_width = omega arith;
          record_width = omega arith;
          few_tracks = b.bone_names.within;
          few_records = b.bones.within;
        }

    pub morphs-stand : Fits s (morph_block m)
    unfolding morph_block size
    morphs-stand =
        let b1 = b.morphs.begins in
        let b2 = b.morphs.offset in
        let b3 = b.morphs.ends in
        let last = b.within in
        record {
          initials = omega (arith, b1, b2, b3, last);
          records = omega (arith, b2, b3, last);
          initial_width = omega arith;
          record_width = omega arith;
          few_tracks = b.morph_names.within;
          few_records = b.morphs.within;
        }
