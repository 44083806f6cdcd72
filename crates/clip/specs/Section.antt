-- The build fields of a model section's records, by document 01's record table (FORMAT, What a build takes), and the build of a section.
use Rattle.std.specs.Prelude.{ℕ, ◌+◌, ◌*◌, List}
use Rattle.std.proofs.Math.Option.{Option}
use Rattle.layout.specs.{Walk.{Refusal, u32_at, bytes_at}, Records.{size}}
use Rattle.layout.specs.Records as Table
use Rattle.section.specs.declared.{keyframes.Keyframes.{Keyframes}, model.Model.{Model}}
use Rattle.clip.specs.{First.{◌or◌}, Fields.{Initial, Additional, BoneBody, Records, bone, morph}, Keys.{bone_test, morph_test}}
use Rattle.clip.specs.Build.{build_refusal, links_followed, loose}

-- "interpolation 16 bytes, translation 3 f32, orientation 4 f32"
unfoldable pub bone_body : List ℕ → ℕ → BoneBody
bone_body s at = record { interpolation = bytes_at s at 16; translation = bytes_at s (at + 16) 12; orientation = bytes_at s (at + 28) 16 }

-- "weight f32"
unfoldable pub morph_body : List ℕ → ℕ → List ℕ
morph_body s at = bytes_at s at 4

module _ {B : Type 0} (body : List ℕ → ℕ → B) (s : List ℕ) where
  -- "A base is frame, previous link, next link (i32 each)"; the previous link of an initial record is no build field.
  unfoldable pub initial_at : ℕ → Initial B
  initial_at at = record { frame = u32_at s at; next = u32_at s (at + 8); body = body s (at + 12) }

  -- "an additional record has its index (i32) before them"
  unfoldable pub additional_at : ℕ → Additional B
  additional_at at =
      record {
        index = u32_at s at;
        frame = u32_at s (at + 4);
        previous = u32_at s (at + 8);
        next = u32_at s (at + 12);
        body = body s (at + 16);
      }

  -- The records of a kind, whose items are given, in the blocks that the section has for them.
  unfoldable pub records_at : List ℕ → ℕ → Keyframes → Records B
  records_at items tracks k =
      record {
        tracks = tracks;
        initial = λ t. initial_at (k.initial_offset + t * size (Table.initial items));
        additional = k.count;
        at = λ p. additional_at (k.offset + p * size (Table.additional items));
      }

module _ (s : List ℕ) (m : Model) where
  unfoldable pub bones : Records BoneBody
  bones = records_at bone_body s Table.bone m.front.counts.bones.count m.keyframes.bones

  unfoldable pub morphs : Records (List ℕ)
  morphs = records_at morph_body s Table.morph m.front.counts.morphs.count m.keyframes.morphs

  -- "all bones, then all morphs"; "The first refusal met ends the whole walk."
  unfoldable pub clip_refusal : Option Refusal
  clip_refusal = build_refusal bone bone_test bones or build_refusal morph morph_test morphs

  -- "summed over bones and morphs"
  unfoldable pub reached_records : ℕ
  reached_records = links_followed bone bones + links_followed morph morphs

  unfoldable pub loose_records : ℕ
  loose_records = loose bone bones + loose morph morphs
