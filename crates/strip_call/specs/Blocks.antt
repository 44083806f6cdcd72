-- Where a model section's bone and morph records stand.
use Rattle.std.specs.Prelude.{ℕ, List}
use Rattle.layout.specs.Records.{size}
use Rattle.layout.specs.Records as Table
use Rattle.section.specs.declared.{keyframes.Keyframes.{Keyframes}, model.Model.{Model}}
use Rattle.blocks.specs.declared.{block.Block.{Block}, kind.Kind.{Kind}}

abbrev pub block_of : Kind → List ℕ → ℕ → Keyframes → Block
block_of kind items tracks k =
    record {
      kind = kind;
      initials = record { offset = k.initial_offset; width = size (Table.initial items); count = tracks };
      records = record { offset = k.offset; width = size (Table.additional items); count = k.count };
    }

unfoldable pub bone_block : Model → Block
bone_block m = block_of Kind.Bone Table.bone m.front.counts.bones.count m.keyframes.bones

unfoldable pub morph_block : Model → Block
morph_block m = block_of Kind.Morph Table.morph m.front.counts.morphs.count m.keyframes.morphs

-- The items of a kind's records, and where a model's records of a kind stand.
abbrev pub items_of : Kind → List ℕ
items_of Kind.Bone = Table.bone
items_of Kind.Morph = Table.morph

abbrev pub model_block : Kind → Model → Block
model_block Kind.Bone m = bone_block m
model_block Kind.Morph m = morph_block m
