-- Document 01, "Model section" (FORMAT, A model section): what stands in it, in order. An i32 or f32 is kept as its 32 bits.
use Rattle.std.specs.Prelude.{ℕ, ◌*◌, cond, List, [], ltb, length}
use Rattle.layout.specs.Refusals.{too_long}
use Rattle.layout.specs.Walk.{Reader, ◌>>=◌, ◌>>◌, give, here, u8, bool, u32, block, string, times, items, count, unlimited, refused, refusal}
use Rattle.layout.specs.Records.{initial, additional, bone, morph, model, bone_state, morph_state, constraint_state, parent_state}
use Rattle.binary.specs.Groups.{u32s}
use Rattle.section.specs.declared.{limits.Limits.{Limits}, opening.Opening.{Opening}, names.{Names.{Names}, Counts.{Counts}}}
use Rattle.section.specs.declared.display.{View.{View}, Scroll.{Scroll}}
use Rattle.section.specs.declared.keyframes.{Keyframes.{Keyframes}, KeyframeBlocks.{KeyframeBlocks}}
use Rattle.section.specs.declared.{closing.{States.{States}, Ending.{Ending}}, model.{Front.{Front}, Model.{Model}}}

abbrev pub path_width : ℕ
path_width = 256

-- "model number u8; name and English name (length u8, then that many bytes); path, 256 bytes ..; one ignored byte"
unfoldable pub opening : Reader Opening
opening = do
  index ← u8
  name ← here
  string
  english ← here
  string
  path ← here
  block path_width
  u8
  give (record { document_model_index = index; name_offset = name; english_name_offset = english; path_offset = path })

-- "bone count i32 and names", and so for morphs
unfoldable pub names : ℕ → Reader Names
names limit = do
  n ← count limit
  at ← here
  times n string
  give (record { count = n; offset = at })

-- "constraint count C i32 and 4C skipped bytes", and so for outside parents
unfoldable pub counted_block : Reader ℕ
counted_block = do
  n ← count unlimited
  block (4 * n)
  give n

unfoldable pub counts : Limits → Reader Counts
counts limits = do
  bones ← names limits.tracks
  morphs ← names limits.tracks
  constraints ← counted_block
  parents ← counted_block
  give (record { bones = bones; morphs = morphs; constraints = constraints; parents = parents })

-- "draw order u8; visible bool; selected bone i32; four selected morphs i32"
unfoldable pub view : Reader View
view = do
  order ← u8
  visible ← bool
  bone ← u32
  morphs ← u32s 4
  give (record { draw_order_index = order; visible = visible; selected_bone = bone; selected_morphs = morphs })

-- "expansion count u8 and that many skipped bytes; vertical scroll i32; last frame i32"
unfoldable pub scroll : Reader Scroll
scroll = do
  expansions ← u8
  block expansions
  vertical ← u32
  last ← u32
  give (record { vertical_scroll = vertical; last_frame = last })

-- All that stands before the records.
unfoldable pub front : Limits → Reader Front
front limits = do
  o ← opening
  c ← counts limits
  v ← view
  s ← scroll
  give (record { opening = o; counts = c; view = v; scroll = s })

-- "initial bones, count, additional bones": the items of both kinds of record, and the limit of the count
unfoldable pub keyframes : ℕ → List ℕ → List ℕ → ℕ → Reader Keyframes
keyframes tracks initial_items additional_items limit s at =
    (do
      times tracks (items initial_items)
      count_at ← here
      n ← count limit
      first_at ← here
      times n (items additional_items)
      end ← here
      give (record { initial_offset = at; count_offset = count_at; offset = first_at; end_offset = end; count = n })) s at

-- "Then initial bones, count, additional bones; the same for morphs; one initial model record, count, additional model records."
unfoldable pub keyframe_blocks : Limits → Counts → Reader KeyframeBlocks
keyframe_blocks limits c = do
  bones ← keyframes c.bones.count (initial bone) (additional bone) limits.additional
  morphs ← keyframes c.morphs.count (initial morph) (additional morph) limits.additional
  models ← keyframes 1 (initial (model c.constraints c.parents)) (additional (model c.constraints c.parents)) unlimited
  give (record { bones = bones; morphs = morphs; models = models })

-- "Then states: 31 bytes a bone .., 4 a morph .., 1 a constraint .., 16 an outside parent"
unfoldable pub states : Counts → Reader States
states c s at =
    (do
      times c.bones.count (items bone_state)
      morphs ← here
      times c.morphs.count (items morph_state)
      constraints ← here
      times c.constraints (items constraint_state)
      parents ← here
      times c.parents (items parent_state)
      give (record { bones = at; morphs = morphs; constraints = constraints; parents = parents })) s at

-- "Last: blend bool, edge width f32, self shadow bool, transform order u8."
unfoldable pub ending : Reader Ending
ending = do
  blend ← bool
  edge ← u32
  shadow ← bool
  order ← u8
  give (record { blend_enabled = blend; edge_width = edge; self_shadow_enabled = shadow; transform_order_index = order })

-- All of its parts.
unfoldable pub model_parts : Limits → Reader Model
model_parts limits = do
  f ← front limits
  k ← keyframe_blocks limits f.counts
  s ← states f.counts
  e ← ending
  give (record { front = f; keyframes = k; states = s; ending = e })

-- The section (FORMAT, Refusals). 16: more bytes are lent than the limit; tested first.
unfoldable pub model_section : Limits → Reader Model
model_section limits s start = cond (ltb limits.bytes (length s)) (refused (refusal too_long [])) (model_parts limits s start)
