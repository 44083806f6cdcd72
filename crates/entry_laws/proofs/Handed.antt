-- The five kinds of record (specs/WholePayload): the fields behind the base keep it, so the payload begins where the base ends, and they
-- walk the record's other items, so it ends where these end (Payloads). Assumes nothing.
use Prim.Native.Nat.{ℕ, ◌+◌, ◌-◌, ◌≤◌}
use native.Mathlib.Omega.{arith}
use mathlib.Core.Bool.{Bool, true, false}
use mathlib.Core.List.{List}
use mathlib.Core.Path.{◌≡◌, refl, sym, ap}
use lib.ListN.{length, take, drop, length-drop}
use lib.Seq.{length-take-le}
use Rattle.layout.specs.Walk.{fine, Reader, ◌>>=◌, ◌>>◌, give, here, bool, times, items, answered}
use Rattle.layout.specs.Records.{bone, morph, model, camera, light, constraint_state, pair, size}
use Rattle.layout.proofs.Inversion.{came, same-value}
use Rattle.layout.proofs.Walks.{Walks}
use Rattle.binary.specs.Groups.{u32s}
use Rattle.records.specs.Keyframes.{bone_bits, bone_of, morph_bits, morph_of, model_bits, model_of}
use Rattle.records.specs.declared.base.BaseBits.{BaseBits}
use Rattle.records.specs.declared.bone.BoneBits.{BoneBits}
use Rattle.records.specs.declared.bone.PmmDocumentBoneKeyframeSummary.{PmmDocumentBoneKeyframeSummary}
use Rattle.records.specs.declared.morph.MorphBits.{MorphBits}
use Rattle.records.specs.declared.model.ModelBits.{ModelBits}
use Rattle.records.proofs.Table.{bones-walk, morphs-walk, models-walk}
use Rattle.section.specs.declared.limits.Limits.{Limits}
use Rattle.entries.specs.Lists.{locate}
use Rattle.entries.specs.Keyframes.{bone_list, morph_list, model_list, bone_keyframe}
use Rattle.entries.specs.Parts.{payload_or}
use Rattle.camera_light.specs.Camera.{camera_bits, view_bits, lens_bits, camera_of, offsets_of, camera_keyframe, curves_part}
use Rattle.camera_light.specs.Light.{light_bits, light_of}
use Rattle.camera_light.specs.Track as Track
use Rattle.camera_light.specs.declared.track.Kind.{Kind}
use Rattle.camera_light.specs.declared.camera.CameraBits.{CameraBits}
use Rattle.camera_light.specs.declared.camera.CameraKeyframeSummary.{CameraKeyframeSummary}
use Rattle.camera_light.specs.declared.light.LightBits.{LightBits}
use Rattle.camera_light.proofs.Table.{cameras-walk, lights-walk}
use Rattle.keys.proofs.AsShown.{bone_rest, morph_rest, bone-rest, morph-rest}
use Rattle.entry_laws.specs.WholePayload.{WholePayload, WholePayloads}
use Rattle.entry_laws.proofs.Payloads.{front, record-items, ends_as, sized, some-items, met, payload-at, payload, payload-held}
use Rattle.clip.proofs.Facts.{items-end}

-- The fields behind the base; those of bones and morphs are in keys.
abbrev model_rest : ℕ → ℕ → BaseBits → Reader ModelBits
model_rest constraints parents base = do
  visible ← bool
  bools_at ← here
  times constraints (items constraint_state)
  pairs_at ← here
  times parents (items pair)
  shadow_at ← here
  shadow ← bool
  give (record {
    base = base;
    visible = visible;
    self_shadow_enabled = shadow;
    constraint_states_offset = bools_at;
    outside_parent_indices_offset = pairs_at;
    self_shadow_enabled_offset = shadow_at;
  })

abbrev camera_rest : BaseBits → Reader CameraBits
camera_rest base = do
  view ← view_bits
  lens ← lens_bits
  give (record { base = base; view = view; lens = lens })

abbrev light_rest : BaseBits → Reader LightBits
light_rest base = do
  color ← u32s 3
  direction ← u32s 3
  selected ← bool
  give (record { base = base; color = color; direction = direction; selected = selected })

-- They keep it.
module _ (s : List ℕ) (b : BaseBits) (i : ℕ) where
  bone-keeps : (v : BoneBits) (next : ℕ) → bone_rest b s i ≡ fine v next → b ≡ v.base
  bone-keeps v next e = (bone-rest s b i i v next refl e).0

  morph-keeps : (v : MorphBits) (next : ℕ) → morph_rest b s i ≡ fine v next → b ≡ v.base
  morph-keeps v next e = (morph-rest s b i i v next refl e).0

  model-keeps : (c p : ℕ) (v : ModelBits) (next : ℕ) → model_rest c p b s i ≡ fine v next → b ≡ v.base
  model-keeps c p v next e =
      let visible = came (bool s i) _ v next e in
      let bools = came (times c (items constraint_state) s visible.at) _ v next visible.rest in
      let pairs = came (times p (items pair) s bools.at) _ v next bools.rest in
      let shadow = came (bool s pairs.at) _ v next pairs.rest in
      ap (λ (v : ModelBits). v.base) (same-value shadow.rest)

  camera-keeps : (v : CameraBits) (next : ℕ) → camera_rest b s i ≡ fine v next → b ≡ v.base
  camera-keeps v next e =
      let view = came (view_bits s i) _ v next e in
      let lens = came (lens_bits s view.at) _ v next view.rest in
      ap (λ (v : CameraBits). v.base) (same-value lens.rest)

  light-keeps : (v : LightBits) (next : ℕ) → light_rest b s i ≡ fine v next → b ≡ v.base
  light-keeps v next e =
      let color = came (u32s 3 s i) _ v next e in
      let direction = came (u32s 3 s color.at) _ v next color.rest in
      let selected = came (bool s direction.at) _ v next direction.rest in
      ap (λ (v : LightBits). v.base) (same-value selected.rest)

-- So the payload begins behind the base.
module _ (s : List ℕ) (include_index : Bool) (at : ℕ) where
  pub bone-at : (v : BoneBits) (to : ℕ) → bone_bits include_index s at ≡ fine v to → v.base.payload_offset ≡ at + front include_index
  unfolding bone_bits
  bone-at = payload-at s bone_rest (λ v. v.base) (bone-keeps s) include_index at

  pub morph-at : (v : MorphBits) (to : ℕ) → morph_bits include_index s at ≡ fine v to → v.base.payload_offset ≡ at + front include_index
  unfolding morph_bits
  morph-at = payload-at s morph_rest (λ v. v.base) (morph-keeps s) include_index at

  model_at : (c p : ℕ) (v : ModelBits) (to : ℕ) → model_bits include_index c p s at ≡ fine v to → v.base.payload_offset ≡ at + front include_index
  unfolding model_bits
  model_at c p = payload-at s (model_rest c p) (λ v. v.base) (λ b i. model-keeps s b i c p) include_index at

  camera-at : (v : CameraBits) (to : ℕ) → camera_bits include_index s at ≡ fine v to → v.base.payload_offset ≡ at + front include_index
  unfolding camera_bits
  camera-at = payload-at s camera_rest (λ v. v.base) (camera-keeps s) include_index at

  light-at : (v : LightBits) (to : ℕ) → light_bits include_index s at ≡ fine v to → v.base.payload_offset ≡ at + front include_index
  unfolding light_bits
  light-at = payload-at s light_rest (λ v. v.base) (light-keeps s) include_index at

pub bone-walk : (include_index : Bool) → Walks (bone_bits include_index) (record-items include_index bone)
bone-walk true = bones-walk.1
bone-walk false = bones-walk.0

pub morph-walk : (include_index : Bool) → Walks (morph_bits include_index) (record-items include_index morph)
morph-walk true = morphs-walk.1
morph-walk false = morphs-walk.0

model-walk : (include_index : Bool) (c p : ℕ) → Walks (model_bits include_index c p) (record-items include_index (model c p))
model-walk true c p = (models-walk c p).1
model-walk false c p = (models-walk c p).0

camera-walk : (include_index : Bool) → Walks (camera_bits include_index) (record-items include_index camera)
camera-walk true = cameras-walk.1
camera-walk false = cameras-walk.0

light-walk : (include_index : Bool) → Walks (light_bits include_index) (record-items include_index light)
light-walk true = lights-walk.1
light-walk false = lights-walk.0

module _ (limits : Limits) (s : List ℕ) (start : ℕ) (i : Bool) (k : ℕ) where
  bone-held : WholePayload s (λ b. b.span) (bone_keyframe limits i k s start)
  unfolding bone_of
  bone-held = payload-held i (λ m. bone) (λ m. bone_bits i) (λ v. v.base) _ (λ b. b.span) s (λ m. bone-walk i) (λ m. bone-at s i) (λ m at v to. refl) (locate limits (bone_list i) k s start)

  bone-curves : (b : PmmDocumentBoneKeyframeSummary) → bone_keyframe limits i k s start ≡ answered b → length (take 16 (payload_or (λ b. b.span) (bone_keyframe limits i k s start) s)) ≡ 16
  unfolding bone_of size
  bone-curves b e =
      let p = payload i (λ m. bone) (λ m. bone_bits i) (λ v. v.base) _ (λ b. b.span) s (λ m. bone-walk i) (λ m. bone-at s i) (λ m at v to. refl) (locate limits (bone_list i) k s start) b e in
      length-take-le 16 (payload_or (λ b. b.span) (bone_keyframe limits i k s start) s) (omega (arith, bone-held.whole b e, p.length, p.items))

  -- A camera's interpolation stands 30 bytes before the record's end.
  curves-place : (b : CameraKeyframeSummary) → camera_keyframe limits i k s start ≡ answered b → (to : ℕ) × (b.offsets.interpolation_offset ≡ to - 30) × (30 ≤ to) × (to ≤ length s)
  unfolding camera_of offsets_of size
  curves-place b e =
      let m = met (Track.locate limits Kind.Camera i k s start) (λ t. camera_bits i) (λ t at v to. camera_of v at to) s b e in
      let r = m.read in
      let all = ends_as _ _ (camera-walk i) s m.at r.value r.end r.reads in
      let to = items-end _ s m.at r.end all in
      (r.end, ap (λ (b : CameraKeyframeSummary). b.offsets.interpolation_offset) (sym r.is), omega (arith, to, sized i camera), some-items i camera s m.at r.end all)

  camera-curves : (b : CameraKeyframeSummary) → camera_keyframe limits i k s start ≡ answered b → length (curves_part (camera_keyframe limits i k s start) s) ≡ 24
  camera-curves b e =
      let c = curves-place b e in
      rw e (length-take-le 24 (drop b.offsets.interpolation_offset s) (omega (arith, length-drop b.offsets.interpolation_offset s, c.1, c.2, c.3)))

  pub all_held : WholePayloads limits s start i k
  unfolding morph_of model_of camera_of light_of
  all_held = record {
    bone = bone-held;
    morph = payload-held i (λ m. morph) (λ m. morph_bits i) (λ v. v.base) _ (λ b. b.span) s (λ m. morph-walk i) (λ m. morph-at s i) (λ m at v to. refl) (locate limits (morph_list i) k s start);
    model = payload-held i (λ m. model m.front.counts.constraints m.front.counts.parents) (λ m. model_bits i m.front.counts.constraints m.front.counts.parents) (λ v. v.base) _ (λ b. b.span) s (λ m. model-walk i _ _) (λ m at. model_at s i at _ _) (λ m at v to. refl) (locate limits (model_list i) k s start);
    camera = payload-held i (λ m. camera) (λ m. camera_bits i) (λ v. v.base) _ (λ b. b.span) s (λ m. camera-walk i) (λ m. camera-at s i) (λ m at v to. refl) (Track.locate limits Kind.Camera i k s start);
    light = payload-held i (λ m. light) (λ m. light_bits i) (λ v. v.base) _ (λ b. b.span) s (λ m. light-walk i) (λ m. light-at s i) (λ m at v to. refl) (Track.locate limits Kind.Light i k s start);
    bone_curves = bone-curves;
    camera_curves = camera-curves;
  }
