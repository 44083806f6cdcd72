-- What a build takes of a record, by offsets (clip, specs/Section), is what the record's summary shows (records, specs/Keyframes): its
-- reading taken back item by item gives the offset of each item, so both are made of the same bytes. Assumes nothing.
use Prim.Native.Nat.{ℕ, ◌+◌}
use native.Mathlib.Omega.{arith}
use mathlib.Core.Bool.{Bool, true, false}
use mathlib.Core.List.{List}
use mathlib.Core.Path.{◌≡◌, refl, sym, ap, ◌∙◌}
use Rattle.std.specs.Prelude.{Option, Some, None}
use Rattle.layout.specs.Numbers.{float}
use Rattle.layout.specs.Walk.{Reader, ◌>>=◌, ◌>>◌, give, here, fine, u32_at, bytes_at, u32, bool, block}
use Rattle.layout.proofs.Inversion.{came, Was, item-was}
use Rattle.records.specs.Base.{index_bits, base_bits}
use Rattle.records.specs.Pose.{pose_bits}
use Rattle.records.specs.Keyframes.{bone_bits, morph_bits}
use Rattle.records.specs.declared.base.BaseBits.{BaseBits}
use Rattle.records.specs.declared.pose.PoseBits.{PoseBits}
use Rattle.records.specs.declared.bone.BoneBits.{BoneBits}
use Rattle.records.specs.declared.morph.MorphBits.{MorphBits}
use Rattle.clip.specs.Fields.{Initial, Additional, BoneBody}
use Rattle.clip.specs.Keys.{pose_bits_of}
use Rattle.clip.specs.Section.{bone_body, morph_body, initial_at, additional_at}
use Rattle.keys.proofs.Bodies.{bits-read, weight-bits-are}
use Rattle.keys.proofs.ItemsRead.{number-was}

-- An additional record's base, and an initial one's, which has no index and whose previous link is no build field.
pub record AdditionalShown {B : Type 0} (r : Additional B) (b : BaseBits) : Type 0 where
  pub index : Some r.index ≡ b.index
  pub frame : r.frame ≡ b.frame
  pub previous : r.previous ≡ b.previous
  pub next : r.next ≡ b.next

pub record InitialShown {B : Type 0} (r : Initial B) (b : BaseBits) : Type 0 where
  pub index : b.index ≡ None
  pub frame : r.frame ≡ b.frame
  pub next : r.next ≡ b.next

-- A bone's and a morph's fields behind the base.
abbrev pub bone_rest : BaseBits → Reader BoneBits
bone_rest base = do
  block 16
  pose ← pose_bits
  physics ← bool
  selected ← bool
  give (record { base = base; pose = pose; physics_disabled = physics; selected = selected })

abbrev pub morph_rest : BaseBits → Reader MorphBits
morph_rest base = do
  weight ← u32
  selected ← bool
  give (record { base = base; weight = weight; selected = selected })

-- Frame and links, behind an index.
abbrev base_rest : Option ℕ → Reader BaseBits
base_rest index = do
  frame ← u32
  previous ← u32
  next ← u32
  payload ← here
  give (record { index = index; frame = frame; previous = previous; next = next; payload_offset = payload })

module _ (s : List ℕ) where
  -- Frame and links from `from` on, and the body behind them.
  record Base (from : ℕ) (b : BaseBits) (next : ℕ) : Type 0 where
    pub frame : u32_at s from ≡ b.frame
    pub previous : u32_at s (from + 4) ≡ b.previous
    pub link : u32_at s (from + 8) ≡ b.next
    pub payload : from + 12 ≡ b.payload_offset
    pub to : from + 12 ≡ next

  base-made : (index : Option ℕ) (from : ℕ) (b : BaseBits) (next : ℕ) (f p l i j k : ℕ) → Was (u32_at s from) (from + 4) f i → Was (u32_at s i) (i + 4) p j → Was (u32_at s j) (j + 4) l k → fine (record { index = index; frame = f; previous = p; next = l; payload_offset = k }) k ≡ fine b next → (index ≡ b.index) × Base from b next
  base-made index from b next f p l i j k x y z e =
      let whole : ◌≡◌ {A = BaseBits} (record { index = index; frame = f; previous = p; next = l; payload_offset = k }) b = cc in
      let last : k ≡ next = cc in
      let e1 = x.to in
      let e2 = y.to in
      let e3 = z.to in
      let end : from + 12 ≡ k = omega (arith, e1, e2, e3) in (
        ap (λ (v : BaseBits). v.index) whole,
        record {
          frame = x.is ∙ ap (λ (v : BaseBits). v.frame) whole;
          previous = ap (u32_at s) e1 ∙ y.is ∙ ap (λ (v : BaseBits). v.previous) whole;
          link = ap (u32_at s) {x = from + 8} {y = j} (omega (arith, e1, e2)) ∙ z.is ∙ ap (λ (v : BaseBits). v.next) whole;
          payload = end ∙ ap (λ (v : BaseBits). v.payload_offset) whole;
          to = end ∙ last;
        },
      )

  -- Frame and links that were read from `at` on, behind an index.
  rest-made : (index : Option ℕ) (from at : ℕ) (b : BaseBits) (next : ℕ) → from ≡ at → base_rest index s at ≡ fine b next → (index ≡ b.index) × Base from b next
  rest-made index from at b next to e =
      let f = came (u32 s at) _ b next e in
      let p = came (u32 s f.at) _ b next f.rest in
      let l = came (u32 s p.at) _ b next p.rest in
      rw to (base-made index at b next f.value p.value l.value f.at p.at l.at (number-was s _ _ _ f.first) (number-was s _ _ _ p.first) (number-was s _ _ _ l.first) l.rest)

  index-was : (at : ℕ) (index : Option ℕ) (next : ℕ) → index_bits true s at ≡ fine index next → Was (Some (u32_at s at)) (at + 4) index next
  index-was at index next e =
      let n = came (u32 s at) _ index next e in
      go n.value n.at (number-was s at n.value n.at n.first) n.rest
    where
      go : (n i : ℕ) → Was (u32_at s at) (at + 4) n i → fine (Some n) i ≡ fine index next → Was (Some (u32_at s at)) (at + 4) index next
      go n i was e =
          let whole : ◌≡◌ {A = Option ℕ} (Some n) index = cc in
          let last : i ≡ next = cc in
          record { is = ap (λ (k : ℕ). Some k) was.is ∙ whole; to = was.to ∙ last }

  additional-base : (at : ℕ) (b : BaseBits) (next : ℕ) → base_bits true s at ≡ fine b next → (Some (u32_at s at) ≡ b.index) × Base (at + 4) b next
  unfolding base_bits
  additional-base at b next e =
      let n = came (index_bits true s at) _ b next e in
      let was = index-was at n.value n.at n.first in
      let made = rest-made n.value (at + 4) n.at b next was.to n.rest in
      (was.is ∙ made.0, made.1)

  initial-base : (at : ℕ) (b : BaseBits) (next : ℕ) → base_bits false s at ≡ fine b next → (b.index ≡ None) × Base at b next
  unfolding base_bits
  initial-base at b next e = let made = rest-made None at at b next refl e in (sym made.0, made.1)

  pose-shown : (from j : ℕ) (p : PoseBits) (next : ℕ) → from + 16 ≡ j → pose_bits s j ≡ fine p next → pose_bits_of (bone_body s from) ≡ p
  pose-shown from j p next to read = sym (bits-read s from p next (sym (ap (pose_bits s) to ∙ read)))

  pub bone-rest : (base : BaseBits) (from i : ℕ) (b : BoneBits) (next : ℕ) → from ≡ i → bone_rest base s i ≡ fine b next → (base ≡ b.base) × (pose_bits_of (bone_body s from) ≡ b.pose)
  bone-rest base from i b next to e =
      let c = came (block 16 s i) _ b next e in
      let p = came (pose_bits s c.at) _ b next c.rest in
      let d = came (bool s p.at) _ b next p.rest in
      let f = came (bool s d.at) _ b next d.rest in
      go c.at p.value p.at d.value f.value f.at (item-was 16 _ s i _ _ c.first).to p.first f.rest
    where
      go : (j : ℕ) (p : PoseBits) (k : ℕ) (d f : Bool) (l : ℕ) → i + 16 ≡ j → pose_bits s j ≡ fine p k → fine (record { base = base; pose = p; physics_disabled = d; selected = f }) l ≡ fine b next → (base ≡ b.base) × (pose_bits_of (bone_body s from) ≡ b.pose)
      go j p k d f l behind read e =
          let whole : ◌≡◌ {A = BoneBits} (record { base = base; pose = p; physics_disabled = d; selected = f }) b = cc in
          let there : from + 16 ≡ j = omega (arith, to, behind) in
          (ap (λ (v : BoneBits). v.base) whole, pose-shown from j p k there read ∙ ap (λ (v : BoneBits). v.pose) whole)

  pub morph-rest : (base : BaseBits) (from i : ℕ) (b : MorphBits) (next : ℕ) → from ≡ i → morph_rest base s i ≡ fine b next → (base ≡ b.base) × (u32_at (morph_body s from) 0 ≡ b.weight)
  morph-rest base from i b next to e =
      let w = came (u32 s i) _ b next e in
      let d = came (bool s w.at) _ b next w.rest in
      go w.value d.value d.at (number-was s i w.value w.at w.first).is d.rest
    where
      go : (w : ℕ) (d : Bool) (l : ℕ) → u32_at s i ≡ w → fine (record { base = base; weight = w; selected = d }) l ≡ fine b next → (base ≡ b.base) × (u32_at (morph_body s from) 0 ≡ b.weight)
      go w d l is e =
          let whole : ◌≡◌ {A = MorphBits} (record { base = base; weight = w; selected = d }) b = cc in
          (ap (λ (v : MorphBits). v.base) whole, sym (weight-bits-are s from) ∙ ap (u32_at s) to ∙ is ∙ ap (λ (v : MorphBits). v.weight) whole)

  module _ {B : Type 0} (body : List ℕ → ℕ → B) (at : ℕ) (base : BaseBits) (i : ℕ) where
    additional-shown : (b : BaseBits) → base ≡ b → base_bits true s at ≡ fine base i → AdditionalShown (additional_at body s at) b
    unfolding additional_at
    additional-shown b same read =
        let x = additional-base at base i read in
        let at_8 : at + 8 ≡ at + 4 + 4 = omega arith in
        let at-12 : at + 12 ≡ at + 4 + 8 = omega arith in
        record {
          index = x.0 ∙ ap (λ (v : BaseBits). v.index) same;
          frame = x.1.frame ∙ ap (λ (v : BaseBits). v.frame) same;
          previous = ap (u32_at s) at_8 ∙ x.1.previous ∙ ap (λ (v : BaseBits). v.previous) same;
          next = ap (u32_at s) at-12 ∙ x.1.link ∙ ap (λ (v : BaseBits). v.next) same;
        }

    initial-shown : (b : BaseBits) → base ≡ b → base_bits false s at ≡ fine base i → InitialShown (initial_at body s at) b
    unfolding initial_at
    initial-shown b same read =
        let x = initial-base at base i read in
        record {
          index = ap (λ (v : BaseBits). v.index) (sym same) ∙ x.0;
          frame = x.1.frame ∙ ap (λ (v : BaseBits). v.frame) same;
          next = x.1.link ∙ ap (λ (v : BaseBits). v.next) same;
        }

  -- A record of one kind, whose fields behind the base are read by `rest` and shown as its body.
  module _ {B Bits : Type 0} (body : List ℕ → ℕ → B) (rest : BaseBits → Reader Bits) (base-of : Bits → BaseBits) (Shown : B → Bits → Type 0) (behind : (base : BaseBits) (from i : ℕ) (b : Bits) (next : ℕ) → from ≡ i → rest base s i ≡ fine b next → (base ≡ base-of b) × Shown (body s from) b) (at : ℕ) (b : Bits) (end : ℕ) where
    additional-record : ◌>>=◌ (base_bits true) rest s at ≡ fine b end → AdditionalShown (additional_at body s at) (base-of b) × Shown (additional_at body s at).body b
    unfolding additional_at
    additional-record e =
        let x = came (base_bits true s at) _ b end e in
        let to = (additional-base at x.value x.at x.first).1.to in
        let fields = behind x.value (at + 16) x.at b end (omega (arith, to)) x.rest in
        (additional-shown body at x.value x.at (base-of b) fields.0 x.first, fields.1)

    initial-record : ◌>>=◌ (base_bits false) rest s at ≡ fine b end → InitialShown (initial_at body s at) (base-of b) × Shown (initial_at body s at).body b
    unfolding initial_at
    initial-record e =
        let x = came (base_bits false s at) _ b end e in
        let fields = behind x.value (at + 12) x.at b end (initial-base at x.value x.at x.first).1.to x.rest in
        (initial-shown body at x.value x.at (base-of b) fields.0 x.first, fields.1)

  abbrev pub PoseShown : BoneBody → BoneBits → Type 0
  PoseShown body b = pose_bits_of body ≡ b.pose

  abbrev pub WeightShown : List ℕ → MorphBits → Type 0
  WeightShown body b = u32_at body 0 ≡ b.weight

  pub bone-shown : (at : ℕ) (b : BoneBits) (end : ℕ) → bone_bits true s at ≡ fine b end → AdditionalShown (additional_at bone_body s at) b.base × PoseShown (additional_at bone_body s at).body b
  unfolding bone_bits
  bone-shown = additional-record bone_body bone_rest (λ b. b.base) PoseShown bone-rest

  pub initial-bone-shown : (at : ℕ) (b : BoneBits) (end : ℕ) → bone_bits false s at ≡ fine b end → InitialShown (initial_at bone_body s at) b.base × PoseShown (initial_at bone_body s at).body b
  unfolding bone_bits
  initial-bone-shown = initial-record bone_body bone_rest (λ b. b.base) PoseShown bone-rest

  pub morph-shown : (at : ℕ) (b : MorphBits) (end : ℕ) → morph_bits true s at ≡ fine b end → AdditionalShown (additional_at morph_body s at) b.base × WeightShown (additional_at morph_body s at).body b
  unfolding morph_bits
  morph-shown = additional-record morph_body morph_rest (λ b. b.base) WeightShown morph-rest

  pub initial-morph-shown : (at : ℕ) (b : MorphBits) (end : ℕ) → morph_bits false s at ≡ fine b end → InitialShown (initial_at morph_body s at) b.base × WeightShown (initial_at morph_body s at).body b
  unfolding morph_bits
  initial-morph-shown = initial-record morph_body morph_rest (λ b. b.base) WeightShown morph-rest

  -- The curves begin the payload.
  pub curves-shown : (at : ℕ) (b : BoneBits) (next : ℕ) → bone_bits true s at ≡ fine b next → (additional_at bone_body s at).body.interpolation ≡ bytes_at s b.base.payload_offset 16
  unfolding bone_bits additional_at bone_body
  curves-shown at b next e =
      let x = came (base_bits true s at) _ b next e in
      let payload = (additional-base at x.value x.at x.first).1.payload in
      let same = ap (λ (v : BaseBits). v.payload_offset) (bone-rest x.value x.at x.at b next refl x.rest).0 in
      ap (λ (k : ℕ). bytes_at s k 16) {x = at + 16} {y = b.base.payload_offset} (omega (arith, payload, same))

  pub initial-curves-shown : (at : ℕ) (b : BoneBits) (next : ℕ) → bone_bits false s at ≡ fine b next → (initial_at bone_body s at).body.interpolation ≡ bytes_at s b.base.payload_offset 16
  unfolding bone_bits initial_at bone_body
  initial-curves-shown at b next e =
      let x = came (base_bits false s at) _ b next e in
      ap (λ (k : ℕ). bytes_at s k 16) ((initial-base at x.value x.at x.first).1.payload ∙ ap (λ (v : BaseBits). v.payload_offset) (bone-rest x.value x.at x.at b next refl x.rest).0)
