-- A record that was read, taken back step by step (layout, Inversion): the payload begins where the base ends, and a bone's with its
-- interpolation, which was read and so is whole. Assumes nothing.
use Prim.Native.Nat.{ℕ, ◌+◌, ◌≤◌}
use mathlib.Core.Bool.{Bool}
use mathlib.Core.List.{List}
use mathlib.Core.Path.{◌≡◌, sym, ap, subst, ◌∙◌}
use lib.ListN.{length}
use Rattle.std.specs.Prelude.{Option}
use Rattle.layout.specs.Walk.{fine, block, bool, u32}
use Rattle.layout.proofs.Inversion.{came, item-fits}
use Rattle.records.specs.Base.{index_bits, base_bits}
use Rattle.records.specs.Pose.{pose_bits}
use Rattle.records.specs.Keyframes.{bone_bits}
use Rattle.records.specs.declared.base.BaseBits.{BaseBits}
use Rattle.records.specs.declared.bone.BoneBits.{BoneBits}
use Rattle.records.specs.declared.pose.PoseBits.{PoseBits}

module _ (include_index : Bool) (s : List ℕ) (at : ℕ) where
  -- The payload follows the base.
  pub payload-next : (b : BaseBits) (next : ℕ) → base_bits include_index s at ≡ fine b next → b.payload_offset ≡ next
  unfolding base_bits
  payload-next b next e =
      let i = came (index_bits include_index s at) _ b next e in
      let f = came (u32 s i.at) _ b next i.rest in
      let p = came (u32 s f.at) _ b next f.rest in
      let l = came (u32 s p.at) _ b next p.rest in
      go i.value f.value p.value l.value l.at l.rest
    where
      go : (index : Option ℕ) (frame previous link to : ℕ) → fine (record { index = index; frame = frame; previous = previous; next = link; payload_offset = to }) to ≡ fine b next → b.payload_offset ≡ next
      go index frame previous link to e =
          let whole : ◌≡◌ {A = BaseBits} (record { index = index; frame = frame; previous = previous; next = link; payload_offset = to }) b = cc in
          let last : to ≡ next = cc in
          sym (ap (λ (v : BaseBits). v.payload_offset) whole) ∙ last

  -- A bone's payload begins with its interpolation, which is whole.
  pub interpolation-fits : (b : BoneBits) (next : ℕ) → bone_bits include_index s at ≡ fine b next → b.base.payload_offset + 16 ≤ length s
  unfolding bone_bits
  interpolation-fits b next e =
      let base = came (base_bits include_index s at) _ b next e in
      let k = came (block 16 s base.at) _ b next base.rest in
      let p = came (pose_bits s k.at) _ b next k.rest in
      let d = came (bool s p.at) _ b next p.rest in
      let f = came (bool s d.at) _ b next d.rest in
      let same = go base.value p.value d.value f.value f.at f.rest in
      let offset = sym (payload-next base.value base.at base.first) ∙ ap (λ (v : BaseBits). v.payload_offset) same in
      subst (λ (n : ℕ). n + 16 ≤ length s) offset (item-fits 16 _ s base.at _ _ k.first)
    where
      go : (base : BaseBits) (p : PoseBits) (d f : Bool) (end : ℕ) → fine (record { base = base; pose = p; physics_disabled = d; selected = f }) end ≡ fine b next → base ≡ b.base
      go base p d f end e =
          let whole : ◌≡◌ {A = BoneBits} (record { base = base; pose = p; physics_disabled = d; selected = f }) b = cc in
          ap (λ (v : BoneBits). v.base) whole
