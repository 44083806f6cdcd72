-- A key by its kind, each kind by itself: its bytes are those that the crate `keys` writes, as long for every frame, and at most 49, 5 of
-- frame and map and 44 of all groups. Assumes nothing.
use Prim.Native.Nat.{ℕ, ◌+◌, ◌≤◌}
use native.Mathlib.Omega.{arith}
use mathlib.Core.Bool.{Bool, true, false, cond}
use mathlib.Core.List.{List, [], ◌∷◌}
use mathlib.Core.Path.{◌≡◌, refl, sym, subst}
use lib.Ieee.{Float, binary32, to_bits}
use lib.ListN.{length}
use Rattle.clip.specs.Keys.{Key}
use Rattle.strip.specs.Plain.{Group, morph_groups, morph_fields}
use Rattle.strip.specs.Numbers.{little_endian}
use Rattle.strip.specs.Keys.{key_bytes}
use Rattle.strip.proofs.Bytes.{length-little_endian}
use Rattle.strip.proofs.Keys.{Shaped}
use Rattle.strip.proofs.Length.{widths}
use Rattle.strip.proofs.Written.{bone-shaped, morph-shaped}
use Rattle.keys.specs.Placed.{bone_key_bytes, morph_key_bytes, weight_key_bytes}
use Rattle.keys.proofs.Lengths.{standing_widths, key-length, any-frame}
use Rattle.blocks.specs.declared.kind.Kind.{Kind}
use Rattle.writing.specs.Tracks.{groups_of, fields_at, key_at}

-- The length of a morph's key does not turn on its frame.
pub any-weight : (frame : ℕ) (weight : Float) → length (weight_key_bytes 0 weight) ≡ length (weight_key_bytes frame weight)
any-weight frame weight = any-frame morph_groups morph_fields 0 frame (little_endian 4 (to_bits binary32 weight)) (length-little_endian 4 _, tt)

module _ (s : List ℕ) where
  pub bone-key : (kind : Kind) → kind ≡ Kind.Bone → (at frame : ℕ) → bone_key_bytes s at frame ≡ key_at s kind (record { frame = frame; body = at })
  unfolding key_bytes
  bone-key kind is at frame = subst (λ (k : Kind). bone_key_bytes s at frame ≡ key_at s k (record { frame = frame; body = at })) (sym is) refl

  pub morph-key : (kind : Kind) → kind ≡ Kind.Morph → (at frame : ℕ) → morph_key_bytes s at frame ≡ key_at s kind (record { frame = frame; body = at })
  unfolding key_bytes
  morph-key kind is at frame = subst (λ (k : Kind). morph_key_bytes s at frame ≡ key_at s k (record { frame = frame; body = at })) (sym is) refl

  shaped : (kind : Kind) (at : ℕ) → Shaped (groups_of kind) (fields_at s kind at)
  shaped Kind.Bone at = bone-shaped s at
  shaped Kind.Morph at = morph-shaped s at

  pub every-frame : (kind : Kind) (at frame : ℕ) → length (key_at s kind (record { frame = 0; body = at })) ≡ length (key_at s kind (record { frame = frame; body = at }))
  every-frame kind at frame = any-frame (groups_of kind) (fields_at s kind) 0 frame at (shaped kind at)

  pub key-most : (kind : Kind) (key : Key ℕ) → length (key_at s kind key) ≤ 49
  key-most kind key =
      let long = key-length (groups_of kind) (fields_at s kind) key (shaped kind key.body) in
      let some = standing-most (groups_of kind) (fields_at s kind key.body) in
      let all = widths-most kind in
      omega (arith, long, some, all)
    where
      standing-most : (gs : List Group) (fs : List (List ℕ)) → standing_widths gs fs ≤ widths gs
      standing-most [] fs = omega arith
      standing-most (g ∷ gs) [] = omega arith
      standing-most (g ∷ gs) (f ∷ fs) = go (g.plain f) (standing-most gs fs)
        where
          go : (b : Bool) → standing_widths gs fs ≤ widths gs → cond b 0 g.width + standing_widths gs fs ≤ g.width + widths gs
          go true rest = omega arith
          go false rest = omega arith

      widths-most : (kind : Kind) → widths (groups_of kind) ≤ 44
      widths-most Kind.Bone = omega arith
      widths-most Kind.Morph = omega arith

pub ruleset keys = (bone-key, morph-key, every-frame, any-weight)
