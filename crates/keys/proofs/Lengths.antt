-- A key has 5 bytes of frame and map and the widths of those groups that are not plain, whatever its frame; its bytes are the parts that
-- are written: the head, the pose and the curves of a bone, the head and the weight of a morph. Assumes nothing.
use Prim.Native.Nat.{ℕ, ◌+◌}
use native.Mathlib.Omega.{arith}
use mathlib.Core.Bool.{Bool, true, false, cond}
use mathlib.Core.List.{List, [], ◌∷◌, ◌++◌, map, append_assoc, append-nil}
use mathlib.Core.Path.{◌≡◌, refl, sym, ◌∙◌}
use lib.ListN.{length, get_or, length-append}
use Rattle.layout.specs.Walk.{bytes_at}
use Rattle.records.specs.Curves.{curves_at}
use Rattle.clip.specs.Keys.{Key}
use Rattle.clip.specs.Section.{bone_body}
use Rattle.strip.specs.Plain.{Group, clamped, bone_groups, bone_fields, morph_groups, morph_fields}
use Rattle.strip.specs.Numbers.{little_endian}
use Rattle.strip.specs.Keys.{map_byte, present, key_bytes}
use Rattle.strip.proofs.Bytes.{length-little_endian}
use Rattle.strip.proofs.Keys.{Shaped}
use Rattle.strip.proofs.Written.{bone-shaped}
use Rattle.keys.specs.Plain.{plain_in, bone_plain, standing}
use Rattle.keys.specs.Placed.{Room, head_bytes, pose_bytes, three_curves, curve_bytes, bone_key_bytes}
use Rattle.keys.specs.declared.plain.BonePlain.{BonePlain}
use Rattle.keys.proofs.Groups.{first-curves, fourth-curve, bone-map-is, morph-map-is}

-- The widths of the groups that are not plain.
abbrev pub standing_widths : List Group → List (List ℕ) → ℕ
standing_widths [] fields = 0
standing_widths (g ∷ gs) [] = 0
standing_widths (g ∷ gs) (field ∷ fields) = cond (g.plain field) 0 g.width + standing_widths gs fields

present-length : (gs : List Group) (fs : List (List ℕ)) → Shaped gs fs → length (present gs fs) ≡ standing_widths gs fs
unfolding present
present-length [] [] s = refl
present-length [] (f ∷ fs) s = absurd s
present-length (g ∷ gs) [] s = absurd s
present-length (g ∷ gs) (f ∷ fs) s = go (g.plain f) (present-length gs fs s.1)
  where
    go : (b : Bool) → length (present gs fs) ≡ standing_widths gs fs → length (cond b [] f ++ present gs fs) ≡ cond b 0 g.width + standing_widths gs fs
    go true rest = omega arith
    go false rest = let sum = length-append f (present gs fs) in let w = s.0 in omega (arith, sum, w)

module _ {B : Type 0} (groups : List Group) (fields_of : B → List (List ℕ)) where
  pub key-length : (key : Key B) → Shaped groups (fields_of key.body) → length (key_bytes groups fields_of key) ≡ 5 + standing_widths groups (fields_of key.body)
  unfolding key_bytes
  key-length key s =
      let sum = length-append (little_endian 4 key.frame) (map_byte groups (fields_of key.body) ∷ present groups (fields_of key.body)) in
      let four = length-little_endian 4 key.frame in
      let rest = present-length groups (fields_of key.body) s in
      omega (arith, sum, four, rest)

  -- The length of a key does not turn on its frame.
  pub any-frame : (frame₁ frame₂ : ℕ) (body : B) → Shaped groups (fields_of body) → length (key_bytes groups fields_of (record { frame = frame₁; body = body })) ≡ length (key_bytes groups fields_of (record { frame = frame₂; body = body }))
  any-frame frame₁ frame₂ body s = key-length (record { frame = frame₁; body = body }) s ∙ sym (key-length (record { frame = frame₂; body = body }) s)

module _ (s : List ℕ) (at frame : ℕ) where
  pub bone-length-is : 5 + standing 12 16 12 4 (bone_plain (bone_body s at)) ≡ length (bone_key_bytes s at frame)
  bone-length-is = let l = key-length bone_groups bone_fields (record { frame = frame; body = bone_body s at }) (bone-shaped s at) in omega (arith, l)

module _ (frame : ℕ) (body : List ℕ) where
  pub morph-length-is : length body ≡ 4 → 5 + cond (plain_in morph_groups (morph_fields body) 0) 0 4 ≡ length (key_bytes morph_groups morph_fields (record { frame = frame; body = body }))
  morph-length-is four = let l = key-length morph_groups morph_fields (record { frame = frame; body = body }) (four, tt) in omega (arith, l)

  module _ (plain : Bool) (byte : ℕ) where
    pub morph-parts : plain ≡ plain_in morph_groups (morph_fields body) 0 → byte ≡ cond plain 0 1 → head_bytes frame byte ++ cond plain [] body ≡ key_bytes morph_groups morph_fields (record { frame = frame; body = body })
    unfolding key_bytes present
    morph-parts pe be =
        let byte-is : byte ≡ map_byte morph_groups (morph_fields body) = be ∙ rw pe (morph-map-is body) in
        simp (append_assoc, append-nil) (rw (byte-is, pe))

    pub morph-room : (place : ℕ) (old : List ℕ) → plain ≡ plain_in morph_groups (morph_fields body) 0 → byte ≡ cond plain 0 1 → Room place (key_bytes morph_groups morph_fields (record { frame = frame; body = body })) old → Room place (head_bytes frame byte ++ cond plain [] body) old
    morph-room place old pe be room = rw (morph-parts pe be) room

regroup : (e : List ℕ) (m : ℕ) (a b c d : List ℕ) → e ++ m ∷ [] ++ (a ++ b) ++ (c ++ d) ≡ e ++ m ∷ (a ++ (b ++ (c ++ (d ++ []))))
regroup e m a b c d = simp (append_assoc, append-nil)

module _ (s : List ℕ) (at frame : ℕ) where
  module _ (p : BonePlain) (cs : List (List ℕ)) (byte : ℕ) where
    pub bone-parts : p ≡ bone_plain (bone_body s at) → cs ≡ map clamped (curves_at s at) → byte ≡ standing 1 2 4 8 p → head_bytes frame byte ++ pose_bytes p s at ++ curve_bytes p cs ≡ bone_key_bytes s at frame
    unfolding key_bytes present bone_body
    bone-parts pe ce be =
        let byte-is : byte ≡ map_byte bone_groups (bone_fields (bone_body s at)) = be ∙ rw pe (bone-map-is s at) in
        let a = cond p.translation [] (bytes_at s (at + 16) 12) in
        let b = cond p.orientation [] (bytes_at s (at + 28) 16) in
        let c = cond p.curves [] (three_curves cs) in
        let d = cond p.rotation [] (get_or cs 3 []) in
        regroup (little_endian 4 frame) byte a b c d ∙ rw (byte-is, pe, ce, first-curves s at, fourth-curve s at)

    -- Room for the key is room for its parts.
    pub bone-room : (place : ℕ) (old : List ℕ) → p ≡ bone_plain (bone_body s at) → cs ≡ map clamped (curves_at s at) → byte ≡ standing 1 2 4 8 p → Room place (bone_key_bytes s at frame) old → Room place (head_bytes frame byte ++ pose_bytes p s at ++ curve_bytes p cs) old
    bone-room place old pe ce be room = rw (bone-parts pe ce be) room

pub ruleset lengths = (bone-length-is)
