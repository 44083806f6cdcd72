-- A key that was read, told: its map is that of its fields, because 25 was not met; pose and curves are those of its fields. Assumes
-- nothing.
use Rattle.std.proofs.Common.{◌≡◌, ℕ, ◌+◌, ◌≤◌, ◌<◌, Bool, true, false, not, ◌||◌, List, [], ◌∷◌, ◌++◌, length, get_or, eqb, refl, sym, ap, ◌∙◌, arith}
use native.Mathlib.Nat.{zero-add}
use borrow.Author.Tests.{eqb-true}
use Rattle.layout.specs.Walk.{fine, bytes_at, answered}
use Rattle.records.specs.Curves.{curve_at, curves_at}
use Rattle.records.specs.Pose.{pose_bits}
use Rattle.records.specs.declared.pose.PoseBits.{PoseBits}
use Rattle.clip.specs.Fields.{bone, morph}
use Rattle.clip.specs.Keys.{pose_bits_of}
use Rattle.clip.specs.Section.{bone_body}
use Rattle.keys.proofs.Bodies.{get_or-bytes_at, bits-read}
use Rattle.keys.proofs.Clamping.{four}
use Rattle.strip.specs.Strip.{FieldsKey}
use Rattle.strip.specs.Keys.{map_byte}
use Rattle.strip_reader.specs.Key.{Form, form_of, bone_body_of, not_of_builder, key}
use Rattle.strip_reader.specs.Bone.{fields_of, bone_field_key, bone_key_of}
use Rattle.strip_reader.specs.Morph.{morph_field_key, morph_key_of}
use Rattle.strip_reader.specs.Stands.{key_told}
use Rattle.strip_reader.specs.declared.key.{StripKey.{StripKey}}
use Rattle.strip_reader.specs.declared.{bone_key.BoneKeyFields.{BoneKeyFields}, morph_key.MorphKeyFields.{MorphKeyFields}}
use Rattle.strip_reader.proofs.BoneKeys.{or-false, body-is}

not-false : (b : Bool) → not b ≡ false → b ≡ true
not-false true e = refl
not-false false e = absurd (let z : ◌≡◌ {A = Bool} true false = e in cc)

pub map-kept : (form : Form) (map : ℕ) (k : FieldsKey) → not_of_builder form map k ≡ false → map ≡ map_byte form.groups k.body
unfolding not_of_builder
map-kept form map k e =
    let both = or-false (not (eqb map (map_byte form.groups k.body)) || form.refused k.body) _ e in
    let first = or-false (not (eqb map (map_byte form.groups k.body))) (form.refused k.body) both.0 in
    eqb-true map (map_byte form.groups k.body) (not-false (eqb map (map_byte form.groups k.body)) first.0)

curve-in : (s : List ℕ) (k : ℕ) → k + 4 ≤ 16 → curve_at (bytes_at s 0 16) k ≡ curve_at s k
curve-in s k fits = four (byte k (omega arith)) (byte (k + 1) (omega arith)) (byte (k + 2) (omega arith)) (byte (k + 3) (omega arith))
  where
    byte : (i : ℕ) → i < 16 → get_or (bytes_at s 0 16) i 0 ≡ get_or s i 0
    byte i lt = get_or-bytes_at s 0 16 i lt ∙ ap (λ (j : ℕ). get_or s j 0) (zero-add i)

pub curves-in : (s : List ℕ) → curves_at (bytes_at s 0 16) 0 ≡ curves_at s 0
curves-in s = four (curve-in s 0 (omega arith)) (curve-in s 4 (omega arith)) (curve-in s 8 (omega arith)) (curve-in s 12 (omega arith))

module _ (c r t o body : List ℕ) (lc : length c ≡ 12) (lr : length r ≡ 4) (lt : length t ≡ 12) (lo : length o ≡ 16) (is : body ≡ c ++ r ++ t ++ o) where
  same : bone_body body 0 ≡ bone_body_of (t ∷ o ∷ c ∷ r ∷ [])
  same = ap (λ s. bone_body s 0) is ∙ body-is c r t o lc lr lt lo

  pub pose-told : (b : PoseBits) (next : ℕ) → fine b next ≡ pose_bits body 16 → b ≡ pose_bits_of (bone_body_of (t ∷ o ∷ c ∷ r ∷ []))
  pose-told b next e = bits-read body 0 b next e ∙ ap pose_bits_of same

  pub curves-told : curves_at body 0 ≡ curves_at (c ++ r) 0
  unfolding bone_body
  curves-told = sym (curves-in body) ∙ ap (λ b. curves_at b.interpolation 0) same

module _ (left rest : List ℕ) where
  pub bone-read : (k : BoneKeyFields) → answered (bone_field_key k, rest) ≡ key (form_of bone) left → k.map ≡ map_byte (form_of bone).groups (fields_of k.fields) → answered (StripKey.Bone (bone_key_of k), rest) ≡ key_told bone (key (form_of bone) left)
  bone-read k e map-e = rw (sym e, map-e) refl

  pub morph-read : (k : MorphKeyFields) → answered (morph_field_key k, rest) ≡ key (form_of morph) left → k.map ≡ map_byte (form_of morph).groups (k.weight ∷ []) → answered (StripKey.Morph (morph_key_of k), rest) ≡ key_told morph (key (form_of morph) left)
  morph-read k e map-e = rw (sym e, map-e) refl
