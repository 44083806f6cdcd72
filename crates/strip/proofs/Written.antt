-- The tracks of an accepted build can be written: no frame is negative, since 10 is not met; fields are as wide as their groups; and a
-- chain has no more records than there are, so that a count can tell its keys. Assumes nothing.
use Prim.Native.Nat.{ℕ, suc, ◌^◌, ◌<◌}
use native.Mathlib.Omega.{arith}
use mathlib.Core.List.{List, [], ◌∷◌, map}
use mathlib.Core.Option.{Option, none}
use mathlib.Core.Path.{◌≡◌, refl}
use borrow.Author.Tests.{leb-false}
use lib.IntN.{pos}
use lib.ListN.{length-map}
use Rattle.layout.specs.Refusals.{negative_frame, repeated_frame}
use Rattle.layout.specs.Numbers.{signed, least_negative, negative}
use Rattle.layout.specs.Walk.{bytes_at}
use Rattle.section.specs.declared.limits.Limits.{Limits}
use Rattle.section.specs.declared.model.Model.{Model}
use Rattle.clip.specs.First.{given, ◌or◌, member}
use Rattle.clip.specs.Fields.{Records, Kind, bone, morph, refusal_of}
use Rattle.clip.specs.Keys.{Key, key_test, body_refusal, pose_asked, posed, weight_asked, float_at}
use Rattle.clip.specs.Build.{initial_key, record_key, chain_of, keys}
use Rattle.clip.specs.Section.{bone_body, morph_body, initial_at, additional_at, records_at, bones, morphs}
use Rattle.clip.proofs.First.{or-none, given-none}
use Rattle.clip.proofs.Sound.{KeysPass, keys_of, Sound, chain-of}
use Rattle.clip.proofs.Reached.{chain_length}
use Rattle.strip.specs.Plain.{Group, bone_groups, bone_fields, morph_groups, morph_fields}
use Rattle.strip.proofs.Keys.{Shaped, AllWritable}
use Rattle.strip.proofs.Tracks.{WritableTrack}

pub bone-shaped : (s : List ℕ) (at : ℕ) → Shaped bone_groups (bone_fields (bone_body s at))
unfolding bone_body bytes_at
bone-shaped s at = (refl, (refl, (refl, (refl, tt))))

pub morph-shaped : (s : List ℕ) (at : ℕ) → Shaped morph_groups (morph_fields (morph_body s at))
unfolding morph_body bytes_at
morph-shaped s at = (refl, tt)

-- How many keys a count of the edition can tell.
pub record Wide (limits : Limits) (width : ℕ) : Type 0 where
  pub tracks : limits.tracks < 256 ^ width
  pub additional : suc limits.additional < 256 ^ width

module _ {B : Type 0} (kind : Kind) (asked : B → Option ℕ) where
  frame-fits : (t : ℕ) (before : List ℕ) (key : Key B) → key_test kind asked t before key ≡ none → key.frame < 4294967296
  unfolding key_test
  frame-fits t before key e =
      let r10 = refusal_of kind negative_frame (pos t ∷ signed key.frame ∷ []) in
      let r11 = refusal_of kind repeated_frame (pos t ∷ signed key.frame ∷ []) in
      let first = (or-none (given (negative key.frame) r10) (given (member key.frame before) r11 or body_refusal (asked key.body) t key.frame) e).0 in
      let low = leb-false least_negative key.frame (given-none (negative key.frame) r10 first) in
      omega (arith, low)

  module _ (groups : List Group) (fields_of : B → List (List ℕ)) (r : Records B) where
    -- The fields of every record are as wide as their groups.
    pub record ShapedRecords : Type 0 where
      pub initial : (t : ℕ) → Shaped groups (fields_of (r.initial t).body)
      pub at : (p : ℕ) → Shaped groups (fields_of (r.at p).body)

    module _ (shaped : ShapedRecords) where
      records-writable : (t : ℕ) (before ps : List ℕ) → KeysPass (key_test kind asked t) before (map (λ p. record_key (r.at p)) ps) → AllWritable groups fields_of (map (λ p. record_key (r.at p)) ps)
      records-writable t before [] pass = tt
      records-writable t before (p ∷ ps) pass =
          (record { frame = frame-fits t before (record_key (r.at p)) pass.0; shaped = shaped.at p }, records-writable t ((r.at p).frame ∷ before) ps pass.1)

      pub track-writable : (width : ℕ) → suc r.additional < 256 ^ width → (s : Sound (key_test kind asked) r) → (t : ℕ) → t < r.tracks → WritableTrack width groups fields_of (keys kind r t)
      unfolding keys
      track-writable width few s t lt =
          let pass : KeysPass (key_test kind asked t) [] (keys_of r t (chain_of kind r t)) = rw (chain-of kind (key_test kind asked) r s t lt) (s.pass t lt) in
          let most = chain_length kind (key_test kind asked) r s t lt in
          let many = length-map (chain_of kind r t) (λ p. record_key (r.at p)) in
          record {
            count = omega (arith, most, many, few);
            keys = (record { frame = frame-fits t [] (initial_key (r.initial t)) pass.0; shaped = shaped.initial t }, records-writable t ((r.initial t).frame ∷ []) (chain_of kind r t) pass.1);
          }

module _ (s : List ℕ) (m : Model) where
  pub bones-shaped : ShapedRecords bone (λ b. pose_asked (posed b)) bone_groups bone_fields (bones s m)
  unfolding bones records_at initial_at additional_at
  bones-shaped = record { initial = λ t. bone-shaped s _; at = λ p. bone-shaped s _ }

  pub morphs-shaped : ShapedRecords morph (λ w. weight_asked (float_at w 0)) morph_groups morph_fields (morphs s m)
  unfolding morphs records_at initial_at additional_at
  morphs-shaped = record { initial = λ t. morph-shaped s _; at = λ p. morph-shaped s _ }
