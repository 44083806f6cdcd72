-- The bytes of tracks that are given by their numbers, and the strip of a section by them: what its clip's keys are written as. Assumes
-- nothing.
use Prim.Native.Nat.{ℕ, zero, suc, ◌+◌}
use native.Mathlib.Omega.{arith}
use mathlib.Core.List.{List, [], ◌∷◌, ◌++◌, append_assoc, append-nil, map}
use mathlib.Core.Path.{◌≡◌, refl, sym, ap, ◌∙◌}
use lib.ListN.{length, length-append, length-map}
use Rattle.section.specs.declared.model.Model.{Model}
use Rattle.clip.specs.Fields.{bone, morph}
use Rattle.clip.specs.Keys.{Key}
use Rattle.clip.specs.Build.{keys}
use Rattle.clip.specs.Section.{bones, morphs}
use Rattle.strip.specs.Numbers.{little_endian}
use Rattle.strip.specs.Plain.{Group, bone_groups, bone_fields, morph_groups, morph_fields}
use Rattle.strip.specs.Keys.{key_bytes}
use Rattle.strip.specs.Work.{each}
use Rattle.strip.specs.Strip.{FieldsKey, keys_bytes, track_bytes, tracks_bytes, strip_bytes, with_fields, clip_contents, strip_of}

pub length-each : {A : Type 0} (n : ℕ) (f : ℕ → A) → length (each n f) ≡ n
unfolding each
length-each zero f = refl
length-each (suc n) f = let sum = length-append (each n f) (f n ∷ []) in let rest = length-each n f in omega (arith, sum, rest)

module _ {B : Type 0} (width : ℕ) (groups : List Group) (fields_of : B → List (List ℕ)) where
  -- The tracks from one on, so many of them.
  unfoldable pub tracks_from : (ℕ → List (Key B)) → ℕ → ℕ → List ℕ
  tracks_from of track zero = []
  tracks_from of track (suc n) = track_bytes width groups fields_of (of track) ++ tracks_from of (suc track) n

  -- The last track behind the others.
  from-last : (of : ℕ → List (Key B)) (t n : ℕ) → tracks_from of t (suc n) ≡ tracks_from of t n ++ track_bytes width groups fields_of (of (t + n))
  unfolding tracks_from
  from-last of t zero = append-nil (track_bytes width groups fields_of (of t)) ∙ ap (λ k. track_bytes width groups fields_of (of k)) (omega arith)
  from-last of t (suc n) =
      ap (λ bytes. track_bytes width groups fields_of (of t) ++ bytes) (from-last of (suc t) n)
      ∙ sym (append_assoc (track_bytes width groups fields_of (of t)) (tracks_from of (suc t) n) (track_bytes width groups fields_of (of (suc t + n))))
      ∙ ap (λ k. track_bytes width groups fields_of (of t) ++ tracks_from of (suc t) n ++ track_bytes width groups fields_of (of k)) (omega arith)

module _ (width : ℕ) (groups : List Group) where
  tracks-append : (xs ys : List (List FieldsKey)) → tracks_bytes width groups (xs ++ ys) ≡ tracks_bytes width groups xs ++ tracks_bytes width groups ys
  unfolding tracks_bytes
  tracks-append [] ys = refl
  tracks-append (x ∷ xs) ys = rw (tracks-append xs ys) (sym (append_assoc (track_bytes width groups (λ fields. fields) x) (tracks_bytes width groups xs) (tracks_bytes width groups ys)))

  module _ {B : Type 0} (fields_of : B → List (List ℕ)) where
    keys-bytes : (ks : List (Key B)) → keys_bytes groups (λ fields. fields) (map (with_fields fields_of) ks) ≡ keys_bytes groups fields_of ks
    unfolding keys_bytes key_bytes
    keys-bytes [] = refl
    keys-bytes (k ∷ ks) = rw (keys-bytes ks)

    track-bytes : (ks : List (Key B)) → track_bytes width groups (λ fields. fields) (map (with_fields fields_of) ks) ≡ track_bytes width groups fields_of ks
    unfolding track_bytes
    track-bytes ks = rw (length-map ks (with_fields fields_of), keys-bytes ks)

    each-track : (n : ℕ) (of : ℕ → List (Key B)) → tracks_bytes width groups (each n (λ t. map (with_fields fields_of) (of t))) ≡ tracks_from width groups fields_of of 0 n
    unfolding each tracks_bytes tracks_from
    each-track zero of = refl
    each-track (suc n) of =
        let front = each n (λ t. map (with_fields fields_of) (of t)) in
        tracks-append front (map (with_fields fields_of) (of n) ∷ [])
        ∙ rw (each-track n of, append-nil (track_bytes width groups (λ fields. fields) (map (with_fields fields_of) (of n))), track-bytes (of n))
        (sym (from-last width groups fields_of of 0 n ∙ ap (λ k. tracks_from width groups fields_of of 0 n ++ track_bytes width groups fields_of (of k)) (omega arith)))

pub strip-of-tracks : (width : ℕ) (s : List ℕ) (m : Model) → strip_of width s m
    ≡ little_endian width (bones s m).tracks
    ++ little_endian width (morphs s m).tracks
    ++ tracks_from width bone_groups bone_fields (keys bone (bones s m)) 0 (bones s m).tracks
    ++ tracks_from width morph_groups morph_fields (keys morph (morphs s m)) 0 (morphs s m).tracks
unfolding strip_of strip_bytes clip_contents
strip-of-tracks width s m =
    rw (
      length-each (bones s m).tracks (λ t. map (with_fields bone_fields) (keys bone (bones s m) t)),
      length-each (morphs s m).tracks (λ t. map (with_fields morph_fields) (keys morph (morphs s m) t)),
      each-track width bone_groups bone_fields (bones s m).tracks (keys bone (bones s m)),
      each-track width morph_groups morph_fields (morphs s m).tracks (keys morph (morphs s m)),
    )
    refl
