-- What is read of a kind's tracks, place by place: the tracks are as many as the section's, each has as many keys, and the key in a place
-- is the section's with the plain values filled in. Assumes nothing.
use Prim.Native.Nat.{ℕ, zero, suc, ◌<◌}
use native.Mathlib.Omega.{arith}
use mathlib.Core.List.{List, [], ◌∷◌, map}
use mathlib.Core.Option.{Option, none}
use mathlib.Core.Path.{◌≡◌, refl, ◌∙◌}
use lib.ListN.{length, length-map}
use Rattle.std.specs.Prelude.{Some}
use Rattle.std.specs.List.{AllByRecursion, slice_get}
use Rattle.std.proofs.lemmas.Option.{slice_get-map}
use Rattle.clip.specs.Fields.{Records, Kind}
use Rattle.clip.specs.Keys.{Key, key_test}
use Rattle.clip.specs.Build.{keys}
use Rattle.clip.proofs.Sound.{Sound}
use Rattle.strip.specs.Work.{each}
use Rattle.strip.specs.Strip.{FieldsKey, with_fields}
use Rattle.strip.proofs.ByTrack.{length-each}
use Rattle.strip.proofs.Keys.{Shaped}
use Rattle.strip.proofs.Written.{ShapedRecords}
use Rattle.strip_reader.proofs.Absent.{filled_key, filled_tracks}
use Rattle.strip_reader.specs.Key.{Form}
use Rattle.strip_laws.proofs.Lists.{get-each}
use Rattle.strip_laws.proofs.Tracks.{FineKey, keys-fine}

module _ {B : Type 0} (SameKey : FieldsKey → Key B → Type 0) where
  -- The key in a place of a track, as the section has it and as it is read.
  pub record KeyHeld (built_keys : List (Key B)) (read_keys : List FieldsKey) (place : ℕ) : Type 0 where
    pub built : Key B
    pub is_built : slice_get built_keys place ≡ Some built
    pub read : FieldsKey
    pub is_read : slice_get read_keys place ≡ Some read
    pub same : SameKey read built

  pub record TrackHeld (built_keys : List (Key B)) (read_tracks : List (List FieldsKey)) (track : ℕ) : Type 0 where
    pub read : List FieldsKey
    pub is_read : slice_get read_tracks track ≡ Some read
    pub as_many : length read ≡ length built_keys
    pub keys : (place : ℕ) → place < length built_keys → KeyHeld built_keys read place

  -- As many tracks, and each with as many keys.
  pub record TracksHeld (kind : Kind) (r : Records B) (read_tracks : List (List FieldsKey)) : Type 0 where
    pub as_many : length read_tracks ≡ r.tracks
    pub tracks : (t : ℕ) → t < r.tracks → TrackHeld (keys kind r t) read_tracks t

module _ {B : Type 0} (kind : Kind) (asked : B → Option ℕ) (form : Form) (fields_of : B → List (List ℕ)) (SameKey : FieldsKey → Key B → Type 0) (same : (k : Key B) → Shaped form.groups (fields_of k.body) → asked k.body ≡ none → SameKey (filled_key form.groups (with_fields fields_of k)) k) where
  -- A track's keys as they are read.
  abbrev read_keys : List (Key B) → List FieldsKey
  read_keys ks = map (filled_key form.groups) (map (with_fields fields_of) ks)

  key-held : (ks : List (Key B)) → AllByRecursion (FineKey kind asked form fields_of) ks → (p : ℕ) → p < length ks → KeyHeld SameKey ks (read_keys ks) p
  key-held [] fine p lt = absurd (omega arith)
  key-held (key ∷ ks) fine zero lt =
      record {
        built = key;
        is_built = refl;
        read = filled_key form.groups (with_fields fields_of key);
        is_read = refl;
        same = same key fine.0.shaped fine.0.body;
      }
  key-held (key ∷ ks) fine (suc p) lt =
      let r = key-held ks fine.1 p (omega arith) in
      record { built = r.built; is_built = r.is_built; read = r.read; is_read = r.is_read; same = r.same }

  module _ (r : Records B) (shaped : ShapedRecords kind asked form.groups fields_of r) (s : Sound (key_test kind asked) r) where
    abbrev kind_tracks : List (List FieldsKey)
    kind_tracks = each r.tracks (λ t. map (with_fields fields_of) (keys kind r t))

    pub tracks-held : TracksHeld SameKey kind r (filled_tracks form.groups kind_tracks)
    tracks-held = record {
      as_many = length-map kind_tracks (map (filled_key form.groups)) ∙ length-each r.tracks (λ t. map (with_fields fields_of) (keys kind r t));
      tracks = λ t lt.
          let ks = keys kind r t in
          record {
            read = read_keys ks;
            is_read = slice_get-map (map (filled_key form.groups)) kind_tracks t ∙ rw (get-each r.tracks (λ t. map (with_fields fields_of) (keys kind r t)) t lt);
            as_many = length-map (map (with_fields fields_of) ks) (filled_key form.groups) ∙ length-map ks (with_fields fields_of);
            keys = key-held ks (keys-fine kind asked form fields_of r shaped s t lt);
          };
    }
