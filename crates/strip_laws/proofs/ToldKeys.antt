-- A key that is told of a strip of bytes is the one that was read in its place, and whole (WholeKeys); so it is written as it was read
-- (KeyWritten). Assumes nothing.
use Rattle.std.proofs.Common.{◌≡◌, ℕ, ◌<◌, List, [], length, get_or, Some, arith}
use Rattle.std.specs.List.{AllByRecursion, slice_get}
use Rattle.std.proofs.lemmas.Option.{slice_get-get_or}
use Rattle.layout.specs.Walk.{answered}
use Rattle.clip.specs.Fields.{Kind, bone, morph}
use Rattle.strip.specs.{Strip.{FieldsKey, Contents}}
use Rattle.blocks.specs.Track.{number_of_track}
use Rattle.blocks.specs.declared.track.TrackIndex.{TrackIndex}
use Rattle.strip_reader.specs.{Key.{form_of}, Answers.{strip_key}}
use Rattle.strip_reader.specs.declared.{key.StripKey.{StripKey}}
use Rattle.strip_laws.specs.{Judged.{IsTrack}, Told.{Told}, Written.{written_key}}
use Rattle.strip_laws.proofs.{Backward.{read, kind, among}, Told.{number-is, key-is, is-among}, WholeKeys.{WholeKey, WholeContents}, KeyWritten.{bone-written, morph-written}, Lists.{all-get}}

abbrev pub Whole : Kind → FieldsKey → Type 0
Whole kind = WholeKey (form_of kind)

pub key-written : (kind : Kind) (k : FieldsKey) → Whole kind k → written_key (strip_key kind k) ≡ k
key-written bone k whole = bone-written k whole
key-written morph k whole = morph-written k whole

-- What is told of a key that is whole.
pub record ToldOf (kind : Kind) (ks : List FieldsKey) (place : ℕ) (k : StripKey) : Type 0 where
  pub key : FieldsKey
  pub there : slice_get ks place ≡ Some key
  pub whole : Whole kind key
  pub is : k ≡ strip_key kind key

all-whole : (c : Contents) → WholeContents c → (track : TrackIndex) → AllByRecursion (AllByRecursion (Whole (kind track))) (among track c)
all-whole c whole (TrackIndex.Bone index) = whole.bones
all-whole c whole (TrackIndex.Morph index) = whole.morphs

module _ (strip : List ℕ) (told : Told strip) (c : Contents) (is : read strip ≡ answered c) (counts : told.counts ≡ record { bones = length c.bones; morphs = length c.morphs }) where
  -- The keys of a track, as they were read, and how many they are.
  abbrev pub keys_read : TrackIndex → List FieldsKey
  keys_read track = get_or (among track c) (number_of_track track) []

  pub at : (track : TrackIndex) → IsTrack told.counts track → slice_get (among track c) (number_of_track track) ≡ Some (keys_read track)
  at track is_track = slice_get-get_or (among track c) (number_of_track track) [] (is-among told.counts c counts track is_track)

  pub many : (track : TrackIndex) → IsTrack told.counts track → told.number track ≡ length (keys_read track)
  many track is_track = number-is strip c is track (keys_read track) (at track is_track) (told.number track) (told.is_number track is_track)

  pub told-of : WholeContents c → (track : TrackIndex) → IsTrack told.counts track → (place : ℕ) → place < told.number track → ToldOf (kind track) (keys_read track) place (told.key track place)
  told-of whole track is_track place is_place =
      let no_key : FieldsKey = record { frame = 0; body = [] } in
      let ks = keys_read track in
      let k = get_or ks place no_key in
      let there = slice_get-get_or ks place no_key (omega (arith, many track is_track, is_place)) in
      let of_track = all-get (AllByRecursion (Whole (kind track))) (among track c) (all-whole c whole track) (number_of_track track) ks (at track is_track) in
      record {
        key = k;
        there = there;
        whole = all-get (Whole (kind track)) ks of_track place k there;
        is = key-is strip c is track ks (at track is_track) place k there (told.key track place) (told.is_key track is_track place is_place);
      }
