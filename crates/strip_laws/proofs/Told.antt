-- What the calls answer of a strip that is read: each number is its track's, and each key the one in its place; and there is an answer to
-- each (specs, Told). Assumes nothing.
use Rattle.std.proofs.Common.{◌≡◌, ℕ, ◌<◌, List, [], length, get_or, Some, Ok, ap, ◌∙◌, arith}
use Rattle.std.specs.List.{slice_get}
use Rattle.std.proofs.lemmas.Option.{slice_get-get_or}
use Rattle.layout.specs.Walk.{answered}
use Rattle.strip.specs.Strip.{FieldsKey, Contents}
use Rattle.blocks.specs.Track.{number_of_track}
use Rattle.blocks.specs.declared.track.TrackIndex.{TrackIndex}
use Rattle.strip_reader.specs.{Answers.{strip_key, key_count, key}, Run.{KeyCountCall, KeyCall}}
use Rattle.strip_reader.specs.declared.{counts.StripCounts.{StripCounts}, key.StripKey.{StripKey}}
use Rattle.strip_laws.specs.{Judged.{IsTrack}, Told.{AcceptedTold}}
use Rattle.strip_laws.proofs.{Back.{told}, Backward.{read, kind, among, counted}}

module _ (strip : List ℕ) (c : Contents) (is : read strip ≡ answered c) where
  module _ (track : TrackIndex) (ks : List FieldsKey) (at : slice_get (among track c) (number_of_track track) ≡ Some ks) where
    number-told : KeyCountCall strip track (Ok (length ks))
    unfolding key_count
    number-told = rw (is, at)

    pub number-is : (n : ℕ) → KeyCountCall strip track (Ok n) → n ≡ length ks
    unfolding key_count
    number-is n call = let e : Ok n ≡ Ok (length ks) = told (Ok n) _ call ∙ rw (is, at) in cc

    module _ (place : ℕ) (k : FieldsKey) (there : slice_get ks place ≡ Some k) where
      key-told : KeyCall strip track place (Ok (strip_key (kind track) k))
      unfolding key
      key-told = rw (is, at, there)

      pub key-is : (h : StripKey) → KeyCall strip track place (Ok h) → h ≡ strip_key (kind track) k
      unfolding key
      key-is h call = let e : Ok h ≡ Ok (strip_key (kind track) k) = told (Ok h) _ call ∙ rw (is, at, there) in cc

pub is-among : (n : StripCounts) (c : Contents) → n ≡ record { bones = length c.bones; morphs = length c.morphs } → (track : TrackIndex) → IsTrack n track → number_of_track track < length (among track c)
is-among n c e (TrackIndex.Bone bone) less = let many = ap (λ (m : StripCounts). m.bones) e in omega (arith, many, less)
is-among n c e (TrackIndex.Morph morph) less = let many = ap (λ (m : StripCounts). m.morphs) e in omega (arith, many, less)

pub accepted-told : AcceptedTold
accepted-told strip n call =
    let r = counted strip n call in
    let c = r.contents in
    let keys = λ (track : TrackIndex). get_or (among track c) (number_of_track track) [] in
    let at = λ (track : TrackIndex) (is_track : IsTrack n track). slice_get-get_or (among track c) (number_of_track track) [] (is-among n c r.counts track is_track) in
    let no_key : FieldsKey = record { frame = 0; body = [] } in
    record {
      counts = n;
      are_counts = call;
      number = λ track. length (keys track);
      is_number = λ track is_track. number-told strip c r.is track (keys track) (at track is_track);
      key = λ track place. strip_key (kind track) (get_or (keys track) place no_key);
      is_key = λ track is_track place is_place. key-told strip c r.is track (keys track) (at track is_track) place (get_or (keys track) place no_key) (slice_get-get_or (keys track) place no_key is_place);
    }
