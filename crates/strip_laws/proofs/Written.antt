-- The keys that the calls answer, written again, are the strip (specs, Written): each is the one that was read (Told), written as it was
-- read (KeyWritten), and what was read, written again, is the strip (strip_reader, WrittenAgain). Assumes nothing.
use Rattle.std.proofs.Common.{◌≡◌, ℕ, ◌<◌, List, length, Some, sym, ap, ◌∙◌, All}
use Rattle.std.specs.List.{slice_get}
use Rattle.layout.specs.Walk.{answered}
use Rattle.section.specs.Limits.{edition1}
use Rattle.strip.specs.{Work.{each}, Strip.{count_width, FieldsKey, Contents, strip_bytes}}
use Rattle.blocks.specs.Track.{number_of_track}
use Rattle.blocks.specs.declared.track.TrackIndex.{TrackIndex}
use Rattle.strip_reader.specs.declared.{counts.StripCounts.{StripCounts}, key.StripKey.{StripKey}}
use Rattle.strip_reader.proofs.WrittenAgain.{written-again}
use Rattle.strip_laws.specs.{Judged.{IsTrack}, Told.{Told, bone_track, morph_track}, Written.{written_key, written_track, written, SameBits, SameTold, WrittenAgain}}
use Rattle.strip_laws.proofs.{Backward.{read, kind, among, counted}, WholeKeys.{WholeContents, read-whole}, ToldKeys.{key-written, keys_read, at, many, told-of}, Lists.{each-is, each-same}}

module _ (strip : List ℕ) (told : Told strip) (c : Contents) (is : read strip ≡ answered c) (counts : told.counts ≡ record { bones = length c.bones; morphs = length c.morphs }) (whole : WholeContents c) where
  track-written : (track : TrackIndex) → IsTrack told.counts track → slice_get (among track c) (number_of_track track) ≡ Some (written_track told track)
  track-written track is_track =
      let ks = keys_read strip told c is counts track in
      let same =
      each-is ks (told.number track) (λ place. written_key (told.key track place)) (many strip told c is counts track is_track)
      (λ place less.
      let k = told-of strip told c is counts whole track is_track place less in
      k.there ∙ ap (λ (h : FieldsKey). Some h) (sym (ap written_key k.is ∙ key-written (kind track) k.key k.whole))) in
      at strip told c is counts track is_track ∙ ap (λ (hs : List FieldsKey). Some hs) (sym same)

  written-is : written told ≡ c
  written-is =
      let bones = ap (λ (m : StripCounts). m.bones) counts in
      let morphs = ap (λ (m : StripCounts). m.morphs) counts in
      let of_bones = each-is c.bones told.counts.bones (λ t. written_track told (bone_track t)) bones (λ t less. track-written (bone_track t) less) in
      let of_morphs = each-is c.morphs told.counts.morphs (λ t. written_track told (morph_track t)) morphs (λ t less. track-written (morph_track t) less) in
      rw (of_bones, of_morphs)

same : (strip : List ℕ) → All (λ b. b < 256) strip → (told : Told strip) → strip_bytes count_width (written told) ≡ strip
same strip small told =
    let r = counted strip told.counts told.are_counts in
    let c = r.contents in
    ap (strip_bytes count_width) (written-is strip told c r.is r.counts (read-whole edition1 count_width strip c small r.is))
    ∙ written-again edition1 count_width strip c small r.is

bits-written : (k l : StripKey) → SameBits k l → written_key k ≡ written_key l
bits-written (StripKey.Bone k) (StripKey.Bone l) e = rw (e.frame, e.pose_bits, e.curves)
bits-written (StripKey.Bone k) (StripKey.Morph l) e = absurd e
bits-written (StripKey.Morph k) (StripKey.Bone l) e = absurd e
bits-written (StripKey.Morph k) (StripKey.Morph l) e = rw (e.frame, e.weight_bits)

module _ {strip₁ strip₂ : List ℕ} (told₁ : Told strip₁) (told₂ : Told strip₂) (e : SameTold told₁ told₂) where
  track-same : (track : TrackIndex) → IsTrack told₁.counts track → written_track told₁ track ≡ written_track told₂ track
  track-same track is_track =
      each-same (told₁.number track) (λ place. written_key (told₁.key track place)) (λ place. written_key (told₂.key track place))
      (λ place less. bits-written (told₁.key track place) (told₂.key track place) (e.keys track is_track place less))
      ∙ ap (λ n. each n (λ place. written_key (told₂.key track place))) (e.numbers track is_track)

  written-same : written told₁ ≡ written told₂
  written-same =
      let of_bones = each-same told₁.counts.bones (λ t. written_track told₁ (bone_track t)) (λ t. written_track told₂ (bone_track t)) (λ t less. track-same (bone_track t) less) in
      let of_morphs = each-same told₁.counts.morphs (λ t. written_track told₁ (morph_track t)) (λ t. written_track told₂ (morph_track t)) (λ t less. track-same (morph_track t) less) in
      rw (of_bones, of_morphs, e.counts)

pub written-keys : WrittenAgain
written-keys =
    record {
      same = same;
      equal = λ strip₁ strip₂ small₁ small₂ told₁ told₂ e.
          sym (same strip₁ small₁ told₁) ∙ ap (strip_bytes count_width) (written-same told₁ told₂ e) ∙ same strip₂ small₂ told₂;
    }
