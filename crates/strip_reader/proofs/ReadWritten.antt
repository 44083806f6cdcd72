-- Reading what was written gives it back, absent fields as their plain values: each reader takes what was written from the front and leaves
-- the rest, since no test of 16, 23, 24 and 25 is met by contents that the builder may hand over (`Readable`). Assumes nothing.
use Rattle.std.proofs.Common.{◌≡◌, ℕ, ◌+◌, ◌-◌, ◌^◌, ◌<◌, ◌≤◌, true, false, List, [], ◌∷◌, ◌++◌, map, length, eqb, leb, ltb, refl, sym, arith, append_assoc, append-nil, le-ltb, eq-eqb, ne_eqb}
use Rattle.std.specs.List.{AllByRecursion}
use borrow.Author.Tests.{lt-leb}
use lib.ListN.{length-map}
use Rattle.layout.specs.{Numbers.{least_negative, negative}, Walk.{answered}}
use Rattle.section.specs.declared.limits.Limits.{Limits}
use Rattle.clip.specs.{First.{member}, Fields.{bone, morph}}
use Rattle.strip.specs.{Numbers.{little_endian}, Plain.{bone_groups, morph_groups}, Keys.{map_byte, present, key_bytes}, Strip.{FieldsKey, Contents, keys_bytes, track_bytes, tracks_bytes, strip_bytes}}
use Rattle.strip.proofs.Keys.{Shaped}
use Rattle.strip_reader.proofs.Absent.{filled, filled_key, filled_tracks, filled_contents}
use Rattle.strip_reader.specs.{Key.{Form, form_of, not_of_builder, key}, Read.{keys, track, tracks, contents, read_strip}}
use Rattle.strip_reader.proofs.Filled.{Sensible, bones-sensible, morphs-sensible, map-below, map-filled, number-read, byte-read, fields-read}

-- Keys less one, of all tracks together.
abbrev pub additional_of : List (List FieldsKey) → ℕ
additional_of [] = 0
additional_of (ks ∷ ts) = (length ks - 1) + additional_of ts

module _ (form : Form) where
  -- A key behind keys of these frames that no test of the reader refuses.
  pub record ReadableKey (before : List ℕ) (k : FieldsKey) : Type 0 where
    pub frame : k.frame < 2147483648
    pub new : member k.frame before ≡ false
    pub shaped : Shaped form.groups k.body
    pub passes : form.refused (filled form.groups k.body) ≡ false

  abbrev pub ReadableKeys : List ℕ → List FieldsKey → Type 0
  ReadableKeys before [] = Unit {0}
  ReadableKeys before (k ∷ ks) = ReadableKey before k × ReadableKeys (k.frame ∷ before) ks

  module _ (width : ℕ) where
    pub record ReadableTrack (ks : List FieldsKey) : Type 0 where
      pub some : 0 < length ks
      pub count : length ks < 256 ^ width
      pub keys : ReadableKeys [] ks

    pub record ReadableTracks (limits : Limits) (ts : List (List FieldsKey)) : Type 0 where
      pub count : length ts < 256 ^ width
      pub additional : additional_of ts ≤ limits.additional
      pub each : AllByRecursion ReadableTrack ts

pub record Readable (limits : Limits) (width : ℕ) (c : Contents) : Type 0 where
  pub bytes : length (strip_bytes width c) ≤ limits.bytes
  pub bones : ReadableTracks (form_of bone) width limits c.bones
  pub morphs : ReadableTracks (form_of morph) width limits c.morphs

module _ (form : Form) (ok : Sensible form.groups) where
  pub key-read : (before : List ℕ) (k : FieldsKey) (rest : List ℕ) → ReadableKey form before k → key form (key_bytes form.groups (λ fields. fields) k ++ rest) ≡ answered (filled_key form.groups k, rest)
  unfolding key not_of_builder key_bytes
  key-read before k rest r =
      let map = map_byte form.groups k.body in
      let shown = present form.groups k.body in
      let known : leb (2 ^ length form.groups) map ≡ false = lt-leb (2 ^ length form.groups) map (map-below form.groups k.body) in
      let same : eqb map (map_byte form.groups (filled form.groups k.body)) ≡ true = eq-eqb _ _ (sym (map-filled form.groups k.body ok)) in
      let positive : negative k.frame ≡ false = lt-leb least_negative k.frame r.frame in
      rw (append_assoc (little_endian 4 k.frame) (map ∷ shown) rest, number-read 4 k.frame (map ∷ (shown ++ rest)) (omega (arith, r.frame)), byte-read map (shown ++ rest), known, fields-read form.groups k.body rest r.shaped, same, r.passes, positive)

  pub keys-read : (before : List ℕ) (ks : List FieldsKey) (rest : List ℕ) → ReadableKeys form before ks → keys form (length ks) before (keys_bytes form.groups (λ fields. fields) ks ++ rest) ≡ answered (map (filled_key form.groups) ks, rest)
  unfolding keys keys_bytes
  keys-read before [] rest r = refl
  keys-read before (k ∷ ks) rest r =
      let others = keys_bytes form.groups (λ fields. fields) ks in
      rw (append_assoc (key_bytes form.groups (λ fields. fields) k) others rest, key-read before k (others ++ rest) r.0, r.0.new, keys-read (k.frame ∷ before) ks rest r.1)

  module _ (limits : Limits) (width : ℕ) where
    pub track-read : (additional : ℕ) (ks : List FieldsKey) (rest : List ℕ) → additional + (length ks - 1) ≤ limits.additional → ReadableTrack form width ks → track form limits width additional (track_bytes width form.groups (λ fields. fields) ks ++ rest) ≡ answered (map (filled_key form.groups) ks, rest)
    unfolding track track_bytes
    track-read additional ks rest few r =
        let body = keys_bytes form.groups (λ fields. fields) ks in
        let some : eqb (length ks) 0 ≡ false = ne_eqb _ _ (λ none. omega (arith, r.some)) in
        let within : ltb limits.additional (additional + (length ks - 1)) ≡ false = le-ltb limits.additional (additional + (length ks - 1)) few in
        rw (append_assoc (little_endian width (length ks)) body rest, number-read width (length ks) (body ++ rest) r.count, keys-read [] ks rest r.keys, some, within)

    pub tracks-read : (additional : ℕ) (ts : List (List FieldsKey)) (rest : List ℕ) → additional + additional_of ts ≤ limits.additional → AllByRecursion (ReadableTrack form width) ts → tracks form limits width (length ts) additional (tracks_bytes width form.groups ts ++ rest) ≡ answered (filled_tracks form.groups ts, rest)
    unfolding tracks tracks_bytes
    tracks-read additional [] rest few r = refl
    tracks-read additional (ks ∷ ts) rest few r =
        let others = tracks_bytes width form.groups ts in
        rw (
          append_assoc (track_bytes width form.groups (λ fields. fields) ks) others rest,
          track-read additional ks (others ++ rest) (omega arith) r.0,
          length-map ks (filled_key form.groups),
          tracks-read (additional + (length ks - 1)) ts rest (omega arith) r.1,
        )

-- The parts of a strip, each in front of what follows it.
flat : (a b c d : List ℕ) → ((a ++ b) ++ c) ++ d ≡ a ++ (b ++ (c ++ (d ++ [])))
flat a b c d = rw append-nil (simp append_assoc)

module _ (limits : Limits) (width : ℕ) where
  pub contents-read : (c : Contents) → ReadableTracks (form_of bone) width limits c.bones → ReadableTracks (form_of morph) width limits c.morphs → contents limits width (strip_bytes width c) ≡ answered (filled_contents c, [])
  unfolding contents strip_bytes
  contents-read c bones morphs =
      let bone_tracks = tracks_bytes width bone_groups c.bones in
      let morph_tracks = tracks_bytes width morph_groups c.morphs in
      rw (
        flat (little_endian width (length c.bones)) (little_endian width (length c.morphs)) bone_tracks morph_tracks,
        number-read width (length c.bones) (little_endian width (length c.morphs) ++ (bone_tracks ++ (morph_tracks ++ []))) bones.count,
        number-read width (length c.morphs) (bone_tracks ++ (morph_tracks ++ [])) morphs.count,
        tracks-read (form_of bone) bones-sensible limits width 0 c.bones (morph_tracks ++ []) (omega (arith, bones.additional)) bones.each,
        tracks-read (form_of morph) morphs-sensible limits width 0 c.morphs [] (omega (arith, morphs.additional)) morphs.each,
      )

  pub read-written : (c : Contents) → Readable limits width c → read_strip limits width (strip_bytes width c) ≡ answered (filled_contents c)
  unfolding read_strip
  read-written c r = rw (le-ltb limits.bytes (length (strip_bytes width c)) r.bytes, contents-read c r.bones r.morphs)
