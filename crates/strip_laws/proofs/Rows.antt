-- The rows that the call for all keys writes are those of the keys that the calls for one answer (specs, Rows): the rows of what was read
-- (Numbering) stand one behind the other in the slice (Joined), and each key is the one in its place (Told). Assumes nothing.
use Rattle.std.proofs.Common.{◌≡◌, ℕ, zero, suc, ◌+◌, ◌*◌, ◌-◌, ◌/◌, ◌<◌, ◌≤◌, List, [], ◌∷◌, length, take, drop, get_or, Ok, sym, ap, ◌∙◌, subst, arith, length-take, length-drop, get_or-take, get_or-drop}
use native.Mathlib.Decide.{dec_lt}
use Rattle.std.proofs.lemmas.{Option.{slice_get-get_or}, List.Elements.{All-take, All-drop, recursion_from_All, All-from_recursion}}
use Rattle.layout.specs.Walk.{answered}
use Rattle.clip.specs.First.{total}
use Rattle.clip.proofs.{Counting.{total-cong}}
use Rattle.strip.specs.{Strip.{Contents}, Call.{over}}
use Rattle.blocks.specs.Track.{number_of_track}
use Rattle.blocks.specs.declared.track.TrackIndex.{TrackIndex}
use Rattle.strip_reader.specs.{Answers.{key_numbers, strip_key, row_numbers, rows, keys}}
use Rattle.strip_reader.specs.declared.{counts.StripCounts.{StripCounts}, key.StripKey.{StripKey}}
use Rattle.strip_laws.specs.{Judged.{IsTrack}, Told.{Told, bone_track, morph_track}, Rows.{bone_keys, morph_keys, all_keys, keys_before, row, row_at, rows_written, Numbered, KeysTold}}
use Rattle.std.specs.List.{concat}
use Rattle.strip_laws.proofs.{Back.{told as answer-is}, Backward.{read, kind, among, counted}, Told.{key-is}, ToldKeys.{at, many}, Joined.{AllRows, row-over, behind-rows, length-rows}, Numbering.{no_key, keys_of, keys_below, rows-wide, length-all, bone-row, morph-row}}

-- A number below a sum stands in one of its parts.
record Part (n : ℕ) (f : ℕ → ℕ) (i : ℕ) : Type 0 where
  at : ℕ
  below : at < n
  place : ℕ
  within : place < f at
  is : total at f + place ≡ i

part : (n : ℕ) (f : ℕ → ℕ) (i : ℕ) → i < total n f → Part n f i
unfolding total
part zero f i less = absurd (omega (arith, less))
part (suc n) f i less = go (dec_lt i (total n f)) (part n f i)
  where
    go : Dec (i < total n f) → (i < total n f → Part n f i) → Part (suc n) f i
    go (yes earlier) before = let p = before earlier in record { at = p.at; below = omega (arith, p.below); place = p.place; within = p.within; is = p.is }
    go (no last) before = record { at = n; below = omega arith; place = i - total n f; within = omega (arith, less, last); is = omega (arith, last) }

module _ (strip : List ℕ) (told : Told strip) where
  pub numbered : (i : ℕ) → i < all_keys told → Numbered told i
  numbered i less = go (dec_lt i (bone_keys told told.counts.bones))
    where
      go : Dec (i < bone_keys told told.counts.bones) → Numbered told i
      go (yes of_bones) =
          let p = part told.counts.bones (λ t. told.number (bone_track t)) i of_bones in
          record { track = bone_track p.at; is_track = p.below; place = p.place; is_place = p.within; stands = p.is }
      go (no of_morphs) =
          let p = part told.counts.morphs (λ t. told.number (morph_track t)) (i - bone_keys told told.counts.bones) (omega (arith, less, of_morphs)) in
          record { track = morph_track p.at; is_track = p.below; place = p.place; is_place = p.within; stands = omega (arith, p.is, of_morphs) }

  module _ (c : Contents) (is : read strip ≡ answered c) (counts : told.counts ≡ record { bones = length c.bones; morphs = length c.morphs }) where
    bones-below : (n : ℕ) → n ≤ told.counts.bones → bone_keys told n ≡ keys_below c.bones n
    bones-below n few = total-cong n (λ t. told.number (bone_track t)) (λ t. length (keys_of c.bones t)) (λ t less. many strip told c is counts (bone_track t) (omega (arith, few, less)))

    morphs-below : (n : ℕ) → n ≤ told.counts.morphs → morph_keys told n ≡ keys_below c.morphs n
    morphs-below n few = total-cong n (λ t. told.number (morph_track t)) (λ t. length (keys_of c.morphs t)) (λ t less. many strip told c is counts (morph_track t) (omega (arith, few, less)))

    bone_count : told.counts.bones ≡ length c.bones
    bone_count = ap (λ (m : StripCounts). m.bones) counts

    morph_count : told.counts.morphs ≡ length c.morphs
    morph_count = ap (λ (m : StripCounts). m.morphs) counts

    pub all-bones : bone_keys told told.counts.bones ≡ keys_below c.bones (length c.bones)
    all-bones = bones-below told.counts.bones (omega arith) ∙ ap (keys_below c.bones) bone_count

    pub all-morphs : morph_keys told told.counts.morphs ≡ keys_below c.morphs (length c.morphs)
    all-morphs = morphs-below told.counts.morphs (omega arith) ∙ ap (keys_below c.morphs) morph_count

    all-read : length (rows c) ≡ all_keys told
    all-read = omega (arith, length-all c, all-bones, all-morphs)

    -- The key in a place, told.
    key-read : (track : TrackIndex) → IsTrack told.counts track → (place : ℕ) → place < told.number track → told.key track place ≡ strip_key (kind track) (get_or (keys_of (among track c) (number_of_track track)) place no_key)
    key-read track is_track place is_place =
        let ks = keys_of (among track c) (number_of_track track) in
        let there = slice_get-get_or ks place no_key (omega (arith, many strip told c is counts track is_track, is_place)) in
        key-is strip c is track ks (at strip told c is counts track is_track) place (get_or ks place no_key) there (told.key track place) (told.is_key track is_track place is_place)

    row-is : (track : TrackIndex) → IsTrack told.counts track → (place : ℕ) → place < told.number track → get_or (rows c) (keys_before told track + place) [] ≡ row told track place
    row-is (TrackIndex.Bone bone) is_track place is_place =
        ap (λ n. get_or (rows c) (n + place) []) (bones-below bone.0 (omega (arith, is_track)))
        ∙ bone-row c bone.0 place (omega (arith, is_track, bone_count)) (omega (arith, many strip told c is counts (TrackIndex.Bone bone) is_track, is_place))
        ∙ ap (λ (k : StripKey). 0 ∷ bone.0 ∷ place ∷ key_numbers k) (sym (key-read (TrackIndex.Bone bone) is_track place is_place))
    row-is (TrackIndex.Morph morph) is_track place is_place =
        ap (λ n. get_or (rows c) (n + place) []) (rw (all-bones, morphs-below morph.0 (omega (arith, is_track))))
        ∙ morph-row c morph.0 place (omega (arith, is_track, morph_count)) (omega (arith, many strip told c is counts (TrackIndex.Morph morph) is_track, is_place))
        ∙ ap (λ (k : StripKey). 1 ∷ morph.0 ∷ place ∷ key_numbers k) (sym (key-read (TrackIndex.Morph morph) is_track place is_place))

    module _ (first : ℕ) (before : List ℕ) where
      -- The rows that are written.
      abbrev taken : List (List ℕ)
      taken = take (length before / row_numbers) (drop first (rows c))

      taken-wide : AllRows taken
      taken-wide =
          let P = λ (r : List ℕ). length r ≡ row_numbers in
          recursion_from_All P taken (All-take P (length before / row_numbers) (drop first (rows c)) (All-drop P first (rows c) (All-from_recursion P (rows c) (rows-wide c))))

      length-taken : length taken ≡ rows_written told first before
      length-taken = omega (arith, length-take (length before / row_numbers) (drop first (rows c)), length-drop first (rows c), all-read)

      row-written : (i : ℕ) → i < rows_written told first before → row_at (over (concat taken) before) i ≡ get_or (rows c) (first + i) []
      row-written i less =
          row-over taken before taken-wide i (omega (arith, length-taken, less))
          ∙ get_or-take (length before / row_numbers) (drop first (rows c)) i [] (omega (arith, less))
          ∙ get_or-drop first (rows c) i []

pub keys-told : KeysTold
unfolding keys
keys-told strip told first before answer after call =
    let r = counted strip told.counts told.are_counts in
    let c = r.contents in
    let answers : answer ≡ Ok (length (rows c)) = answer-is answer _ call.answers ∙ rw r.is in
    let written = taken strip told c r.is r.counts first before in
    let leaves : after ≡ over (concat written) before = call.leaves ∙ rw r.is in
    let long = length-taken strip told c r.is r.counts first before in
    let wide = taken-wide strip told c r.is r.counts first before in
    record {
      number = answers ∙ ap (λ (n : ℕ). Ok n) (all-read strip told c r.is r.counts);
      numbered = λ i less. numbered strip told (first + i) (omega (arith, less));
      rows = λ i less k.
          ap (λ (bytes : List ℕ). row_at bytes i) leaves
          ∙ row-written strip told c r.is r.counts first before i less
          ∙ ap (λ n. get_or (rows c) n []) (sym k.stands)
          ∙ row-is strip told c r.is r.counts k.track k.is_track k.place k.is_place;
      later = subst (λ (n : ℕ). drop (row_numbers * n) after ≡ drop (row_numbers * n) before) long (ap (drop (row_numbers * length written)) leaves ∙ behind-rows written before wide);
      length_kept = ap length leaves ∙ length-rows written before wide (omega (arith, long));
    }
