-- The tracks of an accepted build can be read back: each has a key, and no more than a count can tell; no frame is negative or stands twice
-- in a track, since 10 and 11 are not met; what 12 to 14 ask holds with the plain values filled in (Bones, Morphs); and the keys behind the
-- first ones are as many as the links followed, so no more than the additional records. Assumes nothing.
use Prim.Native.Nat.{ℕ, suc, ◌-◌, ◌^◌, ◌≤◌, ◌<◌}
use native.Mathlib.Omega.{arith}
use mathlib.Core.Bool.{false}
use mathlib.Core.List.{List, [], ◌∷◌, map}
use mathlib.Core.Option.{Option, none, some}
use mathlib.Core.Path.{◌≡◌, refl, ap, ◌∙◌}
use lib.IntN.{pos}
use lib.ListN.{length, length-map}
use Rattle.std.specs.List.{AllByRecursion}
use Rattle.layout.specs.Refusals.{negative_frame, repeated_frame}
use Rattle.layout.specs.Numbers.{signed, negative}
use Rattle.section.specs.declared.limits.Limits.{Limits}
use Rattle.clip.specs.First.{given, ◌or◌, member}
use Rattle.clip.specs.Fields.{Records, Kind, refusal_of}
use Rattle.clip.specs.Keys.{Key, key_test, body_refusal}
use Rattle.clip.specs.Build.{initial_key, record_key, chain_of, keys, links_followed}
use Rattle.clip.proofs.Counting.{total-cong}
use Rattle.clip.proofs.First.{or-none}
use Rattle.clip.proofs.Sound.{KeysPass, keys_of, Sound, chain-of}
use Rattle.clip.proofs.Reached.{chain_length, reached-and-loose}
use Rattle.strip.specs.Work.{each}
use Rattle.strip.specs.Strip.{FieldsKey, with_fields}
use Rattle.strip.proofs.ByTrack.{length-each}
use Rattle.strip.proofs.Keys.{Shaped}
use Rattle.strip.proofs.Written.{ShapedRecords, Wide}
use Rattle.strip_reader.proofs.Absent.{filled}
use Rattle.strip_reader.specs.Key.{Form}
use Rattle.strip_reader.proofs.ReadWritten.{additional_of, ReadableTrack, ReadableTracks}
use Rattle.strip_reader.proofs.Passed.{ReadableBody, passed-keys, all-each, additional-each}

not_met : (why : Option ℕ) (track frame : ℕ) → body_refusal why track frame ≡ none → why ≡ none
not_met none track frame e = refl
not_met (some number) track frame e = absurd (let z : ◌≡◌ {A = ℕ} 0 1 = cc in omega arith)

-- What is asked of the body of a key that passes its test.
body_passes : {B : Type 0} (kind : Kind) (asked : B → Option ℕ) (t : ℕ) (before : List ℕ) (key : Key B) → key_test kind asked t before key ≡ none → asked key.body ≡ none
unfolding key_test
body_passes kind asked t before key e =
    let r10 = refusal_of kind negative_frame (pos t ∷ signed key.frame ∷ []) in
    let r11 = refusal_of kind repeated_frame (pos t ∷ signed key.frame ∷ []) in
    let first = or-none (given (negative key.frame) r10) (given (member key.frame before) r11 or body_refusal (asked key.body) t key.frame) e in
    let second = or-none (given (member key.frame before) r11) (body_refusal (asked key.body) t key.frame) first.1 in
    not_met (asked key.body) t key.frame second.1

module _ {B : Type 0} (kind : Kind) (asked : B → Option ℕ) (form : Form) (fields_of : B → List (List ℕ)) where
  -- A key's fields are as wide as their groups, and what is asked of its body holds.
  pub record FineKey (key : Key B) : Type 0 where
    pub shaped : Shaped form.groups (fields_of key.body)
    pub body : asked key.body ≡ none

  module _ (r : Records B) (shaped : ShapedRecords kind asked form.groups fields_of r) where
    records-fine : (t : ℕ) (before ps : List ℕ) → KeysPass (key_test kind asked t) before (map (λ p. record_key (r.at p)) ps) → AllByRecursion FineKey (map (λ p. record_key (r.at p)) ps)
    records-fine t before [] pass = tt
    records-fine t before (p ∷ ps) pass =
        (record { shaped = shaped.at p; body = body_passes kind asked t before (record_key (r.at p)) pass.0 }, records-fine t ((r.at p).frame ∷ before) ps pass.1)

    module _ (s : Sound (key_test kind asked) r) (t : ℕ) (is_track : t < r.tracks) where
      pub keys-pass : KeysPass (key_test kind asked t) [] (keys kind r t)
      unfolding keys
      keys-pass = rw (chain-of kind (key_test kind asked) r s t is_track) (s.pass t is_track)

      pub keys-fine : AllByRecursion FineKey (keys kind r t)
      unfolding keys
      keys-fine =
          let pass : KeysPass (key_test kind asked t) [] (keys_of r t (chain_of kind r t)) = keys-pass in (
            record { shaped = shaped.initial t; body = body_passes kind asked t [] (initial_key (r.initial t)) pass.0 },
            records-fine t ((r.initial t).frame ∷ []) (chain_of kind r t) pass.1,
          )

  -- What is asked of a body holds with the plain values filled in.
  abbrev pub StillFine : Type 0
  StillFine = (b : B) → Shaped form.groups (fields_of b) → asked b ≡ none → form.refused (filled form.groups (fields_of b)) ≡ false

  module _ (still : StillFine) where
    bodies-readable : (ks : List (Key B)) → AllByRecursion FineKey ks → AllByRecursion (ReadableBody kind asked form fields_of) ks
    bodies-readable [] fine = tt
    bodies-readable (key ∷ ks) fine = (record { shaped = fine.0.shaped; passes = still key.body fine.0.shaped }, bodies-readable ks fine.1)

    module _ (r : Records B) (shaped : ShapedRecords kind asked form.groups fields_of r) (s : Sound (key_test kind asked) r) where
      -- A track's keys, as a strip holds them.
      abbrev pub track_keys : ℕ → List FieldsKey
      track_keys t = map (with_fields fields_of) (keys kind r t)

      many : (t : ℕ) → length (track_keys t) ≡ suc (length (chain_of kind r t))
      unfolding keys
      many t = length-map (keys kind r t) (with_fields fields_of) ∙ ap suc (length-map (chain_of kind r t) (λ p. record_key (r.at p)))

      track-readable : (width : ℕ) → suc r.additional < 256 ^ width → (t : ℕ) → t < r.tracks → ReadableTrack form width (track_keys t)
      track-readable width few t lt =
          let most = chain_length kind (key_test kind asked) r s t lt in
          let n = many t in
          record {
            some = omega (arith, n);
            count = omega (arith, most, n, few);
            keys = passed-keys kind asked form fields_of t [] (keys kind r t) (keys-pass r shaped s t lt) (bodies-readable (keys kind r t) (keys-fine r shaped s t lt));
          }

      additional-few : additional_of (each r.tracks track_keys) ≤ r.additional
      unfolding links_followed
      additional-few =
          let sum = additional-each r.tracks track_keys in
          let same = total-cong r.tracks (λ t. length (track_keys t) - 1) (λ t. length (chain_of kind r t)) (λ t lt. let n = many t in omega (arith, n)) in
          let whole = reached-and-loose kind (key_test kind asked) r s in
          omega (arith, sum, same, whole)

      pub tracks-readable : (limits : Limits) (width : ℕ) → Wide limits width → r.tracks ≤ limits.tracks → r.additional ≤ limits.additional → ReadableTracks form width limits (each r.tracks track_keys)
      tracks-readable limits width wide few_tracks few_keys =
          let n = length-each r.tracks track_keys in
          let sum = additional-few in
          let tracks = wide.tracks in
          let additional = wide.additional in
          record {
            count = omega (arith, n, few_tracks, tracks);
            additional = omega (arith, sum, few_keys);
            each = all-each (ReadableTrack form width) r.tracks track_keys (track-readable width (omega (arith, few_keys, additional)));
          }
