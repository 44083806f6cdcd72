-- The key in a place of a track, and of a track of a strip. Assumes nothing.
use Rattle.std.proofs.Common.{◌≡◌, ℕ, ◌≤◌, ◌<◌, List, [], ◌∷◌, length, drop, refl, sym, ap, ◌∙◌, arith, length-drop, Result}
use mathlib.Core.Path.{subst}
use Rattle.std.specs.Prelude.{Option, Some, None}
use Rattle.std.specs.List.{slice_get}
use Rattle.std.proofs.lemmas.Option.{slice_get_past}
use Rattle.layout.specs.{Refusals.{absent}, Walk.{refusal, Answer, answered, declined}}
use Rattle.clip.specs.Fields.{Kind}
use Rattle.clip.proofs.Follow.{answer-is, no_answer}
use Rattle.strip.specs.Strip.{FieldsKey}
use Rattle.strip_reader.specs.Key.{form_of, key}
use Rattle.strip_reader.specs.Answers.{reader_refusal, strip_key, there}
use Rattle.strip_reader.specs.Stands.{KeysAt, FindsKeys, key_told}
use Rattle.strip_reader.specs.declared.{refusal.ReaderRefusal.{ReaderRefusal}, key.StripKey.{StripKey}}
use Rattle.strip_reader.specs.Answers.{key as key_of}
use Rattle.strip_reader.specs.Front
use Rattle.strip_reader.specs.Tracks.{TrackIn, track_keys, TellsKey}
use Rattle.binary.specs.Answers.{answer_by}
use Rattle.section.specs.Limits.{edition1}
use Rattle.strip.specs.Strip.{count_width}
use Rattle.strip_reader.proofs.Found.{count-is, keys-stand}
use Rattle.strip_reader.proofs.TrackFound.{get-drop, of_keys, by-keys, no-such-count}

module _ (kind : Kind) (s : List ℕ) (first count place : ℕ) where
  abbrev Stand : List FieldsKey → List ℕ → Type 0
  Stand ks behind = KeysAt (form_of kind) ks (drop first s) behind

  abbrev told : List FieldsKey → Answer StripKey
  told ks = there (slice_get ks place) (λ k. answered (strip_key kind k))

  pub past : count ≤ place → (ks : List FieldsKey) (behind : List ℕ) → Stand ks behind → length ks ≡ count → declined (refusal absent []) ≡ told ks
  past above ks behind stands many = rw (slice_get_past ks place (omega (arith, many))) refl

  module _ (found : Option ℕ) (within : place < count) (finds : (ks : List FieldsKey) (behind : List ℕ) → Stand ks behind → place ≤ length ks → FindsKeys (form_of kind) (drop place ks) s behind found) where
    pub not-found : found ≡ None → (ks : List FieldsKey) (behind : List ℕ) → Stand ks behind → length ks ≡ count → ⊥
    not-found e ks behind stands many = subst (λ o. FindsKeys (form_of kind) (drop place ks) s behind o) e (finds ks behind stands (omega (arith, many)))

    module _ (at : ℕ) (e : found ≡ Some at) (ks : List FieldsKey) (behind : List ℕ) (stands : Stand ks behind) (many : length ks ≡ count) where
      here : KeysAt (form_of kind) (drop place ks) (drop at s) behind
      here = subst (λ o. FindsKeys (form_of kind) (drop place ks) s behind o) e (finds ks behind stands (omega (arith, many)))

      told-is : (rest : List FieldsKey) → drop place ks ≡ rest → KeysAt (form_of kind) rest (drop at s) behind → (k : FieldsKey) × (left : List ℕ) × (key (form_of kind) (drop at s) ≡ answered (k, left)) × (told ks ≡ answered (strip_key kind k))
      told-is [] is there = absurd (let l = length-drop place ks in let none = ap length is in omega (arith, l, none, many, within))
      told-is (k ∷ rest) is there = (k, there.0, there.1, rw (get-drop place ks k rest is) refl)

      pub key-is : (k : StripKey) (left : List ℕ) → answered (k, left) ≡ key_told kind (key (form_of kind) (drop at s)) → answered k ≡ told ks
      key-is k left told-e =
          let t = told-is (drop place ks) refl here in
          let same : ◌≡◌ {A = StripKey × List ℕ} (k, left) (strip_key kind t.0, t.1) = answer-is (told-e ∙ ap (key_told kind) t.2) in
          ap (λ (p : StripKey × List ℕ). answered p.0) same ∙ sym t.3

      pub no-refusal : (why : ReaderRefusal) → declined (reader_refusal why) ≡ key_told kind (key (form_of kind) (drop at s)) → ⊥
      no-refusal why told-e = let t = told-is (drop place ks) refl here in no_answer (told-e ∙ ap (key_told kind) t.2)

-- Of a track of a strip.
module _ (s : List ℕ) (kind : Kind) (number place : ℕ) where
  pub no-track-key : (why : ReaderRefusal) → track_keys s kind number ≡ declined (reader_refusal why) → declined (reader_refusal why) ≡ key_of edition1 count_width kind number place s
  unfolding key_of
  no-track-key why e = sym (by-keys s kind number (λ ks. there (slice_get ks place) (λ k. answered (strip_key kind k))) ∙ ap (λ a. of_keys a (λ ks. there (slice_get ks place) (λ k. answered (strip_key kind k)))) e)

  pub track-key :
      (at count first : ℕ) (result : Result StripKey ReaderRefusal) → TrackIn s kind number at → answered (count, drop first s) ≡ Front.number count_width (drop at s)
      → ((ks : List FieldsKey) (behind : List ℕ) → KeysAt (form_of kind) ks (drop first s) behind → length ks ≡ count → TellsKey kind ks place result)
      → answer_by reader_refusal result ≡ key_of edition1 count_width kind number place s
  unfolding key_of
  track-key at count first result t e tells =
      let many = count-is (form_of kind) s (drop at s) t.keys t.others t.behind t.stands count first e in
      let stand = keys-stand (form_of kind) s (drop at s) t.keys t.others t.behind t.stands count first e in
      tells t.keys t.stands.1 stand (sym many)
      ∙ sym (by-keys s kind number (λ ks. there (slice_get ks place) (λ k. answered (strip_key kind k))) ∙ ap (λ a. of_keys a (λ ks. there (slice_get ks place) (λ k. answered (strip_key kind k)))) t.is)

pub ruleset in_track = (past)

pub ruleset in_strip = (no-track-key, track-key, no-such-count)
