-- Where the tracks meet nothing, no key of theirs does, whatever frames are before it: what meets nothing meets nothing in each of its
-- parts (`or-none`). So a morph key is answered as its value, and its weight is finite. Assumes nothing.
use Prim.Native.Nat.{ℕ}
use mathlib.Core.Bool.{Bool, true, false, not}
use mathlib.Core.List.{List, [], ◌∷◌}
use mathlib.Core.Option.{Option, none, some}
use mathlib.Core.Path.{◌≡◌, refl, ap, ◌∙◌}
use lib.IntN.{pos}
use lib.Ieee.{Float}
use Rattle.std.specs.List.{All}
use Rattle.std.proofs.lemmas.List.Elements.{All-nil, All-cons}
use Rattle.layout.specs.Walk.{Refusal, Answer, answered, declined}
use Rattle.clip.specs.First.{given, ◌or◌, member}
use Rattle.layout.specs.Numbers.{signed, negative}
use Rattle.clip.specs.Fields.{morph, refusal_of}
use Rattle.clip.specs.Keys.{Key, key_test, body_refusal, finite, float_at, weight_asked}
use Rattle.clip.specs.Section.{morph_body}
use Rattle.clip.specs.Chain.{chain}
use Rattle.clip.specs.Build.{initial_key, record_key, chain_refusal, reached_before, records_refusal, track_refusal}
use Rattle.clip.proofs.First.{or-none, none_or, first-none}
use Rattle.blocks.specs.Kind.{kind_of}
use Rattle.blocks.specs.Block.{links}
use Rattle.chains.specs.Chain.{chain_at}
use Rattle.track_keys.specs.Keys.{asked_at, key_meets}
use Rattle.track_keys.specs.MorphKeys.{morph_key}
use Rattle.track_keys.specs.Tracks.{test_at, meets, tracks_meet}
use Rattle.track_keys.specs.Fine.{KeyFine, KeysFine, AllFine}
use Rattle.blocks.specs.declared.block.Block.{Block}
use Rattle.blocks.specs.declared.kind.Kind.{Kind}
use Rattle.track_keys.proofs.OneKey.{key-refused}

module _ (s : List ℕ) (b : Block) (track : ℕ) where
  abbrev test : List ℕ → Key ℕ → Option Refusal
  test = test_at s b track

  abbrev rest : List ℕ → List ℕ → Option Refusal
  rest = records_refusal (kind_of b.kind) (test_at s b) (links s b) track

  -- Whatever frames are before it.
  key-fine : (before : List ℕ) (key : Key ℕ) → test before key ≡ none → KeyFine s b.kind track key
  unfolding key_test
  key-fine before key nothing =
      let positive = given (negative key.frame) (refusal_of (kind_of b.kind) 10 (pos track ∷ signed key.frame ∷ [])) in
      let new = given (member key.frame before) (refusal_of (kind_of b.kind) 11 (pos track ∷ signed key.frame ∷ [])) in
      let body = body_refusal (asked_at s b.kind key.body) track key.frame in
      let parts = or-none positive (new or body) nothing in
      none_or positive body parts.0 (or-none new body parts.1).1

  records-fine : (before ps : List ℕ) → rest before ps ≡ none → All (λ p. KeyFine s b.kind track (record_key ((links s b).at p))) ps
  unfolding records_refusal
  records-fine before [] nothing = All-nil (λ p. KeyFine s b.kind track (record_key ((links s b).at p)))
  records-fine before (p ∷ ps) nothing =
      let key = record_key ((links s b).at p) in
      let own = given (reached_before (kind_of b.kind) (links s b) track p) (refusal_of (kind_of b.kind) 9 (signed ((links s b).at p).index ∷ [])) in
      let parts = or-none (test before key) (rest (key.frame ∷ before) ps) (or-none own (test before key or rest (key.frame ∷ before) ps) nothing).1 in
      All-cons (λ p. KeyFine s b.kind track (record_key ((links s b).at p))) p ps (key-fine before key parts.0) (records-fine (key.frame ∷ before) ps parts.1)

  track-fine : meets s b track ≡ none → KeysFine s b track
  unfolding track_refusal
  track-fine nothing =
      let key = initial_key ((links s b).initial track) in
      let ps = chain_at s b track in
      let parts = or-none (test [] key) (rest (key.frame ∷ []) ps) (or-none (chain_refusal (chain (kind_of b.kind) (links s b) track)) (test [] key or rest (key.frame ∷ []) ps) nothing).1 in
      record { initial = key-fine [] key parts.0; records = records-fine (key.frame ∷ []) ps parts.1 }

pub all-fine : (s : List ℕ) (b : Block) → tracks_meet s b b.initials.count ≡ none → AllFine s b
all-fine s b nothing track is-track = track-fine s b track (first-none b.initials.count (meets s b) nothing track is-track)

-- A morph's key that meets nothing is answered as its frame and weight, which is finite.
module _ (s : List ℕ) (track frame body : ℕ) (fine : key_meets s Kind.Morph track frame body false ≡ none) where
  abbrev weight : Float
  weight = float_at (morph_body s body) 0

  weight-finite : finite weight ≡ true
  unfolding weight_asked
  weight-finite = go (negative frame) (finite weight) fine
    where
      go : (n f : Bool) → (given n (refusal_of morph 10 (pos track ∷ signed frame ∷ [])) or body_refusal (given (not f) 14) track frame) ≡ none → f ≡ true
      go false true e = refl
      go false false e = cc
      go true f e = cc

  pub value-told : {f : ℕ} {w : Float} → answered (f, w) ≡ morph_key s track frame body false → (f ≡ frame) × (w ≡ weight) × (finite w ≡ true)
  unfolding morph_key
  value-told {f} {w} told =
      let e : ◌≡◌ {A = Answer (ℕ × Float)} (answered (f, w)) (answered (frame, weight)) = told ∙ rw fine in
      let pair : ◌≡◌ {A = ℕ × Float} (f, w) (frame, weight) = cc in
      let same = ap (λ (v : ℕ × Float). v.1) pair in
      (ap (λ (v : ℕ × Float). v.0) pair, same, rw same weight-finite)

  pub no-refusal : {why : Refusal} → declined why ≡ morph_key s track frame body false → ⊥
  no-refusal {why} told = let e : some why ≡ none = key-refused s track frame body false told ∙ fine in cc
