-- What a key meets is what its frame meets, or else what is asked of its body (`or` is associative). A morph key is answered as its value
-- exactly if it meets nothing, so each tells the other. Assumes nothing.
use Prim.Native.Nat.{ℕ}
use mathlib.Core.Bool.{Bool}
use mathlib.Core.List.{List}
use mathlib.Core.Option.{Option, none, some}
use mathlib.Core.Path.{◌≡◌, refl, sym, ap, ◌∙◌}
use lib.Ieee.{Float}
use Rattle.layout.specs.Walk.{Refusal, Answer, answered, declined}
use Rattle.clip.specs.First.{◌or◌}
use Rattle.clip.specs.Keys.{body_refusal, float_at}
use Rattle.clip.specs.Section.{morph_body}
use Rattle.blocks.specs.Kind.{kind_of}
use Rattle.track_keys.specs.Keys.{asked_at, frame_meets, key_meets}
use Rattle.track_keys.specs.MorphKeys.{or_refused, morph_key}
use Rattle.blocks.specs.declared.kind.Kind.{Kind}

-- A frame is asked before the body.
frame-first : (negative repeated body : Option Refusal) → (negative or repeated or body) ≡ ((negative or repeated or none) or body)
frame-first none none body = refl
frame-first none (some why) body = refl
frame-first (some why) repeated body = refl

module _ (s : List ℕ) (kind : Kind) (track frame body : ℕ) (repeated : Bool) where
  parts : key_meets s kind track frame body repeated ≡ (frame_meets (kind_of kind) track frame repeated or body_refusal (asked_at s kind body) track frame)
  parts = frame-first _ _ (body_refusal (asked_at s kind body) track frame)

  -- A frame that is refused.
  pub frame_refused : {why : Refusal} → some why ≡ frame_meets (kind_of kind) track frame repeated → some why ≡ key_meets s kind track frame body repeated
  frame_refused refused = sym (parts ∙ rw (sym refused))

  -- One with nothing against it, and so much is asked of the body.
  pub body-asked : none ≡ frame_meets (kind_of kind) track frame repeated → {o : Option ℕ} → o ≡ asked_at s kind body → body_refusal o track frame ≡ key_meets s kind track frame body repeated
  body-asked fine is = ap (λ (o : Option ℕ). body_refusal o track frame) is ∙ sym (parts ∙ rw (sym fine))

-- A morph key is answered as it is asked.
module _ (s : List ℕ) (track frame body : ℕ) (repeated : Bool) where
  pub key-told : {weight : Float} → weight ≡ float_at (morph_body s body) 0 → none ≡ key_meets s Kind.Morph track frame body repeated → answered (frame, weight) ≡ morph_key s track frame body repeated
  unfolding morph_key
  key-told is fine = rw (sym fine, is)

  pub refusal-told : {why : Refusal} → some why ≡ key_meets s Kind.Morph track frame body repeated → declined why ≡ morph_key s track frame body repeated
  unfolding morph_key
  refusal-told refused = rw (sym refused)

  pub key-fine : {f : ℕ} {w : Float} → answered (f, w) ≡ morph_key s track frame body repeated → none ≡ key_meets s Kind.Morph track frame body repeated
  unfolding morph_key
  key-fine {f} {w} told = go (key_meets s Kind.Morph track frame body repeated) told
    where
      go : (o : Option Refusal) → ◌≡◌ {A = Answer (ℕ × Float)} (answered (f, w)) (or_refused o (frame, float_at (morph_body s body) 0)) → none ≡ o
      go none e = refl
      go (some why) e = cc

  pub key-refused : {why : Refusal} → declined why ≡ morph_key s track frame body repeated → some why ≡ key_meets s Kind.Morph track frame body repeated
  unfolding morph_key
  key-refused {why} told = go (key_meets s Kind.Morph track frame body repeated) told
    where
      go : (o : Option Refusal) → ◌≡◌ {A = Answer (ℕ × Float)} (declined why) (or_refused o (frame, float_at (morph_body s body) 0)) → some why ≡ o
      go none e = cc
      go (some other) e = cc
