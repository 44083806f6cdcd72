-- Document 02, T-02 (FORMAT, Strips read back): a strip read whole. It "refuses with 23 a strip that ends early or has bytes left over";
-- "Refusals are met in byte order, 25 at the end of the key concerned, a repeated frame at the later key, and at a track's end for no keys
-- or the sum".
use Rattle.std.specs.Prelude.{ℕ, zero, suc, ◌+◌, ◌-◌, ◌||◌, cond, List, [], ◌∷◌, length, eqb, ltb}
use Rattle.layout.specs.{Refusals.{strip_not_whole, never_written, too_long}, Walk.{refusal, Answer, answered, declined}}
use Rattle.section.specs.declared.limits.Limits.{Limits}
use Rattle.clip.specs.{First.{member}, Fields.{bone, morph}}
use Rattle.strip.specs.Strip.{FieldsKey, Contents}
use Rattle.strip_reader.specs.{Front.{Front, ◌>>=◌, ◌>>◌, give, refuse_if, number}, Key.{Form, form_of, key}}

module _ (form : Form) where
  -- So many keys, behind keys of these frames: no frame is "repeated in its track".
  unfoldable pub keys : ℕ → List ℕ → Front (List FieldsKey)
  keys zero before = give []
  keys (suc n) before = do
    first ← key form
    refuse_if (member first.frame before) never_written
    others ← keys n (first.frame ∷ before)
    give (first ∷ others)

  module _ (limits : Limits) (width : ℕ) where
    -- "a track without keys, additional keys of one kind above 65,534": of the tracks before, and of this one all keys but its first.
    unfoldable pub track : ℕ → Front (List FieldsKey)
    track additional = do
      count ← number width
      of_track ← keys count []
      refuse_if (eqb count 0 || ltb limits.additional (additional + (count - 1))) never_written
      give of_track

    unfoldable pub tracks : ℕ → ℕ → Front (List (List FieldsKey))
    tracks zero additional = give []
    tracks (suc n) additional = do
      first ← track additional
      others ← tracks n (additional + (length first - 1))
      give (first ∷ others)

-- No "bytes left over".
abbrev pub all_read : Answer (Contents × List ℕ) → Answer Contents
all_read (answered (c, [])) = answered c
all_read (answered (c, byte ∷ left)) = declined (refusal strip_not_whole [])
all_read (declined why) = declined why

module _ (limits : Limits) (width : ℕ) where
  unfoldable pub contents : Front Contents
  contents = do
    bone_count ← number width
    morph_count ← number width
    bones ← tracks (form_of bone) limits width bone_count 0
    morphs ← tracks (form_of morph) limits width morph_count 0
    give (record { bones = bones; morphs = morphs })

  -- "16 holds for .. any strip lent to be read", and is tested first.
  unfoldable pub read_strip : List ℕ → Answer Contents
  read_strip strip = cond (ltb limits.bytes (length strip)) (declined (refusal too_long [])) (all_read (contents strip))
