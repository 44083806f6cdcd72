-- Document 02, T-02 (FORMAT, Strips read back): what the calls answer of a strip, and what an answer says.
use Rattle.std.specs.Prelude.{ℕ, ◌+◌, ◌/◌, List, [], ◌∷◌, ◌++◌, length, map, get_or, take, drop, replicate, Option, Some, None}
use Rattle.std.specs.List.{concat, slice_get}
use Rattle.layout.specs.Refusals.{strip_not_whole, unknown_map, never_written, too_long, absent}
use Rattle.layout.specs.Walk.{u32_at, Refusal, refusal, Answer, answered, declined}
use Rattle.section.specs.declared.limits.Limits.{Limits}
use Rattle.records.specs.Curves.{curves_at}
use Rattle.clip.specs.{Fields.{Kind, bone, morph}, Keys.{pose_bits_of}}
use Rattle.strip.specs.{Plain.{bone_groups, morph_groups}, Numbers.{number_of}, Keys.{map_byte}, Strip.{FieldsKey, Contents}, Call.{over}}
use Rattle.strip_reader.specs.{Key.{bone_body_of}, Read.{read_strip}}
use Rattle.strip_reader.specs.declared.{refusal.ReaderRefusal.{ReaderRefusal}, counts.StripCounts.{StripCounts}}
use Rattle.strip_reader.specs.declared.key.{BoneKey.{BoneKey}, MorphKey.{MorphKey}, StripKey.{StripKey}}

-- The number of each refusal; none has a value.
abbrev pub reader_refusal : ReaderRefusal → Refusal
reader_refusal ReaderRefusal.TooLong = refusal too_long []  -- "16 holds for .. any strip lent to be read"
reader_refusal ReaderRefusal.NotWhole = refusal strip_not_whole []
reader_refusal ReaderRefusal.UnknownMap = refusal unknown_map []
reader_refusal ReaderRefusal.NeverWritten = refusal never_written []
reader_refusal ReaderRefusal.Absent = refusal absent []  -- "19, for a track or key not there"

-- What is told of a key: its frame, its map, and every field by its bits, "absent fields as their plain values".
abbrev pub bone_key : FieldsKey → BoneKey
bone_key k =
    record {
      frame = k.frame;
      map = map_byte bone_groups k.body;
      pose_bits = pose_bits_of (bone_body_of k.body);
      curves = curves_at (bone_body_of k.body).interpolation 0;
    }

abbrev pub morph_key : FieldsKey → MorphKey
morph_key k = record { frame = k.frame; map = map_byte morph_groups k.body; weight_bits = u32_at (get_or k.body 0 []) 0 }

abbrev pub strip_key : Kind → FieldsKey → StripKey
strip_key bone k = StripKey.Bone (bone_key k)
strip_key morph k = StripKey.Morph (morph_key k)

abbrev pub tracks_of : Kind → Contents → List (List FieldsKey)
tracks_of bone c = c.bones
tracks_of morph c = c.morphs

-- "19, for a track or key not there, is last."
abbrev pub there : {A B : Type 0} → Option A → (A → Answer B) → Answer B
there (Some a) f = f a
there None f = declined (refusal absent [])

abbrev pub of_contents : {A : Type 0} → Answer Contents → (Contents → Answer A) → Answer A
of_contents (answered c) f = f c
of_contents (declined why) f = declined why

-- "both counts, a track's key count, and a key by kind, track and place from 0"
unfoldable pub counts : Limits → ℕ → List ℕ → Answer StripCounts
counts limits width strip =
    of_contents (read_strip limits width strip) (λ c. answered (record { bones = length c.bones; morphs = length c.morphs }))

unfoldable pub key_count : Limits → ℕ → Kind → ℕ → List ℕ → Answer ℕ
key_count limits width kind track strip =
    of_contents (read_strip limits width strip) (λ c. there (slice_get (tracks_of kind c) track) (λ ks. answered (length ks)))

unfoldable pub key : Limits → ℕ → Kind → ℕ → ℕ → List ℕ → Answer StripKey
key limits width kind track place strip =
    of_contents
    (read_strip limits width strip)
    (λ c. there (slice_get (tracks_of kind c) track) (λ ks. there (slice_get ks place) (λ k. answered (strip_key kind k))))

-- A key in 13 numbers: frame, map, then a bone's translation (3), orientation (4) and curves (4, each the number of its four bytes), or a
-- morph's weight and ten zeros.
abbrev pub key_numbers : StripKey → List ℕ
key_numbers (StripKey.Bone k) = k.frame ∷ k.map ∷ (k.pose_bits.translation ++ k.pose_bits.orientation ++ map number_of k.curves)
key_numbers (StripKey.Morph k) = k.frame ∷ k.map ∷ k.weight_bits ∷ replicate 10 0

abbrev pub kind_number : Kind → ℕ
kind_number bone = 0
kind_number morph = 1

-- All keys of a strip, in its order, each in 16 numbers: kind, track and place before the key's.
abbrev pub row_numbers : ℕ
row_numbers = 16

unfoldable pub track_rows : Kind → ℕ → ℕ → List FieldsKey → List (List ℕ)
track_rows kind track place [] = []
track_rows kind track place (k ∷ ks) =
    (kind_number kind ∷ track ∷ place ∷ key_numbers (strip_key kind k)) ∷ track_rows kind track (place + 1) ks

unfoldable pub kind_rows : Kind → ℕ → List (List FieldsKey) → List (List ℕ)
kind_rows kind track [] = []
kind_rows kind track (ks ∷ tracks) = track_rows kind track 0 ks ++ kind_rows kind (track + 1) tracks

unfoldable pub rows : Contents → List (List ℕ)
rows c = kind_rows bone 0 c.bones ++ kind_rows morph 0 c.morphs

-- The answer, and the lent slice afterwards: whole keys from a given number on, as far as they fit.
pub record KeysOutcome : Type 0 where
  pub answer : Answer ℕ
  pub rows : List ℕ

abbrev pub rows_written : ℕ → List ℕ → Answer Contents → KeysOutcome
rows_written first old (declined why) = record { answer = declined why; rows = old }
rows_written first old (answered c) =
    record {
      answer = answered (length (rows c));
      rows = over (concat (take (length old / row_numbers) (drop first (rows c)))) old;
    }

unfoldable pub keys : Limits → ℕ → ℕ → List ℕ → List ℕ → KeysOutcome
keys limits width first strip old = rows_written first old (read_strip limits width strip)
