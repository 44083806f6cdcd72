-- Document 01, "The strip" (FORMAT, The strip): the tracks of one kind in a strip, where a body is known by its offset in the section.
use Rattle.std.specs.Prelude.{ℕ, List, map}
use Rattle.clip.specs.{Keys.{Key}, Build.{initial_key, record_key, keys}, Section.{bone_body, morph_body}}
use Rattle.strip.specs.{Plain.{Group, bone_groups, bone_fields, morph_groups, morph_fields}, Keys.{key_bytes}}
use Rattle.strip.specs.Strip.{count_width, keys_bytes, track_bytes}
use Rattle.strip.proofs.ByTrack.{tracks_from}
use Rattle.blocks.specs.{Kind.{kind_of}, Block.{links}}
use Rattle.blocks.specs.declared.{block.Block.{Block}, kind.Kind.{Kind}}

abbrev pub groups_of : Kind → List Group
groups_of Kind.Bone = bone_groups
groups_of Kind.Morph = morph_groups

-- The fields of the body at an offset.
abbrev pub fields_at : List ℕ → Kind → ℕ → List (List ℕ)
fields_at s Kind.Bone at = bone_fields (bone_body s at)
fields_at s Kind.Morph at = morph_fields (morph_body s at)

abbrev pub key_at : List ℕ → Kind → Key ℕ → List ℕ
key_at s kind key = key_bytes (groups_of kind) (fields_at s kind) key

module _ (s : List ℕ) (b : Block) where
  -- The key of a track's initial record, of an additional record, and of several.
  abbrev pub initial_bytes : ℕ → List ℕ
  initial_bytes t = key_at s b.kind (initial_key ((links s b).initial t))

  abbrev pub record_bytes : ℕ → List ℕ
  record_bytes p = key_at s b.kind (record_key ((links s b).at p))

  abbrev pub records_bytes : List ℕ → List ℕ
  records_bytes ps = keys_bytes (groups_of b.kind) (fields_at s b.kind) (map (λ p. record_key ((links s b).at p)) ps)

  -- "A track's keys are its initial record and its chain's records, in chain order."
  abbrev pub keys_at : ℕ → List (Key ℕ)
  keys_at t = keys (kind_of b.kind) (links s b) t

  abbrev pub strip_track : ℕ → List ℕ
  strip_track t = track_bytes count_width (groups_of b.kind) (fields_at s b.kind) (keys_at t)

  -- The first n tracks; all of them.
  abbrev pub first_tracks : ℕ → List ℕ
  first_tracks n = tracks_from count_width (groups_of b.kind) (fields_at s b.kind) keys_at 0 n

  abbrev pub strip_tracks : List ℕ
  strip_tracks = first_tracks b.initials.count
