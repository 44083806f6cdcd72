-- Of private functions: where a track of an accepted strip stands, and that it is not there.
use Rattle.std.specs.Prelude.{ℕ, List, [], ◌∷◌, drop, ◌≡◌, Option, Some, None, Result, Ok, Err}
use Rattle.std.specs.List.{slice_get}
use Rattle.layout.specs.{Refusals.{absent}, Walk.{refusal, Answer, answered, declined}}
use Rattle.binary.specs.Answers.{answer_by}
use Rattle.section.specs.Limits.{edition1}
use Rattle.clip.specs.Fields.{Kind}
use Rattle.strip.specs.Strip.{count_width, FieldsKey}
use Rattle.strip_reader.specs.{Key.{Form, form_of}, Read.{read_strip}, Answers.{reader_refusal, tracks_of, there, of_contents, strip_key}, Stands.{TracksAt}}
use Rattle.strip_reader.specs.declared.{refusal.ReaderRefusal.{ReaderRefusal}, key.StripKey.{StripKey}}

-- One of these tracks.
pub record TrackOf (form : Form) (tracks : List (List FieldsKey)) (number : ℕ) (strip : List ℕ) (at : ℕ) : Type 0 where
  pub keys : List FieldsKey
  pub is : slice_get tracks number ≡ Some keys
  pub others : List (List FieldsKey)
  pub behind : List ℕ
  pub stands : TracksAt form (keys ∷ others) (drop at strip) behind

abbrev pub FindsTrack : Form → List (List FieldsKey) → ℕ → List ℕ → Option ℕ → Type 0
FindsTrack form tracks number strip (Some at) = TrackOf form tracks number strip at
FindsTrack form tracks number strip None = slice_get tracks number ≡ None

-- The keys of a track of a strip, or the refusal.
abbrev pub track_keys : List ℕ → Kind → ℕ → Answer (List FieldsKey)
track_keys strip kind number = of_contents (read_strip edition1 count_width strip) (λ c. there (slice_get (tracks_of kind c) number) (λ ks. answered ks))

pub record TrackIn (strip : List ℕ) (kind : Kind) (number at : ℕ) : Type 0 where
  pub keys : List FieldsKey
  pub is : track_keys strip kind number ≡ answered keys
  pub others : List (List FieldsKey)
  pub behind : List ℕ
  pub stands : TracksAt (form_of kind) (keys ∷ others) (drop at strip) behind

abbrev pub FindsInAccepted : List ℕ → Kind → ℕ → Option ℕ → Type 0
FindsInAccepted strip kind number (Some at) = TrackIn strip kind number at
FindsInAccepted strip kind number None = track_keys strip kind number ≡ declined (refusal absent [])

abbrev pub FindsInStrip : List ℕ → Kind → ℕ → Result ℕ ReaderRefusal → Type 0
FindsInStrip strip kind number (Ok at) = TrackIn strip kind number at
FindsInStrip strip kind number (Err why) = track_keys strip kind number ≡ declined (reader_refusal why)

-- What is told of the key in a place.
abbrev pub TellsKey : Kind → List FieldsKey → ℕ → Result StripKey ReaderRefusal → Type 0
TellsKey kind ks place result = answer_by reader_refusal result ≡ there (slice_get ks place) (λ k. answered (strip_key kind k))
