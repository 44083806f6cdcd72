-- Of private functions: where the keys and tracks of a strip that was judged stand. Each is read as the definition reads it, and the next
-- one stands behind it.
use Rattle.std.specs.Prelude.{ℕ, List, [], ◌∷◌, length, drop, ◌≡◌, Option, Some, None, Result}
use Rattle.layout.specs.Walk.{Answer, answered}
use Rattle.clip.specs.Fields.{Kind}
use Rattle.strip.specs.Strip.{count_width, FieldsKey}
use Rattle.strip_reader.specs.{Front.{and_then, number}, Key.{Form, key}, Reads.{read_as}, Answers.{strip_key}}
use Rattle.strip_reader.specs.declared.{refusal.ReaderRefusal.{ReaderRefusal}, key.StripKey.{StripKey}}

module _ (form : Form) where
  abbrev pub KeysAt : List FieldsKey → List ℕ → List ℕ → Type 0
  KeysAt [] left behind = left ≡ behind
  KeysAt (k ∷ ks) left behind = (next : List ℕ) × (key form left ≡ answered (k, next)) × KeysAt ks next behind

  abbrev pub TracksAt : List (List FieldsKey) → List ℕ → List ℕ → Type 0
  TracksAt [] left behind = left ≡ behind
  TracksAt (ks ∷ tracks) left behind =
      (first : List ℕ) × (next : List ℕ) × (number count_width left ≡ answered (length ks, first)) × KeysAt ks first next × TracksAt tracks next behind

  -- A position where they stand.
  abbrev pub FindsKeys : List FieldsKey → List ℕ → List ℕ → Option ℕ → Type 0
  FindsKeys ks strip behind (Some at) = KeysAt ks (drop at strip) behind
  FindsKeys ks strip behind None = ⊥

  abbrev pub FindsTracks : List (List FieldsKey) → List ℕ → List ℕ → Option ℕ → Type 0
  FindsTracks tracks strip behind (Some at) = TracksAt tracks (drop at strip) behind
  FindsTracks tracks strip behind None = ⊥

-- A key as it is told.
abbrev pub key_read : List ℕ → Result (StripKey × ℕ) ReaderRefusal → Answer (StripKey × List ℕ)
key_read strip result = read_as (λ k. k) strip result

abbrev pub key_told : Kind → Answer (FieldsKey × List ℕ) → Answer (StripKey × List ℕ)
key_told kind a = and_then a (λ k left. answered (strip_key kind k, left))
