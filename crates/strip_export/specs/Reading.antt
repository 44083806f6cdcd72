-- Strips read back, for C (FORMAT, Strips read back): what each call returns and writes. A kind is a number there.
use Rattle.std.specs.Prelude.{ℕ, cond, List, [], ◌∷◌, ◌≡◌, eqb, Option, Some, None}
use Rattle.layout.specs.{Refusals.{absent}, Walk.{Refusal, refusal, Answer, answered, declined}}
use Rattle.section.specs.Limits.{edition1}
use Rattle.clip.specs.Fields.{Kind, bone, morph}
use Rattle.strip.specs.Strip.{count_width}
use Rattle.blocks.specs.{Kind.{kind_of}, Track.{kind_of_track, number_of_track}}
use Rattle.blocks.specs.declared.track.TrackIndex.{TrackIndex}
use Rattle.strip_reader.specs.Answers.{counts, key_count, key, key_numbers, keys}
use Rattle.strip_reader.specs.declared.{counts.StripCounts.{StripCounts}, key.StripKey.{StripKey}}
use Rattle.answer_numbers.specs.Answers.{WritesAnswer}

abbrev pub kind_named : ℕ → Option Kind
kind_named number = cond (eqb number 0) (Some bone) (cond (eqb number 1) (Some morph) None)

-- A track by kind and number.
abbrev pub NamesTrack : ℕ → ℕ → Option TrackIndex → Type 0
NamesTrack kind number (Some track) = (kind_named kind ≡ Some (kind_of (kind_of_track track))) × (number_of_track track ≡ number)
NamesTrack kind number None = kind_named kind ≡ None

-- "19, for a track or key not there, is last": a kind that is not named is a track not there.
abbrev pub not_there : Answer StripCounts → Refusal
not_there (answered judged) = refusal absent []
not_there (declined why) = why

abbrev pub of_kind : {A : Type 0} → Option Kind → (Kind → Answer A) → Answer StripCounts → Answer A
of_kind (Some kind) f judged = f kind
of_kind None f judged = declined (not_there judged)

module _ (strip : List ℕ) where
  abbrev pub judged : Answer StripCounts
  judged = counts edition1 count_width strip

  abbrev pub key_count_named : ℕ → ℕ → Answer ℕ
  key_count_named kind track = of_kind (kind_named kind) (λ k. key_count edition1 count_width k track strip) judged

  abbrev pub key_named : ℕ → ℕ → ℕ → Answer StripKey
  key_named kind track place = of_kind (kind_named kind) (λ k. key edition1 count_width k track place strip) judged

abbrev pub counts_numbers : StripCounts → List ℕ
counts_numbers c = c.bones ∷ c.morphs ∷ []

abbrev pub one_number : ℕ → List ℕ
one_number n = n ∷ []

-- The calls' `ensures`.
abbrev pub StripCountsForC : List ℕ → List ℕ → ℕ → List ℕ → Type 0
StripCountsForC strip before returned values = WritesAnswer counts_numbers (judged strip) before returned values

abbrev pub StripKeyCountForC : List ℕ → ℕ → ℕ → List ℕ → ℕ → List ℕ → Type 0
StripKeyCountForC strip kind track before returned values = WritesAnswer one_number (key_count_named strip kind track) before returned values

abbrev pub StripKeyForC : List ℕ → ℕ → ℕ → ℕ → List ℕ → ℕ → List ℕ → Type 0
StripKeyForC strip kind track place before returned values = WritesAnswer key_numbers (key_named strip kind track place) before returned values

pub record StripKeysForC (strip : List ℕ) (first : ℕ) (rows_before before : List ℕ) (returned : ℕ) (rows values : List ℕ) : Type 0 where
  pub answers : WritesAnswer one_number (keys edition1 count_width first strip rows_before).answer before returned values
  pub leaves : rows ≡ (keys edition1 count_width first strip rows_before).rows
