-- The calls of document 02, T-02: what each ensures, and what a run of it is taken to be.
use Rattle.std.specs.Prelude.{ℕ, List, ◌≡◌, Result}
use Rattle.binary.specs.Answers.{answer_by}
use Rattle.section.specs.Limits.{edition1}
use Rattle.strip.specs.Strip.{count_width}
use Rattle.blocks.specs.{Kind.{kind_of}, Track.{kind_of_track, number_of_track}}
use Rattle.blocks.specs.declared.track.TrackIndex.{TrackIndex}
use Rattle.strip_reader.specs.Answers.{reader_refusal, counts, key_count, key, keys}
use Rattle.strip_reader.specs.declared.{refusal.ReaderRefusal.{ReaderRefusal}, counts.StripCounts.{StripCounts}, key.StripKey.{StripKey}}

abbrev pub CountsCall : List ℕ → Result StripCounts ReaderRefusal → Type 0
CountsCall strip answer = answer_by reader_refusal answer ≡ counts edition1 count_width strip

abbrev pub KeyCountCall : List ℕ → TrackIndex → Result ℕ ReaderRefusal → Type 0
KeyCountCall strip track answer =
    answer_by reader_refusal answer ≡ key_count edition1 count_width (kind_of (kind_of_track track)) (number_of_track track) strip

abbrev pub KeyCall : List ℕ → TrackIndex → ℕ → Result StripKey ReaderRefusal → Type 0
KeyCall strip track place answer =
    answer_by reader_refusal answer ≡ key edition1 count_width (kind_of (kind_of_track track)) (number_of_track track) place strip

-- What the slice for rows held and holds.
pub record KeysCall (strip : List ℕ) (first : ℕ) (before : List ℕ) (answer : Result ℕ ReaderRefusal) (after : List ℕ) : Type 0 where
  pub answers : answer_by reader_refusal answer ≡ (keys edition1 count_width first strip before).answer
  pub leaves : after ≡ (keys edition1 count_width first strip before).rows
