-- Of private functions: what the passes over tracks answer that judge a strip.
use Rattle.std.specs.Prelude.{ℕ, ◌+◌, ◌-◌, ◌≤◌, List, length, drop, ◌≡◌, Result, Ok, Err}
use Rattle.layout.specs.Walk.{Answer, answered, declined}
use Rattle.section.specs.Limits.{edition1}
use Rattle.strip.specs.Strip.{count_width, FieldsKey}
use Rattle.strip_reader.specs.{Front.{and_then, number}, Reads.{read_as}, Answers.{reader_refusal, counts}, Repeated.{repeats}, Key.{Form}, Pass.{end_read, keys_frames, passed_keys}}
use Rattle.strip_reader.specs.declared.{refusal.ReaderRefusal.{ReaderRefusal}, counts.StripCounts.{StripCounts}, judge.{Stop.{Stop}, KeysFound.{KeysFound}}}

abbrev pub count_read : List ℕ → Result (ℕ × ℕ) ReaderRefusal → Answer (ℕ × List ℕ)
count_read strip result = read_as (λ n. n) strip result

-- How many there are of what is read.
abbrev pub how_many : {A : Type 0} → Answer (List A × List ℕ) → Answer (ℕ × List ℕ)
how_many a = and_then a (λ xs left. answered (length xs, left))

-- What is found of keys: what a pass ends in, and whether two of the frames read are equal.
pub record KeysAre (form : Form) (count : ℕ) (strip : List ℕ) (at : ℕ) (found : KeysFound) : Type 0 where
  pub ends : end_read strip found.end ≡ passed_keys form count (drop at strip)
  pub repeated : found.repeated ≡ repeats (keys_frames form count (drop at strip))

abbrev pub Finds : Form → ℕ → List ℕ → List ℕ → ℕ → Result KeysFound Stop → Type 0
Finds form count space strip at (Ok found) = KeysAre form count strip at found
Finds form count space strip at (Err (Stop.Refused why)) = ⊥
Finds form count space strip at (Err Stop.NoSpace) = length space ≡ 0

-- The refusal is that of the definition; it is left open only where the space for frames has no place.
abbrev pub Stops : {A : Type 0} → List ℕ → Stop → Answer A → Type 0
Stops space (Stop.Refused why) a = a ≡ declined (reader_refusal why)
Stops space Stop.NoSpace a = length space ≡ 0

-- So many keys or tracks, up to a position.
abbrev pub Judges : {A : Type 0} → List ℕ → List ℕ → ℕ → Result ℕ Stop → Answer (List A × List ℕ) → Type 0
Judges space strip n (Ok next) a = how_many a ≡ answered (n, drop next strip)
Judges space strip n (Err why) a = Stops space why a

-- A track whose additional keys and those before it are within the limit.
pub record TrackFits (a : Answer (List FieldsKey × List ℕ)) (additional sum : ℕ) (left : List ℕ) : Type 0 where
  pub keys : List FieldsKey
  pub is : a ≡ answered (keys, left)
  pub adds : sum ≡ additional + (length keys - 1)
  pub within : sum ≤ edition1.additional

abbrev pub JudgesTrack : List ℕ → List ℕ → ℕ → Result (ℕ × ℕ) Stop → Answer (List FieldsKey × List ℕ) → Type 0
JudgesTrack space strip additional (Ok (sum, next)) a = TrackFits a additional sum (drop next strip)
JudgesTrack space strip additional (Err why) a = Stops space why a

abbrev pub JudgesStrip : List ℕ → List ℕ → Result StripCounts Stop → Type 0
JudgesStrip space strip (Ok told) = counts edition1 count_width strip ≡ answered told
JudgesStrip space strip (Err why) = Stops space why (counts edition1 count_width strip)

-- A strip within the limit of bytes, whose counts stand in front.
pub record Counted (strip : List ℕ) (at bone_count morph_count : ℕ) : Type 0 where
  pub within : length strip ≤ edition1.bytes
  pub middle : List ℕ
  pub bones : answered (bone_count, middle) ≡ number count_width strip
  pub morphs : answered (morph_count, drop at strip) ≡ number count_width middle
