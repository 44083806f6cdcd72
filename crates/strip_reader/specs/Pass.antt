-- Of private functions: what a pass over the keys of a track finds, where repeated frames are not looked for.
use Rattle.std.specs.Prelude.{ℕ, zero, suc, ◌+◌, Bool, true, ◌&&◌, List, [], ◌∷◌, length, drop, leb, ◌≡◌, Result, Ok, Err}
use Rattle.layout.specs.Walk.{Answer, answered, declined}
use Rattle.strip.specs.Strip.{FieldsKey}
use Rattle.strip_reader.specs.{Front.{and_then}, Key.{Form, key}, Reads.{read_as}, Answers.{reader_refusal}}
use Rattle.strip_reader.specs.declared.{refusal.ReaderRefusal.{ReaderRefusal}, pass.KeysPass.{KeysPass}}

abbrev pub for_frame : Answer (FieldsKey × List ℕ) → Answer (ℕ × List ℕ)
for_frame a = and_then a (λ k left. answered (k.frame, left))

abbrev pub frame_read : List ℕ → Result (ℕ × ℕ) ReaderRefusal → Answer (ℕ × List ℕ)
frame_read strip result = read_as (λ frame. frame) strip result

-- A frame, and those of the keys behind it.
abbrev pub frame_and : Answer (FieldsKey × List ℕ) → (List ℕ → List ℕ) → List ℕ
frame_and (answered (k, left)) others = k.frame ∷ others left
frame_and (declined why) others = []

module _ (form : Form) where
  -- The frames of the first n keys, as far as they are read.
  unfoldable pub keys_frames : ℕ → List ℕ → List ℕ
  keys_frames zero left = []
  keys_frames (suc n) left = frame_and (key form left) (keys_frames n)

  -- The bytes behind n keys, or the refusal that one met.
  unfoldable pub passed_keys : ℕ → List ℕ → Answer (Unit {0} × List ℕ)
  passed_keys zero left = answered (tt, left)
  passed_keys (suc n) left = and_then (key form left) (λ k. passed_keys n)

-- Each above the one before, and the first not below the least one.
abbrev pub rising : ℕ → List ℕ → Bool
rising least [] = true
rising least (frame ∷ frames) = leb least frame && rising (frame + 1) frames

abbrev pub end_read : List ℕ → Result ℕ ReaderRefusal → Answer (Unit {0} × List ℕ)
end_read strip (Ok next) = answered (tt, drop next strip)
end_read strip (Err why) = declined (reader_refusal why)

pub record PassesKeys (form : Form) (count : ℕ) (strip : List ℕ) (at : ℕ) (pass : KeysPass) : Type 0 where
  pub ends : end_read strip pass.end ≡ passed_keys form count (drop at strip)
  pub reads : pass.read ≡ length (keys_frames form count (drop at strip))
  pub rises : pass.rise ≡ rising 0 (keys_frames form count (drop at strip))
