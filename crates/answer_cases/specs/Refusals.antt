-- Document 01, "Turned down, and by whose doing" (FORMAT, Refusals): what is refused by a reading, with which value, and where a limit
-- lies.
use Rattle.std.specs.Prelude.{ℕ, ◌-◌, ◌<◌, ◌≤◌, List, [], ◌∷◌, ◌++◌, ◌≡◌, length, take, Result, Ok, Err}
use Rattle.layout.specs.Walk.{refused, refusal}
use Rattle.binary.specs.{Answers.{answer_read}, declared.refusal.Refusal.{Refusal}}
use Rattle.section.specs.{Limits.{edition1}, Summary.{model_summary}, Model.{model_parts, model_section}}
use Rattle.camera_light.specs.{Track.{track_summary}, declared.track.Kind.{Kind}}
use Rattle.answer_cases.specs.Bytes.{zeros, minus_one}
use Rattle.answer_cases.specs.Sections.{camera_section}
use Rattle.answer_cases.specs.Table.{Case, case, told}

-- An answer's numbers are not looked at here.
abbrev pub nothing : {A : Type 0} → A → List ℕ
nothing answer = []

-- 340 zero bytes but for four. The bone and morph counts stand at 260 and 264, the constraint count at 268, the counts of additional bone,
-- morph and model records at 307, 311 and 329.
abbrev pub counted : ℕ → List ℕ → List ℕ
counted at count = zeros at ++ count ++ zeros (336 - at)

abbrev pub read_counted : ℕ → List ℕ → List ℕ
read_counted at count = told nothing (model_summary edition1 (counted at count) 0)

-- 65,534 and the two numbers behind it, each as an i32.
abbrev pub n65534 : List ℕ
n65534 = 254 ∷ 255 ∷ 0 ∷ 0 ∷ []

abbrev pub n65535 : List ℕ
n65535 = 255 ∷ 255 ∷ 0 ∷ 0 ∷ []

abbrev pub n65536 : List ℕ
n65536 = 0 ∷ 0 ∷ 1 ∷ 0 ∷ []

-- Negative counts; 100 constraints, whose 400 bytes are not there; counts above their limit, and at it, where the bytes end before the last
-- name or within a record; 65,536 model records, which have no limit. Then a name's body that is not whole, a start past the end, and a
-- camera section that ends a byte before its additional record does, or just behind it.
abbrev pub places : List Case
places =
    case (read_counted 260 minus_one) (2 ∷ 260 ∷ [])
    ∷ case (read_counted 268 minus_one) (2 ∷ 268 ∷ [])
    ∷ case (read_counted 268 (100 ∷ zeros 3)) (1 ∷ 272 ∷ [])
    ∷ case (read_counted 260 n65536) (20 ∷ 260 ∷ [])
    ∷ case (read_counted 264 n65536) (20 ∷ 264 ∷ [])
    ∷ case (read_counted 260 n65535) (1 ∷ 340 ∷ [])
    ∷ case (read_counted 307 n65535) (20 ∷ 307 ∷ [])
    ∷ case (read_counted 311 n65535) (20 ∷ 311 ∷ [])
    ∷ case (read_counted 307 n65534) (1 ∷ 327 ∷ [])
    ∷ case (read_counted 329 n65536) (1 ∷ 337 ∷ [])
    ∷ case (told nothing (model_summary edition1 (7 ∷ 5 ∷ 97 ∷ []) 0)) (1 ∷ 2 ∷ [])
    ∷ case (told nothing (model_summary edition1 (zeros 340) 341)) (1 ∷ 341 ∷ [])
    ∷ case (told nothing (track_summary edition1 Kind.Camera (take 163 camera_section) 0)) (1 ∷ 163 ∷ [])
    ∷ case (told nothing (track_summary edition1 Kind.Camera (take 164 camera_section) 0)) (1 ∷ 164 ∷ [])
    ∷ []

-- What the code's answers say.
abbrev pub said : Result ℕ Refusal → List ℕ
said answer = told (λ n. n ∷ []) (answer_read answer)

abbrev pub numbers : List Case
numbers =
    case (said (Ok 7)) (0 ∷ 7 ∷ [])
    ∷ case (said (Err (Refusal.TooShort 7))) (1 ∷ 7 ∷ [])
    ∷ case (said (Err (Refusal.NegativeCount 7))) (2 ∷ 7 ∷ [])
    ∷ case (said (Err (Refusal.CountAboveLimit 7))) (20 ∷ 7 ∷ [])
    ∷ case (said (Err Refusal.TooLong)) (16 ∷ [])
    ∷ case (said (Err Refusal.Absent)) (19 ∷ [])
    ∷ []

-- "more than 16,777,215 bytes, tested first"
pub record LongestSection (s : List ℕ) (start : ℕ) : Type 0 where
  pub within : length s ≤ 16777215 → model_section edition1 s start ≡ model_parts edition1 s start
  pub above : 16777215 < length s → model_section edition1 s start ≡ refused (refusal 16 [])
