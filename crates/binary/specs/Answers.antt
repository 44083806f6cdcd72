-- What each answer of the byte reader says in document 01's terms (FORMAT, Refusals): a value and the offset behind it, or a refusal by its
-- number and values.
use Rattle.std.specs.Prelude.{ℕ, [], ◌∷◌, pos, Result, Ok, Err}
use Rattle.layout.specs.Refusals.{too_short, negative_count, count_above_limit, too_long, absent}
use Rattle.layout.specs.Walk
use Rattle.layout.specs.Walk.{Walk, fine, refused, refusal, Answer, answered, declined}
use Rattle.binary.specs.declared.refusal.Refusal.{Refusal}

abbrev pub reading_refusal : Refusal → Walk.Refusal
reading_refusal (Refusal.TooShort at) = refusal too_short (pos at ∷ [])
reading_refusal (Refusal.NegativeCount at) = refusal negative_count (pos at ∷ [])
reading_refusal (Refusal.CountAboveLimit at) = refusal count_above_limit (pos at ∷ [])
reading_refusal Refusal.TooLong = refusal too_long []
reading_refusal Refusal.Absent = refusal absent []

abbrev pub read : {A : Type 0} → Result (A × ℕ) Refusal → Walk A
read (Ok (a, next)) = fine a next
read (Err why) = refused (reading_refusal why)

abbrev pub skipped : Result ℕ Refusal → Walk (Unit {0})
skipped (Ok next) = fine tt next
skipped (Err why) = refused (reading_refusal why)

-- What a call answers: a value, or a refusal, of whatever kind its refusals are.
abbrev pub answer_by : {A R : Type 0} → (R → Walk.Refusal) → Result A R → Answer A
answer_by refusal_of (Ok value) = answered value
answer_by refusal_of (Err why) = declined (refusal_of why)

abbrev pub answer_read : {A : Type 0} → Result A Refusal → Answer A
answer_read answer = answer_by reading_refusal answer
