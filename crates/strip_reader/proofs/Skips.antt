-- A key is passed over where its five bytes are whole, its map is known and as many bytes are left as its map's groups are wide; a key that
-- is read is passed over with the same frame and the same bytes behind it. Assumes nothing.
use Rattle.std.proofs.Common.{◌≡◌, ℕ, suc, ◌+◌, ◌-◌, ◌/◌, ◌%◌, ◌^◌, ◌≤◌, ◌<◌, Bool, true, false, cond, List, [], ◌∷◌, length, take, drop, get_or, eqb, leb, refl, ap, ◌∙◌, arith, length-drop, drop-drop, sym, inl, inr}
use Rattle.std.specs.Prelude.{Option, Some, None}
use Rattle.std.proofs.lemmas.{Bool.{le-leb, lt-leb, leb-true, leb-false, cases_lt}, Bool.Decides.{nat_tests}}
use Rattle.layout.specs.{Refusals.{strip_not_whole, unknown_map, never_written}, Walk.{Answer, answered, declined, refusal, u32_at}}
use Rattle.strip.specs.{Plain.{Group}, Strip.{FieldsKey}}
use Rattle.strip_reader.specs.{Front.{Front, and_then, give, bytes, number, refuse_if}, Key.{Form, fields, not_of_builder, key}, Skip.{skipped, frame_of, width_of, frame_before, frames}}
use Rattle.strip_reader.proofs.{FrontLaws.{number-short}, Fronts.{four, one}}

-- What follows the fields is not told.
told : {A B : Type 0} (f : A → B) (frame : ℕ) (a : Answer (A × List ℕ)) → frame_of (and_then (and_then a (λ x left. answered (f x, left))) (λ x. give frame)) ≡ frame_of (and_then a (λ x. give frame))
told f frame (answered (x, left)) = refl
told f frame (declined why) = refl

same_test : (w v n : ℕ) → w ≤ n → leb v (n - w) ≡ leb (w + v) n
same_test w v n fits = grind (arith, nat_tests)

module _ (frame : ℕ) where
  abbrev after_fields : {A : Type 0} → Answer (A × List ℕ) → Option (ℕ × List ℕ)
  after_fields a = frame_of (and_then a (λ x. give frame))

  abbrev behind : ℕ → List ℕ → Option (ℕ × List ℕ)
  behind width left = cond (leb width (length left)) (Some (frame, drop width left)) None

  behind_none : (width : ℕ) (left : List ℕ) → width ≡ 0 → Some (frame, left) ≡ behind width left
  behind_none width left e = rw (e, le-leb 0 (length left) (omega arith)) refl

  behind_both : (w v : ℕ) (left : List ℕ) → w ≤ length left → behind v (drop w left) ≡ behind (w + v) left
  behind_both w v left fits = rw (drop-drop v w left, length-drop w left, same_test w v (length left) fits) refl

  -- One group before others that are so many bytes wide together.
  group_passed : (g : Group) (rest : Front (List (List ℕ))) (width : ℕ) (passed : (left : List ℕ) → after_fields (rest left) ≡ behind width left) (b : Bool) (left : List ℕ) → after_fields (and_then (cond b (bytes g.width) (give g.value) left) (λ field left. and_then (rest left) (λ others. give (field ∷ others)))) ≡ behind (cond b g.width 0 + width) left
  unfolding bytes
  group_passed g rest width passed false left =
      told (λ (others : List (List ℕ)). g.value ∷ others) frame (rest left) ∙ passed left ∙ ap (λ (w : ℕ). behind w left) {x = width} {y = 0 + width} (omega arith)
  group_passed g rest width passed true left = whole (leb g.width (length left)) refl
    where
      whole : (c : Bool) → leb g.width (length left) ≡ c → after_fields (and_then (cond c (answered (take g.width left, drop g.width left)) (declined (refusal strip_not_whole []))) (λ field left. and_then (rest left) (λ others. give (field ∷ others)))) ≡ behind (g.width + width) left
      whole true e =
          told (λ (others : List (List ℕ)). take g.width left ∷ others) frame (rest (drop g.width left))
          ∙ passed (drop g.width left)
          ∙ behind_both g.width width left (leb-true g.width (length left) e)
      whole false e = let short : length left < g.width + width = omega (arith, leb-false g.width (length left) e) in rw (lt-leb (g.width + width) (length left) short) refl

  fields_passed : (gs : List Group) (map : ℕ) (left : List ℕ) → after_fields (fields gs map left) ≡ behind (width_of gs map) left
  unfolding fields
  fields_passed [] map left = behind_none 0 left refl
  fields_passed (g ∷ gs) map left = group_passed g (fields gs (map / 2)) (width_of gs (map / 2)) (fields_passed gs (map / 2)) (eqb (map % 2) 1) left

-- What follows the five bytes before the fields.
abbrev after_head : Form → ℕ → ℕ → Front ℕ
after_head form frame map left = and_then (refuse_if (leb (2 ^ length form.groups) map) unknown_map left) (λ x left. and_then (fields form.groups map left) (λ x. give frame))

module _ (form : Form) (s : List ℕ) (at : ℕ) where
  head_read : at + 5 ≤ length s → skipped form (drop at s) ≡ after_head form (u32_at s at) (get_or s (at + 4) 0) (drop (at + 5) s)
  unfolding skipped
  head_read fits =
      rw (four s at (omega arith), one s (at + 4) (omega arith)) (ap (λ (k : ℕ). after_head form (u32_at s at) (get_or s (at + 4) 0) (drop k s)) {x = at + 4 + 1} {y = at + 5} (omega arith))

  pub skip-short : length s < at + 5 → None ≡ frame_of (skipped form (drop at s))
  unfolding skipped
  skip-short short =
      elim (cases_lt (length s) (at + 4)) [
        | inl less ↦ rw (number-short 4 at s less (omega arith)) refl
        | inr more ↦ let map : length s < at + 4 + 1 = omega arith in rw (four s at more, number-short 1 (at + 4) s map (omega arith)) refl
      ]

  pub skip-unknown : at + 5 ≤ length s → 2 ^ length form.groups ≤ get_or s (at + 4) 0 → None ≡ frame_of (skipped form (drop at s))
  skip-unknown fits unknown = rw (head_read fits, le-leb (2 ^ length form.groups) (get_or s (at + 4) 0) unknown) refl

  known : at + 5 ≤ length s → get_or s (at + 4) 0 < 2 ^ length form.groups → frame_of (skipped form (drop at s)) ≡ behind (u32_at s at) (width_of form.groups (get_or s (at + 4) 0)) (drop (at + 5) s)
  known fits less = rw (head_read fits, lt-leb (2 ^ length form.groups) (get_or s (at + 4) 0) less) (fields_passed (u32_at s at) form.groups (get_or s (at + 4) 0) (drop (at + 5) s))

  pub skip-cut : at + 5 ≤ length s → get_or s (at + 4) 0 < 2 ^ length form.groups → length s < at + 5 + width_of form.groups (get_or s (at + 4) 0) → None ≡ frame_of (skipped form (drop at s))
  skip-cut fits less short = rw (known fits less, lt-leb (width_of form.groups (get_or s (at + 4) 0)) (length (drop (at + 5) s)) (rw length-drop (omega arith))) refl

  pub skip-there : (next : ℕ) → at + 5 ≤ length s → get_or s (at + 4) 0 < 2 ^ length form.groups → next ≡ at + 5 + width_of form.groups (get_or s (at + 4) 0) → next ≤ length s → Some (u32_at s at, drop next s) ≡ frame_of (skipped form (drop at s))
  skip-there next fits less e inside = rw (known fits less, le-leb (width_of form.groups (get_or s (at + 4) 0)) (length (drop (at + 5) s)) (rw length-drop (omega arith)), drop-drop (width_of form.groups (get_or s (at + 4) 0)) (at + 5) s, e) refl

-- A key that is read is passed over with the same frame and the same bytes behind it.
module _ (k : FieldsKey) (rest : List ℕ) where
  step_both : {A : Type 0} (a : Answer (A × List ℕ)) (f : A → Front FieldsKey) (g : A → Front ℕ) → ((x : A) (left : List ℕ) → f x left ≡ answered (k, rest) → g x left ≡ answered (k.frame, rest)) → and_then a f ≡ answered (k, rest) → and_then a g ≡ answered (k.frame, rest)
  step_both (answered (x, left)) f g step e = step x left e
  step_both (declined why) f g step e = cc

  abbrev its_frame : Answer (FieldsKey × List ℕ) → Answer (ℕ × List ℕ)
  its_frame (answered (key, left)) = answered (key.frame, left)
  its_frame (declined why) = declined why

  last_step : (b : Bool) (read : FieldsKey) (left : List ℕ) → and_then (refuse_if b never_written left) (λ x. give read) ≡ answered (k, rest) → its_frame (answered (read, left)) ≡ its_frame (answered (k, rest))
  last_step true read left e = cc
  last_step false read left e = ap its_frame e

  pub skip-of-key : (form : Form) (left : List ℕ) → key form left ≡ answered (k, rest) → skipped form left ≡ answered (k.frame, rest)
  unfolding key skipped
  skip-of-key form left e =
      step_both (number 4 left) _ _
      (λ frame left. step_both (number 1 left) _ _
      (λ map left. step_both (refuse_if (leb (2 ^ length form.groups) map) unknown_map left) _ _
      (λ x left. step_both (fields form.groups map left) _ _
      (λ body left. last_step (not_of_builder form map (record { frame = frame; body = body })) (record { frame = frame; body = body }) left)))) e

-- The frames of keys, by what is answered of the first.
module _ (form : Form) (n : ℕ) (left : List ℕ) where
  abbrev listed : Option (ℕ × List ℕ) → List ℕ
  listed None = []
  listed (Some (frame, rest)) = frame ∷ frames form n rest

  first_listed : (a : Answer (ℕ × List ℕ)) → frame_before a (λ rest. frames form n rest) ≡ listed (frame_of a)
  first_listed (answered (frame, rest)) = refl
  first_listed (declined why) = refl

  pub frames-more : (frame : ℕ) (rest : List ℕ) → Some (frame, rest) ≡ frame_of (skipped form left) → frames form (suc n) left ≡ frame ∷ frames form n rest
  unfolding frames
  frames-more frame rest e = first_listed (skipped form left) ∙ ap listed (sym e)

  pub frames-end : None ≡ frame_of (skipped form left) → frames form (suc n) left ≡ []
  unfolding frames
  frames-end e = first_listed (skipped form left) ∙ ap listed (sym e)

  pub frames-of-key : (k : FieldsKey) (rest : List ℕ) → key form left ≡ answered (k, rest) → frames form (suc n) left ≡ k.frame ∷ frames form n rest
  unfolding frames
  frames-of-key k rest e = rw (skip-of-key k rest form left e) refl
