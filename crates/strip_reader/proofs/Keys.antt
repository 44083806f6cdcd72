-- A key read in parts: head, fields, and what 25 asks. Assumes nothing.
use Rattle.std.proofs.Common.{◌≡◌, ℕ, ◌^◌, Bool, true, false, List, [], length, leb, refl, sym, ap, ◌∙◌}
use Rattle.layout.specs.Refusals.{unknown_map, never_written}
use Rattle.layout.specs.Walk.{Refusal, refusal, Answer, answered, declined}
use Rattle.strip.specs.Strip.{FieldsKey}
use Rattle.strip_reader.specs.Front.{Front, and_then, number, refuse_if}
use Rattle.strip_reader.specs.Key.{Form, fields, not_of_builder, key}
use Rattle.strip_reader.specs.Reads.{head, known_fields}

abbrev with_body : ℕ → List (List ℕ) → FieldsKey
with_body frame body = record { frame = frame; body = body }

module _ (form : Form) where
  -- The key of a head and fields, asked for 25.
  abbrev asked : ℕ → ℕ → List (List ℕ) → Front FieldsKey
  asked frame map body left = and_then (refuse_if (not_of_builder form map (with_body frame body)) never_written left) (λ _ left'. answered (with_body frame body, left'))

  abbrev behind_head : ℕ × ℕ → Front FieldsKey
  behind_head h left = and_then (known_fields form h.1 left) (asked h.0 h.1)

  behind-map : (frame map : ℕ) (left : List ℕ) → and_then (refuse_if (leb (2 ^ length form.groups) map) unknown_map left) (λ _ left'. and_then (fields form.groups map left') (asked frame map)) ≡ behind_head (frame, map) left
  unfolding known_fields
  behind-map frame map left = go (leb (2 ^ length form.groups) map)
    where
      go : (b : Bool) → and_then (refuse_if b unknown_map left) (λ _ left'. and_then (fields form.groups map left') (asked frame map)) ≡ and_then (and_then (refuse_if b unknown_map left) (λ _. fields form.groups map)) (asked frame map)
      go true = refl
      go false = refl

  pub key-parts : (left : List ℕ) → key form left ≡ and_then (head left) behind_head
  unfolding key head
  key-parts left = first (number 4 left)
    where
      second : (frame : ℕ) (b : Answer (ℕ × List ℕ)) → and_then b (λ map left'. and_then (refuse_if (leb (2 ^ length form.groups) map) unknown_map left') (λ _ left''. and_then (fields form.groups map left'') (asked frame map))) ≡ and_then (and_then b (λ map left'. answered ((frame, map), left'))) behind_head
      second frame (answered (map, left')) = behind-map frame map left'
      second frame (declined why) = refl

      first : (a : Answer (ℕ × List ℕ)) → and_then a (λ frame left'. and_then (number 1 left') (λ map left''. and_then (refuse_if (leb (2 ^ length form.groups) map) unknown_map left'') (λ _ l. and_then (fields form.groups map l) (asked frame map)))) ≡ and_then (and_then a (λ frame left'. and_then (number 1 left') (λ map left''. answered ((frame, map), left'')))) behind_head
      first (answered (frame, left')) = second frame (number 1 left')
      first (declined why) = refl

  module _ (left : List ℕ) where
    pub no-head : (why : Refusal) → declined why ≡ head left → declined why ≡ key form left
    no-head why e = ap (λ a. and_then a behind_head) e ∙ sym (key-parts left)

    module _ (frame map : ℕ) (left' : List ℕ) (is : answered ((frame, map), left') ≡ head left) where
      from-fields : behind_head (frame, map) left' ≡ key form left
      from-fields = ap (λ a. and_then a behind_head) is ∙ sym (key-parts left)

      pub no-fields : (why : Refusal) → declined why ≡ known_fields form map left' → declined why ≡ key form left
      no-fields why e = ap (λ a. and_then a (asked frame map)) e ∙ from-fields

      module _ (body : List (List ℕ)) (left'' : List ℕ) (fields-are : answered (body, left'') ≡ known_fields form map left') where
        from-test : asked frame map body left'' ≡ key form left
        from-test = ap (λ a. and_then a (asked frame map)) fields-are ∙ from-fields

        pub refused-key : (b : Bool) → b ≡ not_of_builder form map (with_body frame body) → b ≡ true → declined (refusal never_written []) ≡ key form left
        refused-key b e t = rw (sym e ∙ t) refl ∙ from-test

        pub fine-key : (b : Bool) → b ≡ not_of_builder form map (with_body frame body) → b ≡ false → answered (with_body frame body, left'') ≡ key form left
        fine-key b e f = rw (sym e ∙ f) refl ∙ from-test

pub ruleset key_read = (no-head, no-fields, refused-key, fine-key)
