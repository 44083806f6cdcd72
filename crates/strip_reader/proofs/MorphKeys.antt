-- What 25 asks of a morph key, asked of its weight. Assumes nothing.
use Rattle.std.proofs.Common.{◌≡◌, ℕ, ◌+◌, Bool, true, false, cond, not, ◌||◌, ◌&&◌, List, [], ◌∷◌, length, eqb, ltb, leb, refl, sym, ap, ◌∙◌, arith, Result, Ok, Err}
use Rattle.std.specs.Prelude.{Float}
use Rattle.std.specs.Float.Ieee.{eq}
use Rattle.std.proofs.lemmas.List.{take_all}
use Rattle.layout.specs.Numbers.{float}
use Rattle.layout.proofs.Slices.{bytes_part}
use Rattle.clip.specs.Fields.{morph}
use Rattle.clip.specs.Keys.{finite, float_at, weight_asked}
use Rattle.clip.specs.Section.{morph_body}
use Rattle.strip.specs.Plain.{plain_float, plain_floats, morph_groups}
use Rattle.strip.specs.Keys.{map_byte}
use Rattle.strip.specs.Strip.{FieldsKey}
use Rattle.strip_reader.specs.Key.{form_of, morph_refused, not_of_builder}
use Rattle.layout.specs.Walk.{answered}
use Rattle.strip_reader.specs.Front.{and_then}
use Rattle.strip_reader.specs.Reads.{field_read}
use Rattle.strip_reader.specs.Morph.{weight_read}
use Rattle.strip_reader.specs.declared.refusal.ReaderRefusal.{ReaderRefusal}
use Rattle.strip_reader.proofs.BoneKeys.{late-frame, eqb_comm}

pub as-fields : (s : List ℕ) (r : Result (List ℕ × ℕ) ReaderRefusal) → weight_read s r ≡ and_then (field_read s r) (λ field left. answered (field ∷ [], left))
as-fields s (Ok (field, next)) = refl
as-fields s (Err why) = refl

module _ (w : List ℕ) (long : length w ≡ 4) (map frame : ℕ) where
  abbrev key : FieldsKey
  key = record { frame = frame; body = w ∷ [] }

  weight-is : morph_body w 0 ≡ w
  unfolding morph_body
  weight-is = bytes_part w 0 4 (omega (arith, long)) ∙ take_all 4 w (omega (arith, long))

  map-is : map_byte morph_groups (w ∷ []) ≡ cond (eq (float_at w 0) (float 0)) 0 1
  unfolding map_byte plain_floats plain_float
  map-is = go (eq (float_at w 0) (float 0))
    where
      go : (b : Bool) → cond (b && true) 0 1 + 0 ≡ cond b 0 1
      go true = refl
      go false = refl

  pub of-finite : (weight : Float) (m : ℕ) → weight ≡ float_at (morph_body w 0) 0 → finite weight ≡ true → m ≡ cond (eq weight (float 0)) 0 1 → not (eqb m map) || ltb 2147483647 frame ≡ not_of_builder (form_of morph) map key
  unfolding not_of_builder morph_refused weight_asked
  of-finite weight m is number map-e =
      let here : weight ≡ float_at w 0 = is ∙ ap (λ s. float_at s 0) weight-is in
      let fine : finite (float_at w 0) ≡ true = ap finite (sym here) ∙ number in
      let maps : m ≡ map_byte morph_groups (w ∷ []) = map-e ∙ ap (λ x. cond (eq x (float 0)) 0 1) here ∙ sym map-is in
      rw (late-frame frame, maps, eqb_comm (map_byte morph_groups (w ∷ [])) map, fine) (go (not (eqb map (map_byte morph_groups (w ∷ [])))) (leb 2147483648 frame))
    where
      go : (a b : Bool) → a || b ≡ a || false || b
      go true b = refl
      go false b = refl

  pub not-finite : finite (float_at (morph_body w 0) 0) ≡ false → true ≡ not_of_builder (form_of morph) map key
  unfolding not_of_builder morph_refused weight_asked
  not-finite no-number =
      let bad : finite (float_at w 0) ≡ false = ap (λ s. finite (float_at s 0)) (sym weight-is) ∙ no-number in
      rw bad (go (not (eqb map (map_byte morph_groups (w ∷ [])))) (leb 2147483648 frame))
    where
      go : (a b : Bool) → true ≡ a || true || b
      go true b = refl
      go false b = refl

pub ruleset tested = (of-finite, not-finite)
