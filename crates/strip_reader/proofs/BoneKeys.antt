-- What 25 asks of a bone key, asked of its fields as a record's body. Where no byte of the curves is above 127 they are as they are
-- clamped; where one is, the key is refused whatever its map. Assumes nothing.
use Rattle.std.proofs.Common.{◌≡◌, ℕ, Bool, true, false, not, ◌||◌, List, [], ◌∷◌, ◌++◌, length, take, drop, eqb, ltb, leb, min, refl, sym, ap, ◌∙◌, arith, Result, Ok, Err}
use native.Mathlib.Decide.{ℕ_discrete}
use borrow.Author.Tests.{eq-eqb, ne_eqb, lt-ltb, le-ltb, leb-true, leb-false}
use Rattle.std.proofs.lemmas.Bool.{ltb-false}
use Rattle.std.proofs.lemmas.List.{take_at, drop_at, take_all}
use Rattle.std.proofs.lemmas.List.Folds.{list_any-append}
use lib.ListN.{length-append}
use mathlib.Core.List.{append_assoc}
use Rattle.std.specs.{Result.{is_err}}
use Rattle.layout.specs.Numbers.{least_negative}
use Rattle.layout.specs.Walk.{bytes_at}
use Rattle.layout.proofs.Slices.{bytes_part}
use Rattle.clip.specs.Fields.{bone}
use Rattle.clip.specs.Keys.{pose_asked, posed}
use Rattle.clip.specs.Section.{bone_body}
use Rattle.strip.specs.Plain.{bone_groups, bone_fields, clamped}
use Rattle.strip.specs.Keys.{map_byte}
use Rattle.strip.specs.Strip.{FieldsKey}
use Rattle.keys.specs.Answers.{asked_read}
use Rattle.keys.specs.Plain.{bone_plain, standing}
use Rattle.keys.proofs.Groups.{bone-map-is}
use Rattle.keys.specs.declared.pose.PoseFault.{PoseFault}
use Rattle.strip_reader.specs.Key.{form_of, some_byte_above, is_refused, bone_body_of, bone_refused, not_of_builder}

pub or-false : (a b : Bool) → a || b ≡ false → (a ≡ false) × (b ≡ false)
or-false false b e = (refl, e)
or-false true b e = absurd (let z : ◌≡◌ {A = Bool} true false = e in cc)

clamped-is : (bytes : List ℕ) → some_byte_above 127 bytes ≡ false → clamped bytes ≡ bytes
clamped-is [] none = refl
clamped-is (byte ∷ bytes) none =
    let both = or-false (ltb 127 byte) (some_byte_above 127 bytes) none in
    let low = ltb-false 127 byte both.0 in
    let same : min byte 127 ≡ byte = omega (arith, low) in
    rw (same, clamped-is bytes both.1) refl

refused-read : (asked : Result (Unit {0}) PoseFault) → is_err asked ≡ is_refused (asked_read asked)
refused-read (Ok u) = refl
refused-read (Err PoseFault.Translation) = refl
refused-read (Err PoseFault.Orientation) = refl

above-told : (x y p f : Bool) → x || true || p || f ≡ y || (true || p) || f
above-told true true p f = refl
above-told true false p f = refl
above-told false true p f = refl
above-told false false p f = refl

none-told : (x p f : Bool) → x || false || p || f ≡ x || (false || p) || f
none-told true p f = refl
none-told false p f = refl

pub late-frame : (frame : ℕ) → ltb 2147483647 frame ≡ leb least_negative frame
late-frame frame = go (leb least_negative frame) refl
  where
    go : (b : Bool) → leb least_negative frame ≡ b → ltb 2147483647 frame ≡ b
    go true is = let late = leb-true least_negative frame is in lt-ltb 2147483647 frame (omega (arith, late))
    go false is = let early = leb-false least_negative frame is in le-ltb 2147483647 frame (omega (arith, early))

pub eqb_comm : (a b : ℕ) → eqb a b ≡ eqb b a
eqb_comm a b = go (ℕ_discrete a b)
  where
    go : Dec (a ≡ b) → eqb a b ≡ eqb b a
    go (yes e) = eq-eqb a b e ∙ sym (eq-eqb b a (sym e))
    go (no d) = ne_eqb a b d ∙ sym (ne_eqb b a (λ e. d (sym e)))

module _ (c r t o : List ℕ) (lc : length c ≡ 12) (lr : length r ≡ 4) (lt : length t ≡ 12) (lo : length o ≡ 16) where
  abbrev joined : List ℕ
  joined = c ++ r ++ t ++ o

  pub body-is : bone_body joined 0 ≡ record { interpolation = c ++ r; translation = t; orientation = o }
  unfolding bone_body
  body-is =
      let l1 = length-append c r in
      let l2 = length-append (c ++ r) t in
      let l3 = length-append (c ++ r ++ t) o in
      let interpolation : bytes_at joined 0 16 ≡ c ++ r = bytes_part joined 0 16 (omega (arith, l1, l2, l3, lc, lr)) ∙ ap (take 16) (append_assoc (c ++ r) t o) ∙ take_at (c ++ r) (t ++ o) 16 (omega (arith, l1, lc, lr)) in
      let translation : bytes_at joined 16 12 ≡ t =
      bytes_part joined 16 12 (omega (arith, l1, l2, l3, lc, lr, lt)) ∙ ap (λ (xs : List ℕ). take 12 (drop 16 xs)) (append_assoc (c ++ r) t o) ∙ ap (take 12) (drop_at (c ++ r) (t ++ o) 16 (omega (arith, l1, lc, lr))) ∙ take_at t o 12 lt
      in
      let orientation : bytes_at joined 28 16 ≡ o =
      bytes_part joined 28 16 (omega (arith, l1, l2, l3, lc, lr, lt, lo)) ∙ ap (take 16) (drop_at (c ++ r ++ t) o 28 (omega (arith, l1, l2, lc, lr, lt))) ∙ take_all 16 o (omega (arith, lo))
      in
      rw (interpolation, translation, orientation) refl

  -- Curves as they are, or clamped.
  map-is : (m : ℕ) → some_byte_above 127 (c ++ r) ≡ false → m ≡ standing 1 2 4 8 (bone_plain (bone_body joined 0)) → m ≡ map_byte bone_groups (t ∷ o ∷ c ∷ r ∷ [])
  map-is m low is =
      let both = or-false (some_byte_above 127 c) (some_byte_above 127 r) (sym (list_any-append (λ byte. ltb 127 byte) c r) ∙ low) in
      let front : take 12 (c ++ r) ≡ c = take_at c r 12 lc in
      let back : drop 12 (c ++ r) ≡ r = drop_at c r 12 lc in
      is
      ∙ bone-map-is joined 0
      ∙ ap (λ b. map_byte bone_groups (bone_fields b)) body-is
      ∙ rw (front, back, clamped-is c both.0, clamped-is r both.1) refl

  module _ (map frame m : ℕ) (asked : Result (Unit {0}) PoseFault) where
    abbrev key : FieldsKey
    key = record { frame = frame; body = t ∷ o ∷ c ∷ r ∷ [] }

    pub not-of-builder :
        (above refused : Bool)
        → m ≡ standing 1 2 4 8 (bone_plain (bone_body joined 0))
        → above ≡ some_byte_above 127 (take 16 joined)
        → asked_read asked ≡ pose_asked (posed (bone_body joined 0))
        → refused ≡ is_err asked
        → not (eqb m map) || above || refused || ltb 2147483647 frame ≡ not_of_builder (form_of bone) map key
    unfolding not_of_builder bone_refused
    not-of-builder above refused map-e above-e asked-e refused-e =
        let l1 = length-append c r in
        let front : take 16 joined ≡ c ++ r = ap (take 16) (append_assoc (c ++ r) t o) ∙ take_at (c ++ r) (t ++ o) 16 (omega (arith, l1, lc, lr)) in
        let pose : refused ≡ is_refused (pose_asked (posed (bone_body_of (t ∷ o ∷ c ∷ r ∷ [])))) = refused-e ∙ refused-read asked ∙ ap is_refused (asked-e ∙ ap (λ b. pose_asked (posed b)) body-is) in
        rw (above-e, front, pose, late-frame frame)
        (go (some_byte_above 127 (c ++ r)) (is_refused (pose_asked (posed (bone_body_of (t ∷ o ∷ c ∷ r ∷ []))))) (leb least_negative frame) (λ low. ap (λ n. not (eqb n map)) (map-is m low map-e) ∙ ap not (eqb_comm (map_byte bone_groups (t ∷ o ∷ c ∷ r ∷ [])) map)))
      where
        go : (a p f : Bool) → (a ≡ false → not (eqb m map) ≡ not (eqb map (map_byte bone_groups (t ∷ o ∷ c ∷ r ∷ [])))) → not (eqb m map) || a || p || f ≡ not (eqb map (map_byte bone_groups (t ∷ o ∷ c ∷ r ∷ []))) || (a || p) || f
        go true p f same = above-told (not (eqb m map)) (not (eqb map (map_byte bone_groups (t ∷ o ∷ c ∷ r ∷ [])))) p f
        go false p f same = ap (λ (x : Bool). x || false || p || f) (same refl) ∙ none-told (not (eqb map (map_byte bone_groups (t ∷ o ∷ c ∷ r ∷ [])))) p f

pub ruleset tested = (not-of-builder)
