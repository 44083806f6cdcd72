-- A key that was read, written again: the map that was read is the one of its fields, since 25 was not met, so a group whose bit stands was
-- read as it is written, and of another nothing was read and nothing is written. Assumes nothing.
use Rattle.std.proofs.Common.{◌≡◌, ℕ, ◌+◌, ◌*◌, ◌/◌, ◌%◌, ◌^◌, Bool, true, false, cond, List, [], ◌∷◌, ◌++◌, length, eqb, leb, refl, sym, ap, ◌∙◌, subst, arith, append_assoc, eqb-true, mod-eq_of_lt}
use borrow.Author.Tests.{eqb-false, not-false}
use Rattle.layout.specs.{Refusals.{unknown_map, never_written}, Walk.{answered}}
use Rattle.clip.proofs.First.{or-false}
use Rattle.strip.specs.{Numbers.{little_endian}, Plain.{Group}, Keys.{map_byte, present, key_bytes}, Strip.{FieldsKey}}
use Rattle.strip_reader.specs.{Front.{Front, ◌>>=◌, give, refuse_if, bytes, number}, Key.{Form, fields, not_of_builder, key}}
use Rattle.strip_reader.proofs.FrontLaws.{AreBytes}
use Rattle.strip_reader.proofs.Inversion.{both-bytes, left-is, gave, came, not-met, taken, numbered}

-- What is written stands in front of what is left.
pub record Again (written s left : List ℕ) : Type 0 where
  pub is : s ≡ written ++ left
  pub bytes : AreBytes left

pub again : (written s left : List ℕ) → AreBytes s → s ≡ written ++ left → Again written s left
again written s left small e = record { is = e; bytes = (both-bytes written left (subst AreBytes e small)).1 }

field-again : (g : Group) (bit plain : Bool) (map others : ℕ) (s field behind shown left : List ℕ) → eqb (map % 2) 1 ≡ bit → cond {A = Front (List ℕ)} bit (bytes g.width) (give g.value) s ≡ answered (field, behind) → map ≡ cond plain 0 1 + 2 * others → (map / 2 ≡ others → behind ≡ shown ++ left) → s ≡ (cond plain [] field ++ shown) ++ left
field-again g true true map others s field behind shown left bit e is rest = absurd (omega (arith, eqb-true (map % 2) 1 bit))
field-again g true false map others s field behind shown left bit e is rest =
    (taken g.width s field behind e).is ∙ ap (λ bytes. field ++ bytes) (rest (omega arith)) ∙ sym (append_assoc field shown left)
field-again g false true map others s field behind shown left bit e is rest = left-is e ∙ rest (omega arith)
field-again g false false map others s field behind shown left bit e is rest = absurd (eqb-false (map % 2) 1 bit (omega arith))

pub fields-again : (gs : List Group) (map : ℕ) (s left : List ℕ) (fs : List (List ℕ)) → fields gs map s ≡ answered (fs, left) → map ≡ map_byte gs fs → s ≡ present gs fs ++ left
unfolding fields map_byte present
fields-again [] map s left fs e is = left-is e
fields-again (g ∷ gs) map s left fs e is =
    let one = came (cond (eqb (map % 2) 1) (bytes g.width) (give g.value) s) (λ field. ◌>>=◌ (fields gs (map / 2)) (λ others. give (field ∷ others))) fs left e in
    let more = came (fields gs (map / 2) one.behind) (λ others. give (one.value ∷ others)) fs left one.rest in
    let end = gave (one.value ∷ more.value) fs more.behind left more.rest in
    let read : fields gs (map / 2) one.behind ≡ answered (more.value, left) = more.first ∙ ap (λ rest. answered (more.value, rest)) end.1 in
    rw (← end.0)
    (field-again g (eqb (map % 2) 1) (g.plain one.value) map (map_byte gs more.value) s one.value one.behind (present gs more.value) left refl one.first (is ∙ ap (map_byte (g ∷ gs)) (sym end.0)) (λ half. fields-again gs (map / 2) one.behind left more.value read half))

-- The bytes of a key, part by part.
parts : (front shown s s₁ s₂ s₃ s₄ s₅ left : List ℕ) (low byte map : ℕ) → s ≡ front ++ s₁ → s₁ ≡ low ∷ s₂ → low ≡ byte → byte ≡ map → s₂ ≡ s₃ → s₃ ≡ shown ++ s₄ → s₄ ≡ s₅ → s₅ ≡ left → s ≡ (front ++ map ∷ shown) ++ left
parts front shown s s₁ s₂ s₃ s₄ s₅ left low byte map e₀ e₁ el em e₂ e₃ e₄ e₅ = e₀ ∙ rw (e₁, el, em, e₂, e₃, e₄, e₅) (sym (append_assoc front (map ∷ shown) left))

-- What is behind, behind what is in front, with a test between them.
pub behind_other : (front behind s s₁ s₂ s₃ left : List ℕ) → s ≡ front ++ s₁ → s₁ ≡ s₂ → s₂ ≡ behind ++ s₃ → s₃ ≡ left → s ≡ (front ++ behind) ++ left
behind_other front behind s s₁ s₂ s₃ left e₀ e₁ e₂ e₃ = e₀ ∙ rw (e₁, e₂, e₃) (sym (append_assoc front behind left))

module _ (form : Form) where
  pub key-again : (s left : List ℕ) (k : FieldsKey) → AreBytes s → key form s ≡ answered (k, left) → Again (key_bytes form.groups (λ fields. fields) k) s left
  unfolding key not_of_builder key_bytes little_endian
  key-again s left k small e =
      let one = came (number 4 s) _ k left e in
      let two = came (number 1 one.behind) _ k left one.rest in
      let three = came (refuse_if (leb (2 ^ length form.groups) two.value) unknown_map two.behind) _ k left two.rest in
      let four = came (fields form.groups two.value three.behind) _ k left three.rest in
      let made : FieldsKey = record { frame = one.value; body = four.value } in
      let five = came (refuse_if (not_of_builder form two.value made) never_written four.behind) _ k left four.rest in
      let frame = numbered 4 one.value s one.behind small one.first in
      let map = numbered 1 two.value one.behind two.behind frame.bytes two.first in
      let known = not-met (leb (2 ^ length form.groups) two.value) unknown_map two.behind three.behind three.value three.first in
      let written = not-met (not_of_builder form two.value made) never_written four.behind five.behind five.value five.first in
      let same : two.value ≡ map_byte form.groups four.value = eqb-true _ _ (not-false _ (or-false _ _ (or-false _ _ written.0).0).0) in
      let shown = fields-again form.groups two.value three.behind four.behind four.value four.first same in
      let end = gave made k five.behind left five.rest in
      let gs = form.groups in
      let whole = parts (little_endian 4 one.value) (present gs four.value) s one.behind two.behind three.behind four.behind five.behind left (two.value % 256) two.value (map_byte gs four.value) frame.is map.is (mod-eq_of_lt map.small) same known.1 shown written.1 end.1 in
      again (key_bytes form.groups (λ fields. fields) k) s left small (subst (λ (h : FieldsKey). s ≡ key_bytes form.groups (λ fields. fields) h ++ left) end.0 whole)
