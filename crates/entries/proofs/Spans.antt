-- Every text stands in the section: an item that was read is whole (layout, Inversion), a string's body is one, and a fixed field's bytes
-- before its first zero are no more than the field has. Assumes nothing.
use Prim.Native.Nat.{ℕ, suc, ◌+◌, ◌≤◌}
use mathlib.Core.Bool.{Bool, true, false, cond}
use mathlib.Core.List.{List, [], ◌∷◌}
use mathlib.Core.Path.{◌≡◌, refl, sym, subst, ◌∙◌}
use native.Mathlib.Omega.{arith}
use lib.Dec.{eqb, ltb}
use lib.ListN.{length, take, drop, length-take, length-drop}
use Rattle.layout.specs.Refusals.{absent}
use Rattle.layout.specs.Walk.{Walk, fine, refused, refusal, after, item, times, answered, answer, u8, bytes_of, string, before_zero, fixed_string}
use Rattle.layout.specs.declared.Part.{Part}
use Rattle.layout.proofs.Steps.{whole}
use Rattle.layout.proofs.Inversion.{came, same-value, item-fits}
use Rattle.section.specs.declared.limits.Limits.{Limits}
use Rattle.section.specs.Model.{model_section}
use Rattle.section.specs.declared.model.Model.{Model}
use Rattle.section.specs.declared.names.Names.{Names}
use Rattle.entries.specs.Texts.{name_at, text_at, text_of}
use Rattle.entries.specs.declared.texts.Text.{Text}

-- A part that is whole.
abbrev Inside : List ℕ → Part → Type 0
Inside s p = p.offset + p.byte_length ≤ length s

part-inside : (width : ℕ) (value : List ℕ → ℕ → Part) (s : List ℕ) (at : ℕ) → (at + width ≤ length s → Inside s (value s at)) → (p : Part) (next : ℕ) → item width value s at ≡ fine p next → Inside s p
part-inside width value s at inside p next e =
    let fits = item-fits width value s at p next e in
    subst (Inside s) (same-value (sym (whole width value s at fits) ∙ e)) (inside fits)

string-inside : (s : List ℕ) (at : ℕ) (p : Part) (next : ℕ) → string s at ≡ fine p next → Inside s p
unfolding string
string-inside s at p next e =
    let c = came (u8 s at) _ p next e in
    part-inside c.value _ s c.at (λ fits. fits) p next c.rest

before-zero-le : (xs : List ℕ) → before_zero xs ≤ length xs
unfolding before_zero
before-zero-le [] = omega arith
before-zero-le (x ∷ xs) = go (eqb x 0) (before-zero-le xs)
  where
    go : (zero? : Bool) → before_zero xs ≤ length xs → cond zero? 0 (suc (before_zero xs)) ≤ suc (length xs)
    go true le = omega arith
    go false le = omega arith

fixed-inside : (width : ℕ) (s : List ℕ) (at : ℕ) (p : Part) (next : ℕ) → fixed_string width s at ≡ fine p next → Inside s p
fixed-inside width s at =
    part-inside width _ s at
    (λ fits. let le = before-zero-le (take width (drop at s)) in let is : length (take width (drop at s)) ≡ width = simp (length-take, length-drop) (omega arith) in omega arith)

name-inside : (names : Names) (k : ℕ) (s : List ℕ) (p : Part) (next : ℕ) → name_at names k s ≡ fine p next → Inside s p
unfolding name_at
name-inside names k s p next e = go (ltb k names.count) e
  where
    go : (few : Bool) → cond few (after (times k string s names.offset) (λ u at. string s at)) (refused (refusal absent [])) ≡ fine p next → Inside s p
    go true e = let c = came (times k string s names.offset) _ p next e in string-inside s c.at p next c.rest
    go false e = absurd (let z : ◌≡◌ {A = ℕ} 0 1 = cc in omega arith)

text-at-inside : (text : Text) (m : Model) (s : List ℕ) (p : Part) (next : ℕ) → text_at text m s ≡ fine p next → Inside s p
unfolding text_at
text-at-inside Text.Name m s = string-inside s m.front.opening.name_offset
text-at-inside Text.EnglishName m s = string-inside s m.front.opening.english_name_offset
text-at-inside Text.Path m s = fixed-inside 256 s m.front.opening.path_offset
text-at-inside (Text.Bone k) m s = name-inside m.front.counts.bones k s
text-at-inside (Text.Morph k) m s = name-inside m.front.counts.morphs k s

-- A text that is answered has as many bytes as its length says, all of them in the section.
pub record WholeText (s : List ℕ) (p : Part) : Type 0 where
  pub inside : p.offset + p.byte_length ≤ length s
  pub many : length (bytes_of p s) ≡ p.byte_length

pub text-held : (limits : Limits) (text : Text) (s : List ℕ) (start : ℕ) (p : Part) → text_of limits text s start ≡ answered p → WholeText s p
unfolding text_of
text-held limits text s start p e = go (after (model_section limits s start) (λ m end. text_at text m s)) refl e
  where
    go : (w : Walk Part) → after (model_section limits s start) (λ m end. text_at text m s) ≡ w → answer w ≡ answered p → WholeText s p
    go (fine q next) is e =
        let same : q ≡ p = cc in
        let c = came (model_section limits s start) _ q next is in
        let within = subst (Inside s) same (text-at-inside text c.value s q next c.rest) in
        record { inside = within; many = simp (length-take, length-drop) (omega arith) }
    go (refused why) is e = absurd (let z : ◌≡◌ {A = ℕ} 0 1 = cc in omega arith)
