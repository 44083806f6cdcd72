-- Keys that passed the build's tests can be read: 10 was not met, so no frame is negative, and 11 was not, so none is repeated. Tracks
-- given by their numbers: what holds of each track, and their additional keys. Assumes nothing.
use Rattle.std.proofs.Common.{◌≡◌, ℕ, zero, suc, ◌+◌, ◌-◌, ◌<◌, false, List, [], ◌∷◌, ◌++◌, map, length, pos, refl, arith, leb-false}
use Rattle.std.proofs.Math.Option.{Option, none, some}
use Rattle.std.specs.List.{AllByRecursion}
use Rattle.layout.specs.{Refusals.{negative_frame, repeated_frame}, Numbers.{signed, least_negative, negative}}
use Rattle.clip.specs.{First.{given, ◌or◌, member, total}, Fields.{Kind, refusal_of}, Keys.{Key, key_test, body_refusal}}
use Rattle.clip.proofs.{First.{or-none, given-none}, Sound.{KeysPass}}
use Rattle.strip.specs.{Work.{each}, Strip.{FieldsKey, with_fields}}
use Rattle.strip.proofs.Keys.{Shaped}
use Rattle.strip_reader.proofs.Absent.{filled}
use Rattle.strip_reader.specs.{Key.{Form}}
use Rattle.strip_reader.proofs.ReadWritten.{ReadableKey, ReadableKeys, additional_of}

module _ {B : Type 0} (kind : Kind) (asked : B → Option ℕ) (form : Form) (fields_of : B → List (List ℕ)) where
  -- A body's fields are as wide as their groups, and the reader refuses none that the build passed.
  pub record ReadableBody (k : Key B) : Type 0 where
    pub shaped : Shaped form.groups (fields_of k.body)
    pub passes : asked k.body ≡ none → form.refused (filled form.groups (fields_of k.body)) ≡ false

  nothing_asked : (why : Option ℕ) (t frame : ℕ) → body_refusal why t frame ≡ none → why ≡ none
  nothing_asked none t frame e = refl
  nothing_asked (some number) t frame e = absurd (let z : ◌≡◌ {A = ℕ} 0 1 = cc in omega arith)

  passed-key : (t : ℕ) (before : List ℕ) (k : Key B) → key_test kind asked t before k ≡ none → ReadableBody k → ReadableKey form before (with_fields fields_of k)
  unfolding key_test
  passed-key t before k e body =
      let r10 = refusal_of kind negative_frame (pos t ∷ signed k.frame ∷ []) in
      let r11 = refusal_of kind repeated_frame (pos t ∷ signed k.frame ∷ []) in
      let outer = or-none (given (negative k.frame) r10) (given (member k.frame before) r11 or body_refusal (asked k.body) t k.frame) e in
      let inner = or-none (given (member k.frame before) r11) (body_refusal (asked k.body) t k.frame) outer.1 in
      record {
        frame = leb-false least_negative k.frame (given-none (negative k.frame) r10 outer.0);
        new = given-none (member k.frame before) r11 inner.0;
        shaped = body.shaped;
        passes = body.passes (nothing_asked (asked k.body) t k.frame inner.1);
      }

  pub passed-keys : (t : ℕ) (before : List ℕ) (ks : List (Key B)) → KeysPass (key_test kind asked t) before ks → AllByRecursion ReadableBody ks → ReadableKeys form before (map (with_fields fields_of) ks)
  passed-keys t before [] pass bodies = tt
  passed-keys t before (k ∷ ks) pass bodies = (passed-key t before k pass.0 bodies.0, passed-keys t (k.frame ∷ before) ks pass.1 bodies.1)

module _ {A : Type 0} (P : A → Type 0) where
  all-append : (xs ys : List A) → AllByRecursion P xs → AllByRecursion P ys → AllByRecursion P (xs ++ ys)
  all-append [] ys px py = py
  all-append (x ∷ xs) ys px py = (px.0, all-append xs ys px.1 py)

  pub all-each : (n : ℕ) (f : ℕ → A) → ((t : ℕ) → t < n → P (f t)) → AllByRecursion P (each n f)
  unfolding each
  all-each zero f p = tt
  all-each (suc n) f p = all-append (each n f) (f n ∷ []) (all-each n f (λ t lt. p t (omega arith))) (p n (omega arith), tt)

additional-append : (xs ys : List (List FieldsKey)) → additional_of (xs ++ ys) ≡ additional_of xs + additional_of ys
additional-append [] ys = omega arith
additional-append (x ∷ xs) ys = omega (arith, additional-append xs ys)

pub additional-each : (n : ℕ) (f : ℕ → List FieldsKey) → additional_of (each n f) ≡ total n (λ t. length (f t) - 1)
unfolding each total
additional-each zero f = refl
additional-each (suc n) f = omega (arith, additional-append (each n f) (f n ∷ []), additional-each n f)
