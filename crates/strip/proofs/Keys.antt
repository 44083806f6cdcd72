-- A key's bytes tell where they end and what the key is like: four bytes of frame and the map come first, and the map tells which fields
-- follow, each as wide as its group (`fields-are`). Assumes nothing.
use Prim.Native.Nat.{ℕ, suc, ◌+◌, ◌*◌, ◌<◌}
use native.Mathlib.Omega.{arith}
use mathlib.Core.Bool.{Bool, true, false, cond}
use mathlib.Core.List.{List, [], ◌∷◌, ◌++◌, append_assoc}
use mathlib.Core.Logic.{◌⊎◌, inl, inr}
use mathlib.Core.Path.{◌≡◌, refl, sym, ap, ◌∙◌}
use lib.ListN.{length}
use Rattle.clip.specs.Keys.{Key}
use Rattle.strip.specs.Plain.{Group}
use Rattle.strip.specs.Numbers.{little_endian}
use Rattle.strip.specs.Keys.{map_byte, present, key_bytes, SameFields, Alike, AlikeKeys}
use Rattle.strip.specs.Strip.{keys_bytes}
use Rattle.strip.proofs.Bytes.{head-is, tail-is, front-is, counts-are}

-- Fields as wide as their groups.
abbrev pub Shaped : List Group → List (List ℕ) → Type 0
Shaped [] [] = Unit {0}
Shaped [] (field ∷ fields) = ⊥
Shaped (g ∷ gs) [] = ⊥
Shaped (g ∷ gs) (field ∷ fields) = (length field ≡ g.width) × Shaped gs fields

bits_are : (a b : Bool) (n m : ℕ) → cond a 0 1 + 2 * n ≡ cond b 0 1 + 2 * m → (a ≡ b) × (n ≡ m)
bits_are true true n m e = (refl, omega arith)
bits_are true false n m e = absurd (omega arith)
bits_are false true n m e = absurd (omega arith)
bits_are false false n m e = (refl, omega arith)

fields-are : (gs : List Group) (fs hs : List (List ℕ)) (xs ys : List ℕ) → Shaped gs fs → Shaped gs hs → map_byte gs fs ≡ map_byte gs hs → present gs fs ++ xs ≡ present gs hs ++ ys → SameFields gs fs hs × (xs ≡ ys)
unfolding map_byte present
fields-are [] [] [] xs ys sf sh em ep = (tt, ep)
fields-are [] [] (h ∷ hs) xs ys sf sh em ep = absurd sh
fields-are [] (f ∷ fs) hs xs ys sf sh em ep = absurd sf
fields-are (g ∷ gs) [] hs xs ys sf sh em ep = absurd sf
fields-are (g ∷ gs) (f ∷ fs) [] xs ys sf sh em ep = absurd sh
fields-are (g ∷ gs) (f ∷ fs) (h ∷ hs) xs ys sf sh em ep =
    let bits = bits_are (g.plain f) (g.plain h) (map_byte gs fs) (map_byte gs hs) em in
    go (g.plain f) (g.plain h) refl refl bits.0 ep (λ e. fields-are gs fs hs xs ys sf.1 sh.1 bits.1 e)
  where
    go : (a b : Bool) → g.plain f ≡ a → g.plain h ≡ b → a ≡ b → cond a [] f ++ present gs fs ++ xs ≡ cond b [] h ++ present gs hs ++ ys → (present gs fs ++ xs ≡ present gs hs ++ ys → SameFields gs fs hs × (xs ≡ ys)) → SameFields (g ∷ gs) (f ∷ fs) (h ∷ hs) × (xs ≡ ys)
    go true true ea eb same e rest = let r = rest e in ((inl (ea, eb), r.0), r.1)
    go true false ea eb same e rest = absurd (let z : ◌≡◌ {A = ℕ} 0 1 = cc in omega arith)
    go false true ea eb same e rest = absurd (let z : ◌≡◌ {A = ℕ} 0 1 = cc in omega arith)
    go false false ea eb same e rest =
        let flat = sym (append_assoc f (present gs fs) xs) ∙ e ∙ append_assoc h (present gs hs) ys in
        let parts = front-is f h (present gs fs ++ xs) (present gs hs ++ ys) (sf.0 ∙ sym sh.0) flat in
        let r = rest parts.1 in
        ((inr parts.0, r.0), r.1)

same_bytes : (gs : List Group) (fs hs : List (List ℕ)) → Shaped gs fs → Shaped gs hs → SameFields gs fs hs → (map_byte gs fs ≡ map_byte gs hs) × (present gs fs ≡ present gs hs)
unfolding map_byte present
same_bytes [] [] [] sf sh s = (refl, refl)
same_bytes [] [] (h ∷ hs) sf sh s = absurd sh
same_bytes [] (f ∷ fs) hs sf sh s = absurd sf
same_bytes (g ∷ gs) [] hs sf sh s = absurd sf
same_bytes (g ∷ gs) (f ∷ fs) [] sf sh s = absurd sh
same_bytes (g ∷ gs) (f ∷ fs) (h ∷ hs) sf sh s = go s.0 (same_bytes gs fs hs sf.1 sh.1 s.1)
  where
    go : ((g.plain f ≡ true) × (g.plain h ≡ true)) ⊎ (f ≡ h) → (map_byte gs fs ≡ map_byte gs hs) × (present gs fs ≡ present gs hs) → (cond (g.plain f) 0 1 + 2 * map_byte gs fs ≡ cond (g.plain h) 0 1 + 2 * map_byte gs hs) × (cond (g.plain f) [] f ++ present gs fs ≡ cond (g.plain h) [] h ++ present gs hs)
    go (inl both) rest = (rw (both.0, both.1, rest.0), rw (both.0, both.1, rest.1))
    go (inr same) rest = (rw (same, rest.0), rw (same, rest.1))

module _ {B : Type 0} (groups : List Group) (fields_of : B → List (List ℕ)) where
  -- A key whose frame fits its four bytes, and whose fields fit their groups.
  pub record Writable (key : Key B) : Type 0 where
    pub frame : key.frame < 4294967296
    pub shaped : Shaped groups (fields_of key.body)

  abbrev pub AllWritable : List (Key B) → Type 0
  AllWritable [] = Unit {0}
  AllWritable (key ∷ ks) = Writable key × AllWritable ks

  key-is : (k h : Key B) (xs ys : List ℕ) → Writable k → Writable h → key_bytes groups fields_of k ++ xs ≡ key_bytes groups fields_of h ++ ys → Alike groups fields_of k h × (xs ≡ ys)
  unfolding key_bytes
  key-is k h xs ys wk wh e =
      let fk = fields_of k.body in
      let fh = fields_of h.body in
      let flat = sym (append_assoc (little_endian 4 k.frame) (map_byte groups fk ∷ present groups fk) xs) ∙ e ∙ append_assoc (little_endian 4 h.frame) (map_byte groups fh ∷ present groups fh) ys in
      let frames = counts-are 4 k.frame h.frame (map_byte groups fk ∷ (present groups fk ++ xs)) (map_byte groups fh ∷ (present groups fh ++ ys)) wk.frame wh.frame flat in
      let rest = fields-are groups fk fh xs ys wk.shaped wh.shaped (head-is frames.1) (tail-is frames.1) in
      (record { frames = frames.0; fields = rest.0 }, rest.1)

  same_key : (k h : Key B) → Writable k → Writable h → Alike groups fields_of k h → key_bytes groups fields_of k ≡ key_bytes groups fields_of h
  unfolding key_bytes
  same_key k h wk wh like =
      let same = same_bytes groups (fields_of k.body) (fields_of h.body) wk.shaped wh.shaped like.fields in
      rw (like.frames, same.0, same.1)

  pub keys-are : (ks hs : List (Key B)) (xs ys : List ℕ) → length ks ≡ length hs → AllWritable ks → AllWritable hs → keys_bytes groups fields_of ks ++ xs ≡ keys_bytes groups fields_of hs ++ ys → AlikeKeys groups fields_of ks hs × (xs ≡ ys)
  unfolding keys_bytes
  keys-are [] [] xs ys l wk wh e = (tt, e)
  keys-are [] (h ∷ hs) xs ys l wk wh e = absurd (omega (arith, l))
  keys-are (k ∷ ks) [] xs ys l wk wh e = absurd (omega (arith, l))
  keys-are (k ∷ ks) (h ∷ hs) xs ys l wk wh e =
      let flat = sym (append_assoc (key_bytes groups fields_of k) (keys_bytes groups fields_of ks) xs) ∙ e ∙ append_assoc (key_bytes groups fields_of h) (keys_bytes groups fields_of hs) ys in
      let one = key-is k h (keys_bytes groups fields_of ks ++ xs) (keys_bytes groups fields_of hs ++ ys) wk.0 wh.0 flat in
      let rest = keys-are ks hs xs ys (omega (arith, l)) wk.1 wh.1 one.1 in
      ((one.0, rest.0), rest.1)

  pub same_keys : (ks hs : List (Key B)) → AllWritable ks → AllWritable hs → AlikeKeys groups fields_of ks hs → keys_bytes groups fields_of ks ≡ keys_bytes groups fields_of hs
  unfolding keys_bytes
  same_keys [] [] wk wh like = refl
  same_keys [] (h ∷ hs) wk wh like = absurd like
  same_keys (k ∷ ks) [] wk wh like = absurd like
  same_keys (k ∷ ks) (h ∷ hs) wk wh like = rw (same_key k h wk.0 wh.0 like.0, same_keys ks hs wk.1 wh.1 like.1)

  pub as_many : (ks hs : List (Key B)) → AlikeKeys groups fields_of ks hs → length ks ≡ length hs
  as_many [] [] like = refl
  as_many [] (h ∷ hs) like = absurd like
  as_many (k ∷ ks) [] like = absurd like
  as_many (k ∷ ks) (h ∷ hs) like = ap suc (as_many ks hs like.1)
