-- A plain float equals its plain value, and IEEE 754's equality goes both ways; a float that is finite equals itself, a zero of either sign
-- included. Assumes nothing.
use Prim.Native.Nat.{ℕ, ◌*◌}
use borrow.Author.Tests.{eq-eqb}
use mathlib.Core.Bool.{Bool, true, false, not, ◌&&◌, beq}
use mathlib.Core.Path.{◌≡◌, refl}
use lib.Dec.{T}
use lib.Ieee.{Float, nan, inf, fin, up, down, eq}
use Rattle.std.proofs.lemmas.Float.{T_from_true, eq_flip}
use Rattle.layout.specs.Numbers.{float}
use Rattle.clip.specs.Keys.{finite}
use Rattle.clip.proofs.First.{contrary}
use Rattle.strip.specs.Plain.{plain_float}

from_T : (b : Bool) → T b → b ≡ true
from_T true t = refl
from_T false t = absurd t

like-itself : (s : Bool) → beq s s ≡ true
like-itself true = refl
like-itself false = refl

pub same-finite : (x : Float) → finite x ≡ true → eq x x ≡ true
unfolding eq
same-finite nan f = contrary false f refl
same-finite (inf s) f = contrary false f refl
same-finite (fin s m e) f = rw (eq-eqb (m * up e * down e) (m * up e * down e) refl, like-itself s)

flipped : (x y : Float) → eq x y ≡ true → eq y x ≡ true
flipped x y e = from_T (eq y x) (eq_flip x y (T_from_true (eq x y) e))

pub plain-equals : (bits plain : ℕ) → plain_float bits plain ≡ true → eq (float plain) (float bits) ≡ true
unfolding plain_float
plain-equals bits plain e = flipped (float bits) (float plain) e

-- A test of two, which holds or fails.
pub both-true : (a b : Bool) → (a && b) ≡ true → (a ≡ true) × (b ≡ true)
both-true true b e = (refl, e)
both-true false b e = contrary false e refl

pub all_three : (a b c : Bool) → (a && b && c) ≡ true → (a ≡ true) × (b ≡ true) × (c ≡ true)
all_three a b c e =
    let p = both-true (a && b) c e in
    let q = both-true a b p.0 in
    (q.0, q.1, p.1)

pub not-false : (b : Bool) → not b ≡ false → b ≡ true
not-false true e = refl
not-false false e = contrary true refl e
