-- What is read of a key that was written: a group whose bit stands is read as it was written, and of another, which is plain, the plain
-- value, which is plain too; so the map is that of the fields read. Assumes nothing.
use Rattle.std.proofs.Common.{◌≡◌, ℕ, suc, ◌+◌, ◌*◌, ◌/◌, ◌%◌, ◌^◌, ◌<◌, Bool, true, false, cond, List, [], ◌∷◌, ◌++◌, length, eqb, refl, sym, ap, ◌∙◌, subst, arith, append_assoc, pow-suc, pow_pos, le-leb, eq-eqb, ne_eqb, take_at, drop_at, length-append}
use Rattle.std.specs.{List.{AllByRecursion}, Float.Ieee.{eq, of_bits}}
use Rattle.layout.specs.{Walk.{answered}}
use Rattle.strip.specs.{Numbers.{little_endian, number_of}, Plain.{Group, bone_groups, morph_groups, plain_float, plain_floats, plain_bytes, floats}, Keys.{map_byte, present}}
use Rattle.strip.proofs.{Bytes.{length-little_endian}, Keys.{Shaped}}
use Rattle.strip_reader.proofs.Absent.{filled}
use Rattle.strip_reader.specs.{Front.{Front, ◌>>=◌, and_then, give, bytes, number}, Key.{fields}}
use Rattle.strip_reader.proofs.{FrontLaws.{number-of-little_endian}, Inversion.{gave, came, taken}}

-- A group's plain value is as wide as the group, and plain.
pub record SensibleGroup (g : Group) : Type 0 where
  pub long : length g.value ≡ g.width
  pub plain : g.plain g.value ≡ true

abbrev pub Sensible : List Group → Type 0
Sensible = AllByRecursion SensibleGroup

pub bones-sensible : Sensible bone_groups
unfolding plain_float plain_floats plain_bytes floats little_endian eq of_bits
bones-sensible =
    (record { long = refl; plain = refl }, (record { long = refl; plain = refl }, (record { long = refl; plain = refl }, (record { long = refl; plain = refl }, tt))))

pub morphs-sensible : Sensible morph_groups
unfolding plain_float plain_floats floats little_endian eq of_bits
morphs-sensible = (record { long = refl; plain = refl }, tt)

pub map-below : (gs : List Group) (fs : List (List ℕ)) → map_byte gs fs < 2 ^ length gs
unfolding map_byte
map-below [] fs = omega arith
map-below (g ∷ gs) [] = pow_pos (suc (length gs))
map-below (g ∷ gs) (f ∷ fs) = go (g.plain f) (map-below gs fs)
  where
    go : (b : Bool) → map_byte gs fs < 2 ^ length gs → cond b 0 1 + 2 * map_byte gs fs < 2 ^ suc (length gs)
    go true rest = omega (arith, pow-suc 2 (length gs))
    go false rest = omega (arith, pow-suc 2 (length gs))

pub map-filled : (gs : List Group) (fs : List (List ℕ)) → Sensible gs → map_byte gs (filled gs fs) ≡ map_byte gs fs
unfolding map_byte filled
map-filled [] fs ok = refl
map-filled (g ∷ gs) [] ok = refl
map-filled (g ∷ gs) (f ∷ fs) ok = rw (map-filled gs fs ok.1) (ap (λ b. cond b 0 1 + 2 * map_byte gs fs) (go (g.plain f) refl))
  where
    go : (b : Bool) → g.plain f ≡ b → g.plain (cond b g.value f) ≡ b
    go true e = ok.0.plain
    go false e = e

pub shaped-filled : (gs : List Group) (fs : List (List ℕ)) → Sensible gs → Shaped gs fs → Shaped gs (filled gs fs)
unfolding filled
shaped-filled [] [] ok shaped = tt
shaped-filled [] (f ∷ fs) ok shaped = absurd shaped
shaped-filled (g ∷ gs) [] ok shaped = absurd shaped
shaped-filled (g ∷ gs) (f ∷ fs) ok shaped = (go (g.plain f), shaped-filled gs fs ok.1 shaped.1)
  where
    go : (b : Bool) → length (cond b g.value f) ≡ g.width
    go true = ok.0.long
    go false = shaped.0

pub bytes-read : (n : ℕ) (front rest : List ℕ) → length front ≡ n → bytes n (front ++ rest) ≡ answered (front, rest)
unfolding bytes
bytes-read n front rest long =
    rw (le-leb n (length (front ++ rest)) (omega (arith, length-append front rest, long)), take_at front rest n long, drop_at front rest n long)

pub number-read : (width n : ℕ) (rest : List ℕ) → n < 256 ^ width → number width (little_endian width n ++ rest) ≡ answered (n, rest)
unfolding number
number-read width n rest small = rw (bytes-read width (little_endian width n) rest (length-little_endian width n), number-of-little_endian width n small)

pub byte-read : (byte : ℕ) (rest : List ℕ) → number 1 (byte ∷ rest) ≡ answered (byte, rest)
unfolding number number_of
byte-read byte rest = rw (bytes-read 1 (byte ∷ []) rest refl) (ap (λ (n : ℕ). answered (n, rest)) (omega arith))

field-read : (g : Group) (plain : Bool) (map : ℕ) (field shown rest : List ℕ) (others : List (List ℕ)) (f : ℕ → Front (List (List ℕ))) → length field ≡ g.width → f map (shown ++ rest) ≡ answered (others, rest)
    → and_then (cond {A = Front (List ℕ)} (eqb ((cond plain 0 1 + 2 * map) % 2) 1) (bytes g.width) (give g.value) ((cond plain [] field ++ shown) ++ rest)) (λ field. ◌>>=◌ (f ((cond plain 0 1 + 2 * map) / 2)) (λ others. give (field ∷ others)))
    ≡ answered (cond plain g.value field ∷ others, rest)
field-read g true map field shown rest others f long e =
    let even : eqb ((0 + 2 * map) % 2) 1 ≡ false = ne_eqb _ _ (λ one. omega arith) in
    let half : (0 + 2 * map) / 2 ≡ map = omega arith in
    rw (even, half, e)
field-read g false map field shown rest others f long e =
    let odd : eqb ((1 + 2 * map) % 2) 1 ≡ true = eq-eqb _ _ (omega arith) in
    let half : (1 + 2 * map) / 2 ≡ map = omega arith in
    rw (odd, append_assoc field shown rest, bytes-read g.width field (shown ++ rest) long, half, e)

pub fields-read : (gs : List Group) (fs : List (List ℕ)) (rest : List ℕ) → Shaped gs fs → fields gs (map_byte gs fs) (present gs fs ++ rest) ≡ answered (filled gs fs, rest)
unfolding fields map_byte present filled
fields-read [] [] rest shaped = refl
fields-read [] (f ∷ fs) rest shaped = absurd shaped
fields-read (g ∷ gs) [] rest shaped = absurd shaped
fields-read (g ∷ gs) (f ∷ fs) rest shaped =
    field-read g (g.plain f) (map_byte gs fs) f (present gs fs) rest (filled gs fs) (fields gs) shaped.0 (fields-read gs fs rest shaped.1)

field-shaped : (g : Group) (bit : Bool) (s field behind : List ℕ) → SensibleGroup g → cond {A = Front (List ℕ)} bit (bytes g.width) (give g.value) s ≡ answered (field, behind) → length field ≡ g.width
field-shaped g true s field behind ok e = (taken g.width s field behind e).long
field-shaped g false s field behind ok e = ap length (sym (gave g.value field s behind e).0) ∙ ok.long

-- Fields that were read are as wide as their groups.
pub fields-shaped : (gs : List Group) (map : ℕ) (s left : List ℕ) (fs : List (List ℕ)) → Sensible gs → fields gs map s ≡ answered (fs, left) → Shaped gs fs
unfolding fields
fields-shaped [] map s left fs ok e = subst (Shaped []) (gave [] fs s left e).0 tt
fields-shaped (g ∷ gs) map s left fs ok e =
    let one = came (cond (eqb (map % 2) 1) (bytes g.width) (give g.value) s) (λ field. ◌>>=◌ (fields gs (map / 2)) (λ others. give (field ∷ others))) fs left e in
    let more = came (fields gs (map / 2) one.behind) (λ others. give (one.value ∷ others)) fs left one.rest in
    let first = field-shaped g (eqb (map % 2) 1) s one.value one.behind ok.0 one.first in
    let others = fields-shaped gs (map / 2) one.behind more.behind more.value ok.1 more.first in
    subst (Shaped (g ∷ gs)) (gave (one.value ∷ more.value) fs more.behind left more.rest).0 (first, others)
