-- What is told of a key tells its fields: the map is the one that is written of them (specs, Written), and a row's numbers are their bytes
-- (specs, Rows), since a told key was read whole and is written as it was read (ToldKeys). Assumes nothing.
use Rattle.std.proofs.Common.{◌≡◌, ℕ, ◌+◌, ◌<◌, List, [], ◌∷◌, ◌++◌, length, map, get_or, refl, sym, ap, ◌∙◌, subst, arith, append_assoc, append-nil, All}
use Rattle.std.specs.List.{AllByRecursion, concat}
use Rattle.layout.specs.Walk.{u32_at}
use Rattle.section.specs.Limits.{edition1}
use Rattle.records.specs.Curves.{curve_at, curves_at}
use Rattle.clip.specs.{Fields.{Kind, bone, morph}, Keys.{pose_bits_of}}
use Rattle.strip.specs.{Numbers.{little_endian, number_of}, Plain.{floats, bone_groups, morph_groups}, Keys.{map_byte}, Strip.{count_width, FieldsKey}}
use Rattle.blocks.specs.declared.track.TrackIndex.{TrackIndex}
use Rattle.strip_reader.specs.{Key.{bone_body_of}, Answers.{strip_key}}
use Rattle.strip_reader.specs.declared.key.StripKey.{StripKey}
use Rattle.strip_reader.proofs.FrontLaws.{AreBytes, little_endian-number_of}
use Rattle.strip_laws.specs.{Judged.{IsTrack}, Told.{Told}, Written.{MapIs, MapsTold}, Rows.{TellsFields, RowsWhole}}
use Rattle.strip_laws.proofs.{Backward.{kind, counted}, WholeKeys.{read-whole}, ToldKeys.{Whole, key-written, told-of}, Lists.{all-get_or, all-append}}

map-is : (kind : Kind) (k : FieldsKey) → Whole kind k → MapIs (strip_key kind k)
map-is bone k whole = ap (λ (h : FieldsKey). map_byte bone_groups h.body) (sym (key-written bone k whole))
map-is morph k whole = ap (λ (h : FieldsKey). map_byte morph_groups h.body) (sym (key-written morph k whole))

floats-append : (xs ys : List ℕ) → floats (xs ++ ys) ≡ floats xs ++ floats ys
unfolding floats
floats-append [] ys = refl
floats-append (x ∷ xs) ys = rw (floats-append xs ys) (sym (append_assoc (little_endian 4 x) (floats xs) (floats ys)))

-- Every whole key has what every told key is to have.
of-told : (P : StripKey → Type 0) → ((kind : Kind) (k : FieldsKey) → Whole kind k → P (strip_key kind k)) → (strip : List ℕ) → All (λ b. b < 256) strip → (told : Told strip) (track : TrackIndex) → IsTrack told.counts track → (place : ℕ) → place < told.number track → P (told.key track place)
of-told P holds strip small told track is_track place is_place =
    let r = counted strip told.counts told.are_counts in
    let k = told-of strip told r.contents r.is r.counts (read-whole edition1 count_width strip r.contents small r.is) track is_track place is_place in
    subst P (sym k.is) (holds (kind track) k.key k.whole)

pub maps-told : MapsTold
maps-told = of-told MapIs map-is

-- The bytes of numbers that are made of four bytes each.
curve-bytes : (curves : List (List ℕ)) → AllByRecursion (λ (c : List ℕ). (length c ≡ 4) × AreBytes c) curves → floats (map number_of curves) ≡ concat curves
unfolding floats
curve-bytes [] all = refl
curve-bytes (c ∷ cs) all =
    let again : little_endian 4 (number_of c) ≡ c = ap (λ n. little_endian n (number_of c)) (sym all.0.0) ∙ little_endian-number_of c all.0.1 in
    rw (again, curve-bytes cs all.1)

-- A curve is four bytes.
abbrev Curve : List ℕ → Type 0
Curve c = (length c ≡ 4) × AreBytes c

curve-small : (s : List ℕ) → AreBytes s → (at : ℕ) → Curve (curve_at s at)
curve-small s small at =
    let byte = all-get_or (λ b. b < 256) 0 (omega arith) s small in
    (refl, (byte at, (byte (at + 1), (byte (at + 2), (byte (at + 3), tt)))))

curves-small : (s : List ℕ) → AreBytes s → AllByRecursion Curve (curves_at s 0)
curves-small s small = (curve-small s small 0, (curve-small s small 4, (curve-small s small 8, (curve-small s small 12, tt))))

tells : (kind : Kind) (k : FieldsKey) → Whole kind k → TellsFields (strip_key kind k)
tells bone k whole =
    let field = all-get_or AreBytes [] tt k.body whole.bytes in
    let p = pose_bits_of (bone_body_of k.body) in
    let s = (bone_body_of k.body).interpolation in
    floats-append p.translation (p.orientation ++ map number_of (curves_at s 0))
    ∙ ap (λ bytes. floats p.translation ++ bytes) (floats-append p.orientation (map number_of (curves_at s 0)))
    ∙ ap (λ bytes. floats p.translation ++ (floats p.orientation ++ bytes)) (curve-bytes (curves_at s 0) (curves-small s (all-append (λ b. b < 256) (get_or k.body 2 []) (get_or k.body 3 []) (field 2) (field 3))))
tells morph k whole = sym (append-nil (floats (u32_at (get_or k.body 0 []) 0 ∷ [])))

pub rows-whole : RowsWhole
rows-whole = of-told TellsFields tells
