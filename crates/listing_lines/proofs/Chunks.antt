-- What a reading of a strip writes into a slice, taken 16 numbers at a time: the rows of its keys from a number on. Each row is 16 numbers.
-- Assumes nothing.
use Rattle.std.proofs.Common.{ℕ, zero, suc, ◌+◌, ◌-◌, ◌/◌, ◌≤◌, min, List, [], ◌∷◌, ◌++◌, length, take, drop, ◌≡◌, refl, sym, ap, ◌∙◌, arith, append_assoc, length-take, length-drop, drop-drop, take-append-drop, Result}
use Rattle.std.proofs.Math.Seq.{take-append_seam, drop-append_seam}
use Rattle.std.specs.Simd.{first_chunks}
use Rattle.layout.specs.Walk.{Answer, answered}
use Rattle.section.specs.Limits.{edition1}
use Rattle.clip.specs.Fields.{Kind, bone, morph}
use Rattle.strip.specs.{Strip.{count_width, FieldsKey, Contents}, Call.{over}}
use Rattle.strip_reader.specs.{Read.{read_strip}, Run.{KeysCall}}
use Rattle.strip_reader.specs.Answers.{track_rows, kind_rows, rows, rows_written, keys}
use Rattle.strip_reader.specs.declared.refusal.ReaderRefusal.{ReaderRefusal}
use Rattle.listing_lines.specs.Rows.{row_lines}
use Rattle.std.specs.List.{concat}
use Rattle.listing_lines.proofs.RowLines.{append-rows}

abbrev pub Whole : List (List ℕ) → Type 0
Whole [] = Unit {0}
Whole (row ∷ rows) = (length row ≡ 16) × Whole rows

whole-append : (rs qs : List (List ℕ)) → Whole rs → Whole qs → Whole (rs ++ qs)
whole-append [] qs whole others = others
whole-append (r ∷ rs) qs whole others = (whole.0, whole-append rs qs whole.1 others)

whole-take : (n : ℕ) (rs : List (List ℕ)) → Whole rs → Whole (take n rs)
whole-take zero rs whole = tt
whole-take (suc n) [] whole = tt
whole-take (suc n) (r ∷ rs) whole = (whole.0, whole-take n rs whole.1)

whole-drop : (n : ℕ) (rs : List (List ℕ)) → Whole rs → Whole (drop n rs)
whole-drop zero rs whole = whole
whole-drop (suc n) [] whole = tt
whole-drop (suc n) (r ∷ rs) whole = whole-drop n rs whole.1

whole-track : (kind : Kind) (track place : ℕ) (ks : List FieldsKey) → Whole (track_rows kind track place ks)
unfolding track_rows
whole-track kind track place [] = tt
whole-track bone track place (k ∷ ks) = (refl, whole-track bone track (place + 1) ks)
whole-track morph track place (k ∷ ks) = (refl, whole-track morph track (place + 1) ks)

whole-kind : (kind : Kind) (track : ℕ) (tracks : List (List FieldsKey)) → Whole (kind_rows kind track tracks)
unfolding kind_rows
whole-kind kind track [] = tt
whole-kind kind track (ks ∷ tracks) =
    whole-append (track_rows kind track 0 ks) (kind_rows kind (track + 1) tracks) (whole-track kind track 0 ks) (whole-kind kind (track + 1) tracks)

whole-strip : (c : Contents) → Whole (rows c)
unfolding rows
whole-strip c = whole-append (kind_rows bone 0 c.bones) (kind_rows morph 0 c.morphs) (whole-kind bone 0 c.bones) (whole-kind morph 0 c.morphs)

-- Rows that stand one behind the other, taken apart again.
apart : (rs : List (List ℕ)) (n : ℕ) (rest : List ℕ) → Whole rs → length rs ≤ n → take (length rs) (first_chunks 16 n (concat rs ++ rest)) ≡ rs
apart [] n rest whole small = refl
apart (r ∷ rs) zero rest whole small = absurd (omega (arith, small))
apart (r ∷ rs) (suc n) rest whole small =
    let more : List ℕ = concat rs ++ rest in
    let front : take 16 (r ++ more) ≡ r = ap (λ (k : ℕ). take k (r ++ more)) (sym whole.0) ∙ take-append_seam r more in
    let behind : drop 16 (r ++ more) ≡ more = ap (λ (k : ℕ). drop k (r ++ more)) (sym whole.0) ∙ drop-append_seam r more in
    rw (append_assoc r (concat rs) rest, front, behind) (ap (λ (qs : List (List ℕ)). r ∷ qs) (apart rs n rest whole.1 (omega (arith, small))))

-- What a reading has written.
read-rows : (strip : List ℕ) (first : ℕ) (old new : List ℕ) (r : Result ℕ ReaderRefusal) (c : Contents)
    → KeysCall strip first old r new → read_strip edition1 count_width strip ≡ answered c
    → new ≡ over (concat (take (length old / 16) (drop first (rows c)))) old
unfolding keys
read-rows strip first old new r c call reads = call.leaves ∙ ap (λ (a : Answer Contents). (rows_written first old a).rows) reads

pub take-length : {A : Type 0} (n : ℕ) (xs : List A) → take (length (take n xs)) xs ≡ take n xs
take-length n xs = ap (take (length (take n xs))) (sym (take-append-drop n xs)) ∙ take-append_seam (take n xs) (drop n xs)

-- As many rows as there are places and keys.
pub chunk : {strip : List ℕ} {first : ℕ} {old new : List ℕ} {r : Result ℕ ReaderRefusal} (count met : ℕ) (c : Contents)
    → KeysCall strip first old r new → read_strip edition1 count_width strip ≡ answered c
    → length new ≡ length old → count ≡ length (rows c) → met ≡ min (length old / 16) (count - first)
    → take met (first_chunks 16 (length new / 16) new) ≡ take met (drop first (rows c))
chunk {strip} {first} {old} {new} {r} count met c call reads same counts many =
    let left : List (List ℕ) = drop first (rows c) in
    let asked : List (List ℕ) = take (length old / 16) left in
    let as_many : length asked ≡ met = length-take (length old / 16) left ∙ omega (arith, length-drop first (rows c)) in
    let fits : length asked ≤ length new / 16 = rw (as_many, same) (omega arith) in
    ap (λ (bytes : List ℕ). take met (first_chunks 16 (length new / 16) bytes)) (read-rows strip first old new r c call reads)
    ∙ ap (λ (k : ℕ). take k (first_chunks 16 (length new / 16) (over (concat asked) old))) (sym as_many)
    ∙ apart asked (length new / 16) (drop (length (concat asked)) old) (whole-take (length old / 16) left (whole-drop first (rows c) (whole-strip c))) fits
    ∙ sym (take-length (length old / 16) left)
    ∙ ap (λ (k : ℕ). take k left) as_many

-- The lines of those rows, and then of the others.
pub chunk-lines : (first met : ℕ) (rs : List (List ℕ)) → row_lines (take met (drop first rs)) ++ row_lines (drop (first + met) rs) ≡ row_lines (drop first rs)
chunk-lines first met rs =
    ap (λ (qs : List (List ℕ)). row_lines (take met (drop first rs)) ++ row_lines qs) (sym (drop-drop met first rs))
    ∙ sym (append-rows (take met (drop first rs)) (drop met (drop first rs)))
    ∙ ap row_lines (take-append-drop met (drop first rs))
