-- The lines of rows, by induction along them: row by row from a place on, and of all rows of a strip, whose lines are those of its keys.
-- Assumes nothing.
use Rattle.std.proofs.Common.{ℕ, suc, ◌+◌, ◌<◌, ◌≤◌, List, [], ◌∷◌, ◌++◌, length, get_or, drop, ◌≡◌, refl, sym, ap, ◌∙◌, append_assoc, length-append, add-one, drop_of_length-le}
use Rattle.std.proofs.Math.Seq.{drop-cons}
use Rattle.clip.specs.Fields.{Kind, bone, morph}
use Rattle.strip.specs.Strip.{FieldsKey, Contents}
use Rattle.strip_reader.specs.Answers.{strip_key, kind_number, key_numbers, track_rows, kind_rows, rows}
use Rattle.listing_lines.specs.Lines.{track_lines, kind_lines, key_lines, keys_in, all_keys}
use Rattle.listing_lines.specs.Rows.{row_line, row_lines}

pub next-row : (rows : List (List ℕ)) (i : ℕ) → i < length rows → row_lines (drop i rows) ≡ row_line (get_or rows i []) ++ row_lines (drop (i + 1) rows)
unfolding row_lines
next-row rows i within = rw (drop-cons rows i [] within, add-one)

pub no-row : (rows : List (List ℕ)) (i : ℕ) → length rows ≤ i → row_lines (drop i rows) ≡ []
unfolding row_lines
no-row rows i behind = ap row_lines (drop_of_length-le rows {i = i} behind)

pub append-rows : (rows others : List (List ℕ)) → row_lines (rows ++ others) ≡ row_lines rows ++ row_lines others
unfolding row_lines
append-rows [] others = refl
append-rows (row ∷ rows) others = ap (λ (xs : List ℕ). row_line row ++ xs) (append-rows rows others) ∙ sym (append_assoc (row_line row) (row_lines rows) (row_lines others))

-- Of the keys of a track, of a kind's tracks, of a strip.
of_key : (kind : Kind) (track place : ℕ) (k : FieldsKey) (ks : List FieldsKey)
    → row_line (kind_number kind ∷ track ∷ place ∷ key_numbers (strip_key kind k)) ++ track_lines kind track ks ≡ track_lines kind track (k ∷ ks)
unfolding row_line track_lines
of_key bone track place k ks = refl
of_key morph track place k ks = refl

of-track : (kind : Kind) (track place : ℕ) (ks : List FieldsKey) → row_lines (track_rows kind track place ks) ≡ track_lines kind track ks
unfolding row_lines track_rows track_lines
of-track kind track place [] = refl
of-track kind track place (k ∷ ks) =
    ap (λ (xs : List ℕ). row_line (kind_number kind ∷ track ∷ place ∷ key_numbers (strip_key kind k)) ++ xs) (of-track kind track (place + 1) ks)
    ∙ of_key kind track place k ks

of-kind : (kind : Kind) (track : ℕ) (tracks : List (List FieldsKey)) → row_lines (kind_rows kind track tracks) ≡ kind_lines kind track tracks
unfolding row_lines kind_rows kind_lines
of-kind kind track [] = refl
of-kind kind track (ks ∷ tracks) =
    append-rows (track_rows kind track 0 ks) (kind_rows kind (track + 1) tracks)
    ∙ rw (of-track kind track 0 ks, of-kind kind (track + 1) tracks)

pub of-strip : (c : Contents) → row_lines (rows c) ≡ key_lines c
unfolding rows key_lines
of-strip c =
    append-rows (kind_rows bone 0 c.bones) (kind_rows morph 0 c.morphs)
    ∙ rw (of-kind bone 0 c.bones, of-kind morph 0 c.morphs)

-- There are as many rows as keys.
count-track : (kind : Kind) (track place : ℕ) (ks : List FieldsKey) → length (track_rows kind track place ks) ≡ length ks
unfolding track_rows
count-track kind track place [] = refl
count-track kind track place (k ∷ ks) = ap suc (count-track kind track (place + 1) ks)

count-kind : (kind : Kind) (track : ℕ) (tracks : List (List FieldsKey)) → length (kind_rows kind track tracks) ≡ keys_in tracks
unfolding kind_rows keys_in
count-kind kind track [] = refl
count-kind kind track (ks ∷ tracks) =
    length-append (track_rows kind track 0 ks) (kind_rows kind (track + 1) tracks)
    ∙ rw (count-track kind track 0 ks, count-kind kind (track + 1) tracks)

pub count-strip : (c : Contents) → length (rows c) ≡ all_keys c
unfolding rows all_keys
count-strip c =
    length-append (kind_rows bone 0 c.bones) (kind_rows morph 0 c.morphs)
    ∙ rw (count-kind bone 0 c.bones, count-kind morph 0 c.morphs)
