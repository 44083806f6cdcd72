-- The rows of what a strip holds (strip_reader, Answers) by the keys' numbers: a key's row stands behind those of the tracks before it
-- and of the keys before it in its track. Assumes nothing.
use Rattle.std.proofs.Common.{◌≡◌, ℕ, zero, suc, ◌+◌, ◌<◌, List, [], ◌∷◌, ◌++◌, length, get_or, refl, sym, ap, ◌∙◌, arith, length-append, get_or-append-add, ◌≤◌, subst}
use Rattle.std.proofs.lemmas.List.{get_or_append_left}
use Rattle.clip.specs.{First.{total}, Fields.{Kind, bone, morph}}
use Rattle.clip.proofs.{Counting.{total-front}, First.{below_suc}}
use Rattle.strip.specs.Strip.{FieldsKey, Contents}
use Rattle.strip_reader.specs.Answers.{row_numbers, kind_number, key_numbers, strip_key, track_rows, kind_rows, rows}
use Rattle.strip_laws.proofs.{Joined.{AllRows}, Lists.{all-append}}

pub no_key : FieldsKey
no_key = record { frame = 0; body = [] }

abbrev pub row_of : Kind → ℕ → ℕ → FieldsKey → List ℕ
row_of kind track place k = kind_number kind ∷ track ∷ place ∷ key_numbers (strip_key kind k)

-- The keys of a track of these.
abbrev pub keys_of : List (List FieldsKey) → ℕ → List FieldsKey
keys_of tracks t = get_or tracks t []

abbrev pub keys_below : List (List FieldsKey) → ℕ → ℕ
keys_below tracks track = total track (λ t. length (keys_of tracks t))

-- What one adds is within the sum.
pub within-total : (n : ℕ) (f : ℕ → ℕ) (t : ℕ) → t < n → total t f + f t ≤ total n f
unfolding total
within-total zero f t less = absurd (omega (arith, less))
within-total (suc n) f t less =
    below_suc t n less
    (λ last. subst (λ (m : ℕ). total m f + f m ≤ total n f + f n) (sym last) (omega arith))
    (λ earlier. omega (arith, within-total n f t earlier))

row-wide : (kind : Kind) (track place : ℕ) (k : FieldsKey) → length (row_of kind track place k) ≡ 16
row-wide bone track place k = refl
row-wide morph track place k = refl

module _ (kind : Kind) where
  length-track : (track place : ℕ) (ks : List FieldsKey) → length (track_rows kind track place ks) ≡ length ks
  unfolding track_rows
  length-track track place [] = refl
  length-track track place (k ∷ ks) = ap suc (length-track track (place + 1) ks)

  track-row : (track place : ℕ) (ks : List FieldsKey) (i : ℕ) → i < length ks → get_or (track_rows kind track place ks) i [] ≡ row_of kind track (place + i) (get_or ks i no_key)
  unfolding track_rows
  track-row track place [] i less = absurd (omega (arith, less))
  track-row track place (k ∷ ks) zero less = ap (λ n. row_of kind track n k) (omega arith)
  track-row track place (k ∷ ks) (suc i) less = track-row track (place + 1) ks i (omega (arith, less)) ∙ ap (λ n. row_of kind track n (get_or ks i no_key)) (omega arith)

  track-wide : (track place : ℕ) (ks : List FieldsKey) → AllRows (track_rows kind track place ks)
  unfolding track_rows
  track-wide track place [] = tt
  track-wide track place (k ∷ ks) = (row-wide kind track place k, track-wide track (place + 1) ks)

  kind-wide : (track : ℕ) (tracks : List (List FieldsKey)) → AllRows (kind_rows kind track tracks)
  unfolding kind_rows
  kind-wide track [] = tt
  kind-wide track (ks ∷ tracks) = all-append (λ (row : List ℕ). length row ≡ row_numbers) (track_rows kind track 0 ks) (kind_rows kind (track + 1) tracks) (track-wide track 0 ks) (kind-wide (track + 1) tracks)

  length-kind : (track : ℕ) (tracks : List (List FieldsKey)) → length (kind_rows kind track tracks) ≡ keys_below tracks (length tracks)
  unfolding kind_rows total
  length-kind track [] = refl
  length-kind track (ks ∷ tracks) =
      let front = total-front (length tracks) (λ t. length (keys_of (ks ∷ tracks) t)) in
      omega (arith, length-append (track_rows kind track 0 ks) (kind_rows kind (track + 1) tracks), length-track track 0 ks, length-kind (track + 1) tracks, front)

  kind-row : (track : ℕ) (tracks : List (List FieldsKey)) (t place : ℕ) → t < length tracks → place < length (keys_of tracks t) → get_or (kind_rows kind track tracks) (keys_below tracks t + place) [] ≡ row_of kind (track + t) place (get_or (keys_of tracks t) place no_key)
  unfolding kind_rows total
  kind-row track [] t place is_track is_place = absurd (omega (arith, is_track))
  kind-row track (ks ∷ tracks) zero place is_track is_place =
      ap (λ n. get_or (track_rows kind track 0 ks ++ kind_rows kind (track + 1) tracks) n []) (omega arith)
      ∙ get_or_append_left (track_rows kind track 0 ks) (kind_rows kind (track + 1) tracks) [] place (omega (arith, length-track track 0 ks, is_place))
      ∙ track-row track 0 ks place is_place
      ∙ ap (λ n. row_of kind track n (get_or ks place no_key)) (omega arith)
      ∙ ap (λ n. row_of kind n place (get_or ks place no_key)) (omega arith)
  kind-row track (ks ∷ tracks) (suc t) place is_track is_place =
      let front = total-front t (λ i. length (keys_of (ks ∷ tracks) i)) in
      let long = length-track track 0 ks in
      let at : keys_below (ks ∷ tracks) (suc t) + place ≡ length (track_rows kind track 0 ks) + (keys_below tracks t + place) = omega (arith, front, long) in
      ap (λ n. get_or (track_rows kind track 0 ks ++ kind_rows kind (track + 1) tracks) n []) at
      ∙ get_or-append-add (track_rows kind track 0 ks) (kind_rows kind (track + 1) tracks) (keys_below tracks t + place) []
      ∙ kind-row (track + 1) tracks t place (omega (arith, is_track)) is_place
      ∙ ap (λ n. row_of kind n place (get_or (keys_of tracks t) place no_key)) (omega arith)

module _ (c : Contents) where
  pub rows-wide : AllRows (rows c)
  unfolding rows
  rows-wide = all-append (λ (row : List ℕ). length row ≡ row_numbers) (kind_rows bone 0 c.bones) (kind_rows morph 0 c.morphs) (kind-wide bone 0 c.bones) (kind-wide morph 0 c.morphs)

  pub length-all : length (rows c) ≡ keys_below c.bones (length c.bones) + keys_below c.morphs (length c.morphs)
  unfolding rows
  length-all = omega (arith, length-append (kind_rows bone 0 c.bones) (kind_rows morph 0 c.morphs), length-kind bone 0 c.bones, length-kind morph 0 c.morphs)

  pub bone-row : (t place : ℕ) → t < length c.bones → place < length (keys_of c.bones t) → get_or (rows c) (keys_below c.bones t + place) [] ≡ row_of bone t place (get_or (keys_of c.bones t) place no_key)
  unfolding rows
  bone-row t place is_track is_place =
      let long = length-kind bone 0 c.bones in
      let within = within-total (length c.bones) (λ i. length (keys_of c.bones i)) t is_track in
      get_or_append_left (kind_rows bone 0 c.bones) (kind_rows morph 0 c.morphs) [] (keys_below c.bones t + place) (omega (arith, long, within, is_place))
      ∙ kind-row bone 0 c.bones t place is_track is_place
      ∙ ap (λ n. row_of bone n place (get_or (keys_of c.bones t) place no_key)) (omega arith)

  pub morph-row : (t place : ℕ) → t < length c.morphs → place < length (keys_of c.morphs t) → get_or (rows c) ((keys_below c.bones (length c.bones) + keys_below c.morphs t) + place) [] ≡ row_of morph t place (get_or (keys_of c.morphs t) place no_key)
  unfolding rows
  morph-row t place is_track is_place =
      let long = length-kind bone 0 c.bones in
      let at : (keys_below c.bones (length c.bones) + keys_below c.morphs t) + place ≡ length (kind_rows bone 0 c.bones) + (keys_below c.morphs t + place) = omega (arith, long) in
      ap (λ n. get_or (kind_rows bone 0 c.bones ++ kind_rows morph 0 c.morphs) n []) at
      ∙ get_or-append-add (kind_rows bone 0 c.bones) (kind_rows morph 0 c.morphs) (keys_below c.morphs t + place) []
      ∙ kind-row morph 0 c.morphs t place is_track is_place
      ∙ ap (λ n. row_of morph n place (get_or (keys_of c.morphs t) place no_key)) (omega arith)
