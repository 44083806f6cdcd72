-- The rows read of an accepted strip are those of what it holds: where its keys and tracks stand, they are read one by one, and each has 16
-- numbers. Assumes nothing.
use Rattle.std.proofs.Common.{◌≡◌, ℕ, ◌+◌, List, [], ◌∷◌, length, refl, ap}
use Rattle.layout.specs.Walk.{answered}
use Rattle.clip.specs.Fields.{Kind, bone, morph}
use Rattle.strip.specs.Strip.{FieldsKey, Contents}
use Rattle.strip_reader.specs.{Key.{form_of}, Answers.{strip_key, track_rows, kind_rows, rows}, Stands.{KeysAt, TracksAt}, Rows.{row_of, keys_rows, track_read, tracks_rows}}
use Rattle.strip_reader.proofs.RowsPut.{AreRows, are-rows-append}

module _ (kind : Kind) where
  keys-read : (track place : ℕ) (ks : List FieldsKey) (left behind : List ℕ) → KeysAt (form_of kind) ks left behind → keys_rows kind track place (length ks) left ≡ answered (track_rows kind track place ks, behind)
  unfolding keys_rows track_rows
  keys-read track place [] left behind stand = ap (λ (l : List ℕ). answered ([], l)) stand
  keys-read track place (k ∷ ks) left behind stand = rw (stand.1, keys-read track (place + 1) ks stand.0 behind stand.2) refl

  pub tracks-read : (track : ℕ) (ts : List (List FieldsKey)) (left behind : List ℕ) → TracksAt (form_of kind) ts left behind → tracks_rows kind track (length ts) left ≡ answered (kind_rows kind track ts, behind)
  unfolding tracks_rows track_read kind_rows
  tracks-read track [] left behind stand = ap (λ (l : List ℕ). answered ([], l)) stand
  tracks-read track (ks ∷ ts) left behind stand =
      rw (stand.2, keys-read track 0 ks stand.0 stand.1 stand.3, tracks-read (track + 1) ts stand.1 behind stand.4) refl

  row-long : (track place : ℕ) (k : FieldsKey) → length (row_of kind track place (strip_key kind k)) ≡ 16
  row-long track place k = by kind
    where
      by : (kd : Kind) → length (row_of kd track place (strip_key kd k)) ≡ 16
      by bone = refl
      by morph = refl

  track-rows-long : (track place : ℕ) (ks : List FieldsKey) → AreRows (track_rows kind track place ks)
  unfolding track_rows
  track-rows-long track place [] = tt
  track-rows-long track place (k ∷ ks) = (row-long track place k, track-rows-long track (place + 1) ks)

  kind-rows-long : (track : ℕ) (ts : List (List FieldsKey)) → AreRows (kind_rows kind track ts)
  unfolding kind_rows
  kind-rows-long track [] = tt
  kind-rows-long track (ks ∷ ts) = are-rows-append (track_rows kind track 0 ks) (kind_rows kind (track + 1) ts) (track-rows-long track 0 ks) (kind-rows-long (track + 1) ts)

pub rows-long : (c : Contents) → AreRows (rows c)
unfolding rows
rows-long c = are-rows-append (kind_rows bone 0 c.bones) (kind_rows morph 0 c.morphs) (kind-rows-long bone 0 c.bones) (kind-rows-long morph 0 c.morphs)
