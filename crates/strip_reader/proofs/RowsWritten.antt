-- Rows read and put in turn: what is left to be read, behind the rows already put, gives what the whole gives. Assumes nothing.
use Rattle.std.proofs.Common.{◌≡◌, ℕ, suc, ◌+◌, ◌-◌, ◌≤◌, ◌<◌, List, [], ◌∷◌, ◌++◌, length, drop, refl, sym, ap, ◌∙◌, arith, append_assoc, append-nil, length-append}
use Rattle.layout.specs.Walk.{Refusal, Answer, answered, declined}
use Rattle.clip.specs.Fields.{Kind}
use Rattle.clip.proofs.Follow.{answer-is, no_answer}
use Rattle.strip.specs.Strip.{count_width, FieldsKey}
use Rattle.strip_reader.specs.{Front.{and_then, number}, Key.{form_of, key}, Answers.{reader_refusal, strip_key}, Stands.{key_told}, Rows.{row_of, keys_rows, track_read, tracks_rows, row_put, rows_put, RowsPut}}
use Rattle.strip_reader.specs.declared.{refusal.ReaderRefusal.{ReaderRefusal}, key.StripKey.{StripKey}, all_keys.Reached.{Reached}}
use Rattle.strip_reader.proofs.RowsPut.{rows-put-append}

abbrev Rows : Type 0
Rows = Answer (List (List ℕ) × List ℕ)

abbrev behind : List (List ℕ) → Rows → Rows
behind xs a = and_then a (λ others left. answered (xs ++ others, left))

-- The key of what was told of it.
record Came (kind : Kind) (a : Answer (FieldsKey × List ℕ)) (k : StripKey) (left : List ℕ) : Type 0 where
  key : FieldsKey
  is : a ≡ answered (key, left)
  told : k ≡ strip_key kind key

came : (kind : Kind) (a : Answer (FieldsKey × List ℕ)) (k : StripKey) (left : List ℕ) → answered (k, left) ≡ key_told kind a → Came kind a k left
came kind (answered (fk, l)) k left e =
    let told : ◌≡◌ {A = StripKey × List ℕ} (k, left) (strip_key kind fk, l) = answer-is e in
    let same : left ≡ l = ap (λ (p : StripKey × List ℕ). p.1) told in
    record { key = fk; is = rw same refl; told = ap (λ (p : StripKey × List ℕ). p.0) told }
came kind (declined why) k left e = no_answer (sym e)

stopped : (kind : Kind) (a : Answer (FieldsKey × List ℕ)) (why : Refusal) → declined why ≡ key_told kind a → a ≡ declined why
stopped kind (answered (fk, l)) why e = no_answer e
stopped kind (declined why') why e = sym (ap other e)
  where
    other : Answer (StripKey × List ℕ) → Answer (FieldsKey × List ℕ)
    other (declined w) = declined w
    other (answered x) = declined why

module _ (all : Rows) (first number : ℕ) (old : List ℕ) where
  pub record Along (rest : Rows) (next : ℕ) (now : List ℕ) : Type 0 where
    pub done : List (List ℕ)
    pub stops : (why : Refusal) → rest ≡ declined why → all ≡ declined why
    pub ends : (xs : List (List ℕ)) (left : List ℕ) → rest ≡ answered (xs, left) → all ≡ answered (done ++ xs, left)
    pub counts : next ≡ number + length done
    pub leaves : now ≡ rows_put first number done old

  starts : (rest : Rows) (next : ℕ) → all ≡ rest → next ≡ number → Along rest next old
  unfolding rows_put
  starts rest next is same =
      record { done = []; stops = λ why e. is ∙ e; ends = λ xs left e. is ∙ e; counts = omega (arith, same); leaves = refl }

  -- Rows more, which stand in front of the rest.
  module _ (rest : Rows) (next : ℕ) (now : List ℕ) (a : Along rest next now) where
    goes_on : (xs : List (List ℕ)) (others : Rows) (next' : ℕ) (now' : List ℕ) → rest ≡ behind xs others → next' ≡ next + length xs → now' ≡ rows_put first next xs now → Along others next' now'
    goes_on xs others next' now' is more puts =
        record {
          done = a.done ++ xs;
          stops = λ why e. a.stops why (is ∙ ap (behind xs) e);
          ends = λ ys left e.
              a.ends (xs ++ ys) left (is ∙ ap (behind xs) e) ∙ ap (λ (zs : List (List ℕ)). answered (zs, left)) (sym (append_assoc a.done xs ys));
          counts = omega (arith, more, a.counts, length-append a.done xs);
          leaves =
              puts
              ∙ ap (λ (n : ℕ). rows_put first n xs now) a.counts
              ∙ ap (rows_put first (number + length a.done) xs) a.leaves
              ∙ sym (rows-put-append first number a.done xs old);
        }

    finished : (strip : List ℕ) (from to : Reached) → from.number ≡ number → to.number ≡ next → rest ≡ answered ([], drop to.at strip) → RowsPut all strip from first old to now
    finished strip from to same last is =
        record {
          rows = a.done;
          is = a.ends [] (drop to.at strip) is ∙ ap (λ (zs : List (List ℕ)). answered (zs, drop to.at strip)) (append-nil a.done);
          counts = omega (arith, last, same, a.counts);
          leaves = a.leaves ∙ ap (λ (n : ℕ). rows_put first n a.done old) (sym same);
        }

-- The keys of a track.
module _ (kind : Kind) (track count first : ℕ) (strip : List ℕ) (from : Reached) (old : List ℕ) where
  abbrev of_track : Rows
  of_track = track_read kind track (drop from.at strip)

  abbrev keys_left : ℕ → ℕ → Rows
  keys_left place next = keys_rows kind track place (count - place) (drop next strip)

  abbrev pub KeysAlong : ℕ → ℕ → List ℕ → Type 0
  KeysAlong next place now = Along of_track first from.number old (keys_left place next) (from.number + place) now

  pub no-count : (why : ReaderRefusal) → declined (reader_refusal why) ≡ number count_width (drop from.at strip) → of_track ≡ declined (reader_refusal why)
  unfolding track_read
  no-count why e = rw (sym e) refl

  pub keys-begin : (at : ℕ) → answered (count, drop at strip) ≡ number count_width (drop from.at strip) → KeysAlong at 0 old
  unfolding track_read
  keys-begin at e =
      let all : count - 0 ≡ count = omega arith in
      starts of_track first from.number old (keys_left 0 at) (from.number + 0) (rw (sym e, all) refl) (omega arith)

  module _ (next place : ℕ) (now : List ℕ) (a : KeysAlong next place now) where
    one-less : place < count → count - place ≡ suc (count - (place + 1))
    one-less within = omega arith

    pub keys-stop : place < count → (why : ReaderRefusal) → declined (reader_refusal why) ≡ key_told kind (key (form_of kind) (drop next strip)) → of_track ≡ declined (reader_refusal why)
    unfolding keys_rows
    keys-stop within why e =
        a.stops (reader_refusal why) (rw (one-less within, stopped kind (key (form_of kind) (drop next strip)) (reader_refusal why) e) refl)

    one-read : place < count → (k : FieldsKey) (behind_it : ℕ) → key (form_of kind) (drop next strip) ≡ answered (k, drop behind_it strip) → keys_left place next ≡ behind (row_of kind track place (strip_key kind k) ∷ []) (keys_left (place + 1) behind_it)
    unfolding keys_rows
    one-read within k behind_it is = rw (one-less within, is) refl

    pub keys-more : place < count → (k : StripKey) (behind_it : ℕ) (now' : List ℕ) → answered (k, drop behind_it strip) ≡ key_told kind (key (form_of kind) (drop next strip)) → now' ≡ row_put first (from.number + place) (row_of kind track place k) now → KeysAlong behind_it (place + 1) now'
    unfolding keys_rows rows_put
    keys-more within k behind_it now' e puts =
        let one = came kind (key (form_of kind) (drop next strip)) k (drop behind_it strip) e in
        let read : keys_left place next ≡ behind (row_of kind track place (strip_key kind one.key) ∷ []) (keys_left (place + 1) behind_it) = one-read within one.key behind_it one.is in
        goes_on of_track first from.number old (keys_left place next) (from.number + place) now a (row_of kind track place k ∷ []) (keys_left (place + 1) behind_it) (from.number + (place + 1)) now'
        (read ∙ ap (λ (told : StripKey). behind (row_of kind track place told ∷ []) (keys_left (place + 1) behind_it)) (sym one.told)) (omega arith) puts

    pub keys-done : count ≤ place → place ≤ count → (to : Reached) → to.at ≡ next → to.number ≡ from.number + count → RowsPut of_track strip from first old to now
    unfolding keys_rows
    keys-done past within to at last =
        let none : count - place ≡ 0 = omega arith in
        finished of_track first from.number old (keys_left place next) (from.number + place) now a strip from to refl (omega (arith, last)) (rw (none, at) refl)

-- The tracks of a kind.
module _ (kind : Kind) (count first : ℕ) (strip : List ℕ) (from : Reached) (old : List ℕ) where
  abbrev of_tracks : Rows
  of_tracks = tracks_rows kind 0 count (drop from.at strip)

  abbrev tracks_left : ℕ → ℕ → Rows
  tracks_left track next = tracks_rows kind track (count - track) (drop next strip)

  abbrev pub TracksAlong : Reached → ℕ → List ℕ → Type 0
  TracksAlong reached track now = Along of_tracks first from.number old (tracks_left track reached.at) reached.number now

  pub tracks-begin : TracksAlong from 0 old
  tracks-begin =
      let all : count - 0 ≡ count = omega arith in
      starts of_tracks first from.number old (tracks_left 0 from.at) from.number (rw all refl) refl

  module _ (reached : Reached) (track : ℕ) (now : List ℕ) (a : TracksAlong reached track now) where
    one_less : track < count → count - track ≡ suc (count - (track + 1))
    one_less within = omega arith

    pub tracks-stop : track < count → (why : ReaderRefusal) → track_read kind track (drop reached.at strip) ≡ declined (reader_refusal why) → of_tracks ≡ declined (reader_refusal why)
    unfolding tracks_rows
    tracks-stop within why e = a.stops (reader_refusal why) (rw (one_less within, e) refl)

    pub tracks-more : track < count → (to : Reached) (now' : List ℕ) → RowsPut (track_read kind track (drop reached.at strip)) strip reached first now to now' → TracksAlong to (track + 1) now'
    unfolding tracks_rows
    tracks-more within to now' p =
        goes_on of_tracks first from.number old (tracks_left track reached.at) reached.number now a p.rows (tracks_left (track + 1) to.at) to.number now'
        (rw (one_less within, p.is) refl) p.counts p.leaves

    pub tracks-done : count ≤ track → track ≤ count → RowsPut of_tracks strip from first old reached now
    unfolding tracks_rows
    tracks-done past within =
        let none : count - track ≡ 0 = omega arith in
        finished of_tracks first from.number old (tracks_left track reached.at) reached.number now a strip from reached refl refl (rw none refl)
