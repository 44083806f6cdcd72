-- Camera and light records by number (specs/ByNumber), as in Numbers: the state behind the records was read, so both lists stand in the
-- bytes, and numbers below the counts are answered. Where the summary is refused, so are they. Assumes nothing.
use Prim.Native.Nat.{ℕ, ◌<◌, ◌≤◌}
use native.Mathlib.Omega.{arith}
use mathlib.Core.Bool.{Bool, true, false, cond}
use mathlib.Core.List.{List, []}
use mathlib.Core.Path.{◌≡◌, refl, subst}
use borrow.Author.Tests.{lt-ltb}
use lib.Dec.{ltb}
use lib.ListN.{length}
use Rattle.layout.specs.Refusals.{too_long}
use Rattle.layout.specs.Walk.{Refusal, Walk, fine, refused, refusal, Reader, after, block, unlimited, answered, declined, answer, entry_of}
use Rattle.layout.specs.Records.{size, initial, additional}
use Rattle.layout.proofs.Inversion.{came, same-value, item-fits}
use Rattle.layout.proofs.Walks.{Walks}
use Rattle.section.specs.declared.limits.Limits.{Limits}
use Rattle.section.specs.Limits.{edition1}
use Rattle.section.specs.Model.{keyframes}
use Rattle.clip.proofs.Facts.{Block, block-is}
use Rattle.camera_light.specs.Track.{items_of, state_of, track_parts, track_section, track_of, track_summary, track_entries, locate}
use Rattle.camera_light.specs.Camera.{camera_keyframe}
use Rattle.camera_light.specs.Light.{light_keyframe}
use Rattle.camera_light.specs.declared.track.Kind.{Kind}
use Rattle.camera_light.specs.declared.track.Track.{Track}
use Rattle.camera_light.specs.declared.track.PmmDocumentTrackSummary.{PmmDocumentTrackSummary}
use Rattle.camera_light.proofs.Table.{cameras-walk, lights-walk}
use Rattle.entry_laws.specs.ByNumber.{ByNumber, RecordsByNumber, RecordsDeclined}
use Rattle.entry_laws.proofs.Entries.{Stands, declined-found, entries-by-number}
use Rattle.entry_laws.proofs.Whole.{block-stands}

-- The records of a section that was read stand in the lent bytes.
record Stood (kind : Kind) (s : List ℕ) (start : ℕ) (t : Track) : Type 0 where
  pub next : ℕ
  pub records : Block 1 (size (initial (items_of kind))) (size (additional (items_of kind))) unlimited start next t.keyframes
  pub within : next ≤ length s

stood : (limits : Limits) (kind : Kind) (s : List ℕ) (start : ℕ) (t : Track) (end : ℕ) → track_section limits kind s start ≡ fine t end → Stood kind s start t
unfolding track_section track_parts
stood limits kind s start t end e = go (ltb limits.bytes (length s)) e
  where
    go : (b : Bool) → cond b (refused (refusal too_long [])) (track_parts kind s start) ≡ fine t end → Stood kind s start t
    go true e = absurd (let z : ◌≡◌ {A = ℕ} 0 1 = cc in omega arith)
    go false e =
        let k = came (keyframes 1 (initial (items_of kind)) (additional (items_of kind)) unlimited s start) _ t end e in
        let state = came (block (state_of kind) s k.at) _ t end k.rest in
        let fits = item-fits (state_of kind) _ s k.at state.value state.at state.first in
        subst (λ (t : Track). Stood kind s start t) (same-value state.rest)
        (record { next = k.at; records = block-is 1 (initial (items_of kind)) (additional (items_of kind)) unlimited s start k.value k.at k.first; within = omega (arith, fits) })

module _ (limits : Limits) (kind : Kind) (s : List ℕ) (start : ℕ) (t : Track) (end : ℕ) (reads : track_section limits kind s start ≡ fine t end) where
  records-stand : (include_index : Bool) → Stands s (track_entries kind include_index t)
  unfolding track_entries
  records-stand true = let b = stood limits kind s start t end reads in (block-stands _ _ _ _ _ _ _ (length s) b.records b.within).1
  records-stand false = let b = stood limits kind s start t end reads in (block-stands _ _ _ _ _ _ _ (length s) b.records b.within).0

  records-by-number : {A B : Type 0} (include_index : Bool) (bits : Track → Reader A) (summary : Track → ℕ → A → ℕ → B) → Walks (bits t) (track_entries kind include_index t).widths → ByNumber (track_entries kind include_index t).count (λ k. entry_of (locate limits kind include_index k s start) bits summary s)
  unfolding locate
  records-by-number include_index = entries-by-number s (track_entries kind include_index t) t (λ k. locate limits kind include_index k s start) (λ k. rw reads refl) (records-stand include_index)

-- From the summary of a section to the section.
by-summary : (limits : Limits) (kind : Kind) (s : List ℕ) (start : ℕ) (x : PmmDocumentTrackSummary) (P : PmmDocumentTrackSummary → Type 0) → ((t : Track) (end : ℕ) → track_section limits kind s start ≡ fine t end → P (track_of start t end)) → track_summary limits kind s start ≡ answered x → P x
unfolding track_summary
by-summary limits kind s start x P holds e = go (track_section limits kind s start) refl e
  where
    go : (w : Walk Track) → track_section limits kind s start ≡ w → answer (after w (λ t end. fine (track_of start t end) end)) ≡ answered x → P x
    go (fine t end) reads e = let is : track_of start t end ≡ x = cc in subst P is (holds t end reads)
    go (refused why) reads e = absurd (let z : ◌≡◌ {A = ℕ} 0 1 = cc in omega arith)

pub camera-by-number : (limits : Limits) (s : List ℕ) (start : ℕ) (x : PmmDocumentTrackSummary) → track_summary limits Kind.Camera s start ≡ answered x → RecordsByNumber x (λ include_index k. camera_keyframe limits include_index k s start)
unfolding track_of track_entries
camera-by-number limits s start x =
    by-summary limits Kind.Camera s start x (λ (x : PmmDocumentTrackSummary). RecordsByNumber x (λ include_index k. camera_keyframe limits include_index k s start))
    (λ t end reads. record {
      initial = records-by-number limits Kind.Camera s start t end reads false _ _ cameras-walk.0;
      additional = records-by-number limits Kind.Camera s start t end reads true _ _ cameras-walk.1;
    })

pub light-by-number : (limits : Limits) (s : List ℕ) (start : ℕ) (x : PmmDocumentTrackSummary) → track_summary limits Kind.Light s start ≡ answered x → RecordsByNumber x (λ include_index k. light_keyframe limits include_index k s start)
unfolding track_of track_entries
light-by-number limits s start x =
    by-summary limits Kind.Light s start x (λ (x : PmmDocumentTrackSummary). RecordsByNumber x (λ include_index k. light_keyframe limits include_index k s start))
    (λ t end reads. record {
      initial = records-by-number limits Kind.Light s start t end reads false _ _ lights-walk.0;
      additional = records-by-number limits Kind.Light s start t end reads true _ _ lights-walk.1;
    })

-- A section that is not read.
module _ (limits : Limits) (kind : Kind) (s : List ℕ) (start : ℕ) (why : Refusal) (e : track_summary limits kind s start ≡ declined why) where
  not-read : track_section limits kind s start ≡ refused why
  unfolding track_summary
  not-read = go (track_section limits kind s start) e
    where
      go : (w : Walk Track) → answer (after w (λ t end. fine (track_of start t end) end)) ≡ declined why → w ≡ refused why
      go (fine t end) e = absurd (let z : ◌≡◌ {A = ℕ} 0 1 = cc in omega arith)
      go (refused other) e = cc

  not_found : (include_index : Bool) (k : ℕ) → locate limits kind include_index k s start ≡ refused why
  unfolding locate
  not_found include_index k = rw not-read refl

pub camera-declined : (limits : Limits) (s : List ℕ) (start : ℕ) (why : Refusal) → track_summary limits Kind.Camera s start ≡ declined why → RecordsDeclined why (λ include_index k. camera_keyframe limits include_index k s start)
camera-declined limits s start why e =
    record { every = λ include_index k. declined-found _ _ _ s why (not_found limits Kind.Camera s start why e include_index k) }

pub light-declined : (limits : Limits) (s : List ℕ) (start : ℕ) (why : Refusal) → track_summary limits Kind.Light s start ≡ declined why → RecordsDeclined why (λ include_index k. light_keyframe limits include_index k s start)
light-declined limits s start why e =
    record { every = λ include_index k. declined-found _ _ _ s why (not_found limits Kind.Light s start why e include_index k) }

-- Refusal 16, which no program of the tests can be lent enough bytes for.
pub track-too-long : (kind : Kind) (s : List ℕ) (start : ℕ) → 16777215 < length s → track_summary edition1 kind s start ≡ declined (refusal too_long [])
unfolding track_summary track_section
track-too-long kind s start long = rw (lt-ltb 16777215 (length s) long)
