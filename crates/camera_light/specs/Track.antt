-- Document 01 (FORMAT, A model section): "Camera section: initial record, count, additional records, 37 skipped bytes of state. Light
-- section: the same with 24."
use Rattle.std.specs.Prelude.{ℕ, Bool, cond, List, [], ltb, length}
use Rattle.layout.specs.Refusals.{too_long}
use Rattle.layout.specs.Walk.{Walk, fine, refused, refusal, Reader, ◌>>=◌, ◌>>◌, give, here, after, block, unlimited, Answer, answer}
use Rattle.layout.specs.Records.{initial, additional, camera, light}
use Rattle.section.specs.declared.limits.Limits.{Limits}
use Rattle.section.specs.Model.{keyframes}
use Rattle.entries.specs.Lists.{Listed, listed, entry_at}
use Rattle.camera_light.specs.declared.track.{Kind.{Kind}, Track.{Track}, PmmDocumentTrackSummary.{PmmDocumentTrackSummary}}

-- What follows the base of a record of this kind, and the bytes of state.
abbrev pub items_of : Kind → List ℕ
items_of Kind.Camera = camera
items_of Kind.Light = light

abbrev pub state_of : Kind → ℕ
state_of Kind.Camera = 37
state_of Kind.Light = 24

unfoldable pub track_parts : Kind → Reader Track
track_parts kind = do
  k ← keyframes 1 (initial (items_of kind)) (additional (items_of kind)) unlimited
  state ← here
  block (state_of kind)
  give (record { keyframes = k; state_offset = state })

-- 16 is tested first.
unfoldable pub track_section : Limits → Kind → Reader Track
track_section limits kind s start = cond (ltb limits.bytes (length s)) (refused (refusal too_long [])) (track_parts kind s start)

unfoldable pub track_of : ℕ → Track → ℕ → PmmDocumentTrackSummary
track_of start t end =
    record {
      offset = start;
      offset_end = end;
      initial_keyframes = 1;
      keyframes = t.keyframes.count;
      keyframe_count_offset = t.keyframes.count_offset;
      keyframes_offset = t.keyframes.offset;
      keyframes_end_offset = t.keyframes.end_offset;
      state_offset = t.state_offset;
      state_end_offset = end;
    }

unfoldable pub track_summary : Limits → Kind → List ℕ → ℕ → Answer PmmDocumentTrackSummary
track_summary limits kind s start = answer (after (track_section limits kind s start) (λ t end. fine (track_of start t end) end))

-- Additional records include an index; there is one initial record.
unfoldable pub track_entries : Kind → Bool → Track → Listed
track_entries kind include_index t =
    cond include_index (listed t.keyframes.count t.keyframes.offset (additional (items_of kind)))
    (listed 1 t.keyframes.initial_offset (initial (items_of kind)))

-- The section, at the offset of record k.
unfoldable pub locate : Limits → Kind → Bool → ℕ → List ℕ → ℕ → Walk Track
locate limits kind include_index k s start =
    after (track_section limits kind s start)
    (λ t end. after (entry_at (track_entries kind include_index t) k s) (λ u at. fine t at))
