-- Every case of a section is as its table says, by computation. Assumes nothing.
use mathlib.Core.Path.{refl}
use lib.Ieee.{span, climb, size, odd, units, round, sum, add, mul, lt, eq, le, of_fields, of_bits, to_bits}
use Rattle.layout.specs.Walk.{item, string, times, count, items, before_zero, entry_of}
use Rattle.layout.specs.Records as Table
use Rattle.binary.specs.Groups.{u32s}
use Rattle.section.specs.Model.{opening, names, counted_block, counts, view, scroll, front, keyframes, keyframe_blocks, states, ending, model_parts, model_section}
use Rattle.section.specs.Summary.{sections_of, summary_of, model_summary}
use Rattle.records.specs.Base.{base_bits, base_of, span_of}
use Rattle.records.specs.Pose.{pose_bits, pose_of}
use Rattle.records.specs.Keyframes.{bone_bits, bone_of, morph_bits, morph_of, model_bits, model_of}
use Rattle.records.specs.States as Record
use Rattle.entries.specs.Lists.{entries_of, entry_at, locate}
use Rattle.entries.specs.Texts.{name_at, text_at, text_of}
use Rattle.entries.specs.ModelLists.{flag_bits, pair_bits, pair_of}
use Rattle.camera_light.specs.Track.{track_parts, track_section, track_of, track_summary, track_entries, locate as locate_record}
use Rattle.camera_light.specs.Camera.{view_bits, lens_bits, camera_bits, offsets_of, camera_of}
use Rattle.camera_light.specs.Light.{light_bits, light_of}
use Rattle.answer_numbers.specs.Summary as Summary
use Rattle.answer_numbers.specs.Keyframes as Keyframes
use Rattle.answer_numbers.specs.States as States
use Rattle.answer_numbers.specs.Tracks as Tracks
use Rattle.answer_numbers.specs.Groups.{base, vector, orientation, pose, span as span_numbers}
use Rattle.answer_cases.specs.{Equal.{Equal}, Summary.{summaries}, Records.{bones, morphs, models}, Lists.{states as state_cases, model_lists}, Texts.{spans, parts}, CameraLight.{tracks, cameras, lights}, Floats.{floats}, Refusals.{places, numbers}}

pub read : Equal summaries × Equal bones × Equal morphs × Equal models × Equal state_cases × Equal model_lists × Equal spans × Equal parts × Equal tracks × Equal cameras × Equal lights × Equal floats × Equal places × Equal numbers
unfolding item string times count items before_zero entry_of Table.size u32s opening names counted_block counts view scroll front keyframes keyframe_blocks states ending model_parts model_section sections_of summary_of model_summary base_bits base_of span_of pose_bits pose_of bone_bits bone_of morph_bits morph_of model_bits model_of Record.bone_state Record.bone_state_of Record.morph_state_of Record.parent_state_of entries_of entry_at locate name_at text_at text_of flag_bits pair_bits pair_of track_parts track_section track_of track_summary track_entries locate_record view_bits lens_bits camera_bits offsets_of camera_of light_bits light_of Summary.places Summary.view Summary.selected Summary.counts Summary.ending Summary.scalars Summary.record_offsets Summary.state_offsets Summary.offsets Summary.model_summary Keyframes.bone_flags Keyframes.bone Keyframes.morph_fields Keyframes.morph Keyframes.model_fields Keyframes.model States.bone_state_flags States.bone_state States.morph_state States.flag States.pair States.outside_parent Tracks.track_summary Tracks.camera_view Tracks.camera_fields Tracks.camera_offsets Tracks.camera_rest Tracks.camera Tracks.light_fields Tracks.light base vector orientation pose span_numbers span climb size odd units round sum add mul lt eq le of_fields of_bits to_bits
read = (
  (refl, tt),
  (refl, (refl, (refl, (refl, (refl, (refl, tt)))))),
  (refl, (refl, (refl, tt))),
  (refl, (refl, (refl, tt))),
  (refl, (refl, (refl, (refl, (refl, (refl, (refl, (refl, (refl, (refl, tt)))))))))),
  (refl, (refl, (refl, (refl, (refl, (refl, tt)))))),
  (refl, (refl, (refl, (refl, (refl, (refl, (refl, tt))))))),
  (refl, (refl, (refl, (refl, (refl, (refl, (refl, (refl, tt)))))))),
  (refl, (refl, (refl, tt))),
  (refl, (refl, (refl, (refl, (refl, tt))))),
  (refl, (refl, (refl, tt))),
  (refl, (refl, (refl, (refl, (refl, (refl, (refl, (refl, tt)))))))),
  (refl, (refl, (refl, (refl, (refl, (refl, (refl, (refl, (refl, (refl, (refl, (refl, (refl, (refl, tt)))))))))))))),
  (refl, (refl, (refl, (refl, (refl, (refl, tt)))))),
)
