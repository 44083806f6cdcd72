-- Every case of specs/Chains, by computation. Assumes nothing.
use mathlib.Core.Path.{refl}
use lib.Ieee.{span, size, units, round, sum, add, mul, lt, eq, le, of_fields, of_bits}
use Rattle.layout.specs.Walk.{item, string, times, count, items, bytes_at}
use Rattle.layout.specs.Records as Table
use Rattle.binary.specs.Groups.{u32s}
use Rattle.records.specs.Pose.{pose_of}
use Rattle.section.specs.Model.{opening, names, counted_block, counts, view, scroll, front, keyframes, keyframe_blocks, states, ending, model_parts, model_section}
use Rattle.clip.specs.First.{first_met, any, number, member, total}
use Rattle.clip.specs.Scan.{index_refusal, scan, record_of}
use Rattle.clip.specs.Chain.{follow, chain}
use Rattle.clip.specs.Keys.{key_test, squared_length, translation_fails, orientation_fails, pose_asked}
use Rattle.clip.specs.Build.{chain_of, keys, reached_before, disconnected, links_followed, loose, records_refusal, track_refusal, build_refusal}
use Rattle.clip.specs.Section.{bone_body, initial_at, additional_at, records_at, bones, morphs, clip_refusal, reached_records, loose_records}
use Rattle.strip.specs.Plain.{plain_float, plain_floats, plain_bytes}
use Rattle.strip.specs.Numbers.{little_endian}
use Rattle.strip.specs.Keys.{map_byte, present, key_bytes}
use Rattle.strip.specs.Strip.{keys_bytes, track_bytes, tracks_bytes, strip_bytes, clip_contents, strip_of}
use Rattle.strip.specs.Work.{each, inserted, by_index, track_mark, first_work, second_work}
use Rattle.strip.specs.Call.{strip_call}
use Rattle.cases.specs.Case.{Hold}
use Rattle.cases.specs.Chains.{chains}

pub chains_hold : Hold chains
unfolding item string times count items opening names counted_block counts u32s view scroll front keyframes keyframe_blocks states ending model_parts model_section first_met any number member total index_refusal scan record_of follow chain pose_of key_test squared_length translation_fails orientation_fails pose_asked chain_of keys reached_before disconnected links_followed loose records_refusal track_refusal build_refusal bytes_at bone_body initial_at additional_at records_at bones morphs clip_refusal reached_records loose_records plain_float plain_floats plain_bytes little_endian map_byte present key_bytes keys_bytes track_bytes tracks_bytes strip_bytes clip_contents strip_of each inserted by_index track_mark first_work second_work strip_call Table.size span size units round sum add mul lt eq le of_fields of_bits
chains_hold = (refl, (refl, (refl, (refl, tt))))
