-- Every case of specs/Refusals, by computation. Assumes nothing.
use mathlib.Core.Path.{refl}
use lib.Ieee.{span, size, units, round, sum, add, mul, lt, le, of_fields, of_bits}
use Rattle.layout.specs.Walk.{item, string, times, count, items, bytes_at}
use Rattle.layout.specs.Records as Table
use Rattle.binary.specs.Groups.{u32s}
use Rattle.records.specs.Pose.{pose_of}
use Rattle.section.specs.Model.{opening, names, counted_block, counts, view, scroll, front, keyframes, keyframe_blocks, states, ending, model_parts, model_section}
use Rattle.clip.specs.First.{first_met, any, number, member}
use Rattle.clip.specs.Scan.{index_refusal, scan, record_of}
use Rattle.clip.specs.Chain.{follow, chain}
use Rattle.clip.specs.Keys.{key_test, squared_length, translation_fails, orientation_fails, pose_asked, weight_asked}
use Rattle.clip.specs.Build.{chain_of, keys, reached_before, disconnected, records_refusal, track_refusal, build_refusal}
use Rattle.clip.specs.Section.{bone_body, morph_body, initial_at, additional_at, records_at, bones, morphs, clip_refusal}
use Rattle.strip.specs.Call.{strip_call}
use Rattle.cases.specs.Case.{Hold}
use Rattle.cases.specs.Refusals.{refusals}

pub refusals_hold : Hold refusals
unfolding item string times count items opening names counted_block counts u32s view scroll front keyframes keyframe_blocks states ending model_parts model_section first_met any number member index_refusal scan record_of follow chain pose_of key_test squared_length translation_fails orientation_fails pose_asked weight_asked chain_of keys reached_before disconnected records_refusal track_refusal build_refusal bytes_at bone_body morph_body initial_at additional_at records_at bones morphs clip_refusal strip_call Table.size span size units round sum add mul lt le of_fields of_bits
refusals_hold = (refl, (refl, (refl, (refl, (refl, (refl, (refl, tt)))))))
