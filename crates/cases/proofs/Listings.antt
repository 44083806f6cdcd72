-- Every case of specs/Listings, by computation. Assumes nothing.
use mathlib.Core.Path.{refl}
use lib.Ieee.{span, size, units, round, sum, add, mul, lt, eq, le, of_fields, of_bits}
use Rattle.layout.specs.Walk.{item, string, times, count, items, bytes_at}
use Rattle.layout.specs.Records as Table
use Rattle.binary.specs.Groups.{u32s}
use Rattle.records.specs.Pose.{pose_of}
use Rattle.section.specs.Model.{opening, names, counted_block, counts, view, scroll, front, keyframes, keyframe_blocks, states, ending, model_parts, model_section}
use Rattle.clip.specs.First.{first_met, number, member, total, any}
use Rattle.clip.specs.Scan.{scan, index_refusal, record_of}
use Rattle.clip.specs.Chain.{follow, chain}
use Rattle.clip.specs.Keys.{key_test, squared_length, translation_fails, orientation_fails, pose_asked, weight_asked}
use Rattle.clip.specs.Build.{chain_of, keys, disconnected, links_followed, loose, records_refusal, track_refusal, build_refusal, reached_before}
use Rattle.clip.specs.Section.{bone_body, morph_body, initial_at, records_at, bones, morphs, clip_refusal, reached_records, loose_records, additional_at}
use Rattle.strip.specs.Plain.{plain_float, plain_floats, plain_bytes, floats}
use Rattle.strip.specs.Numbers.{little_endian, number_of}
use Rattle.strip.specs.Keys.{map_byte, present, key_bytes}
use Rattle.strip.specs.Strip.{keys_bytes, track_bytes, tracks_bytes, strip_bytes, clip_contents, strip_of}
use Rattle.strip.specs.Work.{each, by_index, first_work, second_work, inserted, track_mark}
use Rattle.strip.specs.Call.{strip_call}
use Rattle.strip_reader.specs.Front.{bytes, number as number_read}
use Rattle.strip_reader.specs.Key.{bone_refused, morph_refused, fields, not_of_builder, key}
use Rattle.strip_reader.specs.Read.{keys as keys_read, track, tracks, contents, read_strip}
use Rattle.section.specs.Summary.{sections_of, summary_of, model_summary}
use Rattle.std.specs.Fmt.{digits}
use Rattle.listing_lines.specs.Lines.{model_line, key_line, count_line, refused_line, track_lines, kind_lines, key_lines, keys_in, all_keys}
use Rattle.listing_lines.specs.Listing.{listing, section_listing}
use Rattle.answer_cases.specs.Equal.{Equal}
use Rattle.cases.specs.Listings.{listings}

pub listings_hold : Equal listings
unfolding item string times count items opening names counted_block counts u32s view scroll front keyframes keyframe_blocks states ending model_parts model_section first_met number member total scan follow chain pose_of key_test squared_length translation_fails orientation_fails pose_asked weight_asked chain_of keys disconnected links_followed loose records_refusal track_refusal build_refusal bytes_at bone_body morph_body initial_at records_at bones morphs clip_refusal reached_records loose_records plain_float plain_floats plain_bytes little_endian map_byte present key_bytes keys_bytes track_bytes tracks_bytes strip_bytes clip_contents strip_of each by_index first_work second_work strip_call Table.size span size units round sum add mul lt eq le of_fields of_bits any index_refusal record_of reached_before additional_at inserted track_mark floats number_of bytes number_read bone_refused morph_refused fields not_of_builder key keys_read track tracks contents read_strip sections_of summary_of model_summary digits model_line key_line count_line refused_line track_lines kind_lines key_lines keys_in all_keys listing section_listing
listings_hold = (refl, (refl, (refl, (refl, (refl, tt)))))
