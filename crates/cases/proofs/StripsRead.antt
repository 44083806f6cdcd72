-- Every case of specs/StripsRead, by computation. Assumes nothing.
use mathlib.Core.Path.{refl}
use lib.Ieee.{span, size, sum, add, mul, eq, le, of_fields, of_bits}
use Rattle.records.specs.Pose.{pose_of}
use Rattle.clip.specs.First.{member}
use Rattle.clip.specs.Keys.{squared_length, translation_fails, orientation_fails, pose_asked, weight_asked}
use Rattle.strip.specs.Plain.{plain_float, plain_floats, plain_bytes, floats}
use Rattle.strip.specs.Numbers.{little_endian, number_of}
use Rattle.strip.specs.Keys.{map_byte}
use Rattle.strip_reader.specs.Front.{bytes, number as number_read}
use Rattle.strip_reader.specs.Key.{bone_refused, morph_refused, fields, not_of_builder, key}
use Rattle.strip_reader.specs.Read.{keys as keys_read, track, tracks, contents, read_strip}
use Rattle.section.specs.Limits.{edition1}
use Rattle.cases.specs.StripsRead.{HoldStrips, orders, reads, small_limits, limited}

pub strips_hold : HoldStrips edition1 orders × HoldStrips edition1 reads × HoldStrips small_limits limited
unfolding member pose_of squared_length translation_fails orientation_fails pose_asked weight_asked plain_float plain_floats plain_bytes little_endian map_byte span size sum add mul eq le of_fields of_bits floats number_of bytes number_read bone_refused morph_refused fields not_of_builder key keys_read track tracks contents read_strip
strips_hold = ((refl, (refl, (refl, (refl, (refl, (refl, (refl, (refl, tt)))))))), (refl, (refl, (refl, (refl, (refl, (refl, (refl, (refl, (refl, (refl, (refl, (refl, (refl, (refl, (refl, (refl, tt)))))))))))))))), (refl, (refl, (refl, (refl, tt)))))
