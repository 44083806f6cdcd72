-- Document 01 (FORMAT, Records): "A pose is three translation floats and four orientation floats."
use Rattle.std.specs.Prelude.{slice_index}
use Rattle.layout.specs.{Numbers.{float}, Walk.{Reader, ◌>>=◌, give}}
use Rattle.binary.specs.Groups.{u32s}
use Rattle.records.specs.declared.pose.{PoseBits.{PoseBits}, Pose.{Pose}}

unfoldable pub pose_bits : Reader PoseBits
pose_bits = do
  translation ← u32s 3
  orientation ← u32s 4
  give (record { translation = translation; orientation = orientation })

unfoldable pub pose_of : PoseBits → Pose
pose_of b =
    record {
      translation_x = float (slice_index b.translation 0);
      translation_y = float (slice_index b.translation 1);
      translation_z = float (slice_index b.translation 2);
      orientation_x = float (slice_index b.orientation 0);
      orientation_y = float (slice_index b.orientation 1);
      orientation_z = float (slice_index b.orientation 2);
      orientation_w = float (slice_index b.orientation 3);
    }
