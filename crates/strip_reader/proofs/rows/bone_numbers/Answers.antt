use Rattle.std.proofs.Common.{rules}
use Rattle.strip_reader.proofs.RowNumbers.{bone-numbers}
use Rattle.strip_reader.proofs.rows.bone_numbers.Goals as goal

pub returns : goal.returns
returns c =
    let k = c.args.key in
    bone-numbers k.frame k.map k.pose_bits.translation k.pose_bits.orientation k.curves _ _ _ _ _ (search rules) (search rules) (search rules) (search rules)
    c.curve_number.ensures c.curve_number-2.ensures c.curve_number-3.ensures c.curve_number-4.ensures
