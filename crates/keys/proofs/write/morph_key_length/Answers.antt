-- The weight is plain by its value. Assumes nothing.
use Rattle.std.proofs.Common.{rules}
use Rattle.strip.proofs.Bytes.{length-little_endian}
use Rattle.keys.proofs.Lengths.{morph-length-is}
use Rattle.keys.proofs.Weights.{weight-plain}
use Rattle.keys.proofs.write.morph_key_length.Goals as goal

pub returns : goal.returns
returns c = rw (c.unless-fields.ensures, weight-plain c.args.weight (search rules)) (morph-length-is 0 _ (length-little_endian 4 _))
