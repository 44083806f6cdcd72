-- A morph key is answered as its value exactly if it meets nothing (OneKey); so its two cases are those of what is met. Assumes nothing.
use Rattle.std.proofs.Common.{sym}
use Rattle.track_keys.proofs.OneKey.{key-fine, key-refused}
use Rattle.track_keys.proofs.key.key.Goals as goal

pub returns-in-Key : goal.returns-in-Key
returns-in-Key c = rw (sym c.requires, c.in-Morph.is) (key-fine c.args.key.now.section.now c.in-Morph.morph.0 c.args.key.now.frame c.args.key.now.at c.args.repeated c.in-Key.ensures)

pub returns-in-Refused : goal.returns-in-Refused
returns-in-Refused c = rw (sym c.requires, c.in-Morph.is) (key-refused c.args.key.now.section.now c.in-Morph.morph.0 c.args.key.now.frame c.args.key.now.at c.args.repeated c.in-Refused.ensures)
