-- What the entries of src/lists.rt stand for.
use Rattle.binary.specs.Items.{widths}
use Rattle.entries.specs.Lists.{Listed, listed}
use Rattle.entries.specs.declared.lists.Entries.{Entries}

abbrev pub listing : Entries → Listed
listing e = listed e.count e.offset (widths e.items)
