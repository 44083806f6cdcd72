use Rattle.listing_lines.specs.Listing.{listing}
use Rattle.listing_lines.proofs.Behind.{behind}
use Rattle.listing_lines.proofs.section_lines.write_listing.Goals as goal

pub returns : goal.returns
unfolding listing
returns c contents reads =
    behind (behind c.write_model-behind.ensures (c.write_keys-behind_keys.ensures.writes contents reads))
    (rw (c.requires contents reads) at c.write_count.ensures)
