use Rattle.std.proofs.Common.{ap, ◌∙◌}
use Rattle.listing_lines.specs.{Lines.{refused_line}, Listing.{section_listed, section_listing}}
use Rattle.listing_lines.proofs.Behind.{same-text}
use Rattle.listing_lines.proofs.section_lines.write_section.Goals as goal

pub returns-in-Ok : goal.returns-in-Ok
unfolding section_listing
returns-in-Ok c = same-text (ap (section_listed _) c.in-Ok.ensures) c.write_called.ensures

pub returns-in-Err : goal.returns-in-Err
unfolding section_listing
returns-in-Err c =
    same-text (ap refused_line (c.from.ensures ∙ c.number.ensures) ∙ ap (section_listed _) c.in-Err.ensures) c.write_refused.ensures
