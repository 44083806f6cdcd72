use Rattle.std.proofs.Common.{refl, sym, ap, ◌∙◌}
use Rattle.clip.proofs.Follow.{answer-is}
use Rattle.listing_lines.specs.{Lines.{all_keys, refused_line}, Listing.{strip_listed}}
use Rattle.listing_lines.proofs.{Behind.{same-text}, StripRead.{found, refused}}
use Rattle.listing_lines.proofs.section_lines.write_strip.Goals as goal

pub write_listing-requires : goal.write_listing-requires
write_listing-requires c contents reads =
    let f = found c.in-Ok.count _ c.in-Ok.ensures refl in
    f.2 ∙ ap all_keys (answer-is (sym f.1 ∙ reads))

pub returns-in-Ok : goal.returns-in-Ok
returns-in-Ok c =
    let f = found c.in-Ok.count _ c.in-Ok.ensures refl in
    same-text (sym (ap (strip_listed c.args.m.now c.args.loose) f.1)) (c.write_listing.ensures f.0 f.1)

pub returns-in-Err : goal.returns-in-Err
returns-in-Err c =
    let f = refused c.in-Err.why _ c.in-Err.ensures refl in
    same-text (ap refused_line (c.from.ensures ∙ c.number.ensures) ∙ sym (ap (strip_listed c.args.m.now c.args.loose) f)) c.write_refused.ensures
