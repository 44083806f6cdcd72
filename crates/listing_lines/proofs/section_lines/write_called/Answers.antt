use Rattle.std.proofs.Common.{arith, length-take}
use Rattle.listing_lines.proofs.StripFits.{strip-fits}
use Rattle.listing_lines.proofs.section_lines.write_called.Goals as goal

pub slice_bounds-write_strip-end : goal.slice_bounds-write_strip-end
slice_bounds-write_strip-end c = strip-fits _ c.in-Ok.ensures

pub slice_bounds-write_strip-end-in-Ok : goal.slice_bounds-write_strip-end-in-Ok
slice_bounds-write_strip-end-in-Ok c =
    let fits = strip-fits _ c.in-Ok.ensures in
    omega (arith, length-take c.in-Ok.built.strip_length c.strip.new.output)
