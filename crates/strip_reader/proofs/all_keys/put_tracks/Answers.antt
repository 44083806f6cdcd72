use Rattle.std.proofs.Common.{arith}
use Rattle.std.proofs.lemmas.Result.{err_from_is_err_and}
use Rattle.blocks.specs.Kind.{kind_of}
use Rattle.strip_reader.proofs.RowsWritten.{tracks-begin, tracks-stop, tracks-more, tracks-done}
use Rattle.strip_reader.proofs.all_keys.put_tracks.Goals as goal

pub tracks-init : goal.tracks-init
tracks-init c =
    let a = c.args in
    record { along = tracks-begin (kind_of a.kind) a.count a.first a.strip.now a.from a.slice.now; within = omega arith }

pub put_track-requires : goal.put_track-requires
put_track-requires c = let w = c.tracks.invariant.within in omega (arith, w)

pub returns-in_err-reached-clause-is : goal.returns-in_err-reached-clause-is
returns-in_err-reached-clause-is c =
    let p = err_from_is_err_and c.from_residual.result c.from_residual.ensures.1 in
    let a = c.args in
    rw (p.1, p.2) (tracks-stop (kind_of a.kind) a.count a.first a.strip.now a.from a.slice.now c.tracks.reached c.tracks.track c.tracks.slice c.tracks.invariant.along c.tracks-test.true c.in_err-reached.field-0.0 c.in_err-reached.ensures.is)

pub tracks-preserved : goal.tracks-preserved
tracks-preserved c =
    let a = c.args in
    record {
      along = tracks-more (kind_of a.kind) a.count a.first a.strip.now a.from a.slice.now c.tracks.reached c.tracks.track c.tracks.slice c.tracks.invariant.along c.tracks-test.true c.in_ok-reached.reached c.put_track.new.slice c.in_ok-reached.ensures.is;
      within = (let w = c.tracks.invariant.within in omega (arith, w, c.in_ok-reached.ensures.within));
    }

pub returns-clause-is : goal.returns-clause-is
returns-clause-is c =
    let a = c.args in
    tracks-done (kind_of a.kind) a.count a.first a.strip.now a.from a.slice.now c.tracks.reached c.tracks.track c.tracks.slice c.tracks.invariant.along c.tracks-test.false c.tracks.auto.track-end

pub returns-clause-within : goal.returns-clause-within
returns-clause-within c = let w = c.tracks.invariant.within in omega (arith, w, c.tracks.auto.track-end)
