use Rattle.std.proofs.Common.{refl}
use Rattle.std.proofs.lemmas.Result.{err_from_is_err_and}
use Rattle.strip_reader.specs.Answers.{reader_refusal}
use Rattle.strip_reader.proofs.AllRows.{keys-refused, bones-read, morphs-read, keys-put}
use Rattle.strip_reader.proofs.all_keys.keys.Goals as goal

pub returns-in_err-counts : goal.returns-in_err-counts
returns-in_err-counts c =
    let p = err_from_is_err_and c.from_residual.result c.from_residual.ensures.1 in
    rw (p.1, p.2) (keys-refused c.args.strip.now c.args.first c.args.rows.now c.in_err-counts.field-0.0 c.in_err-counts.ensures)

pub returns-in_err-bones : goal.returns-in_err-bones
returns-in_err-bones c =
    bones-read c.args.strip.now c.in_ok-counts.counts c.in_ok-counts.ensures (reader_refusal c.in_err-bones.field-0.0) c.in_err-bones.ensures.is

pub returns-in_err-morphs : goal.returns-in_err-morphs
returns-in_err-morphs c =
    morphs-read c.args.strip.now c.in_ok-counts.counts c.in_ok-counts.ensures c.args.first c.args.rows.now _ c.in_ok-bones.bones c.put_tracks.new.slice c.in_ok-bones.ensures.is (reader_refusal c.in_err-morphs.field-0.0) c.in_err-morphs.ensures.is

pub returns : goal.returns
returns c =
    keys-put c.args.strip.now c.in_ok-counts.counts c.in_ok-counts.ensures c.args.first c.args.rows.now _ c.in_ok-bones.bones c.put_tracks.new.slice c.in_ok-bones.ensures.is c.in_ok-morphs.morphs c.put_tracks-2.new.slice c.in_ok-morphs.ensures.is refl
