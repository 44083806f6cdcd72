use Rattle.std.proofs.Common.{refl}
use Rattle.std.proofs.lemmas.Result.{err_from_is_err_and}
use Rattle.blocks.specs.Kind.{kind_of}
use Rattle.strip_reader.proofs.RowsWritten.{no-count, keys-begin, keys-stop, keys-more, keys-done}
use Rattle.strip_reader.proofs.all_keys.put_track.Goals as goal

pub returns-in_err-count-clause-is : goal.returns-in_err-count-clause-is
returns-in_err-count-clause-is c =
    let p = err_from_is_err_and c.from_residual.result c.from_residual.ensures.1 in
    let a = c.args in
    rw (p.1, p.2) (no-count (kind_of a.kind) a.track 0 a.first a.strip.now a.from a.slice.now c.in_err-count.field-0.0 c.in_err-count.ensures)

pub keys-init : goal.keys-init
keys-init c =
    let a = c.args in
    keys-begin (kind_of a.kind) a.track c.from-count.result a.first a.strip.now a.from a.slice.now c.in_ok-count.at (rw c.from-count.ensures c.in_ok-count.ensures)

pub returns-in_err-key-clause-is : goal.returns-in_err-key-clause-is
returns-in_err-key-clause-is c =
    let p = err_from_is_err_and c.from_residual-in_err-key.result c.from_residual-in_err-key.ensures.1 in
    let a = c.args in
    rw (p.1, p.2) (keys-stop (kind_of a.kind) a.track c.from-count.result a.first a.strip.now a.from a.slice.now c.keys.next c.keys.place c.keys.slice c.keys.invariant c.keys-test.true c.in_err-key.field-0.0 c.in_err-key.ensures)

pub keys-preserved : goal.keys-preserved
keys-preserved c =
    let a = c.args in
    keys-more (kind_of a.kind) a.track c.from-count.result a.first a.strip.now a.from a.slice.now c.keys.next c.keys.place c.keys.slice c.keys.invariant c.keys-test.true c.in_ok-key.key c.in_ok-key.behind c.put_row.new.rows c.in_ok-key.ensures (rw (← c.row.ensures) c.put_row.ensures)

pub returns-clause-is : goal.returns-clause-is
returns-clause-is c =
    let a = c.args in
    keys-done (kind_of a.kind) a.track c.from-count.result a.first a.strip.now a.from a.slice.now c.keys.next c.keys.place c.keys.slice c.keys.invariant c.keys-test.false c.keys.auto.place-end _ refl refl
