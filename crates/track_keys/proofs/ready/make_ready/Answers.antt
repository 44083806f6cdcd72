-- A refusal of the walk or of the initial record's key is what the track meets. Else the list is as it was before its first repeat was
-- looked for, so it holds the chain, and the track is ready (KeysReady). Assumes nothing.
use native.Mathlib.Omega.{arith}
use lib.Seq.{length-take-le}
use Rattle.std.proofs.Common.{sym}
use Rattle.track_keys.proofs.ListedChain.{listed-ends}
use Rattle.track_keys.proofs.Meets.{chain-meets}
use Rattle.track_keys.proofs.KeysReady.{refused-on, front-same, keys-ready, keys-refused}
use Rattle.track_keys.proofs.ready.make_ready.Goals as goal

pub returns-in_err-records : goal.returns-in_err-records
returns-in_err-records c = refused-on _ _ _ _ _ _ c.from_residual.ensures (chain-meets _ _ _ _ (sym c.in_err-records.ensures.result_after))

pub invariant_of-chain : goal.invariant_of-chain
invariant_of-chain c = record { is_track = c.requires.is_track; ends = listed-ends _ _ _ _ _ (sym c.in_ok-records.ensures.result_after) c.args.indexed.now.ordered c.requires.is_track.below }

pub returns-in_err-initial_key : goal.returns-in_err-initial_key
returns-in_err-initial_key c = refused-on _ _ _ _ _ _ c.from_residual-in_err-initial_key.ensures (keys-refused c.args.indexed.now.ordered _ c.requires.is_track.below _ _ _ (sym c.in_ok-records.ensures.result_after) (front-same _ _ _ c.first_repeated_frame-again.ensures.list_unchanged) _ c.in_err-initial_key.ensures)

pub returns : goal.returns
returns c = keys-ready c.args.indexed.now.ordered _ c.requires.is_track.below _ _ _ (sym c.in_ok-records.ensures.result_after) (front-same _ _ _ c.first_repeated_frame-again.ensures.list_unchanged) _ c.in_ok-records.ensures.result_bound (length-take-le _ _ (omega (arith, c.in_ok-records.ensures.result_bound, c.walk.auto.list, c.requires.count_in_bounds))) c.first_repeated_frame-again.ensures.first_repeat c.in_ok-initial_key.ensures
