use Rattle.strip_reader.proofs.JudgedTracks.{more, track-stops, finished}
use Rattle.strip_reader.proofs.judge.judge_tracks.Goals as goal

pub returns-in-Err : goal.returns-in-Err
returns-in-Err c = track-stops _ _ _ _ _ _ _ c.tracks.invariant c.tracks-test.true c.tracks.space c.args.space.now c.tracks.auto.space c.in-Err.why c.in-Err.ensures

pub tracks-preserved : goal.tracks-preserved
tracks-preserved c = more _ _ _ _ _ _ _ c.tracks.invariant c.tracks-test.true c.in-Ok.sum c.in-Ok.behind c.in-Ok.ensures

pub returns : goal.returns
returns c = finished _ _ _ _ _ _ _ c.tracks.invariant c.tracks-test.false c.tracks.auto.counter-end
