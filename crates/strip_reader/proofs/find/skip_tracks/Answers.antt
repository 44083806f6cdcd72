use Rattle.strip_reader.proofs.Found.{one-track_passed, no-more_tracks}
use Rattle.strip_reader.proofs.find.skip_tracks.Goals as goal

pub returns-in-None : goal.returns-in-None
returns-in-None c = no-more_tracks _ _ c.args.at c.args.count c.tracks.counter c.tracks.next c.tracks.invariant c.tracks-test.true c.in-None.ensures

pub tracks-preserved : goal.tracks-preserved
tracks-preserved c = one-track_passed _ _ c.args.at c.tracks.counter c.tracks.next c.in-Some.behind c.tracks.invariant c.in-Some.ensures
