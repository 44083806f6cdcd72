use Rattle.strip_reader.proofs.TrackFound.{morphs-found}
use Rattle.strip_reader.proofs.track.find_morphs.Goals as goal

pub returns-in-Some : goal.returns-in-Some
returns-in-Some c = morphs-found _ _ c.requires c.skip_tracks.result c.skip_tracks.ensures c.in-Some.at c.args.number c.find_of_kind.result c.in-Some.is c.find_of_kind.ensures
