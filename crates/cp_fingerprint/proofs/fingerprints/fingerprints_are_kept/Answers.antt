use Rattle.cp_fingerprint.proofs.NoMore.{embedded_has_no_more, isomorphic_alike}
use Rattle.cp_fingerprint.proofs.RolesByPlace.{placed_exactly, places_compare}
use Rattle.cp_fingerprint.proofs.fingerprints.fingerprints_are_kept.Goals as goal

pub returns : goal.returns
returns c = record { embeds = embedded_has_no_more; isomorphic = isomorphic_alike; places = placed_exactly; places_tell = places_compare }
