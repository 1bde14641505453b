use Rattle.cp_unify.proofs.KnownMatches.{known_same, known_never}
use Rattle.cp_unify.proofs.known.known_match.Goals as goal

pub returns-clause-same : goal.returns-clause-same
returns-clause-same c = known_same c.args.pattern.now c.args.term.now c.args.given.now c.known.result c.known.ensures

pub returns-clause-never : goal.returns-clause-never
returns-clause-never c = known_never c.args.pattern.now c.args.term.now c.args.given.now c.known.result c.known.ensures
