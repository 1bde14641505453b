use Rattle.cp_unify.proofs.Looked.{bound_same}
use Rattle.cp_unify.proofs.matcher.is_bound_to.Goals as goal

pub returns-in-Some : goal.returns-in-Some
returns-in-Some c = bound_same _ c.in-Some.found.now c.args.term.now c.same.result c.in-Some.ensures.exact c.same.ensures
