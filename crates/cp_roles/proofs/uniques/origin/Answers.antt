use Rattle.cp_roles.proofs.ExactOrigins.{exact-origin}
use Rattle.cp_roles.proofs.uniques.origin.Goals as goal

pub returns : goal.returns
returns c = exact-origin c.args.events.now c.args.value.now c.origin.result c.origin.ensures.some c.origin.ensures.none
