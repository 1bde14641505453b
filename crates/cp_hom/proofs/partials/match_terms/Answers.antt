use Rattle.cp_hom.proofs.Images.{term_found}
use Rattle.cp_hom.proofs.partials.match_terms.Goals as goal

pub returns-in-Some : goal.returns-in-Some
returns-in-Some c =
    term_found c.args.given.placements.items c.args.from.now c.args.to.now c.args.given.values c.in-Some.values (rw c.in-Some.is at c.in_ok-values.ensures.some)
