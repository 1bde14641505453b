use Rattle.std.proofs.lemmas.Result.{IfOk-weaker}
use Rattle.cp_term.proofs.PositionLaws.{part_found, paths_ordered}
use Rattle.cp_term.proofs.position.paths_of.Goals as goal

pub returns-clause-found : goal.returns-clause-found
returns-clause-found c = IfOk-weaker c.paths_where.result _ _ (λ v all. part_found _ _ _ all) c.paths_where.ensures

pub returns-clause-in_preorder : goal.returns-clause-in_preorder
returns-clause-in_preorder c =
    IfOk-weaker c.paths_where.result _ _ (λ v all. paths_ordered c.args.part.now c.args.whole.now _ all) c.paths_where.ensures
