use Rattle.std.proofs.Common.{List, sym, ap, subst₂, ◌∙◌}
use Rattle.cp_model.specs.declared.variable.Declaration.{Declaration}
use Rattle.cp_model.specs.declared.node.OrderPair.{OrderPair}
use Rattle.cp_model.specs.Skeleton.{Skeleton, skeleton_of}
use Rattle.cp_skel.specs.Sound.{IsSound}
use Rattle.cp_collapse.specs.MergedParts.{with_listed}
use Rattle.cp_collapse.proofs.merged_skeletons.of_parts.Goals as goal

pub new-skeleton-requires : goal.new-skeleton-requires
new-skeleton-requires c =
    subst₂ (λ (vs : List Declaration) (ps : List OrderPair). IsSound (skeleton_of vs c.args.parts.strands.items ps c.args.parts.assumptions c.args.parts.from_problem))
    (sym (c.in_ok-variables.ensures ∙ c.variables.ensures)) (sym c.in_ok-order.ensures) c.requires

pub returns-clause-skeleton : goal.returns-clause-skeleton
returns-clause-skeleton c =
    c.in_ok-list_assumptions.ensures.listed
    ∙ ap (λ (k : Skeleton). with_listed k) c.new-skeleton.ensures
    ∙ ap (λ (ps : List OrderPair). with_listed (skeleton_of c.in_ok-variables.variables c.args.parts.strands.items ps c.args.parts.assumptions c.args.parts.from_problem))
    c.in_ok-order.ensures
    ∙ ap (λ (vs : List Declaration). with_listed (skeleton_of vs c.args.parts.strands.items c.args.parts.pairs.items c.args.parts.assumptions c.args.parts.from_problem))
    (c.in_ok-variables.ensures ∙ c.variables.ensures)

pub returns-clause-variables : goal.returns-clause-variables
returns-clause-variables c = c.in_ok-list_assumptions.ensures.variables ∙ ap (λ (k : Skeleton). k.variables) c.new-skeleton.ensures ∙ (c.in_ok-variables.ensures ∙ c.variables.ensures)
