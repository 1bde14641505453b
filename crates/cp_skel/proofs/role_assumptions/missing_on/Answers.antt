use Rattle.std.proofs.Common.{rules, ◌≡◌, ◌∷◌, [], ap, ◌∙◌}
use Rattle.cp_lists.proofs.Collected.{if_mapped}
use Rattle.cp_model.specs.Bindings.{bindings_of}
use Rattle.cp_model.specs.GivenAssumptions.{with_given_from}
use Rattle.cp_model.specs.Skeleton.{SkeletonStrand}
use Rattle.cp_skel.specs.JoinedAssumptions.{joined_assumptions}
use Rattle.cp_skel.proofs.GivenParts.{given-adds}
use Rattle.cp_skel.proofs.StrandsGive.{none-missing}
use Rattle.cp_skel.proofs.role_assumptions.missing_on.Goals as goal

pub returns : goal.returns
returns c =
    let own = c.args.assumptions.now in
    let given = λ (k : SkeletonStrand). with_given_from c.args.number (k ∷ []) own in
    let before = ap (with_given_from c.args.number (c.args.strand.now ∷ [])) (ap (joined_assumptions own) c.none-missing.ensures ∙ none-missing own) in
    if_mapped c.add_lacking.result c.map.result (λ u more e k.
    let is : more ≡ c.add_lacking.new.self = search rules in
    λ i same. given-adds i.role i.height (bindings_of i.values) c.args.number own (joined_assumptions own more) (ap (joined_assumptions own) is ∙ e ∙ before ∙ ap given same)) c.add_lacking.ensures c.map.ensures.cases
