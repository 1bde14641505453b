use Rattle.std.proofs.Common.{rules, ◌≡◌, ap, ◌∙◌}
use Rattle.cp_model.specs.Term.{apply_to_atom}
use Rattle.cp_unify.specs.Bindings.{as_substitution}
use Rattle.cp_lists.proofs.Collected.{if_mapped}
use Rattle.cp_collapse.specs.Partitions.{node_in}
use Rattle.cp_collapse.proofs.images.unique_image.Goals as goal

pub returns : goal.returns
returns c =
    let origin = c.node_in-origin.ensures ∙ ap (node_in c.args.way.lowest.now) c.origin.ensures in
    if_mapped c.under.result c.map.result (λ atom unique made k.
    let is : unique ≡ record { value = atom; origin = c.node_in-origin.result } = search rules in
    let value = made ∙ ap (apply_to_atom (as_substitution c.args.way.terms.now)) c.value.ensures in
    is ∙ (λ i. record { value = value i; origin = origin i })) c.under.ensures c.map.ensures.cases
