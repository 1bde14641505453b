use Rattle.std.proofs.Common.{rules, ◌≡◌, ap, ◌∙◌}
use Rattle.cp_model.specs.Term.{apply_to_atom}
use Rattle.cp_model.specs.Bundle.{node_at}
use Rattle.cp_model.specs.Homomorphism.{strand_in, substitution_by}
use Rattle.cp_model.specs.declared.node.Node.{Node}
use Rattle.cp_lists.proofs.Collected.{if_mapped}
use Rattle.cp_stated.proofs.images.unique_image.Goals as goal

pub returns : goal.returns
returns c =
    let origin = c.node_image-origin.ensures ∙ ap (λ (n : Node). node_at (strand_in c.args.strands.now n.strand) n.index) c.origin.ensures in
    if_mapped c.applied_atom.result c.map.result (λ atom unique made k.
    let is : unique ≡ record { value = atom; origin = c.node_image-origin.result } = search rules in
    let value = made ∙ ap (apply_to_atom (substitution_by c.args.values.now)) c.value.ensures in
    is ∙ (λ i. record { value = value i; origin = origin i })) c.applied_atom.ensures c.map.ensures.cases
