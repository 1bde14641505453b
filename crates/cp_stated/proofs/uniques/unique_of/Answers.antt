use Rattle.std.proofs.Common.{rules, ◌≡◌, ap, ◌∙◌}
use Rattle.cp_lists.specs.Lists.{item_at}
use Rattle.cp_sexpr.specs.View.{view}
use Rattle.cp_language.specs.Terms.{as_atom}
use Rattle.cp_language.specs.Roles.{list_items}
use Rattle.cp_language.specs.Problems.{option_node}
use Rattle.cp_report.specs.Skeletons.{term_or_tag, node_or_first}
use Rattle.cp_spelled.specs.Views.{scope_view}
use Rattle.cp_lists.proofs.Collected.{if_mapped}
use Rattle.cp_stated.proofs.Entered.{first-item, second-item}
use Rattle.cp_stated.proofs.uniques.unique_of.Goals as goal

pub returns : goal.returns
returns c =
    let s = scope_view c.args.scope in
    let fs = list_items (view c.args.form.now) in
    let origin = c.node_or_first-origin.ensures ∙ ap (λ o. node_or_first (option_node o)) (c.item_at.ensures ∙ ap (λ gs. item_at gs 1) c.list_items-items.ensures ∙ second-item fs) in
    if_mapped c.atom_if_there.result c.map.result (λ atom unique made k.
    let is : unique ≡ record { value = atom; origin = c.node_or_first-origin.result } = search rules in
    let value = made ∙ ap (λ o. as_atom (term_or_tag s o)) (c.item_at-2.ensures ∙ ap (λ gs. item_at gs 0) c.list_items-items.ensures ∙ first-item fs) in
    is ∙ (λ i. record { value = value i; origin = origin i })) c.atom_if_there.ensures c.map.ensures.cases
