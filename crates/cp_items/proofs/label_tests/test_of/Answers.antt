use Rattle.std.proofs.Common.{rules, ◌≡◌, sym, ap, ◌∙◌}
use Rattle.std.specs.Prelude.{option_map, Some}
use Rattle.cp_lists.specs.Lists.{item_at}
use Rattle.cp_sexpr.specs.View.{view}
use Rattle.cp_language.specs.Problems.{option_node}
use Rattle.cp_report.specs.Heads.{forms_after_head}
use Rattle.cp_report.specs.Skeletons.{node_or_first, term_or_tag}
use Rattle.cp_report.specs.Labels.{test_of}
use Rattle.cp_spelled.specs.Views.{scope_view}
use Rattle.cp_lists.proofs.Collected.{if_mapped}
use Rattle.cp_stated.proofs.Entered.{first-item, second-item}
use Rattle.cp_items.proofs.label_tests.test_of.Goals as goal

pub returns : goal.returns
returns c =
    let s = scope_view c.args.scope in
    let fs = forms_after_head (view c.in-Some.item.now) in
    let node = c.node_or_first-node.ensures ∙ ap (λ o. node_or_first (option_node o)) (c.item_at.ensures ∙ ap (λ gs. item_at gs 0) c.items_behind-entries.ensures ∙ first-item fs) in
    if_mapped c.term_or_tag.result c.map.result (λ critical test made k.
    let is : test ≡ Some (record { node = c.node_or_first-node.result; critical = critical }) = search rules in
    let term = made ∙ ap (term_or_tag s) (c.item_at-2.ensures ∙ ap (λ gs. item_at gs 1) c.items_behind-entries.ensures ∙ second-item fs) in
    is ∙ (λ i. Some (record { node = node i; critical = term i })) ∙ ap (λ o. test_of s (option_map (λ f. view f.now) o)) (sym c.in-Some.is)) c.term_or_tag.ensures c.map.ensures.cases
