use Rattle.std.proofs.Common.{rules, ◌≡◌, map, ◌∙◌}
use Rattle.cp_lists.proofs.Collected.{if_mapped}
use Rattle.cp_sexpr.specs.View.{view}
use Rattle.cp_load.specs.UncheckedProblems.{unchecked_view}
use Rattle.cp_readback.proofs.LabelsFit.{each-fits, tree-is}
use Rattle.cp_readback.proofs.trees.tree_of.Goals as goal

pub labels_stated-requires-clause-fit : goal.labels_stated-requires-clause-fit
labels_stated-requires-clause-fit c =
    each-fits (unchecked_view c.args.problem.now) (map view c.args.behind.now) c.requires.fits.0 (map view c.split_at_labels.result.0.now) c.split_at_labels.ensures.labels c.requires.fits.1

pub returns : goal.returns
returns c =
    let outcome = c.outcome_in-outcome.result in
    if_mapped c.labels_stated.result c.map.result (λ stated tree are k.
    let told : tree ≡ record { labels = stated.items; outcome = outcome } = search rules in
    told
    ∙ tree-is (unchecked_view c.args.problem.now) (map view c.args.behind.now) (map view c.split_at_labels.result.0.now) (map view c.split_at_labels.result.1.now) stated.items outcome
    c.split_at_labels.ensures.labels c.split_at_labels.ensures.behind are c.outcome_in-outcome.ensures) c.labels_stated.ensures c.map.ensures.cases
