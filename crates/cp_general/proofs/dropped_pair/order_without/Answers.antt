use Rattle.std.proofs.Common.{rules, List, ◌≡◌, ◌∙◌, ap, sym, subst}
use Rattle.std.specs.Bool.{then_some}
use Rattle.std.specs.List.{filter}
use Rattle.cp_lists.specs.Lists.{IsIn}
use Rattle.cp_lists.proofs.Collected.{if_mapped}
use Rattle.cp_model.specs.declared.node.OrderPair.{OrderPair}
use Rattle.cp_model.specs.Order.{ReachesAlong}
use Rattle.cp_model.specs.Skeleton.{FromProblem}
use Rattle.cp_model.proofs.CarriedParts.{not_both}
use Rattle.cp_general.specs.ListedPairs.{is_other_pair}
use Rattle.cp_general.proofs.FitTests.{some_if, none_if}
use Rattle.cp_general.proofs.dropped_pair.order_without.Goals.{After-of-order}
use Rattle.cp_general.proofs.dropped_pair.order_without.Goals as goal

-- the new order is that of the pairs that are kept
order_is : (c : After-of-order) → c.of-order.result ≡ filter (is_other_pair c.args.pair) c.args.k.now.pairs
order_is c = c.of-order.ensures ∙ c.in_ok-pairs.ensures ∙ ap (filter (is_other_pair c.args.pair)) (c.pairs.ensures ∙ c.order.ensures)

pub returns-clause-order : goal.returns-clause-order
returns-clause-order c =
    if_mapped c.all_lead.result c.map.result (λ keeps found leads k.
    let told : found ≡ then_some keeps c.of-order.result = search rules in
    some_if keeps _ found _ told (λ _. order_is (goal.at.returns-clause-order c).After-of-order)) c.all_lead.ensures c.map.ensures.cases

pub returns-clause-keeps : goal.returns-clause-keeps
returns-clause-keeps c =
    let own = c.pairs-3.ensures ∙ ap (λ (f : FromProblem). f.pairs) c.from_problem.ensures in
    if_mapped c.all_lead.result c.map.result (λ keeps found leads k.
    let told : found ≡ then_some keeps c.of-order.result = search rules in
    some_if keeps _ found _ told
    (λ e q m. subst (λ (o : List OrderPair). ReachesAlong o q.earlier q.later) c.pairs-2.ensures (leads.0 e q (subst (IsIn q) (sym own) m)))) c.all_lead.ensures c.map.ensures.cases

pub returns-clause-none : goal.returns-clause-none
returns-clause-none c =
    let own = c.pairs-3.ensures ∙ ap (λ (f : FromProblem). f.pairs) c.from_problem.ensures in
    let order = c.pairs-2.ensures ∙ order_is (goal.at.returns-clause-none c).After-of-order in
    if_mapped c.all_lead.result c.map.result (λ keeps found leads k.
    let told : found ≡ then_some keeps c.of-order.result = search rules in
    none_if keeps _ found _ told
    (λ e all. not_both e (leads.1 (λ q m. subst (λ (o : List OrderPair). ReachesAlong o q.earlier q.later) (sym order) (all q (subst (IsIn q) own m)))))) c.all_lead.ensures c.map.ensures.cases
