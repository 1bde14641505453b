use Rattle.std.proofs.Common.{rules, ◌≡◌, ◌∙◌, ap, sym, subst}
use Rattle.std.specs.Bool.{then_some}
use Rattle.cp_lists.proofs.Collected.{if_mapped}
use Rattle.cp_model.specs.Skeleton.{IsNodeOf, term_event_at, Skeleton}
use Rattle.cp_model.specs.Derivable.{DerivableAt}
use Rattle.cp_model.proofs.CarriedParts.{not_both}
use Rattle.cp_general.proofs.FitTests.{some_if, none_if}
use Rattle.cp_general.proofs.dropped_pair.derived_in_order.Goals as goal

pub is_derived-requires : goal.is_derived-requires
is_derived-requires c = subst (λ (d : Skeleton). IsNodeOf d.strands c.args.node) (sym c.in_ok-less.ensures) c.requires.there

pub returns-clause-exact : goal.returns-clause-exact
returns-clause-exact c =
    if_mapped c.is_derived.result c.map.result (λ derived found tells k.
    let told : found ≡ then_some derived c.in_ok-less.less = search rules in
    some_if derived _ found _ told (λ _. c.in_ok-less.ensures)) c.is_derived.ensures c.map.ensures.cases

pub returns-clause-derived : goal.returns-clause-derived
returns-clause-derived c =
    if_mapped c.is_derived.result c.map.result (λ derived found tells k.
    let told : found ≡ then_some derived c.in_ok-less.less = search rules in
    some_if derived _ found _ told
    (λ e t at. subst (λ (d : Skeleton). DerivableAt d c.args.node t) c.in_ok-less.ensures
    ((tells t (ap (λ (d : Skeleton). term_event_at d.strands c.args.node) c.in_ok-less.ensures ∙ at)).0 e))) c.is_derived.ensures c.map.ensures.cases

pub returns-clause-none : goal.returns-clause-none
returns-clause-none c =
    if_mapped c.is_derived.result c.map.result (λ derived found tells k.
    let told : found ≡ then_some derived c.in_ok-less.less = search rules in
    none_if derived _ found _ told
    (λ e t at d. not_both e
    ((tells t (ap (λ (d : Skeleton). term_event_at d.strands c.args.node) c.in_ok-less.ensures ∙ at)).1
    (subst (λ (x : Skeleton). DerivableAt x c.args.node t) (sym c.in_ok-less.ensures) d)))) c.is_derived.ensures c.map.ensures.cases
