use Rattle.std.proofs.Common.{rules, ◌≡◌, sym, subst}
use Rattle.cp_lists.proofs.Collected.{if_mapped}
use Rattle.cp_cohort.specs.Cohort.{IsCohort}
use Rattle.cp_cohort.proofs.UntilGiven.{whole_cohort}
use Rattle.cp_cohort.proofs.children.children_of.Goals as goal

pub returns : goal.returns
returns c =
    if_mapped c.children_until.result c.map.result (λ made children is k.
    let told : children.items ≡ made.children.items = search rules in
    subst (IsCohort c.args.protocol.now c.args.guarded_test.now) (sym told)
    (whole_cohort c.args.protocol.now c.args.guarded_test.now made.children.items made.widening is)) c.children_until.ensures c.map.ensures.cases
