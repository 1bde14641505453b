use Rattle.std.proofs.Common.{ap, ◌∙◌, subst}
use Rattle.cp_lists.specs.Lists.{IsIn}
use Rattle.cp_lists.proofs.Items.{at_place}
use Rattle.cp_model.specs.Skeleton.{Assumptions, Skeleton}
use Rattle.cp_normal.specs.MisplacedValues.{OriginatesMisplaced}
use Rattle.cp_normal.proofs.MisplacedOriginations.{none_next, none_is_misplaced, event_listed, none_of_own}
use Rattle.cp_normal.proofs.misplaced_values.some_is_misplaced.Goals as goal

pub first_at-requires : goal.first_at-requires
first_at-requires c =
    record {
      is_there = event_listed c.args.k.now c.events-occurrences.result.now c.events-occurrences.ensures c.loop-occurrence.occurrence-index c.occurrence-item.result c.loop-occurrence-test.true c.occurrence-item.is;
    }

pub loop-occurrence-preserved : goal.loop-occurrence-preserved
loop-occurrence-preserved c =
    let own = c.uniquely_originating-uniques.ensures ∙ ap (λ (a : Assumptions). a.uniquely_originating) (c.assumptions.ensures ∙ ap (λ (k : Skeleton). k.assumptions) c.skeleton.ensures) in
    none_next (OriginatesMisplaced c.args.k.now) c.events-occurrences.result.now c.loop-occurrence.occurrence-index c.occurrence-item.result c.occurrence-item.result c.loop-occurrence-test.true c.occurrence-item.is
    (none_of_own c.args.k.now c.occurrence-item.result _ own (rw c.in-None.is at c.first_at.ensures))
    c.loop-occurrence.invariant

pub returns-clause-none : goal.returns-clause-none
returns-clause-none c = λ e. none_is_misplaced c.args.k.now c.events-occurrences.result.now c.events-occurrences.ensures c.loop-occurrence.occurrence-index c.loop-occurrence-test.false c.loop-occurrence.invariant

pub returns-in-Some-clause-some : goal.returns-in-Some-clause-some
returns-in-Some-clause-some c = λ t settled.
    let own = c.uniquely_originating-uniques.ensures ∙ ap (λ (a : Assumptions). a.uniquely_originating) (c.assumptions.ensures ∙ ap (λ (k : Skeleton). k.assumptions) c.skeleton.ensures) in
    let f = rw c.in-Some.is at c.first_at.ensures in
    settled f.entry _ (record { listed = subst (IsIn f.entry) own (at_place _ _ f.entry f.at_place); originates = f.originates_elsewhere.1; elsewhere = f.originates_elsewhere.0 })
