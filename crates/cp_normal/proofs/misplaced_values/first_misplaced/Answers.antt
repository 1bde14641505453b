use Rattle.std.proofs.Common.{sym, ap, ◌∙◌, subst}
use Rattle.std.specs.Prelude.{List}
use Rattle.cp_model.specs.Skeleton.{Assumptions, Skeleton, UniqueAt}
use Rattle.cp_normal.specs.MisplacedValues.{OriginatesMisplaced, IsFirstMisplaced, IsFirstMisplacedAt}
use Rattle.cp_normal.proofs.MisplacedOriginations.{none_next, none_is_misplaced, event_listed, first_misplaced_found, none_of_own}
use Rattle.cp_normal.proofs.misplaced_values.first_misplaced.Goals as goal

pub first_at-requires : goal.first_at-requires
first_at-requires c =
    record {
      is_there = event_listed c.args.k.now c.events-occurrences.result.now c.events-occurrences.ensures c.loop-occurrence.occurrence-index c.occurrence-item.result c.loop-occurrence-test.true c.occurrence-item.is;
    }

pub first_listed-requires : goal.first_listed-requires
first_listed-requires c =
    let own = c.uniquely_originating-uniques.ensures ∙ ap (λ (a : Assumptions). a.uniquely_originating) (c.assumptions.ensures ∙ ap (λ (k : Skeleton). k.assumptions) c.skeleton.ensures) in
    record {
      is_there = event_listed c.args.k.now c.events-occurrences.result.now c.events-occurrences.ensures c.loop-occurrence.occurrence-index c.occurrence-item.result c.loop-occurrence-test.true c.occurrence-item.is;
      misplaced = subst (λ (us : List UniqueAt). IsFirstMisplacedAt c.args.k.now c.occurrence-item.result.node us c.in-Some.found.now) own (rw c.in-Some.is at c.first_at.ensures);
    }

pub returns-in-Some : goal.returns-in-Some
returns-in-Some c =
    subst (λ x. IsFirstMisplaced c.args.k.now c.in_ok-value-in-Some.value x) (sym c.node-node.ensures)
    (first_misplaced_found c.args.k.now c.events-occurrences.result.now c.events-occurrences.ensures c.loop-occurrence.occurrence-index c.occurrence-item.result c.occurrence-item.result c.in_ok-value-in-Some.value
    c.loop-occurrence-test.true c.occurrence-item.is c.loop-occurrence.invariant c.in_ok-value-in-Some.ensures)

pub loop-occurrence-preserved : goal.loop-occurrence-preserved
loop-occurrence-preserved c =
    let own = c.uniquely_originating-uniques.ensures ∙ ap (λ (a : Assumptions). a.uniquely_originating) (c.assumptions.ensures ∙ ap (λ (k : Skeleton). k.assumptions) c.skeleton.ensures) in
    none_next (OriginatesMisplaced c.args.k.now) c.events-occurrences.result.now c.loop-occurrence.occurrence-index c.occurrence-item.result c.occurrence-item.result c.loop-occurrence-test.true c.occurrence-item.is
    (none_of_own c.args.k.now c.occurrence-item.result _ own (rw c.in-None.is at c.first_at.ensures))
    c.loop-occurrence.invariant

pub returns : goal.returns
returns c =
    none_is_misplaced c.args.k.now c.events-occurrences.result.now c.events-occurrences.ensures c.loop-occurrence.occurrence-index c.loop-occurrence-test.false c.loop-occurrence.invariant
