use Rattle.std.proofs.Common.{◌++◌, map, sym, ap, ◌∙◌}
use Rattle.std.proofs.lemmas.List.{drop_all}
use Rattle.cp_model.specs.Bundle.{node_at}
use Rattle.cp_model.specs.Given.{uniques_onto}
use Rattle.cp_strand.specs.Givens.{unique_on}
use Rattle.cp_skel.proofs.StrandsGive.{put-unique}
use Rattle.cp_skel.proofs.role_assumptions.add_missing_uniques.Goals as goal

pub loop-unique-preserved : goal.loop-unique-preserved
loop-unique-preserved c =
    let old = c.args.old.now in
    put-unique c.args.strand (old ++ c.loop-unique.more.items) (old ++ c.push_missing.new.more.items) _ c.args.given.now c.loop-unique.unique-index c.unique-item.result _
    c.loop-unique-test.true c.unique-item.is
    (c.new.ensures ∙ ap (λ v. record { value = v; origin = node_at c.args.strand c.unique-item.result.index }) c.in_ok-value.ensures)
    c.in_ok-push_missing.ensures c.loop-unique.invariant

pub returns : goal.returns
returns c =
    sym (ap (λ us. uniques_onto (c.args.old.now ++ c.loop-unique.more.items) (map (unique_on c.args.strand) us)) (drop_all c.loop-unique.unique-index c.args.given.now c.loop-unique-test.false)) ∙ c.loop-unique.invariant
