use Rattle.std.proofs.Common.{sym, ap, ◌∙◌}
use Rattle.std.proofs.lemmas.List.{drop_all}
use Rattle.cp_model.specs.GivenAssumptions.{with_given_from}
use Rattle.cp_skel.specs.JoinedAssumptions.{joined_assumptions}
use Rattle.cp_skel.proofs.StrandsGive.{strand-gives, none-missing}
use Rattle.cp_skel.proofs.given_assumptions.lacking.Goals as goal

pub loop-number-init : goal.loop-number-init
loop-number-init c =
    ap (with_given_from 0 c.args.strands.now) (ap (joined_assumptions c.args.assumptions.now) c.none-missing.ensures ∙ none-missing c.args.assumptions.now)

pub loop-number-preserved : goal.loop-number-preserved
loop-number-preserved c =
    let l = c.loop-number in
    let own = c.args.assumptions.now in
    strand-gives c.args.strands.now l.number (joined_assumptions own l.missing) (joined_assumptions own c.add_lacking.new.self) _ c.index-strands-number.result c.loop-number-test.true c.index-strands-number.is
    c.in_ok-add_lacking.ensures l.invariant

pub returns : goal.returns
returns c =
    let l = c.loop-number in
    let own = c.args.assumptions.now in
    ap (joined_assumptions own) c.into_assumptions.ensures
    ∙ sym (ap (λ ks. with_given_from l.number ks (joined_assumptions own l.missing)) (drop_all l.number c.args.strands.now c.loop-number-test.false)) ∙ l.invariant
