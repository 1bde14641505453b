use Rattle.std.proofs.Common.{rules, ◌≡◌, sym, subst, ◌∙◌}
use Rattle.std.specs.Prelude.{is_some, not}
use Rattle.cp_model.specs.Skeleton.{Before}
use Rattle.cp_pattern.proofs.BothMapped.{if_both_mapped}
use Rattle.cp_pattern.proofs.TransmissionsBefore.{tells_guarded}
use Rattle.cp_pattern.proofs.sent.is_guarded_at.Goals as goal

pub returns : goal.returns
returns c =
    let at = c.args.preceding.now in
    let before : Before at.skeleton c.args.occurrence.now.node at.node =
    subst (λ m. Before at.skeleton m at.node) c.node.ensures (c.has.ensures.0 c.if-not-has.false) in
    if_both_mapped c.first_outside.result c.map.result (λ found answer some none k.
    let told : is_some found ≡ not answer = search rules in
    tells_guarded c.args.patterns.now at.skeleton at.node c.args.critical.now c.args.occurrence.now c.in-Send.message (sym c.is_by_role.ensures ∙ c.if-not-is_by_role.false)
    (sym c.event.ensures ∙ c.in-Send.is) before c.new-nothing.result c.new-nothing.ensures found answer told some none) c.first_outside.ensures.some c.first_outside.ensures.none c.map.ensures.cases
