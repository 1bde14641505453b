use Rattle.std.proofs.Common.{◌≡◌, List, [], ◌∷◌, ◌++◌, ap, ◌∙◌}
use Rattle.cp_sexpr.specs.View.{view}
use Rattle.cp_model.specs.declared.variable.Declaration.{Declaration}
use Rattle.cp_report.specs.Skeletons.{declaration_of}
use Rattle.cp_spelled.proofs.Declared.{vars-taken, each-made}
use Rattle.cp_spelled.proofs.variables.variables_of.Goals as goal

pub loop-item-preserved : goal.loop-item-preserved
loop-item-preserved c =
    let ds = c.loop-item.variables in
    let es = c.push.new.self in
    let behind : Declaration → List Declaration = λ d. ds ++ d ∷ [] in
    let more : es ≡ ds ++ declaration_of (view c.item-item.result) ∷ [] =
    c.in_ok-push.ensures ∙ ap behind c.in_ok-declaration.ensures in (
      vars-taken c.args.items.now c.loop-item.item-index c.item-item.result c.loop-item-test.true c.item-item.is ds es c.loop-item.first c.declaration_misfits.new.first _ more c.declaration_misfits.ensures c.loop-item.invariant.0,
      each-made c.args.items.now c.loop-item.item-index declaration_of c.item-item.result c.loop-item-test.true c.item-item.is ds es _ more c.loop-item.invariant.1,
    )
