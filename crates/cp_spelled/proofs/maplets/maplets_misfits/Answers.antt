use Rattle.std.proofs.Common.{◌≡◌, List, ℕ, [], ◌∷◌, ◌++◌, ap, ◌∙◌}
use Rattle.cp_sexpr.specs.View.{view}
use Rattle.cp_report.specs.Skeletons.{identifier_of}
use Rattle.cp_spelled.specs.Views.{scope_view}
use Rattle.cp_spelled.proofs.Declared.{each-made}
use Rattle.cp_spelled.proofs.Mapped.{maplets-taken}
use Rattle.cp_spelled.proofs.maplets.maplets_misfits.Goals as goal

pub loop-maplet-preserved : goal.loop-maplet-preserved
loop-maplet-preserved c =
    let before = c.loop-maplet.mapped in
    let behind : List ℕ → List (List ℕ) = λ t. before ++ t ∷ [] in
    let more : c.push.new.self ≡ before ++ identifier_of (view c.maplet-item.result) ∷ [] = c.in_ok-push.ensures ∙ ap behind c.in_ok-identifier.ensures in (
      maplets-taken (scope_view c.args.scope) c.args.wanted.now c.args.maplets.now c.loop-maplet.maplet-index c.maplet-item.result c.loop-maplet-test.true c.maplet-item.is before c.push.new.self
          c.loop-maplet.first c.maplet_misfits.new.first _ more c.maplet_misfits.ensures c.loop-maplet.invariant.0,
      each-made c.args.maplets.now c.loop-maplet.maplet-index identifier_of c.maplet-item.result c.loop-maplet-test.true c.maplet-item.is before c.push.new.self _ more c.loop-maplet.invariant.1,
    )
