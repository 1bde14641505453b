use Rattle.std.proofs.Common.{◌≡◌, List, ℕ, [], ◌∷◌, ◌++◌, ap, ◌∙◌}
use Rattle.cp_sexpr.specs.View.{view}
use Rattle.cp_report.specs.Skeletons.{identifier_of}
use Rattle.cp_spelled.proofs.Declared.{each-made}
use Rattle.cp_spelled.proofs.maplets.identifiers_of.Goals as goal

pub loop-maplet-preserved : goal.loop-maplet-preserved
loop-maplet-preserved c =
    let behind : List ℕ → List (List ℕ) = λ t. c.loop-maplet.identifiers ++ t ∷ [] in
    let more : c.push.new.self ≡ c.loop-maplet.identifiers ++ identifier_of (view c.maplet-item.result) ∷ [] = c.in_ok-push.ensures ∙ ap behind c.in_ok-identifier.ensures in
    each-made c.args.maplets.now c.loop-maplet.maplet-index identifier_of c.maplet-item.result c.loop-maplet-test.true c.maplet-item.is c.loop-maplet.identifiers c.push.new.self _ more c.loop-maplet.invariant
