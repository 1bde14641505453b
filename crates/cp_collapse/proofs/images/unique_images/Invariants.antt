use Rattle.std.proofs.Common.{◌≡◌, [], map, drop}
use Rattle.cp_model.specs.Given.{uniques_onto}
use Rattle.cp_unify.specs.Bindings.{as_substitution}
use Rattle.cp_collapse.specs.Collapses.{unique_in}
use Rattle.cp_collapse.proofs.images.unique_images.Given as goal

abbrev pub invariant-loop-unique : goal.invariant-loop-unique
invariant-loop-unique l =
    uniques_onto l.images.items (map (unique_in l.way.lowest.now (as_substitution l.way.terms.now)) (drop l.unique-index l.uniques))
    ≡ uniques_onto [] (map (unique_in l.way.lowest.now (as_substitution l.way.terms.now)) l.uniques)
