use Rattle.std.proofs.Common.{◌≡◌, ◌++◌, map, drop}
use Rattle.cp_sexpr.specs.View.{view}
use Rattle.cp_language.specs.Roles.{forms_under}
use Rattle.cp_language.specs.Problems.{is_precedes_item, pairs_in}
use Rattle.cp_load.proofs.pairs.pairs_of.Given as goal

abbrev pub invariant-loop-item : goal.invariant-loop-item
invariant-loop-item l =
    l.pairs.items ++ pairs_in (forms_under is_precedes_item (map view (drop l.item-index l.body))) ≡ pairs_in (forms_under is_precedes_item (map view l.body))
