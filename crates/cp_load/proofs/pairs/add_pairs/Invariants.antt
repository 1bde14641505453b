use Rattle.std.proofs.Common.{◌≡◌, ◌++◌, map, drop}
use Rattle.cp_sexpr.specs.View.{view}
use Rattle.cp_language.specs.Problems.{pairs_in}
use Rattle.cp_load.proofs.pairs.add_pairs.Given as goal

abbrev pub invariant-loop-form : goal.invariant-loop-form
invariant-loop-form l = l.pairs.items ++ pairs_in (map view (drop l.form-index l.forms)) ≡ l.initial.pairs.items ++ pairs_in (map view l.forms)
