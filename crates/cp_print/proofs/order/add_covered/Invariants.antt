use Rattle.std.proofs.Common.{◌≡◌, List, ◌++◌, drop}
use Rattle.cp_base.specs.Growing.{Grows, seen}
use Rattle.cp_sexpr.specs.Syntax.{Form}
use Rattle.cp_print.specs.Order.{pair_form, covered}
use Rattle.cp_print.proofs.order.add_covered.Given as goal

abbrev pub invariant-loop-y : goal.invariant-loop-y
invariant-loop-y l =
    (done : List Form) × (Grows (seen pair_form l.fn.pairs) (seen pair_form l.pairs) done) × (covered l.ends l.x l.nodes ≡ done ++ covered l.ends l.x (drop l.y-index l.nodes))
