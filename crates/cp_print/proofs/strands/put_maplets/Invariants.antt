use Rattle.std.proofs.Common.{false, drop}
use Rattle.cp_model.specs.Homomorphism.{substitution_by}
use Rattle.cp_model.specs.Strand.{variables_of_prefix}
use Rattle.cp_print.specs.MarkedForms.{maplets_by}
use Rattle.cp_print.specs.Named.{named_in}
use Rattle.cp_print.proofs.SpelledItems.{ItemsLeft}
use Rattle.cp_print.proofs.strands.put_maplets.Given as goal

abbrev pub invariant-loop-number : goal.invariant-loop-number
invariant-loop-number l =
    let maplets = maplets_by (named_in l.naming) (variables_of_prefix l.role l.height) (substitution_by l.values) in
    ItemsLeft false l.fn.out l.out (maplets l.number (drop l.number l.variables)) (maplets 0 l.variables)
