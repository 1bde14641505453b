use Rattle.std.proofs.Common.{length, map, drop}
use Rattle.cp_model.specs.Strand.{variables_of_prefix}
use Rattle.cp_sexpr.specs.View.{view}
use Rattle.cp_language.specs.Problems.{instantiated}
use Rattle.cp_roles.proofs.Instantiation.{IsLeft}
use Rattle.cp_roles.proofs.instances.instantiated.Given as goal

abbrev pub invariant-loop-number : goal.invariant-loop-number
invariant-loop-number l =
    IsLeft (instantiated (variables_of_prefix l.prefix.role.now l.prefix.height) l.declared (map view l.maplets) (length l.initial.all.items) 0 l.variables)
    (instantiated (variables_of_prefix l.prefix.role.now l.prefix.height) l.declared (map view l.maplets) (length l.all.items) l.number (drop l.number l.variables))
    l.terms.items l.initial.all.items l.all.items
