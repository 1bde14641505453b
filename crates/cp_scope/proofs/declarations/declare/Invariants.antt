use Rattle.std.proofs.Common.{◌≡◌, ◌++◌, drop, map}
use Rattle.cp_sexpr.specs.View.{view}
use Rattle.cp_language.specs.Names.{identifiers_in}
use Rattle.cp_language.specs.Roles.{identifiers_faults, declared_of, sort_or_text}
use Rattle.cp_scope.specs.FirstFault.{first_onto}
use Rattle.cp_scope.proofs.declarations.declare.Given as goal

abbrev pub invariant-loop-form : goal.invariant-loop-form
invariant-loop-form l =
    (first_onto l.first (identifiers_faults (identifiers_in l.variables) l.word (map view (drop l.form-index l.identifiers)))
    ≡ first_onto l.initial.first (identifiers_faults (identifiers_in l.initial.variables) l.word (map view l.identifiers)))
    × (l.variables ++ declared_of (sort_or_text l.word) (map view (drop l.form-index l.identifiers))
    ≡ l.initial.variables ++ declared_of (sort_or_text l.word) (map view l.identifiers))
