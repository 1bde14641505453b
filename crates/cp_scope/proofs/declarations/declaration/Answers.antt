use Rattle.std.proofs.Common.{map, option_map}
use Rattle.cp_sexpr.specs.View.{view}
use Rattle.cp_language.specs.Names.{identifiers_in}
use Rattle.cp_scope.proofs.DeclaredIdentifiers.{declaration-read, declaration-declared}
use Rattle.cp_scope.proofs.declarations.declaration.Goals as goal

pub returns-clause-faults : goal.returns-clause-faults
returns-clause-faults c =
    declaration-read c.args.form.now c.in-List.place c.in-List.items c.as_slice-items.result.now c.in-List.is c.as_slice-items.ensures.value
    (identifiers_in c.args.variables.now) c.sort_named.result (option_map (λ f. view f.now) c.last_item-sort.result) (map view c.front_items.result.now)
    c.args.first.now c.lacks.new.first c.declare.new.first c.last_sort_faults.new.first
    c.last_item-sort.ensures c.front_items.ensures c.sort_named.ensures c.lacks.ensures c.in_ok-declare.ensures.faults c.last_sort_faults.ensures

pub returns-clause-declared : goal.returns-clause-declared
returns-clause-declared c =
    declaration-declared c.args.form.now c.in-List.place c.in-List.items c.as_slice-items.result.now c.in-List.is c.as_slice-items.ensures.value
    c.sort_named.result (option_map (λ f. view f.now) c.last_item-sort.result) (map view c.front_items.result.now)
    c.args.variables.now c.declare.new.variables
    c.last_item-sort.ensures c.front_items.ensures c.sort_named.ensures c.in_ok-declare.ensures.declared
