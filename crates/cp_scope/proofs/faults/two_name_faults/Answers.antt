use Rattle.std.proofs.Common.{map}
use Rattle.cp_lists.specs.Lists.{item_at}
use Rattle.cp_model.specs.declared.sort.Sort.TheVariants.{Name as name_sort}
use Rattle.cp_sexpr.specs.View.{view}
use Rattle.cp_language.specs.Terms.{lacks, exceeds}
use Rattle.cp_scope.specs.OwnFaults.{sort_faults_if}
use Rattle.cp_scope.proofs.Firsts.{first_then_four}
use Rattle.cp_scope.proofs.faults.two_name_faults.Goals as goal

pub returns-clause-faults : goal.returns-clause-faults
returns-clause-faults c =
    let ds = c.args.variables.now in
    let fs = map view c.args.list.items.now in
    first_then_four c.args.first.now c.lacks.new.first c.item_sort_faults.new.first c.item_sort_faults-2.new.first c.exceeds.new.first
    (lacks 2 c.args.list.place fs) (sort_faults_if ds name_sort (item_at fs 0)) (sort_faults_if ds name_sort (item_at fs 1)) (exceeds 2 fs)
    c.lacks.ensures c.item_sort_faults.ensures c.item_sort_faults-2.ensures c.exceeds.ensures
