use Rattle.cp_language.specs.Terms.{atom_faults}
use Rattle.cp_scope.proofs.Items.{each-taken}
use Rattle.cp_scope.proofs.atoms.atoms_faults.Goals as goal

pub loop-item-preserved : goal.loop-item-preserved
loop-item-preserved c =
    each-taken (atom_faults c.args.variables.now) c.args.items.now c.loop-item.item-index c.item-item.result c.loop-item-test.true c.item-item.is
    c.loop-item.first c.atom_faults.new.first _ c.atom_faults.ensures c.loop-item.invariant
