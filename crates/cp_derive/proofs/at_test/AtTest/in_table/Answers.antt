use Rattle.std.proofs.Common.{sym, subst}
use Rattle.cp_theory.specs.Critical.{IsTest}
use Rattle.cp_skel.specs.Tables.{DiffersInTable}
use Rattle.cp_derive.specs.AtNode.{SkeletonNode}
use Rattle.cp_derive.specs.AtTest.{SkeletonTest}
use Rattle.cp_derive.proofs.InTable.{test_in_table}
use Rattle.cp_derive.proofs.at_test.AtTest.in_table.Goals as goal

pub in_table-at-requires : goal.in_table-at-requires
in_table-at-requires c = record { table = subst (λ (t : SkeletonTest). DiffersInTable t.skeleton c.args.k.now) (sym c.self.view_is) c.requires.table }

pub invariant_of-result : goal.invariant_of-result
invariant_of-result c =
    let at = c.self.inside.at in
    let differs : DiffersInTable at.skeleton c.args.k.now = subst (λ (t : SkeletonTest). DiffersInTable t.skeleton c.args.k.now) (sym c.self.view_is) c.requires.table in
    subst (λ (n : SkeletonNode). IsTest n.skeleton n.node c.self.inside.critical) (sym c.in_table-at.ensures)
    (test_in_table at.skeleton c.args.k.now differs at.node c.self.inside.critical c.self.invariant)
