use Rattle.std.proofs.Common.{sym, subst}
use Rattle.cp_skel.specs.Preceding.{SkeletonNode}
use Rattle.cp_skel.specs.Tables.{DiffersInTable}
use Rattle.cp_skel.proofs.TableAlone.{preceded_in_table}
use Rattle.cp_skel.proofs.preceding.Preceding.in_table.Goals as goal

pub invariant_of-result : goal.invariant_of-result
invariant_of-result c =
    let differs : DiffersInTable c.self.inside.skeleton.now c.args.k.now = subst (λ (n : SkeletonNode). DiffersInTable n.skeleton c.args.k.now) (sym c.self.view_is) c.requires.table in
    preceded_in_table c.self.inside.skeleton.now c.args.k.now differs c.self.inside.node c.self.inside.leading c.self.invariant
