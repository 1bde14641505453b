use Rattle.std.proofs.Common.{◌≡◌, sym, ap, subst, ◌∙◌}
use Rattle.cp_model.specs.Skeleton.{Skeleton}
use Rattle.cp_skel.specs.Preceding.{SkeletonNode}
use Rattle.cp_skel.specs.Tables.{DiffersInTable}
use Rattle.cp_derive.specs.AtNode.{IsAtNode}
use Rattle.cp_derive.proofs.InTable.{node_in_table}
use Rattle.cp_derive.proofs.at_node.AtNode.in_table.Goals as goal

pub in_table-listed-requires : goal.in_table-listed-requires
in_table-listed-requires c =
    let same : c.self.inside.listed ≡ c.args.self.skeleton = c.self.invariant.same ∙ ap (λ (n : SkeletonNode). n.skeleton) c.self.view_is in
    record { table = subst (λ (k : Skeleton). DiffersInTable k c.args.k.now) (sym same) c.requires.table }

pub invariant_of-result : goal.invariant_of-result
invariant_of-result c =
    let at = c.self.inside.preceding in
    let differs : DiffersInTable at.skeleton c.args.k.now = subst (λ (n : SkeletonNode). DiffersInTable n.skeleton c.args.k.now) (sym c.self.view_is) c.requires.table in
    subst (λ (n : SkeletonNode). IsAtNode n c.in_table-listed.result c.self.inside.known) (sym c.in_table-preceding.ensures)
    (subst (λ (k : Skeleton). IsAtNode (record { skeleton = c.args.k.now; node = at.node }) k c.self.inside.known) (sym c.in_table-listed.ensures)
    (node_in_table at c.self.inside.listed c.self.inside.known c.self.invariant c.args.k.now differs))
