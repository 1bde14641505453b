use Rattle.std.proofs.Common.{sym, ap, ◌∙◌, ◌++◌}
use Rattle.cp_language.specs.Roles.{atoms_in}
use Rattle.cp_scope.specs.Kinds.{is_of_kind}
use Rattle.cp_scope.proofs.Gathered.{atoms-taken, atoms-left}
use Rattle.cp_scope.proofs.atoms.atoms_of.Goals as goal
use Rattle.cp_scope.proofs.atoms.atoms_of.Goals.{then-is_of_kind+in_ok-add_atoms, else-is_of_kind}

pub loop-item-preserved : goal.loop-item-preserved
loop-item-preserved c =
    let ds = c.args.variables.now in
    elim c.if-is_of_kind.branch [
      | then-is_of_kind+in_ok-add_atoms w ↦
          atoms-taken ds (is_of_kind c.args.kind) c.args.items.now c.loop-item.item-index c.item-item.result c.loop-item-test.true c.item-item.is c.loop-item.atoms.items c.if-is_of_kind.atoms.items _ c.loop-item.invariant
          (sym w.if-is_of_kind.true ∙ c.is_of_kind.ensures)
          (ap (λ v. v.items) w.atoms-is ∙ w.in_ok-add_atoms.ensures ∙ ap (λ fs. c.loop-item.atoms.items ++ atoms_in ds fs) w.items_behind.ensures)
      | else-is_of_kind w ↦
          atoms-left ds (is_of_kind c.args.kind) c.args.items.now c.loop-item.item-index c.item-item.result c.loop-item-test.true c.item-item.is c.loop-item.atoms.items c.if-is_of_kind.atoms.items _ c.loop-item.invariant
          (sym w.if-is_of_kind.false ∙ c.is_of_kind.ensures) (ap (λ v. v.items) w.atoms-is)
    ]
