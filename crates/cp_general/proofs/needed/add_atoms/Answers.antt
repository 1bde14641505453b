use Rattle.std.proofs.Common.{inl, map, sym, subst}
use Rattle.cp_lists.specs.Lists.{IsIn}
use Rattle.cp_lists.proofs.Members.{into_map, item_is_in}
use Rattle.cp_model.specs.Term.{atom_term}
use Rattle.cp_general.proofs.NeededParts.{added_to}
use Rattle.cp_general.proofs.needed.add_atoms.Goals as goal

pub loop-atom-init : goal.loop-atom-init
loop-atom-init c = λ t m. inl m

pub loop-atom-preserved : goal.loop-atom-preserved
loop-atom-preserved c =
    let atoms = c.args.atoms.now in
    let atom = c.atom-item.result in
    added_to (λ t. IsIn t (map atom_term atoms)) c.copy.result c.args.terms.now c.loop-atom.terms c.push_made.new.self c.as_term.result.now c.push_made.ensures.ok c.push_made.ensures.err c.copy.ensures
    (subst (λ t. IsIn t (map atom_term atoms)) (sym c.as_term.ensures) (into_map atom_term (item_is_in atoms c.loop-atom.atom-index atom c.loop-atom-test.true c.atom-item.is))) c.loop-atom.invariant
