use Rattle.std.proofs.Common.{List, [], ◌∷◌, ◌++◌, ◌≡◌, refl, ap, ◌∙◌}
use Rattle.cp_model.specs.Term.{AtomTerm}
use Rattle.cp_sexpr.specs.View.{view}
use Rattle.cp_report.specs.Spelled.{atom_in}
use Rattle.cp_report.specs.Skeletons.{atoms_misfits}
use Rattle.cp_spelled.specs.FirstMisfit.{first_onto}
use Rattle.cp_spelled.specs.Views.{scope_view}
use Rattle.cp_spelled.proofs.Declared.{each-made}
use Rattle.cp_stated.specs.AssumptionEntries.{atom_entry_misfits}
use Rattle.cp_stated.proofs.FormLists.{gathered-taken}
use Rattle.cp_stated.proofs.values.atoms_misfits.Goals as goal

pub loop-item-preserved : goal.loop-item-preserved
loop-item-preserved c =
    let s = scope_view c.args.scope in
    let f = view c.item-item.result in
    let values = c.loop-item.values.items in
    let pushed : c.push.new.self.items ≡ values ++ atom_in s f ∷ [] = c.in_ok-push.ensures.items ∙ ap (λ v. values ++ v ∷ []) c.in_ok-value.ensures in
    let asked = c.atom_entry_misfits.ensures ∙ ap (λ (vs : List AtomTerm). first_onto c.loop-item.first (atom_entry_misfits s vs f)) c.deref.ensures.value in (
      gathered-taken (λ b g. b ++ atom_in s g ∷ []) (atom_entry_misfits s) (atoms_misfits s) c.args.items.now c.loop-item.item-index (λ b g fs. refl) c.item-item.result c.loop-item-test.true c.item-item.is
          values c.push.new.self.items c.loop-item.first c.atom_entry_misfits.new.first _ pushed asked c.loop-item.invariant.0,
      each-made c.args.items.now c.loop-item.item-index (atom_in s) c.item-item.result c.loop-item-test.true c.item-item.is values c.push.new.self.items _ pushed c.loop-item.invariant.1,
    )
