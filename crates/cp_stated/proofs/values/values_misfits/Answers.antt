use Rattle.std.proofs.Common.{[], ◌∷◌, ◌++◌, List, map, ap, ◌∙◌}
use Rattle.std.specs.Prelude.{Option, None, option_map}
use Rattle.cp_model.specs.Term.{AtomTerm}
use Rattle.cp_sexpr.specs.Syntax.{Form}
use Rattle.cp_sexpr.specs.View.{view}
use Rattle.cp_report.specs.Misfits.{lacking}
use Rattle.cp_report.specs.Heads.{entries_or_none, item_with, optional_misfits, place_or}
use Rattle.cp_report.specs.Spelled.{Scope, atom_in}
use Rattle.cp_report.specs.Skeletons.{scope_of, has_atoms, atoms_misfits, atoms_under}
use Rattle.cp_spelled.specs.FirstMisfit.{first_onto}
use Rattle.cp_spelled.specs.Views.{scope_view}
use Rattle.cp_stated.proofs.GivenOnce.{assumption-read}
use Rattle.cp_stated.proofs.values.values_misfits.Goals as goal

pub returns : goal.returns
returns c =
    let items = map view c.args.items.now in
    let word = c.args.word.now in
    let given = c.args.given.now in
    let item = item_with (word ∷ []) items in
    let s = scope_of items in
    let shape = λ (t : Scope) (o : Option Form). optional_misfits (λ p fs. lacking 1 p fs ++ atoms_misfits t [] fs) o in
    let inside =
    c.in_ok-values.ensures.misfits ∙ ap (λ x. first_onto x (shape (scope_view c.args.scope) (option_map (λ f. view f.now) c.item_with-item.result))) c.new-inside.ensures
    ∙ ap (λ o. first_onto None (shape (scope_view c.args.scope) o)) c.item_with-item.ensures ∙ ap (λ t. first_onto None (shape t item)) c.requires in
    let listed =
    c.deref.ensures.value ∙ c.in_ok-values.ensures.atoms ∙ ap (λ o. map (atom_in (scope_view c.args.scope)) (entries_or_none o)) c.item_with-item.ensures ∙ ap (λ (t : Scope). map (atom_in t) (entries_or_none item)) c.requires in
    assumption-read c.args.place c.place_or.result item (atoms_misfits s []) c.args.first.now c.optional_atoms_misfits.new.first c.note_unless_misfit.new.self c.merge.new.self (has_atoms (atoms_under word items) given) c.has_atoms.result
    inside (c.has_atoms.ensures ∙ ap (λ (vs : List AtomTerm). has_atoms vs given) listed) (c.place_or.ensures ∙ ap (place_or c.args.place) c.item_with-item.ensures) c.note_unless_misfit.ensures c.merge.ensures
