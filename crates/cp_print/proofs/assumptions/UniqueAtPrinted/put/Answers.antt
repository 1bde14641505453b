use Rattle.std.proofs.Common.{false, [], ◌∷◌, ap, ◌∙◌}
use Rattle.cp_language.specs.Printed.{atom_form}
use Rattle.cp_language.specs.Report.{named_by, node_form}
use Rattle.cp_sexpr.specs.Pieces.{space, open_parenthesis}
use Rattle.cp_sexpr.specs.Spelling.{spelling}
use Rattle.cp_strand.specs.Atoms.{atom_of}
use Rattle.cp_print.specs.Spelled.{item_text}
use Rattle.cp_print.proofs.SpelledItems.{then, one_item, same_text, list_item}
use Rattle.cp_print.proofs.assumptions.UniqueAtPrinted.put.Goals as goal

pub returns : goal.returns
returns c =
    let form = atom_form (named_by c.args.names.now) in
    let u = c.args.self.now in
    let value = same_text (ap (λ t. spelling (form (atom_of t))) c.as_term.ensures ∙ ap (λ v. spelling (form v)) c.value.ensures) c.put_atom.ensures in
    let origin = same_text (ap (λ n. item_text false (node_form n)) c.origin.ensures) c.put.ensures in
    list_item (form u.value) (node_form u.origin ∷ []) false (then (space ∷ open_parenthesis ∷ []) (spelling (form u.value)) c.append.ensures value) (one_item false (node_form u.origin) origin) c.push.ensures
