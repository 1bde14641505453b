use Rattle.std.proofs.Common.{[], ◌∷◌, ap}
use Rattle.cp_language.specs.Printed.{atom_form}
use Rattle.cp_language.specs.Report.{named_by}
use Rattle.cp_sexpr.specs.Pieces.{space}
use Rattle.cp_sexpr.specs.Spelling.{spelling}
use Rattle.cp_strand.specs.Atoms.{atom_of}
use Rattle.cp_print.proofs.SpelledItems.{then, same_text}
use Rattle.cp_print.proofs.assumptions.AtomPrinted.put.Goals as goal

pub returns : goal.returns
returns c =
    let form = atom_form (named_by c.args.names.now) in
    then (space ∷ []) (spelling (form c.args.self.now)) c.push.ensures (same_text (ap (λ t. spelling (form (atom_of t))) c.as_term.ensures) c.put_atom.ensures)
