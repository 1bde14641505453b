use Rattle.std.proofs.Common.{sym, ap}
use Rattle.cp_language.specs.Printed.{atom_form}
use Rattle.cp_sexpr.specs.Spelling.{spelling}
use Rattle.cp_strand.specs.Atoms.{atom_of}
use Rattle.cp_print.specs.Named.{named_in}
use Rattle.cp_print.proofs.SpelledItems.{same_text}
use Rattle.cp_print.proofs.terms.put_atom.Goals as goal

pub returns-in-Inverse : goal.returns-in-Inverse
returns-in-Inverse c = same_text (ap (λ t. spelling (atom_form (named_in c.args.naming.now) (atom_of t))) (sym c.in-Inverse.ensures)) c.put_inverse.ensures

pub returns-in-Ltk : goal.returns-in-Ltk
returns-in-Ltk c = same_text (ap (λ t. spelling (atom_form (named_in c.args.naming.now) (atom_of t))) (sym c.in-Ltk.ensures)) c.put_long_term_key.ensures
