-- That the forms of a report, and the text that `analyse` puts, are read back as its trees.
use Rattle.std.specs.Prelude.{◌≡◌, ℕ, List, Ok}
use Rattle.cp_model.specs.Tree.{Tree}
use Rattle.cp_sexpr.specs.Syntax.{Forms, forms_of}
use Rattle.cp_sexpr.specs.Reading.{IsReading}
use Rattle.cp_language.specs.Input.{input_of}
use Rattle.cp_language.specs.Report.{report_forms}
use Rattle.cp_report.specs.Laws.{ArePrinted}
use Rattle.cp_report.specs.ReadBack.{Report}
use Rattle.cp_report.specs.UpToNames.{IsReport}
use Rattle.cp_printable.specs.Proper.{AreProper, AreWithinBounds}
use Rattle.cp_words.specs.declared.command.CommandName.{CommandName}
use Rattle.cp_words.specs.declared.command.CommandName.TheVariants.{Analyse}

-- The forms of an input, each with what it states, and the trees of their problems.
abbrev pub report_over : Forms → List Tree → Report
report_over forms trees = record { entries = input_of forms; trees = trees }

-- The forms that are printed for them, wherever they stand, are a report of this input and of these trees, the same but for the
-- names of variables, the places of forms, and the pairs that generate an order.
abbrev pub AreReadBack : Forms → List Tree → Type 0
AreReadBack forms trees = (fs : Forms) → ArePrinted fs forms trees → IsReport fs (report_over forms trees)

-- The forms of the report denote these trees, and their symbols and strings are such as the reader gives. So does the text that
-- `analyse` prints, where it can be read at all: what reading gives is this report. It can be read where its numbers have nine
-- digits at most and no more than 200 lists stand inside each other.
pub record IsReadBackAs (name : CommandName) (text : List ℕ) (input : Forms) (trees : List Tree) : Type 0 where
  pub forms : AreReadBack input trees
  pub proper : AreProper (forms_of (report_forms (input_of input) trees))
  pub report : name ≡ Analyse → (fs : Forms) → IsReading text (Ok fs) → IsReport fs (report_over input trees)
  pub readable : name ≡ Analyse → AreWithinBounds (forms_of (report_forms (input_of input) trees)) → (fs : Forms) × IsReading text (Ok fs)
