-- What an answer of the commands that print trees comes to, fact by fact: what was put is a report, its trees are those of the
-- search, and it is read back as these.
use Rattle.std.specs.Prelude.{◌≡◌, ℕ, ◌<◌, List, [], ◌++◌, length, take, Option, Some}
use Rattle.cp_base.specs.declared.status.Status.{Status}
use Rattle.cp_model.specs.Tree.{Tree, IsTrueOf}
use Rattle.cp_sexpr.specs.Syntax.{Forms}
use Rattle.cp_language.specs.Input.{Entry}
use Rattle.cp_language.specs.Report.{report_text}
use Rattle.cp_language.specs.ShapesText.{shapes_text}
use Rattle.cp_report.specs.ReadBack.{report_of}
use Rattle.cp_report.specs.UpToNames.{IsReport}
use Rattle.cp_words.specs.declared.command.Command.{Command}
use Rattle.cp_words.specs.declared.command.CommandName.{CommandName}
use Rattle.cp_words.specs.declared.command.CommandName.TheVariants.{Analyse, Shapes, Gen, Bench}
use Rattle.cp_app.specs.Headline.{HaveTrees, IsReportOf, SaysOutcomes}
use Rattle.cp_app.specs.Searched.{AreSearched}
use Rattle.cp_app.specs.ReadBack.{report_over, IsReadBackAs}

-- What a command prints of entries and trees: `analyse` the report, `shapes` the report without the labels that are not marked as
-- shapes, and the others none.
abbrev pub text_by : CommandName → List Entry → List Tree → List ℕ
text_by Analyse = report_text
text_by Shapes = shapes_text
text_by (Gen n) = λ entries trees. []
text_by (Bench n) = λ entries trees. []

-- At Done and Limit the source was read to its end, and what was put is what the command prints of a report of the whole input.
pub record HasReported (command : Command) (input before : List ℕ) (left_new held_new : Option (List ℕ)) (status : Status) : Type 0 where
  pub text : List ℕ
  pub trees : List Tree
  pub at_end : left_new ≡ Some []
  pub held : held_new ≡ Some (before ++ text)
  pub report : IsReportOf (text_by command.name) command.limits input text trees
  pub outcomes : SaysOutcomes status trees

-- At a write fault the source was read to its end, and what was put is a proper prefix of such a text.
pub record HasBrokenOffReport (command : Command) (input before : List ℕ) (left_new held_new : Option (List ℕ)) : Type 0 where
  pub text : List ℕ
  pub trees : List Tree
  pub put : ℕ
  pub shorter : put < length text
  pub at_end : left_new ≡ Some []
  pub held : held_new ≡ Some (before ++ take put text)
  pub report : IsReportOf (text_by command.name) command.limits input text trees

-- A report was put, and its trees are those of the search.
pub record HasReportedSearch (command : Command) (input before : List ℕ) (left_new held_new : Option (List ℕ)) (status : Status) : Type 0 where
  pub reported : HasReported command input before left_new held_new status
  pub searched : AreSearched command.limits reported.report.forms reported.trees

-- A report was broken off, and its trees are those of the search.
pub record HasBrokenOffSearch (command : Command) (input before : List ℕ) (left_new held_new : Option (List ℕ)) : Type 0 where
  pub broken_off : HasBrokenOffReport command input before left_new held_new
  pub searched : AreSearched command.limits broken_off.report.forms broken_off.trees

-- A report was put, whose trees are those of the search; its forms are read back as the input and these very trees, and so is the
-- text that `analyse` put.
pub record HasReportedReadBack (command : Command) (input before : List ℕ) (left_new held_new : Option (List ℕ)) (status : Status) : Type 0 where
  pub searched : HasReportedSearch command input before left_new held_new status
  pub read_back : IsReadBackAs command.name searched.reported.text searched.reported.report.forms searched.reported.trees

-- A report was put, and the trees that its forms denote, or that any forms denote which are the same report up to names, places and
-- pairs that generate an order, are true of their problems.
pub record HasReportedTruth (command : Command) (input before : List ℕ) (left_new held_new : Option (List ℕ)) (status : Status) : Type 0 where
  pub reported : HasReported command input before left_new held_new status
  pub denoted : (fs : Forms) → IsReport fs (report_over reported.report.forms reported.trees) → HaveTrees (λ p t. IsTrueOf p.protocol p.skeleton command.limits t) (report_of fs).entries (report_of fs).trees
