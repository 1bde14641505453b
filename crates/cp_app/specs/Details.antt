-- What the clauses of `run` say of the answers of a command beyond the headline: their trees are those of the search, the forms of
-- the report are read back as these trees, and what they denote is true.
use Rattle.std.specs.Prelude.{ℕ, List}
use Rattle.cp_base.specs.declared.status.Status.{Status}
use Rattle.cp_model.specs.Tree.{Tree, IsTrueOf}
use Rattle.cp_model.specs.declared.tree.Limits.{Limits}
use Rattle.cp_sexpr.specs.Syntax.{Forms}
use Rattle.cp_language.specs.Input.{Entry}
use Rattle.cp_language.specs.Report.{report_text}
use Rattle.cp_language.specs.ShapesText.{shapes_text}
use Rattle.cp_report.specs.ReadBack.{report_of}
use Rattle.cp_report.specs.UpToNames.{IsReport}
use Rattle.cp_words.specs.declared.command.Command.{Command}
use Rattle.cp_words.specs.declared.command.CommandName.{CommandName}
use Rattle.cp_words.specs.declared.command.CommandName.TheVariants.{Analyse, Shapes, Gen, Bench}
use Rattle.cp_generate.specs.Generated.{generated_forms}
use Rattle.cp_app.specs.Headline.{HaveTrees, IsReported}
use Rattle.cp_app.specs.Gen.{GenAnswers}
use Rattle.cp_app.specs.Bench.{IsBenchmark}
use Rattle.cp_app.specs.Searched.{AreSearched}
use Rattle.cp_app.specs.ReadBack.{report_over, IsReadBackAs}

-- The text is that of a report of the whole input, and its trees are those of the search. Reading back the forms of the whole report
-- gives these trees, and so does the text of `analyse`, if it can be read. All forms that are this report up to names, places and
-- pairs that generate an order denote trees that are true of their problems.
pub record IsReportedInDetail (name : CommandName) (printed_of : List Entry → List Tree → List ℕ) (limits : Limits) (input text : List ℕ) (status : Status) : Type 0 where
  pub reported : IsReported printed_of limits input text status
  pub searched : AreSearched limits reported.report.forms reported.trees
  pub read_back : IsReadBackAs name text reported.report.forms reported.trees
  pub denoted : (fs : Forms) → IsReport fs (report_over reported.report.forms reported.trees) → HaveTrees (λ p t. IsTrueOf p.protocol p.skeleton limits t) (report_of fs).entries (report_of fs).trees

-- The trees of the problems that are generated are those of the search.
pub record IsBenchmarkInDetail (n : ℕ) (limits : Limits) (text : List ℕ) (status : Status) : Type 0 where
  pub benchmark : IsBenchmark n limits text status
  pub searched : AreSearched limits (generated_forms n) benchmark.trees

-- Within these limits the commands of this name put this text for this input and end with this status.
abbrev pub AnswersInDetailBy : CommandName → Limits → List ℕ → List ℕ → Status → Type 0
AnswersInDetailBy Analyse = IsReportedInDetail Analyse report_text
AnswersInDetailBy Shapes = IsReportedInDetail Shapes shapes_text
AnswersInDetailBy (Gen n) = GenAnswers n
AnswersInDetailBy (Bench n) = λ limits input text status. IsBenchmarkInDetail n limits text status

-- The command puts this text for this input and ends with this status.
abbrev pub AnswersInDetail : Command → List ℕ → List ℕ → Status → Type 0
AnswersInDetail command = AnswersInDetailBy command.name command.limits
