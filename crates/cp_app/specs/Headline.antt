-- The headline of `run`, top to bottom: what the command `analyse` accepts, refuses and answers. The other commands are in
-- `Shapes.antt`, `Gen.antt` and `Bench.antt`; what the clauses of `run` say of any command, in `Commands.antt`, `Answered.antt` and
-- `Endings.antt`; that the trees are those of the search, and what is read back, in `Details.antt`.
use Rattle.std.specs.Prelude.{◌≡◌, ◌≢◌, ℕ, ◌≤◌, List, [], length}
use Rattle.std.specs.List.{AllZip, filter_map}
use Rattle.cp_base.specs.declared.place.Refusal.{Refusal}
use Rattle.cp_base.specs.declared.status.Status.{Status}
use Rattle.cp_base.specs.declared.status.Status.TheVariants.{Done, Limit}
use Rattle.cp_model.specs.Tree.{Label, Tree, IsTrueOf}
use Rattle.cp_model.specs.declared.tree.Outcome.TheVariants.{Complete as complete}
use Rattle.cp_model.specs.declared.tree.Limits.{Limits}
use Rattle.cp_lists.specs.Lists.{IsIn}
use Rattle.cp_sexpr.specs.Syntax.{Forms}
use Rattle.cp_sexpr.specs.Written.{IsWritten}
use Rattle.cp_language.specs.FirstFault.{IsFirstFault}
use Rattle.cp_language.specs.Problems.{Problem}
use Rattle.cp_language.specs.Input.{Entry, stated, faults_of, input_of}
use Rattle.cp_language.specs.Report.{HasItsVariables, report_text}

-- ---- the input

-- The greatest number of bytes of an input.
abbrev pub most_bytes : ℕ
most_bytes = 1048576

-- Nothing is refused of the forms.
abbrev pub AreWellFormed : Forms → Type 0
AreWellFormed fs = faults_of fs ≡ []

-- The forms are refused for their first fault.
abbrev pub AreFaulty : Forms → Refusal → Type 0
AreFaulty fs r = IsFirstFault (faults_of fs) r

-- The whole input, of at most `most_bytes` bytes, is these forms, and they are accepted.
pub record IsAccepted (Accepts : Forms → Type 0) (input : List ℕ) (fs : Forms) : Type 0 where
  pub short : length input ≤ most_bytes
  pub read : IsWritten input fs
  pub accepts : Accepts fs

-- ---- the report

-- The problems that entries state have these trees, each its own, in the same order; and P holds of each problem and its tree.
abbrev pub HaveTrees : (Problem → Tree → Type 0) → List Entry → List Tree → Type 0
HaveTrees P entries trees = AllZip P (filter_map stated entries) trees

-- The text is what is printed of one report over the forms of the input: each problem has its tree, which is true of it and
-- whose labels have their variables, and the text is what `printed_of` gives for the forms and these trees.
pub record IsReportOf (printed_of : List Entry → List Tree → List ℕ) (limits : Limits) (input text : List ℕ) (trees : List Tree) : Type 0 where
  pub forms : Forms
  pub accepted : IsAccepted AreWellFormed input forms
  pub true_trees : HaveTrees (λ p t. IsTrueOf p.protocol p.skeleton limits t) (input_of forms) trees
  pub variables : HaveTrees (λ p t. (l : Label) → IsIn l t.labels → HasItsVariables p l) (input_of forms) trees
  pub printed : text ≡ printed_of (input_of forms) trees

-- Done says that every outcome is complete, and Limit that some outcome is a limit.
abbrev pub SaysOutcomes : Status → List Tree → Type 0
SaysOutcomes Done trees = (t : Tree) → IsIn t trees → t.outcome ≡ complete
SaysOutcomes Limit trees = (t : Tree) × IsIn t trees × (t.outcome ≢ complete)
SaysOutcomes _ trees = ⊥

-- The text is that of a report of the whole input, and the status says its outcomes.
pub record IsReported (printed_of : List Entry → List Tree → List ℕ) (limits : Limits) (input text : List ℕ) (status : Status) : Type 0 where
  pub trees : List Tree
  pub report : IsReportOf printed_of limits input text trees
  pub outcomes : SaysOutcomes status trees

-- ---- the command `analyse`

-- It prints the whole report.
abbrev pub AnalyseAnswers : Limits → List ℕ → List ℕ → Status → Type 0
AnalyseAnswers = IsReported report_text
