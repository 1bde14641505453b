-- What is printed of an input and of the analyses of its problems is proper.
use Rattle.std.proofs.Common.{◌≡◌, List, []}
use Rattle.std.specs.List.{filter_map}
use Rattle.cp_lists.specs.Lists.{IsIn}
use Rattle.cp_lists.proofs.Members.{zip_listed}
use Rattle.cp_model.specs.Strand.{Role}
use Rattle.cp_model.specs.Skeleton.{IsSkeleton}
use Rattle.cp_model.specs.PointOfView.{IsPointOfView}
use Rattle.cp_model.specs.Tree.{Label, Tree}
use Rattle.cp_model.specs.declared.tree.Limits.{Limits}
use Rattle.cp_sexpr.specs.Syntax.{Forms, forms_of}
use Rattle.cp_language.specs.Problems.{Problem}
use Rattle.cp_language.specs.Input.{stated, faults_of, input_of}
use Rattle.cp_language.specs.Report.{tree_forms, report_forms}
use Rattle.cp_language.proofs.Problems.{are_skeletons, map_to_themselves, roles_are_well_formed}
use Rattle.cp_printable.specs.Proper.{IsStringText, IsSymbolText, AreProper}
use Rattle.cp_printable.specs.Spelled.{IsSpelledProblem, IsSpelledLabel}
use Rattle.cp_printable.proofs.StringTexts.{string_text_or_not}
use Rattle.cp_printable.proofs.SpelledInput.{form_is_proper, problem_is_spelled}
use Rattle.cp_printable.proofs.ProperTrees.{tree_is_proper}
use Rattle.cp_printable.proofs.ProperReports.{report_is_proper}
use Rattle.cp_model.specs.Declares.{DeclaresItsVariables}
use Rattle.cp_printable.proofs.Labels.{labels_spelled}
use Rattle.cp_app.specs.Headline.{HaveTrees}
use Rattle.cp_app.specs.Analysis.{IsAnalysisOf}
use Rattle.cp_app.proofs.Trees.{entry_of}

-- The tree of a problem whose strings and identifiers the reader gives.
tree_proper : (limits : Limits) (p : Problem) (t : Tree) → IsSpelledProblem IsStringText IsSymbolText p → ((role : Role) → IsIn role p.protocol.roles → DeclaresItsVariables role) → IsSkeleton p.protocol p.skeleton
    → IsPointOfView p.variables p.skeleton → IsAnalysisOf limits p t → AreProper (forms_of (tree_forms p t))
tree_proper limits p t spelled declares sk own analysis =
    let labels : (l : Label) → IsIn l t.labels → IsSpelledLabel IsStringText IsSymbolText l =
    labels_spelled IsStringText IsSymbolText string_text_or_not p.protocol declares spelled.roles p.skeleton p.variables limits t sk own spelled.skeleton spelled.variables analysis.searched in
    tree_is_proper p t spelled.variables analysis.variables labels

pub analyses_are_proper : (limits : Limits) (input : Forms) (trees : List Tree) → AreProper input → faults_of input ≡ [] → HaveTrees (IsAnalysisOf limits) (input_of input) trees
    → AreProper (forms_of (report_forms (input_of input) trees))
analyses_are_proper limits input trees proper well_formed analysed =
    report_is_proper (input_of input) trees (λ e i. form_is_proper input e proper i)
    (zip_listed (IsAnalysisOf limits) (λ p t. AreProper (forms_of (tree_forms p t))) (filter_map stated (input_of input)) trees each analysed)
  where
    each : (p : Problem) (t : Tree) → IsIn p (filter_map stated (input_of input)) → IsAnalysisOf limits p t → AreProper (forms_of (tree_forms p t))
    each p t listed analysis =
        let found = entry_of (input_of input) p listed in
        tree_proper limits p t (problem_is_spelled input found.0 p proper well_formed found.1 found.2) (λ r i. (roles_are_well_formed input found.0 p r well_formed found.1 found.2 i).trace)
        (are_skeletons input found.0 p well_formed found.1 found.2) (map_to_themselves input found.0 p well_formed found.1 found.2) analysis
