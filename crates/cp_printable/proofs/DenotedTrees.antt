-- Trees that forms denote are true of the problems that these state, where they are the same as trees that are true.
use Rattle.std.proofs.Common.{◌≡◌, ◌⊎◌, inl, inr, List, [], ◌∷◌, Option, Some, None, refl, ap₂, subst, ⊎_elim}
use Rattle.std.specs.List.{AllZip, cons_option, filter_map}
use Rattle.cp_lists.specs.Lists.{IsIn, here, there}
use Rattle.cp_model.specs.Senders.{ArePaired}
use Rattle.cp_model.specs.PointOfView.{StatesItself}
use Rattle.cp_model.specs.Tree.{Tree, IsTrueOf}
use Rattle.cp_model.specs.declared.tree.Limits.{Limits}
use Rattle.cp_model.proofs.SingleMaps.{states_itself}
use Rattle.cp_sexpr.specs.Syntax.{Forms}
use Rattle.cp_language.specs.Problems.{Problem}
use Rattle.cp_language.specs.Input.{Entry, stated, faults_of, input_of}
use Rattle.cp_language.proofs.Problems.{map_to_themselves}
use Rattle.cp_report.specs.ReadBack.{report_of}
use Rattle.cp_report.specs.UpToNames.{IsSameTree, IsSameEntry, IsReport}
use Rattle.cp_report.specs.Laws.{ArePrinted, CanBeStated}
use Rattle.cp_report.proofs.Premises.{reads_back}
use Rattle.cp_printable.specs.TrueTrees.{HasOrderPairs, AreTrueOf}
use Rattle.cp_printable.proofs.SameTrees.{same_true}
use Rattle.cp_printable.proofs.FittingPairs.{denoted_pairs}

-- ---- problems

-- A problem is that of the first entry, or of a later one.
in_next : (o : Option Problem) (ps : List Problem) (p : Problem) → IsIn p (cons_option o ps) → (o ≡ Some p) ⊎ IsIn p ps
in_next None ps p i = inr i
in_next (Some q) ps p here = inl refl
in_next (Some q) ps p (there i) = inr i

-- Each of the problems is that of an entry.
problem_of : (es : List Entry) (p : Problem) → IsIn p (filter_map stated es) → (e : Entry) × IsIn e es × (stated e ≡ Some p)
problem_of [] p i = elim i [ ]
problem_of (e ∷ es) p i = ⊎_elim (λ is. (e, here, is)) (λ j. let r = problem_of es p j in (r.0, there r.1, r.2)) (in_next (stated e) (filter_map stated es) p i)

-- Entries that are the same state the same problems.
same_problems : (ds es : List Entry) → ArePaired IsSameEntry ds es → filter_map stated ds ≡ filter_map stated es
same_problems [] [] p = refl
same_problems [] (e ∷ es) p = absurd p
same_problems (d ∷ ds) [] p = absurd p
same_problems (d ∷ ds) (e ∷ es) p = ap₂ cons_option p.0.problem (same_problems ds es p.1)

-- ---- trees

abbrev IsTrue : Limits → Problem → Tree → Type 0
IsTrue limits p t = IsTrueOf p.protocol p.skeleton limits t

-- Trees that are the same as true ones, one by one, are true.
all_true : (limits : Limits) (ps : List Problem) (ts us : List Tree) → ((p : Problem) → IsIn p ps → StatesItself p.variables p.skeleton) → ((u : Tree) → IsIn u us → HasOrderPairs u)
    → AllZip (IsTrue limits) ps ts → ArePaired IsSameTree ts us → AllZip (IsTrue limits) ps us
all_true limits [] [] [] own pairs is same = tt
all_true limits [] [] (u ∷ us) own pairs is same = absurd same
all_true limits [] (t ∷ ts) us own pairs is same = absurd is
all_true limits (p ∷ ps) [] us own pairs is same = absurd is
all_true limits (p ∷ ps) (t ∷ ts) [] own pairs is same = absurd same
all_true limits (p ∷ ps) (t ∷ ts) (u ∷ us) own pairs is same = (
  same_true p.protocol p.skeleton p.variables (own p here) limits t u (pairs u here) is.0 same.0,
  all_true limits ps ts us (λ q i. own q (there i)) (λ v i. pairs v (there i)) is.1 same.1,
)

-- Forms that are a report of true trees.
pub report_true : (input : Forms) (trees : List Tree) (limits : Limits) (fs : Forms) → faults_of input ≡ [] → IsReport fs (record { entries = input_of input; trees = trees })
    → AreTrueOf limits (input_of input) trees → AreTrueOf limits (report_of fs).entries (report_of fs).trees
report_true input trees limits fs well_formed report is =
    subst (λ (ps : List Problem). AllZip (IsTrue limits) ps (report_of fs).trees) (same_problems (input_of input) (report_of fs).entries report.same.entries)
    (all_true limits (filter_map stated (input_of input)) trees (report_of fs).trees
    (λ p i. let r = problem_of (input_of input) p i in states_itself (map_to_themselves input r.0 p well_formed r.1 r.2))
    (denoted_pairs fs report.fits) is report.same.trees)

-- Forms that are printed for true trees.
pub printed_true : (input : Forms) (trees : List Tree) (limits : Limits) (fs : Forms) → CanBeStated input trees → ArePrinted fs input trees
    → AreTrueOf limits (input_of input) trees → AreTrueOf limits (report_of fs).entries (report_of fs).trees
printed_true input trees limits fs can printed is = report_true input trees limits fs can.well_formed (reads_back input trees fs can printed) is
