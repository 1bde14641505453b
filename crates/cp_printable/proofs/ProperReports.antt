-- A report is proper, where the forms of its input and what is printed of its trees are.
use Rattle.std.proofs.Common.{List, [], ◌∷◌, ◌++◌, Option, Some, None}
use Rattle.std.specs.List.{AllZip, cons_option, filter_map}
use Rattle.cp_lists.specs.Lists.{IsIn, here, there}
use Rattle.cp_model.specs.Tree.{Tree}
use Rattle.cp_sexpr.specs.Syntax.{Form, forms_of}
use Rattle.cp_language.specs.Problems.{Problem}
use Rattle.cp_language.specs.Input.{Entry, form_of, stated}
use Rattle.cp_language.specs.Report.{tree_forms, report_from, report_forms}
use Rattle.cp_printable.specs.Proper.{IsProper, AreProper}

-- What is printed of the tree is proper.
abbrev IsPrinted : Problem → Tree → Type 0
IsPrinted p t = AreProper (forms_of (tree_forms p t))

one_behind : (fs gs : List Form) → AreProper (forms_of fs) → AreProper (forms_of gs) → AreProper (forms_of (fs ++ gs))
one_behind [] gs first second = second
one_behind (f ∷ fs) gs first second = (first.0, one_behind fs gs first.1 second)

-- an entry, with the tree of its problem where it states one
entry_is_proper : (f : Form) (o : Option Problem) (ps : List Problem) (trees : List Tree) (rest : List Tree → List Form) → IsProper f → AllZip IsPrinted (cons_option o ps) trees
    → ((ts : List Tree) → AllZip IsPrinted ps ts → AreProper (forms_of (rest ts))) → AreProper (forms_of (report_from f o trees rest))
entry_is_proper f None ps trees rest form each later = (form, later trees each)
entry_is_proper f (Some p) ps [] rest form each later = absurd each
entry_is_proper f (Some p) ps (t ∷ ts) rest form each later = (form, one_behind (tree_forms p t) (rest ts) each.0 (later ts each.1))

pub report_is_proper : (entries : List Entry) (trees : List Tree) → ((e : Entry) → IsIn e entries → IsProper (form_of e))
    → AllZip (λ (p : Problem) (t : Tree). AreProper (forms_of (tree_forms p t))) (filter_map stated entries) trees → AreProper (forms_of (report_forms entries trees))
report_is_proper [] trees forms each = tt
report_is_proper (e ∷ es) trees forms each =
    entry_is_proper (form_of e) (stated e) (filter_map stated es) trees (report_forms es) (forms e here) each
    (λ ts zip. report_is_proper es ts (λ d i. forms d (there i)) zip)
