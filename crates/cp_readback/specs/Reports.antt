-- What a report that was read back stands for, and the parts that it is made of.
use Rattle.std.specs.Prelude.{◌≡◌, ℕ, zero, suc, List, [], ◌∷◌, map, Option, Some, None}
use Rattle.cp_base.specs.declared.place.Place.{Place}
use Rattle.cp_lists.specs.Lists.{item_at}
use Rattle.cp_model.specs.Tree.{Tree}
use Rattle.cp_sexpr.specs.Syntax.{Form}
use Rattle.cp_language.specs.Problems.{Problem}
use Rattle.cp_language.specs.Input.{stated, entries_from}
use Rattle.cp_load.specs.UncheckedProblems.{unchecked_entry_view}
use Rattle.cp_load.specs.Inputs.{entry_view}
use Rattle.cp_load.specs.declared.unchecked_problems.UncheckedEntry.{UncheckedEntry}
use Rattle.cp_report.specs.ReadBack as report
use Rattle.cp_readback.specs.declared.report.Report.{Report}

abbrev pub report_view : Report → report.Report
report_view r = record { entries = map entry_view r.entries.items; trees = r.trees.items }

-- The forms of the input.
abbrev pub forms_in : List report.Section → List Form
forms_in ss = map (λ s. s.form) ss

-- For each form of the input the problem that it states, if it states one.
abbrev pub problems_stated : List report.Section → List (Option Problem)
problems_stated ss = map stated (entries_from [] (forms_in ss))

-- For each unchecked entry the problem that it has, if it has one.
abbrev pub all_unchecked_view : List UncheckedEntry → List (Option Problem)
all_unchecked_view us = map stated (map unchecked_entry_view us)

-- The problem at a place, if there is such a place and it has one.
abbrev pub problem_at : List (Option Problem) → ℕ → Option Problem
problem_at [] n = None
problem_at (o ∷ os) zero = o
problem_at (o ∷ os) (suc n) = problem_at os n

-- The trees that stand behind the forms that state these problems.
abbrev pub trees_by : List (Option Problem) → List report.Section → List Tree
trees_by [] ss = []
trees_by (o ∷ os) [] = []
trees_by (o ∷ os) (s ∷ ss) = report.tree_onto o s.behind (trees_by os ss)

-- Behind each form that states a problem stands a tree for it.
abbrev pub AreFollowedByTrees : List (Option Problem) → List report.Section → Type 0
AreFollowedByTrees os ss = (n : ℕ) (p : Problem) (s : report.Section) → problem_at os n ≡ Some p → item_at ss n ≡ Some s → (next : Place) × (report.tree_misfits (Some p) next s.behind ≡ [])
