-- The command `bench`.
use Rattle.std.specs.Prelude.{◌≡◌, ℕ, ◌+◌, List, [], ◌∷◌, length, codes, decimal, nat_lt, if◌then◌else◌}
use Rattle.std.specs.List.{concat}
use Rattle.cp_base.specs.declared.status.Status.{Status}
use Rattle.cp_base.specs.declared.status.Status.TheVariants.{Done, Limit}
use Rattle.cp_model.specs.Tree.{Tree, IsTrueOf, expanded_count}
use Rattle.cp_model.specs.declared.tree.Limits.{Limits}
use Rattle.cp_model.specs.declared.tree.Outcome.{Outcome}
use Rattle.cp_model.specs.declared.tree.Outcome.TheVariants.{Complete}
use Rattle.cp_language.specs.Input.{input_of}
use Rattle.cp_language.specs.Report.{shape_count}
use Rattle.cp_generate.specs.Generated.{generated_forms}
use Rattle.cp_app.specs.Headline.{HaveTrees}

-- ---- sums over trees

abbrev pub total : (Tree → ℕ) → List Tree → ℕ
total number [] = 0
total number (t ∷ ts) = number t + total number ts

abbrev pub label_total : List Tree → ℕ
label_total = total (λ t. length t.labels)

abbrev pub expanded_total : List Tree → ℕ
expanded_total = total (λ t. expanded_count t.labels)

abbrev pub shape_total : List Tree → ℕ
shape_total = total (λ t. shape_count t.labels)

abbrev pub one_if_complete : Outcome → ℕ
one_if_complete Complete = 1
one_if_complete _ = 0

abbrev pub complete_total : List Tree → ℕ
complete_total = total (λ t. one_if_complete t.outcome)

-- ---- the answer

-- The line for n problems of these sums: how many labels there are, how many were expanded, how many are shapes, and how many trees
-- are complete.
abbrev pub bench_line : ℕ → ℕ → ℕ → ℕ → ℕ → List ℕ
bench_line n labels expanded shapes complete =
    concat (codes "(bench " ∷ decimal n ∷ codes " labels " ∷ decimal labels ∷ codes " expanded " ∷ decimal expanded ∷ codes " shapes " ∷ decimal shapes
    ∷ codes " complete " ∷ decimal complete ∷ codes ")" ∷ (10 ∷ []) ∷ [])

-- It ends at Limit exactly where fewer trees than n are complete, and else it is done.
abbrev pub bench_status : ℕ → ℕ → Status
bench_status n complete = if nat_lt complete n then Limit else Done

-- The n problems that are generated have these trees, each its own, which are true of them, and the line has the sums over the trees.
pub record IsBenchmark (n : ℕ) (limits : Limits) (text : List ℕ) (status : Status) : Type 0 where
  pub trees : List Tree
  pub true_trees : HaveTrees (λ p t. IsTrueOf p.protocol p.skeleton limits t) (input_of (generated_forms n)) trees
  pub printed : text ≡ bench_line n (label_total trees) (expanded_total trees) (shape_total trees) (complete_total trees)
  pub ends : status ≡ bench_status n (complete_total trees)

abbrev pub BenchAnswers : ℕ → Limits → List ℕ → List ℕ → Status → Type 0
BenchAnswers n limits input text status = IsBenchmark n limits text status
