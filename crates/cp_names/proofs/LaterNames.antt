-- The names of a label's variables when none is left.
use Rattle.std.proofs.Common.{◌≡◌, ℕ, ◌≤◌, List, ◌++◌, length, drop, Bool, sym, ap, ◌∙◌}
use Rattle.std.proofs.lemmas.List.{append-nil, drop_all}
use Rattle.cp_model.specs.declared.variable.Declaration.{Declaration}
use Rattle.cp_names.specs.Flags.{later_names_by, label_names_by}
use Rattle.cp_names.proofs.NamesByFlags.{behind_is}

pub all_named : (of_problem : List (List ℕ)) (flags : List Bool) (variables : List Declaration) (taken : List (List ℕ)) (n : ℕ) (names : List (List ℕ)) → length variables ≤ n
    → names ++ later_names_by taken flags n (drop n variables) ≡ of_problem ++ later_names_by of_problem flags (length of_problem) (drop (length of_problem) variables)
    → names ≡ label_names_by of_problem flags variables
all_named of_problem flags variables taken n names past e =
    sym (append-nil names)
    ∙ sym (ap (λ ds. names ++ later_names_by taken flags n ds) (drop_all n variables past))
    ∙ e
    ∙ ap (λ ds. of_problem ++ later_names_by of_problem flags (length of_problem) ds) (sym (behind_is (length of_problem) variables))
