-- What the reports of the examples denote. Each holds by computing the definitions.
use Rattle.std.specs.Prelude.{◌≡◌, ℕ, List, [], ◌∷◌, map, false, refl, option_map, Option, Some, None}
use Rattle.std.specs.Fmt.{digits}
use Rattle.cp_lists.specs.Lists.{item_at}
use Rattle.cp_model.specs.Term.{text_variable, name_variable, key_term, asymmetric_term, symmetric_term, ltk_term, pubk_term, Term, atom_term, pair_term, enc_term}
use Rattle.cp_model.specs.declared.sort.Sort.TheVariants.{Text as text_sort}
use Rattle.cp_model.specs.Bundle.{node_at}
use Rattle.cp_model.specs.Tree.{Label, Tree}
use Rattle.cp_model.specs.declared.tree.Operation.TheVariants.{AddedListener as by_added_listener}
use Rattle.cp_sexpr.specs.Syntax.{Forms, forms_of}
use Rattle.cp_sexpr.specs.ReadBack.{all_unplaced}
use Rattle.cp_language.specs.Problems.{Problem}
use Rattle.cp_language.specs.Input.{Entry, stated}
use Rattle.cp_language.specs.Report.{report_forms}
use Rattle.cp_report.specs.ReadBack.{Report, report_of}
use Rattle.cp_report.proofs.Texts.{text_single, text_exchange, text_twice, text_keys}

-- ---- the same text again

-- The forms that are printed for a report.
abbrev printed : Report → Forms
printed r = forms_of (report_forms r.entries r.trees)

abbrev texts : List Forms
texts = text_single ∷ text_exchange ∷ text_twice ∷ text_keys ∷ []

each_again : map (λ (fs : Forms). all_unplaced (printed (report_of fs))) texts ≡ map all_unplaced texts
unfolding digits
each_again = refl

-- ---- some labels

-- A label of the first tree.
abbrev label_in : Report → ℕ → Option Label
label_in r n = of_first r.trees
  where
    of_first : List Tree → Option Label
    of_first [] = None
    of_first (t ∷ ts) = item_at t.labels n

abbrev text_of : ℕ → Term
text_of n = atom_term (text_variable n)

abbrev name_of : ℕ → Term
name_of n = atom_term (name_variable n)

-- The problem of the last form.
abbrev last_problem : List Entry → Option Problem
last_problem [] = None
last_problem (e ∷ []) = stated e
last_problem (e ∷ f ∷ es) = last_problem (f ∷ es)

-- Label 0 is the problem.
single_skeleton : option_map (λ l. l.skeleton) (label_in (report_of text_single) 0) ≡ option_map (λ p. p.skeleton) (last_problem (report_of text_single).entries)
unfolding digits
single_skeleton = refl

-- A local is a variable behind those of the label.
exchange_patterns : option_map (λ l. l.escape) (label_in (report_of text_exchange) 2) ≡ Some (
    record { term = enc_term (pair_term (text_of 2) (name_of 0)) (asymmetric_term false (pubk_term None 1)); locals = [] }
    ∷ record { term = enc_term (pair_term (text_of 2) (text_of 4)) (asymmetric_term false (pubk_term None 0)); locals = record { sort = text_sort; number = 4 } ∷ [] } ∷ [])
unfolding digits
exchange_patterns = refl

exchange_test : option_map (λ l. l.test) (label_in (report_of text_exchange) 2) ≡ Some (Some (record { node = node_at 1 0; critical = text_of 2 }))
unfolding digits
exchange_test = refl

exchange_operation : option_map (λ l. l.operation) (label_in (report_of text_exchange) 2) ≡ Some (by_added_listener 1)
unfolding digits
exchange_operation = refl

exchange_children : option_map (λ l. l.children) (label_in (report_of text_exchange) 1) ≡ Some (3 ∷ 4 ∷ [])
unfolding digits
exchange_children = refl

-- The collapse maps both strands to one, and both recorded origins with them.
twice_origins : option_map (λ l. l.skeleton.from_problem.assumptions.uniquely_originating) (label_in (report_of text_twice) 1) ≡ Some (
    record { value = text_variable 0; origin = node_at 0 0 } ∷ record { value = text_variable 0; origin = node_at 0 0 } ∷ [])
unfolding digits
twice_origins = refl

twice_values : option_map (λ l. l.skeleton.from_problem.values) (label_in (report_of text_twice) 1) ≡ Some (text_of 0 ∷ name_of 1 ∷ name_of 2 ∷ name_of 1 ∷ name_of 2 ∷ [])
unfolding digits
twice_values = refl

keys_assumption : option_map (λ l. l.skeleton.assumptions.non_originating) (label_in (report_of text_keys) 0) ≡ Some (key_term (symmetric_term (ltk_term 0 1)) ∷ [])
unfolding digits
keys_assumption = refl
