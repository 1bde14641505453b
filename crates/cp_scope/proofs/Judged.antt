-- The faults of a list in a term are its own and those of the items that are judged.
use Rattle.std.proofs.Common.{◌≡◌, ℕ, zero, suc, ◌≤◌, arith, List, [], ◌∷◌, ◌++◌, take, refl, sym, ap, ◌∙◌}
use Rattle.std.specs.Prelude.{Option, Some}
use Rattle.std.proofs.lemmas.List.{append_assoc, append-nil}
use Rattle.cp_base.specs.declared.place.Place.{Place}
use Rattle.cp_base.specs.declared.place.Refusal.{Refusal}
use Rattle.cp_lists.specs.Lists.{item_at}
use Rattle.cp_model.specs.declared.sort.Sort.{Sort}
use Rattle.cp_model.specs.declared.sort.Sort.TheVariants.{Name as name_sort, Akey as akey_sort}
use Rattle.cp_model.specs.declared.variable.Declaration.{Declaration}
use Rattle.cp_sexpr.specs.Syntax.{Form, symbol, string, number, list, forms_of}
use Rattle.cp_language.specs.declared.words.TermHead.{TermHead}
use Rattle.cp_language.specs.declared.words.TermHead.TheVariants.{Cat as cat, Enc as encrypt, Ltk as long_term_key, Pubk as public_key, Privk as private_key, Invk as inverse_key, OutOfProfile as operation_out_of_profile, Unknown as no_operation}
use Rattle.cp_language.specs.Words.{term_head}
use Rattle.cp_language.specs.Roles.{Headed, headed, each_faults}
use Rattle.cp_language.specs.Terms.{lacks, exceeds, sort_faults, sorts_faults, last_key_faults, all_faults, first_faults, operation_faults, name_faults, applied_faults, term_faults, each_term_faults}
use Rattle.cp_scope.specs.FirstFault.{first_onto}
use Rattle.cp_scope.specs.OwnFaults.{sort_faults_if, argument_faults, two_name_faults, key_name_faults, own_faults, judged_name, judged}
use Rattle.cp_scope.proofs.Firsts.{first_onto-append, moved_behind, moved_behind_two}
use Rattle.cp_scope.proofs.Sizes.{forms_size}
use Rattle.cp_scope.proofs.Views.{headed_is, items_of-forms_of}

module _ (ds : List Declaration) where
  each_term : List Form → List (List Refusal)
  each_term fs = each_term_faults ds (forms_of fs)

  all-each : (fs : List Form) → all_faults (each_term_faults ds (forms_of fs)) ≡ each_faults (term_faults ds) fs
  all-each [] = refl
  all-each (f ∷ fs) = ap (λ rs. term_faults ds f ++ rs) (all-each fs)

  first-one : (fs : List Form) → first_faults 1 (each_term_faults ds (forms_of fs)) ≡ each_faults (term_faults ds) (take 1 fs)
  first-one [] = refl
  first-one (f ∷ fs) = refl

  first-two : (fs : List Form) → first_faults 2 (each_term_faults ds (forms_of fs)) ≡ each_faults (term_faults ds) (take 2 fs)
  first-two [] = refl
  first-two (f ∷ []) = refl
  first-two (f ∷ g ∷ fs) = refl

  sorts-one : (s : Sort) (fs : List Form) → sorts_faults ds (s ∷ []) fs ≡ sort_faults_if ds s (item_at fs 0)
  sorts-one s [] = refl
  sorts-one s (f ∷ fs) = append-nil (sort_faults ds s f)

  sorts-two : (s : Sort) (fs : List Form) → sorts_faults ds (s ∷ s ∷ []) fs ≡ sort_faults_if ds s (item_at fs 0) ++ sort_faults_if ds s (item_at fs 1)
  sorts-two s [] = refl
  sorts-two s (f ∷ []) = refl
  sorts-two s (f ∷ g ∷ fs) = ap (λ rs. sort_faults ds s f ++ rs) (append-nil (sort_faults ds s g))

  argument-judged : (s : Sort) (at : Place) (fs : List Form) (o : Option Refusal)
      → first_onto o (operation_faults ds (s ∷ []) at fs (each_term_faults ds (forms_of fs))) ≡ first_onto (first_onto o (argument_faults ds s at fs)) (each_faults (term_faults ds) (take 1 fs))
  argument-judged s at fs o =
      moved_behind_two o (lacks 1 at fs) (first_faults 1 (each_term_faults ds (forms_of fs))) (sorts_faults ds (s ∷ []) fs) (exceeds 1 fs)
      ∙ ap (λ rs. first_onto (first_onto o (lacks 1 at fs ++ rs ++ exceeds 1 fs)) (first_faults 1 (each_term_faults ds (forms_of fs)))) (sorts-one s fs)
      ∙ ap (first_onto (first_onto o (argument_faults ds s at fs))) (first-one fs)

  two_names-judged : (at : Place) (fs : List Form) (o : Option Refusal)
      → first_onto o (operation_faults ds (name_sort ∷ name_sort ∷ []) at fs (each_term_faults ds (forms_of fs))) ≡ first_onto (first_onto o (two_name_faults ds at fs)) (each_faults (term_faults ds) (take 2 fs))
  two_names-judged at fs o =
      moved_behind_two o (lacks 2 at fs) (first_faults 2 (each_term_faults ds (forms_of fs))) (sorts_faults ds (name_sort ∷ name_sort ∷ []) fs) (exceeds 2 fs)
      ∙ ap (λ rs. first_onto (first_onto o (rs ++ exceeds 2 fs)) (first_faults 2 (each_term_faults ds (forms_of fs))))
      (ap (λ rs. lacks 2 at fs ++ rs) (sorts-two name_sort fs) ∙ sym (append_assoc (lacks 2 at fs) (sort_faults_if ds name_sort (item_at fs 0)) (sort_faults_if ds name_sort (item_at fs 1))))
      ∙ ap (first_onto (first_onto o (two_name_faults ds at fs))) (first-two fs)

  name-judged : (at : Place) (fs : List Form) (o : Option Refusal)
      → first_onto o (name_faults ds at fs (each_term_faults ds (forms_of fs))) ≡ first_onto (first_onto o (key_name_faults ds at fs)) (each_faults (term_faults ds) (judged_name fs))
  name-judged at [] o = argument-judged name_sort at [] o
  name-judged at (symbol p t ∷ fs) o = argument-judged name_sort at (symbol p t ∷ fs) o
  name-judged at (string p t ∷ fs) o = argument-judged name_sort at fs o
  name-judged at (number p n ∷ fs) o = argument-judged name_sort at (number p n ∷ fs) o
  name-judged at (list p gs ∷ fs) o = argument-judged name_sort at (list p gs ∷ fs) o

  applied-judged : (at : Place) (h : TermHead) (fs : List Form) (o : Option Refusal)
      → first_onto o (applied_faults ds at h fs (each_term_faults ds (forms_of fs))) ≡ first_onto (first_onto o (own_faults ds at h fs)) (each_faults (term_faults ds) (judged h fs))
  applied-judged at cat fs o =
      first_onto-append o (lacks 1 at fs) (all_faults (each_term_faults ds (forms_of fs))) ∙ ap (first_onto (first_onto o (lacks 1 at fs))) (all-each fs)
  applied-judged at encrypt fs o =
      moved_behind o (lacks 2 at fs) (all_faults (each_term_faults ds (forms_of fs))) (last_key_faults ds fs) ∙ ap (first_onto (first_onto o (lacks 2 at fs ++ last_key_faults ds fs))) (all-each fs)
  applied-judged at long_term_key fs o = two_names-judged at fs o
  applied-judged at public_key fs o = name-judged at fs o
  applied-judged at private_key fs o = name-judged at fs o
  applied-judged at inverse_key fs o = argument-judged akey_sort at fs o
  applied-judged at operation_out_of_profile fs o = refl
  applied-judged at no_operation fs o = refl

  pub term-judged : (f : Form) (h : Headed) → Some h ≡ headed f → (o : Option Refusal)
      → first_onto o (term_faults ds f) ≡ first_onto (first_onto o (own_faults ds h.at (term_head h.head) h.items)) (each_faults (term_faults ds) (judged (term_head h.head) h.items))
  term-judged f h e o =
      ap (λ g. first_onto o (term_faults ds g)) (headed_is f h (sym e)).whole
      ∙ ap (λ gs. first_onto o (applied_faults ds h.at (term_head h.head) gs (each_term_faults ds (forms_of h.items)))) (items_of-forms_of h.items)
      ∙ applied-judged h.at (term_head h.head) h.items o

-- ---- sizes

smaller_take : (n : ℕ) (fs : List Form) → forms_size (take n fs) ≤ forms_size fs
smaller_take zero [] = omega arith
smaller_take zero (f ∷ fs) = let inner = smaller_take zero fs in omega (arith, inner)
smaller_take (suc n) [] = omega arith
smaller_take (suc n) (f ∷ fs) = let inner = smaller_take n fs in omega (arith, inner)

smaller_name : (fs : List Form) → forms_size (judged_name fs) ≤ forms_size fs
smaller_name [] = smaller_take 1 []
smaller_name (symbol p t ∷ fs) = smaller_take 1 (symbol p t ∷ fs)
smaller_name (string p t ∷ fs) = let inner = smaller_take 1 fs in omega (arith, inner)
smaller_name (number p n ∷ fs) = smaller_take 1 (number p n ∷ fs)
smaller_name (list p gs ∷ fs) = smaller_take 1 (list p gs ∷ fs)

pub smaller_none : (fs : List Form) → forms_size [] ≤ forms_size fs
smaller_none [] = omega arith
smaller_none (f ∷ fs) = let inner = smaller_none fs in omega (arith, inner)

pub judged-smaller : (h : TermHead) (fs : List Form) → forms_size (judged h fs) ≤ forms_size fs
judged-smaller cat fs = omega arith
judged-smaller encrypt fs = omega arith
judged-smaller long_term_key fs = smaller_take 2 fs
judged-smaller public_key fs = smaller_name fs
judged-smaller private_key fs = smaller_name fs
judged-smaller inverse_key fs = smaller_take 1 fs
judged-smaller operation_out_of_profile fs = smaller_none fs
judged-smaller no_operation fs = smaller_none fs
