-- A list in a term fits where it does itself and the items do that have to be terms.
use Rattle.std.proofs.Common.{◌≡◌, ℕ, ◌≤◌, arith, List, [], ◌∷◌, ◌++◌, Bool, true, false, ◌&&◌, if◌then◌else◌, refl, sym, ap, ◌∙◌}
use Rattle.std.specs.Prelude.{Option, Some, None, codes}
use Rattle.cp_base.specs.declared.place.Place.{Place}
use Rattle.cp_model.specs.Same.{same_text}
use Rattle.cp_sexpr.specs.Syntax.{Form, symbol, string, number, list, forms_of}
use Rattle.cp_language.specs.declared.words.TermHead.{TermHead}
use Rattle.cp_language.specs.declared.words.TermHead.TheVariants.{Cat as cat, Enc as encrypt, Ltk as long_term_key, Pubk as public_key, Privk as private_key, Invk as inverse_key, OutOfProfile as operation_out_of_profile, Unknown as no_operation}
use Rattle.cp_language.specs.Words.{term_head}
use Rattle.cp_language.specs.Faults.{items_of}
use Rattle.cp_language.specs.Roles.{Headed, headed, front_of, last_form}
use Rattle.cp_report.specs.Misfits.{place_before, lacking, all_misfits, each_misfits}
use Rattle.cp_report.specs.Spelled.{Scope, local_misfits, name_misfits, variables_misfits, spread_misfits, last_key_misfits, applied_misfits, term_misfits, each_term_misfits, value_misfits}
use Rattle.cp_model.specs.declared.variable.Variable.{Variable}
use Rattle.cp_model.specs.declared.sort.Sort.TheVariants.{Name as name_sort}
use Rattle.cp_spelled.specs.FirstMisfit.{first_onto}
use Rattle.cp_spelled.specs.Own.{wanted_sort_misfits, own_misfits, judged_in_report, headed_misfits, headed_judged}
use Rattle.cp_scope.proofs.FirstOf.{moved_behind, moved_behind_two}
use Rattle.cp_spelled.proofs.Firsts.{in_order}
use Rattle.cp_scope.specs.OwnFaults.{behind_purpose}
use Rattle.cp_scope.proofs.Judged.{smaller_none}
use Rattle.cp_scope.proofs.Sizes.{forms_size}
use Rattle.cp_scope.proofs.Views.{headed_is, items_of-forms_of}

module _ (s : Scope) where
  all-each : (fs : List Form) → all_misfits (each_term_misfits s (forms_of fs)) ≡ each_misfits (term_misfits s) fs
  all-each [] = refl
  all-each (f ∷ fs) = ap (λ rs. term_misfits s f ++ rs) (all-each fs)

  applied-judged : (at : Place) (h : TermHead) (fs : List Form) (o : Option Place)
      → first_onto o (applied_misfits s at h fs (each_term_misfits s (forms_of fs))) ≡ first_onto (first_onto o (own_misfits s at h fs)) (each_misfits (term_misfits s) (judged_in_report h fs))
  applied-judged at cat fs o =
      moved_behind place_before in_order o (lacking 2 at fs) (all_misfits (each_term_misfits s (forms_of fs))) (spread_misfits (last_form fs))
      ∙ ap (first_onto (first_onto o (lacking 2 at fs ++ spread_misfits (last_form fs)))) (all-each fs)
  applied-judged at encrypt fs o =
      moved_behind_two place_before in_order o (lacking 2 at fs) (all_misfits (each_term_misfits s (forms_of fs))) (spread_misfits (last_form (front_of fs))) (last_key_misfits s (last_form fs))
      ∙ ap (first_onto (first_onto o (lacking 2 at fs ++ spread_misfits (last_form (front_of fs)) ++ last_key_misfits s (last_form fs)))) (all-each fs)
  applied-judged at long_term_key fs o = refl
  applied-judged at public_key fs o = refl
  applied-judged at private_key fs o = refl
  applied-judged at inverse_key fs o = refl
  applied-judged at operation_out_of_profile fs o = refl
  applied-judged at no_operation fs o = refl

  pub term-judged : (f : Form) (h : Headed) → Some h ≡ headed f → (o : Option Place)
      → first_onto o (term_misfits s f) ≡ first_onto (first_onto o (headed_misfits s h.at h.head h.items)) (each_misfits (term_misfits s) (headed_judged s h.head h.items))
  term-judged f h e o = ap (λ g. first_onto o (term_misfits s g)) (headed_is f h (sym e)).whole ∙ by_any (same_text h.head (codes "any") && s.in_pattern)
    where
      by_any : (b : Bool) → first_onto o (if b then local_misfits h.at (items_of (forms_of h.items)) else applied_misfits s h.at (term_head h.head) (items_of (forms_of h.items)) (each_term_misfits s (forms_of h.items)))
          ≡ first_onto (first_onto o (if b then local_misfits h.at h.items else own_misfits s h.at (term_head h.head) h.items)) (each_misfits (term_misfits s) (if b then [] else judged_in_report (term_head h.head) h.items))
      by_any true = ap (λ gs. first_onto o (local_misfits h.at gs)) (items_of-forms_of h.items)
      by_any false =
          ap (λ gs. first_onto o (applied_misfits s h.at (term_head h.head) gs (each_term_misfits s (forms_of h.items)))) (items_of-forms_of h.items)
          ∙ applied-judged h.at (term_head h.head) h.items o

  pub value-wanted : (x : Option Variable) (f : Form) → wanted_sort_misfits s x f ++ term_misfits s f ≡ value_misfits s x f
  value-wanted None f = refl
  value-wanted (Some x) f = refl

  pub name-behind : (at : Place) (fs : List Form) → variables_misfits s (name_sort ∷ []) at (behind_purpose fs) ≡ name_misfits s at fs
  name-behind at [] = refl
  name-behind at (symbol p t ∷ fs) = refl
  name-behind at (string p t ∷ fs) = refl
  name-behind at (number p n ∷ fs) = refl
  name-behind at (list p gs ∷ fs) = refl

-- ---- sizes

judged_smaller : (h : TermHead) (fs : List Form) → forms_size (judged_in_report h fs) ≤ forms_size fs
judged_smaller cat fs = omega arith
judged_smaller encrypt fs = omega arith
judged_smaller long_term_key fs = smaller_none fs
judged_smaller public_key fs = smaller_none fs
judged_smaller private_key fs = smaller_none fs
judged_smaller inverse_key fs = smaller_none fs
judged_smaller operation_out_of_profile fs = smaller_none fs
judged_smaller no_operation fs = smaller_none fs

pub headed-smaller : (s : Scope) (t : List ℕ) (fs : List Form) → forms_size (headed_judged s t fs) ≤ forms_size fs
headed-smaller s t fs = by_any (same_text t (codes "any") && s.in_pattern)
  where
    by_any : (b : Bool) → forms_size (if b then [] else judged_in_report (term_head t) fs) ≤ forms_size fs
    by_any true = smaller_none fs
    by_any false = judged_smaller (term_head t) fs
