-- The pattern that a form is, where it fits.
use Rattle.std.proofs.Common.{◌≡◌, ℕ, ◌+◌, List, [], ◌∷◌, ◌++◌, length, true, false, refl, sym, ap, ◌∙◌, subst}
use Rattle.std.specs.Prelude.{Option, Some, None, codes}
use Rattle.std.proofs.Math.Bool.{or-false}
use Rattle.cp_lists.specs.Lists.{IsIn}
use Rattle.cp_lists.proofs.Appended.{none_in_both}
use Rattle.cp_model.specs.Term.{Term, variables_of}
use Rattle.cp_model.specs.declared.variable.Variable.{Variable}
use Rattle.cp_model.specs.declared.variable.Declaration.{Declaration}
use Rattle.cp_model.specs.Pattern.{IsEncryption, IsPattern}
use Rattle.cp_model.specs.Same.{same_text}
use Rattle.cp_model.proofs.SameTests.{text_is}
use Rattle.cp_sexpr.specs.Syntax.{Form, symbol, list, more, forms_of}
use Rattle.cp_language.specs.Faults.{place_of}
use Rattle.cp_language.specs.Roles.{Headed, headed}
use Rattle.cp_language.specs.Terms.{paired, all_but_last, last_of, as_key}
use Rattle.cp_report.specs.Misfits.{misfit_unless}
use Rattle.cp_report.specs.Heads.{has_head, is_headed_by}
use Rattle.cp_report.specs.Spelled.{Scope, term_misfits, clash_misfits, locals_in, locals_onto, term_in, terms_in, pattern_scope, pattern_misfits, pattern_of, variables_of_locals}
use Rattle.cp_scope.proofs.Views.{headed_is}
use Rattle.cp_spelled.proofs.Gathered.{holds, each-stands}
use Rattle.cp_spelled.proofs.Patterned.{Agree, term-agrees}

pub differ : false ≡ true → ⊥
differ e = cc

-- ---- an encryption

encryption : (s : Scope) (f : Form) → has_head (codes "enc" ∷ []) f ≡ true → IsEncryption (term_in s f)
encryption s f e = by_head (headed f) refl e
  where
    by_head : (o : Option Headed) → headed f ≡ o → is_headed_by (codes "enc" ∷ []) o ≡ true → IsEncryption (term_in s f)
    by_head None is e = absurd (cc)
    by_head (Some h) is e =
        let shape = headed_is f h is in
        let fs = forms_of h.items in
        let named : h.head ≡ codes "enc" = text_is h.head (codes "enc") (sym (or-false (same_text h.head (codes "enc"))) ∙ e) in
        subst (λ (g : Form). IsEncryption (term_in s g)) (sym (shape.whole ∙ ap (λ (t : List ℕ). list h.at (more (symbol shape.head_at t) fs)) named))
        (record { body = paired (all_but_last (terms_in s fs)); key = as_key (last_of (terms_in s fs)); encrypted = refl })

module _ (ds : List Declaration) (f : Form) (fits : pattern_misfits ds f ≡ []) where
  abbrev term : Term
  term = term_in (pattern_scope ds f) f

  parts : (misfit_unless (has_head (codes "enc" ∷ []) f) (place_of f) ++ term_misfits (pattern_scope ds f) f ≡ []) × (clash_misfits [] (locals_in f) ≡ [])
  parts = none_in_both (misfit_unless (has_head (codes "enc" ∷ []) f) (place_of f) ++ term_misfits (pattern_scope ds f) f) (clash_misfits [] (locals_in f)) fits

  front : (misfit_unless (has_head (codes "enc" ∷ []) f) (place_of f) ≡ []) × (term_misfits (pattern_scope ds f) f ≡ [])
  front = none_in_both (misfit_unless (has_head (codes "enc" ∷ []) f) (place_of f)) (term_misfits (pattern_scope ds f) f) parts.0

  agree : Agree ds (locals_onto [] (locals_in f)) (locals_in f) (variables_of term)
  agree = term-agrees ds (locals_onto [] (locals_in f)) f front.1

  occurs : (x : Variable) → IsIn x (variables_of_locals (length ds) (locals_onto [] (locals_in f))) → IsIn x (variables_of term)
  occurs x i =
      let one = each-stands (length ds) (locals_in f) x i in
      subst (λ (y : Variable). IsIn y (variables_of term)) (sym one.is) (agree.occurs one.found one.listed)

  pub pattern-is : IsPattern (pattern_of ds f)
  pattern-is = record { encryption = encryption (pattern_scope ds f) f (holds (has_head (codes "enc" ∷ []) f) (place_of f) front.0); locals_occur = occurs }
