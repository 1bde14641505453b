-- The normal forms that the rules give have substitutions, and what these do to standings.
use Rattle.std.proofs.Common.{◌≡◌, List, [], ◌∷◌, map, refl, sym, ap, ◌∙◌, subst}
use Rattle.cp_lists.specs.Lists.{IsIn, here, there}
use Rattle.cp_model.specs.Term.{Term, Assignment, value_of, after, Substitution, apply_to}
use Rattle.cp_model.specs.Bundle.{Bundle}
use Rattle.cp_model.specs.Skeleton.{Skeleton}
use Rattle.cp_model.specs.Standing.{Standing}
use Rattle.cp_model.specs.Homomorphism.{FactorsThrough}
use Rattle.cp_model.proofs.LawTerms.{value_after}
use Rattle.cp_unify.specs.Bindings.{Binding, as_substitution}
use Rattle.cp_normal.specs.Exact.{HasForms}
use Rattle.cp_normal.specs.NormalForms.{IsNormalFormOf}
use Rattle.cp_normal.specs.Formed.{Formed, IsFormedFrom, StandsAmongFormed, AreFormedNormalForms, IsFormBeside}
use Rattle.cp_normal.specs.declared.form.Form.{Form}
use Rattle.cp_normal.proofs.BySubstitution.{form_comes, comes_factors}
use Rattle.cp_normal.proofs.FormedBeside.{IsMadeBy, formed_are_normal}
use Rattle.cp_normal.proofs.FormsOf.{are_normal_forms}

-- ---- there are substitutions

module _ (k : Skeleton) where
  -- Each of the skeletons with a substitution by which it comes.
  record HaveSubstitutions (rs : List Skeleton) : Type 0 where
    pub forms : List Formed
    pub made : (f : Formed) → IsIn f forms → IsMadeBy k f
    pub skeletons : map (λ (f : Formed). f.skeleton) forms ≡ rs

  abbrev with_own : (r : Skeleton) → IsNormalFormOf k r → Formed
  with_own r n = record { substitution = (form_comes k r n).substitution; skeleton = r }

  one_more : (r : Skeleton) (rs : List Skeleton) → IsNormalFormOf k r → HaveSubstitutions rs → HaveSubstitutions (r ∷ rs)
  one_more r rs n others = record { forms = with_own r n ∷ others.forms; made = made_of; skeletons = ap (λ ls. r ∷ ls) others.skeletons }
    where
      made_of : (f : Formed) → IsIn f (with_own r n ∷ others.forms) → IsMadeBy k f
      made_of f here = record { normal = n; by = refl }
      made_of f (there i) = others.made f i

  have_substitutions : (rs : List Skeleton) → ((r : Skeleton) → IsIn r rs → IsNormalFormOf k r) → HaveSubstitutions rs
  have_substitutions [] are = record { forms = []; made = λ f i. elim i [ ]; skeletons = refl }
  have_substitutions (r ∷ rs) are = one_more r rs (are r here) (have_substitutions rs (λ s i. are s (there i)))

  pub are_formed : (rs : List Skeleton) → HasForms k rs → (forms : List Formed) × AreFormedNormalForms k forms × (map (λ (f : Formed). f.skeleton) forms ≡ rs)
  are_formed rs has =
      let h : HaveSubstitutions rs = have_substitutions rs (are_normal_forms has) in
      (h.forms, formed_are_normal k h.forms h.made (subst (HasForms k) (sym h.skeletons) has), h.skeletons)

-- ---- standings

pub among_factors : (k : Skeleton) (forms : List Formed) (b : Bundle) (h : Standing) → AreFormedNormalForms k forms → (among : StandsAmongFormed forms b h) → FactorsThrough k h among.form.skeleton h
among_factors k forms b h are among =
    let from : IsFormedFrom k among.form = are.formed among.form among.listed in
    comes_factors k among.form.skeleton h from.comes (λ t. subst (λ (s : Substitution). value_of (after h.values s) t ≡ value_of h.values t) (sym from.by) (among.same_values t))

-- An assignment that agrees with the form's substitution gives under the answer's what it gives under the given one.
pub same_beside : (k : Skeleton) (given : List Binding) (answer : Form) (f : Formed) (g : Assignment) → IsFormBeside k given answer f → ((t : Term) → value_of (after g f.substitution) t ≡ value_of g t) →
    (t : Term) → value_of (after g (as_substitution answer.substitution)) t ≡ value_of (after g (as_substitution given)) t
same_beside k given answer f g is same t =
    value_after g (as_substitution answer.substitution) t
    ∙ ap (value_of g) (is.terms t)
    ∙ sym (value_after g f.substitution (apply_to (as_substitution given) t))
    ∙ same (apply_to (as_substitution given) t)
    ∙ sym (value_after g (as_substitution given) t)
