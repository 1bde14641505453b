-- The normal forms of a skeleton without the substitutions beside them.
use Rattle.std.proofs.Common.{◌≡◌, List, [], ◌∷◌, map, refl, sym, ap₂, subst}
use Rattle.cp_lists.specs.Lists.{IsIn, here, there}
use Rattle.cp_lists.proofs.Members.{from_map}
use Rattle.cp_model.specs.Skeleton.{Skeleton, IsSkeleton}
use Rattle.cp_model.specs.Strand.{Protocol}
use Rattle.cp_model.specs.Senders.{ArePaired}
use Rattle.cp_unify.specs.Bindings.{Binding}
use Rattle.cp_theory.specs.Normal.{LosesNoStanding}
use Rattle.cp_normal.specs.BySubstitution.{ComeBySubstitutions}
use Rattle.cp_normal.specs.Exact.{HasForms}
use Rattle.cp_normal.specs.NormalForms.{IsNormalFormOf}
use Rattle.cp_normal.specs.Formed.{Formed, IsFormBeside, AreFormsBeside}
use Rattle.cp_normal.specs.declared.form.Form.{Form}
use Rattle.cp_normal.proofs.BySubstitution.{come_by_substitutions}
use Rattle.cp_normal.proofs.FormsOf.{are_normal_forms, lose_no_standing}

module _ (k : Skeleton) (given : List Binding) where
  paired_skeletons : (answers : List Form) (forms : List Formed) → ArePaired (IsFormBeside k given) answers forms → map (λ (f : Formed). f.skeleton) forms ≡ (map (λ (a : Form). a.skeleton) answers)
  paired_skeletons [] [] p = refl
  paired_skeletons (a ∷ answers) (f ∷ forms) p = ap₂ ◌∷◌ (sym p.0.skeleton) (paired_skeletons answers forms p.1)
  paired_skeletons [] (f ∷ forms) p = absurd p
  paired_skeletons (a ∷ answers) [] p = absurd p

  paired_variables : (answers : List Form) (forms : List Formed) → ArePaired (IsFormBeside k given) answers forms → (a : Form) → IsIn a answers → a.skeleton.variables ≡ k.variables
  paired_variables [] [] p a i = elim i [ ]
  paired_variables (b ∷ answers) (f ∷ forms) p a here = p.0.variables
  paired_variables (b ∷ answers) (f ∷ forms) p a (there i) = paired_variables answers forms p.1 a i
  paired_variables [] (f ∷ forms) p a i = absurd p
  paired_variables (b ∷ answers) [] p a i = absurd p

  module _ (answers : List Form) (are : AreFormsBeside k given answers) (ks : List Skeleton) (same : ks ≡ map (λ (a : Form). a.skeleton) answers) where
    pub alone_exact : HasForms k ks
    alone_exact =
        subst (λ (ls : List Skeleton). HasForms k ls) (sym same)
        (subst (HasForms k) (paired_skeletons answers are.forms are.each) are.normal.exact)

    pub alone_forms : (r : Skeleton) → IsIn r ks → IsNormalFormOf k r
    alone_forms r i = are_normal_forms alone_exact r i

    pub alone_lose_none : (protocol : Protocol) → IsSkeleton protocol k → LosesNoStanding protocol k ks
    alone_lose_none protocol sk = lose_no_standing protocol k ks sk alone_exact

    pub alone_come : (protocol : Protocol) → IsSkeleton protocol k → ComeBySubstitutions protocol k ks
    alone_come protocol sk = come_by_substitutions protocol k ks sk alone_exact

    of_form : (r : Skeleton) → (a : Form) × IsIn a answers × (a.skeleton ≡ r) → r.variables ≡ k.variables
    of_form r h = subst (λ (l : Skeleton). l.variables ≡ k.variables) h.2 (paired_variables answers are.forms are.each h.0 h.1)

    pub alone_variables : (r : Skeleton) → IsIn r ks → r.variables ≡ k.variables
    alone_variables r i = of_form r (from_map (λ (a : Form). a.skeleton) answers (subst (IsIn r) same i))
