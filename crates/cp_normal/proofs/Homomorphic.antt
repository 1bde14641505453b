-- A normal form of a skeleton that carries a homomorphism from its problem carries one.
use Rattle.std.proofs.Common.{◌≡◌, ℕ, List, map, sym, ◌∙◌, subst, inl}
use Rattle.cp_lists.specs.Lists.{IsIn}
use Rattle.cp_model.specs.Term.{apply_to, apply_to_atom}
use Rattle.cp_model.specs.Bindings.{Binding}
use Rattle.cp_model.specs.Strand.{Role}
use Rattle.cp_model.specs.declared.variable.Declaration.{Declaration}
use Rattle.cp_model.specs.Skeleton.{Assumptions, FromProblem, Skeleton}
use Rattle.cp_model.specs.Homomorphism.{SkeletonMap, mapped, GoesToInstance, IsHomomorphism, substitution_by, strand_in, map_from_problem, CarriesHomomorphism}
use Rattle.cp_model.specs.PointOfView.{MapsToItself}
use Rattle.cp_model.proofs.LawPrefixes.{variables_of_higher}
use Rattle.cp_theory.specs.Normal.{skeleton_under}
use Rattle.cp_theory.proofs.Mapped.{carried_under, carried_with_pairs}
use Rattle.cp_collapse.specs.SameSkeletons.{SaysTheSame}
use Rattle.cp_normal.specs.NormalForms.{IsNarrowed, NarrowsTo, none, one, IsNormalFormOf}
use Rattle.cp_collapse.proofs.SameStrands.{all_same_back, instance_at, listener_at}
use Rattle.cp_collapse.proofs.SameFacts.{same_before}

module _ (problem k l : Skeleton) (s : SaysTheSame k l) where
  same_instance_goes : (f : SkeletonMap) (a : ℕ) (role : Role) (height : ℕ) (terms : List Binding) → GoesToInstance k f a role height terms → GoesToInstance l f a role height terms
  same_instance_goes f a role height terms g =
      let i = instance_at (all_same_back s.strands) (f.strands a) role g.to_height g.to_terms g.on_instance in
      record {
        to_height = g.to_height;
        to_terms = i.0;
        on_instance = i.1;
        at_least = g.at_least;
        equal_terms = λ x inx. g.equal_terms x inx ∙ sym (i.2 x (variables_of_higher role height g.to_height g.at_least x inx));
      }

  same_homomorphism : (f : SkeletonMap) → IsHomomorphism problem k f → IsHomomorphism problem l f
  same_homomorphism f hom = record {
    instances = λ a role height terms at. same_instance_goes f a role height terms (hom.instances a role height terms at);
    listeners = λ a t at. listener_at (all_same_back s.strands) (f.strands a) (apply_to f.terms t) (hom.listeners a t at);
    ordered = λ x y before. same_before k l s (hom.ordered x y before);
    non = λ v i. subst (λ (a : Assumptions). IsIn (apply_to_atom f.terms v) a.non_originating) s.assumptions (hom.non v i);
    penetrator_non = λ v i. subst (λ (a : Assumptions). IsIn (apply_to_atom f.terms v) a.penetrator_non_originating) s.assumptions (hom.penetrator_non v i);
    unique = λ u i. subst (λ (a : Assumptions). IsIn (record { value = apply_to_atom f.terms u.value; origin = mapped f u.origin }) a.uniquely_originating) s.assumptions (hom.unique u i);
  }

  pub same_carries : CarriesHomomorphism problem k → CarriesHomomorphism problem l
  same_carries c = record {
    homomorphism = subst (λ (f : FromProblem). IsHomomorphism problem l (record { strands = strand_in f.strands; terms = substitution_by f.values })) s.from_problem (same_homomorphism (map_from_problem k) c.homomorphism);
    strands = subst (λ (f : FromProblem). map (strand_in f.strands) problem.from_problem.strands ≡ f.strands) s.from_problem c.strands;
    values = subst (λ (f : FromProblem). map (apply_to (substitution_by f.values)) problem.from_problem.values ≡ f.values) s.from_problem c.values;
  }

module _ (variables : List Declaration) (problem : Skeleton) (own : MapsToItself variables problem) where
  pub narrowed_carries : (k l : Skeleton) → IsNarrowed k l → CarriesHomomorphism problem k → CarriesHomomorphism problem l
  narrowed_carries k l s c = same_carries problem (skeleton_under s.unifier k) l s.same (carried_under variables problem k s.unifier own c)

  pub narrows_carries : {k l : Skeleton} → NarrowsTo k l → CarriesHomomorphism problem k → CarriesHomomorphism problem l
  narrows_carries none c = c
  narrows_carries {k} (one {l = m} s p) c = narrows_carries p (narrowed_carries k m s c)

  pub form_carries : (k r : Skeleton) → IsNormalFormOf k r → CarriesHomomorphism problem k → CarriesHomomorphism problem r
  form_carries k r f c =
      subst (CarriesHomomorphism problem) (sym f.same) (carried_with_pairs problem f.narrowed r.pairs (λ p i. (f.pairs p).1 (inl i)) (narrows_carries f.by_steps c))
