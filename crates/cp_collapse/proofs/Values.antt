-- What an instance that keeps terms for the declared variables alone says, and strands that are made so.
use Rattle.std.proofs.Common.{◌≡◌, ℕ, suc, List, [], ◌∷◌, map, Some, refl, sym, ap, ◌∙◌, subst}
use Rattle.cp_lists.specs.Lists.{item_at}
use Rattle.cp_model.specs.Term.{Term, Substitution, AgreeOnTerms, composed, variable_term, apply_to}
use Rattle.cp_model.specs.Bindings.{Binding, as_substitution, bindings_of}
use Rattle.cp_model.specs.Values.{substitution_by}
use Rattle.cp_model.specs.Strand.{Role, variables_of_prefix}
use Rattle.cp_model.specs.declared.variable.Declaration.{Declaration}
use Rattle.cp_model.specs.Skeleton.{SkeletonStrand, instance, listener, Assumptions, FromProblem, Skeleton, skeleton_of}
use Rattle.cp_model.specs.declared.node.OrderPair.{OrderPair}
use Rattle.cp_model.specs.Extensions.{IsClosedPrefix}
use Rattle.cp_model.specs.Declares.{HasDeclaredPrefixes}
use Rattle.cp_model.specs.PrefixVariables.{declared_variables, terms_of}
use Rattle.cp_model.proofs.DeclaredTerms.{declared_kept, by_bindings, bindings_are}
use Rattle.cp_theory.specs.Normal.{terms_under, strand_under, assumptions_under, from_problem_under, skeleton_under}
use Rattle.cp_strand.specs.View.{InstanceData, instance_view}
use Rattle.cp_collapse.specs.SameSkeletons.{IsSameStrand, same_instance, same_listener, AreSameStrands, no_strands, same_strands, SaysTheSame}
use Rattle.cp_collapse.specs.Values.{declared_under}

-- ---- strands

-- Terms for the variables of a closed prefix agree there with terms for all declared variables.
declared_agree : (role : Role) (height : ℕ) (s : Substitution) (terms : List Binding) → IsClosedPrefix role height →
    AgreeOnTerms (variables_of_prefix role height) (as_substitution (terms_under s role height terms)) (as_substitution (bindings_of (terms_of (composed (as_substitution terms) s) (declared_variables 0 role.variables))))
declared_agree role height s terms closed x i =
    let both = composed (as_substitution terms) s in
    by_bindings both (variables_of_prefix role height) x i
    ∙ sym (declared_kept role.variables both x (closed x i))
    ∙ sym (ap (λ (r : Substitution). apply_to r (variable_term x)) (bindings_are (terms_of both (declared_variables 0 role.variables))))

pub same_under : (s : Substitution) (st : SkeletonStrand) → ((role : Role) (height : ℕ) (terms : List Binding) → st ≡ instance role height terms → IsClosedPrefix role height) → IsSameStrand (strand_under s st) (declared_under s st)
same_under s (instance role height terms) closed = same_instance (declared_agree role height s terms (closed role height terms refl))
same_under s (listener t) closed = same_listener

all_same_under : (s : Substitution) (ss : List SkeletonStrand) → ((n : ℕ) (role : Role) (height : ℕ) (terms : List Binding) → item_at ss n ≡ Some (instance role height terms) → IsClosedPrefix role height) →
    AreSameStrands (map (strand_under s) ss) (map (declared_under s) ss)
all_same_under s [] closed = no_strands
all_same_under s (st ∷ ss) closed = same_strands (same_under s st (λ role height terms e. closed 0 role height terms (ap Some e))) (all_same_under s ss (λ n. closed (suc n)))

-- The parts of a skeleton that was made part by part.
pub says_the_same : (s : Substitution) (k l : Skeleton) → HasDeclaredPrefixes k → l.strands ≡ map (declared_under s) k.strands →
    l.pairs ≡ k.pairs → l.assumptions ≡ (skeleton_under s k).assumptions → l.from_problem ≡ (skeleton_under s k).from_problem → SaysTheSame (skeleton_under s k) l
says_the_same s k l declared strands pairs assumptions from_problem = record {
  strands = subst (λ ss. AreSameStrands (map (strand_under s) k.strands) ss) (sym strands) (all_same_under s k.strands declared);
  pairs = sym pairs;
  assumptions = sym assumptions;
  from_problem = sym from_problem;
}

-- The same of the program's skeleton of these parts.
pub made_under : (s : Substitution) (k : Skeleton) (variables : List Declaration) (strands : List SkeletonStrand) (order : List OrderPair) (assumptions : Assumptions) (from_problem : FromProblem) → HasDeclaredPrefixes k →
    strands ≡ map (declared_under s) k.strands → order ≡ k.pairs → assumptions ≡ assumptions_under s k.assumptions → from_problem ≡ from_problem_under s k.from_problem →
    SaysTheSame (skeleton_under s k) (skeleton_of variables strands order assumptions from_problem)
made_under s k variables strands order assumptions from_problem = says_the_same s k (skeleton_of variables strands order assumptions from_problem)

-- ---- strands under substitutions

-- An instance with the terms of its declared variables under a substitution is the strand under it.
pub declared_is : (s : Substitution) (i : InstanceData) (k : SkeletonStrand) (us vs : List Term) (ds : List Declaration) → instance_view i ≡ k → us ≡ i.values → ds ≡ i.role.variables →
    vs ≡ terms_of (composed (substitution_by us) s) (declared_variables 0 ds) → instance_view (record i { values = vs }) ≡ declared_under s k
declared_is s i k us vs ds is own all e =
    ap (λ (ts : List Term). instance i.role i.height (bindings_of ts))
    (e
    ∙ ap (λ (ts : List Term). terms_of (composed (substitution_by ts) s) (declared_variables 0 ds)) own
    ∙ ap (λ (es : List Declaration). terms_of (composed (substitution_by i.values) s) (declared_variables 0 es)) all
    ∙ ap (λ (r : Substitution). terms_of (composed r s) (declared_variables 0 i.role.variables)) (sym (bindings_are i.values)))
    ∙ ap (declared_under s) is

-- An instance whose terms are those of its declared variables under a substitution is left as it is.
pub left_is : (s : Substitution) (i : InstanceData) (k : SkeletonStrand) (us : List Term) (ds : List Declaration) → instance_view i ≡ k → us ≡ i.values → ds ≡ i.role.variables →
    us ≡ terms_of (composed (substitution_by us) s) (declared_variables 0 ds) → k ≡ declared_under s k
left_is s i k us ds is own all e = sym is ∙ ap (λ (ts : List Term). instance i.role i.height (bindings_of ts)) (sym own) ∙ declared_is s i k us us ds is own all e
