-- A skeleton that carries a homomorphism from its problem carries one under a substitution, and with more pairs.
use Rattle.std.proofs.Common.{◌≡◌, ℕ, zero, suc, ◌+◌, List, [], ◌∷◌, ◌++◌, Some, map, refl, sym, ap, ap₂, ◌∙◌, subst, arith, le_refl}
use Rattle.cp_lists.specs.Lists.{item_at, IsIn, here, there, one_step, more_steps}
use Rattle.cp_model.specs.Term.{AtomTerm, variable_term, Term, variables_of, Substitution, apply_to_atom, apply_to, composed, AgreeOnTerms}
use Rattle.cp_model.specs.Bindings.{Binding, as_substitution}
use Rattle.cp_model.specs.declared.sort.Sort.{Sort}
use Rattle.cp_model.specs.declared.variable.Variable.{Variable}
use Rattle.cp_model.specs.Strand.{Role, prefix_of}
use Rattle.cp_model.specs.declared.variable.Declaration.{Declaration}
use Rattle.cp_model.specs.Bundle.{node_at}
use Rattle.cp_model.specs.declared.node.Node.{Node}
use Rattle.cp_model.specs.Skeleton.{instance, listener, Skeleton, OrderStep, along_strand_of, along_pair, Before}
use Rattle.cp_model.specs.declared.node.OrderPair.{OrderPair}
use Rattle.cp_model.specs.Homomorphism.{SkeletonMap, GoesToInstance, IsHomomorphism, substitution_by, map_from_problem, CarriesHomomorphism}
use Rattle.cp_model.specs.Problem.{variables_of_strands, variables_of_atoms, variables_of_uniques, variables_of_assumptions, variables_of_skeleton, variable_terms, declared_sort, IsDeclared}
use Rattle.cp_model.specs.PointOfView.{MapsToItself}
use Rattle.cp_lists.proofs.Members.{in_append_left, in_append_right, into_map}
use Rattle.cp_lists.proofs.Items.{map_of_item}
use Rattle.cp_model.proofs.DeclaredTerms.{by_item}
use Rattle.cp_model.proofs.LawTerms.{term_composed}
use Rattle.cp_model.proofs.LawAgreement.{agree_atom, agree_term}
use Rattle.cp_model.proofs.LawOrder.{before_wider}
use Rattle.cp_model.proofs.DeclaredVariables.{declared_at}
use Rattle.cp_model.proofs.LawEmbeddings.{then_homomorphism}
use Rattle.cp_theory.specs.Normal.{terms_under, with_pairs, strand_under, unique_under, skeleton_under}
use Rattle.cp_model.proofs.OccurringVariables.{in_trace_under, in_strands, in_atoms, in_uniques}
use Rattle.cp_theory.proofs.Under.{terms_kept}
use Rattle.cp_theory.proofs.Skeletons.{event_under}

-- A homomorphism whose substitution is changed where no variable of the skeleton is.
module _ (a b : Skeleton) (strands : ℕ → ℕ) (s t : Substitution) (agree : AgreeOnTerms (variables_of_skeleton a) s t) (hom : IsHomomorphism a b (record { strands = strands; terms = s })) where
  agree_strands : (x : Variable) → IsIn x (variables_of_strands a.strands) → apply_to s (variable_term x) ≡ apply_to t (variable_term x)
  agree_strands x p = agree x (in_append_left (variables_of_assumptions a.assumptions) p)

  agree_assumptions : (x : Variable) → IsIn x (variables_of_assumptions a.assumptions) → apply_to s (variable_term x) ≡ apply_to t (variable_term x)
  agree_assumptions x p = agree x (in_append_right (variables_of_strands a.strands) p)

  instance_changed : (c : ℕ) (role : Role) (height : ℕ) (terms : List Binding) → item_at a.strands c ≡ Some (instance role height terms) → GoesToInstance b (record { strands = strands; terms = s }) c role height terms →
      GoesToInstance b (record { strands = strands; terms = t }) c role height terms
  instance_changed c role height terms at g = record {
    to_height = g.to_height;
    to_terms = g.to_terms;
    on_instance = g.on_instance;
    at_least = g.at_least;
    equal_terms = λ x inx.
        term_composed (as_substitution terms) t (variable_term x)
        ∙ sym (agree_term s t (apply_to (as_substitution terms) (variable_term x)) (λ y iny. agree_strands y (in_strands a.strands c (instance role height terms) y at (in_trace_under (as_substitution terms) (prefix_of role height) x y inx iny))))
        ∙ sym (term_composed (as_substitution terms) s (variable_term x))
        ∙ g.equal_terms x inx;
  }

  pub changed : IsHomomorphism a b (record { strands = strands; terms = t })
  changed = record {
    instances = λ c role height terms at. instance_changed c role height terms at (hom.instances c role height terms at);
    listeners = λ c u at. hom.listeners c u at ∙ ap (λ (w : Term). Some (listener w)) (agree_term s t u (λ x p. agree_strands x (in_strands a.strands c (listener u) x at (in_append_left (variables_of u ++ []) p))));
    ordered = λ x y before. hom.ordered x y before;
    non = λ v inv.
        subst (λ (w : AtomTerm). IsIn w b.assumptions.non_originating)
        (agree_atom s t v (λ x p. agree_assumptions x (in_append_left (variables_of_uniques a.assumptions.uniquely_originating) (in_append_left (variables_of_atoms a.assumptions.penetrator_non_originating) (in_atoms a.assumptions.non_originating v x inv p)))))
        (hom.non v inv);
    penetrator_non = λ v inv.
        subst (λ (w : AtomTerm). IsIn w b.assumptions.penetrator_non_originating)
        (agree_atom s t v (λ x p. agree_assumptions x (in_append_left (variables_of_uniques a.assumptions.uniquely_originating) (in_append_right (variables_of_atoms a.assumptions.non_originating) (in_atoms a.assumptions.penetrator_non_originating v x inv p)))))
        (hom.penetrator_non v inv);
    unique = λ u inu.
        subst (λ (w : AtomTerm). IsIn (record { value = w; origin = node_at (strands u.origin.strand) u.origin.index }) b.assumptions.uniquely_originating)
        (agree_atom s t u.value (λ x p. agree_assumptions x (in_append_right (variables_of_atoms a.assumptions.non_originating ++ variables_of_atoms a.assumptions.penetrator_non_originating) (in_uniques a.assumptions.uniquely_originating u x inu p))))
        (hom.unique u inu);
  }

-- From a skeleton to itself under a substitution.
step_under : (s : Substitution) (k : Skeleton) {x y : Node} → OrderStep k x y → OrderStep (skeleton_under s k) x y
step_under s k (along_strand_of {s = a} {i = i} {e = e} ev) = along_strand_of (event_under s k (node_at a (suc i)) e ev)
step_under s k (along_pair inp) = along_pair inp

pub before_under : (s : Substitution) (k : Skeleton) {x y : Node} → Before k x y → Before (skeleton_under s k) x y
before_under s k (one_step p) = one_step (step_under s k p)
before_under s k (more_steps p q) = more_steps (step_under s k p) (before_under s k q)

pub to_under : (s : Substitution) (k : Skeleton) → IsHomomorphism k (skeleton_under s k) (record { strands = λ a. a; terms = s })
to_under s k = record {
  instances = λ a role height terms at. record {
    to_height = height;
    to_terms = terms_under s role height terms;
    on_instance = map_of_item (strand_under s) k.strands a (instance role height terms) at;
    at_least = le_refl height;
    equal_terms = λ x inx. sym (terms_kept s role height terms x inx);
  };
  listeners = λ a t at. map_of_item (strand_under s) k.strands a (listener t) at;
  ordered = λ x y before. before_under s k before;
  non = λ v inv. into_map (apply_to_atom s) inv;
  penetrator_non = λ v inv. into_map (apply_to_atom s) inv;
  unique = λ u inu. into_map (unique_under s) inu;
}

-- Each term of declared variables is one of them.
record IsOneOf (ds : List Declaration) (n : ℕ) (t : Term) : Type 0 where
  place : ℕ
  sort : Sort
  declared : declared_sort (item_at ds place) ≡ Some sort
  same : t ≡ variable_term (record { sort = sort; number = n + place })

one_of : (n : ℕ) (ds : List Declaration) (t : Term) → IsIn t (variable_terms n ds) → IsOneOf ds n t
one_of n [] t p = elim p [ ]
one_of n (d ∷ ds) t here =
    let q : n ≡ n + zero = omega arith in
    record { place = zero; sort = d.sort; declared = refl; same = ap (λ (m : ℕ). variable_term (record { sort = d.sort; number = m })) q }
one_of n (d ∷ ds) t (there p) =
    let r = one_of (suc n) ds t p in
    let q : suc n + r.place ≡ n + suc r.place = omega arith in
    record { place = suc r.place; sort = r.sort; declared = r.declared; same = r.same ∙ ap (λ (m : ℕ). variable_term (record { sort = r.sort; number = m })) q }

each_same : (f g h : Term → Term) (ts : List Term) → ((t : Term) → IsIn t ts → f t ≡ g (h t)) → map f ts ≡ map g (map h ts)
each_same f g h [] e = refl
each_same f g h (t ∷ ts) e = ap₂ ◌∷◌ (e t here) (each_same f g h ts (λ u p. e u (there p)))

module _ (variables : List Declaration) (problem k : Skeleton) (s : Substitution) (own : MapsToItself variables problem) (carries : CarriesHomomorphism problem k) where
  abbrev before : Substitution
  before = substitution_by k.from_problem.values

  abbrev after_all : Substitution
  after_all = substitution_by (map (apply_to s) k.from_problem.values)

  values : map (apply_to before) (variable_terms 0 variables) ≡ k.from_problem.values
  values = ap (map (apply_to before)) (sym own.values) ∙ carries.values

  pub agree_declared : (x : Variable) → IsDeclared variables x → apply_to (composed before s) (variable_term x) ≡ apply_to after_all (variable_term x)
  agree_declared x is =
      let old : item_at k.from_problem.values x.number ≡ Some (apply_to before (variable_term x)) =
      subst (λ (ts : List Term). item_at ts x.number ≡ Some (apply_to before (variable_term x))) values (map_of_item (apply_to before) (variable_terms 0 variables) x.number (variable_term x) (declared_at variables x is)) in
      let new : item_at (map (apply_to s) k.from_problem.values) x.number ≡ Some (apply_to s (apply_to before (variable_term x))) =
      map_of_item (apply_to s) k.from_problem.values x.number (apply_to before (variable_term x)) old in
      sym (by_item (composed before s) (map (apply_to s) k.from_problem.values) x.sort x.number (new ∙ ap Some (sym (term_composed before s (variable_term x)))))

  value_changed : (t : Term) → IsIn t (variable_terms 0 variables) → apply_to after_all t ≡ apply_to s (apply_to before t)
  value_changed t p =
      let r = one_of 0 variables t p in
      let q : 0 + r.place ≡ r.place = omega arith in
      let x : Variable = record { sort = r.sort; number = r.place } in
      let same : t ≡ variable_term x = r.same ∙ ap (λ (m : ℕ). variable_term (record { sort = r.sort; number = m })) q in
      ap (apply_to after_all) same
      ∙ (sym (agree_declared x r.declared) ∙ term_composed before s (variable_term x))
      ∙ ap (λ (u : Term). apply_to s (apply_to before u)) (sym same)

  pub carried_under : CarriesHomomorphism problem (skeleton_under s k)
  carried_under = record {
    homomorphism = changed problem (skeleton_under s k) (map_from_problem k).strands (composed before s) after_all (λ x p. agree_declared x (own.closed x p))
        (then_homomorphism problem k (skeleton_under s k) (map_from_problem k) (record { strands = λ a. a; terms = s }) carries.homomorphism (to_under s k));
    strands = carries.strands;
    values = ap (map (apply_to after_all)) own.values ∙ each_same (apply_to after_all) (apply_to s) (apply_to before) (variable_terms 0 variables) value_changed ∙ ap (map (apply_to s)) values;
  }

-- With more pairs.
module _ (problem k : Skeleton) (pairs : List OrderPair) (all : (p : OrderPair) → IsIn p k.pairs → IsIn p pairs) where
  pub before_more : {x y : Node} → Before k x y → Before (with_pairs k pairs) x y
  before_more b = before_wider k (with_pairs k pairs) refl all b

  homomorphism_more : (f : SkeletonMap) → IsHomomorphism problem k f → IsHomomorphism problem (with_pairs k pairs) f
  homomorphism_more f hom = record {
    instances = λ a role height terms at.
        let g = hom.instances a role height terms at in
        record { to_height = g.to_height; to_terms = g.to_terms; on_instance = g.on_instance; at_least = g.at_least; equal_terms = g.equal_terms };
    listeners = hom.listeners;
    ordered = λ x y before. before_more (hom.ordered x y before);
    non = hom.non;
    penetrator_non = hom.penetrator_non;
    unique = hom.unique;
  }

  pub carried_with_pairs : CarriesHomomorphism problem k → CarriesHomomorphism problem (with_pairs k pairs)
  carried_with_pairs carries = record { homomorphism = homomorphism_more (map_from_problem k) carries.homomorphism; strands = carries.strands; values = carries.values }
