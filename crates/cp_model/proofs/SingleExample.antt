-- The example meets the premises of the laws about one sending strand.
use Rattle.std.proofs.Common.{◌≡◌, inl, ℕ, List, [], ◌<◌, Some, refl, sym, ap, subst, le_refl, lt_trans, lt_irrefl, lt-suc_self, arith}
use Rattle.cp_lists.specs.Lists.{item_at, IsIn, here, there, one_step, more_steps}
use Rattle.cp_model.specs.Term.{Variable, text_variable, name_variable, Term, atom_term, pair_term, enc_term, IsCarriedByTerm, itself_term, in_left_term, in_right_term, in_plaintext_term, apply_to_atom}
use Rattle.cp_model.specs.Bindings.{Binding}
use Rattle.cp_model.specs.Identity.{unchanged}
use Rattle.cp_model.specs.Strand.{send, OriginatesInTerms, Role, IsHeight}
use Rattle.cp_model.specs.Bundle.{node_at}
use Rattle.cp_model.specs.declared.node.Node.{Node}
use Rattle.cp_model.specs.Skeleton.{Skeleton, UniqueAt, skeleton_trace_or_none, instance, skeleton_trace, OrderStep, along_strand_of, along_pair, Before, IsOrigin, GivesAssumptions, IsSkeleton}
use Rattle.cp_model.specs.Problem.{variables_of_skeleton, IsDeclared}
use Rattle.cp_model.specs.PointOfView.{IsPointOfView}
use Rattle.cp_model.specs.Single.{IsOneSendingStrand}
use Rattle.cp_model.specs.Example.{example_key, example_inverse, example_role, example_protocol, example_assumptions, example_skeleton}
use Rattle.cp_lists.proofs.Members.{only_item, not_in_none}
use Rattle.cp_lists.proofs.Items.{only_place}
use Rattle.cp_model.proofs.OwnOrder.{own_if_same}
use Rattle.cp_model.proofs.StrandParts.{same_instance}

-- without pairs each step goes to a later place of a strand
step_rises : {x y : Node} → OrderStep example_skeleton x y → x.index < y.index
step_rises (along_strand_of {i = i} e) = lt-suc_self i
step_rises (along_pair h) = absurd (not_in_none h)

path_rises : {x y : Node} → Before example_skeleton x y → x.index < y.index
path_rises (one_step s) = step_rises s
path_rises (more_steps s h) = lt_trans (step_rises s) (path_rises h)

-- the one message that the example sends
abbrev sent_term : Term
sent_term = enc_term (pair_term (atom_term (text_variable 0)) (atom_term (name_variable 1))) example_key

pub not_carried : IsCarriedByTerm (atom_term example_inverse) sent_term → ⊥
not_carried (in_plaintext_term (in_left_term h)) = elim h [ ]
not_carried (in_plaintext_term (in_right_term h)) = elim h [ ]

origin : OriginatesInTerms (skeleton_trace (instance example_role 1 [])) (atom_term (text_variable 0)) 0
origin = record {
  sent = sent_term;
  transmission = refl;
  carried = in_plaintext_term (in_left_term itself_term);
  first = λ j e lt at c. omega arith;
}

no_origin : (i : ℕ) → OriginatesInTerms (skeleton_trace (instance example_role 1 [])) (atom_term example_inverse) i → ⊥
no_origin i o =
    let r = (only_place (send sent_term) i o.transmission).1 in
    let e : sent_term ≡ o.sent = cc in
    not_carried (subst (IsCarriedByTerm (atom_term example_inverse)) (sym e) o.carried)

-- The example's role gives what the example assumes.
pub example_gives : (k : Skeleton) → k.assumptions ≡ example_assumptions → GivesAssumptions k 0 example_role 1 []
example_gives k same = record {
  non = λ v h a. subst (λ x. IsIn (apply_to_atom unchanged v) x.non_originating) (sym same) (subst (λ x. IsIn (apply_to_atom unchanged x) example_assumptions.non_originating) (sym (only_item h)) here);
  penetrator_non = λ v h a. absurd (not_in_none h);
  unique = λ v i h a.
      let e : i ≡ 0 = omega (arith, a.1) in
      subst (λ x. IsIn (record { value = apply_to_atom unchanged v; origin = node_at 0 i }) x.uniquely_originating) (sym same)
      (subst (λ x. IsIn (record { value = apply_to_atom unchanged x; origin = node_at 0 i }) example_assumptions.uniquely_originating) (sym (only_item h))
      (subst (λ x. IsIn (record { value = text_variable 0; origin = node_at 0 x }) example_assumptions.uniquely_originating) (sym e) here));
}

-- What the example assumes to originate uniquely does so at the first event of a strand like the example's.
pub example_origin : (k : Skeleton) → k.assumptions ≡ example_assumptions → item_at k.strands 0 ≡ Some (instance example_role 1 []) → (u : UniqueAt) → IsIn u k.assumptions.uniquely_originating → IsOrigin k u
example_origin k same at u h = subst (IsOrigin k) (sym (only_item (subst (λ x. IsIn u x.uniquely_originating) same h))) (record {
  role = example_role;
  height = 1;
  terms = [];
  on_instance = at;
  sent = sent_term;
  transmission = ap (λ o. item_at (skeleton_trace_or_none o) 0) at;
  carried = in_plaintext_term (in_left_term itself_term);
})

-- what holds of the one instance holds of each
each_instance : (P : ℕ → Role → ℕ → List Binding → Type 0) → P 0 example_role 1 [] →
    (s : ℕ) (role : Role) (height : ℕ) (terms : List Binding) → item_at example_skeleton.strands s ≡ Some (instance role height terms) → P s role height terms
each_instance P p s role height terms e =
    let r = only_place (instance example_role 1 []) s e in
    subst (λ x. P x role height terms) (sym r.0) (same_instance (P 0) (ap Some r.1) p)

is_skeleton : IsSkeleton example_protocol example_skeleton
is_skeleton = record {
  of_role = each_instance (λ s role height terms. IsIn role example_protocol.roles) here;
  heights = each_instance (λ s role height terms. IsHeight role height) (le_refl 1, le_refl 1);
  order_pairs = λ p h. absurd (not_in_none h);
  no_cycle = λ n h. lt_irrefl n.index (path_rises h);
  origins = example_origin example_skeleton refl refl;
  given = each_instance (λ s role height terms. GivesAssumptions example_skeleton s role height terms) (example_gives example_skeleton refl);
}

pub example_sends : IsOneSendingStrand example_protocol example_skeleton
example_sends = record {
  is_skeleton = is_skeleton;
  role = example_role;
  height = 1;
  terms = [];
  one = refl;
  sends = λ i e at. let r = (only_place (send sent_term) i at).1 in (sent_term, sym r);
  non = λ v i h o. no_origin i (subst (λ x. OriginatesInTerms (skeleton_trace (instance example_role 1 [])) (atom_term x) i) (sym (sym (only_item h))) o);
  unique = λ u h. subst (λ x. OriginatesInTerms (skeleton_trace (instance example_role 1 [])) (atom_term x.value) x.origin.index) (sym (only_item h)) origin;
}

closed : (x : Variable) → IsIn x (variables_of_skeleton example_skeleton) → IsDeclared example_role.variables x
closed x here = refl
closed x (there here) = refl
closed x (there (there here)) = refl
closed x (there (there (there here))) = refl
closed x (there (there (there (there here)))) = refl
closed x (there (there (there (there (there h))))) = elim h [ ]

pub example_problem : IsPointOfView example_role.variables example_skeleton
example_problem = record { strands = refl; values = refl; closed = closed; assumed = record { non = λ v h. h; penetrator_non = λ v h. h; unique = λ u h. h }; no_more = record { non = λ v h. inl h; penetrator_non = λ v h. inl h; unique = λ u h. inl h }; ordered = own_if_same example_skeleton is_skeleton.order_pairs refl }
