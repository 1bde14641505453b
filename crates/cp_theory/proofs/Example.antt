-- The example meets the premises of the law.
use Rattle.std.proofs.Common.{◌≡◌, ℕ, zero, suc, ◌+◌, ◌<◌, Some, refl, sym, ap, ◌∙◌, subst, le_refl, lt_trans, lt_irrefl, arith, List, []}
use Rattle.cp_lists.specs.Lists.{item_at, IsIn, here, one_step, more_steps}
use Rattle.cp_model.specs.Term.{AtomTerm, text_variable, Term, atom_term, IsCarriedByTerm, itself_term, in_left_term, in_plaintext_term}
use Rattle.cp_model.specs.Bindings.{Binding}
use Rattle.cp_model.specs.Strand.{Role, IsHeight}
use Rattle.cp_model.specs.declared.strand.Event.TheVariants.{Send as send, Receive as recv}
use Rattle.cp_model.specs.Bundle.{node_at}
use Rattle.cp_model.specs.declared.node.Node.{Node}
use Rattle.cp_model.specs.Skeleton.{SkeletonStrand, instance, skeleton_trace, skeleton_trace_or_none, term_event_at, UniqueAt, OrderStep, along_strand_of, along_pair, Before, IsOrderPair, GivesAssumptions, IsSkeleton}
use Rattle.cp_model.specs.Derivable.{DerivableAt, sent_before}
use Rattle.cp_model.specs.Realisation.{OriginatesAtTerm, KeepsAssumptions, AllDerivable}
use Rattle.cp_model.specs.Example.{example_role, example_protocol}
use Rattle.cp_lists.proofs.Members.{only_item}
use Rattle.cp_lists.proofs.Items.{only_place}
use Rattle.cp_model.proofs.StrandParts.{same_instance}
use Rattle.cp_model.proofs.SingleExample.{not_carried, example_gives, example_origin}
use Rattle.cp_theory.specs.Heard.{heard_term, heard_pair, heard_skeleton}
use Rattle.cp_theory.proofs.SameNodes.{same_node}

-- Each step of the order goes to a node whose two numbers have a greater sum.
step_rises : {x y : Node} → OrderStep heard_skeleton x y → x.strand + x.index < y.strand + y.index
step_rises (along_strand_of {s = s} {i = i} e) = omega arith
step_rises (along_pair h) = subst (λ p. p.earlier.strand + p.earlier.index < p.later.strand + p.later.index) (sym (only_item h)) (omega arith)

path_rises : {x y : Node} → Before heard_skeleton x y → x.strand + x.index < y.strand + y.index
path_rises (one_step s) = step_rises s
path_rises (more_steps s h) = lt_trans (step_rises s) (path_rises h)

-- The one instance is strand 0.
abbrev own_instance : SkeletonStrand
own_instance = instance example_role 1 []

instance_at : (s : ℕ) (role : Role) (height : ℕ) (terms : List Binding) → item_at heard_skeleton.strands s ≡ Some (instance role height terms) → s ≡ 0
instance_at zero role height terms e = refl
instance_at (suc zero) role height terms e = absurd (cc)
instance_at (suc (suc s)) role height terms e = absurd (cc)

each_instance : (P : ℕ → Role → ℕ → List Binding → Type 0) → P 0 example_role 1 [] →
    (s : ℕ) (role : Role) (height : ℕ) (terms : List Binding) → item_at heard_skeleton.strands s ≡ Some (instance role height terms) → P s role height terms
each_instance P p zero role height terms e = same_instance (P 0) e p
each_instance P p (suc zero) role height terms e = absurd (cc)
each_instance P p (suc (suc s)) role height terms e = absurd (cc)

pub is_skeleton : IsSkeleton example_protocol heard_skeleton
is_skeleton = record {
  of_role = each_instance (λ s role height terms. IsIn role example_protocol.roles) here;
  heights = each_instance (λ s role height terms. IsHeight role height) (le_refl 1, le_refl 1);
  order_pairs = λ p h. subst (IsOrderPair heard_skeleton) (sym (only_item h)) (record {
    sent = heard_term;
    received = heard_term;
    transmission = refl;
    reception = refl;
    between_strands = λ e. absurd (omega arith);
  });
  no_cycle = λ n h. lt_irrefl (n.strand + n.index) (path_rises h);
  origins = example_origin heard_skeleton refl refl;
  given = each_instance (λ s role height terms. GivesAssumptions heard_skeleton s role height terms) (example_gives heard_skeleton refl);
}

-- An origin is at the one event of the instance.
origin_at : (v : AtomTerm) (n : Node) → OriginatesAtTerm heard_skeleton v n → (n ≡ node_at 0 0) × IsCarriedByTerm (atom_term v) heard_term
origin_at v n o =
    let s = (instance_at n.strand o.0.role o.0.height o.0.terms o.0.on_instance) in
    let t : item_at (skeleton_trace own_instance) n.index ≡ Some (send o.1.sent) = subst (λ a. item_at (skeleton_trace_or_none (item_at heard_skeleton.strands a)) n.index ≡ Some (send o.1.sent)) s o.1.transmission in
    let r = only_place (send heard_term) n.index t in
    let q = r.1 in
    let e : o.1.sent ≡ heard_term = cc in
    (same_node s r.0, subst (IsCarriedByTerm (atom_term v)) e o.1.carried)

origin : OriginatesAtTerm heard_skeleton (text_variable 0) (node_at 0 0)
origin = (
  record { role = example_role; height = 1; terms = []; on_instance = refl },
  record { sent = heard_term; transmission = refl; carried = in_plaintext_term (in_left_term itself_term); first = λ j e lt at c. omega arith },
)

pub keeps_assumptions : KeepsAssumptions heard_skeleton
keeps_assumptions = record {
  non = λ v n h o. not_carried (subst (λ x. IsCarriedByTerm (atom_term x) heard_term) (only_item h) (origin_at v n o).1);
  unique = λ u h. subst (λ x. OriginatesAtTerm heard_skeleton x.value x.origin) (sym (only_item h)) origin;
  only = λ u n h o. (origin_at u.value n o).0 ∙ ap (λ (x : UniqueAt). x.origin) (sym (only_item h));
}

heard : DerivableAt heard_skeleton (node_at 1 0) heard_term
heard = sent_before {m = node_at 0 0} (record { role = example_role; height = 1; terms = []; on_instance = refl }) refl (one_step (along_pair {p = heard_pair} here))

derivable_on : (s i : ℕ) (t : Term) → term_event_at heard_skeleton.strands (node_at s i) ≡ Some (recv t) → DerivableAt heard_skeleton (node_at s i) t
derivable_on zero zero t e = absurd (cc)
derivable_on zero (suc i) t e = absurd (cc)
derivable_on (suc zero) zero t e = let q : heard_term ≡ t = cc in subst (DerivableAt heard_skeleton (node_at 1 0)) q heard
derivable_on (suc zero) (suc zero) t e = absurd (cc)
derivable_on (suc zero) (suc (suc i)) t e = absurd (cc)
derivable_on (suc (suc s)) i t e = absurd (cc)

pub all_derivable : AllDerivable heard_skeleton
all_derivable n t e = derivable_on n.strand n.index t e
