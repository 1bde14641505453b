-- Skeletons that say the same have the same events, order and origins.
use Rattle.std.proofs.Common.{◌≡◌, suc, List, refl, sym, ap, ◌∙◌, subst}
use Rattle.cp_lists.specs.Lists.{IsIn, one_step, more_steps}
use Rattle.cp_model.specs.Term.{AtomTerm, Term, atom_term, Substitution}
use Rattle.cp_model.specs.Strand.{OriginatesInTerms}
use Rattle.cp_model.specs.declared.strand.Event.{Event}
use Rattle.cp_model.specs.Bundle.{node_at}
use Rattle.cp_model.specs.declared.node.Node.{Node}
use Rattle.cp_model.specs.Skeleton.{UniqueAt, Assumptions, Skeleton, term_event_at, OrderStep, along_strand_of, along_pair, Before}
use Rattle.cp_model.specs.declared.node.OrderPair.{OrderPair}
use Rattle.cp_model.specs.Derivable.{IsOnInstance}
use Rattle.cp_model.specs.Realisation.{OriginatesAtTerm}
use Rattle.cp_theory.specs.Normal.{IsCarriedAt, with_pairs, skeleton_under, assumptions_under, from_problem_under}
use Rattle.cp_model.proofs.StatedStays.{HasAssumptionsOf}
use Rattle.cp_collapse.specs.SameSkeletons.{SaysTheSame}
use Rattle.cp_collapse.proofs.SameStrands.{all_same_itself, all_same_back, instance_at, same_trace_at, same_event_at, all_same_under, all_same_then}

pub says_itself : (k : Skeleton) → SaysTheSame k k
says_itself k = record { strands = all_same_itself k.strands; pairs = refl; assumptions = refl; from_problem = refl }

pub says_back : (k l : Skeleton) → SaysTheSame k l → SaysTheSame l k
says_back k l s = record { strands = all_same_back s.strands; pairs = sym s.pairs; assumptions = sym s.assumptions; from_problem = sym s.from_problem }

pub says_then : (k l m : Skeleton) → SaysTheSame k l → SaysTheSame l m → SaysTheSame k m
says_then k l m s t = record {
  strands = all_same_then s.strands t.strands;
  pairs = s.pairs ∙ t.pairs;
  assumptions = s.assumptions ∙ t.assumptions;
  from_problem = s.from_problem ∙ t.from_problem;
}

pub says_under : (d : Substitution) (k l : Skeleton) → SaysTheSame k l → SaysTheSame (skeleton_under d k) (skeleton_under d l)
says_under d k l s = record {
  strands = all_same_under d s.strands;
  pairs = s.pairs;
  assumptions = ap (assumptions_under d) s.assumptions;
  from_problem = ap (from_problem_under d) s.from_problem;
}

pub same_assumptions : (k l : Skeleton) → SaysTheSame k l → HasAssumptionsOf k l
same_assumptions k l s = record {
  non = λ v i. subst (λ (a : Assumptions). IsIn v a.non_originating) s.assumptions i;
  penetrator_non = λ v i. subst (λ (a : Assumptions). IsIn v a.penetrator_non_originating) s.assumptions i;
  unique = λ u i. subst (λ (a : Assumptions). IsIn u a.uniquely_originating) s.assumptions i;
}

pub says_with_pairs : (k l : Skeleton) (pairs : List OrderPair) → SaysTheSame k l → SaysTheSame (with_pairs k pairs) (with_pairs l pairs)
says_with_pairs k l pairs s = record { strands = s.strands; pairs = refl; assumptions = s.assumptions; from_problem = s.from_problem }

module _ (k l : Skeleton) (s : SaysTheSame k l) where
  pub same_event : (n : Node) → term_event_at k.strands n ≡ term_event_at l.strands n
  same_event n = same_event_at s.strands n

  same_step : {x y : Node} → OrderStep k x y → OrderStep l x y
  same_step (along_strand_of {s = a} {i = i} ev) = along_strand_of (sym (same_event (node_at a (suc i))) ∙ ev)
  same_step (along_pair {p = p} inp) = along_pair (subst (IsIn p) s.pairs inp)

  pub same_before : {x y : Node} → Before k x y → Before l x y
  same_before (one_step p) = one_step (same_step p)
  same_before (more_steps p q) = more_steps (same_step p) (same_before q)

  pub same_on_instance : (n : Node) → IsOnInstance k n → IsOnInstance l n
  same_on_instance n o =
      let i = instance_at (all_same_back s.strands) n.strand o.role o.height o.terms o.on_instance in
      record { role = o.role; height = o.height; terms = i.0; on_instance = i.1 }

  pub same_originates : (v : AtomTerm) (n : Node) → OriginatesAtTerm k v n → OriginatesAtTerm l v n
  same_originates v n o = (same_on_instance n o.0, subst (λ (es : List (Event Term)). OriginatesInTerms es (atom_term v) n.index) (same_trace_at s.strands n.strand) o.1)

  pub same_carried : (v : AtomTerm) (n : Node) → IsCarriedAt k v n → IsCarriedAt l v n
  same_carried v n c = record { event = c.event; there = sym (same_event n) ∙ c.there; carried = c.carried }

  pub listed_too : (u : UniqueAt) → IsIn u k.assumptions.uniquely_originating → IsIn u l.assumptions.uniquely_originating
  listed_too u inu = subst (λ (a : Assumptions). IsIn u a.uniquely_originating) s.assumptions inu
