-- What the last strand of a child ends by sending.
use Rattle.cp_model.specs.declared.strand.Event.{Event}
use Rattle.std.proofs.Common.{◌≡◌, ℕ, zero, suc, ◌-◌, length, Option, Some, None, List, refl, sym, ap, ◌∙◌, subst, arith}
use Rattle.cp_lists.specs.Lists.{item_at}
use Rattle.cp_model.specs.Term.{Term}
use Rattle.cp_model.specs.Bindings.{Binding, bindings_of}
use Rattle.cp_model.specs.Strand.{Role}
use Rattle.cp_model.specs.declared.strand.Event.TheVariants.{Send as send, Receive as recv}
use Rattle.cp_model.specs.Bundle.{node_at}
use Rattle.cp_model.specs.Skeleton.{SkeletonStrand, instance, skeleton_trace, skeleton_trace_or_none, term_event_at, Skeleton}
use Rattle.cp_strand.specs.View.{InstanceData, instance_view}
use Rattle.cp_escape.specs.WidenedPattern.{EndsBySending}

module _ (k l : Skeleton) (role : Role) (height : ℕ) (terms : List Binding) (at : item_at l.strands (length k.strands) ≡ Some (instance role height terms)) (j : ℕ) (last : height ≡ suc j) where
  pub ends_so : (message : Term) → item_at (skeleton_trace (instance role height terms)) j ≡ Some (send message) → EndsBySending k l message
  ends_so message event = record {
    role = role;
    index = j;
    terms = terms;
    last = at ∙ ap (λ (n : ℕ). Some (instance role n terms)) last;
    sends = ap (λ (o : Option SkeletonStrand). item_at (skeleton_trace_or_none o) j) at ∙ event;
  }

  pub sent_last : (message : Term) → EndsBySending k l message → item_at (skeleton_trace (instance role height terms)) j ≡ Some (send message)
  sent_last message e =
      let both : Some (instance role height terms) ≡ Some (instance e.role (suc e.index) e.terms) = sym at ∙ e.last in
      let one : instance role height terms ≡ instance e.role (suc e.index) e.terms = cc in
      let heights : height ≡ suc e.index = cc in
      let index : e.index ≡ j = omega (arith, heights, last) in
      sym (ap (λ (o : Option SkeletonStrand). item_at (skeleton_trace_or_none o) j) at) ∙ subst (λ (i : ℕ). term_event_at l.strands (node_at (length k.strands) i) ≡ Some (send message)) index e.sends

no_sending : (found : Option (Event Term)) (message : Term) → ((t : Term) → found ≡ Some (send t) → ⊥) → found ≡ Some (send message) → ⊥
no_sending None message none e = absurd (cc)
no_sending (Some (send t)) message none e = none t refl
no_sending (Some (recv t)) message none e = let f : recv t ≡ send message = cc in absurd (cc)

module _ (k l : Skeleton) (n : ℕ) (number : n ≡ length k.strands) (s : SkeletonStrand) (at : item_at l.strands n ≡ Some s) (i : InstanceData) (is : instance_view i ≡ s) (j : ℕ) (last : i.height ≡ suc j) where
  there : item_at l.strands (length k.strands) ≡ Some (instance_view i)
  there = ap (item_at l.strands) (sym number) ∙ at ∙ ap (λ (x : SkeletonStrand). Some x) (sym is)

  module _ (found : Option (Event Term)) (event : found ≡ item_at (skeleton_trace s) j) where
    own_event : found ≡ item_at (skeleton_trace (instance_view i)) j
    own_event = event ∙ ap (λ (x : SkeletonStrand). item_at (skeleton_trace x) j) (sym is)

    pub ends_by_sending : (message : Term) → found ≡ Some (send message) → EndsBySending k l message
    ends_by_sending message e =
        ends_so k l i.role i.height (bindings_of i.values) there j last message (sym own_event ∙ e)

    pub never_sends : ((t : Term) → found ≡ Some (send t) → ⊥) → (message : Term) → EndsBySending k l message → ⊥
    never_sends none message e = no_sending found message none (own_event ∙ sent_last k l i.role i.height (bindings_of i.values) there j last message e)

pub one_less : (h m : ℕ) → h ≡ m → (h ≡ 0 → ⊥) → m ≡ suc (h - 1)
one_less zero m same positive = absurd (positive refl)
one_less (suc h) m same positive = omega (arith, same)
