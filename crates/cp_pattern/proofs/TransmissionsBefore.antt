-- Transmissions of role strands before a node, as they are listed.
use Rattle.std.proofs.Common.{◌≡◌, List, [], Option, Some, None, IfSome, IfNone, Bool, true, false, refl, sym, ap, ◌∙◌, subst}
use Rattle.std.specs.Prelude.{◌↔◌, is_some, not}
use Rattle.cp_lists.specs.Lists.{IsIn, here}
use Rattle.cp_lists.proofs.Members.{in_append_right}
use Rattle.cp_model.specs.Identity.{unchanged}
use Rattle.cp_model.specs.Same.{same_term}
use Rattle.cp_model.specs.Term.{Term, Substitution}
use Rattle.cp_model.specs.declared.strand.Event.TheVariants.{Send as send}
use Rattle.cp_model.specs.declared.node.Node.{Node}
use Rattle.cp_model.specs.Skeleton.{instance, term_event_at, Skeleton, Before, IsNodeOf}
use Rattle.cp_model.specs.Derivable.{IsOnInstance}
use Rattle.cp_model.specs.Tree.{Pattern}
use Rattle.cp_skel.specs.Events.{LocatedEvent, is_role_strand, events_of}
use Rattle.cp_skel.specs.Sound.{IsSound}
use Rattle.cp_skel.proofs.OrderWithout.{way_ends}
use Rattle.cp_skel.proofs.EventLists.{listed_event, listed_role, event_listed}
use Rattle.cp_model.specs.declared.step.Step.{Step}
use Rattle.cp_model.specs.Positions.{positions_where}
use Rattle.cp_term.proofs.PositionLaws.{part_found}
use Rattle.cp_theory.specs.Inside.{CarriesInsideAlone}
use Rattle.cp_unify.specs.Bindings.{Binding, as_substitution}
use Rattle.cp_pattern.specs.Outside.{IsFirstPositionOutside}
use Rattle.cp_pattern.specs.Sent.{IsGuardedAt, SendInsideAlone}

-- What is carried outside the patterns somewhere is not carried inside them alone.
pub not_alone : (ps : List Pattern) (s : Substitution) (c t : Term) (path : List Step) → IsFirstPositionOutside ps s c t path → CarriesInsideAlone ps s c t → ⊥
not_alone ps s c t path f alone =
    f.outside (alone path ((part_found c t (positions_where (same_term c) t) refl path).0 (subst (IsIn path) (sym f.among) (in_append_right f.before here))))

-- What is found outside the patterns in what a role strand sends before a node tells whether that is guarded.
module _ (ps : List Pattern) (k : Skeleton) (n : Node) (c : Term) (o : LocatedEvent) (m : Term) (by_role : o.by_role ≡ true) (sent : o.event ≡ send m) (before : Before k o.node n) where
  told_guarded : (found : Option (List Step)) (answer : Bool) → is_some found ≡ not answer → IfSome found (IsFirstPositionOutside ps unchanged c m) → IfNone found (CarriesInsideAlone ps unchanged c m) →
      (answer ≡ true) ↔ IsGuardedAt ps k n c o
  told_guarded (Some path) true told outside _ = absurd (cc)
  told_guarded (Some path) false told outside _ = (λ e. absurd (cc), λ g. absurd (not_alone ps unchanged c m path outside (g m by_role sent before)))
  told_guarded None false told _ alone = absurd (cc)
  told_guarded None true told _ alone = (λ _ t r e b. subst (CarriesInsideAlone ps unchanged c) (let same : send m ≡ send t = sym sent ∙ e in cc) alone, λ _. refl)

  pub tells_guarded : (bs : List Binding) → bs ≡ [] → (found : Option (List Step)) (answer : Bool) → is_some found ≡ not answer → IfSome found (IsFirstPositionOutside ps (as_substitution bs) c m) →
      IfNone found (CarriesInsideAlone ps (as_substitution bs) c m) → (answer ≡ true) ↔ IsGuardedAt ps k n c o
  tells_guarded bs nothing found answer told outside alone =
      told_guarded found answer told (subst (λ xs. IfSome found (IsFirstPositionOutside ps (as_substitution xs) c m)) nothing outside)
      (subst (λ xs. IfNone found (CarriesInsideAlone ps (as_substitution xs) c m)) nothing alone)

pub nothing_before : (k : Skeleton) → IsSound k → (m n : Node) → Before k m n → IsNodeOf k.strands n
nothing_before k sound m n before = way_ends k m n sound.skeleton.order_pairs before

module _ (ps : List Pattern) (k : Skeleton) (n : Node) (c : Term) where
  -- a transmission of a role strand is listed as one
  sent_listed : (m : Node) (t : Term) → IsOnInstance k m → term_event_at k.strands m ≡ Some (send t) → IsIn (record { node = m; event = send t; by_role = true }) (events_of k)
  sent_listed m t on at =
      let h = event_listed k m (send t) at in
      let both : Some h.0 ≡ Some (instance on.role on.height on.terms) = sym h.1.at ∙ on.on_instance in
      let same : h.0 ≡ instance on.role on.height on.terms = cc in
      subst (λ (r : Bool). IsIn (record { node = m; event = send t; by_role = r }) (events_of k)) (ap is_role_strand same) h.1.listed

  guarded_each : SendInsideAlone ps k n c → (o : LocatedEvent) → IsIn o (events_of k) → IsGuardedAt ps k n c o
  guarded_each all o i t r e before = all o.node t (listed_role k o i r) (listed_event k o i ∙ ap Some e) before

  each_guarded : ((o : LocatedEvent) → IsIn o (events_of k) → IsGuardedAt ps k n c o) → SendInsideAlone ps k n c
  each_guarded each m t on at before = each (record { node = m; event = send t; by_role = true }) (sent_listed m t on at) t refl refl before

  module _ (os : List LocatedEvent) (all : os ≡ events_of k) where
    pub guarded_by_each : ((o : LocatedEvent) → IsIn o os → IsGuardedAt ps k n c o) → SendInsideAlone ps k n c
    guarded_by_each each = each_guarded (λ o i. each o (subst (λ (xs : List LocatedEvent). IsIn o xs) (sym all) i))

    pub guarded_listed : SendInsideAlone ps k n c → (o : LocatedEvent) → IsIn o os → IsGuardedAt ps k n c o
    guarded_listed h o i = guarded_each h o (subst (λ (xs : List LocatedEvent). IsIn o xs) all i)
