-- The escape set of a test guards it.
use Rattle.std.proofs.Common.{◌≡◌, List, [], map, Some, true, refl, sym, ap, ◌∙◌, subst, ⊎_elim, ◌↔◌}
use Rattle.cp_lists.specs.Lists.{IsIn, here, there}
use Rattle.cp_lists.proofs.Members.{in_append_left, not_in_none, only_item, from_map, into_map, nothing_there}
use Rattle.cp_model.specs.Term.{Term, IsCarriedByTerm, itself_term, in_left_term, in_right_term, variables_of}
use Rattle.cp_model.specs.declared.variable.Variable.{Variable}
use Rattle.cp_model.specs.Identity.{unchanged}
use Rattle.cp_model.specs.Strand.{payload}
use Rattle.cp_model.specs.declared.strand.Event.TheVariants.{Send as send, Receive as recv}
use Rattle.cp_model.specs.declared.node.Node.{Node}
use Rattle.cp_model.specs.Skeleton.{Skeleton, term_event_at, Before}
use Rattle.cp_model.specs.Derivable.{IsOnInstance}
use Rattle.cp_model.specs.Pattern.{IsPattern}
use Rattle.cp_model.specs.Problem.{variables_of_skeleton}
use Rattle.cp_model.specs.Same.{same_term}
use Rattle.cp_model.specs.Tree.{Pattern}
use Rattle.cp_model.proofs.LawTerms.{term_unchanged}
use Rattle.cp_model.proofs.SameTests.{term_is, same_term_itself}
use Rattle.cp_theory.specs.Normal.{variables_of_terms}
use Rattle.cp_model.specs.declared.step.Step.{Step}
use Rattle.cp_model.specs.Positions.{term_at}
use Rattle.cp_term.proofs.PositionLaws.{positions_found, carried_position}
use Rattle.cp_skel.specs.Events.{LocatedEvent, events_of}
use Rattle.cp_skel.proofs.EventLists.{listed_event, listed_role, is_role_at, located_event_at, listed_at}
use Rattle.cp_model.proofs.UnderVariables.{carried_variables}
use Rattle.cp_theory.specs.Above.{encryptions_above}
use Rattle.cp_theory.specs.Critical.{IsPartOfPairs, whole_part, part_of_left, part_of_right, IsTest, used_variables}
use Rattle.cp_theory.specs.Guards.{Guards}
use Rattle.cp_theory.specs.Inside.{IsInside}
use Rattle.cp_cohort.specs.CoveringChildren.{IsTransmissionBefore}
use Rattle.cp_cohort.proofs.Listed.{giver, given, those_have, with_it, terms_listed, of_terms_onto}
use Rattle.cp_escape.specs.ClosedEncryptions.{AreClosedBefore}
use Rattle.cp_escape.specs.Escape.{IsFirstWith, in_front, further, positions_of, whole_pattern, IsEscape}
use Rattle.cp_escape.specs.Sent.{CarriesBefore}
use Rattle.cp_escape.proofs.PartsAbove.{part_above, event_variables}

-- The first with a property is one of the list, and has it.
pub first_is_in : {A : Type 0} {has : A → Type 0} {xs : List A} {x : A} → IsFirstWith has xs x → IsIn x xs
first_is_in (in_front h) = here
first_is_in (further n h) = there (first_is_in h)

pub first_has : {A : Type 0} {has : A → Type 0} {xs : List A} {x : A} → IsFirstWith has xs x → has x
first_has (in_front h) = h
first_has (further n h) = first_has h

part_variables : {c t : Term} → IsPartOfPairs c t → IsCarriedByTerm c t
part_variables whole_part = itself_term
part_variables (part_of_left p) = in_left_term (part_variables p)
part_variables (part_of_right p) = in_right_term (part_variables p)

-- An encryption that some occurrence gives.
pub record IsGivenAbove (k : Skeleton) (n : Node) (c e : Term) : Type 0 where
  pub occurrence : LocatedEvent
  pub listed : IsIn occurrence (events_of k)
  pub sent : IsTransmissionBefore k n occurrence
  pub path : List Step
  pub position : IsIn path (positions_of c (payload occurrence.event))
  pub above : IsIn e (encryptions_above (payload occurrence.event) path)

module _ (k : Skeleton) (n : Node) (c : Term) (es : List Term) (closed : AreClosedBefore k n c es) where
  pub given_above : (e : Term) → IsIn e es → IsGivenAbove k n c e
  given_above e i =
      let j : IsIn e closed.encryptions = ⊎_elim (λ none. absurd (not_in_none none)) (λ l. l) (of_terms_onto [] closed.encryptions e (subst (IsIn e) closed.once i)) in
      let o = given closed.each e j in
      let h = those_have closed.before o.giver o.listed in
      let p = given o.gives_it e o.among in
      let same : e ≡ p.gives_it.encryption = only_item (subst (IsIn e) p.gives_it.alone p.among) in
      record {
        occurrence = o.giver;
        listed = h.0;
        sent = h.1;
        path = p.giver;
        position = p.listed;
        above = subst (λ (z : Term). IsIn z (encryptions_above (payload o.giver.event) p.giver)) (sym same) (first_is_in p.gives_it.outermost);
      }

  pub variables_within : (e : Term) → IsIn e es → (x : Variable) → IsIn x (variables_of e) → IsIn x (variables_of_skeleton k)
  variables_within e i x j =
      let h = given_above e i in
      event_variables k h.occurrence.node h.occurrence.event (listed_event k h.occurrence h.listed) x ((part_above (payload h.occurrence.event) h.path e h.above).variables x j)

  pub is_whole_pattern : (e : Term) → IsIn e es → IsPattern (whole_pattern e)
  is_whole_pattern e i =
      let h = given_above e i in
      record {
        encryption = (part_above (payload h.occurrence.event) h.path e h.above).encryption;
        locals_occur = λ x j. absurd (not_in_none j);
      }

  -- An occurrence of c in what was sent before gives an encryption above it.
  module _ (m : Node) (t : Term) (on : IsOnInstance k m) (at : term_event_at k.strands m ≡ Some (send t)) (before : Before k m n) (path : List Step) (stands : term_at t path ≡ Some c) where
    abbrev o : LocatedEvent
    o = located_event_at k m (send t)

    by_role : o.by_role ≡ true
    by_role = ap is_role_at on.on_instance

    sent_here : IsTransmissionBefore k n o
    sent_here = record { by_role = by_role; message = t; sent = refl; before = before }

    position : IsIn path (positions_of c t)
    position = (positions_found (same_term c) t path).1 (c, stands, same_term_itself c)

    pub above_it : (e : Term) × IsIn e es × IsIn e (encryptions_above t path)
    above_it =
        let g = giver closed.each o (with_it closed.before o (listed_at k m (send t) at) sent_here) in
        let h = giver g.gives_it path position in
        let e = h.gives_it.encryption in
        let among : IsIn e closed.encryptions = g.among e (h.among e (subst (IsIn e) (sym h.gives_it.alone) here)) in
        (e, subst (IsIn e) (sym closed.once) (terms_listed [] closed.encryptions e among), first_is_in h.gives_it.outermost)

module _ (k : Skeleton) (n : Node) (c : Term) (es : List Term) (ps : List Pattern) (closed : AreClosedBefore k n c es) (are : ps ≡ map whole_pattern es) where
  pub is_escape : IsEscape k n c ps
  is_escape = record { sent = closed.sent; before = closed.before; encryptions = closed.encryptions; each = closed.each; once = are ∙ ap (map whole_pattern) closed.once }

  encryption_of : (p : Pattern) → IsIn p ps → (e : Term) × IsIn e es × (whole_pattern e ≡ p)
  encryption_of p i = from_map whole_pattern es (subst (IsIn p) are i)

  critical_used : IsTest k n c → (x : Variable) → IsIn x (variables_of c) → IsIn x (used_variables k)
  critical_used test x i =
      in_append_left (variables_of_terms k.from_problem.values)
      (event_variables k n (recv test.message) test.reception x (carried_variables (part_variables test.component.part) x i))

  pattern_used : (p : Pattern) (x : Variable) → IsIn p ps → IsIn x (variables_of p.term) → IsIn x (used_variables k)
  pattern_used p x i j =
      let e = encryption_of p i in
      in_append_left (variables_of_terms k.from_problem.values) (variables_within k n c es closed e.0 e.1 x (subst (λ (q : Pattern). IsIn x (variables_of q.term)) (sym e.2) j))

  no_local : (p : Pattern) (x : Variable) → IsIn p ps → IsIn x p.locals → ⊥
  no_local p x i j = let e = encryption_of p i in not_in_none (subst (λ (q : Pattern). IsIn x q.locals) (sym e.2) j)

  is_inside : (t : Term) (path : List Step) → (e : Term) × IsIn e es × IsIn e (encryptions_above t path) → IsInside ps unchanged t path
  is_inside t path r = record {
    encryption = r.0;
    above = r.2;
    pattern = whole_pattern r.0;
    listed = subst (IsIn (whole_pattern r.0)) (sym are) (into_map whole_pattern r.1);
    matches = record { filled = unchanged; as_said = λ x f. refl; same = term_unchanged r.0 };
  }

  pub escape_guards : IsTest k n c → Guards ps k n c
  escape_guards test = record {
    patterns = λ p i. let e = encryption_of p i in subst IsPattern e.2 (is_whole_pattern k n c es closed e.0 e.1);
    keys = λ p i body key x same j l. no_local p x i l;
    used_by_patterns = λ p x i f. pattern_used p x i f.occurs;
    used_by_critical = critical_used test;
    inside = λ m t on at before path stands. is_inside t path (above_it k n c es closed m t on at before path stands);
  }

  pub empty_where_none : (ps ≡ []) ↔ (CarriesBefore k n c → ⊥)
  empty_where_none = (
    λ none h. let p = (carried_position h.message c).0 h.carried in
        let r = above_it k n c es closed h.sent.from h.message h.sent.on_instance h.sent.transmission h.sent.before p.0 p.1 in
        let e : map whole_pattern es ≡ [] = sym are ∙ none in
        not_in_none (subst (IsIn (whole_pattern r.0)) e (into_map whole_pattern r.1)),
    λ never. are ∙ ap (map whole_pattern) (nothing_there es (λ e i. never (carried_before (given_above k n c es closed e i)))),
  )
    where
      carried_before : {e : Term} → IsGivenAbove k n c e → CarriesBefore k n c
      carried_before h =
          let s = (positions_found (same_term c) (payload h.occurrence.event) h.path).0 h.position in
          let same : c ≡ s.0 = term_is c s.0 s.2 in
          let message : payload h.occurrence.event ≡ h.sent.message = ap payload h.sent.sent in
          record {
            message = payload h.occurrence.event;
            sent = record {
              from = h.occurrence.node;
              on_instance = listed_role k h.occurrence h.listed h.sent.by_role;
              transmission = listed_event k h.occurrence h.listed ∙ ap Some (h.sent.sent ∙ ap send (sym message));
              before = h.sent.before;
            };
            carried = (carried_position (payload h.occurrence.event) c).1 (h.path, s.1 ∙ ap Some (sym same));
          }

-- A term that is the same, without locals, is the same pattern.
pub alike_pattern : (e t : Term) (locals : List Variable) → t ≡ e → locals ≡ [] → IsPattern (whole_pattern e) → IsPattern (record { term = t; locals = locals })
alike_pattern e t locals same none p =
    subst (λ (xs : List Variable). IsPattern (record { term = t; locals = xs })) (sym none) (subst (λ (u : Term). IsPattern (whole_pattern u)) (sym same) p)
