-- A release test that is solved gives one of the skeletons, where the bundle has the event that is to release the term.
use Rattle.std.proofs.Common.{◌≡◌, ℕ, ◌<◌, List, Some, Bool, sym, ap, ◌∙◌, subst}
use Rattle.cp_lists.specs.Lists.{IsIn}
use Rattle.cp_model.specs.Message.{Key, Message}
use Rattle.cp_model.specs.Term.{Term, variables_of, value_of, after, Substitution, apply_to}
use Rattle.cp_model.specs.declared.variable.Variable.{Variable}
use Rattle.cp_model.specs.Strand.{payload, event_map}
use Rattle.cp_model.specs.declared.strand.Event.{Event}
use Rattle.cp_model.specs.Bundle.{node_at, event_at, Bundle, IsBundle}
use Rattle.cp_model.specs.Skeleton.{instance, term_event_at, Skeleton}
use Rattle.cp_model.specs.Standing.{Standing}
use Rattle.cp_model.specs.Derivable.{IsOnInstance}
use Rattle.cp_model.specs.Tree.{Pattern}
use Rattle.cp_model.proofs.LawTerms.{value_after}
use Rattle.cp_model.proofs.LawAgreement.{agree_value}
use Rattle.cp_model.proofs.LawEvents.{payload_map}
use Rattle.cp_model.proofs.LawStandings.{event_on}
use Rattle.cp_theory.specs.AuthenticationTest.{IsOutside}
use Rattle.cp_theory.proofs.Images.{image_event}
use Rattle.cp_theory.specs.Matches.{IsFreeIn}
use Rattle.cp_theory.specs.Inside.{IsBroughtInside, TellsProtected}
use Rattle.cp_theory.specs.Critical.{used_variables}
use Rattle.cp_theory.proofs.Positions.{IsOpenAt, AgreeOnFree, protected_alike, inside_by_values, brought_inside_not_open, brought_inside}
use Rattle.cp_theory.specs.Trials.{ReleaseTest, IsTestReleasedInside, IsCarriedEarlier, AreValuesInside, SolvesTest, settled, never, branched, normalised}
use Rattle.cp_theory.specs.NoneLeftOut.{GoesOn}
use Rattle.cp_theory.proofs.Reached.{Reached, reached_under, reached_form, goes_down}

-- The variables of the critical term, and the other variables of the patterns, are used in the first skeleton.
pub record AreUsed (trial : ReleaseTest) : Type 0 where
  pub by_patterns : (p : Pattern) (x : Variable) → IsIn p trial.patterns → IsFreeIn x p → IsIn x (used_variables trial.first)
  pub by_critical : (x : Variable) → IsIn x (variables_of trial.critical) → IsIn x (used_variables trial.first)

-- In the bundle the event of this strand releases the critical term at the position: no protecting encryption is above it,
-- and no earlier event has the term outside.
pub record IsReleasing (trial : ReleaseTest) (b : Bundle) (test : Message → Key → Bool) (c : Message) (strand : ℕ) : Type 0 where
  pub event : Event Message
  pub there : event_at b.strands (node_at strand trial.index) ≡ Some event
  pub unprotected : IsOpenAt test (payload event) trial.path
  pub first : (i : ℕ) (e : Event Message) → i < trial.index → event_at b.strands (node_at strand i) ≡ Some e → IsOutside test c (payload e) → ⊥

module _ (trial : ReleaseTest) (ks : List Skeleton) (b : Bundle) (h : Standing) (is : IsBundle trial.protocol b) (test : Message → Key → Bool) (tells : TellsProtected trial.patterns h.values test)
    (used : AreUsed trial) (strand : ℕ) (releasing : IsReleasing trial b test (value_of h.values trial.critical) strand) where
  free_alike : (s : Substitution) (l : Skeleton) (g : Standing) → Reached trial.first b h s l g → AgreeOnFree trial.patterns (after g.values s) h.values
  free_alike s l g r p x i free = sym (r.values x (used.by_patterns p x i free))

  -- The event of the reached skeleton's strand, in the bundle.
  event_there : (s : Substitution) (l : Skeleton) (g : Standing) → Reached trial.first b h s l g → (g.nodes trial.strand).strand ≡ strand → (i : ℕ) (on : IsOnInstance l (node_at trial.strand i)) (e : Event Term) →
      term_event_at l.strands (node_at trial.strand i) ≡ Some e → event_at b.strands (node_at strand i) ≡ Some (event_map (value_of g.values) e)
  event_there s l g r to i on e at =
      let ev = image_event b g trial.strand on.role on.height on.terms i e (r.stands.instances trial.strand on.role on.height on.terms on.on_instance)
      (event_on l (node_at trial.strand i) (instance on.role on.height on.terms) e on.on_instance at) in
      subst (λ (a : ℕ). event_at b.strands (node_at a i) ≡ Some (event_map (value_of g.values) e)) to ev

  no_release_inside : (s : Substitution) (l : Skeleton) (g : Standing) → Reached trial.first b h s l g → (g.nodes trial.strand).strand ≡ strand → IsTestReleasedInside trial s l → ⊥
  no_release_inside s l g r to inside =
      let ev = event_there s l g r to trial.index inside.on_instance inside.event inside.there in
      let both : Some releasing.event ≡ Some (event_map (value_of g.values) inside.event) = sym releasing.there ∙ ev in
      let same : releasing.event ≡ event_map (value_of g.values) inside.event = cc in
      let value : payload releasing.event ≡ value_of g.values (payload inside.event) = ap payload same ∙ payload_map (value_of g.values) inside.event in
      let brought = inside_by_values trial.patterns s g.values (payload inside.event) trial.path inside.inside in
      let brought_here : IsBroughtInside trial.patterns h.values g.values (payload inside.event) trial.path = record {
        encryption = brought.encryption;
        above = brought.above;
        protected = protected_alike trial.patterns (after g.values s) h.values (value_of g.values brought.encryption) (free_alike s l g r) brought.protected;
      } in
      brought_inside_not_open trial.patterns h.values g.values test tells (payload inside.event) trial.path brought_here (subst (λ (m : Message). IsOpenAt test m trial.path) value releasing.unprotected)

  critical_value : (s : Substitution) (l : Skeleton) (g : Standing) → Reached trial.first b h s l g → value_of g.values (apply_to s trial.critical) ≡ value_of h.values trial.critical
  critical_value s l g r = sym (value_after g.values s trial.critical) ∙ sym (agree_value h.values (after g.values s) trial.critical (λ x i. r.values x (used.by_critical x i)))

  occurrence_inside : (s : Substitution) (l : Skeleton) (g : Standing) → Reached trial.first b h s l g → (g.nodes trial.strand).strand ≡ strand → (o : IsCarriedEarlier trial s l) → AreValuesInside trial s l o g.values
  occurrence_inside s l g r to o =
      let ev = event_there s l g r to o.index o.on_instance o.event o.there in
      let none : IsOutside test (value_of h.values trial.critical) (value_of g.values (payload o.event)) → ⊥ =
      λ q. releasing.first o.index (event_map (value_of g.values) o.event) o.earlier ev (subst (IsOutside test (value_of h.values trial.critical)) (sym (payload_map (value_of g.values) o.event)) q) in
      let brought = brought_inside trial.patterns h.values g.values test tells (value_of h.values trial.critical) (payload o.event) (apply_to s trial.critical) o.path o.carried (critical_value s l g r) none in
      record {
        encryption = brought.encryption;
        above = brought.above;
        protected = protected_alike trial.patterns h.values (after g.values s) (value_of g.values brought.encryption) (λ p x i free. sym (free_alike s l g r p x i free)) brought.protected;
      }

  -- So the standing goes on.
  pub tried_goes_on : {s : Substitution} {l : Skeleton} → SolvesTest trial ks s l → (g : Standing) → Reached trial.first b h s l g → (g.nodes trial.strand).strand ≡ strand → GoesOn ks trial.first b h
  tried_goes_on {s} {l} (settled d) g r to = goes_down trial.protocol ks trial.first b h s l g is r d
  tried_goes_on {s} {l} (never inside) g r to = absurd (no_release_inside s l g r to inside)
  tried_goes_on {s} {l} (branched o by fits again) g r to =
      let inside = occurrence_inside s l g r to o in
      tried_goes_on (again g.values inside) (record { nodes = g.nodes; values = (fits g.values inside).values }) (reached_under trial.first b h s l g (by g.values inside) r (fits g.values inside)) to
  tried_goes_on {s} {l} (normalised forms keep again) g r to =
      let a = keep b g is r.stands r.apart in
      tried_goes_on (again a.form a.listed) g (reached_form trial.first b h s l g forms r a) to
