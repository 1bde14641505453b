-- The children of a test are what their operations say.
use Rattle.std.proofs.Common.{◌≡◌, ℕ, suc, ◌≤◌, List, [], ◌∷◌, ◌++◌, length, Some, refl, sym, ap, ◌∙◌, subst, ⊎_elim, arith}
use Rattle.std.specs.Prelude.{◌≢◌}
use Rattle.cp_lists.specs.Lists.{item_at, IsIn, one_step}
use Rattle.cp_lists.proofs.Members.{in_append_left, in_last}
use Rattle.cp_model.specs.Term.{Term, Substitution, apply_to, composed}
use Rattle.cp_model.specs.Bindings.{Binding}
use Rattle.cp_model.specs.Strand.{payload, Role, Protocol}
use Rattle.cp_model.specs.declared.strand.Event.{Event}
use Rattle.cp_model.specs.declared.strand.Event.TheVariants.{Send as send}
use Rattle.cp_model.specs.Bundle.{node_at}
use Rattle.cp_model.specs.declared.node.Node.{Node}
use Rattle.cp_model.specs.declared.node.OrderPair.{OrderPair}
use Rattle.cp_model.specs.Skeleton.{instance, listener, term_event_at, Skeleton, along_pair, Before}
use Rattle.cp_model.specs.declared.tree.Operation.{Operation}
use Rattle.cp_model.specs.declared.tree.Operation.TheVariants.{Contracted as by_contraction, Displaced as by_displacement, AddedStrand as by_added_strand, AddedListener as by_added_listener}
use Rattle.cp_model.proofs.LawTerms.{term_composed}
use Rattle.cp_model.specs.declared.step.Step.{Step}
use Rattle.cp_model.specs.Positions.{term_at}
use Rattle.cp_theory.specs.Normal.{skeleton_under}
use Rattle.cp_collapse.specs.SameSkeletons.{SaysTheSame}
use Rattle.cp_model.specs.PrefixVariables.{prefix_variables, added_variables}
use Rattle.cp_model.specs.Extensions.{AddsListener}
use Rattle.cp_skel.specs.Events.{LocatedEvent, events_of}
use Rattle.cp_skel.proofs.CarriedHomomorphisms.{SaysMore, listener_says_more, strand_says_more, extended_says_more, reordered_says_more, before_wider}
use Rattle.cp_skel.proofs.EventLists.{listed_event, listed_role}
use Rattle.cp_skel.proofs.StaySkeletons.{appended-last}
use Rattle.cp_normal.specs.BySubstitution.{ComesBySubstitution}
use Rattle.cp_normal.proofs.BySubstitution.{form_comes}
use Rattle.cp_normal.proofs.FormsOf.{are_normal_forms}
use Rattle.cp_theory.specs.Covering.{put_before}
use Rattle.cp_theory.specs.Fresh.{fresh_terms}
use Rattle.cp_theory.proofs.Places.{term_at_under}
use Rattle.cp_pattern.specs.Unifiers.{UnifiesMostGenerally}
use Rattle.cp_cohort.specs.Releases.{PartialSolution, came_by, MeetsBoth}
use Rattle.cp_cohort.specs.Stages.{IsFirstUnder}
use Rattle.cp_cohort.specs.CoveringChildren.{Child, child, IsTransmissionBefore, HasGrown}
use Rattle.cp_cohort.specs.Cohort.{GuardedTest, release_at, AddsAt, IsCohort}
use Rattle.cp_cohort.specs.Cohort as cohort
use Rattle.cp_cohort.specs.Released.{IsChildBySubstitution, ReleasesCritical, ReleasesFromElsewhere, EndsByReleasing, SetsFree, Says, HasItsOperation}
use Rattle.cp_cohort.proofs.EachChild.{DisplacesAt, of_contracted, of_released, of_listened, each_child}
use Rattle.cp_cohort.proofs.SkeletonSteps.{Leads, IsStep, step_alike, step_form, step_event, step_instance, step_listener, step_before, step_leads, more_leads, first_then, more_then}
use Rattle.cp_cohort.proofs.SentOnTheWay.{IsSending, settles_sending}

-- With an event put before a node a skeleton says more.
put_says_more : (k e : Skeleton) (m n : Node) → SaysMore k e → SaysMore k (put_before m n e)
put_says_more k e m n more =
    let pair : OrderPair = record { earlier = m; later = n } in
    record {
      instances = more.instances;
      listeners = more.listeners;
      ordered = λ x y b. before_wider e (e.pairs ++ pair ∷ []) (λ p i. in_append_left (pair ∷ []) i) (more.ordered x y b);
      non = more.non;
      penetrator_non = more.penetrator_non;
      unique = more.unique;
      from_problem = more.from_problem;
    }

put_there : (e : Skeleton) (m n : Node) → Before (put_before m n e) m n
put_there e m n = let pair : OrderPair = record { earlier = m; later = n } in one_step (along_pair (in_last e.pairs pair))

says_itself_more : (k : Skeleton) → SaysMore k k
says_itself_more k = reordered_says_more k k (record { strands = refl; assumptions = refl; from_problem = refl }) (λ x y b. b)

module _ (q : GuardedTest) where
  abbrev k : Skeleton
  k = q.skeleton

  abbrev comes : (c : Child) (s : Substitution) → Leads k c.skeleton s → IsChildBySubstitution q c
  comes c s leads = record { substitution = s; homomorphism = leads.homomorphism; problem_strands = leads.problem_strands; problem_values = leads.problem_values }

  -- ---- contracted

  module _ (o : LocatedEvent) (path : List Step) (there_is : IsIn o (events_of k)) (before : IsTransmissionBefore k q.node o) (t : Term) (s : Substitution) (l : Skeleton) (at : term_at (payload o.event) path ≡ Some t) (unifies : UnifiesMostGenerally t q.critical s)
      (same : SaysTheSame (skeleton_under s k) l) (r : Skeleton) (c : ComesBySubstitution l r) where
    abbrev d : Child
    d = child (by_contraction o.node) path r

    first : IsStep k l s
    first = step_alike k l s same

    second : IsStep l r c.substitution
    second = step_form l r c

    abbrev by : IsChildBySubstitution q d
    by = comes d (composed s c.substitution) (first_then k l r s c.substitution (step_leads k l s first) (step_leads l r c.substitution second))

    at_message : term_at before.message path ≡ Some t
    at_message = ap (λ (e : Event Term). term_at (payload e) path) (sym before.sent) ∙ at

    contracted_child : HasItsOperation q d
    contracted_child = record {
      by = by;
      is_so = record {
        on_instance = listed_role k o there_is before.by_role;
        before_already = before.before;
        carries = record {
          message = apply_to c.substitution (apply_to s before.message);
          sent = step_event l r c.substitution second o.node (send (apply_to s before.message)) (step_event k l s first o.node (send before.message) (listed_event k o there_is ∙ ap Some before.sent));
          before = step_before l r c.substitution second (step_before k l s first before.before);
          stands = term_at_under c.substitution (apply_to s before.message) path (apply_to s q.critical) (term_at_under s before.message path t at_message ∙ ap Some unifies.unifies) ∙ ap Some (sym (term_composed s c.substitution q.critical));
        };
      };
    }

  -- ---- what is put before the node

  module _ (s j : ℕ) (path : List Step) (operation : Operation) (grown : Skeleton) (more : SaysMore k grown) (role : Role) (height : ℕ) (terms : List Binding) (on : item_at grown.strands s ≡ Some (instance role height terms)) where
    abbrev node : Node
    node = node_at s j

    abbrev put : Skeleton
    put = put_before node q.node grown

    sends_first : (t u : Term) (f : Substitution) (x : PartialSolution) → term_event_at grown.strands node ≡ Some (send t) → term_at t path ≡ Some u → UnifiesMostGenerally u q.critical f → IsFirstUnder put f x →
        IsSending k q.node (release_at q s j path) role height x
    sends_first t u f x ev at m is_first =
        let l : Skeleton = x.skeleton in
        let step = step_alike put l f is_first.same in
        let stays = step_instance put l f step s role height terms on in
        record {
          leads = subst (Leads k l) (sym is_first.by) (more_then k put l f (more_leads k put (put_says_more k grown node q.node more)) (step_leads put l f step));
          terms = stays.0;
          on_instance = stays.1;
          message = apply_to f t;
          sent = step_event put l f step node (send t) ev;
          before = step_before put l f step (put_there grown node q.node);
          stands = term_at_under f t path u at ∙ ap Some m.unifies ∙ ap (λ (v : Substitution). Some (apply_to v q.critical)) (sym is_first.by);
        }

    -- A child, of what solves the release, releases the critical term.
    record Releasing (d : Child) : Type 0 where
      by : IsChildBySubstitution q d
      releases : ReleasesCritical q d by node
      of_operation : d.operation ≡ operation
      to_terms : List Binding
      on_instance : item_at d.skeleton.strands s ≡ Some (instance role height to_terms)

    releasing : (x : PartialSolution) → IsSending k q.node (release_at q s j path) role height x → MeetsBoth (release_at q s j path) x → Releasing (child operation path x.skeleton)
    releasing x sending both = record {
      by = comes (child operation path x.skeleton) (came_by x) sending.leads;
      releases = record {
        carries = record { message = sending.message; sent = sending.sent; before = sending.before; stands = sending.stands };
        outside = λ inside. both.outside (record { event = send sending.message; there = sending.sent; inside = inside });
        inside_before = λ i event l there_is. both.inside_before i l event there_is;
      };
      of_operation = refl;
      to_terms = sending.terms;
      on_instance = sending.on_instance;
    }

    releases_said : (children : List Child) → cohort.Releases q operation (release_at q s j path) grown children → (d : Child) → IsIn d children → Releasing d
    releases_said =
        of_released q Releasing operation (release_at q s j path) grown
        (λ x c.
        let last = settles_sending k q.node (release_at q s j path) role height c.settles (sends_first c.message c.term c.unifier c.first c.sent c.at c.unifies c.is_first) x c.listed in
        releasing x last.0 last.1)

  -- ---- displaced

  module _ (s : ℕ) (role : Role) (height : ℕ) (terms : List Binding) (on : item_at k.strands s ≡ Some (instance role height terms)) (apart : s ≢ q.node.strand) (j : ℕ) (none : Before k (node_at s j) q.node → ⊥) (path : List Step) where
    -- The grown skeleton says more, and has an instance on the strand.
    record IsHigher (grown : Skeleton) : Type 0 where
      more : SaysMore k grown
      to_role : Role
      to_height : ℕ
      to_terms : List Binding
      to_instance : item_at grown.strands s ≡ Some (instance to_role to_height to_terms)

    higher : (grown : Skeleton) → HasGrown s role height j k grown → IsHigher grown
    higher grown h =
        ⊎_elim
        (λ r. subst IsHigher (sym r.1) (record { more = says_itself_more k; to_role = role; to_height = height; to_terms = terms; to_instance = on }))
        (λ r.
        let ext = r.2 in
        let le : height ≤ j = r.0 in
        let both : Some (instance role height terms) ≡ Some (instance ext.role ext.before ext.old_terms) = sym on ∙ ext.was_instance in
        let same : height ≡ ext.before = cc in
        let least : ext.before ≤ suc j = subst (λ (n : ℕ). n ≤ suc j) same (omega (arith, le)) in
        record {
          more = extended_says_more s (suc j) (fresh_terms (length q.skeleton.variables) (added_variables role height (suc j))) k grown ext least;
          to_role = ext.role;
          to_height = suc j;
          to_terms = ext.terms;
          to_instance = ext.on_instance;
        }) h.how

    displaced_at : (children : List Child) → DisplacesAt q s role height j path children → (d : Child) → IsIn d children → HasItsOperation q d
    displaced_at children a d i =
        let h = higher a.grown a.grows in
        let r = releases_said s j path (by_displacement (node_at s j)) a.grown h.more h.to_role h.to_height h.to_terms h.to_instance children a.releases d i in
        displaced_said d r.by
        (record {
          on_instance = record { role = h.to_role; height = h.to_height; terms = r.to_terms; on_instance = r.on_instance };
          was_instance = record { role = role; height = height; terms = terms; on_instance = on };
          apart = apart;
          not_before = none;
          releases = r.releases;
        }) r.of_operation
      where
        displaced_said : (c : Child) (by : IsChildBySubstitution q c) → ReleasesFromElsewhere q c by (node_at s j) → c.operation ≡ by_displacement (node_at s j) → HasItsOperation q c
        displaced_said c by releases e = record { by = by; is_so = subst (Says q c by) (sym e) releases }

  -- ---- added

  module _ (role : Role) (j : ℕ) where
    added_at : (path : List Step) (children : List Child) → AddsAt q role j path children → (d : Child) → IsIn d children → HasItsOperation q d
    added_at path children a d i =
        let place = length k.strands in
        let values = fresh_terms (length q.skeleton.variables) (prefix_variables role (suc j)) in
        let on = appended-last k a.grown (instance role (suc j) a.adds.terms) a.adds.strands a.adds.pairs in
        let r = releases_said place j path (by_added_strand place) a.grown (strand_says_more role (suc j) values k a.grown a.adds) role (suc j) a.adds.terms on children a.releases d i in
        added_said d r.by (record { is_new = refl; role = role; index = j; terms = r.to_terms; on_instance = r.on_instance; releases = r.releases }) r.of_operation
      where
        added_said : (c : Child) (by : IsChildBySubstitution q c) → EndsByReleasing q c by (length k.strands) → c.operation ≡ by_added_strand (length k.strands) → HasItsOperation q c
        added_said c by ends e = record { by = by; is_so = subst (Says q c by) (sym e) ends }

  -- ---- listeners

  module _ (t : Term) (added : Skeleton) (adds : AddsListener t k added) (sets_free : SetsFree q t) (r : Skeleton) where
    abbrev place : ℕ
    place = length k.strands

    abbrev put_listener : Skeleton
    put_listener = put_before (node_at place 1) q.node added

    listener_child : ComesBySubstitution put_listener r → HasItsOperation q (child (by_added_listener place) [] r)
    listener_child c =
        let step = step_form put_listener r c in
        record {
          by = comes (child (by_added_listener place) [] r) c.substitution
              (more_then k put_listener r c.substitution (more_leads k put_listener (put_says_more k added (node_at place 1) q.node (listener_says_more t k added adds))) (step_leads put_listener r c.substitution step));
          is_so = record {
            is_new = refl;
            term = t;
            sets_free = sets_free;
            on_listener = step_listener put_listener r c.substitution step place t (appended-last k added (listener t) (ap (λ (z : Skeleton). z.strands) adds) (ap (λ (z : Skeleton). z.pairs) adds));
            before = step_before put_listener r c.substitution step (put_there added (node_at place 1) q.node);
          };
        }

  -- ---- all of them

  pub said : (protocol : Protocol) (children : List Child) → IsCohort protocol q children → (d : Child) → IsIn d children → HasItsOperation q d
  said protocol = each_child protocol q (HasItsOperation q) (record {
    contracted = λ o there_is before path.
        of_contracted q (HasItsOperation q) o path (λ r c. contracted_child o path there_is before c.term c.unifier c.under c.at c.unifies c.same r (form_comes c.under r (are_normal_forms c.has r c.listed)));
    displaced = λ s role height terms on apart j t sent none. displaced_at s role height terms on apart j none;
    added = λ role listed j t sent. added_at role j;
    listened = λ t free.
        of_listened q (HasItsOperation q) t (λ r c. listener_child t c.added c.adds free r (form_comes (put_before (node_at (length k.strands) 1) q.node c.added) r (are_normal_forms c.normal r c.listed)));
  })

pub children_said : (protocol : Protocol) (q : GuardedTest) (children : List Child) → IsCohort protocol q children → (d : Child) → IsIn d children → HasItsOperation q d
children_said protocol q children is d i = said q protocol children is d i
