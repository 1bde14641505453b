-- The cohort of a test covers it.
use Rattle.std.proofs.Common.{◌≡◌, ℕ, suc, ◌<◌, ◌≤◌, List, [], ◌∷◌, ◌++◌, length, map, Option, Some, None, Bool, true, refl, sym, ap, ◌∙◌, subst, ◌⊎◌, inl, inr, ⊎_elim, arith}
use Rattle.std.specs.Prelude.{◌≢◌}
use Rattle.cp_lists.specs.Lists.{item_at, IsIn, here}
use Rattle.cp_lists.proofs.Items.{item_below}
use Rattle.cp_lists.proofs.Members.{in_append_left, in_append_right, into_map}
use Rattle.cp_model.specs.Term.{KeyTerm, key_term, inverse_term, Term, atom_term, enc_term, variables_of, Assignment, value_of, Substitution, apply_to}
use Rattle.cp_model.specs.Bindings.{Binding, as_substitution}
use Rattle.cp_model.specs.declared.variable.Variable.{Variable}
use Rattle.cp_model.specs.Identity.{unchanged}
use Rattle.cp_model.specs.Strand.{Role, Protocol, IsHeight}
use Rattle.cp_model.specs.declared.strand.Event.TheVariants.{Send as send, Receive as recv}
use Rattle.cp_model.specs.declared.variable.Declaration.{Declaration}
use Rattle.cp_model.specs.Bundle.{node_at}
use Rattle.cp_model.specs.declared.node.Node.{Node}
use Rattle.cp_model.specs.Skeleton.{SkeletonStrand, instance, listener, skeleton_trace_or_none, term_event_at, Skeleton, Before, IsSkeleton}
use Rattle.cp_model.specs.Derivable.{IsOnInstance}
use Rattle.cp_model.specs.Problem.{numbers_from, IsDeclared}
use Rattle.cp_model.specs.PointOfView.{HasDeclaredVariables}
use Rattle.cp_model.specs.Tree.{Pattern}
use Rattle.cp_model.specs.declared.tree.Operation.{Operation}
use Rattle.cp_model.specs.declared.tree.Operation.TheVariants.{Displaced as by_displacement}
use Rattle.cp_model.proofs.StrandParts.{same_instance}
use Rattle.cp_model.proofs.LawPrefixes.{in_front_of_trace}
use Rattle.cp_model.proofs.DeclaredVariables.{still_declared}
use Rattle.cp_model.specs.declared.step.Step.{Step}
use Rattle.cp_model.specs.Positions.{term_at}
use Rattle.cp_term.proofs.PositionLaws.{positions_found}
use Rattle.cp_theory.specs.Normal.{skeleton_under}
use Rattle.cp_theory.proofs.Skeletons.{skeleton_under_is_skeleton}
use Rattle.cp_collapse.proofs.SameSkeletons.{same_is_skeleton}
use Rattle.cp_collapse.proofs.NoNewVariables.{KeepsDeclared}
use Rattle.cp_model.specs.PrefixVariables.{prefix_variables, added_variables}
use Rattle.cp_model.specs.Declares.{DeclaresItsVariables}
use Rattle.cp_model.specs.Extensions.{IsClosedPrefix, AddsStrand, CanExtend, Extends}
use Rattle.cp_skel.specs.Events.{LocatedEvent, is_role_strand, events_of}
use Rattle.cp_skel.proofs.DeclaredChanges.{more_declared, strand_declared, extended_declared, ordered_declared}
use Rattle.cp_model.proofs.PrefixVariables.{in-prefix, in-added}
use Rattle.cp_skel.proofs.StaySkeletons.{strand-stays-skeleton, appended-grows, appended-last, extended-grows, extended-stays-skeleton}
use Rattle.cp_skel.proofs.EventLists.{IsListedAs, event_listed}
use Rattle.cp_normal.proofs.VariablesUnder.{all_declared, under_declared, agreeing_declared}
use Rattle.cp_theory.specs.Inside.{IsInside}
use Rattle.cp_theory.specs.Critical.{IsTest}
use Rattle.cp_theory.specs.Guards.{Guards}
use Rattle.cp_theory.specs.Fresh.{fresh_terms}
use Rattle.cp_theory.specs.Covering.{put_before, IsContracted, IsDisplaced, IsAddedStrand, IsListenedTo, trial_at, IsCovering}
use Rattle.cp_theory.specs.Covering as covering
use Rattle.cp_theory.proofs.Places.{term_at_under, position_variables}
use Rattle.cp_pattern.specs.Unifiers.{UnifiesMostGenerally}
use Rattle.cp_cohort.specs.GatheredLists.{EachGives}
use Rattle.cp_cohort.specs.CoveringChildren.{Child, declarations_among, HasGrown}
use Rattle.cp_cohort.specs.Cohort.{GuardedTest, positions, Contracts, AreContracted, release_at, DisplacesEvent, DisplacesStrand, AddsAt, AddsEvent, FreesCritical, by_key, by_body, by_nothing, Listens, AreListeners, IsCohort, is_before, is_displaced, is_added, of_listener, of_node, of_role, is_inside, is_critical, cyclic}
use Rattle.cp_cohort.specs.Cohort as cohort
use Rattle.cp_theory.specs.Trials.{SolvesTest}
use Rattle.cp_cohort.specs.Releases.{PartialSolution}
use Rattle.cp_cohort.specs.Stages.{IsFirstUnder}
use Rattle.cp_cohort.specs.Way.{GivesDeclared, IsSoundPartial}
use Rattle.cp_cohort.proofs.Alike.{alike_tried, alike_comes_down, forms_come_down}
use Rattle.cp_cohort.proofs.OnTheWay.{unifier_keeps, instance_under, at_index}
use Rattle.cp_cohort.proofs.Settled.{event_declared, used_below, settles_tried}
use Rattle.cp_cohort.proofs.GrownEvents.{Sends, grown_sends}
use Rattle.cp_cohort.proofs.Listed.{giver, with_it, number_listed, terms_listed}
use Rattle.cp_cohort.proofs.EventsBefore.{put_is_skeleton, listening_is_skeleton, fresh_fit, fresh_declared}

abbrev AreListed : List Skeleton → List Child → Type 0
AreListed ks children = (d : Child) → IsIn d children → IsIn d.skeleton ks

at_position : (t : Term) (path : List Step) (u : Term) → term_at t path ≡ Some u → IsIn path (positions t)
at_position t path u at = (positions_found (λ v. true) t path).1 (u, at, refl)

module _ (protocol : Protocol) (q : GuardedTest) (sk : IsSkeleton protocol q.skeleton) (declares : (role : Role) → IsIn role protocol.roles → DeclaresItsVariables role) (declared : HasDeclaredVariables q.skeleton.variables q.skeleton)
    (is_test : IsTest q.skeleton q.node q.critical) (guards : Guards q.patterns q.skeleton q.node q.critical) where
  abbrev k : Skeleton
  k = q.skeleton

  closed_prefix : (role : Role) (height : ℕ) → IsIn role protocol.roles → IsClosedPrefix role height
  closed_prefix role height i x j = declares role i x (in_front_of_trace height role.trace x j)

  critical_declared : (x : Variable) → IsIn x (variables_of q.critical) → IsDeclared q.skeleton.variables x
  critical_declared x i = all_declared q.skeleton.variables k declared x (guards.used_by_critical x i)

  -- ---- contracted

  contracts_cover : (ks : List Skeleton) (m : Node) (t : Term) (path : List Step) (children : List Child) → Contracts q (record { node = m; event = send t; by_role = true }) path children → AreListed ks children → (u : Term) → term_at t path ≡ Some u →
      IsInside q.patterns unchanged t path ⊎ ((u ≡ q.critical) ⊎ ((g : Assignment) → value_of g u ≡ value_of g q.critical → IsContracted protocol ks k g))
  contracts_cover ks m t path children (is_inside inside) listed u at = inl inside
  contracts_cover ks m t path children (is_critical there_is) listed u at = let both : Some u ≡ Some q.critical = sym at ∙ there_is in inr (inl cc)
  contracts_cover ks m t path children (cohort.never_equal {t = v} there_is never) listed u at =
      let both : Some v ≡ Some u = sym there_is ∙ at in
      let same : v ≡ u = cc in
      inr (inr (λ g equal. absurd (never g (ap (value_of g) same ∙ equal))))
  contracts_cover ks m t path children (cohort.unified {t = v} {s = s} {l = l} {forms = forms} outside there_is ne unifies same has table) listed u at =
      let both : Some v ≡ Some u = sym there_is ∙ at in
      let equal : v ≡ u = cc in
      let is : IsSkeleton protocol l = same_is_skeleton (skeleton_under s k) l same protocol (skeleton_under_is_skeleton protocol s k sk) in
      inr (inr (λ g values. record {
        substitution = s;
        fits = record { values = g; same_inside = λ x i. refl; same_of_first = λ x i. refl; fits = unifies.general g (ap (value_of g) equal ∙ values) };
        down = alike_comes_down protocol ks (skeleton_under s k) l same (forms_come_down protocol ks l forms is has (λ r i. listed _ (into_map _ i)));
      }))

  contracted : (ks : List Skeleton) (children : List Child) → AreContracted q children → AreListed ks children → (m : Node) (t u : Term) (path : List Step) → IsOnInstance k m → term_event_at k.strands m ≡ Some (send t) → Before k m q.node → term_at t path ≡ Some u →
      IsInside q.patterns unchanged t path ⊎ ((u ≡ q.critical) ⊎ ((g : Assignment) → value_of g u ≡ value_of g q.critical → IsContracted protocol ks k g))
  contracted ks children are listed m t u path on ev before at =
      let o : LocatedEvent = record { node = m; event = send t; by_role = true } in
      let event : IsIn o (events_of k) = by_strand (event_listed k m (send t) ev) in
      let of_event = giver are.each o (with_it are.before o event (record { by_role = refl; message = t; sent = refl; before = before })) in
      let of_path = giver of_event.gives_it path (at_position t path u at) in
      contracts_cover ks m t path of_path.given of_path.gives_it (λ d i. listed d (of_event.among d (of_path.among d i))) u at
    where
      by_strand : (r : (x : SkeletonStrand) × IsListedAs k m (send t) x) → IsIn (record { node = m; event = send t; by_role = true }) (events_of k)
      by_strand r =
          let both : Some r.0 ≡ Some (instance on.role on.height on.terms) = sym r.1.at ∙ on.on_instance in
          let same : r.0 ≡ instance on.role on.height on.terms = cc in
          subst (λ (b : Bool). IsIn (record { node = m; event = send t; by_role = b }) (events_of k)) (ap is_role_strand same) r.1.listed

  -- ---- what is put before the node

  -- A skeleton that has grown out of the first one, with more variables: there is an instance on strand s, and the node, of
  -- another strand, still is a reception.
  pub record IsGrown (s : ℕ) (grown : Skeleton) : Type 0 where
    pub skeleton : IsSkeleton protocol grown
    pub on_instance : IsOnInstance grown (node_at s 0)
    pub has_declared : HasDeclaredVariables grown.variables grown
    pub still : (x : Variable) → IsDeclared q.skeleton.variables x → IsDeclared grown.variables x
    pub reception : term_event_at grown.strands q.node ≡ Some (recv is_test.message)
    pub apart : s ≢ q.node.strand

  module _ (s j : ℕ) (path : List Step) (grown : Skeleton) (is : IsGrown s grown) where
    abbrev variables : List Declaration
    variables = grown.variables

    abbrev node : Node
    node = node_at s j

    abbrev put : Skeleton
    put = put_before node q.node grown

    module _ (t u : Term) (ev : term_event_at grown.strands node ≡ Some (send t)) (at : term_at t path ≡ Some u) (acyclic : (y : Node) → Before put y y → ⊥) (f : Substitution) (m : UnifiesMostGenerally u q.critical f) where
      unifier_gives : KeepsDeclared variables f
      unifier_gives = unifier_keeps variables u q.critical f (λ x i. event_declared variables grown is.has_declared node (send t) ev x (position_variables t path u at x i)) (λ x i. is.still x (critical_declared x i)) m

      pub put_on_the_way : (x : PartialSolution) → IsFirstUnder put f x → IsSoundPartial protocol k (release_at q s j path) x
      put_on_the_way x is_first = let l : Skeleton = x.skeleton in let same = is_first.same in record {
        skeleton = same_is_skeleton (skeleton_under f put) l same protocol (skeleton_under_is_skeleton protocol f put (put_is_skeleton protocol grown is.skeleton node q.node t is_test.message ev is.reception is.apart acyclic));
        on_instance = at_index l s 0 j (instance_under grown l f s same.strands is.on_instance);
        declared = subst (λ (ds : List Declaration). HasDeclaredVariables ds l) (sym is_first.variables)
            (agreeing_declared variables (skeleton_under f put) l same (under_declared variables f put unifier_gives (ordered_declared variables grown put.pairs is.has_declared)));
        gives_declared = subst (λ (g : Substitution). GivesDeclared l.variables k g) (sym is_first.by)
            (subst (λ (ds : List Declaration). GivesDeclared ds k f) (sym is_first.variables) (λ z y i. unifier_gives z y (is.still z (all_declared q.skeleton.variables k declared z i))));
      }

    releases_cover : (ks : List Skeleton) (operation : Operation) (children : List Child) → cohort.Releases q operation (release_at q s j path) grown children → AreListed ks children → covering.CoversRelease (trial_at protocol k q.patterns q.critical s j path) ks q.node grown
    releases_cover ks operation children (cyclic {y = y} before) listed acyclic t u ev at g equal = absurd (acyclic y before)
    releases_cover ks operation children (cohort.never_equal {t = t'} {u = u'} ev' at' never) listed acyclic t u ev at g equal =
        let events : Some (send t') ≡ Some (send t) = sym ev' ∙ ev in
        let same : t' ≡ t = cc in
        let terms : Some u' ≡ Some u = sym at' ∙ ap (λ (v : Term). term_at v path) same ∙ at in
        let one : u' ≡ u = cc in
        absurd (never g (ap (value_of g) one ∙ equal))
    releases_cover ks operation children (cohort.unified {t = t'} {u = u'} {s = f} {x = x} {settled = settled} none ev' at' m is_first settles) listed acyclic t u ev at g equal =
        let events : Some (send t') ≡ Some (send t) = sym ev' ∙ ev in
        let one_sent : t' ≡ t = cc in
        let terms : Some u' ≡ Some u = sym at' ∙ ap (λ (v : Term). term_at v path) one_sent ∙ at in
        let one : u' ≡ u = cc in
        record {
          substitution = f;
          fits = record { values = g; same_inside = λ x i. refl; same_of_first = λ x i. refl; fits = m.general g (ap (value_of g) one ∙ equal) };
          tried = alike_tried (trial_at protocol k q.patterns q.critical s j path) ks f (skeleton_under f put) x.skeleton is_first.same
              (subst (λ (h : Substitution). SolvesTest (trial_at protocol k q.patterns q.critical s j path) ks h x.skeleton) is_first.by
              (settles_tried protocol k (release_at q s j path) (λ p z i free. guards.used_by_patterns p z i free) ks settles (put_on_the_way t' u' ev' at' none f m x is_first) (λ z i. listed _ (into_map _ i))));
        }

  -- ---- displaced

  module _ (s : ℕ) (role : Role) (height : ℕ) (terms : List Binding) (on : item_at k.strands s ≡ Some (instance role height terms)) (apart : s ≢ q.node.strand) (j : ℕ) (t : Term) (sent : item_at role.trace j ≡ Some (send t)) where
    in_roles : IsIn role protocol.roles
    in_roles = sk.of_role s role height terms on

    high_grown : IsGrown s k
    high_grown = record {
      skeleton = sk;
      on_instance = record { role = role; height = height; terms = terms; on_instance = on };
      has_declared = declared;
      still = λ x d. d;
      reception = is_test.reception;
      apart = apart;
    }

    abbrev added : List Variable
    added = added_variables role height (suc j)

    abbrev more : List Declaration
    more = declarations_among role added

    abbrev new : List Term
    new = fresh_terms (length q.skeleton.variables) added

    module _ (le : height ≤ j) (grown : Skeleton) (table : grown.variables ≡ q.skeleton.variables ++ more) (ext : Extends s (suc j) new k grown) where
      can : CanExtend k s (suc j) new
      can = let below : j < length role.trace = item_below role.trace j (send t) sent in record {
        role = role;
        before = height;
        terms = terms;
        on_instance = on;
        higher = omega (arith, le);
        reached = omega (arith, below);
        fitting = fresh_fit (length q.skeleton.variables) added;
      }

      at_most : (before : ℕ) (r : Role) (ts : List Binding) → item_at k.strands s ≡ Some (instance r before ts) → before ≤ suc j
      at_most before r ts e =
          let both : Some (instance role height terms) ≡ Some (instance r before ts) = sym on ∙ e in
          let same : height ≡ before = cc in
          subst (λ (n : ℕ). n ≤ suc j) same (omega (arith, le))

      extended_skeleton : IsSkeleton protocol grown
      extended_skeleton = extended-stays-skeleton protocol s (suc j) new k grown can sk ext

      extended_grown : IsGrown s grown
      extended_grown = record {
        skeleton = extended_skeleton;
        on_instance = record { role = ext.role; height = suc j; terms = ext.terms; on_instance = ext.on_instance };
        has_declared = subst (λ (ds : List Declaration). HasDeclaredVariables ds grown) (sym table)
            (extended_declared (q.skeleton.variables ++ more) s (suc j) new k grown ext (closed_prefix ext.role (suc j) (extended_skeleton.of_role s ext.role (suc j) ext.terms ext.on_instance))
            (λ u x i m. fresh_declared q.skeleton.variables role added (λ y n. ((in-added role y height (suc j)).0 n).0) u x i m) (more_declared q.skeleton.variables more k declared));
        still = λ x d. subst (λ (ds : List Declaration). IsDeclared ds x) (sym table) (still_declared q.skeleton.variables more x.number x.sort d);
        reception = (extended-grows s (suc j) new k grown at_most ext).events q.node (recv is_test.message) is_test.reception;
        apart = apart;
      }

    abbrev HowGrown : Skeleton → Type 0
    HowGrown grown = ((j < height) × (grown ≡ k)) ⊎ ((height ≤ j) × (grown.variables ≡ q.skeleton.variables ++ more) × Extends s (suc j) new k grown)

    pub displaced_grown : (grown : Skeleton) → HowGrown grown → IsGrown s grown
    displaced_grown grown (inl r) = subst (IsGrown s) (sym r.1) high_grown
    displaced_grown grown (inr r) = extended_grown r.0 grown r.1 r.2

    displaced_at : (grown : Skeleton) → HasGrown s role height j k grown → (ks : List Skeleton) (path : List Step) (children : List Child) →
        cohort.Releases q (by_displacement (node_at s j)) (release_at q s j path) grown children → AreListed ks children → IsDisplaced (trial_at protocol k q.patterns q.critical s j path) ks q.node role height
    displaced_at grown grows ks path children releases listed = record {
      grown = grown;
      grows = record {
        count = length q.skeleton.variables;
        below = used_below q.skeleton.variables k declared;
        closed = closed_prefix role (suc j) in_roles;
        how = ⊎_elim inl (λ r. inr (r.0, r.2)) grows.how;
      };
      releases = releases_cover s j path grown (displaced_grown grown grows.how) ks _ children releases listed;
    }

    displaced_event : (ks : List Skeleton) (u : Term) (path : List Step) (children : List Child) → DisplacesEvent q s role height j children → AreListed ks children → term_at t path ≡ Some u →
        Before k (node_at s j) q.node ⊎ IsDisplaced (trial_at protocol k q.patterns q.critical s j path) ks q.node role height
    displaced_event ks u path children (cohort.is_reception {t = t'} there_is) listed at = let both : Some (send t) ≡ Some (recv t') = sym sent ∙ there_is in absurd (cc)
    displaced_event ks u path children (is_before before) listed at = inl before
    displaced_event ks u path children (is_displaced {sent = message} {grown = grown} there_is none grows sends each) listed at =
        let is : Sends grown (node_at s j) t = grown_sends k s role height j terms t on sent grown grows in
        let both : Some (send message) ≡ Some (send (apply_to (as_substitution is.terms) t)) = sym sends ∙ is.there in
        let same : message ≡ apply_to (as_substitution is.terms) t = cc in
        let one = giver each path (at_position message path (apply_to (as_substitution is.terms) u) (ap (λ (v : Term). term_at v path) same ∙ term_at_under (as_substitution is.terms) t path u at)) in
        inr (displaced_at grown grows ks path one.given one.gives_it (λ d i. listed d (one.among d i)))

    displaced_strand : (ks : List Skeleton) (u : Term) (path : List Step) (children : List Child) → DisplacesStrand q s children → AreListed ks children → term_at t path ≡ Some u →
        Before k (node_at s j) q.node ⊎ IsDisplaced (trial_at protocol k q.patterns q.critical s j path) ks q.node role height
    displaced_strand ks u path children (of_listener {t = t'} there_is) listed at = let both : Some (listener t') ≡ Some (instance role height terms) = sym there_is ∙ on in absurd (cc)
    displaced_strand ks u path children (of_node same) listed at = absurd (apart same)
    displaced_strand ks u path children (of_role {role = r} {height = h} {terms = ts} there_is ne each) listed at =
        let both : Some (instance r h ts) ≡ Some (instance role height terms) = sym there_is ∙ on in
        let one : EachGives (DisplacesEvent q s role height) (numbers_from 0 role.trace) children = same_instance (λ (r' : Role) (h' : ℕ) (ts' : List Binding). EachGives (DisplacesEvent q s r' h') (numbers_from 0 r'.trace) children) both each in
        let event = giver one j (number_listed j role.trace (item_below role.trace j (send t) sent)) in
        displaced_event ks u path event.given event.gives_it (λ d i. listed d (event.among d i)) at

  -- ---- added

  module _ (role : Role) (in_roles : IsIn role protocol.roles) (j : ℕ) (t : Term) (sent : item_at role.trace j ≡ Some (send t)) where
    abbrev all_new : List Variable
    all_new = prefix_variables role (suc j)

    abbrev place : ℕ
    place = length k.strands

    is_height : IsHeight role (suc j)
    is_height = let below : j < length role.trace = item_below role.trace j (send t) sent in (omega arith, omega (arith, below))

    node_below : q.node.strand < place
    node_below = by_strand (item_at k.strands q.node.strand) refl is_test.reception
      where
        by_strand : (o : Option SkeletonStrand) → item_at k.strands q.node.strand ≡ o → item_at (skeleton_trace_or_none o) q.node.index ≡ Some (recv is_test.message) → q.node.strand < place
        by_strand None is ev = absurd (cc)
        by_strand (Some st) is ev = item_below k.strands q.node.strand st is

    module _ (grown : Skeleton) (table : grown.variables ≡ q.skeleton.variables ++ declarations_among role all_new) (adds : AddsStrand role (suc j) (fresh_terms (length q.skeleton.variables) all_new) k grown) where
      pub added_grown : IsGrown place grown
      added_grown = record {
        skeleton = strand-stays-skeleton protocol role (suc j) (fresh_terms (length q.skeleton.variables) all_new) k grown in_roles is_height sk adds;
        on_instance = record { role = role; height = suc j; terms = adds.terms; on_instance = appended-last k grown (instance role (suc j) adds.terms) adds.strands adds.pairs };
        has_declared = subst (λ (ds : List Declaration). HasDeclaredVariables ds grown) (sym table)
            (strand_declared (q.skeleton.variables ++ declarations_among role all_new) role (suc j) (fresh_terms (length q.skeleton.variables) all_new) k grown (closed_prefix role (suc j) in_roles) adds
            (λ u x i m. fresh_declared q.skeleton.variables role all_new (λ y n. ((in-prefix role y (suc j)).0 n).0) u x i m) (more_declared q.skeleton.variables (declarations_among role all_new) k declared));
        still = λ x d. subst (λ (ds : List Declaration). IsDeclared ds x) (sym table) (still_declared q.skeleton.variables (declarations_among role all_new) x.number x.sort d);
        reception = (appended-grows k grown (instance role (suc j) adds.terms) adds.strands adds.pairs).events q.node (recv is_test.message) is_test.reception;
        apart = λ same. let l : q.node.strand < place = node_below in omega (arith, l, same);
      }

    added_at : (ks : List Skeleton) (path : List Step) (children : List Child) → AddsAt q role j path children → AreListed ks children → IsAddedStrand (trial_at protocol k q.patterns q.critical place j path) ks q.node role
    added_at ks path children d listed = record {
      count = length q.skeleton.variables;
      below = used_below q.skeleton.variables k declared;
      closed = closed_prefix role (suc j) in_roles;
      grown = d.grown;
      adds = d.adds;
      releases = releases_cover place j path d.grown (added_grown d.grown d.variables d.adds) ks _ children d.releases listed;
    }

    added_event : (ks : List Skeleton) (u : Term) (path : List Step) (children : List Child) → AddsEvent q role j children → AreListed ks children → term_at t path ≡ Some u → IsAddedStrand (trial_at protocol k q.patterns q.critical place j path) ks q.node role
    added_event ks u path children (cohort.is_reception {t = t'} there_is) listed at = let both : Some (send t) ≡ Some (recv t') = sym sent ∙ there_is in absurd (cc)
    added_event ks u path children (is_added {t = t'} there_is each) listed at =
        let both : Some (send t') ≡ Some (send t) = sym there_is ∙ sent in
        let same : t' ≡ t = cc in
        let one = giver each path (at_position t' path u (ap (λ (v : Term). term_at v path) same ∙ at)) in
        added_at ks path one.given one.gives_it (λ d i. listed d (one.among d i))

  -- ---- listeners

  listens_cover : (ks : List Skeleton) (t : Term) (children : List Child) → Listens q t children → AreListed ks children → IsListenedTo protocol ks k q.node t
  listens_cover ks t children l listed = record {
    added = l.added;
    adds = l.adds;
    down = forms_come_down protocol ks (put_before (node_at (length k.strands) 1) q.node l.added) l.forms
        (listening_is_skeleton protocol t k l.added sk l.adds q.node is_test.message is_test.reception) l.normal
        (λ r i. listed _ (subst (IsIn _) (sym l.are_children) (into_map _ i)));
  }

  module _ (ks : List Skeleton) (children : List Child) (are : AreListeners q children) (listed : AreListed ks children) where
    on_term : (t : Term) → IsIn t (are.frees ++ are.opens) → IsListenedTo protocol ks k q.node t
    on_term t i = let one = giver are.each t (terms_listed [] (are.frees ++ are.opens) t i) in listens_cover ks t one.given one.gives_it (λ d m. listed d (one.among d m))

    freed : (body : Term) (key : KeyTerm) (frees : List Term) → FreesCritical q frees → q.critical ≡ enc_term body key → IsIn (atom_term (key_term key)) frees ⊎ IsIn body frees
    freed body key frees (by_key {body = b} {key = y} e none) is = let both : enc_term b y ≡ enc_term body key = sym e ∙ is in let same : y ≡ key = cc in inl (subst (λ (z : KeyTerm). IsIn (atom_term (key_term z)) (atom_term (key_term y) ∷ [])) same here)
    freed body key frees (by_body {body = b} {key = y} e some) is = let both : enc_term b y ≡ enc_term body key = sym e ∙ is in let same : b ≡ body = cc in inr (subst (λ (z : Term). IsIn z (b ∷ [])) same here)
    freed body key frees (by_nothing none) is = absurd (none body key is)

    encrypted : (body : Term) (key : KeyTerm) → q.critical ≡ enc_term body key → IsListenedTo protocol ks k q.node (atom_term (key_term key)) ⊎ IsListenedTo protocol ks k q.node body
    encrypted body key is =
        ⊎_elim (λ i. inl (on_term (atom_term (key_term key)) (in_append_left are.opens i))) (λ i. inr (on_term body (in_append_left are.opens i))) (freed body key are.frees are.critical is)

    keys : (p : Pattern) (body : Term) (key : KeyTerm) → IsIn p q.patterns → p.term ≡ enc_term body key → IsListenedTo protocol ks k q.node (atom_term (key_term (inverse_term key)))
    keys p body key i e =
        let one = giver are.patterns p i in
        let o = one.gives_it in
        let both : enc_term o.body o.key ≡ enc_term body key = sym o.is_pattern ∙ e in
        let same : o.key ≡ key = cc in
        let there_is : IsIn (atom_term (key_term (inverse_term o.key))) one.given = subst (IsIn (atom_term (key_term (inverse_term o.key)))) (sym o.inverse) here in
        on_term (atom_term (key_term (inverse_term key))) (in_append_right are.frees (subst (λ (z : KeyTerm). IsIn (atom_term (key_term (inverse_term z))) are.opens) same (one.among _ there_is)))

  -- ---- all of them

  pub covers : (ks : List Skeleton) (children : List Child) → IsCohort protocol q children → AreListed ks children → IsCovering protocol k q.node q.critical q.patterns ks
  covers ks children is listed =
      let whole = is.whole in
      let in_contracted : AreListed ks is.contracted = λ d i. listed d (subst (IsIn d) (sym whole) (in_append_left (is.displaced ++ (is.added ++ is.listeners)) i)) in
      let in_displaced : AreListed ks is.displaced = λ d i. listed d (subst (IsIn d) (sym whole) (in_append_right is.contracted (in_append_left (is.added ++ is.listeners) i))) in
      let in_added : AreListed ks is.added = λ d i. listed d (subst (IsIn d) (sym whole) (in_append_right is.contracted (in_append_right is.displaced (in_append_left is.listeners i)))) in
      let in_listeners : AreListed ks is.listeners = λ d i. listed d (subst (IsIn d) (sym whole) (in_append_right is.contracted (in_append_right is.displaced (in_append_right is.added i)))) in
      record {
        contracted = contracted ks is.contracted is.are_contracted in_contracted;
        displaced = λ s role height terms j t u path on ne sent at.
            let one = giver is.are_displaced s (number_listed s k.strands (item_below k.strands s (instance role height terms) on)) in
            displaced_strand s role height terms on ne j t sent ks u path one.given one.gives_it (λ d i. in_displaced d (one.among d i)) at;
        added = λ role j t u path i sent at.
            let one = giver is.are_added role i in
            let event = giver one.gives_it j (number_listed j role.trace (item_below role.trace j (send t) sent)) in
            added_event role i j t sent ks u path event.given event.gives_it (λ d m. in_added d (one.among d (event.among d m))) at;
        encrypted = encrypted ks is.listeners is.are_listeners in_listeners;
        keys = keys ks is.listeners is.are_listeners in_listeners;
      }

pub cohort_covers : (protocol : Protocol) (q : GuardedTest) (children : List Child) → IsSkeleton protocol q.skeleton → ((role : Role) → IsIn role protocol.roles → DeclaresItsVariables role) → HasDeclaredVariables q.skeleton.variables q.skeleton →
    IsTest q.skeleton q.node q.critical → Guards q.patterns q.skeleton q.node q.critical → IsCohort protocol q children → IsCovering protocol q.skeleton q.node q.critical q.patterns (map (λ (d : Child). d.skeleton) children)
cohort_covers protocol q children sk declares declared is_test guards is = covers protocol q sk declares declared is_test guards (map (λ (d : Child). d.skeleton) children) children is (λ d i. into_map (λ (c : Child). c.skeleton) i)
