-- The children of a test are sound.
use Rattle.std.proofs.Common.{◌≡◌, ℕ, suc, ◌<◌, ◌≤◌, List, [], ◌++◌, length, Option, Some, None, refl, sym, ap, ◌∙◌, subst, ◌⊎◌, inl, inr, append_assoc, arith}
use Rattle.std.specs.Prelude.{◌≢◌}
use Rattle.std.proofs.lemmas.List.{append-nil}
use Rattle.cp_lists.specs.Lists.{item_at, IsIn}
use Rattle.cp_lists.proofs.Members.{in_append_left, in_append_right}
use Rattle.cp_model.specs.Term.{KeyTerm, symmetric_term, asymmetric_term, inverse_term, Term, variables_of, variables_of_key}
use Rattle.cp_model.specs.Bindings.{Binding}
use Rattle.cp_model.specs.declared.variable.Variable.{Variable}
use Rattle.cp_model.specs.Strand.{payload, Role, Protocol}
use Rattle.cp_model.specs.declared.strand.Event.TheVariants.{Send as send}
use Rattle.cp_model.specs.declared.variable.Declaration.{Declaration}
use Rattle.cp_model.specs.Bundle.{node_at}
use Rattle.cp_model.specs.Skeleton.{instance, Skeleton, IsSkeleton}
use Rattle.cp_model.specs.Problem.{IsDeclared}
use Rattle.cp_model.specs.PointOfView.{HasDeclaredVariables}
use Rattle.cp_model.specs.declared.tree.Operation.{Operation}
use Rattle.cp_model.specs.declared.tree.Operation.TheVariants.{Contracted as by_contraction, AddedListener as by_added_listener}
use Rattle.cp_model.specs.declared.step.Step.{Step}
use Rattle.cp_theory.specs.Normal.{skeleton_under}
use Rattle.cp_theory.proofs.Skeletons.{skeleton_under_is_skeleton}
use Rattle.cp_collapse.proofs.SameSkeletons.{same_is_skeleton}
use Rattle.cp_collapse.proofs.NoNewVariables.{KeepsDeclared}
use Rattle.cp_model.specs.PrefixVariables.{prefix_variables, added_variables}
use Rattle.cp_model.specs.Declares.{DeclaresItsVariables}
use Rattle.cp_model.specs.Extensions.{Extends}
use Rattle.cp_skel.specs.Events.{LocatedEvent, events_of}
use Rattle.cp_skel.proofs.CarriedHomomorphisms.{listener_says_more, strand_says_more, extended_says_more}
use Rattle.cp_skel.proofs.DeclaredChanges.{listener_declared, ordered_declared}
use Rattle.cp_skel.proofs.EventLists.{listed_event}
use Rattle.cp_normal.specs.Exact.{HasForms}
use Rattle.cp_normal.proofs.FormsOf.{are_normal_forms}
use Rattle.cp_normal.proofs.FormSkeletons.{form_is_skeleton}
use Rattle.cp_normal.proofs.VariablesUnder.{all_declared, under_declared, agreeing_declared}
use Rattle.cp_normal.proofs.VariablesOfForms.{forms_declared}
use Rattle.cp_theory.specs.Critical.{IsTest}
use Rattle.cp_theory.specs.Guards.{Guards}
use Rattle.cp_theory.specs.Covering.{put_before}
use Rattle.cp_theory.specs.Fresh.{fresh_terms}
use Rattle.cp_theory.proofs.Places.{position_variables}
use Rattle.cp_cohort.specs.Releases.{PartialSolution}
use Rattle.cp_cohort.specs.CoveringChildren.{Child, child, declarations_among}
use Rattle.cp_cohort.specs.Cohort.{GuardedTest, release_at, AddsAt, AreFirstAdded, IsCohort}
use Rattle.cp_skel.specs.Tables.{HaveTable}
use Rattle.cp_cohort.specs.Cohort as cohort
use Rattle.cp_cohort.specs.Released.{SetsFree, critical_key, critical_body, pattern_key}
use Rattle.cp_cohort.specs.Way.{DeclaresMore}
use Rattle.cp_model.specs.Tree.{Pattern}
use Rattle.cp_cohort.specs.declared.widening.Widening.{Widening}
use Rattle.cp_cohort.specs.Widening.{IsCohortUntil}
use Rattle.cp_cohort.specs.Sound.{KeepsProblems, IsSoundChild}
use Rattle.cp_cohort.proofs.OnTheWay.{unifier_keeps}
use Rattle.cp_cohort.proofs.Settled.{event_declared, settles_later}
use Rattle.cp_cohort.proofs.EachChild.{DisplacesAt, ComesOfContracting, ComesOfReleasing, ComesOfListening, of_contracted, of_released, of_listened, HoldsOfGiven, each_first_added, each_child}
use Rattle.cp_cohort.proofs.EventsBefore.{listening_is_skeleton}
use Rattle.cp_cohort.proofs.CohortCovers.{IsGrown, put_on_the_way, displaced_grown, added_grown}
use Rattle.cp_cohort.proofs.Problems.{keeps_itself, keeps_then, keeps_under, keeps_alike, keeps_forms, keeps_more, keeps_put, settles_keeps}

pub more_itself : (ds : List Declaration) → DeclaresMore ds ds
more_itself ds = record { more = []; behind = sym (append-nil ds) }

pub more_then : (ds es fs : List Declaration) → DeclaresMore ds es → DeclaresMore es fs → DeclaresMore ds fs
more_then ds es fs a b = record { more = a.more ++ b.more; behind = b.behind ∙ ap (λ (xs : List Declaration). xs ++ b.more) a.behind ∙ append_assoc ds a.more b.more }

same_key_variables : (key : KeyTerm) → variables_of_key (inverse_term key) ≡ variables_of_key key
same_key_variables (symmetric_term k) = refl
same_key_variables (asymmetric_term flag k) = refl

module _ (protocol : Protocol) (q : GuardedTest) (sk : IsSkeleton protocol q.skeleton) (declares : (role : Role) → IsIn role protocol.roles → DeclaresItsVariables role) (declared : HasDeclaredVariables q.skeleton.variables q.skeleton)
    (is_test : IsTest q.skeleton q.node q.critical) (guards : Guards q.patterns q.skeleton q.node q.critical) where
  abbrev k : Skeleton
  k = q.skeleton

  abbrev IsSound : Child → Type 0
  IsSound = IsSoundChild protocol q

  critical_declared : (x : Variable) → IsIn x (variables_of q.critical) → IsDeclared q.skeleton.variables x
  critical_declared x i = all_declared q.skeleton.variables k declared x (guards.used_by_critical x i)

  -- ---- normal forms

  -- Normal forms of a skeleton that is sound, with the variables of the first.
  form_sound : (l : Skeleton) (rs : List Skeleton) → IsSkeleton protocol l → HasDeclaredVariables q.skeleton.variables l → KeepsProblems k l → HasForms l rs → HaveTable q.skeleton.variables rs → (operation : Operation) (path : List Step) (r : Skeleton) → IsIn r rs →
      IsSound (child operation path r)
  form_sound l rs is has keeps forms table operation path r i = record {
    skeleton = form_is_skeleton protocol l r (are_normal_forms forms r i) is;
    declared = subst (λ (ds : List Declaration). HasDeclaredVariables ds r) (sym (table r i)) (forms_declared q.skeleton.variables forms has r i);
    more = subst (DeclaresMore q.skeleton.variables) (sym (table r i)) (more_itself q.skeleton.variables);
    keeps = keeps_then k l r keeps (keeps_forms l rs forms r i);
  }

  -- ---- contracted

  contracted_sound : (o : LocatedEvent) → IsIn o (events_of k) → (path : List Step) (r : Skeleton) → ComesOfContracting q o path r → IsSound (child (by_contraction o.node) path r)
  contracted_sound o there_is path r c =
      let event = listed_event k o there_is in
      let gives : KeepsDeclared q.skeleton.variables c.unifier =
      unifier_keeps q.skeleton.variables c.term q.critical c.unifier (λ x m. event_declared q.skeleton.variables k declared o.node o.event event x (position_variables (payload o.event) path c.term c.at x m)) critical_declared c.unifies in
      let under : Skeleton = skeleton_under c.unifier k in
      form_sound c.under c.forms (same_is_skeleton under c.under c.same protocol (skeleton_under_is_skeleton protocol c.unifier k sk)) (agreeing_declared q.skeleton.variables under c.under c.same (under_declared q.skeleton.variables c.unifier k gives declared))
      (keeps_then k under c.under (keeps_under c.unifier k) (keeps_alike under c.under c.same)) c.has c.table (by_contraction o.node) path r c.listed

  -- ---- what is put before the node

  module _ (s j : ℕ) (path : List Step) (grown : Skeleton) (is : IsGrown protocol q sk declares declared is_test guards s grown) (more : DeclaresMore q.skeleton.variables grown.variables) (keeps : KeepsProblems k grown) where
    abbrev put : Skeleton
    put = put_before (node_at s j) q.node grown

    released_sound : (operation : Operation) (x : PartialSolution) → ComesOfReleasing q (release_at q s j path) grown x → IsSound (child operation path x.skeleton)
    released_sound operation x c =
        let r = release_at q s j path in
        let under : Skeleton = skeleton_under c.unifier put in
        let w = put_on_the_way protocol q sk declares declared is_test guards s j path grown is c.message c.term c.sent c.at c.acyclic c.unifier c.unifies c.first c.is_first in
        let later = settles_later protocol k r (λ p y listed free. guards.used_by_patterns p y listed free) c.settles w x c.listed in
        let first = keeps_then k grown put keeps (keeps_put (node_at s j) q.node grown) in
        let second = keeps_then put under c.first.skeleton (keeps_under c.unifier put) (keeps_alike under c.first.skeleton c.is_first.same) in
        record {
          skeleton = later.0.skeleton;
          declared = later.0.declared;
          more = more_then q.skeleton.variables grown.variables x.skeleton.variables more (subst (λ (ds : List Declaration). DeclaresMore ds x.skeleton.variables) c.is_first.variables later.1);
          keeps = keeps_then k c.first.skeleton x.skeleton (keeps_then k put c.first.skeleton first second) (settles_keeps r c.settles x c.listed);
        }

    releases_sound : (operation : Operation) (children : List Child) → cohort.Releases q operation (release_at q s j path) grown children → (d : Child) → IsIn d children → IsSound d
    releases_sound operation = of_released q IsSound operation (release_at q s j path) grown (released_sound operation)

  -- ---- displaced

  module _ (s : ℕ) (role : Role) (height : ℕ) (terms : List Binding) (on : item_at k.strands s ≡ Some (instance role height terms)) (apart : s ≢ q.node.strand) where
    module _ (j : ℕ) (t : Term) (sent : item_at role.trace j ≡ Some (send t)) where
      abbrev HowGrown : Skeleton → Type 0
      HowGrown grown = ((j < height) × (grown ≡ k))
          ⊎ ((height ≤ j) × (grown.variables ≡ q.skeleton.variables ++ declarations_among role (added_variables role height (suc j))) × Extends s (suc j) (fresh_terms (length q.skeleton.variables) (added_variables role height (suc j))) k grown)

      has_more : (grown : Skeleton) → HowGrown grown → DeclaresMore q.skeleton.variables grown.variables
      has_more grown (inl r) = record { more = []; behind = ap (λ (l : Skeleton). l.variables) r.1 ∙ sym (append-nil q.skeleton.variables) }
      has_more grown (inr r) = record { more = declarations_among role (added_variables role height (suc j)); behind = r.1 }

      grown_keeps : (grown : Skeleton) → HowGrown grown → KeepsProblems k grown
      grown_keeps grown (inl r) = subst (KeepsProblems k) (sym r.1) (keeps_itself k)
      grown_keeps grown (inr r) =
          let ext = r.2 in
          let le : height ≤ j = r.0 in
          let both : Some (instance role height terms) ≡ Some (instance ext.role ext.before ext.old_terms) = sym on ∙ ext.was_instance in
          let same : height ≡ ext.before = cc in
          let higher : ext.before ≤ suc j = subst (λ (n : ℕ). n ≤ suc j) same (omega (arith, le)) in
          keeps_more k grown (extended_says_more s (suc j) (fresh_terms (length q.skeleton.variables) (added_variables role height (suc j))) k grown ext higher)

      displaced_at : (path : List Step) (children : List Child) → DisplacesAt q s role height j path children → (d : Child) → IsIn d children → IsSound d
      displaced_at path children a d i =
          releases_sound s j path a.grown (displaced_grown protocol q sk declares declared is_test guards s role height terms on apart j t sent a.grown a.grows.how) (has_more a.grown a.grows.how)
          (grown_keeps a.grown a.grows.how) _ children a.releases d i

  -- ---- added

  module _ (role : Role) (in_roles : IsIn role protocol.roles) (j : ℕ) where
    added_at : (t : Term) → item_at role.trace j ≡ Some (send t) → (path : List Step) (children : List Child) → AddsAt q role j path children → (d : Child) → IsIn d children → IsSound d
    added_at t sent path children a d i =
        releases_sound (length k.strands) j path a.grown (added_grown protocol q sk declares declared is_test guards role in_roles j t sent a.grown a.variables a.adds)
        (record { more = declarations_among role (prefix_variables role (suc j)); behind = a.variables }) (keeps_more k a.grown (strand_says_more role (suc j) (fresh_terms (length q.skeleton.variables) (prefix_variables role (suc j))) k a.grown a.adds)) _ children a.releases d i

  -- ---- listeners

  listened_sound : (t : Term) → ((x : Variable) → IsIn x (variables_of t) → IsDeclared q.skeleton.variables x) → (r : Skeleton) → ComesOfListening q t r → IsSound (child (by_added_listener (length k.strands)) [] r)
  listened_sound t of_t r l =
      let node = node_at (length k.strands) 1 in
      let put : Skeleton = put_before node q.node l.added in
      form_sound put l.forms (listening_is_skeleton protocol t k l.added sk l.adds q.node is_test.message is_test.reception)
      (ordered_declared q.skeleton.variables l.added put.pairs (listener_declared q.skeleton.variables t k l.added l.adds of_t declared))
      (keeps_then k l.added put (keeps_more k l.added (listener_says_more t k l.added l.adds)) (keeps_put node q.node l.added)) l.normal l.table (by_added_listener (length k.strands)) [] r l.listed

  heard_declared : (t : Term) → SetsFree q t → (x : Variable) → IsIn x (variables_of t) → IsDeclared q.skeleton.variables x
  heard_declared t (critical_key {body = body} e none) x m = critical_declared x (subst (λ (u : Term). IsIn x (variables_of u)) (sym e) (in_append_right (variables_of body) m))
  heard_declared t (critical_body {key = key} e some) x m = critical_declared x (subst (λ (u : Term). IsIn x (variables_of u)) (sym e) (in_append_left (variables_of_key key) m))
  heard_declared t (pattern_key {p = p} {body = body} {key = key} listed e) x m =
      let in_key : IsIn x (variables_of_key key) = subst (IsIn x) (same_key_variables key) m in
      all_declared q.skeleton.variables k declared x (guards.used_by_patterns p x listed (record {
        occurs = subst (λ (u : Term). IsIn x (variables_of u)) (sym e) (in_append_right (variables_of body) in_key);
        no_local = λ local. guards.keys p listed body key x e in_key local;
      }))

  -- ---- all of them

  given_sound : HoldsOfGiven protocol q IsSound
  given_sound = record {
    contracted = λ o there_is before path. of_contracted q IsSound o path (contracted_sound o there_is path);
    displaced = λ s role height terms on apart j t sent none. displaced_at s role height terms on apart j t sent;
    added = added_at;
    listened = λ t free. of_listened q IsSound t (listened_sound t (heard_declared t free));
  }

  pub sound : (children : List Child) → IsCohort protocol q children → (d : Child) → IsIn d children → IsSound d
  sound = each_child protocol q IsSound given_sound

  pub first_added_sound : (children : List Child) → AreFirstAdded protocol q children → (d : Child) → IsIn d children → IsSound d
  first_added_sound = each_first_added protocol q IsSound given_sound

  -- So is each that is made until one gives a pattern.
  pub sound_until : (source : Child → Pattern → Type 0) (children : List Child) (found : Option Widening) → IsCohortUntil source protocol q children found → (d : Child) → IsIn d children → IsSound d
  sound_until source children None is = sound children is.0
  sound_until source children (Some w) is = first_added_sound children is.0

pub sound_child : (protocol : Protocol) (q : GuardedTest) (children : List Child) → IsSkeleton protocol q.skeleton → ((role : Role) → IsIn role protocol.roles → DeclaresItsVariables role) → HasDeclaredVariables q.skeleton.variables q.skeleton →
    IsTest q.skeleton q.node q.critical → Guards q.patterns q.skeleton q.node q.critical → IsCohort protocol q children → (d : Child) → IsIn d children → IsSoundChild protocol q d
sound_child protocol q children sk declares declared is_test guards is d i = sound protocol q sk declares declared is_test guards children is d i
