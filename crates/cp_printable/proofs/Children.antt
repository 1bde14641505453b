-- The children of a test have no other strings and no other identifiers than its skeleton and the protocol's roles.
use Rattle.std.proofs.Common.{◌≡◌, ◌⊎◌, inl, inr, ℕ, suc, ◌<◌, ◌≤◌, List, [], ◌∷◌, ◌++◌, length, Option, Some, None, refl, sym, ◌∙◌, subst, arith}
use Rattle.cp_lists.specs.Lists.{item_at, IsIn, here, there}
use Rattle.cp_lists.proofs.Items.{at_place}
use Rattle.cp_lists.proofs.Members.{not_in_none, in_append_left, in_append_right}
use Rattle.cp_model.specs.Term.{KeyTerm, symmetric_term, asymmetric_term, inverse_term, Term, Substitution}
use Rattle.cp_model.specs.Bindings.{Binding}
use Rattle.cp_model.specs.declared.variable.Variable.{Variable}
use Rattle.cp_model.specs.Strand.{payload, Role, Protocol}
use Rattle.cp_model.specs.declared.strand.Event.TheVariants.{Send as send}
use Rattle.cp_model.specs.declared.variable.Declaration.{Declaration}
use Rattle.cp_model.specs.Bundle.{node_at}
use Rattle.cp_model.specs.Skeleton.{instance, Skeleton, IsSkeleton}
use Rattle.cp_model.specs.Tree.{Pattern}
use Rattle.cp_model.specs.declared.tree.Operation.{Operation}
use Rattle.cp_model.specs.declared.tree.Operation.TheVariants.{Contracted as by_contraction, AddedListener as by_added_listener}
use Rattle.cp_model.specs.declared.step.Step.{Step}
use Rattle.cp_theory.specs.Normal.{skeleton_under}
use Rattle.cp_model.specs.PrefixVariables.{prefix_variables, added_variables}
use Rattle.cp_model.specs.Declares.{DeclaresItsVariables}
use Rattle.cp_model.specs.Extensions.{Extends}
use Rattle.cp_skel.specs.Events.{LocatedEvent, events_of}
use Rattle.cp_skel.specs.Tables.{HaveTable}
use Rattle.cp_skel.proofs.EventLists.{listed_event}
use Rattle.cp_normal.specs.Exact.{HasForms}
use Rattle.cp_collapse.specs.SameSkeletons.{SaysTheSame}
use Rattle.cp_pattern.specs.Unifiers.{UnifiesMostGenerally}
use Rattle.cp_theory.specs.Covering.{put_before}
use Rattle.cp_theory.specs.Fresh.{fresh_terms}
use Rattle.cp_cohort.specs.declared.child.Child.{Child}
use Rattle.cp_cohort.specs.declared.release.PartialSolution.{PartialSolution}
use Rattle.cp_cohort.specs.CoveringChildren.{child, declaration_onto, declarations_among}
use Rattle.cp_cohort.specs.Cohort.{GuardedTest, release_at, AddsAt, AreFirstAdded, IsCohort}
use Rattle.cp_cohort.specs.Cohort as cohort
use Rattle.cp_cohort.specs.Released.{SetsFree, critical_key, critical_body, pattern_key}
use Rattle.cp_printable.specs.Strings.{strings_of_key, strings_of}
use Rattle.cp_printable.specs.Spelled.{IsSpelledTerm, AreSpelledDeclarations, IsSpelledRole, IsSpelledSkeleton}
use Rattle.cp_printable.proofs.Under.{GivesStrings, under_spelled, same_spelled, event_spelled, part_spelled}
use Rattle.cp_printable.proofs.NoOtherStrings.{unifier_gives}
use Rattle.cp_printable.proofs.Forms.{forms_spelled}
use Rattle.cp_printable.proofs.Changes.{listener_spelled, strand_spelled, extended_spelled, put_spelled}
use Rattle.cp_printable.proofs.OpenedPatterns.{AreNamed, still_named, both_declared}
use Rattle.cp_printable.proofs.Settled.{IsSpelledPartialSolution, settles_spelled}
use Rattle.cp_cohort.proofs.EachChild.{DisplacesAt, ComesOfContracting, ComesOfReleasing, ComesOfListening, of_contracted, of_released, of_listened, HoldsOfGiven, each_first_added, each_child}

-- What is asked has admitted strings and identifiers, and so has what names the locals of its patterns as new variables.
pub record IsSpelledGuardedTest (S I : List ℕ → Type 0) (q : GuardedTest) : Type 0 where
  pub variables : AreSpelledDeclarations I q.skeleton.variables
  pub skeleton : IsSpelledSkeleton S I q.skeleton
  pub critical : IsSpelledTerm S q.critical
  pub patterns : (p : Pattern) → IsIn p q.patterns → IsSpelledTerm S p.term
  pub named : (p : Pattern) → IsIn p q.patterns → AreNamed I q.skeleton.variables p

pub record IsSpelledChild (S I : List ℕ → Type 0) (c : Child) : Type 0 where
  pub variables : AreSpelledDeclarations I c.skeleton.variables
  pub skeleton : IsSpelledSkeleton S I c.skeleton

-- ---- keys, and declarations of roles

same_key_strings : (key : KeyTerm) → strings_of_key (inverse_term key) ≡ strings_of_key key
same_key_strings (symmetric_term k) = refl
same_key_strings (asymmetric_term flag k) = refl

put_declared : (I : List ℕ → Type 0) (all : List Declaration) (n : ℕ) (o : Option Declaration) (ds : List Declaration) → item_at all n ≡ o → AreSpelledDeclarations I all → AreSpelledDeclarations I ds → AreSpelledDeclarations I (declaration_onto o ds)
put_declared I all n None ds e are rest d i = rest d i
put_declared I all n (Some f) ds e are rest d here = are d (at_place all n d e)
put_declared I all n (Some f) ds e are rest d (there i) = rest d i

role_declared : (S I : List ℕ → Type 0) (role : Role) → IsSpelledRole S I role → (xs : List Variable) → AreSpelledDeclarations I (declarations_among role xs)
role_declared S I role is [] d i = absurd (not_in_none i)
role_declared S I role is (x ∷ xs) d i = put_declared I role.variables x.number (item_at role.variables x.number) (declarations_among role xs) refl is.variables (role_declared S I role is xs) d i

module _ (S I : List ℕ → Type 0) (decide : (t : List ℕ) → S t ⊎ (S t → ⊥)) (protocol : Protocol) (declares : (role : Role) → IsIn role protocol.roles → DeclaresItsVariables role)
    (roles : (role : Role) → IsIn role protocol.roles → IsSpelledRole S I role) where
  module _ (q : GuardedTest) (sk : IsSkeleton protocol q.skeleton) (asked : IsSpelledGuardedTest S I q) where
    abbrev k : Skeleton
    k = q.skeleton

    abbrev IsSpelled : Child → Type 0
    IsSpelled = IsSpelledChild S I

    -- ---- normal forms

    form_is : (l : Skeleton) (rs : List Skeleton) → IsSpelledSkeleton S I l → HasForms l rs → HaveTable k.variables rs → (operation : Operation) (path : List Step) (r : Skeleton) → IsIn r rs → IsSpelled (child operation path r)
    form_is l rs is has table operation path r i = record { variables = subst (λ (ds : List Declaration). AreSpelledDeclarations I ds) (sym (table r i)) asked.variables; skeleton = forms_spelled S I decide has is r i }

    -- A skeleton under a unifier of a term with the critical one.
    module _ (l m : Skeleton) (is : IsSpelledSkeleton S I l) (u : Term) (of_u : IsSpelledTerm S u) (f : Substitution) (unifies : UnifiesMostGenerally u q.critical f) (same : SaysTheSame (skeleton_under f l) m) where
      unifier_is : GivesStrings S f
      unifier_is = unifier_gives S decide u q.critical f of_u asked.critical unifies

      unified_is : IsSpelledSkeleton S I m
      unified_is = same_spelled S I (skeleton_under f l) m same (under_spelled S I f l unifier_is is)

    -- ---- contracted

    contracted_is : (o : LocatedEvent) → IsIn o (events_of k) → (path : List Step) (r : Skeleton) → ComesOfContracting q o path r → IsSpelled (child (by_contraction o.node) path r)
    contracted_is o there_is path r c =
        let of_event : IsSpelledTerm S (payload o.event) = event_spelled S I k o.node o.event asked.skeleton (listed_event k o there_is) in
        form_is c.under c.forms (unified_is k c.under asked.skeleton c.term (part_spelled S I (payload o.event) path c.term of_event c.at) c.unifier c.unifies c.same) c.has c.table (by_contraction o.node) path r c.listed

    -- ---- what is put before the node

    module _ (s j : ℕ) (path : List Step) (grown : Skeleton) (declared : AreSpelledDeclarations I grown.variables) (named : (p : Pattern) → IsIn p q.patterns → AreNamed I grown.variables p) (is : IsSpelledSkeleton S I grown) where
      released_is : (operation : Operation) (y : PartialSolution) → ComesOfReleasing q (release_at q s j path) grown y → IsSpelled (child operation path y.skeleton)
      released_is operation y c =
          let node = node_at s j in
          let put : Skeleton = put_before node q.node grown in
          let of_term : IsSpelledTerm S c.term = part_spelled S I c.message path c.term (event_spelled S I grown node (send c.message) is c.sent) c.at in
          let x = c.first in
          let first : IsSpelledPartialSolution S I x = record {
            variables = subst (λ (ds : List Declaration). AreSpelledDeclarations I ds) (sym c.is_first.variables) declared;
            substitution = subst (λ (f : Substitution). GivesStrings S f) (sym c.is_first.by) (unifier_is put x.skeleton (put_spelled S I node q.node grown is) c.term of_term c.unifier c.unifies c.is_first.same);
            skeleton = unified_is put x.skeleton (put_spelled S I node q.node grown is) c.term of_term c.unifier c.unifies c.is_first.same;
          } in
          let last = settles_spelled S I decide (release_at q s j path) asked.patterns c.settles first (λ p i. subst (λ (ds : List Declaration). AreNamed I ds p) (sym c.is_first.variables) (named p i)) y c.listed in
          record { variables = last.variables; skeleton = last.skeleton }

      releases : (operation : Operation) (children : List Child) → cohort.Releases q operation (release_at q s j path) grown children → (d : Child) → IsIn d children → IsSpelled d
      releases operation = of_released q IsSpelled operation (release_at q s j path) grown (released_is operation)

    -- The variables of a guarded test, and behind them those of a role.
    module _ (role : Role) (of_role : IsSpelledRole S I role) (xs : List Variable) where
      more_declared : AreSpelledDeclarations I (k.variables ++ declarations_among role xs)
      more_declared = both_declared I k.variables (declarations_among role xs) asked.variables (role_declared S I role of_role xs)

      more_named : (p : Pattern) → IsIn p q.patterns → AreNamed I (k.variables ++ declarations_among role xs) p
      more_named p i = still_named I k.variables (declarations_among role xs) p (role_declared S I role of_role xs) (asked.named p i)

    -- ---- displaced

    module _ (s : ℕ) (role : Role) (height : ℕ) (terms : List Binding) (on : item_at k.strands s ≡ Some (instance role height terms)) where
      in_roles : IsIn role protocol.roles
      in_roles = sk.of_role s role height terms on

      abbrev added : ℕ → List Variable
      added j = added_variables role height (suc j)

      abbrev HowGrown : ℕ → Skeleton → Type 0
      HowGrown j grown = ((j < height) × (grown ≡ k)) ⊎ ((height ≤ j) × (grown.variables ≡ k.variables ++ declarations_among role (added j)) × Extends s (suc j) (fresh_terms (length k.variables) (added j)) k grown)

      grown_is : (j : ℕ) (grown : Skeleton) → height ≤ j → Extends s (suc j) (fresh_terms (length k.variables) (added j)) k grown → IsSpelledSkeleton S I grown
      grown_is j grown le ext =
          let both : Some (instance role height terms) ≡ Some (instance ext.role ext.before ext.old_terms) = sym on ∙ ext.was_instance in
          let same_role : ext.role ≡ role = cc in
          let same_height : ext.before ≡ height = cc in
          extended_spelled S I s role (suc j) height (length k.variables) k grown (declares role in_roles) (omega (arith, le)) ext same_role same_height asked.skeleton

      how_releases : (j : ℕ) (path : List Step) (grown : Skeleton) → HowGrown j grown → (operation : Operation) (children : List Child) → cohort.Releases q operation (release_at q s j path) grown children → (d : Child) → IsIn d children → IsSpelled d
      how_releases j path grown (inl r) operation children gives =
          releases s j path grown (subst (λ (x : Skeleton). AreSpelledDeclarations I x.variables) (sym r.1) asked.variables) (λ p i. subst (λ (x : Skeleton). AreNamed I x.variables p) (sym r.1) (asked.named p i))
          (subst (IsSpelledSkeleton S I) (sym r.1) asked.skeleton) operation children gives
      how_releases j path grown (inr r) operation children gives =
          let of_role : IsSpelledRole S I role = roles role in_roles in
          releases s j path grown (subst (λ (ds : List Declaration). AreSpelledDeclarations I ds) (sym r.1) (more_declared role of_role (added j))) (λ p i. subst (λ (ds : List Declaration). AreNamed I ds p) (sym r.1) (more_named role of_role (added j) p i))
          (grown_is j grown r.0 r.2) operation children gives

      displaced_at : (j : ℕ) (path : List Step) (children : List Child) → DisplacesAt q s role height j path children → (d : Child) → IsIn d children → IsSpelled d
      displaced_at j path children a = how_releases j path a.grown a.grows.how _ children a.releases

    -- ---- added

    module _ (role : Role) (in_roles : IsIn role protocol.roles) (j : ℕ) where
      added_at : (path : List Step) (children : List Child) → AddsAt q role j path children → (d : Child) → IsIn d children → IsSpelled d
      added_at path children a d i =
          let xs = prefix_variables role (suc j) in
          let of_role : IsSpelledRole S I role = roles role in_roles in
          releases (length k.strands) j path a.grown (subst (λ (ds : List Declaration). AreSpelledDeclarations I ds) (sym a.variables) (more_declared role of_role xs)) (λ p n. subst (λ (ds : List Declaration). AreNamed I ds p) (sym a.variables) (more_named role of_role xs p n))
          (strand_spelled S I role (suc j) (length k.variables) k a.grown (declares role in_roles) of_role a.adds asked.skeleton) _ children a.releases d i

    -- ---- listeners

    listened_is : (t : Term) → IsSpelledTerm S t → (r : Skeleton) → ComesOfListening q t r → IsSpelled (child (by_added_listener (length k.strands)) [] r)
    listened_is t of_t r l =
        let node = node_at (length k.strands) 1 in
        let heard : IsSpelledSkeleton S I l.added = listener_spelled S I t k l.added l.adds of_t asked.skeleton in
        form_is (put_before node q.node l.added) l.forms (put_spelled S I node q.node l.added heard) l.normal l.table (by_added_listener (length k.strands)) [] r l.listed

    heard_spelled : (t : Term) → SetsFree q t → IsSpelledTerm S t
    heard_spelled t (critical_key {body = body} e none) s j = asked.critical s (subst (λ (u : Term). IsIn s (strings_of u)) (sym e) (in_append_right (strings_of body) j))
    heard_spelled t (critical_body {key = key} e some) s j = asked.critical s (subst (λ (u : Term). IsIn s (strings_of u)) (sym e) (in_append_left (strings_of_key key) j))
    heard_spelled t (pattern_key {p = p} {body = body} {key = key} listed e) s j =
        asked.patterns p listed s (subst (λ (u : Term). IsIn s (strings_of u)) (sym e) (in_append_right (strings_of body) (subst (IsIn s) (same_key_strings key) j)))

    -- ---- all of them

    given_spelled : HoldsOfGiven protocol q IsSpelled
    given_spelled = record {
      contracted = λ o there_is before path. of_contracted q IsSpelled o path (contracted_is o there_is path);
      displaced = λ s role height terms on apart j t sent none. displaced_at s role height terms on j;
      added = λ role listed j t sent. added_at role listed j;
      listened = λ t free. of_listened q IsSpelled t (listened_is t (heard_spelled t free));
    }

  pub cohort_spelled : (q : GuardedTest) (children : List Child) → IsSkeleton protocol q.skeleton → IsSpelledGuardedTest S I q → IsCohort protocol q children → (c : Child) → IsIn c children → IsSpelledChild S I c
  cohort_spelled q children sk asked is c i = each_child protocol q (IsSpelledChild S I) (given_spelled q sk asked) children is c i

  pub first_spelled : (q : GuardedTest) (children : List Child) → IsSkeleton protocol q.skeleton → IsSpelledGuardedTest S I q → AreFirstAdded protocol q children → (c : Child) → IsIn c children → IsSpelledChild S I c
  first_spelled q children sk asked start c i = each_first_added protocol q (IsSpelledChild S I) (given_spelled q sk asked) children start c i
