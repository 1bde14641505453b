-- The problems of well-formed input are skeletons over their protocols that map to themselves.
use Rattle.std.proofs.Common.{◌≡◌, ℕ, ◌+◌, ◌<◌, List, [], ◌∷◌, ◌++◌, length, false, Option, Some, None, refl, sym, subst, arith}
use Rattle.cp_base.specs.declared.place.Place.{Place}
use Rattle.cp_base.specs.declared.place.Code.TheVariants.{BadShape}
use Rattle.cp_lists.specs.Lists.{item_at, IsIn, here, there}
use Rattle.cp_model.specs.Term.{AtomTerm, variables_of, apply_to_atom}
use Rattle.cp_model.specs.Bindings.{Binding, as_substitution}
use Rattle.cp_model.specs.Strand.{Role, Protocol, prefix_of, variables_of_trace}
use Rattle.cp_model.specs.declared.variable.Declaration.{Declaration}
use Rattle.cp_model.specs.Bundle.{node_at}
use Rattle.cp_model.specs.Skeleton.{SkeletonStrand, instance, listener, skeleton_trace, Assumptions, Skeleton, GivesAssumptions, IsSkeleton}
use Rattle.cp_model.specs.Problem.{variables_of_strands, variables_of_atoms, variables_of_uniques, variables_of_assumptions, variables_of_skeleton}
use Rattle.cp_model.specs.PointOfView.{AssumesNoMore, IsPointOfView}
use Rattle.cp_model.specs.Stated.{HasOwnAssumptions}
use Rattle.cp_sexpr.specs.Syntax.{Form, Forms}
use Rattle.cp_language.specs.declared.words.TopHead.{TopHead}
use Rattle.cp_language.specs.declared.words.TopHead.TheVariants.{Protocol as protocol_form, Problem as problem_form, Free as free_form, OutOfProfile as top_out_of_profile, Unknown as no_top}
use Rattle.cp_language.specs.Words.{top_head}
use Rattle.cp_language.specs.Faults.{fault_unless, place_of, items_of}
use Rattle.cp_language.specs.Terms.{variable_named}
use Rattle.cp_language.specs.Roles.{Headed, headed, text_of_symbol, vars_faults, declarations_of, forms_under, is_non_item, is_penetrator_non_item, is_unique_item, atoms_in, protocol_of}
use Rattle.cp_model.specs.Given.{given_non, given_penetrator_non, given_uniques, with_given}
use Rattle.cp_language.specs.Problems.{protocol_named, role_named, ItemStage, body_faults, has_strand, before_items, roles_of, protocol_name_faults, problem_strands, problem_faults, own_uniques, own_assumptions, own_skeleton, Problem, protocol_or_none, problem_with, problem_of}
use Rattle.cp_language.specs.Input.{protocol_names, top_faults, headed_top_faults, protocols_onto, protocols_behind, faults_from, faults_of, Entry, stated, entry_of_head, headed_entry, entries_from, input_of}
use Rattle.cp_language.proofs.Terms.{AreDeclared, none_declared, both_declared}
use Rattle.cp_language.specs.Role.{IsWellFormedRole}
use Rattle.cp_language.proofs.Names.{AreDistinct, variables_distinct, named_itself}
use Rattle.cp_language.proofs.OwnNames.{HaveOwnNames, role_found, declared_named}
use Rattle.cp_language.proofs.Roles.{IsSoundRole, AreSoundRoles, protocol_sound}
use Rattle.cp_language.proofs.Instances.{trace_taken, more_declared, Extends}
use Rattle.cp_language.proofs.Strands.{IsSoundStrand, AreSoundStrands, protocol_listed, strands_sound}
use Rattle.cp_language.proofs.Bodies.{SaysBody, says_body}
use Rattle.cp_language.proofs.Values.{AtomsDeclared, atoms_declared, stated_declared}
use Rattle.cp_lists.proofs.Items.{at_place}
use Rattle.cp_lists.proofs.Appended.{none_before, none_behind, none_of_four}
use Rattle.cp_model.proofs.Gathered.{onto-keeps, onto-takes, onto-only, atoms, uniques as gathered_uniques}
use Rattle.cp_model.proofs.OwnOrder.{own_if_same}
use Rattle.cp_language.proofs.Atoms.{onto_declared, given_declared, given_there, non_given, penetrator_non_given}
use Rattle.cp_language.proofs.Uniques as uniques
use Rattle.cp_language.proofs.NoCycle.{no_cycle, are_pairs}

-- ---- the variables of strands

strand_declared : (roles : List Role) (full : List Declaration) (s : SkeletonStrand) → IsSoundStrand roles full s → AreDeclared full (variables_of_trace (skeleton_trace s))
strand_declared roles full (instance role height terms) h = trace_taken (as_substitution terms) full (prefix_of role height) h.2
strand_declared roles full (listener t) h = both_declared full (variables_of t) (variables_of t ++ []) h (both_declared full (variables_of t) [] h (none_declared full))

strands_declared : (roles : List Role) (full : List Declaration) (ss : List SkeletonStrand) → AreSoundStrands roles full ss → AreDeclared full (variables_of_strands ss)
strands_declared roles full [] h = none_declared full
strands_declared roles full (s ∷ ss) h =
    both_declared full (variables_of_trace (skeleton_trace s)) (variables_of_strands ss) (strand_declared roles full s (h s here)) (strands_declared roles full ss (λ x p. h x (there p)))

-- ---- one problem

-- The roles are sound, and have names of their own.
pub record IsSoundProtocol (p : Protocol) : Type 0 where
  pub roles : AreSoundRoles p.roles
  pub named : HaveOwnNames [] p.roles

-- The problem is a skeleton over its protocol with its variables, that maps to itself, and states its pairs; the protocol is
-- sound; and each identifier that is declared is that of its own variable.
pub record IsSoundProblem (p : Problem) : Type 0 where
  pub skeleton : IsSkeleton p.protocol p.skeleton
  pub variables : p.skeleton.variables ≡ p.variables
  pub own : IsPointOfView p.variables p.skeleton
  pub pairs : p.skeleton.from_problem.pairs ≡ p.skeleton.pairs
  pub sound : IsSoundProtocol p.protocol
  pub declared : (i : ℕ) (d : Declaration) → i < p.declared → item_at p.variables i ≡ Some d → variable_named p.variables d.identifier ≡ Some (record { sort = d.sort; number = i })

module _ (protocol : Protocol) (ds : List Declaration) (body : List Form) (strands : List SkeletonStrand) (full : List Declaration)
    (sound : AreSoundStrands protocol.roles full strands) (says : SaysBody protocol.roles ds strands [] body) (extends : Extends ds full) where
  abbrev own : Assumptions
  own = own_assumptions ds strands body

  abbrev all : Assumptions
  all = with_given strands own

  abbrev k : Skeleton
  k = own_skeleton ds strands body full

  have_origins : uniques.HaveOrigins k all.uniquely_originating
  have_origins =
      uniques.onto_origins k own.uniquely_originating (given_uniques 0 strands)
      (uniques.onto_origins k [] (own_uniques strands (atoms_in ds (forms_under is_unique_item body))) (uniques.no_origins k) (uniques.own_origins k (atoms_in ds (forms_under is_unique_item body))))
      (uniques.given_origins k)

  gives : (s : ℕ) (role : Role) (height : ℕ) (terms : List Binding) → item_at strands s ≡ Some (instance role height terms) → GivesAssumptions k s role height terms
  gives s role height terms at = record {
    non = λ v p a. onto-takes atoms own.non_originating (given_non strands) (apply_to_atom (as_substitution terms) v)
        (subst (λ (vs : List AtomTerm). IsIn (apply_to_atom (as_substitution terms) v) vs) (sym (non_given strands)) (given_there (λ r. r.non_originating) strands s role height terms at v p a));
    penetrator_non = λ v p a. onto-takes atoms own.penetrator_non_originating (given_penetrator_non strands) (apply_to_atom (as_substitution terms) v)
        (subst (λ (vs : List AtomTerm). IsIn (apply_to_atom (as_substitution terms) v) vs) (sym (penetrator_non_given strands)) (given_there (λ r. r.penetrator_non_originating) strands s role height terms at v p a));
    unique = λ v i p a. onto-takes gathered_uniques own.uniquely_originating (given_uniques 0 strands) (record { value = apply_to_atom (as_substitution terms) v; origin = node_at s i })
        (let q : 0 + s ≡ s = omega arith in
        subst (λ (n : ℕ). IsIn (record { value = apply_to_atom (as_substitution terms) v; origin = node_at n i }) (given_uniques 0 strands)) q (uniques.given_there 0 strands s role height terms at v i p a));
  }

  is_skeleton : IsSkeleton protocol k
  is_skeleton = record {
    of_role = λ s role height terms at. (sound (instance role height terms) (at_place strands s (instance role height terms) at)).0;
    heights = λ s role height terms at. (sound (instance role height terms) (at_place strands s (instance role height terms) at)).1;
    order_pairs = are_pairs k says.order;
    no_cycle = no_cycle k says.order;
    origins = have_origins;
    given = gives;
  }

  non_declared : AtomsDeclared full all.non_originating
  non_declared =
      onto_declared full own.non_originating (given_non strands)
      (onto_declared full [] (atoms_in ds (forms_under is_non_item body)) (λ v p. elim p [ ]) (λ v p. extends _ (stated_declared ds (forms_under is_non_item body) says.non v p)))
      (subst (AtomsDeclared full) (sym (non_given strands)) (given_declared (λ r. r.non_originating) protocol.roles full strands sound))

  penetrator_non_declared : AtomsDeclared full all.penetrator_non_originating
  penetrator_non_declared =
      onto_declared full own.penetrator_non_originating (given_penetrator_non strands)
      (onto_declared full [] (atoms_in ds (forms_under is_penetrator_non_item body)) (λ v p. elim p [ ]) (λ v p. extends _ (stated_declared ds (forms_under is_penetrator_non_item body) says.penetrator_non v p)))
      (subst (AtomsDeclared full) (sym (penetrator_non_given strands)) (given_declared (λ r. r.penetrator_non_originating) protocol.roles full strands sound))

  all_declared : AreDeclared full (variables_of_skeleton k)
  all_declared =
      both_declared full (variables_of_strands strands) (variables_of_assumptions all) (strands_declared protocol.roles full strands sound)
      (both_declared full (variables_of_atoms all.non_originating ++ variables_of_atoms all.penetrator_non_originating) (variables_of_uniques all.uniquely_originating)
      (both_declared full (variables_of_atoms all.non_originating) (variables_of_atoms all.penetrator_non_originating) (atoms_declared full all.non_originating non_declared) (atoms_declared full all.penetrator_non_originating penetrator_non_declared))
      (uniques.uniques_declared k full (λ n s at. strand_declared protocol.roles full s (sound s (at_place strands n s at))) all.uniquely_originating have_origins))

  own_assumed : HasOwnAssumptions k
  own_assumed = record {
    non = λ v i. onto-keeps atoms own.non_originating (given_non strands) v i;
    penetrator_non = λ v i. onto-keeps atoms own.penetrator_non_originating (given_penetrator_non strands) v i;
    unique = λ u i. onto-keeps gathered_uniques own.uniquely_originating (given_uniques 0 strands) u i;
  }

  no_more : AssumesNoMore k
  no_more = record {
    non = λ v i. onto-only atoms own.non_originating (given_non strands) v i;
    penetrator_non = λ v i. onto-only atoms own.penetrator_non_originating (given_penetrator_non strands) v i;
    unique = λ u i. onto-only gathered_uniques own.uniquely_originating (given_uniques 0 strands) u i;
  }

  is_own : IsPointOfView full k
  is_own = record { strands = refl; values = refl; closed = all_declared; assumed = own_assumed; no_more = no_more; ordered = own_if_same k (are_pairs k says.order) refl }

abbrev at_start : ItemStage
at_start = record { after_strand = false; after_item = false }

with_protocol : (p : Protocol) → IsSoundProtocol p → (ds : List Declaration) → AreDistinct [] ds → (body : List Form) →
    body_faults p.roles ds (problem_strands p.roles ds body).strands [] at_start body ≡ [] → IsSoundProblem (problem_with p ds body (problem_strands p.roles ds body))
with_protocol p sound ds distinct body e =
    let s = problem_strands p.roles ds body in
    let extends = more_declared ds s.fresh in
    let says = says_body p.roles ds s.strands [] at_start body e in
    let strands = strands_sound p.roles sound.roles ds (ds ++ s.fresh) extends ds (length ds) (before_items body) refl refl says.stated in
    record {
      skeleton = is_skeleton p ds body s.strands (ds ++ s.fresh) strands says extends;
      variables = refl;
      own = is_own p ds body s.strands (ds ++ s.fresh) strands says extends;
      pairs = refl;
      sound = sound;
      declared = λ i d less at. declared_named ds s.fresh i d distinct less at;
    }

-- All of these protocols are sound.
abbrev AreSoundProtocols : List Protocol → Type 0
AreSoundProtocols ps = (p : Protocol) → IsIn p ps → IsSoundProtocol p

by_protocol : (o : Option Protocol) → ((p : Protocol) → o ≡ Some p → IsSoundProtocol p) → (ds : List Declaration) → AreDistinct [] ds → (body : List Form) →
    body_faults (roles_of o) ds (problem_strands (roles_of o) ds body).strands [] at_start body ≡ [] →
    IsSoundProblem (problem_with (protocol_or_none o) ds body (problem_strands (protocol_or_none o).roles ds body))
by_protocol None sound ds distinct body e = with_protocol (protocol_or_none None) (record { roles = λ r p. elim p [ ]; named = tt }) ds distinct body e
by_protocol (Some p) sound ds distinct body e = with_protocol p (sound p refl) ds distinct body e

problem_sound : (above : List Protocol) (at : Place) (fs : List Form) → AreSoundProtocols above → problem_faults above at fs ≡ [] → IsSoundProblem (problem_of above fs)
problem_sound above at [] sound e = absurd (cc)
problem_sound above at (name ∷ []) sound e = absurd (cc)
problem_sound above at (name ∷ vars ∷ body) sound e =
    let o = protocol_named above (text_of_symbol name) in
    let ds = declarations_of vars in
    let p = none_of_four (fault_unless (has_strand (vars ∷ body)) at BadShape) (protocol_name_faults above name) (vars_faults vars)
    (body_faults (roles_of o) ds (problem_strands (roles_of o) ds body).strands [] at_start body) e in
    by_protocol o (λ r found. sound r (protocol_listed above (text_of_symbol name) r found)) ds (variables_distinct vars p.2) body p.3

-- ---- the input

abbrev IsSoundOption : Option Problem → Type 0
IsSoundOption o = (p : Problem) → o ≡ Some p → IsSoundProblem p

stated_sound : (q : Problem) → IsSoundProblem q → IsSoundOption (Some q)
stated_sound q h p e = let r : q ≡ p = cc in subst IsSoundProblem r h

none_sound : IsSoundOption None
none_sound p e = absurd (cc)

one_more : (p : Protocol) (above : List Protocol) → IsSoundProtocol p → AreSoundProtocols above → AreSoundProtocols (p ∷ above)
one_more p above h hs q here = h
one_more p above h hs q (there i) = hs q i

sound_protocol : (p : Protocol) → AreSoundRoles p.roles × HaveOwnNames [] p.roles → IsSoundProtocol p
sound_protocol p h = record { roles = h.0; named = h.1 }

-- what a form states, and the protocols that stand above the forms behind it
by_head : (above : List Protocol) (at : Place) (k : TopHead) (fs : List Form) (f : Form) → AreSoundProtocols above → top_faults above at k fs ≡ [] → IsSoundOption (stated (entry_of_head above k fs f)) × AreSoundProtocols (protocols_onto k fs above)
by_head above at protocol_form fs f sound e = (none_sound, one_more (protocol_of fs) above (sound_protocol (protocol_of fs) (protocol_sound (protocol_names above) at fs e)) sound)
by_head above at problem_form fs f sound e = (stated_sound (problem_of above fs) (problem_sound above at fs sound e), sound)
by_head above at free_form fs f sound e = (none_sound, sound)
by_head above at top_out_of_profile fs f sound e = absurd (cc)
by_head above at no_top fs f sound e = absurd (cc)

form_sound : (above : List Protocol) (at : Place) (o : Option Headed) (f : Form) → AreSoundProtocols above → headed_top_faults above at o ≡ [] → IsSoundOption (stated (headed_entry above o f)) × AreSoundProtocols (protocols_behind o above)
form_sound above at None f sound e = absurd (cc)
form_sound above at (Some h) f sound e = by_head above at (top_head h.head) h.items f sound e

abbrev AreSoundEntries : List Entry → Type 0
AreSoundEntries entries = (e : Entry) → IsIn e entries → IsSoundOption (stated e)

one_more_entry : (e : Entry) (es : List Entry) → IsSoundOption (stated e) → AreSoundEntries es → AreSoundEntries (e ∷ es)
one_more_entry e es h hs f here = h
one_more_entry e es h hs f (there i) = hs f i

entries_sound : (above : List Protocol) (fs : List Form) → AreSoundProtocols above → faults_from above fs ≡ [] → AreSoundEntries (entries_from above fs)
entries_sound above [] sound e = λ f i. elim i [ ]
entries_sound above (f ∷ fs) sound e =
    let first = headed_top_faults above (place_of f) (headed f) in
    let rest = faults_from (protocols_behind (headed f) above) fs in
    let h = form_sound above (place_of f) (headed f) f sound (none_before first rest e) in
    one_more_entry (headed_entry above (headed f) f) (entries_from (protocols_behind (headed f) above) fs) h.0
    (entries_sound (protocols_behind (headed f) above) fs h.1 (none_behind first rest e))

problems_sound : (fs : Forms) → faults_of fs ≡ [] → AreSoundEntries (input_of fs)
problems_sound fs e = entries_sound [] (items_of fs) (λ q i. elim i [ ]) e

-- Each problem of well-formed input is a skeleton over its protocol.
pub are_skeletons : (fs : Forms) (e : Entry) (p : Problem) → faults_of fs ≡ [] → IsIn e (input_of fs) → stated e ≡ Some p → IsSkeleton p.protocol p.skeleton
are_skeletons fs e p faultless i at = (problems_sound fs faultless e i p at).skeleton

-- The variables of its skeleton are those of the problem.
pub have_their_variables : (fs : Forms) (e : Entry) (p : Problem) → faults_of fs ≡ [] → IsIn e (input_of fs) → stated e ≡ Some p → p.skeleton.variables ≡ p.variables
have_their_variables fs e p faultless i at = (problems_sound fs faultless e i p at).variables

-- Each problem of well-formed input maps to itself.
pub map_to_themselves : (fs : Forms) (e : Entry) (p : Problem) → faults_of fs ≡ [] → IsIn e (input_of fs) → stated e ≡ Some p → IsPointOfView p.variables p.skeleton
map_to_themselves fs e p faultless i at = (problems_sound fs faultless e i p at).own

-- The pairs that a problem of well-formed input states are its pairs.
pub state_their_pairs : (fs : Forms) (e : Entry) (p : Problem) → faults_of fs ≡ [] → IsIn e (input_of fs) → stated e ≡ Some p → p.skeleton.from_problem.pairs ≡ p.skeleton.pairs
state_their_pairs fs e p faultless i at = (problems_sound fs faultless e i p at).pairs

well_formed_role : (r : Role) → IsSoundRole r → IsWellFormedRole r
well_formed_role r h = record {
  identifiers = λ i d at. named_itself r.variables i d h.distinct at;
  trace = h.declared;
  non = atoms_declared r.variables r.non_originating h.non;
  penetrator_non = atoms_declared r.variables r.penetrator_non_originating h.penetrator_non;
  unique = h.unique;
}

-- The roles of a problem's protocol are well formed.
pub roles_are_well_formed : (fs : Forms) (e : Entry) (p : Problem) (r : Role) → faults_of fs ≡ [] → IsIn e (input_of fs) → stated e ≡ Some p → IsIn r p.protocol.roles → IsWellFormedRole r
roles_are_well_formed fs e p r faultless i at listed = well_formed_role r ((problems_sound fs faultless e i p at).sound.roles r listed)

-- A role of a problem's protocol is found by its name.
pub roles_found : (fs : Forms) (e : Entry) (p : Problem) (r : Role) → faults_of fs ≡ [] → IsIn e (input_of fs) → stated e ≡ Some p → IsIn r p.protocol.roles → role_named p.protocol.roles r.name ≡ Some r
roles_found fs e p r faultless i at listed = role_found [] p.protocol.roles r (problems_sound fs faultless e i p at).sound.named listed

-- An identifier that a problem declares is that of its own variable.
pub variables_found : (fs : Forms) (e : Entry) (p : Problem) (n : ℕ) (d : Declaration) → faults_of fs ≡ [] → IsIn e (input_of fs) → stated e ≡ Some p → n < p.declared → item_at p.variables n ≡ Some d
    → variable_named p.variables d.identifier ≡ Some (record { sort = d.sort; number = n })
variables_found fs e p n d faultless i at less there_is = (problems_sound fs faultless e i p at).declared n d less there_is
