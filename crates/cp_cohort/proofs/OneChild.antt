-- The one child of the example's test.
use Rattle.std.proofs.Common.{◌≡◌, ℕ, zero, suc, ◌+◌, ◌-◌, ◌<◌, List, [], ◌∷◌, ◌++◌, Some, true, false, refl, sym, ap, ◌∙◌, subst, inl, inr, ⊎_elim, arith}
use Rattle.cp_lists.specs.Lists.{IsIn, here, there, one_step, more_steps}
use Rattle.cp_lists.proofs.Members.{not_in_none, only_item}
use Rattle.cp_model.specs.Message.{symmetric, text, key, atom}
use Rattle.cp_model.specs.Term.{skey_variable, symmetric_term, text_variable, AtomTerm, key_term, Term, atom_term, IsCarriedByTerm, itself_term, variables_of, Assignment, value_of, Substitution, apply_to, composed, variable_term}
use Rattle.cp_model.specs.declared.sort.Sort.TheVariants.{Text as text_sort, Skey as skey_sort}
use Rattle.cp_model.specs.declared.variable.Variable.{Variable}
use Rattle.cp_model.specs.Identity.{unchanged}
use Rattle.cp_model.specs.Strand.{payload, Role, variables_of_prefix}
use Rattle.cp_model.specs.declared.strand.Event.{Event}
use Rattle.cp_model.specs.declared.strand.Event.TheVariants.{Send as send, Receive as recv}
use Rattle.cp_model.specs.Bundle.{node_at}
use Rattle.cp_model.specs.declared.node.Node.{Node}
use Rattle.cp_model.specs.declared.node.OrderPair.{OrderPair}
use Rattle.cp_model.specs.Skeleton.{term_event_at, OrderStep, along_strand_of, along_pair, Skeleton, Before}
use Rattle.cp_model.specs.Problem.{IsDeclared}
use Rattle.cp_model.specs.PointOfView.{HasDeclaredVariables}
use Rattle.cp_model.proofs.LawTerms.{term_unchanged}
use Rattle.cp_model.proofs.DeclaredTerms.{by_bindings}
use Rattle.cp_model.specs.PrefixVariables.{prefix_variables}
use Rattle.cp_model.specs.Extensions.{AddsStrand}
use Rattle.cp_theory.specs.Fresh.{fresh_terms}
use Rattle.cp_model.specs.declared.step.Step.{Step}
use Rattle.cp_model.specs.declared.step.Step.TheVariants.{Left, Right, Plaintext}
use Rattle.cp_model.specs.Positions.{term_at}
use Rattle.cp_term.proofs.PositionLaws.{carried_position}
use Rattle.cp_theory.specs.Normal.{skeleton_under, with_pairs, terms_under}
use Rattle.cp_unify.specs.Bindings.{Binding, as_substitution, Meets}
use Rattle.cp_unify.proofs.Substituted.{after_met}
use Rattle.cp_collapse.specs.SameSkeletons.{same_instance, same_listener, no_strands, same_strands}
use Rattle.cp_collapse.proofs.SameFacts.{says_itself}
use Rattle.cp_collapse.proofs.AtomUnifiers.{directed}
use Rattle.cp_model.specs.Declares.{DeclaresItsVariables}
use Rattle.cp_normal.specs.Findings.{CarriesNonOriginating, IsAddedPair, ClosesCycle, AreNormalPairs, IsContradictory}
use Rattle.cp_normal.specs.Exact.{HasForms, refuted, normal}
use Rattle.cp_normal.specs.BySubstitution.{all_variables, ComesBySubstitution}
use Rattle.cp_normal.specs.Formed.{Formed, IsFormedFrom, AreFormedNormalForms, AreFormsBeside}
use Rattle.cp_theory.specs.Covering.{put_before}
use Rattle.cp_theory.specs.EncryptionExamples.{shared, locked, locker, protocol, heard, reception, new_terms, with_locker, as_old}
use Rattle.cp_theory.proofs.Built.{composed_stays}
use Rattle.cp_theory.proofs.HeardEncryption.{unlocked}
use Rattle.cp_theory.proofs.HeardCovered.{new_locked, adds, with_listener}
use Rattle.cp_pattern.specs.Unifiers.{UnifiesMostGenerally, NeverEqual}
use Rattle.cp_cohort.specs.Releases.{Release, PartialSolution, MeetsBoth}
use Rattle.cp_cohort.specs.Stages.{SolvesRelease, on_the_way, normalising, settled, next_form, no_forms}
use Rattle.cp_cohort.specs.GatheredLists.{nothing_given, then_given, none_left, left_out}
use Rattle.cp_cohort.specs.CoveringChildren.{declarations_among}
use Rattle.cp_cohort.specs.Cohort.{AreContracted, of_listener, AddsAt, is_added, release_at, by_key, Listens, AreListeners, IsCohort}
use Rattle.cp_cohort.specs.Cohort as cohort
use Rattle.cp_cohort.specs.Example.{asked, one_child}
use Rattle.cp_cohort.proofs.OpenedPatterns.{only_itself}

-- ---- declarations

locker_declares : DeclaresItsVariables locker
locker_declares x here = refl
locker_declares x (there here) = refl
locker_declares x (there (there i)) = absurd (not_in_none i)

pub roles_declare : (role : Role) → IsIn role protocol.roles → DeclaresItsVariables role
roles_declare role i = subst DeclaresItsVariables (sym (only_item i)) locker_declares

occurring_declared : (x : Variable) → IsIn x (record { sort = text_sort; number = 0 } ∷ record { sort = skey_sort; number = 1 } ∷ record { sort = text_sort; number = 0 } ∷ record { sort = skey_sort; number = 1 } ∷ record { sort = skey_sort; number = 1 } ∷ []) → IsDeclared locker.variables x
occurring_declared x here = refl
occurring_declared x (there here) = refl
occurring_declared x (there (there here)) = refl
occurring_declared x (there (there (there here))) = refl
occurring_declared x (there (there (there (there here)))) = refl
occurring_declared x (there (there (there (there (there i))))) = absurd (not_in_none i)

mapped_declared : (t : Term) (x : Variable) → IsIn t heard.from_problem.values → IsIn x (variables_of t) → IsDeclared locker.variables x
mapped_declared t x here here = refl
mapped_declared t x here (there i) = absurd (not_in_none i)
mapped_declared t x (there here) here = refl
mapped_declared t x (there here) (there i) = absurd (not_in_none i)
mapped_declared t x (there (there i)) j = absurd (not_in_none i)

pub heard_declared : HasDeclaredVariables asked.skeleton.variables heard
heard_declared = record { occurring = occurring_declared; mapped = mapped_declared }

-- ---- orders whose one pair is that from the added strand to the reception

abbrev pair : OrderPair
pair = record { earlier = node_at 1 0; later = reception }

-- Along such an order this rises.
abbrev rank : Node → ℕ
rank n = n.index + (1 - n.strand)

module _ (k : Skeleton) (all : (p : OrderPair) → IsIn p k.pairs → p ≡ pair) where
  step_rises : {x y : Node} → OrderStep k x y → rank x < rank y
  step_rises (along_strand_of {s = s} {i = i} ev) = omega arith
  step_rises (along_pair {p = p} i) = subst (λ (q : OrderPair). rank q.earlier < rank q.later) (sym (all p i)) (omega arith)

  rises : {x y : Node} → Before k x y → rank x < rank y
  rises (one_step s) = step_rises s
  rises {x} {y = z} (more_steps {y = y} s p) = let l : rank x < rank y = step_rises s in let m : rank y < rank z = rises p in omega (arith, l, m)

  acyclic : (y : Node) → Before k y y → ⊥
  acyclic y before = let l : rank y < rank y = rises before in omega (arith, l)

-- With the strand, and with its variables.
abbrev grown : Skeleton
grown = record with_locker { variables = locker.variables ++ declarations_among locker (prefix_variables locker 1) }

abbrev put : Skeleton
put = put_before (node_at 1 0) reception grown

abbrev sent : Skeleton
sent = one_child.skeleton

-- ---- the unifier

abbrev bindings : List Binding
bindings =
    record { variable = record { sort = text_sort; number = 2 }; term = atom_term (text_variable 0) }
    ∷ record { variable = record { sort = skey_sort; number = 3 }; term = atom_term (key_term (symmetric_term (skey_variable 1))) }
    ∷ []

met : (g : Assignment) → value_of g new_locked ≡ value_of g locked → Meets g bindings
met g same =
    let of_text : atom (text (g.texts 2)) ≡ atom (text (g.texts 0)) = cc in
    let of_key : atom (key (symmetric (g.skeys 3))) ≡ atom (key (symmetric (g.skeys 1))) = cc in
    (of_text, (of_key, tt))

unifies : UnifiesMostGenerally new_locked locked as_old
unifies = record {
  unifies = refl;
  general = λ g same t. ap (λ (h : Assignment). value_of h t) (after_met g bindings (met g same));
  directed = directed bindings (λ g. (refl, (refl, tt))) (omega arith, (omega arith, tt));
}

text_never : NeverEqual (atom_term (text_variable 2)) locked
text_never g e = cc

-- ---- the normal form is the skeleton itself

-- Each event has the encryption.
each_locked : (s i : ℕ) (e : Event Term) → term_event_at sent.strands (node_at s i) ≡ Some e → payload e ≡ locked
each_locked zero zero e at = let same : recv locked ≡ e = cc in ap payload (sym same)
each_locked zero (suc zero) e at = let same : send locked ≡ e = cc in ap payload (sym same)
each_locked zero (suc (suc i)) e at = absurd (cc)
each_locked (suc zero) zero e at = let same : send locked ≡ e = cc in ap payload (sym same)
each_locked (suc zero) (suc i) e at = absurd (cc)
each_locked (suc (suc s)) i e at = absurd (cc)

not_in_locked : (path : List Step) → term_at locked path ≡ Some (atom_term (key_term shared)) → ⊥
not_in_locked [] at = cc
not_in_locked (Plaintext ∷ []) at = cc
not_in_locked (Plaintext ∷ Left ∷ path) at = cc
not_in_locked (Plaintext ∷ Right ∷ path) at = cc
not_in_locked (Plaintext ∷ Plaintext ∷ path) at = cc
not_in_locked (Left ∷ path) at = cc
not_in_locked (Right ∷ path) at = cc

-- Where each event has the encryption none carries the key.
pub key_is_not_carried : (k : Skeleton) → k.assumptions.non_originating ≡ key_term shared ∷ [] → ((s i : ℕ) (e : Event Term) → term_event_at k.strands (node_at s i) ≡ Some e → payload e ≡ locked) → CarriesNonOriginating k → ⊥
key_is_not_carried k non each c =
    let value : c.value ≡ key_term shared = only_item (subst (IsIn c.value) non c.listed) in
    let message = each c.node.strand c.node.index c.carried.event c.carried.there in
    let carried : IsCarriedByTerm (atom_term (key_term shared)) locked = subst (IsCarriedByTerm (atom_term (key_term shared))) message (subst (λ (v : AtomTerm). IsCarriedByTerm (atom_term v) (payload c.carried.event)) value c.carried.carried) in
    let position = (carried_position locked (atom_term (key_term shared))).0 carried in
    not_in_locked position.0 position.1

own_pairs : (p : OrderPair) → IsIn p sent.pairs → p ≡ pair
own_pairs p i = only_item i

none_added : (k : Skeleton) → k.assumptions.uniquely_originating ≡ [] → (p : OrderPair) → IsAddedPair k p → ⊥
none_added k none p added = not_in_none (subst (IsIn added.0.entry) none added.0.listed)

closes_no_cycle : ClosesCycle sent → ⊥
closes_no_cycle c = acyclic (with_pairs sent c.pairs) (λ p i. ⊎_elim (own_pairs p) (λ added. absurd (none_added sent refl p added)) ((c.normal p).0 i)) c.node c.cycle

consistent : IsContradictory sent → ⊥
consistent (inl carries) = key_is_not_carried sent refl each_locked carries
consistent (inr (inl two)) = not_in_none two.first_listed
consistent (inr (inr (inl lost))) = not_in_none lost.listed
consistent (inr (inr (inr cycle))) = closes_no_cycle cycle

normal_pairs : AreNormalPairs sent sent.pairs
normal_pairs p = (inl, λ e. ⊎_elim (λ i. i) (λ added. absurd (none_added sent refl p added)) e)

has_form : HasForms sent (sent ∷ [])
has_form = normal (λ u x misplaced. not_in_none misplaced.listed) normal_pairs consistent

comes : ComesBySubstitution sent sent
comes = record {
  substitution = unchanged;
  stays_within = record {
    idempotent = λ t. term_unchanged (apply_to unchanged t);
    within = λ x y i j. subst (λ (z : Variable). IsIn z (all_variables sent)) (sym (only_itself x y (subst (λ (v : Term). IsIn y (variables_of v)) (term_unchanged (variable_term x)) j))) i;
    leaves = λ x none. term_unchanged (variable_term x);
  };
  same = record {
    strands = same_strands same_listener (same_strands (same_instance
        (λ x i. by_bindings (composed (as_substitution (terms_under as_old locker 1 new_terms)) unchanged) (variables_of_prefix locker 1) x i
        ∙ ap (λ (s : Substitution). apply_to s (variable_term x)) (composed_stays (as_substitution (terms_under as_old locker 1 new_terms))))) no_strands);
    pairs = refl;
    assumptions = refl;
    from_problem = refl;
  };
  pairs = λ p. (inl, λ e. ⊎_elim (λ i. i) (λ added. absurd (none_added (skeleton_under unchanged sent) refl p added)) e);
}

abbrev form : Formed
form = record { substitution = unchanged; skeleton = sent }

forms : AreFormedNormalForms sent (form ∷ [])
unfolding comes
forms = record {
  exact = has_form;
  formed = λ f i. subst (IsFormedFrom sent) (sym (only_item i)) (record { comes = comes; by = refl });
  loses_none = λ protocol b h sk is stands apart. record { form = form; listed = here; stands = stands; apart = apart; same_values = λ t. refl };
}

-- ---- the strand that is added

abbrev released : Release
released = release_at asked 1 0 []

both : (x : PartialSolution) → MeetsBoth released x
both x = record { outside = λ inside. not_in_none inside.inside.listed; inside_before = λ i l event at. absurd (omega (arith, l)) }

abbrev tried : PartialSolution
tried = record { skeleton = sent; substitution = bindings }

beside : AreFormsBeside sent bindings (record { skeleton = sent; substitution = bindings } ∷ [])
beside = record {
  forms = form ∷ [];
  normal = forms;
  each = (
    record {
      skeleton = refl;
      variables = refl;
      terms = λ t. sym (term_unchanged (apply_to (as_substitution bindings) t));
      substitution = sym (composed_stays (as_substitution bindings));
    },
    tt,
  );
}

settles : SolvesRelease released on_the_way tried (tried ∷ [])
settles = normalising (both tried) beside (next_form (settled (both tried)) no_forms)

adds_grown : AddsStrand locker 1 (fresh_terms 2 (prefix_variables locker 1)) heard grown
adds_grown = record { terms = adds.terms; gives = adds.gives; strands = adds.strands; pairs = adds.pairs; assumptions = adds.assumptions; from_problem = adds.from_problem }

at_whole : AddsAt asked locker 0 [] (one_child ∷ [])
at_whole = record { grown = grown; adds = adds_grown; variables = refl; releases = cohort.unified (acyclic put (λ p i. only_item i)) refl refl unifies (record { same = says_itself sent; variables = refl; by = refl }) settles }

at_text : AddsAt asked locker 0 (Plaintext ∷ []) []
at_text = record { grown = grown; adds = adds_grown; variables = refl; releases = cohort.never_equal refl refl text_never }

-- ---- the listener on the key

listens : Listens asked (atom_term (key_term shared)) []
listens = record {
  added = with_listener;
  adds = refl;
  forms = [];
  normal = refuted (inl (record { value = key_term shared; listed = here; node = node_at 1 0; carried = record { event = recv (atom_term (key_term shared)); there = refl; carried = itself_term } }));
  table = λ r i. absurd (not_in_none i);
  are_children = refl;
}

-- ---- the cohort

contracted : AreContracted asked []
contracted = record {
  sent = [];
  before = left_out (λ sent. let role : false ≡ true = sent.by_role in cc) (left_out (λ sent. let role : false ≡ true = sent.by_role in cc) none_left);
  each = nothing_given;
}

listeners : AreListeners asked []
listeners = record {
  frees = atom_term (key_term shared) ∷ [];
  opens = [];
  critical = by_key refl (λ derivable. unlocked derivable refl);
  patterns = nothing_given;
  each = then_given listens nothing_given;
}

pub is_cohort : IsCohort protocol asked (one_child ∷ [])
is_cohort = record {
  contracted = [];
  displaced = [];
  added = one_child ∷ [];
  listeners = [];
  are_contracted = contracted;
  are_displaced = then_given (of_listener refl) nothing_given;
  are_added = then_given (then_given (is_added refl (then_given at_whole (then_given at_text nothing_given))) nothing_given) nothing_given;
  are_listeners = listeners;
  whole = refl;
}
