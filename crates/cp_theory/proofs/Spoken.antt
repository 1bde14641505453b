-- The example meets the premises of the laws.
use Rattle.std.proofs.Common.{◌≡◌, ◌≢◌, ℕ, zero, suc, ◌+◌, ◌<◌, List, [], ◌∷◌, Some, refl, sym, ap, ◌∙◌, subst, le_refl, lt_trans, lt_irrefl, arith}
use Rattle.cp_lists.specs.Lists.{item_at, IsIn, here, there, one_step, more_steps}
use Rattle.cp_model.specs.Message.{text, Message, atom, itself}
use Rattle.cp_model.specs.Term.{AtomTerm, text_variable, variable_term, Term, atom_term, IsCarriedByTerm, itself_term, Assignment, value_of_atom, apply_to_atom, after, AgreeOn, value_of}
use Rattle.cp_model.specs.Bindings.{Binding, as_substitution}
use Rattle.cp_model.specs.declared.variable.Variable.{Variable}
use Rattle.cp_model.specs.Strand.{payload, Role, IsHeight, regular, variables_of_prefix}
use Rattle.cp_model.specs.declared.strand.Event.{Event}
use Rattle.cp_model.specs.declared.strand.Event.TheVariants.{Send as send, Receive as recv}
use Rattle.cp_model.specs.Bundle.{node_at, event_at, OriginatesAt, KeepsUnique, KeepsRole, AreOfProtocol, IsBundle}
use Rattle.cp_model.specs.declared.node.Node.{Node}
use Rattle.cp_model.specs.Skeleton.{instance, term_event_at, UniqueAt, OrderStep, along_strand_of, along_pair, Before, IsOrigin, GivesAssumptions, IsSkeleton}
use Rattle.cp_model.specs.Standing.{image_of, StandsOnRegular, StandsIn, StandsApart}
use Rattle.cp_model.specs.Realisation.{OriginatesAtTerm}
use Rattle.cp_model.specs.Problem.{variables_of_skeleton}
use Rattle.cp_lists.proofs.Members.{only_item, not_in_none}
use Rattle.cp_model.proofs.StrandParts.{two_instances, two_regulars, no_listener}
use Rattle.cp_theory.proofs.Numbered.{IsOfRole, of_roles, is_numbered}
use Rattle.cp_theory.specs.Normal.{IsOriginPair, skeleton_under, variables_of_terms, AreBranches}
use Rattle.cp_theory.specs.RepeatedText.{speaker, repeater, protocol, unique_text, two_say_it, repeated, zeros, heard_and_said, standing, merging, from_speaker}

-- The two instances, and the two strands.
each_instance : (P : ℕ → Role → ℕ → List Binding → Type 0) → P 0 speaker 1 [] → P 1 repeater 2 [] →
    (s : ℕ) (role : Role) (height : ℕ) (terms : List Binding) → item_at two_say_it.strands s ≡ Some (instance role height terms) → P s role height terms
each_instance P p q s role height terms e = two_instances P p q s role height terms e

each_regular : (P : ℕ → Role → ℕ → Assignment → Type 0) → P 0 speaker 1 zeros → P 1 repeater 2 zeros →
    (s : ℕ) (role : Role) (height : ℕ) (g : Assignment) → item_at heard_and_said.strands s ≡ Some (regular role height g) → P s role height g
each_regular P p q s role height g e = two_regulars P p q s role height g e

-- The skeleton.
same_strand_step : {x y : Node} → OrderStep two_say_it x y → (x.strand ≡ y.strand) × (x.index < y.index)
same_strand_step (along_strand_of {s = s} {i = i} e) = (refl, omega arith)
same_strand_step (along_pair h) = absurd (not_in_none h)

same_strand : {x y : Node} → Before two_say_it x y → (x.strand ≡ y.strand) × (x.index < y.index)
same_strand (one_step s) = same_strand_step s
same_strand (more_steps s p) =
    let a = same_strand_step s in
    let b = same_strand p in
    (a.0 ∙ b.0, lt_trans a.1 b.1)

given_speaker : GivesAssumptions two_say_it 0 speaker 1 []
given_speaker = record {
  non = λ v h a. absurd (not_in_none h);
  penetrator_non = λ v h a. absurd (not_in_none h);
  unique = λ v i h a.
      let e : i ≡ 0 = omega (arith, a.1) in
      subst (λ x. IsIn (record { value = apply_to_atom (as_substitution []) x; origin = node_at 0 i }) (unique_text ∷ [])) (sym (only_item h))
      (subst (λ x. IsIn (record { value = text_variable 0; origin = node_at 0 x }) (unique_text ∷ [])) (sym e) here);
}

given_repeater : GivesAssumptions two_say_it 1 repeater 2 []
given_repeater = record { non = λ v h a. absurd (not_in_none h); penetrator_non = λ v h a. absurd (not_in_none h); unique = λ v i h a. absurd (not_in_none h) }

pub is_skeleton : IsSkeleton protocol two_say_it
is_skeleton = record {
  of_role = each_instance (λ s role height terms. IsIn role protocol.roles) here (there here);
  heights = each_instance (λ s role height terms. IsHeight role height) (le_refl 1, le_refl 1) (omega arith, le_refl 2);
  order_pairs = λ p h. absurd (not_in_none h);
  no_cycle = λ n h. lt_irrefl n.index (same_strand h).1;
  origins = λ u h. subst (IsOrigin two_say_it) (sym (only_item h)) (record {
    role = speaker;
    height = 1;
    terms = [];
    on_instance = refl;
    sent = atom_term (text_variable 0);
    transmission = refl;
    carried = itself_term;
  });
  given = each_instance (λ s role height terms. GivesAssumptions two_say_it s role height terms) given_speaker given_repeater;
}

-- The bundle.
abbrev spoken : Message
spoken = atom (text 0)

origin_on : (s i : ℕ) → OriginatesAt heard_and_said.strands spoken (node_at s i) → node_at s i ≡ node_at 0 0
origin_on zero zero o = refl
origin_on zero (suc i) o = let e = o.transmission in absurd (cc)
origin_on (suc zero) zero o = let e = o.transmission in absurd (cc)
origin_on (suc zero) (suc i) o = absurd (o.first 0 (recv spoken) (omega arith) refl itself)
origin_on (suc (suc s)) i o = let e = o.transmission in absurd (cc)

keeps_unique : KeepsUnique heard_and_said.strands spoken (node_at 0 0)
keeps_unique = record {
  role = speaker;
  height = 1;
  values = zeros;
  on_regular = refl;
  originates = record { sent = spoken; transmission = refl; carried = itself; first = λ j e lt at c. omega arith };
  only = λ n o. origin_on n.strand n.index o;
}

kept_speaker : KeepsRole heard_and_said.strands 0 speaker 1 zeros
kept_speaker = record {
  non = λ v h a. absurd (not_in_none h);
  penetrator_non = λ v h a. absurd (not_in_none h);
  unique = λ v i h a.
      let e : i ≡ 0 = omega (arith, a.1) in
      subst (λ x. KeepsUnique heard_and_said.strands (atom (value_of_atom zeros x)) (node_at 0 i)) (sym (only_item h))
      (subst (λ x. KeepsUnique heard_and_said.strands spoken (node_at 0 x)) (sym e) keeps_unique);
}

kept_repeater : KeepsRole heard_and_said.strands 1 repeater 2 zeros
kept_repeater = record { non = λ v h a. absurd (not_in_none h); penetrator_non = λ v h a. absurd (not_in_none h); unique = λ v i h a. absurd (not_in_none h) }

linked_on : (s i : ℕ) (m : Message) → event_at heard_and_said.strands (node_at s i) ≡ Some (recv m) → (event_at heard_and_said.strands (node_at 0 0) ≡ Some (send m)) × (0 < s + i)
linked_on zero zero m e = absurd (cc)
linked_on (suc zero) zero m e = let q : spoken ≡ m = cc in (ap (λ (x : Message). Some (send x)) q, omega arith)
linked_on (suc zero) (suc zero) m e = absurd (cc)
linked_on _ _ m e = absurd (cc)

listed_on : (s i : ℕ) (e : Event Message) → event_at heard_and_said.strands (node_at s i) ≡ Some e → IsIn (node_at s i) heard_and_said.order
listed_on zero zero e at = here
listed_on (suc zero) zero e at = there here
listed_on (suc zero) (suc zero) e at = there (there here)
listed_on _ _ e at = absurd (cc)

place_is : (i : ℕ) (n : Node) → item_at heard_and_said.order i ≡ Some n → i ≡ n.strand + n.index
place_is zero n e = let q : node_at 0 0 ≡ n = cc in ap (λ (x : Node). x.strand + x.index) q
place_is (suc zero) n e = let q : node_at 1 0 ≡ n = cc in ap (λ (x : Node). x.strand + x.index) q
place_is (suc (suc zero)) n e = let q : node_at 1 1 ≡ n = cc in ap (λ (x : Node). x.strand + x.index) q
place_is (suc (suc (suc i))) n e = absurd (cc)

there_is : (n : Node) → IsIn n heard_and_said.order → (e : Event Message) × (event_at heard_and_said.strands n ≡ Some e)
there_is n here = (send spoken, refl)
there_is n (there here) = (recv spoken, refl)
there_is n (there (there here)) = (send spoken, refl)
there_is n (there (there (there h))) = elim h [ ]

of_protocol : AreOfProtocol protocol heard_and_said.strands
of_protocol = of_roles protocol heard_and_said.strands (each_regular (IsOfRole protocol heard_and_said.strands) (here, (le_refl 1, le_refl 1), kept_speaker) (there here, (omega arith, le_refl 2), kept_repeater))

pub is_bundle : IsBundle protocol heard_and_said
is_bundle = is_numbered protocol heard_and_said (λ n. n.strand + n.index) of_protocol (λ s i. omega arith) linked_on listed_on there_is place_is

-- The standing.
speaker_values : AgreeOn (variables_of_prefix speaker 1) (after zeros (as_substitution [])) zeros
speaker_values x here = refl
speaker_values x (there i) = absurd (not_in_none i)

repeater_values : AgreeOn (variables_of_prefix repeater 2) (after zeros (as_substitution [])) zeros
repeater_values x here = refl
repeater_values x (there here) = refl
repeater_values x (there (there i)) = absurd (not_in_none i)

pub stands : StandsIn two_say_it heard_and_said standing
stands = record {
  instances = each_instance (λ s role height terms. StandsOnRegular heard_and_said standing s role height terms)
      (record { at_start = refl; to_height = 1; to_values = zeros; on_regular = refl; at_least = le_refl 1; equal_values = speaker_values })
      (record { at_start = refl; to_height = 2; to_values = zeros; on_regular = refl; at_least = le_refl 2; equal_values = repeater_values });
  listeners = λ s t e. absurd (no_listener speaker repeater 1 2 [] [] s t e);
  ordered = λ x y before ne. absurd (ne (same_strand before).0);
  non = λ v h. absurd (not_in_none h);
  penetrator_non = λ v h. absurd (not_in_none h);
  unique = λ u h. subst (λ (x : UniqueAt). KeepsUnique heard_and_said.strands (atom (value_of_atom zeros x.value)) (image_of two_say_it standing x.origin)) (sym (only_item h)) keeps_unique;
}

pub apart : StandsApart two_say_it standing
apart s t role height terms role' height' terms' at au e = e

-- The text originates at the repeater's transmission too, in terms.
carried_by_atom : {t : Term} {v : AtomTerm} → IsCarriedByTerm t (atom_term v) → t ≡ atom_term v
carried_by_atom itself_term = refl

not_same : atom_term (text_variable 0) ≡ atom_term (text_variable 1) → ⊥
not_same e =
    let p : text_variable 0 ≡ text_variable 1 = cc in
    let q : zero ≡ suc zero = cc in
    absurd (cc)

not_heard : (j : ℕ) (e : Event Term) → j < 1 → term_event_at two_say_it.strands (node_at 1 j) ≡ Some e → IsCarriedByTerm (atom_term (text_variable 0)) (payload e) → ⊥
not_heard zero e l at c =
    let same : recv (atom_term (text_variable 1)) ≡ e = cc in
    not_same (carried_by_atom (subst (λ (f : Event Term). IsCarriedByTerm (atom_term (text_variable 0)) (payload f)) (sym same) c))
not_heard (suc j) e l at c = absurd (omega arith)

pub originates : OriginatesAtTerm two_say_it unique_text.value repeated
originates = (
  record { role = repeater; height = 2; terms = []; on_instance = refl },
  record { sent = atom_term (text_variable 0); transmission = refl; carried = itself_term; first = not_heard },
)

pub elsewhere : repeated ≢ unique_text.origin
elsewhere e = let p : suc zero ≡ zero = ap (λ (n : Node). n.strand) e in absurd (cc)

-- The one branch.
received_is : (j : ℕ) (t : Term) → j < 1 → term_event_at two_say_it.strands (node_at 1 j) ≡ Some (recv t) → t ≡ atom_term (text_variable 1)
received_is zero t l e = cc
received_is (suc j) t l e = absurd (omega arith)

inside : (g : Assignment) → g.texts 1 ≡ g.texts 0 → (x : Variable) → IsIn x (variables_of_skeleton two_say_it) → value_of (after g merging) (variable_term x) ≡ value_of g (variable_term x)
inside g e x here = refl
inside g e x (there here) = ap (λ (m : ℕ). atom (text m)) (sym e)
inside g e x (there (there here)) = refl
inside g e x (there (there (there here))) = refl
inside g e x (there (there (there (there p)))) = elim p [ ]

of_problem : (g : Assignment) → g.texts 1 ≡ g.texts 0 → (x : Variable) → IsIn x (variables_of_terms two_say_it.from_problem.values) → value_of (after g merging) (variable_term x) ≡ value_of g (variable_term x)
of_problem g e x here = refl
of_problem g e x (there here) = ap (λ (m : ℕ). atom (text m)) (sym e)
of_problem g e x (there (there p)) = elim p [ ]

pub branches : AreBranches two_say_it unique_text.value repeated (skeleton_under merging two_say_it ∷ [])
branches g h =
    let received : h.received ≡ atom_term (text_variable 1) = received_is h.index h.received h.earlier h.reception in
    let heard : atom_term h.heard ≡ atom_term (text_variable 1) = carried_by_atom (subst (IsCarriedByTerm (atom_term h.heard)) received h.carried) in
    let atoms : h.heard ≡ text_variable 1 = cc in
    let values : value_of_atom g (text_variable 1) ≡ value_of_atom g (text_variable 0) = ap (value_of_atom g) (sym atoms) ∙ h.equal in
    let same : g.texts 1 ≡ g.texts 0 = cc in
    (merging, record { inside = inside g same; of_problem = of_problem g same }, here)

pub origin_pair : IsOriginPair (skeleton_under merging two_say_it) from_speaker
origin_pair = record {
  entry = unique_text;
  listed = here;
  from_origin = refl;
  received = atom_term (text_variable 0);
  reception = refl;
  carried = itself_term;
}
