-- The normal form of a skeleton in which a unique text is misplaced.
use Rattle.std.proofs.Common.{◌≡◌, ◌≢◌, ◌⊎◌, inl, inr, ◌<◌, ◌+◌, ◌*◌, ℕ, zero, suc, List, [], ◌∷◌, Some, refl, sym, ap, ◌∙◌, subst, arith}
use Rattle.cp_lists.specs.Lists.{IsIn, here, there, one_step, more_steps}
use Rattle.cp_model.specs.Message.{atom}
use Rattle.cp_model.specs.Term.{text_variable, Term, atom_term, itself_term, Assignment, value_of}
use Rattle.cp_model.specs.declared.strand.Event.TheVariants.{Send as send, Receive as recv}
use Rattle.cp_model.specs.Bundle.{node_at}
use Rattle.cp_model.specs.declared.node.Node.{Node}
use Rattle.cp_model.specs.Skeleton.{term_event_at, UniqueAt, Skeleton, OrderStep, along_strand_of, along_pair, Before}
use Rattle.cp_model.specs.declared.node.OrderPair.{OrderPair}
use Rattle.cp_model.specs.Realisation.{OriginatesAtTerm}
use Rattle.cp_theory.specs.Normal.{terms_under, skeleton_under, with_pairs}
use Rattle.cp_theory.specs.RepeatedText.{speaker, unique_text, two_say_it, repeated, from_speaker}
use Rattle.cp_theory.proofs.Spoken.{originates, elsewhere}
use Rattle.cp_model.specs.declared.sort.Sort.TheVariants.{Text as text_sort}
use Rattle.cp_unify.specs.Bindings.{Binding}
use Rattle.cp_unify.proofs.Substituted.{after_met}
use Rattle.cp_normal.specs.Findings.{IsAddedPair, AreNormalPairs, IsContradictory}
use Rattle.cp_normal.specs.NormalForms.{IsMisplaced, IsNarrowed, one, none, IsNormalFormOf}
use Rattle.cp_collapse.specs.Directed.{IsMostGeneralFor}
use Rattle.cp_normal.specs.Branches.{IsSettled}
use Rattle.cp_normal.specs.Example.{heard_is_said, repeated_after_speaker}
use Rattle.cp_collapse.proofs.SameFacts.{says_itself}
use Rattle.cp_normal.proofs.Forms.{normal_form}
use Rattle.cp_collapse.proofs.AtomUnifiers.{directed}

abbrev narrowed : Skeleton
narrowed = skeleton_under heard_is_said two_say_it

pub misplaced : IsMisplaced two_say_it unique_text repeated
misplaced = record { listed = here; originates = originates; elsewhere = elsewhere }

abbrev binding : Binding
binding = record { variable = record { sort = text_sort; number = 1 }; term = atom_term (text_variable 0) }

pub most_general : IsMostGeneralFor unique_text.value (text_variable 1) heard_is_said
most_general = record {
  unifies = refl;
  general = λ g e t. ap (λ (h : Assignment). value_of h t) (after_met g (binding ∷ []) (ap atom (sym e), tt));
  directed = directed (binding ∷ []) (λ g. (refl, tt)) (omega arith, tt);
}

is_narrowed : IsNarrowed two_say_it narrowed
is_narrowed = record {
  entry = unique_text;
  node = repeated;
  heard = text_variable 1;
  unifier = heard_is_said;
  misplaced = misplaced;
  heard_before = record { index = 0; earlier = omega arith; received = atom_term (text_variable 1); reception = refl; carried = itself_term };
  most_general = most_general;
  same = says_itself narrowed;
}

-- What stands at the nodes.
received_at : (s i : ℕ) (t : Term) → term_event_at narrowed.strands (node_at s i) ≡ Some (recv t) → (s ≡ 1) × (i ≡ 0)
received_at zero zero t e = absurd (cc)
received_at zero (suc i) t e = absurd (cc)
received_at (suc zero) zero t e = (refl, refl)
received_at (suc zero) (suc zero) t e = absurd (cc)
received_at (suc zero) (suc (suc i)) t e = absurd (cc)
received_at (suc (suc s)) i t e = absurd (cc)

sent_at : (s i : ℕ) (t : Term) → term_event_at narrowed.strands (node_at s i) ≡ Some (send t) → ((s ≡ 0) × (i ≡ 0)) ⊎ ((s ≡ 1) × (i ≡ 1))
sent_at zero zero t e = inl (refl, refl)
sent_at zero (suc i) t e = absurd (cc)
sent_at (suc zero) zero t e = absurd (cc)
sent_at (suc zero) (suc zero) t e = inr (refl, refl)
sent_at (suc zero) (suc (suc i)) t e = absurd (cc)
sent_at (suc (suc s)) i t e = absurd (cc)

only_unique : (u : UniqueAt) → IsIn u narrowed.assumptions.uniquely_originating → u ≡ unique_text
only_unique u here = refl
only_unique u (there i) = elim i [ ]

-- The one pair that is added.
only_added : (p : OrderPair) → IsAddedPair narrowed p → p ≡ from_speaker
only_added p a =
    let at = received_at p.later.strand p.later.index a.0.received a.0.reception in
    let from : p.earlier ≡ node_at 0 0 = a.0.from_origin ∙ ap (λ (u : UniqueAt). u.origin) (only_unique a.0.entry a.0.listed) in
    let to : p.later ≡ node_at 1 0 = λ x. record { strand = at.0 x; index = at.1 x } in
    λ x. record { earlier = from x; later = to x }

own_or_added : (p : OrderPair) → IsIn p [] ⊎ IsAddedPair narrowed p → IsIn p (from_speaker ∷ [])
own_or_added p (inl i) = elim i [ ]
own_or_added p (inr a) = subst (λ (q : OrderPair). IsIn q (from_speaker ∷ [])) (sym (only_added p a)) here

added : (p : OrderPair) → IsIn p (from_speaker ∷ []) → IsIn p [] ⊎ IsAddedPair narrowed p
added p here = inr (record { entry = unique_text; listed = here; from_origin = refl; received = atom_term (text_variable 0); reception = refl; carried = itself_term }, λ e. omega (arith, e))
added p (there i) = elim i [ ]

pairs_normal : AreNormalPairs narrowed (from_speaker ∷ [])
pairs_normal p = (added p, own_or_added p)

-- The order rises.
abbrev rank : Node → ℕ
rank n = 10 * n.strand + n.index

module _ (pairs : List OrderPair) (normal : AreNormalPairs narrowed pairs) where
  pair_rises : (p : OrderPair) → p ≡ from_speaker → rank p.earlier < rank p.later
  pair_rises p e = subst (λ (q : OrderPair). rank q.earlier < rank q.later) (sym e) (omega arith)

  of_own : (p : OrderPair) → IsIn p [] ⊎ IsAddedPair narrowed p → rank p.earlier < rank p.later
  of_own p (inl i) = elim i [ ]
  of_own p (inr a) = pair_rises p (only_added p a)

  step_rises : {x y : Node} → OrderStep (with_pairs narrowed pairs) x y → rank x < rank y
  step_rises (along_strand_of ev) = omega arith
  step_rises (along_pair {p = p} i) = of_own p ((normal p).0 i)

  rises : {x y : Node} → Before (with_pairs narrowed pairs) x y → rank x < rank y
  rises (one_step s) = step_rises s
  rises (more_steps s b) = let l = step_rises s in let m = rises b in omega (arith, l, m)

at_origin : OriginatesAtTerm narrowed (text_variable 0) (node_at 0 0)
at_origin = (
  record { role = speaker; height = 1; terms = terms_under heard_is_said speaker 1 []; on_instance = refl },
  record { sent = atom_term (text_variable 0); transmission = refl; carried = itself_term; first = λ j e l at c. omega (arith, l) },
)

consistent : IsContradictory narrowed → ⊥
consistent (inl c) = elim c.listed [ ]
consistent (inr (inl t)) = t.elsewhere (ap (λ (u : UniqueAt). u.origin) (only_unique t.first t.first_listed ∙ sym (only_unique t.second t.second_listed)))
consistent (inr (inr (inl l))) = l.lost (subst (λ (u : UniqueAt). OriginatesAtTerm narrowed u.value u.origin) (sym (only_unique l.entry l.listed)) at_origin)
consistent (inr (inr (inr c))) = let l = rises c.pairs c.normal c.cycle in omega (arith, l)

-- The text originates at the speaker alone, since the repeater heard it.
settled_at : (x : Node) → OriginatesAtTerm narrowed (text_variable 0) x → x ≢ node_at 0 0 → ((x.strand ≡ 0) × (x.index ≡ 0)) ⊎ ((x.strand ≡ 1) × (x.index ≡ 1)) → ⊥
settled_at x o ne (inl p) = ne (λ y. record { strand = p.0 y; index = p.1 y })
settled_at x o ne (inr p) =
    let at : term_event_at narrowed.strands (node_at x.strand 0) ≡ Some (recv (atom_term (text_variable 0))) =
    subst (λ (s : ℕ). term_event_at narrowed.strands (node_at s 0) ≡ Some (recv (atom_term (text_variable 0)))) (sym p.0) refl in
    o.1.first 0 (recv (atom_term (text_variable 0))) (omega (arith, p.1)) at itself_term

settled : IsSettled narrowed
settled u x s =
    let e : u ≡ unique_text = only_unique u s.listed in
    let o : OriginatesAtTerm narrowed (text_variable 0) x = subst (λ (w : UniqueAt). OriginatesAtTerm narrowed w.value x) e s.originates in
    settled_at x o (λ q. s.elsewhere (q ∙ sym (ap (λ (w : UniqueAt). w.origin) e))) (sent_at x.strand x.index o.1.sent o.1.transmission)

pub form : IsNormalFormOf two_say_it repeated_after_speaker
form = normal_form two_say_it narrowed (from_speaker ∷ []) (one is_narrowed none) (pairs_normal, consistent) settled
