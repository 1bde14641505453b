-- The example's shape is its own generalisation: without the strand that sends, or without the pair from it to the listener, what
-- is heard could not be derived.
use Rattle.std.proofs.Common.{◌≡◌, ◌≢◌, ◌<◌, inl, ℕ, zero, suc, List, [], ◌∷◌, Some, refl, sym, ap, ◌∙◌, subst, ⊎_elim, arith}
use Rattle.cp_lists.specs.Lists.{item_at, IsIn, here, there}
use Rattle.cp_lists.proofs.Members.{not_in_none, in_cases}
use Rattle.cp_model.specs.Term.{AtomTerm, key_term, Term, atom_term}
use Rattle.cp_model.specs.declared.strand.Event.TheVariants.{Send as send, Receive as recv}
use Rattle.cp_model.specs.Bundle.{node_at}
use Rattle.cp_model.specs.declared.node.Node.{Node}
use Rattle.cp_model.specs.declared.node.OrderPair.{OrderPair}
use Rattle.cp_model.specs.Skeleton.{SkeletonStrand, listener, Assumptions, term_event_at, Before, Skeleton}
use Rattle.cp_model.specs.Derivable.{IsOnInstance, DerivableAt, a_tag, an_atom, paired, left_of, right_of, encrypted, decrypted}
use Rattle.cp_model.specs.Derivable as derivable
use Rattle.cp_model.specs.Order.{ReachesAlong, on_strand, over_pair}
use Rattle.cp_model.proofs.LawOrder.{before_leads}
use Rattle.cp_skel.specs.Deletion.{LeavesOut, all_left, is_gone, is_left, as_it_is}
use Rattle.cp_theory.specs.EncryptionExamples.{shared, locked, reception}
use Rattle.cp_theory.proofs.HeardEncryption.{no_instance, IsUnlocked}
use Rattle.cp_roots.specs.Roots.{in_report_order}
use Rattle.cp_cohort.specs.Example.{one_child}
use Rattle.cp_general.specs.Fit.{IsFit}
use Rattle.cp_general.specs.Steps.{Deletes, IsPairOfOrder, Weakens}
use Rattle.cp_general.specs.Generalisation.{IsMaximallyGeneral}

-- ---- what cannot be derived where nothing is sent before

module _ (k : Skeleton) (secret : IsIn (key_term shared) k.assumptions.non_originating) (none_before : (m : Node) → IsOnInstance k m → Before k m reception → ⊥) where
  stays_locked : {t : Term} → DerivableAt k reception t → IsUnlocked t
  stays_locked a_tag = tt
  stays_locked (an_atom {v = v} none) = λ e. none (inl (subst (λ (w : AtomTerm). IsIn w k.assumptions.non_originating) (sym e) secret))
  stays_locked (derivable.sent_before {m = m} on ev before) = absurd (none_before m on before)
  stays_locked (paired p q) = (stays_locked p, stays_locked q)
  stays_locked (left_of p) = (stays_locked p).0
  stays_locked (right_of p) = (stays_locked p).1
  stays_locked (encrypted {key = key} p q) = let other : atom_term (key_term key) ≢ atom_term (key_term shared) = (λ e. stays_locked q (let f : key_term key ≡ key_term shared = cc in f)) in (stays_locked p, λ e. other (ap (λ x. atom_term (key_term x)) e))
  stays_locked (decrypted p q) = (stays_locked p).0

  not_fit : term_event_at k.strands reception ≡ Some (recv locked) → IsFit k → ⊥
  not_fit at fit = (stays_locked (fit.realised reception locked at)).1 refl

-- ---- without a strand

abbrev sent : Skeleton
sent = in_report_order one_child.skeleton

-- What is not gone is left.
still_in : {gone : AtomTerm → Type 0} {v : AtomTerm} {xs ys : List AtomTerm} → (gone v → ⊥) → LeavesOut gone as_it_is xs ys → IsIn v xs → IsIn v ys
still_in stays all_left i = absurd (not_in_none i)
still_in {gone} stays (is_gone {x = x} is rest) i = ⊎_elim (λ e. absurd (stays (subst gone e is))) (λ j. still_in stays rest j) (in_cases i)
still_in {v = v} stays (is_left {x = x} {ys = ys} is rest) i = ⊎_elim (λ (e : x ≡ v). subst (λ (w : AtomTerm). IsIn w (x ∷ ys)) e here) (λ j. there (still_in stays rest j)) (in_cases i)

deletes_none : (d : ℕ) (h : Skeleton) → Deletes d sent h → IsFit h → ⊥
deletes_none zero h without fit = without.no_image here
deletes_none (suc zero) h without fit =
    let strands : h.strands ≡ listener locked ∷ [] = without.strands in
    not_fit h (still_in (λ forgotten. forgotten.not_own here) without.assumptions.non here)
    (λ m on before. no_instance m.strand on.role on.height on.terms (ap (λ (ss : List SkeletonStrand). item_at ss m.strand) (sym strands) ∙ on.on_instance))
    (ap (λ (ss : List SkeletonStrand). term_event_at ss reception) strands) fit
deletes_none (suc (suc d)) h without fit = let l : suc (suc d) < 2 = without.within in omega (arith, l)

-- ---- without a pair

abbrev pair : OrderPair
pair = record { earlier = node_at 1 0; later = reception }

hears : (s i : ℕ) (t : Term) → term_event_at sent.strands (node_at s i) ≡ Some (recv t) → node_at s i ≡ reception
hears zero zero t at = refl
hears zero (suc zero) t at = absurd (cc)
hears zero (suc (suc i)) t at = absurd (cc)
hears (suc zero) zero t at = absurd (cc)
hears (suc zero) (suc i) t at = absurd (cc)
hears (suc (suc s)) i t at = absurd (cc)

sends : (s i : ℕ) (t : Term) → term_event_at sent.strands (node_at s i) ≡ Some (send t) → s ≢ 0 → node_at s i ≡ node_at 1 0
sends zero i t at ne = absurd (ne refl)
sends (suc zero) zero t at ne = refl
sends (suc zero) (suc i) t at ne = absurd (cc)
sends (suc (suc s)) i t at ne = absurd (cc)

only_pair : (p : OrderPair) → IsPairOfOrder sent p → p ≡ pair
only_pair p is =
    let later : p.later ≡ reception = hears p.later.strand p.later.index is.pair.received is.pair.reception in
    let other : p.earlier.strand ≢ 0 = (λ e. is.pair.between_strands (e ∙ ap (λ (n : Node). n.strand) (sym later))) in
    let earlier : p.earlier ≡ node_at 1 0 = sends p.earlier.strand p.earlier.index is.pair.sent is.pair.transmission other in
    ap (λ (n : Node). record { earlier = n; later = p.later }) earlier ∙ ap (λ (n : Node). record { earlier = node_at 1 0; later = n }) later

-- Without pairs the order keeps to strands.
keeps_strand : {pairs : List OrderPair} → ((q : OrderPair) → IsIn q pairs → ⊥) → {x y : Node} → ReachesAlong pairs x y → x.strand ≡ y.strand
keeps_strand none (on_strand after) = after.0
keeps_strand none (over_pair {p = p} listed before leads) = absurd (none p listed)

drops_none : (p : OrderPair) (h : Skeleton) → Weakens p sent h → IsFit h → ⊥
drops_none p h without fit =
    let strands : h.strands ≡ sent.strands = ap (λ (k : Skeleton). k.strands) without.same in
    let assumptions : h.assumptions ≡ sent.assumptions = ap (λ (k : Skeleton). k.assumptions) without.same in
    let no_pair : (q : OrderPair) → IsIn q h.pairs → ⊥ = (λ q i. let r = (without.pairs q).0 i in r.1 (only_pair q r.0 ∙ sym (only_pair p without.covering.of_order))) in
    let secret : IsIn (key_term shared) h.assumptions.non_originating = subst (λ (a : Assumptions). IsIn (key_term shared) a.non_originating) (sym assumptions) here in
    let on_listener : (m : Node) → IsOnInstance h m → Before h m reception → ⊥ = (λ m on before.
    let first : m.strand ≡ 0 = keeps_strand no_pair (before_leads h m reception before) in
    let at : item_at sent.strands 0 ≡ Some _ = ap (item_at sent.strands) (sym first) ∙ (ap (λ (ss : List SkeletonStrand). item_at ss m.strand) (sym strands) ∙ on.on_instance) in
    cc) in
    not_fit h secret on_listener (ap (λ (ss : List SkeletonStrand). term_event_at ss reception) strands) fit

pub sent_is_most_general : IsMaximallyGeneral sent
sent_is_most_general = record { deletes_none = deletes_none; drops_none = drops_none }
