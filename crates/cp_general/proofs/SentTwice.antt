-- The example: a strand is deleted, and a pair is dropped.
use Rattle.std.proofs.Common.{◌≡◌, ◌≢◌, ◌<◌, ◌+◌, ℕ, zero, suc, List, [], ◌∷◌, Some, refl, sym, ap, ◌∙◌, subst, ⊎_elim, le_refl, arith}
use Rattle.cp_lists.specs.Lists.{item_at, IsIn, here, there, one_step, more_steps}
use Rattle.cp_lists.proofs.Members.{not_in_none, of_each}
use Rattle.cp_model.specs.Term.{Term}
use Rattle.cp_model.specs.Bindings.{Binding}
use Rattle.cp_model.specs.Strand.{Role, IsHeight}
use Rattle.cp_model.specs.declared.strand.Event.TheVariants.{Send as send, Receive as recv}
use Rattle.cp_model.specs.Bundle.{node_at}
use Rattle.cp_model.specs.declared.node.Node.{Node}
use Rattle.cp_model.specs.declared.node.OrderPair.{OrderPair}
use Rattle.cp_model.specs.Skeleton.{SkeletonStrand, instance, term_event_at, OrderStep, along_strand_of, along_pair, Before, IsOrderPair, GivesAssumptions, IsSkeleton, Skeleton}
use Rattle.cp_model.specs.Derivable.{DerivableAt, an_atom}
use Rattle.cp_model.specs.Realisation.{AllDerivable}
use Rattle.cp_model.proofs.StrandParts.{same_instance}
use Rattle.cp_theory.specs.Normal.{with_pairs}
use Rattle.cp_skel.specs.Deletion.{renumbered, node_renumbered, all_left}
use Rattle.cp_derive.specs.Unrealised.{IsListedBefore}
use Rattle.cp_normal.specs.Findings.{ClosesCycle}
use Rattle.cp_normal.specs.NormalForms.{IsNormal}
use Rattle.cp_general.specs.Fit.{IsFit}
use Rattle.cp_general.specs.Steps.{Deletes, IsPairOfOrder, IsCoveringPair, Weakens, IsLowerPair}
use Rattle.cp_general.specs.Generalisation.{DeletesNone, IsMaximallyGeneral, StepsTo, deletes, drops, GeneralisesTo, last_step, next_step}
use Rattle.cp_general.specs.Example.{text, sender, protocol, sending, sent_by, heard_with, sent_twice, sent_once, heard_and_sent}

-- ---- orders that fall

-- The number of the strand, less the index, falls from x to y.
abbrev Falls : Node → Node → Type 0
Falls x y = y.strand + x.index < x.strand + y.index

module _ (k : Skeleton) (each : (p : OrderPair) → IsIn p k.pairs → Falls p.earlier p.later) where
  step_falls : {x y : Node} → OrderStep k x y → Falls x y
  step_falls (along_strand_of {s = s} {i = i} ev) = omega arith
  step_falls (along_pair {p = p} i) = each p i

  falls : {x y : Node} → Before k x y → Falls x y
  falls (one_step s) = step_falls s
  falls (more_steps {x = x} {y = y} {z = z} s rest) = let a : Falls x y = step_falls s in let b : Falls y z = falls rest in omega (arith, a, b)

  acyclic : (n : Node) → Before k n n → ⊥
  acyclic n w = let f : Falls n n = falls w in omega (arith, f)

falls_once : (p : OrderPair) → IsIn p (sent_by 1 ∷ []) → Falls p.earlier p.later
falls_once p i = of_each (λ (q : OrderPair). Falls q.earlier q.later) (omega arith) (λ j. absurd (not_in_none j)) i

falls_twice : (p : OrderPair) → IsIn p (sent_by 1 ∷ sent_by 2 ∷ []) → Falls p.earlier p.later
falls_twice p i = of_each (λ (q : OrderPair). Falls q.earlier q.later) (omega arith) (λ j. of_each (λ (q : OrderPair). Falls q.earlier q.later) (omega arith) (λ j. absurd (not_in_none j)) j) i

-- ---- skeletons without assumptions

module _ (others : List SkeletonStrand) (pairs : List OrderPair) (each : (p : OrderPair) → IsIn p pairs → Falls p.earlier p.later) where
  abbrev here_with : Skeleton
  here_with = heard_with others pairs

  no_cycle_closed : ClosesCycle here_with → ⊥
  no_cycle_closed c =
      let own : (p : OrderPair) → IsIn p c.pairs → Falls p.earlier p.later = (λ p i. ⊎_elim (λ j. each p j) (λ a. absurd (not_in_none a.0.listed)) ((c.normal p).0 i)) in
      acyclic (with_pairs here_with c.pairs) own c.node c.cycle

  is_normal : IsNormal here_with
  is_normal = record {
    consistent = λ c. ⊎_elim (λ a. not_in_none a.listed) (λ r. ⊎_elim (λ a. not_in_none a.first_listed) (λ q. ⊎_elim (λ a. not_in_none a.listed) no_cycle_closed q) r) c;
    no_misplaced = λ u x s. not_in_none s.listed;
    ordered = λ p a. absurd (not_in_none a.0.listed);
  }

text_derivable : (others : List SkeletonStrand) (pairs : List OrderPair) (n : Node) → DerivableAt (heard_with others pairs) n text
text_derivable others pairs n = an_atom (λ secret. ⊎_elim not_in_none (λ r. ⊎_elim not_in_none (λ u. not_in_none u.listed) r) secret)

hears_text : (s i : ℕ) (t : Term) → term_event_at sent_once.strands (node_at s i) ≡ Some (recv t) → (node_at s i ≡ node_at 0 0) × (text ≡ t)
hears_text zero zero t e = let q : text ≡ t = cc in (refl, q)
hears_text zero (suc zero) t e = absurd (cc)
hears_text zero (suc (suc i)) t e = absurd (cc)
hears_text (suc zero) zero t e = absurd (cc)
hears_text (suc zero) (suc i) t e = absurd (cc)
hears_text (suc (suc s)) i t e = absurd (cc)

all_derivable : (pairs : List OrderPair) → AllDerivable (heard_with [] pairs)
all_derivable pairs n t e = subst (DerivableAt (heard_with [] pairs) n) (hears_text n.strand n.index t e).1 (text_derivable [] pairs n)

fit : (pairs : List OrderPair) → ((p : OrderPair) → IsIn p pairs → Falls p.earlier p.later) → IsFit (heard_with [] pairs)
fit pairs each = record { normal = is_normal [] pairs each; realised = all_derivable pairs }

-- ---- the skeleton

-- What the problem's strand sends may be before what is heard.
of_problem : (others : List SkeletonStrand) (pairs : List OrderPair) → IsOrderPair (heard_with others pairs) (sent_by 1)
of_problem others pairs = record { sent = text; received = text; transmission = refl; reception = refl; between_strands = λ e. absurd (omega arith) }

module _ (P : ℕ → Role → ℕ → List Binding → Type 0) (first : P 1 sender 1 []) (second : P 2 sender 1 []) where
  each_instance : (s : ℕ) (role : Role) (height : ℕ) (terms : List Binding) → item_at sent_twice.strands s ≡ Some (instance role height terms) → P s role height terms
  each_instance zero role height terms e = absurd (cc)
  each_instance (suc zero) role height terms e = same_instance (P 1) e first
  each_instance (suc (suc zero)) role height terms e = same_instance (P 2) e second
  each_instance (suc (suc (suc s))) role height terms e = absurd (cc)

gives : (s : ℕ) → GivesAssumptions sent_twice s sender 1 []
gives s = record { non = λ v i a. absurd (not_in_none i); penetrator_non = λ v i a. absurd (not_in_none i); unique = λ v n i a. absurd (not_in_none i) }

pub is_skeleton : IsSkeleton protocol sent_twice
is_skeleton = record {
  of_role = each_instance (λ s role height terms. IsIn role protocol.roles) here here;
  heights = each_instance (λ s role height terms. IsHeight role height) (le_refl 1, le_refl 1) (le_refl 1, le_refl 1);
  order_pairs = λ p i. of_each (IsOrderPair sent_twice) (of_problem (sending ∷ []) (sent_by 1 ∷ sent_by 2 ∷ []))
      (λ j. of_each (IsOrderPair sent_twice) (record { sent = text; received = text; transmission = refl; reception = refl; between_strands = λ e. absurd (omega arith) }) (λ l. absurd (not_in_none l)) j) i;
  no_cycle = acyclic sent_twice falls_twice;
  origins = λ u i. absurd (not_in_none i);
  given = each_instance (λ s role height terms. GivesAssumptions sent_twice s role height terms) (gives 1) (gives 2);
}

-- ---- the other strand is deleted

-- A step from a node of another strand is one where the strand is gone, and leads to a node of another strand.
abbrev Without : Node → Node → Type 0
Without x y = x.strand ≢ 2 → OrderStep sent_once (node_renumbered 2 x) (node_renumbered 2 y) × (y.strand ≢ 2)

step_without : {x y : Node} → OrderStep sent_twice x y → Without x y
step_without (along_strand_of {s = zero} {i = i} {e = e} ev) ne = (along_strand_of {s = zero} {i = i} {e = e} ev, ne)
step_without (along_strand_of {s = suc zero} {i = i} {e = e} ev) ne = (along_strand_of {s = suc zero} {i = i} {e = e} ev, ne)
step_without (along_strand_of {s = suc (suc zero)} ev) ne = absurd (ne refl)
step_without (along_strand_of {s = suc (suc (suc s))} ev) ne = absurd (cc)
step_without (along_pair i) ne = of_each (λ (p : OrderPair). Without p.earlier p.later)
    (λ ne. (along_pair here, λ e. absurd (omega arith)))
    (λ j. of_each (λ (p : OrderPair). Without p.earlier p.later) (λ ne. absurd (ne refl)) (λ l. absurd (not_in_none l)) j) i ne

still_before : {x y : Node} → Before sent_twice x y → x.strand ≢ 2 → Before sent_once (node_renumbered 2 x) (node_renumbered 2 y)
still_before (one_step s) ne = one_step (step_without s ne).0
still_before (more_steps s rest) ne = let w = step_without s ne in more_steps w.0 (still_before rest w.1)

-- Where the strand is gone each step is one where it is there.
abbrev Within : Node → Node → Type 0
Within x y = OrderStep sent_twice x y × ((x.strand < 2) × (y.strand < 2))

step_within : {x y : Node} → OrderStep sent_once x y → Within x y
step_within (along_strand_of {s = zero} {i = i} {e = e} ev) = (along_strand_of {s = zero} {i = i} {e = e} ev, (omega arith, omega arith))
step_within (along_strand_of {s = suc zero} {i = i} {e = e} ev) = (along_strand_of {s = suc zero} {i = i} {e = e} ev, (omega arith, omega arith))
step_within (along_strand_of {s = suc (suc s)} ev) = absurd (cc)
step_within (along_pair i) = of_each (λ (p : OrderPair). Within p.earlier p.later) (along_pair here, (omega arith, omega arith)) (λ j. absurd (not_in_none j)) i

was_before : {x y : Node} → Before sent_once x y → Before sent_twice x y × ((x.strand < 2) × (y.strand < 2))
was_before (one_step s) = let w = step_within s in (one_step w.0, w.1)
was_before (more_steps s rest) = let w = step_within s in let r = was_before rest in (more_steps w.0 r.0, (w.1.0, r.1.1))

same_number : (s : ℕ) → s ≢ 2 → renumbered 2 s < 2 → renumbered 2 s ≡ s
same_number zero ne l = refl
same_number (suc zero) ne l = refl
same_number (suc (suc zero)) ne l = absurd (ne refl)
same_number (suc (suc (suc s))) ne l = absurd (omega (arith, l))

same_node : (n : Node) → n.strand ≢ 2 → renumbered 2 n.strand < 2 → node_renumbered 2 n ≡ n
same_node n ne l = ap (λ (s : ℕ). node_at s n.index) (same_number n.strand ne l)

before_with : (x y : Node) → x.strand ≢ 2 → y.strand ≢ 2 → Before sent_once (node_renumbered 2 x) (node_renumbered 2 y) → Before sent_twice x y
before_with x y nx ny before =
    let w = was_before before in
    subst (λ (n : Node). Before sent_twice n y) (same_node x nx w.1.0) (subst (Before sent_twice (node_renumbered 2 x)) (same_node y ny w.1.1) w.0)

images : (n : ℕ) → n < 2 → IsIn n sent_twice.from_problem.strands
images zero l = here
images (suc zero) l = there here
images (suc (suc n)) l = absurd (omega (arith, l))

deleted : Deletes 2 sent_twice sent_once
deleted = record {
  within = omega arith;
  no_image = λ i. of_each (λ (n : ℕ). n ≡ 2 → ⊥) (λ e. absurd (omega arith)) (λ j. of_each (λ (n : ℕ). n ≡ 2 → ⊥) (λ e. absurd (omega arith)) (λ l. absurd (not_in_none l)) j) i refl;
  variables = refl;
  strands = refl;
  pairs = λ p i. of_each (IsOrderPair sent_once) (of_problem [] (sent_by 1 ∷ [])) (λ j. absurd (not_in_none j)) i;
  order = λ x y nx ny. (before_with x y nx ny, λ before. still_before before nx);
  assumptions = record { non = all_left; penetrator_non = all_left; unique = all_left };
  from_problem = record { strands = refl; values = refl; non = refl; penetrator_non = refl; unique = all_left; pairs = all_left };
}

step_deletes : StepsTo sent_twice sent_once
step_deletes = deletes deleted (fit (sent_by 1 ∷ []) falls_once) (λ e g l without h. let w : e < 3 = without.within in omega (arith, l, w))

-- ---- the pair is dropped

-- Both strands that are left are of the problem.
deletes_none : (pairs : List OrderPair) → DeletesNone (heard_with [] pairs)
deletes_none pairs d h without f = without.no_image (images d without.within)

sends : (s i : ℕ) (t : Term) → term_event_at sent_once.strands (node_at s i) ≡ Some (send t) → s ≢ 0 → node_at s i ≡ node_at 1 0
sends zero i t e ne = absurd (ne refl)
sends (suc zero) zero t e ne = refl
sends (suc zero) (suc i) t e ne = absurd (cc)
sends (suc (suc s)) i t e ne = absurd (cc)

only_pair : (p : OrderPair) → IsPairOfOrder sent_once p → p ≡ sent_by 1
only_pair p is =
    let later : p.later ≡ node_at 0 0 = (hears_text p.later.strand p.later.index is.pair.received is.pair.reception).0 in
    let other : p.earlier.strand ≢ 0 = (λ e. is.pair.between_strands (e ∙ ap (λ (n : Node). n.strand) (sym later))) in
    let earlier : p.earlier ≡ node_at 1 0 = sends p.earlier.strand p.earlier.index is.pair.sent is.pair.transmission other in
    ap (λ (n : Node). record { earlier = n; later = p.later }) earlier ∙ ap (λ (n : Node). record { earlier = node_at 1 0; later = n }) later

none_between : (n : Node) → Before sent_once (node_at 1 0) n → Before sent_once n (node_at 0 0) → ⊥
none_between n a b =
    let f : Falls (node_at 1 0) n = falls sent_once falls_once a in
    let g : Falls n (node_at 0 0) = falls sent_once falls_once b in
    omega (arith, f, g)

covering : IsCoveringPair sent_once (sent_by 1)
covering = record {
  of_order = record {
    pair = of_problem [] (sent_by 1 ∷ []);
    ordered = one_step (along_pair here);
  };
  none_between = none_between;
}

dropped : Weakens (sent_by 1) sent_once heard_and_sent
dropped = record {
  covering = covering;
  not_own = not_in_none;
  not_added = λ a. not_in_none a.0.listed;
  same = refl;
  pairs = λ q. (λ i. absurd (not_in_none i), λ w. absurd (w.1 (only_pair q w.0)));
  stated = λ q i. absurd (not_in_none i);
}

not_before_itself : (n : Node) → IsListedBefore n n → ⊥
not_before_itself n l = ⊎_elim (λ (a : n.strand < n.strand). omega (arith, a)) (λ w. let a : n.index < n.index = w.1 in omega (arith, a)) l

not_lower : (p : OrderPair) → IsLowerPair p p → ⊥
not_lower p l = ⊎_elim (not_before_itself p.earlier) (λ w. not_before_itself p.later w.1) l

step_drops : StepsTo sent_once heard_and_sent
step_drops = drops (deletes_none (sent_by 1 ∷ [])) dropped (fit [] (λ p i. absurd (not_in_none i)))
    (λ q g lower without h. not_lower (sent_by 1) (subst (λ (p : OrderPair). IsLowerPair p (sent_by 1)) (only_pair q without.covering.of_order) lower))

-- ---- no step is left

step_keeps : {x y : Node} → OrderStep heard_and_sent x y → x.strand ≡ y.strand
step_keeps (along_strand_of ev) = refl
step_keeps (along_pair i) = absurd (not_in_none i)

keeps_strand : {x y : Node} → Before heard_and_sent x y → x.strand ≡ y.strand
keeps_strand (one_step s) = step_keeps s
keeps_strand (more_steps s rest) = step_keeps s ∙ keeps_strand rest

most_general : IsMaximallyGeneral heard_and_sent
most_general = record {
  deletes_none = deletes_none [];
  drops_none = λ p h without f. without.covering.of_order.pair.between_strands (keeps_strand without.covering.of_order.ordered);
}

pub generalises : GeneralisesTo sent_twice heard_and_sent
generalises = next_step step_deletes (last_step step_drops most_general)
