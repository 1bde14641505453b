-- The node that is chosen of the unrealised receptions is the one at which a skeleton is tested.
use Rattle.std.proofs.Common.{◌≡◌, ◌⊎◌, inl, inr, ⊎_elim, ◌<◌, List, [], ◌∷◌, Bool, true, false, Option, Some, None, IsNone, IfSome, Result, Ok, Err, IfOk, refl, sym, ap, subst, ◌∙◌, arith}
use Rattle.std.proofs.lemmas.Result.{IfOk-weaker}
use Rattle.std.specs.Prelude.{◌↔◌}
use Rattle.cp_lists.specs.Lists.{item_at, IsIn, here, there}
use Rattle.cp_model.specs.declared.node.Node.{Node}
use Rattle.cp_model.specs.Term.{Term}
use Rattle.cp_model.specs.Skeleton.{SkeletonStrand, instance, listener, term_event_at, Skeleton}
use Rattle.cp_model.specs.declared.strand.Event.TheVariants.{Receive as recv}
use Rattle.cp_model.specs.Derivable.{DerivableAt}
use Rattle.cp_model.specs.declared.step.Step.{Step}
use Rattle.cp_derive.specs.AtTest.{SkeletonTest}
use Rattle.cp_derive.specs.Components.{IsFirstUnderivable}
use Rattle.cp_derive.specs.Unrealised.{IsUnrealisedAt, IsRealisedAt, IsListedBefore, AreRising, ListsUnrealised}
use Rattle.cp_expansion.specs.ChosenNode.{is_listening, listens_at, last_listening, first_node, chosen}
use Rattle.cp_expansion.specs.ChosenTest.{IsOnListener, IsTestedAt, last_listener, first_reception, IsTestOf}

-- ---- listeners

listening_strand : (o : Option SkeletonStrand) → is_listening o ≡ true → (t : Term) × (o ≡ Some (listener t))
listening_strand None e = absurd (cc)
listening_strand (Some (listener t)) e = (t, refl)
listening_strand (Some (instance role height terms)) e = absurd (cc)

on_listener : (k : Skeleton) (n : Node) → listens_at k n ≡ true → IsOnListener k n
on_listener k n e = let found = listening_strand (item_at k.strands n.strand) e in record { term = found.0; on_listener = found.1 }

listens : (k : Skeleton) (n : Node) → IsOnListener k n → listens_at k n ≡ true
listens k n h = ap is_listening h.on_listener

-- ---- order

not_below_itself : (n m : Node) → n ≡ m → IsListedBefore n m → ⊥
not_below_itself n m e (inl h) = absurd (omega (arith, ap (λ (x : Node). x.strand) e, h))
not_below_itself n m e (inr h) = absurd (omega (arith, ap (λ (x : Node). x.index) e, h.1))

not_both_ways : (n m : Node) → IsListedBefore n m → IsListedBefore m n → ⊥
not_both_ways n m (inl h) (inl g) = absurd (omega (arith, h, g))
not_both_ways n m (inl h) (inr g) = absurd (omega (arith, h, g.0))
not_both_ways n m (inr h) (inl g) = absurd (omega (arith, h.0, g))
not_both_ways n m (inr h) (inr g) = absurd (omega (arith, h.1, g.1))

not_higher : (n m : Node) → (m ≡ n) ⊎ IsListedBefore m n → n.strand < m.strand → ⊥
not_higher n m (inl e) h = absurd (omega (arith, ap (λ (x : Node). x.strand) e, h))
not_higher n m (inr (inl g)) h = absurd (omega (arith, g, h))
not_higher n m (inr (inr g)) h = absurd (omega (arith, g.0, h))

-- ---- the last listener

-- The node is a listener's, and all others are before it.
record IsLast (k : Skeleton) (ns : List Node) (n : Node) : Type 0 where
  listed : IsIn n ns
  listening : listens_at k n ≡ true
  others : (m : Node) → IsIn m ns → listens_at k m ≡ true → (m ≡ n) ⊎ IsListedBefore m n

-- No listener is there.
abbrev NoneListens : Skeleton → List Node → Type 0
NoneListens k ns = (m : Node) → IsIn m ns → listens_at k m ≡ false

of_front : (k : Skeleton) (x : Node) (xs : List Node) (n : Node) → ((m : Node) → IsIn m xs → IsListedBefore x m) → IsLast k xs n → (m : Node) → IsIn m (x ∷ xs) → listens_at k m ≡ true → (m ≡ n) ⊎ IsListedBefore m n
of_front k x xs n before l m here e = inr (before n l.listed)
of_front k x xs n before l m (there h) e = l.others m h e

further : (k : Skeleton) (x : Node) (xs : List Node) (n : Node) → ((m : Node) → IsIn m xs → IsListedBefore x m) → IsLast k xs n → IsLast k (x ∷ xs) n
further k x xs n before l = record { listed = there l.listed; listening = l.listening; others = of_front k x xs n before l }

only_front : (k : Skeleton) (x : Node) (xs : List Node) → NoneListens k xs → (m : Node) → IsIn m (x ∷ xs) → listens_at k m ≡ true → (m ≡ x) ⊎ IsListedBefore m x
only_front k x xs none m here e = inl refl
only_front k x xs none m (there h) e = absurd (cc (none m h, e))

at_front : (k : Skeleton) (x : Node) (xs : List Node) → listens_at k x ≡ true → NoneListens k xs → IsLast k (x ∷ xs) x
at_front k x xs e none = record { listed = here; listening = e; others = only_front k x xs none }

none_more : (k : Skeleton) (x : Node) (xs : List Node) → listens_at k x ≡ false → NoneListens k xs → NoneListens k (x ∷ xs)
none_more k x xs e none m here = e
none_more k x xs e none m (there h) = none m h

none_there : (k : Skeleton) → NoneListens k []
none_there k m h = elim h [ ]

abbrev Found : Skeleton → Option Node → List Node → Node → Type 0
Found k o ns n = IsLast k ns n ⊎ ((o ≡ Some n) × NoneListens k ns)

last_by : (k : Skeleton) (o : Option Node) (x : Node) (xs : List Node) (n : Node) (b : Bool) → listens_at k x ≡ b → ((m : Node) → IsIn m xs → IsListedBefore x m) → ((p : Option Node) → last_listening k p xs ≡ Some n → Found k p xs n)
    → last_listening k o (x ∷ xs) ≡ Some n → Found k o (x ∷ xs) n
last_by k o x xs n true b before hyp e =
    let same : last_listening k o (x ∷ xs) ≡ last_listening k (Some x) xs = rw b refl in
    ⊎_elim (λ l. inl (further k x xs n before l)) (λ r. let x_is : x ≡ n = cc (r.0) in inl (subst (λ y. IsLast k (x ∷ xs) y) x_is (at_front k x xs b r.1))) (hyp (Some x) (sym same ∙ e))
last_by k o x xs n false b before hyp e =
    let same : last_listening k o (x ∷ xs) ≡ last_listening k o xs = rw b refl in
    ⊎_elim (λ l. inl (further k x xs n before l)) (λ r. inr (r.0, none_more k x xs b r.1)) (hyp o (sym same ∙ e))

last_of : (k : Skeleton) (o : Option Node) (ns : List Node) (n : Node) → AreRising ns → last_listening k o ns ≡ Some n → Found k o ns n
last_of k o [] n rising e = inr (e, none_there k)
last_of k o (x ∷ xs) n rising e = last_by k o x xs n (listens_at k x) refl rising.0 (λ p f. last_of k p xs n rising.1 f) e

-- ---- the node that is chosen

tested_by_last : (k : Skeleton) (ns : List Node) (n : Node) → ListsUnrealised k ns → IsLast k ns n → IsTestedAt k n
tested_by_last k ns n lists l =
    last_listener (on_listener k n l.listening) ((lists.each n).0 l.listed) (λ m hears unrealised higher. not_higher n m (l.others m ((lists.each m).1 unrealised) (listens k m hears)) higher)

front_is_least : (n : Node) (ns : List Node) → AreRising (n ∷ ns) → (m : Node) → IsIn m (n ∷ ns) → IsListedBefore m n → ⊥
front_is_least n ns rising m here before = not_below_itself m n refl before
front_is_least n ns rising m (there h) before = not_both_ways n m (rising.0 m h) before

tested_by_first : (k : Skeleton) (ns : List Node) (n : Node) → ListsUnrealised k ns → first_node ns ≡ Some n → NoneListens k ns → IsTestedAt k n
tested_by_first k [] n lists e none = absurd (cc)
tested_by_first k (x ∷ xs) n lists e none =
    let same : x ≡ n = cc in
    subst (λ y. IsTestedAt k y) same
    (first_reception ((lists.each x).0 here) (λ m hears unrealised. absurd (cc (none m ((lists.each m).1 unrealised), listens k m hears))) (λ m unrealised before. front_is_least x xs lists.rising m ((lists.each m).1 unrealised) before))

pub chosen_is_tested : (k : Skeleton) (ns : List Node) (n : Node) → ListsUnrealised k ns → chosen k ns ≡ Some n → IsTestedAt k n
chosen_is_tested k ns n lists e = ⊎_elim (tested_by_last k ns n lists) (λ r. tested_by_first k ns n lists r.0 r.1) (last_of k (first_node ns) ns n lists.rising e)

some_by : (k : Skeleton) (x y : Node) (ns : List Node) (b : Bool) → listens_at k y ≡ b → ((z : Node) → last_listening k (Some z) ns ≡ None → ⊥) → last_listening k (Some x) (y ∷ ns) ≡ None → ⊥
some_by k x y ns true b hyp e = let same : last_listening k (Some x) (y ∷ ns) ≡ last_listening k (Some y) ns = rw b refl in hyp y (sym same ∙ e)
some_by k x y ns false b hyp e = let same : last_listening k (Some x) (y ∷ ns) ≡ last_listening k (Some x) ns = rw b refl in hyp x (sym same ∙ e)

some_is_chosen : (k : Skeleton) (x : Node) (ns : List Node) → last_listening k (Some x) ns ≡ None → ⊥
some_is_chosen k x [] e = absurd (cc)
some_is_chosen k x (y ∷ ns) e = some_by k x y ns (listens_at k y) refl (λ z f. some_is_chosen k z ns f) e

pub none_is_chosen : (k : Skeleton) (ns : List Node) → chosen k ns ≡ None → ns ≡ []
none_is_chosen k [] e = refl
none_is_chosen k (n ∷ ns) e = absurd (some_is_chosen k n (n ∷ ns) e)

pub unrealised_tested : (k : Skeleton) (n : Node) → IsTestedAt k n → IsUnrealisedAt k n
unrealised_tested k n (last_listener hears unrealised none) = unrealised
unrealised_tested k n (first_reception unrealised none first) = unrealised

-- ---- the test

pub none_left : (k : Skeleton) (ns : List Node) (o : Option Node) → o ≡ chosen k ns → ((n : Node) → o ≡ Some n → ⊥) → ns ≡ []
none_left k ns None e not_some = none_is_chosen k ns (sym e)
none_left k ns (Some n) e not_some = absurd (not_some n refl)

-- What is chosen of the unrealised receptions.
pub record IsReception (k : Skeleton) (n : Node) : Type 0 where
  pub tested : IsTestedAt k n
  pub message : Term
  pub reception : term_event_at k.strands n ≡ Some (recv message)
  pub underivable : DerivableAt k n message → ⊥

pub chosen_reception : (k : Skeleton) (ns : List Node) (o : Option Node) (n : Node) → ListsUnrealised k ns → o ≡ chosen k ns → o ≡ Some n → IsReception k n
chosen_reception k ns o n lists e is =
    let tested = chosen_is_tested k ns n lists (sym e ∙ is) in
    let unrealised = unrealised_tested k n tested in
    record { tested = tested; message = unrealised.message; reception = unrealised.reception; underivable = unrealised.underivable }

-- The test at the node that is chosen is the skeleton's, and there is one.
module _ (k : Skeleton) (ns : List Node) (o : Option Node) (n : Node) (lists : ListsUnrealised k ns) (e : o ≡ chosen k ns) (is : o ≡ Some n) where
  reception : IsReception k n
  reception = chosen_reception k ns o n lists e is

  tested : (t : SkeletonTest) → t.node ≡ n → ((m : Term) → term_event_at k.strands n ≡ Some (recv m) → (path : List Step) × IsFirstUnderivable (DerivableAt k n) m path t.critical) → IsTestOf k t.node t.critical
  tested t at first =
      let found = first reception.message reception.reception in
      subst (λ (x : Node). IsTestOf k x t.critical) (sym at)
      (record { at_node = reception.tested; message = reception.message; reception = reception.reception; path = found.0; critical = found.1 })

  pub chosen_test : {E : Type 0} (r : Result (Option SkeletonTest) E) → IfOk r (λ t. IfSome t (λ t. (t.skeleton ≡ k) × (t.node ≡ n)))
      → IfOk r (λ t. IfSome t (λ t. (m : Term) → term_event_at k.strands n ≡ Some (recv m) → (path : List Step) × IsFirstUnderivable (DerivableAt k n) m path t.critical)) → IfOk r (λ t. IfSome t (λ t. IsTestOf k t.node t.critical))
  chosen_test (Err x) same first = tt
  chosen_test (Ok None) same first = tt
  chosen_test (Ok (Some t)) same first = tested t same.1 first

  chosen_of_none : ns ≡ [] → ⊥
  chosen_of_none empty = let whole : None ≡ Some n = sym (ap (chosen k) empty) ∙ sym e ∙ is in cc

  pub chosen_some : {E : Type 0} (r : Result (Option SkeletonTest) E) → IfOk r (λ t. IsNone t ↔ IsRealisedAt k n) → IfOk r (λ t. IsNone t ↔ (ns ≡ []))
  chosen_some r none =
      IfOk-weaker r _ _ (λ t h. ((λ no. absurd (reception.underivable (h.0 no reception.message reception.reception))), λ empty. absurd (chosen_of_none empty))) none
