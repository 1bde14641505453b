-- Loops over pairs: the next one, and the end.
use Rattle.std.proofs.Common.{◌≡◌, ◌↔◌, ◌⊎◌, inl, inr, ℕ, zero, suc, ◌+◌, ◌-◌, ◌<◌, ◌≤◌, List, [], ◌∷◌, ◌++◌, length, get_or, drop, Bool, true, false, ◌&&◌, ◌||◌, if◌then◌else◌, refl, sym, ap, ◌∙◌, subst, arith}
use Rattle.std.proofs.lemmas.Bool.{and_from}
use Rattle.std.proofs.lemmas.List.{drop_more, drop_all}
use Rattle.cp_lists.specs.Lists.{IsIn, here, there}
use Rattle.cp_lists.proofs.Members.{at_head, in_append_left, in_append_right, in_append, in_pushed}
use Rattle.cp_model.specs.declared.node.Node.{Node}
use Rattle.cp_model.specs.declared.node.OrderPair.{OrderPair}
use Rattle.cp_model.specs.Order.{IsAtOrAfter, ReachesAlong}
use Rattle.cp_model.specs.OrderTests.{at_or_after, any_pair, reaches_within}
use Rattle.cp_order.specs.Closed.{IsComposedOf, KeepsOrder, IsClosureOf}
use Rattle.cp_order.specs.Composed.{all_joined, composed_from, pairs_to, composed_pairs}
use Rattle.cp_model.proofs.BoundedSearch.{bounded_search}
use Rattle.cp_order.proofs.AlongPairs.{each_led, pair_led, leads_within_more}
use Rattle.cp_order.proofs.ComposedPairs.{joined-append}

-- ---- the search along so many pairs

abbrev leads_on : ℕ → List OrderPair → Node → Node → OrderPair → Bool
leads_on n pairs x y p = at_or_after x p.earlier && reaches_within n pairs p.later y

within_step : (n : ℕ) (pairs : List OrderPair) (x y : Node) → (n ≡ 0 → ⊥) → at_or_after x y ≡ false → reaches_within n pairs x y ≡ any_pair (leads_on (n - 1) pairs x y) pairs
within_step zero pairs x y h e = absurd (h refl)
within_step (suc n) pairs x y h e =
    let m : n ≡ suc n - 1 = omega arith in
    ap (λ b. b || any_pair (leads_on n pairs x y) pairs) e ∙ ap (λ k. any_pair (leads_on k pairs x y) pairs) m

module _ (n k : ℕ) (ps : List OrderPair) (x y : Node) (more : n ≡ 0 → ⊥) (other : at_or_after x y ≡ false) (loop : any_pair (leads_on (n - 1) ps x y) (drop k ps) ≡ any_pair (leads_on (n - 1) ps x y) ps) where
  abbrev test : OrderPair → Bool
  test = leads_on (n - 1) ps x y

  first_passes : (p : OrderPair) (qs rest : List OrderPair) → qs ≡ p ∷ rest → test p ≡ true → any_pair test qs ≡ true
  first_passes p qs rest e h = ap (any_pair test) e ∙ ap (λ b. b || any_pair test rest) h

  pub within_found : (d : OrderPair) → k < length ps → at_or_after x (get_or ps k d).earlier ≡ true → reaches_within (n - 1) ps (get_or ps k d).later y ≡ true → true ≡ reaches_within n ps x y
  within_found d l f g =
      let p = (get_or ps k d) in
      let passes : test p ≡ true = and_from (at_or_after x p.earlier) (reaches_within (n - 1) ps p.later y) f g in
      sym (within_step n ps x y more other ∙ sym loop ∙ first_passes p (drop k ps) (drop (k + 1) ps) (drop_more ps k d l) passes)

  pub within_none : length ps ≤ k → false ≡ reaches_within n ps x y
  within_none l = sym (within_step n ps x y more other ∙ sym loop ∙ ap (any_pair test) (drop_all k ps l))

-- ---- what an order tells

pub asked_open : (ps self : List OrderPair) (x y : Node) (b : Bool) → ps ≡ self → (n : ℕ) → n ≡ length ps → b ≡ reaches_within n ps x y → (b ≡ true) ↔ ReachesAlong self x y
asked_open ps self x y b same n l e =
    let h = bounded_search n ps x y l in
    subst (λ (qs : List OrderPair). (b ≡ true) ↔ ReachesAlong qs x y) same (λ t. h.0 (sym e ∙ t), λ l. e ∙ h.1 l)

-- what reaches what by pairs is found along their closed pairs
pub asked_closure : (self closed seen : List OrderPair) (x y : Node) (b : Bool) → IsClosureOf self closed → seen ≡ closed → (b ≡ true) ↔ ReachesAlong seen x y → (b ≡ true) ↔ ReachesAlong self x y
asked_closure self closed seen x y b h same found =
    let moved : (b ≡ true) ↔ ReachesAlong closed x y = subst (λ (ps : List OrderPair). (b ≡ true) ↔ ReachesAlong ps x y) same found in
    (λ t. (h.keeps.leads x y).0 (moved.0 t), λ l. moved.1 ((h.keeps.leads x y).1 l))

-- ---- what a pair makes with those before it

pub to_next : (pairs : List OrderPair) (p q : OrderPair) (qs rest old new whole : List OrderPair) → qs ≡ q ∷ rest → at_or_after q.later p.earlier ≡ true → new ≡ all_joined old (composed_from pairs q.earlier p.later)
    → all_joined old (pairs_to pairs p qs) ≡ whole → all_joined new (pairs_to pairs p rest) ≡ whole
to_next pairs p q qs rest old new whole e t n h =
    let front = composed_from pairs q.earlier p.later in
    let back = pairs_to pairs p rest in
    ap (λ ps. all_joined ps back) n ∙ joined-append old front back ∙ sym (ap (λ b. all_joined old (if b then front ++ back else back)) t)
    ∙ sym (ap (λ ps. all_joined old (pairs_to pairs p ps)) e) ∙ h

pub to_end : (pairs : List OrderPair) (p : OrderPair) (rest start first last : List OrderPair) → rest ≡ [] → start ≡ pairs → first ≡ all_joined start (composed_from pairs p.earlier p.later)
    → all_joined last (pairs_to pairs p rest) ≡ all_joined first (pairs_to pairs p pairs) → last ≡ all_joined pairs (composed_pairs pairs p)
to_end pairs p rest start first last e s f h =
    sym (ap (λ ps. all_joined last (pairs_to pairs p ps)) e) ∙ h ∙ ap (λ ps. all_joined ps (pairs_to pairs p pairs)) (f ∙ ap (λ ps. all_joined ps (composed_from pairs p.earlier p.later)) s)
    ∙ joined-append pairs (composed_from pairs p.earlier p.later) (pairs_to pairs p pairs)

-- ---- orders that are kept

pub keeps_same : (ps : List OrderPair) → KeepsOrder ps ps
keeps_same ps = record { leads = λ x y. (λ l. l, λ l. l); composed = λ p m. record { first = (p, m, refl); last = (p, m, refl); is_one = inl m } }

pub keeps_both : (a b c : List OrderPair) → KeepsOrder a b → KeepsOrder b c → KeepsOrder a c
keeps_both a b c f g = record {
  leads = λ x y. (λ l. (f.leads x y).0 ((g.leads x y).0 l), λ l. (g.leads x y).1 ((f.leads x y).1 l));
  composed = λ p m. through p (g.composed p m);
}
  where
    one_by : (p : OrderPair) → IsIn p b ⊎ (IsAtOrAfter p.earlier p.later → ⊥) → IsIn p a ⊎ (IsAtOrAfter p.earlier p.later → ⊥)
    one_by p (inl m) = (f.composed p m).is_one
    one_by p (inr h) = inr h

    through : (p : OrderPair) → IsComposedOf b p → IsComposedOf a p
    through p h =
        let q = (f.composed h.first.0 h.first.1).first in
        let r = (f.composed h.last.0 h.last.1).last in
        record { first = (q.0, q.1, q.2 ∙ h.first.2); last = (r.0, r.1, r.2 ∙ h.last.2); is_one = one_by p h.is_one }

composed_more : (ps qs : List OrderPair) (p : OrderPair) → ((o : OrderPair) → IsIn o ps → IsIn o qs) → IsComposedOf ps p → IsComposedOf qs p
composed_more ps qs p f h = record { first = (h.first.0, f h.first.0 h.first.1, h.first.2); last = (h.last.0, f h.last.0 h.last.1, h.last.2); is_one = one_by h.is_one }
  where
    one_by : IsIn p ps ⊎ (IsAtOrAfter p.earlier p.later → ⊥) → IsIn p qs ⊎ (IsAtOrAfter p.earlier p.later → ⊥)
    one_by (inl m) = inl (f p m)
    one_by (inr g) = inr g

module _ (q : OrderPair) (old new rest : List OrderPair) (keeps : KeepsOrder (q ∷ old) new) where
  within : (o : OrderPair) → IsIn o (q ∷ old) → IsIn o (old ++ (q ∷ rest))
  within o here = in_append_right old here
  within o (there m) = in_append_left (q ∷ rest) m

  new_led : (o : OrderPair) → IsIn o new ⊎ IsIn o rest → ReachesAlong (old ++ (q ∷ rest)) o.earlier o.later
  new_led o (inl m) = leads_within_more (q ∷ old) (old ++ (q ∷ rest)) within o.earlier o.later ((keeps.leads o.earlier o.later).0 (pair_led new o m))
  new_led o (inr m) = pair_led (old ++ (q ∷ rest)) o (in_append_right old (there m))

  taken : (o : OrderPair) → IsIn o (q ∷ old) → ReachesAlong (new ++ rest) o.earlier o.later
  taken o m = leads_within_more new (new ++ rest) (λ p i. in_append_left rest i) o.earlier o.later ((keeps.leads o.earlier o.later).1 (pair_led (q ∷ old) o m))

  first_or_rest : (o : OrderPair) → IsIn o (q ∷ rest) → IsIn o (q ∷ old) ⊎ IsIn o rest
  first_or_rest o here = inl here
  first_or_rest o (there m) = inr m

  old_or_rest : (o : OrderPair) → IsIn o old ⊎ IsIn o (q ∷ rest) → IsIn o (q ∷ old) ⊎ IsIn o rest
  old_or_rest o (inl m) = inl (there m)
  old_or_rest o (inr m) = first_or_rest o m

  old_led : (o : OrderPair) → IsIn o (q ∷ old) ⊎ IsIn o rest → ReachesAlong (new ++ rest) o.earlier o.later
  old_led o (inl m) = taken o m
  old_led o (inr m) = pair_led (new ++ rest) o (in_append_right new m)

  made : (o : OrderPair) → IsIn o new ⊎ IsIn o rest → IsComposedOf (old ++ (q ∷ rest)) o
  made o (inl m) = composed_more (q ∷ old) (old ++ (q ∷ rest)) o within (keeps.composed o m)
  made o (inr m) = (keeps_same (old ++ (q ∷ rest))).composed o (in_append_right old (there m))

  keeps_behind : KeepsOrder (old ++ (q ∷ rest)) (new ++ rest)
  keeps_behind = record {
    leads = λ x y. (each_led (new ++ rest) (old ++ (q ∷ rest)) (λ o m. new_led o (in_append new rest m)) x y, each_led (old ++ (q ∷ rest)) (new ++ rest) (λ o m. old_led o (old_or_rest o (in_append old (q ∷ rest) m))) x y);
    composed = λ o m. made o (in_append new rest m);
  }

  pub keeps_next : (whole qs : List OrderPair) → qs ≡ q ∷ rest → KeepsOrder whole (old ++ qs) → KeepsOrder whole (new ++ rest)
  keeps_next whole qs e h = keeps_both whole (old ++ (q ∷ rest)) (new ++ rest) (subst (λ (ps : List OrderPair). KeepsOrder whole (old ++ ps)) e h) keeps_behind

pub keeps_item : (whole : List OrderPair) (pairs old items last : List OrderPair) (k : ℕ) (d : OrderPair) → k < length pairs → items ≡ old → KeepsOrder ((get_or pairs k d) ∷ items) last
    → KeepsOrder whole (old ++ (drop k pairs)) → KeepsOrder whole (last ++ (drop (k + 1) pairs))
keeps_item whole pairs old items last k d l e h loop =
    let q = (get_or pairs k d) in
    let keeps : KeepsOrder (q ∷ old) last = subst (λ (ps : List OrderPair). KeepsOrder (q ∷ ps) last) e h in
    keeps_next q old last (drop (k + 1) pairs) keeps whole (drop k pairs) (drop_more pairs k d l) loop

-- ---- a pair behind the others

keeps_members : (ps qs : List OrderPair) → ((p : OrderPair) → IsIn p ps → IsIn p qs) → ((p : OrderPair) → IsIn p qs → IsIn p ps) → KeepsOrder ps qs
keeps_members ps qs f g = record { leads = λ x y. (leads_within_more qs ps g x y, leads_within_more ps qs f x y); composed = λ p m. (keeps_same ps).composed p (g p m) }

to_back : (p q : OrderPair) (ps : List OrderPair) → IsIn p (q ∷ ps) → IsIn p (ps ++ (q ∷ []))
to_back p q ps here = in_append_right ps here
to_back p q ps (there m) = in_append_left (q ∷ []) m

to_front : (p q : OrderPair) (ps : List OrderPair) → IsIn p (ps ++ (q ∷ [])) → IsIn p (q ∷ ps)
to_front p q ps m = elim (in_pushed ps q p m) as (λ _. IsIn p (q ∷ ps)) [ inl i ↦ there i | inr e ↦ at_head (sym e) ]

pub keeps_pushed : (self items new : List OrderPair) (q : OrderPair) → items ≡ self → new ≡ items ++ (q ∷ []) → KeepsOrder (q ∷ self) new
keeps_pushed self items new q is e =
    let keeps : KeepsOrder (q ∷ items) (items ++ (q ∷ [])) = keeps_members (q ∷ items) (items ++ (q ∷ [])) (λ p. to_back p q items) (λ p. to_front p q items) in
    let all : KeepsOrder (q ∷ items) new = subst (KeepsOrder (q ∷ items)) (sym e) keeps in
    subst (λ (qs : List OrderPair). KeepsOrder (q ∷ qs) new) is all

-- ---- closed pairs beside others

keeps_under : (q : OrderPair) (ps qs : List OrderPair) → KeepsOrder ps qs → KeepsOrder (q ∷ ps) (q ∷ qs)
keeps_under q ps qs h = record {
  leads = λ x y. (each_led (q ∷ qs) (q ∷ ps) back x y, each_led (q ∷ ps) (q ∷ qs) on x y);
  composed = made;
}
  where
    back : (p : OrderPair) → IsIn p (q ∷ qs) → ReachesAlong (q ∷ ps) p.earlier p.later
    back p here = pair_led (q ∷ ps) q here
    back p (there m) = leads_within_more ps (q ∷ ps) (λ o i. there i) p.earlier p.later ((h.leads p.earlier p.later).0 (pair_led qs p m))

    on : (p : OrderPair) → IsIn p (q ∷ ps) → ReachesAlong (q ∷ qs) p.earlier p.later
    on p here = pair_led (q ∷ qs) q here
    on p (there m) = leads_within_more qs (q ∷ qs) (λ o i. there i) p.earlier p.later ((h.leads p.earlier p.later).1 (pair_led ps p m))

    made : (p : OrderPair) → IsIn p (q ∷ qs) → IsComposedOf (q ∷ ps) p
    made p here = (keeps_same (q ∷ ps)).composed q here
    made p (there m) = composed_more ps (q ∷ ps) p (λ o i. there i) (h.composed p m)

pub closure_with_pair : (q : OrderPair) (ps self closed seen new : List OrderPair) → ps ≡ self → IsClosureOf ps closed → seen ≡ closed → IsClosureOf (q ∷ seen) new → IsClosureOf (q ∷ self) new
closure_with_pair q ps self closed seen new is h same more =
    let both : KeepsOrder (q ∷ ps) new = keeps_both (q ∷ ps) (q ∷ closed) new (keeps_under q ps closed h.keeps) (subst (λ (cs : List OrderPair). KeepsOrder (q ∷ cs) new) same more.keeps) in
    record { closes = more.closes; keeps = subst (λ (ps : List OrderPair). KeepsOrder (q ∷ ps) new) is both }

-- a pair stands behind the others, and not before them
pub closure_pushed : (q : OrderPair) (ps new self closed : List OrderPair) → ps ≡ self → new ≡ ps ++ (q ∷ []) → IsClosureOf (q ∷ self) closed → IsClosureOf new closed
closure_pushed q ps new self closed is e g =
    let h : IsClosureOf (q ∷ ps) closed = subst (λ (qs : List OrderPair). IsClosureOf (q ∷ qs) closed) (sym is) g in
    let keeps : KeepsOrder (ps ++ (q ∷ [])) (q ∷ ps) = keeps_members (ps ++ (q ∷ [])) (q ∷ ps) (λ p. to_front p q ps) (λ p. to_back p q ps) in
    let all : IsClosureOf (ps ++ (q ∷ [])) closed = record { closes = h.closes; keeps = keeps_both (ps ++ (q ∷ [])) (q ∷ ps) closed keeps h.keeps } in
    subst (λ (qs : List OrderPair). IsClosureOf qs closed) (sym e) all
