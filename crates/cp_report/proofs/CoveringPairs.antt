-- The covering pairs as a report prints them fit, and are read back.
use Rattle.std.proofs.Common.{◌≡◌, ◌⊎◌, inl, inr, List, [], ◌∷◌, ◌++◌, length, Bool, true, false, refl, sym, ap, ◌∙◌, subst, if◌then◌else◌}
use Rattle.std.specs.Prelude.{not, map, Option, Some, None, ◌&&◌}
use Rattle.std.proofs.lemmas.Bool.{false_from_ne_true, and_parts, or_from}
use Rattle.std.proofs.lemmas.List.{map-append}
use Rattle.cp_base.specs.declared.place.Place.{Place}
use Rattle.cp_lists.specs.Lists.{IsIn, here, there}
use Rattle.cp_lists.proofs.Members.{in_append, in_append_left, in_append_right, in_cases}
use Rattle.cp_order.proofs.AlongPairs.{leads_within_more}
use Rattle.cp_model.specs.Term.{Term}
use Rattle.cp_model.specs.declared.strand.Event.{Event}
use Rattle.cp_model.specs.declared.node.Node.{Node}
use Rattle.cp_model.specs.declared.node.OrderPair.{OrderPair}
use Rattle.cp_model.specs.Skeleton.{SkeletonStrand, term_event_at}
use Rattle.cp_model.specs.Order.{ReachesAlong}
use Rattle.cp_model.specs.OrderTests.{reaches_within}
use Rattle.cp_model.specs.Same.{same_node}
use Rattle.cp_model.proofs.SameTests.{node_is}
use Rattle.cp_sexpr.specs.Syntax.{Form}
use Rattle.cp_language.proofs.BoundedSearch.{reaches_all}
use Rattle.cp_language.specs.Problems.{is_known, is_some_transmission, is_some_reception, on_one_strand, pair_of, pairs_in}
use Rattle.cp_language.specs.Printed.{plain_list, no_place}
use Rattle.cp_language.specs.Report.{node_form, is_covering, covering_with, covering_from}
use Rattle.cp_report.specs.Misfits.{misfit_unless}
use Rattle.cp_report.specs.Skeletons.{node_misfits, has_pair, is_further_pair, pair_misfits, pairs_misfits}

-- No item stands twice.
abbrev pub AreApart : {A : Type 0} → List A → Type 0
AreApart [] = Unit {0}
AreApart (x ∷ xs) = (IsIn x xs → ⊥) × AreApart xs

-- two lists without a common item
pub apart_append : {A : Type 0} (xs ys : List A) → AreApart xs → AreApart ys → ((x : A) → IsIn x xs → IsIn x ys → ⊥) → AreApart (xs ++ ys)
apart_append [] ys p q other = q
apart_append (x ∷ xs) ys p q other = (fresh, apart_append xs ys p.1 q (λ y i j. other y (there i) j))
  where
    fresh : IsIn x (xs ++ ys) → ⊥
    fresh i = by (in_append xs ys i)
      where
        by : IsIn x xs ⊎ IsIn x ys → ⊥
        by (inl j) = p.0 j
        by (inr j) = other x here j

-- ---- the covering pairs as a list

abbrev pub covers_with : List OrderPair → List Node → Node → List Node → List OrderPair
covers_with pairs nodes x [] = []
covers_with pairs nodes x (y ∷ ys) = if is_covering pairs nodes x y then record { earlier = x; later = y } ∷ covers_with pairs nodes x ys else covers_with pairs nodes x ys

abbrev pub covers_from : List OrderPair → List Node → List Node → List OrderPair
covers_from pairs nodes [] = []
covers_from pairs nodes (x ∷ xs) = covers_with pairs nodes x nodes ++ covers_from pairs nodes xs

-- A pair as it is printed.
abbrev pub pair_form : OrderPair → Form
pair_form p = plain_list (node_form p.earlier ∷ node_form p.later ∷ [])

module _ (pairs : List OrderPair) (nodes : List Node) where
  forms_with : (x : Node) (ys : List Node) → covering_with pairs nodes x ys ≡ map pair_form (covers_with pairs nodes x ys)
  forms_with x [] = refl
  forms_with x (y ∷ ys) = by (is_covering pairs nodes x y) (forms_with x ys)
    where
      by : (b : Bool) → covering_with pairs nodes x ys ≡ map pair_form (covers_with pairs nodes x ys)
          → (if b then plain_list (node_form x ∷ node_form y ∷ []) ∷ covering_with pairs nodes x ys else covering_with pairs nodes x ys)
          ≡ map pair_form (if b then record { earlier = x; later = y } ∷ covers_with pairs nodes x ys else covers_with pairs nodes x ys)
      by true e = ap (λ (fs : List Form). pair_form (record { earlier = x; later = y }) ∷ fs) e
      by false e = e

  pub forms_from : (xs : List Node) → covering_from pairs nodes xs ≡ map pair_form (covers_from pairs nodes xs)
  forms_from [] = refl
  forms_from (x ∷ xs) =
      ap (λ fs. fs ++ covering_from pairs nodes xs) (forms_with x nodes)
      ∙ ap (λ fs. map pair_form (covers_with pairs nodes x nodes) ++ fs) (forms_from xs)
      ∙ sym (map-append pair_form (covers_with pairs nodes x nodes) (covers_from pairs nodes xs))

  -- ---- which pairs they are

  -- A covering pair of one of the first nodes with one of the second.
  pub record IsCover (xs ys : List Node) (p : OrderPair) : Type 0 where
    pub earlier : IsIn p.earlier xs
    pub later : IsIn p.later ys
    pub covering : is_covering pairs nodes p.earlier p.later ≡ true

  abbrev IsCoverOf : Node → List Node → OrderPair → Type 0
  IsCoverOf x ys p = (x ≡ p.earlier) × IsIn p.later ys × (is_covering pairs nodes x p.later ≡ true)

  cover_of : (x : Node) (ys : List Node) (p : OrderPair) → IsIn p (covers_with pairs nodes x ys) → IsCoverOf x ys p
  cover_of x [] p i = elim i [ ]
  cover_of x (y ∷ ys) p i = by (is_covering pairs nodes x y) refl (cover_of x ys p) i
    where
      further : IsCoverOf x ys p → IsCoverOf x (y ∷ ys) p
      further c = (c.0, there c.1, c.2)

      first : is_covering pairs nodes x y ≡ true → (record { earlier = x; later = y } ≡ p) ⊎ IsCoverOf x ys p → IsCoverOf x (y ∷ ys) p
      first e (inl q) =
          subst (λ (o : OrderPair). IsCoverOf x (y ∷ ys) o) q (refl, here, e)
      first e (inr c) = further c

      onward : (IsIn p (covers_with pairs nodes x ys) → IsCoverOf x ys p) → (record { earlier = x; later = y } ≡ p) ⊎ IsIn p (covers_with pairs nodes x ys) → (record { earlier = x; later = y } ≡ p) ⊎ IsCoverOf x ys p
      onward rest (inl q) = inl q
      onward rest (inr j) = inr (rest j)

      by : (b : Bool) → is_covering pairs nodes x y ≡ b → (IsIn p (covers_with pairs nodes x ys) → IsCoverOf x ys p)
          → IsIn p (if b then record { earlier = x; later = y } ∷ covers_with pairs nodes x ys else covers_with pairs nodes x ys) → IsCoverOf x (y ∷ ys) p
      by true e rest j = first e (onward rest (in_cases j))
      by false e rest j = further (rest j)

  pub cover_is : (xs : List Node) (p : OrderPair) → IsIn p (covers_from pairs nodes xs) → IsCover xs nodes p
  cover_is [] p i = elim i [ ]
  cover_is (x ∷ xs) p i = by (in_append (covers_with pairs nodes x nodes) (covers_from pairs nodes xs) i) (cover_is xs p)
    where
      by : IsIn p (covers_with pairs nodes x nodes) ⊎ IsIn p (covers_from pairs nodes xs) → (IsIn p (covers_from pairs nodes xs) → IsCover xs nodes p) → IsCover (x ∷ xs) nodes p
      by (inl j) rest =
          let c = cover_of x nodes p j in
          record {
            earlier = subst (λ (o : Node). IsIn o (x ∷ xs)) c.0 here;
            later = c.1;
            covering = sym (ap (λ (o : Node). is_covering pairs nodes o p.later) c.0) ∙ c.2;
          }
      by (inr j) rest = let c = rest j in record { earlier = there c.earlier; later = c.later; covering = c.covering }

  with_listed : (x y : Node) (ys : List Node) → IsIn y ys → is_covering pairs nodes x y ≡ true → IsIn (record { earlier = x; later = y }) (covers_with pairs nodes x ys)
  with_listed x y [] i e = elim i [ ]
  with_listed x y (z ∷ ys) here e = subst (λ (ps : List OrderPair). IsIn (record { earlier = x; later = y }) ps) (sym (ap (λ (b : Bool). if b then record { earlier = x; later = y } ∷ covers_with pairs nodes x ys else covers_with pairs nodes x ys) e)) here
  with_listed x y (z ∷ ys) (there i) e = by (is_covering pairs nodes x z) (with_listed x y ys i e)
    where
      by : (b : Bool) → IsIn (record { earlier = x; later = y }) (covers_with pairs nodes x ys)
          → IsIn (record { earlier = x; later = y }) (if b then record { earlier = x; later = z } ∷ covers_with pairs nodes x ys else covers_with pairs nodes x ys)
      by true j = there j
      by false j = j

  pub from_listed : (xs : List Node) (x y : Node) → IsIn x xs → IsIn y nodes → is_covering pairs nodes x y ≡ true → IsIn (record { earlier = x; later = y }) (covers_from pairs nodes xs)
  from_listed [] x y i j e = elim i [ ]
  from_listed (z ∷ xs) x y here j e = in_append_left (covers_from pairs nodes xs) (with_listed x y nodes j e)
  from_listed (z ∷ xs) x y (there i) j e = in_append_right (covers_with pairs nodes z nodes) (from_listed xs x y i j e)

  -- ---- each stands once

  with_apart : (x : Node) (ys : List Node) → AreApart ys → AreApart (covers_with pairs nodes x ys)
  with_apart x [] h = tt
  with_apart x (y ∷ ys) h = by (is_covering pairs nodes x y) (with_apart x ys h.1)
    where
      by : (b : Bool) → AreApart (covers_with pairs nodes x ys) → AreApart (if b then record { earlier = x; later = y } ∷ covers_with pairs nodes x ys else covers_with pairs nodes x ys)
      by true rest = (λ i. h.0 (cover_of x ys (record { earlier = x; later = y }) i).1, rest)
      by false rest = rest

  pub from_apart : (xs : List Node) → AreApart xs → AreApart nodes → AreApart (covers_from pairs nodes xs)
  from_apart [] h all = tt
  from_apart (x ∷ xs) h all =
      apart_append (covers_with pairs nodes x nodes) (covers_from pairs nodes xs) (with_apart x nodes all) (from_apart xs h.1 all)
      (λ p i j. h.0 (subst (λ (o : Node). IsIn o xs) (sym (cover_of x nodes p i).0) (cover_is xs p j).earlier))

-- ---- reading them back

-- A pair between two strands is read back.
one_back : (p : OrderPair) → on_one_strand p ≡ false → pair_of (pair_form p) ≡ p ∷ []
one_back p e = ap (λ (b : Bool). if b then [] else p ∷ []) e

pub pairs_back : (ps : List OrderPair) → ((p : OrderPair) → IsIn p ps → on_one_strand p ≡ false) → pairs_in (map pair_form ps) ≡ ps
pairs_back [] other = refl
pairs_back (p ∷ ps) other = ap (λ qs. qs ++ pairs_in (map pair_form ps)) (one_back p (other p here)) ∙ ap (λ qs. p ∷ qs) (pairs_back ps (λ q i. other q (there i)))

sent_there : (o : Option (Event Term)) → is_some_transmission o ≡ true → is_known o ≡ true
sent_there None e = absurd (cc)
sent_there (Some x) e = refl

received_there : (o : Option (Event Term)) → is_some_reception o ≡ true → is_known o ≡ true
received_there None e = absurd (cc)
received_there (Some x) e = refl

pub node_fits : (strands : List SkeletonStrand) (n : Node) → is_known (term_event_at strands n) ≡ true → node_misfits strands (node_form n) ≡ []
node_fits strands n e = ap (λ (b : Bool). misfit_unless b no_place) e

not_among : (before : List OrderPair) (p : OrderPair) → (IsIn p before → ⊥) → has_pair before p ≡ false
not_among [] p other = refl
not_among (q ∷ qs) p other =
    or_from (same_node q.earlier p.earlier && same_node q.later p.later) (has_pair qs p)
    (false_from_ne_true (same_node q.earlier p.earlier && same_node q.later p.later) differ) (not_among qs p (λ i. other (there i)))
  where
    differ : (same_node q.earlier p.earlier && same_node q.later p.later) ≡ true → ⊥
    differ h =
        let two = and_parts (same_node q.earlier p.earlier) (same_node q.later p.later) h in
        let e = node_is q.earlier p.earlier two.0 in
        let f = node_is q.later p.later two.1 in
        other (subst (λ (o : OrderPair). IsIn o (q ∷ qs)) (λ i. record { earlier = e i; later = f i }) here)

-- A pair from a transmission to a reception of another strand.
pub record Goes (strands : List SkeletonStrand) (p : OrderPair) : Type 0 where
  pub sent : is_some_transmission (term_event_at strands p.earlier) ≡ true
  pub received : is_some_reception (term_event_at strands p.later) ≡ true
  pub other : on_one_strand p ≡ false

five_true : (a b c d e : Bool) → a ≡ true → b ≡ true → c ≡ false → d ≡ false → e ≡ false → (a && b && not c && not d && not e) ≡ true
five_true true true false false false p q r s t = refl
five_true true true false false true p q r s t = absurd (cc)
five_true true true false true e p q r s t = absurd (cc)
five_true true true true d e p q r s t = absurd (cc)
five_true true false c d e p q r s t = absurd (cc)
five_true false b c d e p q r s t = absurd (cc)

module _ (strands : List SkeletonStrand) (all : List OrderPair) (no_way_back : (p : OrderPair) → IsIn p all → ReachesAlong all p.later p.earlier → ⊥) where
  further : (before : List OrderPair) (p : OrderPair) → ((q : OrderPair) → IsIn q before → IsIn q all) → IsIn p all → (IsIn p before → ⊥) → Goes strands p → is_further_pair strands before (Some p) ≡ true
  further before p within m other g =
      five_true (is_some_transmission (term_event_at strands p.earlier)) (is_some_reception (term_event_at strands p.later)) (on_one_strand p) (has_pair before p) (reaches_within (length before) before p.later p.earlier)
      g.sent g.received g.other (not_among before p other)
      (false_from_ne_true (reaches_within (length before) before p.later p.earlier) (λ h. no_way_back p m (leads_within_more before all within p.later p.earlier ((reaches_all before p.later p.earlier).0 h))))

  one_fits : (before : List OrderPair) (p : OrderPair) → Goes strands p → is_further_pair strands before (Some p) ≡ true → pair_misfits strands before (pair_form p) ≡ []
  one_fits before p g h =
      let e = node_fits strands p.earlier (sent_there (term_event_at strands p.earlier) g.sent) in
      let l = node_fits strands p.later (received_there (term_event_at strands p.later) g.received) in
      rw e (rw l (rw h refl))

  fit_behind : (before ps : List OrderPair) → ((q : OrderPair) → IsIn q before → IsIn q all) → ((q : OrderPair) → IsIn q ps → IsIn q all) → ((q : OrderPair) → IsIn q before → IsIn q ps → ⊥)
      → AreApart ps → ((q : OrderPair) → IsIn q ps → Goes strands q) → pairs_misfits strands before (map pair_form ps) ≡ []
  fit_behind before [] within rest other apart goes = refl
  fit_behind before (p ∷ ps) within rest other apart goes =
      ap (λ (xs : List Place). xs ++ pairs_misfits strands (before ++ pair_of (pair_form p)) (map pair_form ps)) (one_fits before p (goes p here) (further before p within (rest p here) (λ i. other p i here) (goes p here)))
      ∙ ap (λ (qs : List OrderPair). pairs_misfits strands (before ++ qs) (map pair_form ps)) (one_back p (goes p here).other)
      ∙ fit_behind (before ++ p ∷ []) ps within_more (λ q i. rest q (there i)) other_more apart.1 (λ q i. goes q (there i))
    where
      last_or : {Q : Type 0} (q : OrderPair) → IsIn q (before ++ p ∷ []) → (IsIn q before → Q) → (p ≡ q → Q) → Q
      last_or {Q} q i f g = by (in_append before (p ∷ []) i)
        where
          by_last : (p ≡ q) ⊎ IsIn q [] → Q
          by_last (inl e) = g e
          by_last (inr j) = elim j [ ]

          by : IsIn q before ⊎ IsIn q (p ∷ []) → Q
          by (inl j) = f j
          by (inr j) = by_last (in_cases j)

      within_more : (q : OrderPair) → IsIn q (before ++ p ∷ []) → IsIn q all
      within_more q i = last_or q i (within q) (λ e. subst (λ (o : OrderPair). IsIn o all) e (rest p here))

      other_more : (q : OrderPair) → IsIn q (before ++ p ∷ []) → IsIn q ps → ⊥
      other_more q i j = last_or q i (λ k. other q k (there j)) (λ e. apart.0 (subst (λ (o : OrderPair). IsIn o ps) (sym e) j))

  -- Pairs that go from transmissions to receptions, each once, without a cycle fit.
  pub pairs_fit : AreApart all → ((q : OrderPair) → IsIn q all → Goes strands q) → pairs_misfits strands [] (map pair_form all) ≡ []
  pairs_fit apart goes = fit_behind [] all (λ q i. elim i [ ]) (λ q i. i) (λ q i j. elim i [ ]) apart goes
