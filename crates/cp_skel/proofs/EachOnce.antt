-- Lists that are gathered so that each item stands once, and the order in which a report lists assumptions.
use Rattle.std.proofs.Common.{◌≡◌, List, [], ◌∷◌, ◌++◌, Bool, true, false, if◌then◌else◌, Result, Ok, Err, is_ok, OnOk, refl, sym, ap, ◌∙◌, subst, ◌⊎◌, ⊎_elim, append_assoc}
use Rattle.std.specs.Cmp.{both_ways as same_by}
use Rattle.std.specs.List.{filter}
use Rattle.std.proofs.lemmas.Bool.{both_ways, false_from_ne_true}
use Rattle.std.proofs.lemmas.List.{append-nil}
use Rattle.std.proofs.lemmas.List.Elements.{filter-append}
use Rattle.cp_lists.specs.Lists.{IsIn, here, there}
use Rattle.cp_model.specs.Skeleton.{Assumptions, Skeleton}
use Rattle.cp_model.specs.Given.{has_atom, atoms_onto, has_unique, uniques_onto, given_non, given_penetrator_non, given_uniques, with_given, listed}
use Rattle.cp_lists.proofs.Members.{in_append, in_append_left, in_append_right, into_filter, from_filter, not_in_none, only_item, head_or_behind, filter-all}
use Rattle.cp_model.proofs.Gathered.{IsGathering, onto-append, onto-keeps, onto-takes, onto-only, atoms, uniques}
use Rattle.cp_model.specs.GivenAssumptions.{IsEachOnce, AddsOnce, HasEachOnce}
use Rattle.cp_skel.proofs.Once.{once-append, adds-none, adds-known, adds-one, adds-then}

-- ---- pushing

-- What follows from a pushed item holds where the error of the push becomes another.
pub if_pushed : {T E D A Q : Type 0} {new more : A} (old : A) (r : Result T E) (s : Result T D) → new ≡ (if is_ok r then more else old) → is_ok s ≡ is_ok r → (new ≡ more → Q) → OnOk s Q
if_pushed old (Ok x) (Ok y) h same step = step h
if_pushed old (Ok x) (Err d) h same step = tt
if_pushed old (Err e) (Ok y) h same step = absurd (cc)
if_pushed old (Err e) (Err d) h same step = tt

-- ---- what is kept of a list

-- ---- gathering

module _ {A : Type 0} {has : List A → A → Bool} {onto : List A → List A → List A} (g : IsGathering has onto) where
  pub onto-known : (before xs : List A) → ((v : A) → IsIn v xs → IsIn v before) → onto before xs ≡ before
  onto-known before [] h = g.ends before
  onto-known before (x ∷ xs) h =
      g.goes before x xs ∙ ap (λ b. onto (if b then before else before ++ x ∷ []) xs) (g.finds before x (h x here)) ∙ onto-known before xs (λ v i. h v (there i))

  pub is-new : (before : List A) (x : A) → (IsIn x before → ⊥) → has before x ≡ false
  is-new before x apart = false_from_ne_true (has before x) (λ e. apart (g.found before x e))

  apart-next : (before xs : List A) (x : A) → (IsIn x xs → ⊥) → ((v : A) → IsIn v (x ∷ xs) → IsIn v before → ⊥) → (v : A) → IsIn v xs → IsIn v (before ++ x ∷ []) → ⊥
  apart-next before xs x first apart v i j =
      ⊎_elim (λ k. apart v (there i) k) (λ k. first (subst (λ y. IsIn y xs) (only_item k) i)) (in_append before (x ∷ []) j)

  pub onto-new : (before xs : List A) → IsEachOnce xs → ((v : A) → IsIn v xs → IsIn v before → ⊥) → onto before xs ≡ before ++ xs
  onto-new before [] once apart = g.ends before ∙ sym (append-nil before)
  onto-new before (x ∷ xs) once apart =
      g.goes before x xs ∙ ap (λ b. onto (if b then before else before ++ x ∷ []) xs) (is-new before x (apart x here))
      ∙ onto-new (before ++ x ∷ []) xs once.1 (apart-next before xs x once.0 apart) ∙ append_assoc before (x ∷ []) xs

  step-once : (before : List A) (x : A) (b : Bool) → has before x ≡ b → IsEachOnce before → IsEachOnce (if b then before else before ++ x ∷ [])
  step-once before x true e once = once
  step-once before x false e once =
      once-append before (x ∷ []) once ((λ i. not_in_none i), tt) (λ v i j. both_ways (has before x) e (g.finds before x (subst (λ y. IsIn y before) (only_item j) i)))

  pub once-onto : (before xs : List A) → IsEachOnce before → IsEachOnce (onto before xs)
  once-onto before [] once = subst IsEachOnce (sym (g.ends before)) once
  once-onto before (x ∷ xs) once =
      subst IsEachOnce (sym (g.goes before x xs)) (once-onto (if has before x then before else before ++ x ∷ []) xs (step-once before x (has before x) refl once))

  -- ---- one item more

  pub put-known : (xs ys : List A) (v : A) (r : Bool) → ys ≡ xs → (r ≡ true → IsIn v ys) → r ≡ true → xs ≡ onto xs (v ∷ [])
  put-known xs ys v r e test h =
      let i : IsIn v xs = subst (IsIn v) e (test h) in
      sym (onto-known xs (v ∷ []) (λ w j. subst (λ y. IsIn y xs) (sym (only_item j)) i))

  pub put-new : (xs ys new : List A) (v : A) (r : Bool) → ys ≡ xs → (IsIn v ys → r ≡ true) → r ≡ false → new ≡ xs ++ v ∷ [] → new ≡ onto xs (v ∷ [])
  put-new xs ys new v r e test h is =
      let never : IsIn v xs → ⊥ = λ i. both_ways r h (test (subst (IsIn v) (sym e) i)) in
      is ∙ sym (onto-new xs (v ∷ []) ((λ i. not_in_none i), tt) (λ w i j. never (subst (λ y. IsIn y xs) (only_item i) j)))

  pub put-behind : (old more pushed : List A) (v : A) → (IsIn v old → ⊥) → (IsIn v more → ⊥) → pushed ≡ more ++ v ∷ [] → old ++ pushed ≡ onto (old ++ more) (v ∷ [])
  put-behind old more pushed v first later is =
      put-new (old ++ more) (old ++ more) (old ++ pushed) v false refl (λ i. absurd (⊎_elim first later (in_append old more i))) refl
      (ap (λ ys. old ++ ys) is ∙ sym (append_assoc old more (v ∷ [])))

  pub put-nowhere : (old more : List A) (v : A) → IsIn v old ⊎ IsIn v more → old ++ more ≡ onto (old ++ more) (v ∷ [])
  put-nowhere old more v i = put-known (old ++ more) (old ++ more) v true refl (λ e. ⊎_elim (λ j. in_append_left more j) (λ j. in_append_right old j) i) refl

  -- A loop over items that puts a copy of each behind what is there.
  pub put-next : (now new left rest all : List A) (v w : A) → left ≡ v ∷ rest → w ≡ v → new ≡ onto now (w ∷ []) → onto now left ≡ all → onto new rest ≡ all
  put-next now new left rest all v w next same put h =
      ap (λ xs. onto xs rest) (put ∙ ap (λ x. onto now (x ∷ [])) same) ∙ sym (onto-append g now (v ∷ []) rest) ∙ ap (onto now) (sym next) ∙ h

  -- ---- what is put behind a list

  adds-step : (old : List A) (x : A) (b : Bool) → has old x ≡ b → AddsOnce (λ y. y ≡ x) old (if b then old else old ++ x ∷ [])
  adds-step old x true e = adds-known x old (g.found old x e)
  adds-step old x false e = adds-one x old (λ i. both_ways (has old x) e (g.finds old x i))

  pub adds-onto : (old xs : List A) → AddsOnce (λ y. IsIn y xs) old (onto old xs)
  adds-onto old [] = subst (AddsOnce (λ y. IsIn y []) old) (sym (g.ends old)) (adds-none (λ y. IsIn y []) old (λ y i. absurd (not_in_none i)))
  adds-onto old (x ∷ xs) =
      let step = if has old x then old else old ++ x ∷ [] in
      subst (AddsOnce (λ y. IsIn y (x ∷ xs)) old) (sym (g.goes old x xs))
      (adds-then (λ y. y ≡ x) (λ y. IsIn y xs) (λ y. IsIn y (x ∷ xs)) old step (onto step xs) (λ y e. subst (λ z. IsIn z (x ∷ xs)) (sym e) here) (λ y i. there i) (λ y i. head_or_behind i)
      (adds-step old x (has old x) refl) (adds-onto step xs))

  -- ---- gathered once and then kept in part, or kept in part at once

  known-first : (p : A → Bool) (all xs : List A) (x : A) (b : Bool) → p x ≡ b → (p x ≡ true → IsIn x all) → onto all (filter p xs) ≡ onto all (if b then x ∷ filter p xs else filter p xs)
  known-first p all xs x true e i =
      ap (λ c. onto (if c then all else all ++ x ∷ []) (filter p xs)) (sym (g.finds all x (i e))) ∙ sym (g.goes all x (filter p xs))
  known-first p all xs x false e i = refl

  known-between : (p : A → Bool) (before acc xs : List A) (x : A) → IsIn x acc → onto before (filter p (acc ++ xs)) ≡ onto before (filter p (acc ++ x ∷ xs))
  known-between p before acc xs x i =
      let all = onto before (filter p acc) in
      ap (onto before) (filter-append p acc xs) ∙ onto-append g before (filter p acc) (filter p xs)
      ∙ known-first p all xs x (p x) refl (λ e. onto-takes g before (filter p acc) x (into_filter p acc i e))
      ∙ sym (onto-append g before (filter p acc) (filter p (x ∷ xs))) ∙ ap (onto before) (sym (filter-append p acc (x ∷ xs)))

  kept-next : (p : A → Bool) (before acc xs : List A) (x : A) (b : Bool) → has acc x ≡ b → onto before (filter p ((if b then acc else acc ++ x ∷ []) ++ xs)) ≡ onto before (filter p (acc ++ x ∷ xs))
  kept-next p before acc xs x true e = known-between p before acc xs x (g.found acc x e)
  kept-next p before acc xs x false e = ap (λ ys. onto before (filter p ys)) (append_assoc acc (x ∷ []) xs)

  kept-onto : (p : A → Bool) (before acc xs : List A) → onto before (filter p (onto acc xs)) ≡ onto before (filter p (acc ++ xs))
  kept-onto p before acc [] = ap (λ ys. onto before (filter p ys)) (g.ends acc ∙ sym (append-nil acc))
  kept-onto p before acc (x ∷ xs) =
      ap (λ ys. onto before (filter p ys)) (g.goes acc x xs) ∙ kept-onto p before (if has acc x then acc else acc ++ x ∷ []) xs ∙ kept-next p before acc xs x (has acc x) refl

  -- ---- the order of the report

  pub listed-stated : (own given old : List A) → onto [] (filter (has old) (onto own given) ++ old) ≡ onto [] (filter (has old) (own ++ given) ++ old)
  listed-stated own given old =
      onto-append g [] (filter (has old) (onto own given)) old ∙ ap (λ b. onto b old) (kept-onto (has old) [] own given) ∙ sym (onto-append g [] (filter (has old) (own ++ given)) old)

  listed-in : (stated old : List A) (v : A) → IsIn v (onto [] (filter (has old) stated ++ old)) → IsIn v old
  listed-in stated old v i =
      ⊎_elim (λ j. absurd (not_in_none j))
      (λ j. ⊎_elim (λ k. g.found old v (from_filter (has old) stated k).1) (λ k. k) (in_append (filter (has old) stated) old j))
      (onto-only g [] (filter (has old) stated ++ old) v i)

  same-each-once : (stated old : List A) → HasEachOnce old (onto [] (filter (has old) stated ++ old))
  same-each-once stated old = record {
    same = λ v. (listed-in stated old v, λ i. onto-takes g [] (filter (has old) stated ++ old) v (in_append_right (filter (has old) stated) i));
    once = once-onto [] (filter (has old) stated ++ old) tt;
  }

  same-test : (xs ys : List A) (v : A) → (IsIn v xs → IsIn v ys) → (IsIn v ys → IsIn v xs) → has xs v ≡ has ys v
  same-test xs ys v f h = same_by (has xs v) (has ys v) (λ e. g.finds ys v (f (g.found xs v e))) (λ e. g.finds xs v (h (g.found ys v e)))

  -- Gathered once or twice, a list gives the same.
  onto-onto : (before acc xs : List A) → onto before (onto acc xs) ≡ onto before (acc ++ xs)
  onto-onto before acc xs =
      ap (onto before) (sym (filter-all (λ v. true) (onto acc xs) (λ v i. refl))) ∙ kept-onto (λ v. true) before acc xs
      ∙ ap (onto before) (filter-all (λ v. true) (acc ++ xs) (λ v i. refl))

  onto-twice : (kept old : List A) → onto [] (kept ++ onto [] (kept ++ old)) ≡ onto [] (kept ++ old)
  onto-twice kept old =
      let first = onto [] kept in
      onto-append g [] kept (onto [] (kept ++ old)) ∙ onto-onto first [] (kept ++ old) ∙ onto-append g first kept old
      ∙ ap (λ b. onto b old) (onto-known first kept (λ v i. onto-takes g [] kept v i)) ∙ sym (onto-append g [] kept old)

  -- What is listed is listed again as it is.
  listed-again : (stated old : List A) → onto [] (filter (has (onto [] (filter (has old) stated ++ old))) stated ++ onto [] (filter (has old) stated ++ old)) ≡ onto [] (filter (has old) stated ++ old)
  listed-again stated old =
      let new = onto [] (filter (has old) stated ++ old) in
      ap (λ xs. onto [] (xs ++ new)) (λ i. filter (λ v. same-test new old v (listed-in stated old v) (λ j. onto-takes g [] (filter (has old) stated ++ old) v (in_append_right (filter (has old) stated) j)) i) stated)
      ∙ onto-twice (filter (has old) stated) old

  pub listed-loaded : (own given : List A) → IsEachOnce own → onto [] (filter (has (onto own given)) (own ++ given) ++ onto own given) ≡ onto own given
  listed-loaded own given once =
      let old = onto own given in
      ap (λ ys. onto [] (ys ++ old)) (filter-all (has old) (own ++ given) (λ v i. g.finds old v (⊎_elim (onto-keeps g own given v) (onto-takes g own given v) (in_append own given i))))
      ∙ onto-append g [] (own ++ given) old ∙ ap (λ b. onto b old) (onto-append g [] own given ∙ ap (λ b. onto b given) (onto-new [] own once (λ v i j. not_in_none j)))
      ∙ onto-known old old (λ v i. i)

  -- A loop over what is stated keeps the items that are among the old ones.
  module _ (old left rest xs ws all : List A) (v : A) (next : left ≡ v ∷ rest) (so-far : onto xs (filter (has old) left) ≡ all) where
    taken : (b : Bool) → has old v ≡ b → onto xs (if b then v ∷ filter (has old) rest else filter (has old) rest) ≡ all
    taken b e = ap (λ c. onto xs (if c then v ∷ filter (has old) rest else filter (has old) rest)) (sym e) ∙ ap (λ l. onto xs (filter (has old) l)) (sym next) ∙ so-far

    pub kept-taken : IsIn v old → ws ≡ onto xs (v ∷ []) → onto ws (filter (has old) rest) ≡ all
    kept-taken i e = ap (λ l. onto l (filter (has old) rest)) e ∙ sym (onto-append g xs (v ∷ []) (filter (has old) rest)) ∙ taken true (g.finds old v i)

    pub kept-left : (IsIn v old → ⊥) → ws ≡ xs → onto ws (filter (has old) rest) ≡ all
    kept-left apart e = ap (λ l. onto l (filter (has old) rest)) e ∙ taken false (is-new old v apart)

  pub kept-end : (old left xs all : List A) → left ≡ [] → onto xs (filter (has old) left) ≡ all → xs ≡ all
  kept-end old left xs all end so-far = sym (g.ends xs) ∙ ap (λ l. onto xs (filter (has old) l)) (sym end) ∙ so-far

  -- What is stated comes in two parts.
  pub kept-both : (old own given start first second new : List A) → start ≡ [] → first ≡ onto start (filter (has old) own) → second ≡ onto first (filter (has old) given)
      → new ≡ onto second old → new ≡ onto [] (filter (has old) (own ++ given) ++ old)
  kept-both old own given start first second new none p q r =
      let both : second ≡ onto [] (filter (has old) (own ++ given)) =
      q ∙ ap (λ l. onto l (filter (has old) given)) (p ∙ ap (λ l. onto l (filter (has old) own)) none)
      ∙ sym (onto-append g [] (filter (has old) own) (filter (has old) given)) ∙ ap (onto []) (sym (filter-append (has old) own given)) in
      r ∙ ap (λ l. onto l old) both ∙ sym (onto-append g [] (filter (has old) (own ++ given)) old)

-- ---- whole assumptions

-- What is stated and was there, and then the rest.
abbrev pub stated_first : Assumptions → Assumptions → Assumptions
stated_first stated old = record {
  non_originating = atoms_onto [] (filter (has_atom old.non_originating) stated.non_originating ++ old.non_originating);
  penetrator_non_originating = atoms_onto [] (filter (has_atom old.penetrator_non_originating) stated.penetrator_non_originating ++ old.penetrator_non_originating);
  uniquely_originating = uniques_onto [] (filter (has_unique old.uniquely_originating) stated.uniquely_originating ++ old.uniquely_originating);
}

pub listed-given : (k : Skeleton) → stated_first (with_given k.strands k.from_problem.assumptions) k.assumptions ≡ listed k
listed-given k =
    let own = k.from_problem.assumptions in
    λ i. record {
      non_originating = listed-stated atoms own.non_originating (given_non k.strands) k.assumptions.non_originating i;
      penetrator_non_originating = listed-stated atoms own.penetrator_non_originating (given_penetrator_non k.strands) k.assumptions.penetrator_non_originating i;
      uniquely_originating = listed-stated uniques own.uniquely_originating (given_uniques 0 k.strands) k.assumptions.uniquely_originating i;
    }

pub listed-non : (k : Skeleton) → HasEachOnce k.assumptions.non_originating (listed k).non_originating
listed-non k = same-each-once atoms (k.from_problem.assumptions.non_originating ++ given_non k.strands) k.assumptions.non_originating

pub listed-penetrator-non : (k : Skeleton) → HasEachOnce k.assumptions.penetrator_non_originating (listed k).penetrator_non_originating
listed-penetrator-non k =
    same-each-once atoms (k.from_problem.assumptions.penetrator_non_originating ++ given_penetrator_non k.strands) k.assumptions.penetrator_non_originating

pub listed-unique : (k : Skeleton) → HasEachOnce k.assumptions.uniquely_originating (listed k).uniquely_originating
listed-unique k =
    same-each-once uniques (k.from_problem.assumptions.uniquely_originating ++ given_uniques 0 k.strands) k.assumptions.uniquely_originating

pub stays-listed : (k : Skeleton) → listed (record k { assumptions = listed k }) ≡ listed k
stays-listed k =
    let own = k.from_problem.assumptions in
    λ i. record {
      non_originating = listed-again atoms (own.non_originating ++ given_non k.strands) k.assumptions.non_originating i;
      penetrator_non_originating = listed-again atoms (own.penetrator_non_originating ++ given_penetrator_non k.strands) k.assumptions.penetrator_non_originating i;
      uniquely_originating = listed-again uniques (own.uniquely_originating ++ given_uniques 0 k.strands) k.assumptions.uniquely_originating i;
    }
