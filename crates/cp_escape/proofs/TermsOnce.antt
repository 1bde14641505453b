-- Terms that are put behind others item by item, each once.
use Rattle.std.proofs.Common.{append_assoc, ◌≡◌, ℕ, ◌+◌, ◌<◌, ◌≤◌, List, [], ◌∷◌, ◌++◌, length, get_or, drop, refl, sym, ap, ◌∙◌, subst, if◌then◌else◌}
use Rattle.std.proofs.lemmas.List.{append-nil, drop_all}
use Rattle.cp_lists.proofs.Members.{drop_read}
use Rattle.cp_model.specs.Term.{Term}
use Rattle.cp_cohort.specs.GatheredLists.{EachGives, nothing_given, then_given, AreThoseWith, none_left, taken, left_out, has_term, terms_onto}
use Rattle.cp_escape.specs.ClosedEncryptions.{PutsTerms, GivesIf, without_it, with_it}

onto_more : (before ts us : List Term) → terms_onto before (ts ++ us) ≡ terms_onto (terms_onto before ts) us
onto_more before [] us = refl
onto_more before (t ∷ ts) us = onto_more (if has_term before t then before else before ++ t ∷ []) ts us

-- What the items give that are not among those left has been put.
pub record PutsSoFar {A : Type 0} (gives : A → List Term → Type 0) (whole left : List A) (old new : List Term) : Type 0 where
  pub given : List Term
  pub rest : (more : List Term) → EachGives gives left more → EachGives gives whole (given ++ more)
  pub onto : new ≡ terms_onto old given

module _ {A : Type 0} (gives : A → List Term → Type 0) (whole : List A) where
  module _ (i : ℕ) (x : A) (below : i < length whole) (read : x ≡ get_or whole i x) (old mid : List Term) (so_far : PutsSoFar gives whole (drop i whole) old mid) where
    left : drop i whole ≡ x ∷ drop (i + 1) whole
    left = drop_read whole i x below read

    pub puts_next : (new : List Term) → PutsTerms (gives x) mid new → PutsSoFar gives whole (drop (i + 1) whole) old new
    puts_next new p = record {
      given = so_far.given ++ p.given;
      rest = λ more e. subst (EachGives gives whole) (sym (append_assoc so_far.given p.given more))
          (so_far.rest (p.given ++ more) (subst (λ (xs : List A). EachGives gives xs (p.given ++ more)) (sym left) (then_given p.gives_them e)));
      onto = p.onto ∙ ap (λ (us : List Term). terms_onto us p.given) so_far.onto ∙ sym (onto_more old so_far.given p.given);
    }

    pub puts_none : gives x [] → PutsSoFar gives whole (drop (i + 1) whole) old mid
    puts_none g = puts_next mid (record { given = []; gives_them = g; onto = refl })

  pub puts_last : (i : ℕ) → length whole ≤ i → (old new : List Term) → PutsSoFar gives whole (drop i whole) old new → PutsTerms (EachGives gives whole) old new
  puts_last i past old new p = record {
    given = p.given;
    gives_them = subst (EachGives gives whole) (append-nil p.given) (p.rest [] (subst (λ (xs : List A). EachGives gives xs []) (sym (drop_all i whole past)) nothing_given));
    onto = p.onto;
  }

pub puts_whole : {A : Type 0} (gives : A → List Term → Type 0) (xs ys : List A) → xs ≡ ys → (old new : List Term) → PutsTerms (EachGives gives xs) old new → PutsTerms (EachGives gives ys) old new
puts_whole {A} gives xs ys same old new = subst (λ (zs : List A). PutsTerms (EachGives gives zs) old new) same

-- ---- items with a property

-- What the items with a property give.
pub record GivenByThose {A B : Type 0} (has : A → Type 0) (gives : A → List B → Type 0) (xs : List A) (ys : List B) : Type 0 where
  pub those : List A
  pub picked : AreThoseWith has xs those
  pub each : EachGives gives those ys

module _ {A B : Type 0} (has : A → Type 0) (gives : A → List B → Type 0) where
  one_given : (x : A) (xs : List A) (ys zs : List B) → GivesIf has gives x ys → GivenByThose has gives xs zs → GivenByThose has gives (x ∷ xs) (ys ++ zs)
  one_given x xs _ zs (without_it fails) p = record { those = p.those; picked = left_out fails p.picked; each = p.each }
  one_given x xs ys zs (with_it holds g) p = record { those = x ∷ p.those; picked = taken holds p.picked; each = then_given g p.each }

  pub given_by_those : (xs : List A) (ys : List B) → EachGives (GivesIf has gives) xs ys → GivenByThose has gives xs ys
  given_by_those [] _ nothing_given = record { those = []; picked = none_left; each = nothing_given }
  given_by_those (x ∷ xs) _ (then_given {ys = ys} {zs = zs} g rest) = one_given x xs ys zs g (given_by_those xs zs rest)

-- ---- what is given otherwise

pub gives_other : {A B : Type 0} {gives others : A → List B → Type 0} → ((x : A) (ys : List B) → gives x ys → others x ys) → {xs : List A} {ys : List B} → EachGives gives xs ys → EachGives others xs ys
gives_other f nothing_given = nothing_given
gives_other f (then_given {x = x} {ys = ys} g rest) = then_given (f x ys g) (gives_other f rest)
