-- Items side by side.
use Rattle.std.proofs.Common.{◌≡◌, ◌↔◌, ◌≢◌, ℕ, Bool, true, false, Option, Some, None, if◌then◌else◌, List, sym, ap, ◌∙◌, subst}
use Rattle.cp_lists.specs.Lists.{item_at}
use Rattle.cp_model.specs.Term.{AtomTerm, Term, atom_term, apply_to_atom, apply_to}
use Rattle.cp_model.specs.Skeleton.{SkeletonStrand, UniqueAt}
use Rattle.cp_model.specs.Homomorphism.{SkeletonMap}
use Rattle.cp_hom.specs.PartialMaps.{PartialMap, partial_view, FindsMaps, IsExtended, IsKnown, IsOfNoExtension}
use Rattle.cp_hom.specs.Counterparts.{MakesPart, GoesToStrand, BecomesAtom, BecomesUnique}
use Rattle.cp_hom.specs.Pairings.{TakesPair, IsPairing}
use Rattle.cp_hom.specs.declared.pairings.Pairing.{Pairing}
use Rattle.cp_hom.specs.declared.partials.Partial.{Partial}
use Rattle.cp_hom.proofs.Extended.{finds_like, finds_both}

pub pair_of_strands : (xs ys : List SkeletonStrand) (s image : ℕ) (x y : SkeletonStrand) → Some x ≡ item_at xs s → Some y ≡ item_at ys image →
    (f : SkeletonMap) → GoesToStrand xs ys s image f ↔ ((f.strands s ≡ image) × MakesPart f.terms x y)
pair_of_strands xs ys s image x y at au f = (
  λ g.
      let d : Some g.from ≡ Some x = sym g.is_from ∙ sym at in
      let e : Some g.to ≡ Some y = sym g.is_to ∙ sym au in
      let d' : g.from ≡ x = cc in
      let e' : g.to ≡ y = cc in
      (g.goes, subst (λ (z : SkeletonStrand). MakesPart f.terms z y) d' (subst (λ (z : SkeletonStrand). MakesPart f.terms g.from z) e' g.part)),
  λ h. record { from = x; to = y; is_from = sym at; is_to = sym au; goes = h.0; part = h.1 },
)

pub pair_of_atoms : (xs ys : List AtomTerm) (i image : ℕ) (x y : AtomTerm) (t u : Term) → Some x ≡ item_at xs i → Some y ≡ item_at ys image →
    t ≡ atom_term x → u ≡ atom_term y → (f : SkeletonMap) → BecomesAtom xs ys i image f ↔ (apply_to f.terms t ≡ u)
pair_of_atoms xs ys i image x y t u at au is_t is_u f = (
  λ g.
      let d : Some g.from ≡ Some x = sym g.is_from ∙ sym at in
      let e : Some g.to ≡ Some y = sym g.is_to ∙ sym au in
      let d' : g.from ≡ x = cc in
      let e' : g.to ≡ y = cc in
      ap (apply_to f.terms) is_t ∙ ap atom_term (ap (apply_to_atom f.terms) (sym d') ∙ g.becomes ∙ e') ∙ sym is_u,
  λ e.
      let g : atom_term (apply_to_atom f.terms x) ≡ atom_term y = sym (ap (apply_to f.terms) is_t) ∙ e ∙ is_u in
      let g' : apply_to_atom f.terms x ≡ y = cc in
      record { from = x; to = y; is_from = sym at; is_to = sym au; becomes = g' },
)

module _ (xs ys : List UniqueAt) (i image : ℕ) (x y : UniqueAt) (at : Some x ≡ item_at xs i) (au : Some y ≡ item_at ys image) where
  from_is : (f : SkeletonMap) (g : BecomesUnique xs ys i image f) → g.from ≡ x
  from_is f g = let d : Some g.from ≡ Some x = sym g.is_from ∙ sym at in cc

  to_is : (f : SkeletonMap) (g : BecomesUnique xs ys i image f) → g.to ≡ y
  to_is f g = let d : Some g.to ≡ Some y = sym g.is_to ∙ sym au in cc

  pub no_pair_of_uniques : x.origin.index ≢ y.origin.index → (f : SkeletonMap) → BecomesUnique xs ys i image f → ⊥
  no_pair_of_uniques other f g = other (sym (ap (λ (u : UniqueAt). u.origin.index) (from_is f g)) ∙ g.index ∙ ap (λ (u : UniqueAt). u.origin.index) (to_is f g))

  pub pair_of_uniques : (s t : ℕ) (a b : Term) → x.origin.index ≡ y.origin.index → s ≡ x.origin.strand → t ≡ y.origin.strand → a ≡ atom_term x.value → b ≡ atom_term y.value →
      (f : SkeletonMap) → BecomesUnique xs ys i image f ↔ ((f.strands s ≡ t) × (apply_to f.terms a ≡ b))
  pair_of_uniques s t a b same is_s is_t is_a is_b f = (
    λ g. (
      ap f.strands is_s ∙ sym (ap (λ (u : UniqueAt). f.strands u.origin.strand) (from_is f g)) ∙ g.origin ∙ ap (λ (u : UniqueAt). u.origin.strand) (to_is f g) ∙ sym is_t,
      ap (apply_to f.terms) is_a
          ∙ ap atom_term (sym (ap (λ (v : UniqueAt). apply_to_atom f.terms v.value) (from_is f g)) ∙ g.becomes ∙ ap (λ (v : UniqueAt). v.value) (to_is f g))
          ∙ sym is_b,
    ),
    λ h.
        let g : atom_term (apply_to_atom f.terms x.value) ≡ atom_term y.value = sym (ap (apply_to f.terms) is_a) ∙ h.1 ∙ is_b in
        let g' : apply_to_atom f.terms x.value ≡ y.value = cc in
        record {
          from = x;
          to = y;
          is_from = sym at;
          is_to = sym au;
          becomes = g';
          origin = sym (ap f.strands is_s) ∙ h.0 ∙ is_t;
          index = same;
        },
  )

-- ---- what is known of items side by side, and maps that take them to each other

module _ (fact : SkeletonMap → Type 0) (found : Option Pairing) (pair : Pairing) (is : found ≡ Some pair) (pairs : IsPairing fact found) where
  here : (f : SkeletonMap) → fact f ↔ TakesPair pair f
  here = subst (IsPairing fact) is pairs

  pub finds_by_pair : (given : PartialMap) (answer : Option Partial) → FindsMaps (TakesPair pair) given answer → FindsMaps fact given answer
  finds_by_pair given answer h = finds_like (TakesPair pair) fact given answer (λ f. (here f).1) (λ f. (here f).0) h

  pub known_by_pair : (given : Partial) (known : Option Bool) → IsKnown (TakesPair pair) given known → IsKnown fact given known
  known_by_pair given None h = tt
  known_by_pair given (Some has) h = finds_by_pair (partial_view given) (if has then Some given else None) h

pub none_by_pair : (fact : SkeletonMap → Type 0) (found : Option Pairing) → found ≡ None → IsPairing fact found → (given : PartialMap) → IsOfNoExtension fact given
none_by_pair fact found is pairs given f follows h = (subst (IsPairing fact) is pairs) f h

-- One fact beside another.
pub finds_two : (d e : SkeletonMap → Type 0) (given found : PartialMap) (answer : Option Partial) →
    IsExtended d given found → FindsMaps e found answer → FindsMaps (λ f. d f × e f) given answer
finds_two d e given found answer h k = finds_both d e (λ f. d f × e f) given found answer (λ f a b. (a, b)) (λ f h. h.0) (λ f h. h.1) h k

pub known_two : (d e : SkeletonMap → Type 0) (given : Partial) (known : Option Bool) →
    IsKnown d given (Some true) → IsKnown e given known → IsKnown (λ f. d f × e f) given known
known_two d e given None h k = tt
known_two d e given (Some has) h k = finds_two d e (partial_view given) (partial_view given) (if has then Some given else None) h k

pub known_not : (d e : SkeletonMap → Type 0) (given : Partial) → IsKnown d given (Some false) → IsKnown (λ f. d f × e f) given (Some false)
known_not d e given h = λ f follows w. h f follows w.0
