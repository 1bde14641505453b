-- What the tests of a skeleton say.
use Rattle.std.proofs.Common.{◌≡◌, ◌↔◌, ◌⊎◌, inl, inr, ℕ, ◌+◌, ◌<◌, List, [], ◌∷◌, length, get_or, drop, Bool, true, false, refl, sym, subst, ◌∙◌, arith}
use Rattle.std.specs.Prelude.{◌==◌, not, Option, Some, None, IsNone, IfSome, IfNone, Result, Ok, Err, IfOk}
use Rattle.std.specs.Bool.{then_some}
use Rattle.std.proofs.lemmas.Bool.Decides.{nat_tests}
use Rattle.std.proofs.lemmas.List.{get_or_default}
use Rattle.cp_lists.specs.Lists.{IsIn, here}
use Rattle.cp_lists.proofs.Members.{next_or_rest}
use Rattle.cp_model.specs.Term.{Term}
use Rattle.cp_model.specs.declared.node.Node.{Node}
use Rattle.cp_model.specs.declared.node.OrderPair.{OrderPair}
use Rattle.cp_model.specs.Skeleton.{Skeleton}
use Rattle.cp_model.specs.Derivable.{DerivableAt}
use Rattle.cp_model.specs.Realisation.{AllDerivable}
use Rattle.cp_model.proofs.CarriedParts.{not_both}
use Rattle.cp_derive.specs.Unrealised.{ListsUnrealised}
use Rattle.cp_normal.specs.NormalForms.{IsNormal}
use Rattle.cp_general.specs.Fit.{IsFit}

-- ---- realised

pub realised_if : (k : Skeleton) (nodes : List Node) (count : ℕ) (empty : Bool) → ListsUnrealised k nodes → count ≡ length nodes → empty ≡ (count == 0) → (empty ≡ true) ↔ AllDerivable k
realised_if k nodes count empty lists size test = by_list nodes lists size
  where
    none : (n : Node) (t : Term) → IsIn n [] ⊎ DerivableAt k n t → DerivableAt k n t
    none n t (inl m) = elim m [ ]
    none n t (inr d) = d

    by_list : (ns : List Node) → ListsUnrealised k ns → count ≡ length ns → (empty ≡ true) ↔ AllDerivable k
    by_list [] l c = (λ e n t at. none n t (l.others n t at), λ a. let zero_is : (count == 0) ≡ true = grind (arith, nat_tests) in test ∙ zero_is)
    by_list (n ∷ ns) l c =
        let u = (l.each n).0 here in
        let more : (count == 0) ≡ false = grind (arith, nat_tests) in
        (λ e. absurd (not_both (test ∙ more) e), λ a. absurd (u.underivable (a n u.message u.reception)))

pub fit_if : (k : Skeleton) (normal : Bool) → AllDerivable k → (normal ≡ true) ↔ IsNormal k → (normal ≡ true) ↔ IsFit k
fit_if k normal all h = (λ e. record { normal = h.0 e; realised = all }, λ f. h.1 f.normal)

pub unfit_if : (k : Skeleton) (b : Bool) → (b ≡ true) ↔ AllDerivable k → b ≡ false → (false ≡ true) ↔ IsFit k
unfit_if k b h f = (λ e. absurd (not_both refl e), λ fit. absurd (not_both f (h.1 fit.realised)))

abbrev pub no_pair : OrderPair
no_pair = record { earlier = record { strand = 0; index = 0 }; later = record { strand = 0; index = 0 } }

-- ---- numbers in a list

pub other_next : (xs : List ℕ) (i x : ℕ) → i < length xs → (get_or xs i 0 ≡ x → ⊥) → (IsIn x xs → IsIn x (drop i xs)) → IsIn x xs → IsIn x (drop (i + 1) xs)
other_next xs i x l other so_far m = of (next_or_rest xs i x (get_or xs i 0) l (get_or_default xs i 0 (get_or xs i 0) l) (so_far m))
  where
    of : (get_or xs i 0 ≡ x) ⊎ IsIn x (drop (i + 1) xs) → IsIn x (drop (i + 1) xs)
    of (inl e) = absurd (other e)
    of (inr j) = j

-- ---- what is none

pub if_none : {A : Type 0} (o : Option A) → o ≡ None → IsNone o
if_none None e = refl
if_none (Some a) e = absurd (cc)

pub never_none : {A : Type 0} (o : Option A) (a : A) → o ≡ Some a → IsNone o → ⊥
never_none None a e h = absurd (cc)
never_none (Some b) a e h = cc

-- ---- what there is only where a test says so

pub some_if : {A : Type 0} (b : Bool) (x : A) (o : Option A) (P : A → Type 0) → o ≡ then_some b x → (b ≡ true → P x) → IfSome o P
some_if true x o P same h = subst (λ r. IfSome r P) (sym same) (h refl)
some_if false x o P same h = subst (λ r. IfSome r P) (sym same) tt

pub none_if : {A : Type 0} (b : Bool) (x : A) (o : Option A) (Q : Type 0) → o ≡ then_some b x → (b ≡ false → Q) → IfNone o Q
none_if true x o Q same h = subst (λ r. IfNone r Q) (sym same) tt
none_if false x o Q same h = subst (λ r. IfNone r Q) (sym same) (h refl)

-- what is found is so in two ways
pub both_some : {A E : Type 0} (r : Result (Option A) E) (P Q R : A → Type 0) → ((x : A) → P x → Q x → R x) → IfOk r (λ o. IfSome o P) → IfOk r (λ o. IfSome o Q) → IfOk r (λ o. IfSome o R)
both_some (Ok (Some x)) P Q R f p q = f x p q
both_some (Ok None) P Q R f p q = tt
both_some (Err e) P Q R f p q = tt

pub was_true : (b : Bool) → not b ≡ false → b ≡ true
was_true true e = refl
was_true false e = absurd (not_both e refl)
