-- The least number of a bound variable.
use Rattle.std.proofs.Common.{◌≡◌, ◌<◌, ◌≤◌, ◌+◌, ◌-◌, ◌∙◌, ℕ, List, [], ◌∷◌, length, get_or, drop, inr, min, refl, sym, ap, subst, take, arith}
use Rattle.cp_lists.proofs.Members.{drop_read}
use Rattle.cp_model.proofs.LawTerms.{term_unchanged}
use Rattle.cp_term.specs.Variables.{variable_of_sort, KeepsBelow}
use Rattle.cp_unify.specs.Bindings.{Binding, BindNoneBelow, as_substitution}
use Rattle.cp_unify.specs.Places.{IsRestAfter}
use Rattle.cp_unify.proofs.Looked.{not_here, variable_is_term, other_number}

pub lower : (m n : ℕ) (bs : List Binding) → m ≤ n → BindNoneBelow n bs → BindNoneBelow m bs
lower m n [] l h = tt
lower m n (b ∷ bs) l h = (omega (arith, l, h.0), lower m n bs l h.1)

-- Bindings with one more.
pub one_more : (m n least : ℕ) (b : Binding) (bs all : List Binding) → BindNoneBelow m bs → n ≡ b.variable.number → least ≡ min m n → all ≡ b ∷ bs →
    BindNoneBelow least all
one_more m n least b bs all h e l a = subst (BindNoneBelow least) (sym a) (omega (arith, e, l), lower least m bs (omega (arith, l)) h)

-- What was not seen yet decides.
abbrev pub IsLeastSoFar : ℕ → List Binding → List Binding → Type 0
IsLeastSoFar least rest bs = (n : ℕ) → n ≤ least → BindNoneBelow n rest → BindNoneBelow n bs

pub seen : (least next i : ℕ) (b : Binding) (bs : List Binding) → IsLeastSoFar least (drop i bs) bs → i < length bs → b ≡ get_or bs i b →
    next ≡ min least b.variable.number → IsLeastSoFar next (drop (i + 1) bs) bs
seen least next i b bs h below read e n l k =
    h n (omega (arith, l, e)) (subst (BindNoneBelow n) (sym (drop_read bs i b below read)) (omega (arith, l, e), k))

pub keeps_below : (least : ℕ) (bs : List Binding) → BindNoneBelow least bs → KeepsBelow least (as_substitution bs)
keeps_below least [] h sort n l = term_unchanged (variable_of_sort sort n)
keeps_below least (b ∷ bs) h sort n l =
    not_here b bs (variable_of_sort sort n) (variable_is_term sort n) (other_number sort n b (λ e. omega (arith, h.0, l, e)))
    ∙ keeps_below least bs h.1 sort n l

-- Behind the bindings of greater numbers nothing is left.
pub none_below : (n least : ℕ) (bs : List Binding) → BindNoneBelow least bs → n < least → IsRestAfter n [] bs
none_below n least [] h l = refl
none_below n least (b ∷ bs) h l = inr (λ e. omega (arith, h.0, l, e), none_below n least bs h.1 l)

pub none_at_end : (n least : ℕ) (items own all : List Binding) → own ≡ all → BindNoneBelow least own → n < least →
    IsRestAfter n (take (length items - length items) (drop (length items) items)) all
none_at_end n least items own all v h l =
    let zero : length items - length items ≡ 0 = omega arith in
    let none : take (length items - length items) (drop (length items) items) ≡ [] = ap (λ (k : ℕ). take k (drop (length items) items)) zero in
    subst (λ (bs : List Binding). IsRestAfter n bs all) (sym none) (subst (λ (bs : List Binding). IsRestAfter n [] bs) v (none_below n least own h l))
