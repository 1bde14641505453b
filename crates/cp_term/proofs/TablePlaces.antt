-- Where a term is found in a table.
use Rattle.std.proofs.Common.{◌≡◌, ◌<◌, ◌+◌, ℕ, zero, suc, Bool, true, false, not, cond, List, [], ◌∷◌, length, position, slice_get, Option, Some, None, IfSome, IsSome, is_some, nat_lt, refl, sym, ap, ◌∙◌, arith}
use Rattle.std.proofs.lemmas.Bool.Decides.{Decides-ltb}
use Rattle.std.specs.List.{position_or_len}
use Rattle.cp_model.specs.Term.{Term}
use Rattle.cp_model.specs.Same.{same_term}
use Rattle.cp_model.proofs.SameTests.{term_is, is_term}

pub term_there : (t : Term) (us : List Term) (r : Option ℕ) → IfSome r (λ i. (x : Term) × (slice_get us i ≡ Some x) × (same_term t x ≡ true)) → IfSome r (λ i. slice_get us i ≡ Some t)
term_there t us None h = tt
term_there t us (Some i) h = h.1 ∙ ap Some (sym (term_is t h.0 h.2))

first_within : (t : Term) (us : List Term) (i : ℕ) → slice_get us i ≡ Some t → position_or_len (same_term t) us < length us
first_within t [] i at = absurd (cc)
first_within t (u ∷ us) i at = by (first_within t us) i at (same_term t u) refl
  where
    by : ((j : ℕ) → slice_get us j ≡ Some t → position_or_len (same_term t) us < length us) → (j : ℕ) → slice_get (u ∷ us) j ≡ Some t → (b : Bool) → same_term t u ≡ b → position_or_len (same_term t) (u ∷ us) < length (u ∷ us)
    by rest j here true e =
        let first : position_or_len (same_term t) (u ∷ us) ≡ 0 = ap (λ (c : Bool). cond (not c) (1 + position_or_len (same_term t) us) 0) e in
        omega (arith, first)
    by rest zero here false e = let q : u ≡ t = cc in absurd (let h : true ≡ false = sym (is_term t u (sym q)) ∙ e in cc)
    by rest (suc j) here false e =
        let later : position_or_len (same_term t) (u ∷ us) ≡ 1 + position_or_len (same_term t) us = ap (λ (c : Bool). cond (not c) (1 + position_or_len (same_term t) us) 0) e in
        let h = rest j here in
        omega (arith, later, h)

pub present_is_found : (t : Term) (us : List Term) (r : Option ℕ) → r ≡ position (same_term t) us → (i : ℕ) → slice_get us i ≡ Some t → IsSome r
present_is_found t us r is i at =
    let below = first_within t us i at in
    let test : nat_lt (position_or_len (same_term t) us) (length us) ≡ true = (Decides-ltb (position_or_len (same_term t) us) (length us)).1 below in
    ap is_some is ∙ ap (λ (b : Bool). is_some (cond b (Some (position_or_len (same_term t) us)) None)) test
