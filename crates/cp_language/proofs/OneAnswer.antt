-- Forms have exactly one answer: their input, or the first of their faults.
use Rattle.std.proofs.Common.{◌≡◌, ℕ, ◌⊎◌, inl, inr, List, [], ◌∷◌, true, false, refl, sym, ◌∙◌, ap, subst, arith}
use Rattle.std.specs.Prelude.{Result, Ok, Err, Option, Some, None, nat_lt, ◌==◌, ◌||◌, ◌&&◌}
use Rattle.std.proofs.lemmas.Bool.Decides.{nat_tests}
use Rattle.cp_base.specs.declared.place.Code.{Code}
use Rattle.cp_base.specs.declared.place.Code.TheVariants.{BadByte, OpenString, Unbalanced, TooDeep, BadNumber, Unclosed, UnknownForm, OutOfProfile, BadShape, DuplicateProtocol, DuplicateRole, UnknownProtocol, UnknownRole, UnknownSort, MesgVar, DuplicateVar, BadHeight, UnknownVar, NotInPrefix, IllSorted, KeySort, NotAtom, RoleUniqNoOrigin, UniqNowhere, BadNode, CyclicOrder}
use Rattle.cp_base.specs.declared.place.Refusal.{Refusal}
use Rattle.cp_lists.specs.Lists.{item_at, IsIn, here, there}
use Rattle.cp_lists.proofs.Members.{none_in_empty}
use Rattle.cp_sexpr.specs.Syntax.{Forms}
use Rattle.cp_language.specs.FirstFault.{rank_of, refusal_before, IsFirstFault}
use Rattle.cp_language.specs.Input.{Entry, faults_of, input_of}
use Rattle.cp_language.specs.StatedInput.{IsInput}

-- ---- the kinds of faults by their rank

all_codes : List Code
all_codes = BadByte ∷ OpenString ∷ Unbalanced ∷ TooDeep ∷ BadNumber ∷ Unclosed ∷ UnknownForm ∷ OutOfProfile ∷ BadShape ∷ DuplicateProtocol ∷ DuplicateRole ∷ UnknownProtocol ∷ UnknownRole ∷ UnknownSort ∷ MesgVar ∷ DuplicateVar ∷ BadHeight ∷ UnknownVar ∷ NotInPrefix ∷ IllSorted ∷ KeySort ∷ NotAtom ∷ RoleUniqNoOrigin ∷ UniqNowhere ∷ BadNode ∷ CyclicOrder ∷ []

code_or_first : Option Code → Code
code_or_first None = BadByte
code_or_first (Some c) = c

code_of_rank : ℕ → Code
unfolding all_codes code_or_first
code_of_rank n = code_or_first (item_at all_codes n)

code_back : (c : Code) → code_of_rank (rank_of c) ≡ c
unfolding all_codes code_or_first code_of_rank
code_back BadByte = refl
code_back OpenString = refl
code_back Unbalanced = refl
code_back TooDeep = refl
code_back BadNumber = refl
code_back Unclosed = refl
code_back UnknownForm = refl
code_back OutOfProfile = refl
code_back BadShape = refl
code_back DuplicateProtocol = refl
code_back DuplicateRole = refl
code_back UnknownProtocol = refl
code_back UnknownRole = refl
code_back UnknownSort = refl
code_back MesgVar = refl
code_back DuplicateVar = refl
code_back BadHeight = refl
code_back UnknownVar = refl
code_back NotInPrefix = refl
code_back IllSorted = refl
code_back KeySort = refl
code_back NotAtom = refl
code_back RoleUniqNoOrigin = refl
code_back UniqNowhere = refl
code_back BadNode = refl
code_back CyclicOrder = refl

same_rank : (c d : Code) → rank_of c ≡ rank_of d → c ≡ d
same_rank c d e = sym (code_back c) ∙ ap code_of_rank e ∙ code_back d

-- ---- the order of faults

-- neither comes before the other: line, column and rank are the same
same_numbers : (l m c d a b : ℕ) →
    (nat_lt l m || ((l == m) && (nat_lt c d || ((c == d) && nat_lt a b)))) ≡ false →
    (nat_lt m l || ((m == l) && (nat_lt d c || ((d == c) && nat_lt b a)))) ≡ false → (l ≡ m) × (c ≡ d) × (a ≡ b)
same_numbers l m c d a b g h = grind (arith, nat_tests)

-- of three, what the first comes before, and the second does not come before the third
pub not_before : (l m n c d e a b f : ℕ) →
    (nat_lt m l || ((m == l) && (nat_lt d c || ((d == c) && nat_lt b a)))) ≡ false →
    (nat_lt n m || ((n == m) && (nat_lt e d || ((e == d) && nat_lt f b)))) ≡ false →
    (nat_lt n l || ((n == l) && (nat_lt e c || ((e == c) && nat_lt f a)))) ≡ false
not_before l m n c d e a b f g h = grind (arith, nat_tests)

pub not_before_self : (l c a : ℕ) → (nat_lt l l || ((l == l) && (nat_lt c c || ((c == c) && nat_lt a a)))) ≡ false
not_before_self l c a = grind (arith, nat_tests)

pub not_both : (l m c d a b : ℕ) →
    (nat_lt l m || ((l == m) && (nat_lt c d || ((c == d) && nat_lt a b)))) ≡ true →
    (nat_lt m l || ((m == l) && (nat_lt d c || ((d == c) && nat_lt b a)))) ≡ false
not_both l m c d a b g = grind (arith, nat_tests)

same_fault : (r s : Refusal) → refusal_before r s ≡ false → refusal_before s r ≡ false → r ≡ s
same_fault r s g h =
    let e = same_numbers r.place.line s.place.line r.place.col s.place.col (rank_of r.code) (rank_of s.code) g h in
    let c : r.code ≡ s.code = same_rank r.code s.code e.2 in
    λ i. record { place = record { line = e.0 i; col = e.1 i }; code = c i }

-- a list of faults has one first fault at most
pub one_first : (faults : List Refusal) (r s : Refusal) → IsFirstFault faults r → IsFirstFault faults s → r ≡ s
one_first faults r s g h = same_fault r s (h.first r g.listed) (g.first s h.listed)

-- and one if it is not empty
IsFirstOf : Refusal → List Refusal → Type 0
IsFirstOf r faults = (s : Refusal) → IsIn s faults → refusal_before s r ≡ false

earlier : (r s : Refusal) → (refusal_before r s ≡ true) ⊎ (refusal_before r s ≡ false)
earlier r s = elim (refusal_before r s) as (λ b. (b ≡ true) ⊎ (b ≡ false)) [ true ↦ inl refl | false ↦ inr refl ]

pub first_fault : (r : Refusal) (faults : List Refusal) → (s : Refusal) × IsFirstFault (r ∷ faults) s
first_fault r [] = (r, record { listed = here; first = only })
  where
    only : (s : Refusal) → IsIn s (r ∷ []) → refusal_before s r ≡ false
    only s here = not_before_self r.place.line r.place.col (rank_of r.code)
    only s (there m) = elim m [ ]
first_fault r (q ∷ qs) = with_first (first_fault q qs)
  where
    with_first : ((s : Refusal) × IsFirstFault (q ∷ qs) s) → (s : Refusal) × IsFirstFault (r ∷ q ∷ qs) s
    with_first (s, h) = choose (earlier r s)
      where
        choose : (refusal_before r s ≡ true) ⊎ (refusal_before r s ≡ false) → (t : Refusal) × IsFirstFault (r ∷ q ∷ qs) t
        choose (inl b) = (r, record { listed = here; first = all })
          where
            all : (t : Refusal) → IsIn t (r ∷ q ∷ qs) → refusal_before t r ≡ false
            all t here = not_before_self r.place.line r.place.col (rank_of r.code)
            all t (there m) = not_before r.place.line s.place.line t.place.line r.place.col s.place.col t.place.col (rank_of r.code) (rank_of s.code) (rank_of t.code)
                (not_both r.place.line s.place.line r.place.col s.place.col (rank_of r.code) (rank_of s.code) b) (h.first t m)
        choose (inr b) = (s, record { listed = there h.listed; first = all })
          where
            all : (t : Refusal) → IsIn t (r ∷ q ∷ qs) → refusal_before t s ≡ false
            all t here = b
            all t (there m) = h.first t m

-- ---- answers

pub one_answer : (fs : Forms) (a b : Result (List Entry) Refusal) → IsInput fs a → IsInput fs b → a ≡ b
one_answer fs (Ok es) (Ok es') g h = ap Ok (g.1 ∙ sym h.1)
one_answer fs (Ok es) (Err r) g h = absurd (none_in_empty g.0 h.listed)
one_answer fs (Err r) (Ok es) g h = absurd (none_in_empty h.0 g.listed)
one_answer fs (Err r) (Err s) g h = ap Err (one_first (faults_of fs) r s g h)

some_by : (fs : Forms) (faults : List Refusal) → faults_of fs ≡ faults → (a : Result (List Entry) Refusal) × IsInput fs a
some_by fs [] e = (Ok (input_of fs), (e, refl))
some_by fs (r ∷ rs) e = let f = first_fault r rs in (Err f.0, subst (λ l. IsFirstFault l f.0) (sym e) f.1)

pub some_answer : (fs : Forms) → (a : Result (List Entry) Refusal) × IsInput fs a
some_answer fs = some_by fs (faults_of fs) refl
