-- The names of variables in a report are proper, where the identifiers after which they are named are.
use Rattle.std.proofs.Common.{◌≡◌, ℕ, zero, suc, ◌+◌, List, [], ◌∷◌, ◌++◌, length, Bool, true, false, refl, subst, arith, if◌then◌else◌, codes, decimal, ⊎_elim}
use Rattle.std.specs.Prelude.{Option, Some, None, ◌==◌}
use Rattle.std.proofs.lemmas.Bool.{both_ways, or_left, or_right, eq-eqb}
use Rattle.cp_lists.specs.Lists.{item_at, IsIn, here, there}
use Rattle.cp_lists.proofs.Members.{in_append}
use Rattle.cp_model.specs.declared.variable.Variable.{Variable}
use Rattle.cp_model.specs.declared.variable.Declaration.{Declaration}
use Rattle.cp_model.specs.Problem.{IsDeclared}
use Rattle.cp_language.specs.Words.{is_one_of}
use Rattle.cp_language.specs.Names.{numbered_name, first_numbered, free_name, identifiers_in, names_onto, first_of, behind, problem_names, has_number, later_names, label_names}
use Rattle.cp_language.specs.Report.{name_or_none}
use Rattle.cp_printable.specs.Proper.{IsSymbolText}
use Rattle.cp_printable.specs.Spelled.{AreSpelledDeclarations}
use Rattle.cp_printable.proofs.ProperWords.{token_bytes, proper_behind, decimal_is_token}

-- ---- a name that is given

proper_numbered : (x : List ℕ) (n : ℕ) → IsSymbolText x → IsSymbolText (numbered_name x n)
proper_numbered x n p = proper_behind (x ++ codes "-") (decimal n) (proper_behind x (codes "-") p (token_bytes (codes "-") refl)) (decimal_is_token n)

proper_first : (fuel : ℕ) (taken : List (List ℕ)) (x : List ℕ) (n : ℕ) → IsSymbolText x → IsSymbolText (first_numbered fuel taken x n)
proper_first zero taken x n p = proper_numbered x n p
proper_first (suc fuel) taken x n p = by (is_one_of (numbered_name x n) taken) (proper_first fuel taken x (suc n) p)
  where
    by : (b : Bool) → IsSymbolText (first_numbered fuel taken x (suc n)) → IsSymbolText (if b then first_numbered fuel taken x (suc n) else numbered_name x n)
    by true rest = rest
    by false rest = proper_numbered x n p

proper_free : (taken : List (List ℕ)) (x : List ℕ) → IsSymbolText x → IsSymbolText (free_name taken x)
proper_free taken x p = by (is_one_of x taken)
  where
    by : (b : Bool) → IsSymbolText (if b then first_numbered (length taken) taken x 0 else x)
    by true = proper_first (length taken) taken x 0 p
    by false = p

-- ---- the names of a problem

-- All of these are proper.
abbrev pub AreSymbolTexts : List (List ℕ) → Type 0
AreSymbolTexts ts = (t : List ℕ) → IsIn t ts → IsSymbolText t

proper_declared : (n : ℕ) (ds : List Declaration) → AreSpelledDeclarations IsSymbolText ds → AreSymbolTexts (identifiers_in (first_of n ds))
proper_declared zero ds each t m = elim m [ ]
proper_declared (suc n) [] each t m = elim m [ ]
proper_declared (suc n) (d ∷ ds) each t here = each d here
proper_declared (suc n) (d ∷ ds) each t (there m) = proper_declared n ds (λ c i. each c (there i)) t m

proper_onto : (taken : List (List ℕ)) (ds : List Declaration) → AreSpelledDeclarations IsSymbolText ds → AreSymbolTexts (names_onto taken ds)
proper_onto taken [] each t m = elim m [ ]
proper_onto taken (d ∷ ds) each t here = proper_free taken d.identifier (each d here)
proper_onto taken (d ∷ ds) each t (there m) = proper_onto (taken ++ free_name taken d.identifier ∷ []) ds (λ c i. each c (there i)) t m

in_behind : (n : ℕ) (ds : List Declaration) (d : Declaration) → IsIn d (behind n ds) → IsIn d ds
in_behind zero ds d m = m
in_behind (suc n) [] d m = m
in_behind (suc n) (c ∷ ds) d m = there (in_behind n ds d m)

-- The names of a problem's variables are proper.
pub proper_problem_names : (declared : ℕ) (ds : List Declaration) → AreSpelledDeclarations IsSymbolText ds → AreSymbolTexts (problem_names declared ds)
proper_problem_names declared ds each t m =
    let first : List (List ℕ) = identifiers_in (first_of declared ds) in
    ⊎_elim (λ i. proper_declared declared ds each t i) (λ i. proper_onto first (behind declared ds) (λ d j. each d (in_behind declared ds d j)) t i)
    (in_append first (names_onto first (behind declared ds)) m)

-- ---- the names of a label

-- The name at this place is proper.
abbrev pub IsNamedAt : List (List ℕ) → ℕ → Type 0
IsNamedAt names n = IsSymbolText (name_or_none (item_at names n))

pub number_occurs : (xs : List Variable) (x : Variable) → IsIn x xs → has_number xs x.number ≡ true
number_occurs [] x m = elim m [ ]
number_occurs (y ∷ xs) x here = or_left (x.number == x.number) (has_number xs x.number) (eq-eqb x.number x.number refl)
number_occurs (y ∷ xs) x (there m) = or_right (y.number == x.number) (has_number xs x.number) (number_occurs xs x m)

-- A declared variable has a declaration at its number.
pub has_declaration : (ds : List Declaration) (x : Variable) → IsDeclared ds x → (d : Declaration) × (item_at ds x.number ≡ Some d)
has_declaration ds x h = by (item_at ds x.number) refl h
  where
    by : (o : Option Declaration) → item_at ds x.number ≡ o → IsDeclared ds x → (d : Declaration) × (item_at ds x.number ≡ Some d)
    by None e g = let f = g in absurd (cc)
    by (Some d) e g = (d, e)

module _ (occurs : List Variable) where
  -- the other variables of a label that occur
  later_named : (taken : List (List ℕ)) (n : ℕ) (ds : List Declaration) → AreSpelledDeclarations IsSymbolText ds → (j : ℕ) (d : Declaration) → item_at ds j ≡ Some d → has_number occurs (n + j) ≡ true
      → IsNamedAt (later_names taken occurs n ds) j
  later_named taken n [] each j d e h = absurd (cc)
  later_named taken n (c ∷ ds) each j d e h = by (has_number occurs n) refl j e h (λ ts k f g. later_named ts (suc n) ds (λ b i. each b (there i)) k d f g)
    where
      x : List ℕ
      x = free_name taken c.identifier

      at_first : n + 0 ≡ n
      at_first = omega arith

      one_on : (k : ℕ) → has_number occurs (n + suc k) ≡ true → has_number occurs (suc n + k) ≡ true
      one_on k g = let z : n + suc k ≡ suc n + k = omega arith in subst (λ (i : ℕ). has_number occurs i ≡ true) z g

      by : (b : Bool) → has_number occurs n ≡ b → (j : ℕ) → item_at (c ∷ ds) j ≡ Some d → has_number occurs (n + j) ≡ true
          → ((ts : List (List ℕ)) (k : ℕ) → item_at ds k ≡ Some d → has_number occurs (suc n + k) ≡ true → IsNamedAt (later_names ts occurs (suc n) ds) k)
          → IsNamedAt (if b then x ∷ later_names (taken ++ x ∷ []) occurs (suc n) ds else [] ∷ later_names taken occurs (suc n) ds) j
      by true p zero f g rest = proper_free taken c.identifier (each c here)
      by false p zero f g rest = absurd (both_ways (has_number occurs n) p (subst (λ (i : ℕ). has_number occurs i ≡ true) at_first g))
      by true p (suc k) f g rest = rest (taken ++ x ∷ []) k f (one_on k g)
      by false p (suc k) f g rest = rest taken k f (one_on k g)

  -- a name of the front, or one of those behind
  front_or_behind : (names others : List (List ℕ)) (ds : List Declaration) (n : ℕ) (d : Declaration) → AreSymbolTexts names → item_at ds n ≡ Some d
      → ((k : ℕ) → item_at (behind (length names) ds) k ≡ Some d → n ≡ length names + k → IsNamedAt others k) → IsNamedAt (names ++ others) n
  front_or_behind [] others ds n d each e f = f n e (omega arith)
  front_or_behind (t ∷ names) others [] n d each e f = absurd (cc)
  front_or_behind (t ∷ names) others (c ∷ ds) zero d each e f = each t here
  front_or_behind (t ∷ names) others (c ∷ ds) (suc n) d each e f = front_or_behind names others ds n d (λ u m. each u (there m)) e (λ k g q. f k g (omega arith))

  -- The name of a declared variable that occurs in a label is proper.
  pub label_named : (names : List (List ℕ)) (ds : List Declaration) → AreSymbolTexts names → AreSpelledDeclarations IsSymbolText ds → (n : ℕ) (d : Declaration) → item_at ds n ≡ Some d
      → has_number occurs n ≡ true → IsNamedAt (label_names names occurs ds) n
  label_named names ds proper each n d e h =
      front_or_behind names (later_names names occurs (length names) (behind (length names) ds)) ds n d proper e
      (λ k f q. later_named names (length names) (behind (length names) ds) (λ c m. each c (in_behind (length names) ds c m)) k d f (subst (λ (i : ℕ). has_number occurs i ≡ true) q h))
