-- The variables of a label form as they are printed fit, and each name stands for its variable, numbered anew among those
-- that occur.
use Rattle.std.proofs.Common.{◌≡◌, ◌⊎◌, inl, inr, ℕ, zero, suc, ◌+◌, ◌<◌, ◌≤◌, ◌==◌, List, [], ◌∷◌, ◌++◌, length, Bool, true, false, refl, sym, ap, ◌∙◌, subst, arith, if◌then◌else◌}
use Rattle.std.specs.Prelude.{Option, Some, None, map, not}
use Rattle.std.proofs.lemmas.Bool.{cases_lt, false_from_ne_true, or_left, or_right, eq-eqb}
use Rattle.cp_lists.specs.Lists.{item_at, IsIn, here, there}
use Rattle.cp_lists.proofs.Items.{item_there}
use Rattle.cp_lists.proofs.Members.{head_or_behind}
use Rattle.cp_model.specs.declared.sort.Sort.{Sort}
use Rattle.cp_model.specs.declared.sort.Sort.TheVariants.{Text as text_sort, Datum as datum_sort, Name as name_sort, Skey as skey_sort, Akey as akey_sort}
use Rattle.cp_model.specs.declared.variable.Variable.{Variable}
use Rattle.cp_model.specs.declared.variable.Declaration.{Declaration}
use Rattle.cp_model.specs.Problem.{IsDeclared}
use Rattle.cp_model.specs.Same.{same_text}
use Rattle.cp_model.proofs.SameTests.{text_is, same_text_itself}
use Rattle.cp_sexpr.specs.Syntax.{Form}
use Rattle.cp_language.specs.Words.{is_one_of}
use Rattle.cp_language.specs.Terms.{variable_from, variable_named}
use Rattle.cp_language.specs.Roles.{sort_named, sort_or_text}
use Rattle.cp_language.specs.Names.{has_number, sort_text}
use Rattle.cp_language.specs.Printed.{word, plain_list, no_place}
use Rattle.cp_language.specs.Report.{name_or_none, named_by, vars_from}
use Rattle.cp_language.proofs.ValidTests.{one_of}
use Rattle.cp_report.specs.Misfits.{misfit_unless}
use Rattle.cp_report.specs.Spelled.{Scope, names_sort}
use Rattle.cp_report.specs.Skeletons.{vars_misfits, declaration_of}
use Rattle.cp_report.specs.UpToNames.{variable_numbered, renamed, IsOneToOne}
use Rattle.cp_report.proofs.DistinctNames.{DifferWhereOccurring}
use Rattle.cp_report.proofs.SpelledTerms.{StandsFor, identifier_stands}

sort_is_named : (s : Sort) → names_sort (sort_text s) ≡ true
sort_is_named text_sort = refl
sort_is_named datum_sort = refl
sort_is_named name_sort = refl
sort_is_named skey_sort = refl
sort_is_named akey_sort = refl

sort_back : (s : Sort) → sort_or_text (sort_named (Some (word (sort_text s)))) ≡ s
sort_back text_sort = refl
sort_back datum_sort = refl
sort_back name_sort = refl
sort_back skey_sort = refl
sort_back akey_sort = refl

-- How many of the numbers below n occur.
abbrev pub rank : List Variable → ℕ → ℕ
rank occurs zero = 0
rank occurs (suc n) = if has_number occurs n then suc (rank occurs n) else rank occurs n

-- The variables are numbered anew, in their order.
abbrev pub renumbered : List Variable → Variable → ℕ
renumbered occurs x = rank occurs x.number

-- The declaration of a declared variable.
pub declared_there : (ds : List Declaration) (x : Variable) → IsDeclared ds x → (d : Declaration) × (item_at ds x.number ≡ Some d) × (d.sort ≡ x.sort)
declared_there ds x h = by (item_at ds x.number) refl h
  where
    by : (o : Option Declaration) → item_at ds x.number ≡ o → IsDeclared ds x → (d : Declaration) × (item_at ds x.number ≡ Some d) × (d.sort ≡ x.sort)
    by None e g = let f = g in absurd (cc)
    by (Some d) e g = let f = g in (d, e, cc)

-- ---- numbers that occur

pub number_occurs : (xs : List Variable) (x : Variable) → IsIn x xs → has_number xs x.number ≡ true
number_occurs [] x m = elim m [ ]
number_occurs (y ∷ xs) x here = or_left (x.number == x.number) (has_number xs x.number) (eq-eqb x.number x.number refl)
number_occurs (y ∷ xs) x (there m) = or_right (y.number == x.number) (has_number xs x.number) (number_occurs xs x m)

module _ (occurs : List Variable) where
  next_rank : (n : ℕ) → has_number occurs n ≡ true → rank occurs (suc n) ≡ suc (rank occurs n)
  next_rank n e = ap (λ (b : Bool). if b then suc (rank occurs n) else rank occurs n) e

  same_rank : (n : ℕ) → has_number occurs n ≡ false → rank occurs (suc n) ≡ rank occurs n
  same_rank n e = ap (λ (b : Bool). if b then suc (rank occurs n) else rank occurs n) e

  rank_grows : (n : ℕ) → rank occurs n ≤ rank occurs (suc n)
  rank_grows n = by (has_number occurs n)
    where
      by : (b : Bool) → rank occurs n ≤ (if b then suc (rank occurs n) else rank occurs n)
      by true = omega arith
      by false = omega arith

  rank_at_most : (i j : ℕ) → i ≤ j → rank occurs i ≤ rank occurs j
  rank_at_most i zero l = let e : i ≡ 0 = omega arith in subst (λ (k : ℕ). rank occurs k ≤ 0) (sym e) (omega arith)
  rank_at_most i (suc j) l = by (cases_lt j i) (rank_at_most i j)
    where
      by : (j < i) ⊎ (i ≤ j) → (i ≤ j → rank occurs i ≤ rank occurs j) → rank occurs i ≤ rank occurs (suc j)
      by (inl less) rest = let e : suc j ≡ i = omega arith in subst (λ (k : ℕ). rank occurs k ≤ rank occurs (suc j)) e (omega arith)
      by (inr more) rest = omega (arith, rest more, rank_grows j)

  pub rank_less : (i j : ℕ) → has_number occurs i ≡ true → i < j → rank occurs i < rank occurs j
  rank_less i j e l = omega (arith, next_rank i e, rank_at_most (suc i) j (omega arith))

  one_rank : (i j : ℕ) → has_number occurs i ≡ true → has_number occurs j ≡ true → rank occurs i ≡ rank occurs j → i ≡ j
  one_rank i j e f same = by (cases_lt i j) (cases_lt j i)
    where
      by : (i < j) ⊎ (j ≤ i) → (j < i) ⊎ (i ≤ j) → i ≡ j
      by (inl l) m = absurd (omega (arith, rank_less i j e l, same))
      by (inr l) (inl m) = absurd (omega (arith, rank_less j i f m, same))
      by (inr l) (inr m) = omega arith

  -- No two variables that occur get one number.
  pub one_to_one : IsOneToOne (renumbered occurs) occurs
  one_to_one x y i j e =
      let s : x.sort ≡ y.sort = ap (λ (v : Variable). v.sort) e in
      let n : x.number ≡ y.number = one_rank x.number y.number (number_occurs occurs x i) (number_occurs occurs y j) (ap (λ (v : Variable). v.number) e) in
      λ i. record { sort = s i; number = n i }

  module _ (names : List (List ℕ)) where
    abbrev name_of : ℕ → List ℕ
    name_of n = name_or_none (item_at names n)

    -- The variables that occur with their names, the first of the list having number n.
    abbrev pub occurring_from : ℕ → List Declaration → List Declaration
    occurring_from n [] = []
    occurring_from n (d ∷ ds) =
        if has_number occurs n then record { identifier = name_or_none (item_at names n); sort = d.sort } ∷ occurring_from (suc n) ds else occurring_from (suc n) ds

    -- The rank of the number behind them tells how many occur.
    pub rank_behind : (n : ℕ) (ds : List Declaration) → rank occurs (n + length ds) ≡ rank occurs n + length (occurring_from n ds)
    rank_behind n [] = let z : n + 0 ≡ n = omega arith in ap (rank occurs) z ∙ omega arith
    rank_behind n (d ∷ ds) = by (has_number occurs n) refl (rank_behind (suc n) ds)
      where
        z : n + suc (length ds) ≡ suc n + length ds
        z = omega arith

        by : (b : Bool) → has_number occurs n ≡ b → rank occurs (suc n + length ds) ≡ rank occurs (suc n) + length (occurring_from (suc n) ds)
            → rank occurs (n + suc (length ds)) ≡ rank occurs n + length (if b then record { identifier = name_or_none (item_at names n); sort = d.sort } ∷ occurring_from (suc n) ds else occurring_from (suc n) ds)
        by true e rest = ap (rank occurs) z ∙ rest ∙ omega (arith, next_rank n e)
        by false e rest = ap (rank occurs) z ∙ rest ∙ omega (arith, same_rank n e)

    abbrev entry : ℕ → Declaration → Form
    entry n d = plain_list (word (name_of n) ∷ word (sort_text d.sort) ∷ [])

    -- What is printed of the variables is read back.
    pub variables_back : (n : ℕ) (ds : List Declaration) → map declaration_of (vars_from names occurs n ds) ≡ occurring_from n ds
    variables_back n [] = refl
    variables_back n (d ∷ ds) = by (has_number occurs n) (variables_back (suc n) ds)
      where
        one : declaration_of (entry n d) ≡ record { identifier = name_of n; sort = d.sort }
        one = ap (λ (s : Sort). record { identifier = name_of n; sort = s }) (sort_back d.sort)

        by : (b : Bool) → map declaration_of (vars_from names occurs (suc n) ds) ≡ occurring_from (suc n) ds
            → map declaration_of (if b then entry n d ∷ vars_from names occurs (suc n) ds else vars_from names occurs (suc n) ds)
            ≡ (if b then record { identifier = name_of n; sort = d.sort } ∷ occurring_from (suc n) ds else occurring_from (suc n) ds)
        by true e = ap (λ (c : Declaration). c ∷ map declaration_of (vars_from names occurs (suc n) ds)) one ∙ ap (λ (cs : List Declaration). record { identifier = name_of n; sort = d.sort } ∷ cs) e
        by false e = e

    module _ (differ : DifferWhereOccurring occurs names) where
      one_number : (i j : ℕ) → i < length names → j < length names → has_number occurs i ≡ true → has_number occurs j ≡ true → name_of i ≡ name_of j → i ≡ j
      one_number i j l m e f same =
          let a = item_there names i l in
          let b = item_there names j m in
          let equal : a.0 ≡ b.0 = sym (ap name_or_none a.1) ∙ same ∙ ap name_or_none b.1 in
          differ i j b.0 e f (a.1 ∙ ap (λ (t : List ℕ). Some t) equal) b.1

      -- these are names of variables before number n
      abbrev AreBefore : ℕ → List (List ℕ) → Type 0
      AreBefore n before = (t : List ℕ) → IsIn t before → (k : ℕ) × (k < n) × (has_number occurs k ≡ true) × (name_of k ≡ t)

      not_before : (n : ℕ) (before : List (List ℕ)) → n < length names → has_number occurs n ≡ true → AreBefore n before → is_one_of (name_of n) before ≡ false
      not_before n before l e all = false_from_ne_true (is_one_of (name_of n) before) none
        where
          none : is_one_of (name_of n) before ≡ true → ⊥
          none h =
              let r = all (name_of n) (one_of (name_of n) before h) in
              let k : ℕ = r.0 in
              let less : k < n = r.1 in
              let same : k ≡ n = one_number k n (omega arith) l r.2 e r.3 in
              absurd (omega arith)

      one_further : (n : ℕ) (before : List (List ℕ)) → has_number occurs n ≡ true → AreBefore n before → AreBefore (suc n) (name_of n ∷ before)
      one_further n before e all t m = by (head_or_behind m)
        where
          by : (t ≡ name_of n) ⊎ IsIn t before → (k : ℕ) × (k < suc n) × (has_number occurs k ≡ true) × (name_of k ≡ t)
          by (inl same) = (n, omega arith, e, sym same)
          by (inr i) = let r = all t i in let less : r.0 < n = r.1 in (r.0, omega arith, r.2, r.3)

      later_too : (n : ℕ) (before : List (List ℕ)) → AreBefore n before → AreBefore (suc n) before
      later_too n before all t m = let r = all t m in let less : r.0 < n = r.1 in (r.0, omega arith, r.2, r.3)

      variables_fit_behind : (before : List (List ℕ)) (n : ℕ) (ds : List Declaration) → n + length ds ≤ length names → AreBefore n before → vars_misfits before (vars_from names occurs n ds) ≡ []
      variables_fit_behind before n [] enough all = refl
      variables_fit_behind before n (d ∷ ds) enough all = by (has_number occurs n) refl (λ b a. variables_fit_behind b (suc n) ds (omega arith) a)
        where
          below : n < length names
          below = omega (arith, enough)

          by : (b : Bool) → has_number occurs n ≡ b → ((c : List (List ℕ)) → AreBefore (suc n) c → vars_misfits c (vars_from names occurs (suc n) ds) ≡ [])
              → vars_misfits before (if b then entry n d ∷ vars_from names occurs (suc n) ds else vars_from names occurs (suc n) ds) ≡ []
          by true e rest =
              ap (λ (b : Bool). (misfit_unless (not b) no_place ++ (misfit_unless (names_sort (sort_text d.sort)) no_place ++ [])) ++ vars_misfits (name_of n ∷ before) (vars_from names occurs (suc n) ds)) (not_before n before below e all)
              ∙ ap (λ (b : Bool). (misfit_unless b no_place ++ []) ++ vars_misfits (name_of n ∷ before) (vars_from names occurs (suc n) ds)) (sort_is_named d.sort)
              ∙ rest (name_of n ∷ before) (one_further n before e all)
          by false e rest = rest before (later_too n before all)

      -- What is printed of the variables fits.
      pub variables_fit : (ds : List Declaration) → length ds ≤ length names → vars_misfits [] (vars_from names occurs 0 ds) ≡ []
      variables_fit ds enough = variables_fit_behind [] 0 ds (omega arith) (λ t m. elim m [ ])

      abbrev FoundAt : ℕ → List Declaration → ℕ → Declaration → Type 0
      FoundAt n ds j d = variable_from (rank occurs n) (occurring_from n ds) (name_of (n + j)) ≡ Some (variable_numbered d.sort (rank occurs (n + j)))

      found : (n : ℕ) (ds : List Declaration) (j : ℕ) (d : Declaration) → n + length ds ≤ length names → item_at ds j ≡ Some d → has_number occurs (n + j) ≡ true → FoundAt n ds j d
      found n [] j d enough at occurring = absurd (cc)
      found n (c ∷ ds) zero d enough at occurring =
          let z : n + 0 ≡ n = omega arith in
          let here_it : has_number occurs n ≡ true = subst (λ (k : ℕ). has_number occurs k ≡ true) z occurring in
          let same : c ≡ d = cc in
          subst (λ (k : ℕ). variable_from (rank occurs n) (occurring_from n (c ∷ ds)) (name_of k) ≡ Some (variable_numbered d.sort (rank occurs k))) (sym z)
          (ap (λ (b : Bool). variable_from (rank occurs n) (if b then record { identifier = name_of n; sort = c.sort } ∷ occurring_from (suc n) ds else occurring_from (suc n) ds) (name_of n)) here_it
          ∙ ap (λ (b : Bool). if b then Some (variable_numbered c.sort (rank occurs n)) else variable_from (suc (rank occurs n)) (occurring_from (suc n) ds) (name_of n)) (same_text_itself (name_of n))
          ∙ ap (λ (x : Declaration). Some (variable_numbered x.sort (rank occurs n))) same)
      found n (c ∷ ds) (suc j) d enough at occurring = by (has_number occurs n) refl (found (suc n) ds j d (omega arith) at)
        where
          z : suc n + j ≡ n + suc j
          z = omega arith

          occurring_there : has_number occurs (suc n + j) ≡ true
          occurring_there = subst (λ (k : ℕ). has_number occurs k ≡ true) (sym z) occurring

          below : n < length names
          below = omega (arith, enough)

          there_below : (length ds ≤ j → ⊥) → suc n + j < length names
          there_below l = omega (arith, enough, l)

          not_past : length ds ≤ j → ⊥
          not_past l = past ds j at l
            where
              past : (es : List Declaration) (i : ℕ) → item_at es i ≡ Some d → length es ≤ i → ⊥
              past [] i e m = absurd (cc)
              past (x ∷ es) zero e m = omega arith
              past (x ∷ es) (suc i) e m = past es i e (omega arith)

          other : has_number occurs n ≡ true → same_text (name_of n) (name_of (suc n + j)) ≡ false
          other e = false_from_ne_true (same_text (name_of n) (name_of (suc n + j))) (λ h.
              let same : n ≡ suc n + j = one_number n (suc n + j) below (there_below not_past) e occurring_there (text_is (name_of n) (name_of (suc n + j)) h) in absurd (omega arith))

          moved : variable_from (rank occurs n) (occurring_from n (c ∷ ds)) (name_of (suc n + j)) ≡ Some (variable_numbered d.sort (rank occurs (suc n + j))) → FoundAt n (c ∷ ds) (suc j) d
          moved h = subst (λ (k : ℕ). variable_from (rank occurs n) (occurring_from n (c ∷ ds)) (name_of k) ≡ Some (variable_numbered d.sort (rank occurs k))) z h

          by : (b : Bool) → has_number occurs n ≡ b → (has_number occurs (suc n + j) ≡ true → FoundAt (suc n) ds j d) → FoundAt n (c ∷ ds) (suc j) d
          by true e rest =
              moved (ap (λ (b : Bool). variable_from (rank occurs n) (if b then record { identifier = name_of n; sort = c.sort } ∷ occurring_from (suc n) ds else occurring_from (suc n) ds) (name_of (suc n + j))) e
              ∙ ap (λ (b : Bool). if b then Some (variable_numbered c.sort (rank occurs n)) else variable_from (suc (rank occurs n)) (occurring_from (suc n) ds) (name_of (suc n + j))) (other e)
              ∙ ap (λ (k : ℕ). variable_from k (occurring_from (suc n) ds) (name_of (suc n + j))) (sym (next_rank n e))
              ∙ rest occurring_there)
          by false e rest =
              moved (ap (λ (b : Bool). variable_from (rank occurs n) (if b then record { identifier = name_of n; sort = c.sort } ∷ occurring_from (suc n) ds else occurring_from (suc n) ds) (name_of (suc n + j))) e
              ∙ ap (λ (k : ℕ). variable_from k (occurring_from (suc n) ds) (name_of (suc n + j))) (sym (same_rank n e))
              ∙ rest occurring_there)

      -- The name of a variable that occurs stands for it.
      pub name_found : (ds : List Declaration) (x : Variable) → length ds ≤ length names → IsIn x occurs → IsDeclared ds x
          → variable_named (occurring_from 0 ds) (name_of x.number) ≡ Some (renamed (renumbered occurs) x)
      name_found ds x enough m h =
          let r = declared_there ds x h in
          let z : 0 + x.number ≡ x.number = omega arith in
          let occurring : has_number occurs (0 + x.number) ≡ true = subst (λ (k : ℕ). has_number occurs k ≡ true) (sym z) (number_occurs occurs x m) in
          subst (λ (k : ℕ). variable_named (occurring_from 0 ds) (name_of k) ≡ Some (variable_numbered r.0.sort (rank occurs k))) z (found 0 ds x.number r.0 (omega arith) r.1 occurring)
          ∙ ap (λ (s : Sort). Some (variable_numbered s (rank occurs x.number))) r.2

      pub name_stands : (s : Scope) (ds : List Declaration) (x : Variable) → s.variables ≡ occurring_from 0 ds → length ds ≤ length names → IsIn x occurs → IsDeclared ds x
          → StandsFor s (named_by names x) (renamed (renumbered occurs) x)
      name_stands s ds x same enough m h =
          identifier_stands s no_place (name_of x.number) (renamed (renumbered occurs) x) (ap (λ (cs : List Declaration). variable_named cs (name_of x.number)) same ∙ name_found ds x enough m h)
