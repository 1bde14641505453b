-- Declarations with different identifiers: each identifier names its own, also among those of a prefix.
use Rattle.std.proofs.Common.{◌≡◌, inl, inr, ℕ, zero, suc, List, [], ◌∷◌, Bool, true, false, refl, sym, ap, ◌∙◌, subst, arith, if◌then◌else◌}
use Rattle.std.specs.Prelude.{Some}
use Rattle.std.proofs.lemmas.Bool.{false_from_ne_true}
use Rattle.std.proofs.Math.Nat.{suc_inj}
use Rattle.cp_lists.specs.Lists.{item_at, IsIn, here, there}
use Rattle.cp_lists.proofs.Members.{head_or_behind, at_head}
use Rattle.cp_model.specs.declared.variable.Variable.{Variable}
use Rattle.cp_model.specs.declared.variable.Declaration.{Declaration}
use Rattle.cp_model.specs.Same.{same_text, has_variable}
use Rattle.cp_model.proofs.SameTests.{text_is, same_text_itself}
use Rattle.cp_language.specs.Terms.{variable_from, variable_named}
use Rattle.cp_language.specs.Names.{identifiers_in}
use Rattle.cp_report.specs.Skeletons.{declared_in_prefix}
use Rattle.cp_report.proofs.CoveringPairs.{AreApart}
use Rattle.cp_report.proofs.DistinctNames.{AreDifferent}
use Rattle.cp_report.proofs.PrintedMaplets.{AreFound, into_identifiers}

-- ---- each names its own

-- Each identifier names the variable of its own declaration.
abbrev pub NamesOwn : List Declaration → Type 0
NamesOwn ds = (i : ℕ) (d : Declaration) → item_at ds i ≡ Some d → variable_named ds d.identifier ≡ Some (record { sort = d.sort; number = i })

abbrev OncePlaced : List Declaration → Type 0
OncePlaced ds = (i j : ℕ) (d e : Declaration) → item_at ds i ≡ Some d → item_at ds j ≡ Some e → d.identifier ≡ e.identifier → i ≡ j

once_placed : (ds : List Declaration) → NamesOwn ds → OncePlaced ds
once_placed ds own i j d e p q same = number_of_some (sym (own i d p) ∙ ap (variable_named ds) same ∙ own j e q)
  where
    number_of_some : {x y : Variable} → Some x ≡ Some y → x.number ≡ y.number
    number_of_some h = let g = h in cc

identifier_place : (ds : List Declaration) (t : List ℕ) → IsIn t (identifiers_in ds) → (j : ℕ) × (e : Declaration) × (item_at ds j ≡ Some e) × (e.identifier ≡ t)
identifier_place [] t m = elim m [ ]
identifier_place (d ∷ ds) t here = (0, d, refl, refl)
identifier_place (d ∷ ds) t (there m) = let r = identifier_place ds t m in (suc r.0, r.1, r.2, r.3)

apart_of_placed : (ds : List Declaration) → OncePlaced ds → AreApart (identifiers_in ds)
apart_of_placed [] once = tt
apart_of_placed (d ∷ ds) once = (fresh, apart_of_placed ds (λ i j c e p q same. suc_inj (once (suc i) (suc j) c e p q same)))
  where
    fresh : IsIn d.identifier (identifiers_in ds) → ⊥
    fresh m =
        let r = identifier_place ds d.identifier m in
        let j : ℕ = r.0 in
        let z : 0 ≡ suc j = once 0 (suc j) d r.1 refl r.2 (sym r.3) in
        absurd (omega arith)

-- Where each identifier names its own variable, no two are equal.
pub apart_identifiers : (ds : List Declaration) → NamesOwn ds → AreApart (identifiers_in ds)
apart_identifiers ds own = apart_of_placed ds (once_placed ds own)

text_place : (ds : List Declaration) (names : List (List ℕ)) → identifiers_in ds ≡ names → AreDifferent names → OncePlaced ds
text_place ds names same differ i j d e p q equal = differ i j e.identifier (at i d p ∙ ap (λ (t : List ℕ). Some t) equal) (at j e q)
  where
    name_at : (cs : List Declaration) (k : ℕ) (c : Declaration) → item_at cs k ≡ Some c → item_at (identifiers_in cs) k ≡ Some c.identifier
    name_at [] k c h = absurd (cc)
    name_at (b ∷ cs) zero c h = let g : b ≡ c = cc in ap (λ (x : Declaration). Some x.identifier) g
    name_at (b ∷ cs) (suc k) c h = name_at cs k c h

    at : (k : ℕ) (c : Declaration) → item_at ds k ≡ Some c → item_at names k ≡ Some c.identifier
    at k c h = sym (ap (λ (ts : List (List ℕ)). item_at ts k) same) ∙ name_at ds k c h

-- The same of declarations under names that are different.
pub apart_named : (ds : List Declaration) (names : List (List ℕ)) → identifiers_in ds ≡ names → AreDifferent names → AreApart (identifiers_in ds)
apart_named ds names same differ = apart_of_placed ds (text_place ds names same differ)

-- ---- they are found

found_from : (n : ℕ) (ds : List Declaration) (d : Declaration) → AreApart (identifiers_in ds) → IsIn d ds → (x : Variable) × (variable_from n ds d.identifier ≡ Some x) × (x.sort ≡ d.sort)
found_from n [] d apart m = elim m [ ]
found_from n (c ∷ ds) d apart here =
    (record { sort = d.sort; number = n }, ap (λ (b : Bool). if b then Some (record { sort = d.sort; number = n }) else variable_from (suc n) ds d.identifier) (same_text_itself d.identifier), refl)
found_from n (c ∷ ds) d apart (there m) =
    let r = found_from (suc n) ds d apart.1 m in
    (r.0, ap (λ (b : Bool). if b then Some (record { sort = c.sort; number = n }) else variable_from (suc n) ds d.identifier) (false_from_ne_true (same_text c.identifier d.identifier) other) ∙ r.1, r.2)
  where
    other : same_text c.identifier d.identifier ≡ true → ⊥
    other h = apart.0 (subst (λ (t : List ℕ). IsIn t (identifiers_in ds)) (sym (text_is c.identifier d.identifier h)) (into_identifiers ds d m))

-- Each of them is found, with its sort.
pub all_found : (ds : List Declaration) → AreApart (identifiers_in ds) → AreFound ds ds
all_found ds apart d m = found_from 0 ds d apart m

-- ---- those of a prefix

prefix_within : (prefix : List Variable) (n : ℕ) (ds : List Declaration) (t : List ℕ) → IsIn t (identifiers_in (declared_in_prefix prefix n ds)) → IsIn t (identifiers_in ds)
prefix_within prefix n [] t m = elim m [ ]
prefix_within prefix n (d ∷ ds) t m = by (has_variable prefix (record { sort = d.sort; number = n })) m (prefix_within prefix (suc n) ds t)
  where
    first : IsIn t (d.identifier ∷ identifiers_in (declared_in_prefix prefix (suc n) ds)) → (IsIn t (identifiers_in (declared_in_prefix prefix (suc n) ds)) → IsIn t (identifiers_in ds)) → IsIn t (identifiers_in (d ∷ ds))
    first i rest = elim (head_or_behind i) as (λ _. IsIn t (identifiers_in (d ∷ ds))) [ inl e ↦ at_head e | inr j ↦ there (rest j) ]

    by : (b : Bool) → IsIn t (identifiers_in (if b then d ∷ declared_in_prefix prefix (suc n) ds else declared_in_prefix prefix (suc n) ds))
        → (IsIn t (identifiers_in (declared_in_prefix prefix (suc n) ds)) → IsIn t (identifiers_in ds)) → IsIn t (identifiers_in (d ∷ ds))
    by true i rest = first i rest
    by false i rest = there (rest i)

pub apart_in_prefix : (prefix : List Variable) (n : ℕ) (ds : List Declaration) → AreApart (identifiers_in ds) → AreApart (identifiers_in (declared_in_prefix prefix n ds))
apart_in_prefix prefix n [] apart = tt
apart_in_prefix prefix n (d ∷ ds) apart = by (has_variable prefix (record { sort = d.sort; number = n })) (apart_in_prefix prefix (suc n) ds apart.1)
  where
    by : (b : Bool) → AreApart (identifiers_in (declared_in_prefix prefix (suc n) ds)) → AreApart (identifiers_in (if b then d ∷ declared_in_prefix prefix (suc n) ds else declared_in_prefix prefix (suc n) ds))
    by true rest = (λ m. apart.0 (prefix_within prefix (suc n) ds d.identifier m), rest)
    by false rest = rest
