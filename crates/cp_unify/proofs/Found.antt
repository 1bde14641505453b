-- What the first difference of two terms tells.
use Rattle.std.proofs.Common.{◌≡◌, ◌≢◌, inl, inr, ◌<◌, ◌≤◌, ℕ, Bool, true, false, not, if◌then◌else◌, ◌==◌, ◌&&◌, List, [], ◌∷◌, ◌++◌, Option, refl, sym, ap, ap₂, ◌∙◌, subst, arith}
use Rattle.std.specs.Prelude.{nat_eq, nat_lt}
use Rattle.std.specs.Cmp.Lexicographic.{pointwise}
use Rattle.std.specs.Option.{option_eq}
use Rattle.std.proofs.lemmas.Bool.{eqb-true, eqb-false, ltb-true, ltb-false}
use Rattle.cp_lists.specs.Lists.{IsIn, here, there}
use Rattle.cp_model.specs.Message.{KeyPair, pubk, asymmetric, key, tag, atom}
use Rattle.cp_model.specs.Term.{SymmetricTerm, skey_variable, ltk_term, PairTerm, akey_variable, pubk_term, KeyTerm, symmetric_term, asymmetric_term, AtomTerm, text_variable, datum_variable, name_variable, key_term, Term, tag_term, atom_term, pair_term, enc_term, variables_of_key, variables_of_atom, variables_of, Assignment, flag_of, value_of_key, value_of_atom, value_of}
use Rattle.cp_model.specs.declared.sort.Sort.{Sort}
use Rattle.cp_model.specs.declared.sort.Sort.TheVariants.{Text as text_sort, Datum as datum_sort, Name as name_sort, Skey as skey_sort, Akey as akey_sort}
use Rattle.cp_model.specs.declared.variable.Variable.{Variable}
use Rattle.std.specs.Bool.{Decides}
use Rattle.std.proofs.lemmas.Bool.Decides.{Decides-and}
use Rattle.cp_model.proofs.LawTerms.{flag_last}
use Rattle.cp_model.specs.Same.{same_bool}
use Rattle.cp_term.proofs.SameTerms.{bytes_Decides, flag_Decides, purpose_Decides}
use Rattle.cp_term.specs.Sorts.{is_atom_of_sort}
use Rattle.cp_unify.specs.Bindings.{Binding, HasItsSort, MeetsBinding}
use Rattle.cp_unify.specs.Unifiers.{IsBeforeAtom, IsBefore, AreVariablesAmong}
use Rattle.cp_unify.specs.Differences.{first_difference, binds, between, between_names, difference_of_symmetric, akey_atom, difference_of_pairs, difference_of_keys, difference_of_atoms, difference_of}
use Rattle.cp_unify.specs.declared.difference.Difference.{Difference}
use Rattle.cp_unify.specs.declared.difference.Difference.TheVariants.{Same, Clash, Bind}
use Rattle.cp_lists.proofs.Members.{in_cases, only_item, in_append_left, in_append_right}
use Rattle.cp_unify.proofs.Members.{among_both}

-- Whatever meets an equation meets the binding, which is of one of the variables xs to a term of its sort and of others
-- of them, and of a later to an earlier one.
pub record Narrows (equal : Assignment → Type 0) (xs : List Variable) (b : Binding) : Type 0 where
  pub every : (g : Assignment) → equal g → MeetsBinding g b
  pub sorted : HasItsSort b
  pub absent : IsIn b.variable (variables_of b.term) → ⊥
  pub left : IsIn b.variable xs
  pub right : AreVariablesAmong (variables_of b.term) xs
  pub before : IsBefore b.term b.variable.number

-- A difference between two things over the variables xs, which are the same, or equal under some assignments.
abbrev pub Finding : Type 0 → (Assignment → Type 0) → List Variable → Difference → Type 0
Finding same equal xs Same = same
Finding same equal xs Clash = (g : Assignment) → equal g → ⊥
Finding same equal xs (Bind b) = Narrows equal xs b

narrows_within : (equal wider : Assignment → Type 0) (xs ys : List Variable) (b : Binding) →
    ((g : Assignment) → wider g → equal g) → AreVariablesAmong xs ys → Narrows equal xs b → Narrows wider ys b
narrows_within equal wider xs ys b e m h = record {
  every = λ g w. h.every g (e g w);
  sorted = h.sorted;
  absent = h.absent;
  left = m _ h.left;
  right = λ x i. m x (h.right x i);
  before = h.before;
}

finding_within : (same whole : Type 0) (equal wider : Assignment → Type 0) (xs ys : List Variable) (d : Difference) →
    (same → whole) → ((g : Assignment) → wider g → equal g) → AreVariablesAmong xs ys → Finding same equal xs d → Finding whole wider ys d
finding_within same whole equal wider xs ys Same s e m h = s h
finding_within same whole equal wider xs ys Clash s e m h = λ g w. h g (e g w)
finding_within same whole equal wider xs ys (Bind b) s e m h = narrows_within equal wider xs ys b e m h

finding_first : (one two both : Type 0) (eq1 eq2 eq : Assignment → Type 0) (xs ys zs : List Variable) (c d : Difference) →
    (one → two → both) → ((g : Assignment) → eq g → eq1 g) → ((g : Assignment) → eq g → eq2 g) → AreVariablesAmong xs zs → AreVariablesAmong ys zs →
    Finding one eq1 xs c → Finding two eq2 ys d → Finding both eq zs (first_difference c d)
finding_first one two both eq1 eq2 eq xs ys zs Same d s e1 e2 m1 m2 h k = finding_within two both eq2 eq ys zs d (s h) e2 m2 k
finding_first one two both eq1 eq2 eq xs ys zs Clash d s e1 e2 m1 m2 h k = λ g w. h g (e1 g w)
finding_first one two both eq1 eq2 eq xs ys zs (Bind b) d s e1 e2 m1 m2 h k = narrows_within eq1 eq xs zs b e1 m1 h

-- A binding to a term of one variable, which is earlier.
narrows_variable : (equal : Assignment → Type 0) (xs : List Variable) (b : Binding) (y : Variable) → ((g : Assignment) → equal g → MeetsBinding g b) →
    HasItsSort b → variables_of b.term ≡ y ∷ [] → y.number < b.variable.number → IsIn b.variable xs → IsIn y xs → IsBefore b.term b.variable.number → Narrows equal xs b
narrows_variable equal xs b y every sorted variables less left right before = record {
  every = every;
  sorted = sorted;
  absent = λ h. let h' : IsIn b.variable (y ∷ []) = subst (IsIn b.variable) variables h in
      let e : b.variable.number ≡ y.number = ap (λ (x : Variable). x.number) (only_item h') in absurd (omega arith);
  left = left;
  right = λ x h. let h' : IsIn x (y ∷ []) = subst (IsIn x) variables h in subst (λ (z : Variable). IsIn z xs) (sym (only_item h')) right;
  before = before;
}

-- The binding of the variable of this sort and number.
abbrev of_sort : Sort → ℕ → Term → Binding
of_sort k n t = record { variable = record { sort = k; number = n }; term = t }

-- Two variables, of which the later is bound.
between_found : (same : Type 0) (equal : Assignment → Type 0) (xs : List Variable) (k : Sort) (m n : ℕ) (u v : Term) → (m ≡ n → same) →
    (m < n → Narrows equal xs (of_sort k n u)) → (n < m → Narrows equal xs (of_sort k m v)) →
    Finding same equal xs (between k m u n v)
between_found same equal xs k m n u v s below above =
    choose (m == n) (nat_lt m n) (eqb-true m n) (ltb-true m n) (λ ne nl. let less : n ≤ m = ltb-false m n nl in let other : m ≢ n = eqb-false m n ne in omega arith)
  where
    choose : (b c : Bool) → (b ≡ true → m ≡ n) → (c ≡ true → m < n) → (b ≡ false → c ≡ false → n < m) →
        Finding same equal xs (if b then Same else (if c then binds k n u else binds k m v))
    choose true c p q r = s (p refl)
    choose false true p q r = below (q refl)
    choose false false p q r = above (r refl refl)

-- Two variables of one sort, where u makes the term to which the later is bound.
kind_found : (same : Type 0) (equal : Assignment → Type 0) (s : Sort) (u : ℕ → AtomTerm) →
    ((n : ℕ) → variables_of_atom (u n) ≡ record { sort = s; number = n } ∷ []) → ((n : ℕ) → is_atom_of_sort s (u n) ≡ true) →
    ((m n : ℕ) → m < n → IsBeforeAtom (u m) n) → (m n : ℕ) → (m ≡ n → same) →
    ((g : Assignment) → equal g → MeetsBinding g (of_sort s n (atom_term (u m)))) →
    ((g : Assignment) → equal g → MeetsBinding g (of_sort s m (atom_term (u n)))) →
    Finding same equal (record { sort = s; number = m } ∷ record { sort = s; number = n } ∷ []) (between s m (atom_term (u m)) n (atom_term (u n)))
kind_found same equal s u variables sort before m n is_same below above =
    between_found same equal _ s m n (atom_term (u m)) (atom_term (u n)) is_same
    (λ h. narrows_variable equal _ _ _ below (sort m) (variables m) h (there here) here (before m n h))
    (λ h. narrows_variable equal _ _ _ above (sort n) (variables n) h here (there here) (before n m h))

-- The variables of two atoms.
abbrev both_variables : AtomTerm → AtomTerm → List Variable
both_variables u v = variables_of_atom u ++ variables_of_atom v

abbrev AtomFinding : AtomTerm → AtomTerm → Difference → Type 0
AtomFinding u v d = Finding (u ≡ v) (λ g. value_of_atom g u ≡ value_of_atom g v) (both_variables u v) d

texts_found : (m n : ℕ) → AtomFinding (text_variable m) (text_variable n) (between text_sort m (atom_term (text_variable m)) n (atom_term (text_variable n)))
texts_found m n = kind_found _ _ text_sort text_variable (λ _. refl) (λ _. refl) (λ _ _ h. h) m n (λ e. ap text_variable e) (λ g e. ap atom (sym e)) (λ g e. ap atom e)

datums_found : (m n : ℕ) → AtomFinding (datum_variable m) (datum_variable n) (between datum_sort m (atom_term (datum_variable m)) n (atom_term (datum_variable n)))
datums_found m n = kind_found _ _ datum_sort datum_variable (λ _. refl) (λ _. refl) (λ _ _ h. h) m n (λ e. ap datum_variable e) (λ g e. ap atom (sym e)) (λ g e. ap atom e)

names_found : (m n : ℕ) → AtomFinding (name_variable m) (name_variable n) (between_names m n)
names_found m n = kind_found _ _ name_sort name_variable (λ _. refl) (λ _. refl) (λ _ _ h. h) m n (λ e. ap name_variable e) (λ g e. ap atom (sym e)) (λ g e. ap atom e)

abbrev symmetric_atom : SymmetricTerm → AtomTerm
symmetric_atom k = key_term (symmetric_term k)

skeys_found : (m n : ℕ) → AtomFinding (symmetric_atom (skey_variable m)) (symmetric_atom (skey_variable n)) (difference_of_symmetric (skey_variable m) (skey_variable n))
skeys_found m n = kind_found _ _ skey_sort (λ k. symmetric_atom (skey_variable k)) (λ _. refl) (λ _. refl) (λ _ _ h. h) m n (λ e. ap (λ (k : ℕ). symmetric_atom (skey_variable k)) e) (λ g e. ap atom (sym e)) (λ g e. ap atom e)

abbrev name_at : ℕ → Variable
name_at n = record { sort = name_sort; number = n }

skey_is_no_name : {m n : ℕ} → (let x : Variable = record { sort = skey_sort; number = m } in x) ≡ record { sort = name_sort; number = n } → ⊥
skey_is_no_name e = let e' : skey_sort ≡ name_sort = ap (λ (x : Variable). x.sort) e in cc

akey_is_no_name : {m n : ℕ} → (let x : Variable = record { sort = akey_sort; number = m } in x) ≡ record { sort = name_sort; number = n } → ⊥
akey_is_no_name e = let e' : akey_sort ≡ name_sort = ap (λ (x : Variable). x.sort) e in cc

abbrev skey_at : ℕ → Variable
skey_at n = record { sort = skey_sort; number = n }

abbrev akey_at : ℕ → Variable
akey_at n = record { sort = akey_sort; number = n }

skey_not_in_names : {m a b : ℕ} → IsIn (skey_at m) (name_at a ∷ name_at b ∷ []) → ⊥
skey_not_in_names h = elim (in_cases h) [ inl e ↦ skey_is_no_name (sym e) | inr i ↦ skey_is_no_name (only_item i) ]

ltk_found : (a b c d : ℕ) → AtomFinding (symmetric_atom (ltk_term a b)) (symmetric_atom (ltk_term c d)) (difference_of_symmetric (ltk_term a b) (ltk_term c d))
ltk_found a b c d =
    finding_first _ _ _ _ _ _ _ _ _ (between_names a c) (between_names b d)
    (λ e f. let e' : a ≡ c = cc in let f' : b ≡ d = cc in ap₂ (λ (m n : ℕ). symmetric_atom (ltk_term m n)) e' f')
    (λ g e. cc) (λ g e. cc)
    (among_both (name_at a ∷ []) (name_at c ∷ []) (name_at a ∷ name_at b ∷ []) (name_at c ∷ name_at d ∷ [])
    (λ x h. in_append_left (name_at b ∷ []) h) (λ x h. in_append_left (name_at d ∷ []) h))
    (among_both (name_at b ∷ []) (name_at d ∷ []) (name_at a ∷ name_at b ∷ []) (name_at c ∷ name_at d ∷ [])
    (λ x h. there h) (λ x h. there h))
    (names_found a c) (names_found b d)

symmetric_found : (k j : SymmetricTerm) → AtomFinding (symmetric_atom k) (symmetric_atom j) (difference_of_symmetric k j)
symmetric_found (skey_variable m) (skey_variable n) = skeys_found m n
symmetric_found (skey_variable m) (ltk_term a b) = record {
  every = λ g e. ap atom e;
  sorted = refl;
  absent = λ h. skey_not_in_names h;
  left = here;
  right = λ x h. there h;
  before = tt;
}
symmetric_found (ltk_term a b) (skey_variable n) = record {
  every = λ g e. ap atom (sym e);
  sorted = refl;
  absent = λ h. skey_not_in_names h;
  left = there (there here);
  right = λ x h. in_append_left _ h;
  before = tt;
}
symmetric_found (ltk_term a b) (ltk_term c d) = ltk_found a b c d

-- Flags of inverses.
pub not_back : (a : Bool) → not (not a) ≡ a
not_back true = refl
not_back false = refl

not_own : (a : Bool) → a ≡ not a → ⊥
not_own true e = cc
not_own false e = cc

pub swap : (f h a b : Bool) → flag_of f a ≡ flag_of h b → a ≡ flag_of (flag_of f h) b
swap true true a b e = sym (not_back a) ∙ ap not e ∙ not_back b
swap true false a b e = sym (not_back a) ∙ ap not e
swap false h a b e = e

pub sum_comm : (f h : Bool) → flag_of f h ≡ flag_of h f
sum_comm true true = refl
sum_comm true false = refl
sum_comm false true = refl
sum_comm false false = refl

sum_same : (f h : Bool) → same_bool f h ≡ true → flag_of f h ≡ false
sum_same true true e = refl
sum_same false false e = refl
sum_same true false e = cc
sum_same false true e = cc

sum_other : (f h : Bool) → same_bool f h ≡ false → flag_of f h ≡ true
sum_other true true e = cc
sum_other false false e = cc
sum_other true false e = refl
sum_other false true e = refl

-- Keys of a pair whose flags add up to s: each is the other, or its inverse where s is true.
akeys_meet : (f h s : Bool) → flag_of f h ≡ s → (x y : Bool × KeyPair) →
    key (asymmetric (flag_of f x.0) x.1) ≡ key (asymmetric (flag_of h y.0) y.1) → key (asymmetric x.0 x.1) ≡ key (asymmetric (flag_of s y.0) y.1)
akeys_meet f h s sum x y e =
    let e0 : flag_of f x.0 ≡ flag_of h y.0 = cc in
    let e1 : x.1 ≡ y.1 = cc in
    ap₂ (λ (b : Bool) (k : KeyPair). key (asymmetric b k)) (swap f h x.0 y.0 e0 ∙ ap (λ (b : Bool). flag_of b y.0) sum) e1

akeys_between : (f h s : Bool) → flag_of f h ≡ s → (m n : ℕ) → (m ≡ n → akey_atom f m ≡ akey_atom h n) →
    AtomFinding (akey_atom f m) (akey_atom h n) (between akey_sort m (atom_term (akey_atom s m)) n (atom_term (akey_atom s n)))
akeys_between f h s sum m n is_same =
    kind_found _ _ akey_sort (akey_atom s) (λ _. refl) (λ _. refl) (λ _ _ h. h) m n is_same
    (λ g e. ap atom (akeys_meet h f s (sum_comm h f ∙ sum) (g.akeys n) (g.akeys m) (sym e)))
    (λ g e. ap atom (akeys_meet f h s sum (g.akeys m) (g.akeys n) e))

own_inverse : (f h : Bool) → flag_of f h ≡ true → (x : Bool × KeyPair) → key (asymmetric (flag_of f x.0) x.1) ≡ key (asymmetric (flag_of h x.0) x.1) → ⊥
own_inverse f h sum x e = let e' : key (asymmetric x.0 x.1) ≡ key (asymmetric (not x.0) x.1) = akeys_meet f h true sum x x e in
    let e0 : x.0 ≡ not x.0 = cc in not_own x.0 e0

akeys_other : (f h : Bool) → flag_of f h ≡ true → (m n : ℕ) → (b : Bool) → (b ≡ true → m ≡ n) → (b ≡ false → m ≢ n) →
    AtomFinding (akey_atom f m) (akey_atom h n) (if b then Clash else between akey_sort m (atom_term (akey_atom true m)) n (atom_term (akey_atom true n)))
akeys_other f h sum m n true same apart =
    λ g e. own_inverse f h sum (g.akeys n) (subst (λ (k : ℕ). key (asymmetric (flag_of f (g.akeys k).0) (g.akeys k).1) ≡ key (asymmetric (flag_of h (g.akeys n).0) (g.akeys n).1)) (same refl) e)
akeys_other f h sum m n false same apart = akeys_between f h true sum m n (λ e. absurd (apart refl e))

akeys_choice : (f h : Bool) (m n : ℕ) (b : Bool) → same_bool f h ≡ b →
    AtomFinding (akey_atom f m) (akey_atom h n) (if b then between akey_sort m (atom_term (akey_atom false m)) n (atom_term (akey_atom false n))
    else (if m == n then Clash else between akey_sort m (atom_term (akey_atom true m)) n (atom_term (akey_atom true n))))
akeys_choice f h m n true same =
    akeys_between f h false (sum_same f h same) m n (λ e. ap₂ akey_atom ((flag_Decides f h).0 same) e)
akeys_choice f h m n false same = akeys_other f h (sum_other f h same) m n (m == n) (eqb-true m n) (eqb-false m n)

-- A key of a pair that is a key of a name.
name_key : (f h : Bool) (x : Bool × KeyPair) (k : KeyPair) → key (asymmetric (flag_of f x.0) x.1) ≡ key (asymmetric h k) → key (asymmetric x.0 x.1) ≡ key (asymmetric (flag_of f h) k)
name_key f h x k e =
    let e0 : flag_of f x.0 ≡ h = cc in
    let e1 : x.1 ≡ k = cc in
    ap₂ (λ (b : Bool) (j : KeyPair). key (asymmetric b j)) (swap f h x.0 false (e0 ∙ sym (flag_last h)) ∙ flag_last (flag_of f h)) e1

abbrev asymmetric_atom : Bool → PairTerm → AtomTerm
asymmetric_atom flag k = key_term (asymmetric_term flag k)

names_choice : (f h : Bool) (p q : Option (List ℕ)) (a b : ℕ) (r : Bool) → Decides r ((f ≡ h) × (p ≡ q)) →
    AtomFinding (asymmetric_atom f (pubk_term p a)) (asymmetric_atom h (pubk_term q b)) (if r then between_names a b else Clash)
names_choice f h p q a b true d =
    let e : (f ≡ h) × (p ≡ q) = d.0 refl in
    finding_within _ _ _ _ _ _ (between_names a b)
    (λ s. let s' : a ≡ b = cc in ap₂ asymmetric_atom e.0 (ap₂ pubk_term e.1 s'))
    (λ g w. cc) (λ x h. h) (names_found a b)
names_choice f h p q a b false d = λ g w. let e0 : f ≡ h = cc in let e1 : p ≡ q = cc in let e : false ≡ true = d.1 (e0, e1) in cc

pairs_found : (f : Bool) (k : PairTerm) (h : Bool) (j : PairTerm) → AtomFinding (asymmetric_atom f k) (asymmetric_atom h j) (difference_of_pairs f k h j)
pairs_found f (akey_variable m) h (akey_variable n) = akeys_choice f h m n (same_bool f h) refl
pairs_found f (akey_variable m) h (pubk_term p a) = record {
  every = λ g e. ap atom (name_key f h (g.akeys m) (pubk p (g.names a)) e);
  sorted = refl;
  absent = λ i. akey_is_no_name (only_item i);
  left = here;
  right = λ x i. there i;
  before = tt;
}
pairs_found f (pubk_term p a) h (akey_variable n) = record {
  every = λ g e. ap atom (name_key h f (g.akeys n) (pubk p (g.names a)) (sym e));
  sorted = refl;
  absent = λ i. akey_is_no_name (only_item i);
  left = there here;
  right = λ x i. in_append_left (akey_at n ∷ []) i;
  before = tt;
}
pairs_found f (pubk_term p a) h (pubk_term q b) =
    names_choice f h p q a b (same_bool f h && option_eq (pointwise nat_eq) p q) (Decides-and _ _ (flag_Decides f h) (purpose_Decides p q))

keys_found : (k j : KeyTerm) → AtomFinding (key_term k) (key_term j) (difference_of_keys k j)
keys_found (symmetric_term k) (symmetric_term j) = symmetric_found k j
keys_found (asymmetric_term f k) (asymmetric_term h j) = pairs_found f k h j
keys_found (symmetric_term k) (asymmetric_term h j) = λ g e. cc
keys_found (asymmetric_term f k) (symmetric_term j) = λ g e. cc

atoms_found : (u v : AtomTerm) → AtomFinding u v (difference_of_atoms u v)
atoms_found (text_variable m) (text_variable n) = texts_found m n
atoms_found (datum_variable m) (datum_variable n) = datums_found m n
atoms_found (name_variable m) (name_variable n) = names_found m n
atoms_found (key_term k) (key_term j) = keys_found k j
atoms_found _ _ = λ g e. cc

tags_found : (x y : List ℕ) (r : Bool) → Decides r (x ≡ y) → Finding (tag_term x ≡ tag_term y) (λ g. tag x ≡ tag y) [] (if r then Same else Clash)
tags_found x y true d = ap tag_term (d.0 refl)
tags_found x y false d = λ g w. let e : x ≡ y = cc in let e' : false ≡ true = d.1 e in cc

-- The first difference of two terms.
abbrev pub IsDifference : Term → Term → Difference → Type 0
IsDifference a b d = Finding (a ≡ b) (λ g. value_of g a ≡ value_of g b) (variables_of a ++ variables_of b) d

pub found : (a b : Term) → IsDifference a b (difference_of a b)
found (tag_term x) (tag_term y) = tags_found x y (pointwise nat_eq x y) (bytes_Decides x y)
found (atom_term u) (atom_term v) =
    finding_within _ _ _ _ _ _ (difference_of_atoms u v) (λ e. ap atom_term e) (λ g e. cc) (λ x h. h) (atoms_found u v)
found (pair_term a b) (pair_term c d) =
    finding_first _ _ _ _ _ _ _ _ _ (difference_of a c) (difference_of b d) (λ e f. ap₂ pair_term e f) (λ g e. cc) (λ g e. cc)
    (among_both (variables_of a) (variables_of c) _ _ (λ x h. in_append_left (variables_of b) h) (λ x h. in_append_left (variables_of d) h))
    (among_both (variables_of b) (variables_of d) _ _ (λ x h. in_append_right (variables_of a) h) (λ x h. in_append_right (variables_of c) h))
    (found a c) (found b d)
found (enc_term a k) (enc_term b j) =
    finding_first _ _ _ _ _ _ _ _ _ (difference_of_keys k j) (difference_of a b)
    (λ e f. let e' : k ≡ j = cc in ap₂ enc_term f e') (λ g e. let e' : value_of_key g k ≡ value_of_key g j = cc in ap key e') (λ g e. cc)
    (among_both (variables_of_key k) (variables_of_key j) _ _ (λ x h. in_append_right (variables_of a) h) (λ x h. in_append_right (variables_of b) h))
    (among_both (variables_of a) (variables_of b) _ _ (λ x h. in_append_left (variables_of_key k) h) (λ x h. in_append_left (variables_of_key j) h))
    (keys_found k j) (found a b)
found _ _ = λ g e. cc
