-- What lists of terms and bindings give variables.
use Rattle.std.proofs.Common.{◌≡◌, ◌<◌, ◌+◌, ◌==◌, ◌&&◌, ℕ, zero, suc, Bool, true, false, List, [], ◌∷◌, Some, refl, sym, ap, ap₂, ◌∙◌, subst, arith}
use Rattle.std.proofs.lemmas.Bool.{and_from, both_ways, eq-eqb}
use Rattle.std.specs.Prelude.{Option}
use Rattle.cp_lists.specs.Lists.{item_at, IsIn, here, there}
use Rattle.cp_lists.proofs.Items.{map_of_item}
use Rattle.cp_model.specs.Term.{Sort, text_sort, datum_sort, name_sort, skey_sort, akey_sort, Variable, SymmetricTerm, PairTerm, text_variable, datum_variable, name_variable, key_term, symmetric_term, asymmetric_term, Term, atom_term, variable_term, Substitution, apply_to}
use Rattle.cp_model.specs.Identity.{unchanged}
use Rattle.cp_model.specs.Bindings.{put_of_sort, put_term, as_substitution, bindings_by, bindings_from, bindings_of, bound_sort}
use Rattle.cp_model.specs.Values.{text_in, datum_in, name_in, skey_in, akey_in, substitution_by}
use Rattle.cp_model.specs.Strand.{Declaration}
use Rattle.cp_model.specs.Problem.{declared_sort, IsDeclared}
use Rattle.cp_model.specs.PrefixVariables.{declared_variables, terms_of}
use Rattle.cp_model.specs.Same.{same_sort}
use Rattle.cp_model.proofs.OneBinding.{put_here, other_left, own_bound}
use Rattle.cp_model.proofs.SameTests.{same_sort_itself, variable_is}

-- The substitution by a list of terms gives a variable what stands at its number.
pub by_item : (r : Substitution) (ts : List Term) (sort : Sort) (n : ℕ) → item_at ts n ≡ Some (apply_to r (variable_term (record { sort = sort; number = n }))) →
    apply_to (substitution_by ts) (variable_term (record { sort = sort; number = n })) ≡ apply_to r (variable_term (record { sort = sort; number = n }))
by_item r ts text_sort n e = ap (λ (o : Option Term). atom_term (text_variable (text_in n o))) e
by_item r ts datum_sort n e = ap (λ (o : Option Term). atom_term (datum_variable (datum_in n o))) e
by_item r ts name_sort n e = ap (λ (o : Option Term). atom_term (name_variable (name_in n o))) e
by_item r ts skey_sort n e = ap (λ (o : Option Term). atom_term (key_term (symmetric_term (skey_in n o)))) e
by_item r ts akey_sort n e = ap (λ (o : Option Term). atom_term (key_term (asymmetric_term (akey_in n o).0 (akey_in n o).1))) e

-- The variable with number k is declared at place n, where the first declared has number m.
declared_item : (m n k : ℕ) (ds : List Declaration) (sort : Sort) → k ≡ m + n → declared_sort (item_at ds n) ≡ Some sort → item_at (declared_variables m ds) n ≡ Some (record { sort = sort; number = k })
declared_item m n k [] sort e at = absurd (cc)
declared_item m zero k (d ∷ ds) sort e at =
    let here : d.sort ≡ sort = cc in
    let number : m ≡ k = omega (arith, e) in
    ap (λ (s : Sort). Some (record { sort = s; number = m })) here ∙ ap (λ (i : ℕ). Some (record { sort = sort; number = i })) number
declared_item m (suc n) k (d ∷ ds) sort e at = let next : k ≡ suc m + n = omega (arith, e) in declared_item (suc m) n k ds sort next at

-- A declared variable has what the substitution gives it.
pub declared_kept : (ds : List Declaration) (s : Substitution) (x : Variable) → IsDeclared ds x → apply_to (substitution_by (terms_of s (declared_variables 0 ds))) (variable_term x) ≡ apply_to s (variable_term x)
declared_kept ds s x declared =
    by_item s (terms_of s (declared_variables 0 ds)) x.sort x.number
    (map_of_item (λ (y : Variable). apply_to s (variable_term y)) (declared_variables 0 ds) x.number x (declared_item 0 x.number x.number ds x.sort (omega arith) declared))

-- ---- bindings by a substitution

-- A variable that has what a substitution gives it has it also where another is bound to what the substitution gives that one.
more_bound : (s r : Substitution) (x y : Variable) → apply_to r (variable_term x) ≡ apply_to s (variable_term x) →
    apply_to (put_term y (apply_to s (variable_term y)) r) (variable_term x) ≡ apply_to s (variable_term x)
more_bound s r x y h = choose (same_sort x.sort y.sort && (x.number == y.number)) refl
  where
    itself : (same_sort x.sort x.sort && (x.number == x.number)) ≡ true
    itself = and_from (same_sort x.sort x.sort) (x.number == x.number) (same_sort_itself x.sort) (eq-eqb x.number x.number refl)

    choose : (b : Bool) → (same_sort x.sort y.sort && (x.number == y.number)) ≡ b → apply_to (put_term y (apply_to s (variable_term y)) r) (variable_term x) ≡ apply_to s (variable_term x)
    choose true e = subst (λ (z : Variable). apply_to (put_term z (apply_to s (variable_term z)) r) (variable_term x) ≡ apply_to s (variable_term x)) (variable_is x y e) (own_bound s r x)
    choose false e =
        other_left r x y (apply_to s (variable_term y))
        (λ same. both_ways (same_sort x.sort y.sort && (x.number == y.number)) e (subst (λ (z : Variable). (same_sort x.sort z.sort && (x.number == z.number)) ≡ true) same itself)) ∙ h

-- A variable that is listed has what the substitution gives it.
pub by_bindings : (s : Substitution) (xs : List Variable) (x : Variable) → IsIn x xs → apply_to (as_substitution (bindings_by s xs)) (variable_term x) ≡ apply_to s (variable_term x)
by_bindings s [] x i = elim i [ ]
by_bindings s (_ ∷ xs) x here = own_bound s (as_substitution (bindings_by s xs)) x
by_bindings s (y ∷ ys) x (there i) = more_bound s (as_substitution (bindings_by s ys)) x y (by_bindings s ys x i)

-- ---- bindings by the numbers of a list

-- What a list gives a variable whose term it has at the variable's number, or has not.
abbrev pub value_in : Sort → ℕ → Option Term → Term
value_in text_sort n o = atom_term (text_variable (text_in n o))
value_in datum_sort n o = atom_term (datum_variable (datum_in n o))
value_in name_sort n o = atom_term (name_variable (name_in n o))
value_in skey_sort n o = atom_term (key_term (symmetric_term (skey_in n o)))
value_in akey_sort n o = atom_term (key_term (asymmetric_term (akey_in n o).0 (akey_in n o).1))

-- The substitution by a list gives a variable that.
pub by_number : (ts : List Term) (sort : Sort) (n : ℕ) → apply_to (substitution_by ts) (variable_term (record { sort = sort; number = n })) ≡ value_in sort n (item_at ts n)
by_number ts text_sort n = refl
by_number ts datum_sort n = refl
by_number ts name_sort n = refl
by_number ts skey_sort n = refl
by_number ts akey_sort n = refl

-- A binding leaves the variables of other numbers.
elsewhere : (t : Term) (bound : Sort) (n : ℕ) (r : Substitution) (sort : Sort) (m : ℕ) → (m ≡ n → ⊥) →
    apply_to (put_of_sort bound n t r) (variable_term (record { sort = sort; number = m })) ≡ apply_to r (variable_term (record { sort = sort; number = m }))
elsewhere t bound n r sort m h = other_left r (record { sort = sort; number = m }) (record { sort = bound; number = n }) t (λ e. h (ap (λ (x : Variable). x.number) e))

-- What a binding gives the variables of its number, if they are left otherwise.
bound_here : (t : Term) (n : ℕ) (r : Substitution) (sort : Sort) → apply_to r (variable_term (record { sort = sort; number = n })) ≡ variable_term (record { sort = sort; number = n }) →
    apply_to (put_of_sort (bound_sort t) n t r) (variable_term (record { sort = sort; number = n })) ≡ value_in sort n (Some t)
bound_here (atom_term (text_variable k)) n r text_sort h = ap (λ (j : ℕ). atom_term (text_variable j)) (put_here n k (r.texts n))
bound_here (atom_term (datum_variable k)) n r datum_sort h = ap (λ (j : ℕ). atom_term (datum_variable j)) (put_here n k (r.datums n))
bound_here (atom_term (name_variable k)) n r name_sort h = ap (λ (j : ℕ). atom_term (name_variable j)) (put_here n k (r.names n))
bound_here (atom_term (key_term (symmetric_term k))) n r skey_sort h = ap (λ (j : SymmetricTerm). atom_term (key_term (symmetric_term j))) (put_here n k (r.skeys n))
bound_here (atom_term (key_term (asymmetric_term flag k))) n r akey_sort h =
    ap (λ (j : Bool × PairTerm). atom_term (key_term (asymmetric_term j.0 j.1))) (put_here n (flag, k) (r.akeys n))
bound_here (atom_term (key_term (symmetric_term k))) n r text_sort h = h
bound_here (atom_term (key_term (symmetric_term k))) n r datum_sort h = h
bound_here (atom_term (key_term (symmetric_term k))) n r name_sort h = h
bound_here _ n r text_sort h = h
bound_here _ n r datum_sort h = h
bound_here _ n r name_sort h = h
bound_here _ n r skey_sort h = h
bound_here _ n r akey_sort h = h

-- Without bindings a variable stays.
left_alone : (sort : Sort) (n : ℕ) → apply_to unchanged (variable_term (record { sort = sort; number = n })) ≡ variable_term (record { sort = sort; number = n })
left_alone text_sort n = refl
left_alone datum_sort n = refl
left_alone name_sort n = refl
left_alone skey_sort n = refl
left_alone akey_sort n = refl

-- The bindings by numbers from n on leave the variables of smaller numbers.
left_below : (ts : List Term) (n : ℕ) (sort : Sort) (m : ℕ) → m < n →
    apply_to (as_substitution (bindings_from n ts)) (variable_term (record { sort = sort; number = m })) ≡ variable_term (record { sort = sort; number = m })
left_below [] n sort m l = left_alone sort m
left_below (t ∷ ts) n sort m l =
    elsewhere t (bound_sort t) n (as_substitution (bindings_from (suc n) ts)) sort m (λ (e : m ≡ n). omega (arith, l, e)) ∙ left_below ts (suc n) sort m (let less : m < suc n = omega (arith, l) in less)

-- They give a variable what stands at its number, if its number is not smaller.
at_number : (ts : List Term) (n k : ℕ) (sort : Sort) (m : ℕ) → m ≡ n + k →
    apply_to (as_substitution (bindings_from n ts)) (variable_term (record { sort = sort; number = m })) ≡ value_in sort m (item_at ts k)
at_number [] n k text_sort m e = refl
at_number [] n k datum_sort m e = refl
at_number [] n k name_sort m e = refl
at_number [] n k skey_sort m e = refl
at_number [] n k akey_sort m e = refl
at_number (t ∷ ts) n zero sort m e =
    let same : n ≡ m = omega (arith, e) in
    subst (λ (i : ℕ). apply_to (as_substitution (bindings_from n (t ∷ ts))) (variable_term (record { sort = sort; number = i })) ≡ value_in sort i (Some t)) same
    (bound_here t n (as_substitution (bindings_from (suc n) ts)) sort (left_below ts (suc n) sort n (let less : n < suc n = omega arith in less)))
at_number (t ∷ ts) n (suc k) sort m e =
    elsewhere t (bound_sort t) n (as_substitution (bindings_from (suc n) ts)) sort m (λ (same : m ≡ n). omega (arith, e, same)) ∙ at_number ts (suc n) k sort m (let next : m ≡ suc n + k = omega (arith, e) in next)

-- ---- substitutions

-- Two substitutions that give each variable the same are the same.
pub same_substitution : (s r : Substitution) → ((sort : Sort) (n : ℕ) → apply_to s (variable_term (record { sort = sort; number = n })) ≡ apply_to r (variable_term (record { sort = sort; number = n }))) → s ≡ r
same_substitution s r h = λ i. record {
  texts = λ n. text n i;
  datums = λ n. datum n i;
  names = λ n. name n i;
  skeys = λ n. skey n i;
  akeys = λ n. akey n i;
}
  where
    text : (n : ℕ) → s.texts n ≡ r.texts n
    text n = let e = h text_sort n in cc

    datum : (n : ℕ) → s.datums n ≡ r.datums n
    datum n = let e = h datum_sort n in cc

    name : (n : ℕ) → s.names n ≡ r.names n
    name n = let e = h name_sort n in cc

    skey : (n : ℕ) → s.skeys n ≡ r.skeys n
    skey n = let e = h skey_sort n in cc

    akey : (n : ℕ) → s.akeys n ≡ r.akeys n
    akey n =
        let e = h akey_sort n in
        let flag : (s.akeys n).0 ≡ (r.akeys n).0 = cc in
        let pair : (s.akeys n).1 ≡ (r.akeys n).1 = cc in
        ap₂ (λ (f : Bool) (p : PairTerm). (f, p)) flag pair

-- The bindings of the terms of a list by their places are the substitution by the list.
pub bindings_are : (ts : List Term) → as_substitution (bindings_of ts) ≡ substitution_by ts
bindings_are ts = same_substitution (as_substitution (bindings_of ts)) (substitution_by ts) (λ sort n. at_number ts 0 n sort n (let same : n ≡ 0 + n = omega arith in same) ∙ sym (by_number ts sort n))
