-- The locals of a pattern as it is printed: they stand in the text in the order in which they occur, and are read back so.
use Rattle.std.proofs.Common.{◌≡◌, ◌⊎◌, inl, inr, ℕ, zero, suc, ◌+◌, ◌<◌, ◌≤◌, ◌==◌, List, [], ◌∷◌, ◌++◌, length, Bool, true, false, refl, sym, ap, ap₂, ◌∙◌, subst, arith, if◌then◌else◌, append_assoc, append-nil}
use Rattle.std.specs.Prelude.{Option, Some, None, ◌&&◌, ◌||◌, codes}
use Rattle.std.proofs.lemmas.Bool.{both_ways, cases_Bool, false_from_ne_true, or_left, or_right, or_from, eq-eqb, eqb-true, or_parts}
use Rattle.std.proofs.Math.Bool.{or-false, or_assoc}
use Rattle.cp_lists.specs.Lists.{item_at, IsIn, here, there}
use Rattle.cp_lists.proofs.Items.{at_place, place_of as place_in}
use Rattle.cp_lists.proofs.Members.{head_or_behind, at_head, in_either}
use Rattle.cp_model.specs.Term.{SymmetricTerm, skey_variable, ltk_term, PairTerm, akey_variable, pubk_term, KeyTerm, symmetric_term, asymmetric_term, AtomTerm, text_variable, datum_variable, name_variable, key_term, Term, tag_term, atom_term, pair_term, enc_term, variables_of_symmetric, variables_of_pair, variables_of_key, variables_of_atom, variables_of}
use Rattle.cp_model.specs.declared.sort.Sort.{Sort}
use Rattle.cp_model.specs.declared.sort.Sort.TheVariants.{Text as text_sort, Datum as datum_sort, Name as name_sort, Skey as skey_sort, Akey as akey_sort}
use Rattle.cp_model.specs.declared.variable.Variable.{Variable}
use Rattle.cp_model.specs.Same.{same_sort, has_variable}
use Rattle.cp_model.proofs.SameTests.{same_sort_itself, variable_is, variable_in, in_has_variable}
use Rattle.cp_sexpr.specs.Syntax.{Form, Forms, none, more, append}
use Rattle.cp_language.specs.Names.{sort_text}
use Rattle.cp_language.specs.Printed.{word, numeral, headed_list, no_place, variable, symmetric_form, asymmetric_form, key_form, atom_form, gathered, spine, term_form, locals_in_order, place_among, local_or_name}
use Rattle.cp_report.specs.declared.locals.LocalAt.{LocalAt}
use Rattle.cp_report.specs.Misfits.{misfit_unless}
use Rattle.cp_report.specs.Spelled.{place_of_local, locals_in, locals_in_each, keeps_sort, clash_misfits, has_local, locals_onto, variables_of_locals}
use Rattle.cp_report.proofs.CoveringPairs.{AreApart}

-- ---- where the locals of a term stand

-- The pieces of these variables, one after the other.
abbrev pub all_pieces : (Variable → List LocalAt) → List Variable → List LocalAt
all_pieces piece [] = []
all_pieces piece (x ∷ xs) = piece x ++ all_pieces piece xs

module _ (named : Variable → Form) (piece : Variable → List LocalAt) (whole : (x : Variable) → locals_in (named x) ≡ piece x) where
  one_piece : (x : Variable) → locals_in (named x) ≡ all_pieces piece (x ∷ [])
  one_piece x = whole x ∙ sym (append-nil (piece x))

  one_item : (x : Variable) → locals_in (named x) ++ [] ≡ all_pieces piece (x ∷ [])
  one_item x = ap (λ ls. ls ++ []) (whole x)

  symmetric_pieces : (k : SymmetricTerm) → locals_in (symmetric_form named k) ≡ all_pieces piece (variables_of_symmetric k)
  symmetric_pieces (skey_variable n) = one_piece (variable skey_sort n)
  symmetric_pieces (ltk_term a b) = ap₂ (λ (ls ms : List LocalAt). ls ++ (ms ++ [])) (whole (variable name_sort a)) (whole (variable name_sort b))

  asymmetric_pieces : (flag : Bool) (k : PairTerm) → locals_in (asymmetric_form named flag k) ≡ all_pieces piece (variables_of_pair k)
  asymmetric_pieces false (akey_variable n) = one_piece (variable akey_sort n)
  asymmetric_pieces true (akey_variable n) = one_item (variable akey_sort n)
  asymmetric_pieces false (pubk_term None a) = one_item (variable name_sort a)
  asymmetric_pieces true (pubk_term None a) = one_item (variable name_sort a)
  asymmetric_pieces false (pubk_term (Some t) a) = one_item (variable name_sort a)
  asymmetric_pieces true (pubk_term (Some t) a) = one_item (variable name_sort a)

  key_pieces : (k : KeyTerm) → locals_in (key_form named k) ≡ all_pieces piece (variables_of_key k)
  key_pieces (symmetric_term k) = symmetric_pieces k
  key_pieces (asymmetric_term flag k) = asymmetric_pieces flag k

  atom_pieces : (v : AtomTerm) → locals_in (atom_form named v) ≡ all_pieces piece (variables_of_atom v)
  atom_pieces (text_variable n) = one_piece (variable text_sort n)
  atom_pieces (datum_variable n) = one_piece (variable datum_sort n)
  atom_pieces (name_variable n) = one_piece (variable name_sort n)
  atom_pieces (key_term k) = key_pieces k

  pieces_append : (xs ys : List Variable) → all_pieces piece (xs ++ ys) ≡ all_pieces piece xs ++ all_pieces piece ys
  pieces_append [] ys = refl
  pieces_append (x ∷ xs) ys = ap (λ ls. piece x ++ ls) (pieces_append xs ys) ∙ sym (append_assoc (piece x) (all_pieces piece xs) (all_pieces piece ys))

  gathered_locals : (fs : Forms) → locals_in (gathered named fs) ≡ locals_in_each fs
  gathered_locals none = refl
  gathered_locals (more f none) = sym (append-nil (locals_in f))
  gathered_locals (more f (more g fs)) = refl

  locals_with_key : (fs : Forms) (k : Form) → locals_in_each (append fs (more k none)) ≡ locals_in_each fs ++ locals_in k
  locals_with_key none k = append-nil (locals_in k)
  locals_with_key (more f fs) k = ap (λ ls. locals_in f ++ ls) (locals_with_key fs k) ∙ sym (append_assoc (locals_in f) (locals_in_each fs) (locals_in k))

  spine_pieces : (t : Term) → locals_in_each (spine named t) ≡ all_pieces piece (variables_of t)
  spine_pieces (tag_term bytes) = refl
  spine_pieces (atom_term v) = append-nil (locals_in (atom_form named v)) ∙ atom_pieces v
  spine_pieces (pair_term a b) =
      ap₂ (λ (ls ms : List LocalAt). ls ++ ms) (gathered_locals (spine named a) ∙ spine_pieces a) (spine_pieces b) ∙ sym (pieces_append (variables_of a) (variables_of b))
  spine_pieces (enc_term a k) =
      append-nil (locals_in_each (append (spine named a) (more (key_form named k) none)))
      ∙ locals_with_key (spine named a) (key_form named k)
      ∙ ap₂ (λ (ls ms : List LocalAt). ls ++ ms) (spine_pieces a) (key_pieces k) ∙ sym (pieces_append (variables_of a) (variables_of_key k))

  -- The locals of a term stand where its variables do.
  pub term_pieces : (t : Term) → locals_in (term_form named t) ≡ all_pieces piece (variables_of t)
  term_pieces t = gathered_locals (spine named t) ∙ spine_pieces t

-- ---- one variable

abbrev pub piece_of : Variable → Option ℕ → List LocalAt
piece_of x None = []
piece_of x (Some i) = record { place = no_place; local = record { sort = x.sort; number = i } } ∷ []

any_local : (r : Sort) (i : ℕ) → locals_in (headed_list (codes "any") (word (sort_text r) ∷ numeral i ∷ [])) ≡ record { place = no_place; local = record { sort = r; number = i } } ∷ []
any_local text_sort i = refl
any_local datum_sort i = refl
any_local name_sort i = refl
any_local skey_sort i = refl
any_local akey_sort i = refl

pub piece_is : (named : Variable → Form) → ((x : Variable) → locals_in (named x) ≡ []) → (x : Variable) (o : Option ℕ) → locals_in (local_or_name named x o) ≡ piece_of x o
piece_is named plain x None = plain x
piece_is named plain x (Some i) = any_local x.sort i

-- ---- places among variables

abbrev is_same : Variable → Variable → Bool
is_same x y = same_sort x.sort y.sort && (x.number == y.number)

same_itself : (x : Variable) → is_same x x ≡ true
same_itself x = in_one (in_has_variable (x ∷ []) x here)
  where
    in_one : (is_same x x || false) ≡ true → is_same x x ≡ true
    in_one h = sym (or-false (is_same x x)) ∙ h

pub not_placed : (n : ℕ) (xs : List Variable) (x : Variable) → has_variable xs x ≡ false → place_among n xs x ≡ None
not_placed n [] x e = refl
not_placed n (y ∷ xs) x e = by (cases_Bool (is_same y x)) (not_placed (suc n) xs x)
  where
    by : (is_same y x ≡ true) ⊎ (is_same y x ≡ false) → (has_variable xs x ≡ false → place_among (suc n) xs x ≡ None) → place_among n (y ∷ xs) x ≡ None
    by (inl h) rest = absurd (both_ways (has_variable (y ∷ xs) x) e (or_left (is_same y x) (has_variable xs x) h))
    by (inr h) rest = ap (λ (b : Bool). if b || false then Some n else place_among (suc n) xs x) h ∙ rest (sym (ap (λ (b : Bool). b || has_variable xs x) h) ∙ e)

-- The variable at a place of a list in which each stands once is placed there.
pub placed_at : (n : ℕ) (xs : List Variable) (j : ℕ) (x : Variable) → AreApart xs → item_at xs j ≡ Some x → place_among n xs x ≡ Some (n + j)
placed_at n [] j x apart e = absurd (cc)
placed_at n (y ∷ xs) zero x apart e =
    let same : y ≡ x = cc in
    let z : n ≡ n + 0 = omega arith in
    ap (λ (b : Bool). if b || false then Some n else place_among (suc n) xs x) (subst (λ (w : Variable). is_same w x ≡ true) (sym same) (same_itself x)) ∙ ap (λ (k : ℕ). Some k) z
placed_at n (y ∷ xs) (suc j) x apart e =
    let z : suc n + j ≡ n + suc j = omega arith in
    ap (λ (b : Bool). if b || false then Some n else place_among (suc n) xs x) (false_from_ne_true (is_same y x) other) ∙ placed_at (suc n) xs j x apart.1 e ∙ ap (λ (k : ℕ). Some k) z
  where
    other : is_same y x ≡ true → ⊥
    other h = apart.0 (subst (λ (w : Variable). IsIn w xs) (sym (variable_is y x h)) (at_place xs j x e))

-- A variable that is placed stands there.
pub place_holds : (n : ℕ) (xs : List Variable) (x : Variable) (i : ℕ) → place_among n xs x ≡ Some i → (j : ℕ) × (i ≡ n + j) × (item_at xs j ≡ Some x)
place_holds n [] x i e = absurd (cc)
place_holds n (y ∷ xs) x i e = by (is_same y x) refl e (place_holds (suc n) xs x i)
  where
    by : (b : Bool) → is_same y x ≡ b → (if b || false then Some n else place_among (suc n) xs x) ≡ Some i → (place_among (suc n) xs x ≡ Some i → (j : ℕ) × (i ≡ suc n + j) × (item_at xs j ≡ Some x))
        → (j : ℕ) × (i ≡ n + j) × (item_at (y ∷ xs) j ≡ Some x)
    by true h g rest = let p : n ≡ i = cc in (0, omega (arith, p), ap (λ (w : Variable). Some w) (variable_is y x h))
    by false h g rest = let r = rest g in let q : i ≡ suc n + r.0 = r.1 in (suc r.0, omega (arith, q), r.2)

-- ---- the order of occurrence

module _ (locals : List Variable) where
  -- what is listed is a local that was not seen
  pub order_new : (xs seen : List Variable) (y : Variable) → IsIn y (locals_in_order locals seen xs) → (has_variable locals y ≡ true) × (has_variable seen y ≡ false)
  order_new [] seen y m = elim m [ ]
  order_new (x ∷ xs) seen y m = by (has_variable locals x) refl (has_variable seen x) refl m (order_new xs (x ∷ seen) y) (order_new xs seen y)
    where
      New : List Variable → Type 0
      New ys = (has_variable locals y ≡ true) × (has_variable ys y ≡ false)

      fewer : (has_variable locals y ≡ true) × ((is_same x y || has_variable seen y) ≡ false) → New seen
      fewer (p, q) = (p, (or_parts (is_same x y) (has_variable seen y) q).1)

      first : has_variable locals x ≡ true → has_variable seen x ≡ false → (y ≡ x) ⊎ IsIn y (locals_in_order locals (x ∷ seen) xs) → (IsIn y (locals_in_order locals (x ∷ seen) xs) → New (x ∷ seen)) → New seen
      first p q (inl e) rest = (ap (has_variable locals) e ∙ p, ap (has_variable seen) e ∙ q)
      first p q (inr i) rest = fewer (rest i)

      by : (b : Bool) → has_variable locals x ≡ b → (c : Bool) → has_variable seen x ≡ c
          → IsIn y (if b then (if c then locals_in_order locals (x ∷ seen) xs else x ∷ locals_in_order locals (x ∷ seen) xs) else locals_in_order locals seen xs)
          → (IsIn y (locals_in_order locals (x ∷ seen) xs) → New (x ∷ seen)) → (IsIn y (locals_in_order locals seen xs) → New seen) → New seen
      by true p true q i with_x without_x = fewer (with_x i)
      by true p false q i with_x without_x = first p q (head_or_behind i) with_x
      by false p c q i with_x without_x = without_x i

  pub order_apart : (xs seen : List Variable) → AreApart (locals_in_order locals seen xs)
  order_apart [] seen = tt
  order_apart (x ∷ xs) seen = by (has_variable locals x) (has_variable seen x) (order_apart xs (x ∷ seen)) (order_apart xs seen)
    where
      fresh : IsIn x (locals_in_order locals (x ∷ seen) xs) → ⊥
      fresh i = both_ways (has_variable (x ∷ seen) x) (order_new xs (x ∷ seen) x i).1 (in_has_variable (x ∷ seen) x here)

      by : (b c : Bool) → AreApart (locals_in_order locals (x ∷ seen) xs) → AreApart (locals_in_order locals seen xs)
          → AreApart (if b then (if c then locals_in_order locals (x ∷ seen) xs else x ∷ locals_in_order locals (x ∷ seen) xs) else locals_in_order locals seen xs)
      by true true with_x without_x = with_x
      by true false with_x without_x = (fresh, with_x)
      by false c with_x without_x = without_x

  pub order_all : (xs seen : List Variable) (y : Variable) → IsIn y xs → has_variable locals y ≡ true → has_variable seen y ≡ false → IsIn y (locals_in_order locals seen xs)
  order_all [] seen y m l s = elim m [ ]
  order_all (x ∷ xs) seen y m l s = by (has_variable locals x) refl (has_variable seen x) refl (cases_Bool (is_same x y)) (head_or_behind m) (λ i h. order_all xs (x ∷ seen) y i l h) (λ i. order_all xs seen y i l s)
    where
      Listed : Bool → Bool → Type 0
      Listed b c = IsIn y (if b then (if c then locals_in_order locals (x ∷ seen) xs else x ∷ locals_in_order locals (x ∷ seen) xs) else locals_in_order locals seen xs)

      by : (b : Bool) → has_variable locals x ≡ b → (c : Bool) → has_variable seen x ≡ c → (is_same x y ≡ true) ⊎ (is_same x y ≡ false) → (y ≡ x) ⊎ IsIn y xs
          → (IsIn y xs → has_variable (x ∷ seen) y ≡ false → IsIn y (locals_in_order locals (x ∷ seen) xs)) → (IsIn y xs → IsIn y (locals_in_order locals seen xs)) → Listed b c
      by true p true q (inl e) i with_x without_x = absurd (both_ways (has_variable seen x) (ap (has_variable seen) (variable_is x y e) ∙ s) q)
      by true p false q (inl e) i with_x without_x = at_head (sym (variable_is x y e))
      by false p c q (inl e) i with_x without_x = absurd (both_ways (has_variable locals x) p (ap (has_variable locals) (variable_is x y e) ∙ l))
      by true p true q (inr e) (inr i) with_x without_x = with_x i (or_from (is_same x y) (has_variable seen y) e s)
      by true p false q (inr e) (inr i) with_x without_x = there (with_x i (or_from (is_same x y) (has_variable seen y) e s))
      by false p c q (inr e) (inr i) with_x without_x = without_x i
      by b p c q (inr e) (inl same) with_x without_x = absurd (both_ways (is_same x y) e (subst (λ (z : Variable). is_same x z ≡ true) (sym same) (same_itself x)))

-- ---- reading them back

-- These variables as locals, the first of them having number n.
abbrev pub numbered_locals : ℕ → List Variable → List Variable
numbered_locals n [] = []
numbered_locals n (x ∷ xs) = record { sort = x.sort; number = n } ∷ numbered_locals (suc n) xs

numbered_push : (n : ℕ) (xs : List Variable) (x : Variable) → numbered_locals n (xs ++ x ∷ []) ≡ numbered_locals n xs ++ record { sort = x.sort; number = n + length xs } ∷ []
numbered_push n [] x = let z : n ≡ n + 0 = omega arith in ap (λ (k : ℕ). record { sort = x.sort; number = k } ∷ []) z
numbered_push n (y ∷ xs) x =
    let z : suc n + length xs ≡ n + suc (length xs) = omega arith in
    ap (λ (ls : List Variable). record { sort = y.sort; number = n } ∷ ls) (numbered_push (suc n) xs x ∙ ap (λ (k : ℕ). numbered_locals (suc n) xs ++ record { sort = x.sort; number = k } ∷ []) z)

has_below : (n : ℕ) (xs : List Variable) (j : ℕ) → j < length xs → has_local (numbered_locals n xs) (n + j) ≡ true
has_below n [] j l = absurd (omega (arith, l))
has_below n (x ∷ xs) zero l = or_left (n == (n + 0)) (has_local (numbered_locals (suc n) xs) (n + 0)) (eq-eqb n (n + 0) (omega arith))
has_below n (x ∷ xs) (suc j) l =
    let z : suc n + j ≡ n + suc j = omega arith in
    or_right (n == (n + suc j)) (has_local (numbered_locals (suc n) xs) (n + suc j)) (subst (λ (k : ℕ). has_local (numbered_locals (suc n) xs) k ≡ true) z (has_below (suc n) xs j (omega (arith, l))))

has_not_past : (n : ℕ) (xs : List Variable) (i : ℕ) → n + length xs ≤ i → has_local (numbered_locals n xs) i ≡ false
has_not_past n [] i l = refl
has_not_past n (x ∷ xs) i l =
    or_from (n == i) (has_local (numbered_locals (suc n) xs) i)
    (false_from_ne_true (n == i) (λ h. let e : n ≡ i = eqb-true n i h in absurd (omega (arith, l, e)))) (has_not_past (suc n) xs i (omega (arith, l)))

pub place_back : (n : ℕ) (xs : List Variable) (j : ℕ) → j < length xs → place_of_local (numbered_locals n xs) (n + j) ≡ j
place_back n [] j l = absurd (omega (arith, l))
place_back n (x ∷ xs) zero l = ap (λ (b : Bool). if b then 0 else suc (place_of_local (numbered_locals (suc n) xs) (n + 0))) (eq-eqb n (n + 0) (omega arith))
place_back n (x ∷ xs) (suc j) l =
    let z : suc n + j ≡ n + suc j = omega arith in
    ap (λ (b : Bool). if b then 0 else suc (place_of_local (numbered_locals (suc n) xs) (n + suc j))) (false_from_ne_true (n == (n + suc j)) (λ h. let e : n ≡ n + suc j = eqb-true n (n + suc j) h in absurd (omega (arith, e))))
    ∙ ap suc (subst (λ (k : ℕ). place_of_local (numbered_locals (suc n) xs) k ≡ j) z (place_back (suc n) xs j (omega (arith, l))))

has_append : (xs ys : List Variable) (y : Variable) → has_variable (xs ++ ys) y ≡ (has_variable xs y || has_variable ys y)
has_append [] ys y = refl
has_append (x ∷ xs) ys y = ap (λ (b : Bool). is_same x y || b) (has_append xs ys y) ∙ sym (or_assoc (is_same x y) (has_variable xs y) (has_variable ys y))

front_place : (xs ys : List Variable) (x : Variable) → IsIn x xs → AreApart (xs ++ ys) → (j : ℕ) × (place_among 0 (xs ++ ys) x ≡ Some (0 + j)) × (j < length xs)
front_place xs ys x m apart =
    let r = place_in m in
    let j : ℕ = r.0 in
    (j, placed_at 0 (xs ++ ys) j x apart (still xs j r.1), below xs j r.1)
  where
    still : (zs : List Variable) (j : ℕ) → item_at zs j ≡ Some x → item_at (zs ++ ys) j ≡ Some x
    still [] j e = absurd (cc)
    still (z ∷ zs) zero e = e
    still (z ∷ zs) (suc j) e = still zs j e

    below : (zs : List Variable) (j : ℕ) → item_at zs j ≡ Some x → j < length zs
    below [] j e = absurd (cc)
    below (z ∷ zs) zero e = omega arith
    below (z ∷ zs) (suc j) e = let l : j < length zs = below zs j e in omega arith

next_place : (xs ys : List Variable) (x : Variable) → AreApart (xs ++ x ∷ ys) → place_among 0 (xs ++ x ∷ ys) x ≡ Some (0 + length xs)
next_place xs ys x apart = placed_at 0 (xs ++ x ∷ ys) (length xs) x apart (at xs)
  where
    at : (zs : List Variable) → item_at (zs ++ x ∷ ys) (length zs) ≡ Some x
    at [] = refl
    at (z ∷ zs) = at zs

module _ (locals order : List Variable) (apart : AreApart order) (within : (y : Variable) → has_variable order y ≡ true → has_variable locals y ≡ true) where
  abbrev placed_piece : Variable → List LocalAt
  placed_piece x = piece_of x (place_among 0 order x)

  abbrev AgreeSeen : List Variable → List Variable → Type 0
  AgreeSeen seen front = (y : Variable) → has_variable seen y ≡ has_variable front y

  -- Behind the locals that stood before those that occur then are read, in their order.
  read_onto : (xs front seen : List Variable) → AgreeSeen seen front → order ≡ front ++ locals_in_order locals seen xs → locals_onto (numbered_locals 0 front) (all_pieces placed_piece xs) ≡ numbered_locals 0 order
  read_onto [] front seen agree e = ap (numbered_locals 0) (sym (append-nil front) ∙ sym e)
  read_onto (x ∷ xs) front seen agree e = by (has_variable locals x) refl (has_variable seen x) refl e (λ fs ss a q. read_onto xs fs ss a q)
    where
      Rest : Type 0
      Rest = (fs ss : List Variable) → AgreeSeen ss fs → order ≡ fs ++ locals_in_order locals ss xs → locals_onto (numbered_locals 0 fs) (all_pieces placed_piece xs) ≡ numbered_locals 0 order

      Goal : Type 0
      Goal = locals_onto (numbered_locals 0 front) (all_pieces placed_piece (x ∷ xs)) ≡ numbered_locals 0 order

      no_local : has_variable locals x ≡ false → order ≡ front ++ locals_in_order locals seen xs → Rest → Goal
      no_local p q rest =
          ap (λ (o : Option ℕ). locals_onto (numbered_locals 0 front) (piece_of x o ++ all_pieces placed_piece xs)) (not_placed 0 order x (false_from_ne_true (has_variable order x) (λ h. both_ways (has_variable locals x) p (within x h))))
          ∙ rest front seen agree q

      agree_again : has_variable seen x ≡ true → AgreeSeen (x ∷ seen) front
      agree_again h y = look (is_same x y) refl
        where
          look : (b : Bool) → is_same x y ≡ b → (b || has_variable seen y) ≡ has_variable front y
          look true same = sym (sym (agree y) ∙ sym (ap (has_variable seen) (variable_is x y same)) ∙ h)
          look false same = agree y

      again : has_variable seen x ≡ true → order ≡ front ++ locals_in_order locals (x ∷ seen) xs → Rest → Goal
      again h q rest =
          let there_it : IsIn x front = variable_in front x (sym (agree x) ∙ h) in
          let r = front_place front (locals_in_order locals (x ∷ seen) xs) x there_it (subst AreApart q apart) in
          let placed : place_among 0 order x ≡ Some (0 + r.0) = ap (λ (zs : List Variable). place_among 0 zs x) q ∙ r.1 in
          ap (λ (o : Option ℕ). locals_onto (numbered_locals 0 front) (piece_of x o ++ all_pieces placed_piece xs)) placed
          ∙ ap (λ (b : Bool). locals_onto (if b then numbered_locals 0 front else numbered_locals 0 front ++ record { sort = x.sort; number = 0 + r.0 } ∷ []) (all_pieces placed_piece xs)) (has_below 0 front r.0 r.2)
          ∙ rest front (x ∷ seen) (agree_again h) q

      agree_more : AgreeSeen (x ∷ seen) (front ++ x ∷ [])
      agree_more y = ap (λ (b : Bool). is_same x y || b) (agree y) ∙ turned (is_same x y) (has_variable front y) ∙ sym (has_append front (x ∷ []) y)
        where
          turned : (a b : Bool) → (a || b) ≡ (b || (a || false))
          turned true true = refl
          turned true false = refl
          turned false true = refl
          turned false false = refl

      found : has_variable seen x ≡ false → order ≡ front ++ x ∷ locals_in_order locals (x ∷ seen) xs → Rest → Goal
      found h q rest =
          let placed : place_among 0 order x ≡ Some (0 + length front) = ap (λ (zs : List Variable). place_among 0 zs x) q ∙ next_place front (locals_in_order locals (x ∷ seen) xs) x (subst AreApart q apart) in
          ap (λ (o : Option ℕ). locals_onto (numbered_locals 0 front) (piece_of x o ++ all_pieces placed_piece xs)) placed
          ∙ ap (λ (b : Bool). locals_onto (if b then numbered_locals 0 front else numbered_locals 0 front ++ record { sort = x.sort; number = 0 + length front } ∷ []) (all_pieces placed_piece xs))
          (has_not_past 0 front (0 + length front) (omega arith))
          ∙ ap (λ (ls : List Variable). locals_onto ls (all_pieces placed_piece xs)) (sym (numbered_push 0 front x))
          ∙ rest (front ++ x ∷ []) (x ∷ seen) agree_more (q ∙ sym (append_assoc front (x ∷ []) (locals_in_order locals (x ∷ seen) xs)))

      by : (b : Bool) → has_variable locals x ≡ b → (c : Bool) → has_variable seen x ≡ c
          → order ≡ front ++ (if b then (if c then locals_in_order locals (x ∷ seen) xs else x ∷ locals_in_order locals (x ∷ seen) xs) else locals_in_order locals seen xs) → Rest → Goal
      by true p true h q rest = again h q rest
      by true p false h q rest = found h q rest
      by false p c h q rest = no_local p q rest

  -- ---- one number is one local

  abbrev IsOfOrder : Variable → Type 0
  IsOfOrder l = (y : Variable) × (item_at order l.number ≡ Some y) × (y.sort ≡ l.sort)

  piece_of_order : (x : Variable) (o : Option ℕ) → place_among 0 order x ≡ o → (l : LocalAt) → IsIn l (piece_of x o) → IsOfOrder l.local
  piece_of_order x None e l m = elim m [ ]
  piece_of_order x (Some i) e l m = by (head_or_behind m)
    where
      by : (l ≡ record { place = no_place; local = record { sort = x.sort; number = i } }) ⊎ IsIn l [] → IsOfOrder l.local
      by (inl same) =
          let r = place_holds 0 order x i e in
          let z : r.0 ≡ i = sym (r.1 ∙ omega arith) in
          subst (λ (k : LocalAt). IsOfOrder k.local) (sym same) (x, subst (λ (j : ℕ). item_at order j ≡ Some x) z r.2, refl)
      by (inr i) = elim i [ ]

  keeps : (before : List Variable) (l : Variable) → ((k : Variable) → IsIn k before → IsOfOrder k) → IsOfOrder l → keeps_sort before l ≡ true
  keeps [] l all one = refl
  keeps (k ∷ before) l all one = by (k.number == l.number) refl (keeps before l (λ j m. all j (there m)) one)
    where
      by : (b : Bool) → (k.number == l.number) ≡ b → keeps_sort before l ≡ true → (if b then same_sort k.sort l.sort else keeps_sort before l) ≡ true
      by true e rest =
          let other = all k here in
          let p : Some other.0 ≡ Some one.0 = sym other.1 ∙ ap (item_at order) (eqb-true k.number l.number e) ∙ one.1 in
          let q : other.0 ≡ one.0 = cc in
          let r : k.sort ≡ l.sort = sym other.2 ∙ ap (λ (v : Variable). v.sort) q ∙ one.2 in
          ap (λ (s : Sort). same_sort s l.sort) r ∙ same_sort_itself l.sort
      by false e rest = rest

  no_clash : (before : List Variable) (ls : List LocalAt) → ((k : Variable) → IsIn k before → IsOfOrder k) → ((l : LocalAt) → IsIn l ls → IsOfOrder l.local) → clash_misfits before ls ≡ []
  no_clash before [] all others = refl
  no_clash before (l ∷ ls) all others =
      ap (λ (b : Bool). misfit_unless b l.place ++ clash_misfits (before ++ l.local ∷ []) ls) (keeps before l.local all (others l here))
      ∙ no_clash (before ++ l.local ∷ []) ls pushed (λ k m. others k (there m))
    where
      pushed : (k : Variable) → IsIn k (before ++ l.local ∷ []) → IsOfOrder k
      pushed k m = by (in_either before m)
        where
          by : IsIn k before ⊎ (k ≡ l.local) → IsOfOrder k
          by (inl i) = all k i
          by (inr e) = subst IsOfOrder (sym e) (others l here)

  pieces_of_order : (xs : List Variable) (l : LocalAt) → IsIn l (all_pieces placed_piece xs) → IsOfOrder l.local
  pieces_of_order [] l m = elim m [ ]
  pieces_of_order (x ∷ xs) l m = either (placed_piece x) m (piece_of_order x (place_among 0 order x) refl l) (pieces_of_order xs l)
    where
      either : (ls : List LocalAt) → IsIn l (ls ++ all_pieces placed_piece xs) → (IsIn l ls → IsOfOrder l.local) → (IsIn l (all_pieces placed_piece xs) → IsOfOrder l.local) → IsOfOrder l.local
      either [] i f g = g i
      either (k ∷ ls) here f g = f here
      either (k ∷ ls) (there i) f g = either ls i (λ j. f (there j)) g

  pub no_clash_in : (xs : List Variable) → clash_misfits [] (all_pieces placed_piece xs) ≡ []
  no_clash_in xs = no_clash [] (all_pieces placed_piece xs) (λ k m. elim m [ ]) (pieces_of_order xs)

  pub locals_read : (xs : List Variable) → order ≡ locals_in_order locals [] xs → locals_onto [] (all_pieces placed_piece xs) ≡ numbered_locals 0 order
  locals_read xs e = read_onto xs [] [] (λ y. refl) e

-- ---- the locals as variables

pub read_variable : (m n : ℕ) (xs : List Variable) (y : Variable) → IsIn y (variables_of_locals m (numbered_locals n xs)) → (j : ℕ) × (x : Variable) × (item_at xs j ≡ Some x) × (y ≡ variable x.sort (m + j))
read_variable m n [] y i = elim i [ ]
read_variable m n (x ∷ xs) y i = by (head_or_behind i) (read_variable (suc m) (suc n) xs y)
  where
    by : (y ≡ variable x.sort m) ⊎ IsIn y (variables_of_locals (suc m) (numbered_locals (suc n) xs)) → (IsIn y (variables_of_locals (suc m) (numbered_locals (suc n) xs)) → (j : ℕ) × (z : Variable) × (item_at xs j ≡ Some z) × (y ≡ variable z.sort (suc m + j)))
        → (j : ℕ) × (z : Variable) × (item_at (x ∷ xs) j ≡ Some z) × (y ≡ variable z.sort (m + j))
    by (inl e) rest = let z : m ≡ m + 0 = omega arith in (0, x, refl, e ∙ ap (λ (k : ℕ). variable x.sort k) z)
    by (inr k) rest =
        let r = rest k in
        let j : ℕ = r.0 in
        let z : suc m + j ≡ m + suc j = omega arith in
        (suc j, r.1, r.2, r.3 ∙ ap (λ (l : ℕ). variable r.1.sort l) z)

pub variable_read : (m n : ℕ) (xs : List Variable) (j : ℕ) (x : Variable) → item_at xs j ≡ Some x → IsIn (variable x.sort (m + j)) (variables_of_locals m (numbered_locals n xs))
variable_read m n [] j x e = absurd (cc)
variable_read m n (y ∷ xs) zero x e =
    let same : y ≡ x = cc in
    let z : m ≡ m + 0 = omega arith in
    at_head (sym (ap (λ (w : Variable). variable w.sort m) same ∙ ap (λ (k : ℕ). variable x.sort k) z))
variable_read m n (y ∷ xs) (suc j) x e =
    let z : suc m + j ≡ m + suc j = omega arith in
    there (subst (λ (k : ℕ). IsIn (variable x.sort k) (variables_of_locals (suc m) (numbered_locals (suc n) xs))) z (variable_read (suc m) (suc n) xs j x e))
