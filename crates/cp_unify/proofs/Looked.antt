-- Looking a variable up in a list of bindings.
use Rattle.std.proofs.Common.{◌≡◌, inl, inr, Option, MatchOption, ◌<◌, ◌≤◌, ◌+◌, ℕ, Bool, true, false, if◌then◌else◌, Some, None, List, [], ◌∷◌, length, get_or, drop, refl, sym, ap, ◌∙◌, subst}
use Rattle.std.specs.Bool.{Decides}
use Rattle.std.specs.Option.{option_map}
use Rattle.std.proofs.lemmas.List.{drop_all}
use Rattle.cp_lists.proofs.Members.{drop_read}
use Rattle.cp_model.specs.Term.{skey_variable, ltk_term, akey_variable, pubk_term, symmetric_term, asymmetric_term, AtomTerm, text_variable, datum_variable, name_variable, key_term, Term, tag_term, atom_term, pair_term, enc_term, variable_term, apply_to}
use Rattle.cp_model.specs.declared.sort.Sort.{Sort}
use Rattle.cp_model.specs.declared.sort.Sort.TheVariants.{Text as text_sort, Datum as datum_sort, Name as name_sort, Skey as skey_sort, Akey as akey_sort}
use Rattle.cp_model.specs.declared.variable.Variable.{Variable}
use Rattle.cp_model.proofs.LawTerms.{term_unchanged}
use Rattle.cp_term.specs.Variables.{variable_of_sort}
use Rattle.cp_unify.specs.Bindings.{Binding, HasItsSort, as_substitution}
use Rattle.cp_unify.specs.Matched.{bound_term}
use Rattle.cp_unify.specs.Places.{IsRestAfter}
use Rattle.cp_model.specs.Same.{same_term}
use Rattle.cp_term.proofs.SameTerms.{same_Decides, test_is}
use Rattle.cp_unify.proofs.VariablesUnder.{bound, other}

-- A variable with a number is a term.
pub record IsVariableTerm (n : ℕ) (v : Term) : Type 0 where
  pub variable : Variable
  pub numbered : variable.number ≡ n
  pub is_variable : v ≡ variable_term variable

pub variable_is_term : (s : Sort) (n : ℕ) → IsVariableTerm n (variable_of_sort s n)
variable_is_term s n = record { variable = record { sort = s; number = n }; numbered = refl; is_variable = refl }

-- From place i on the bindings do to a variable what all do.
pub record IsYetToFind (bs : List Binding) (i : ℕ) (v : Term) : Type 0 where
  pub applied : apply_to (as_substitution bs) v ≡ apply_to (as_substitution (drop i bs)) v
  pub exact : bound_term bs v ≡ bound_term (drop i bs) v

pub yet_to_find : (bs : List Binding) (v : Term) → IsYetToFind bs 0 v
yet_to_find bs v = record { applied = refl; exact = refl }

pub found_here : (bs : List Binding) (i : ℕ) (b : Binding) (v : Term) → IsYetToFind bs i v →
    i < length bs → b ≡ get_or bs i b → HasItsSort b → v ≡ variable_term b.variable → apply_to (as_substitution bs) v ≡ b.term
found_here bs i b v so_far below read sorted here =
    so_far.applied ∙ ap (λ (cs : List Binding). apply_to (as_substitution cs) v) (drop_read bs i b below read)
    ∙ ap (apply_to (as_substitution (b ∷ drop (i + 1) bs))) here ∙ bound b (as_substitution (drop (i + 1) bs)) sorted

term_here : (b : Binding) (bs : List Binding) (v : Term) → v ≡ variable_term b.variable → bound_term (b ∷ bs) v ≡ Some b.term
term_here b bs v here = rw ((same_Decides v (variable_term b.variable)).1 here) refl

pub found_exactly : (bs : List Binding) (i : ℕ) (b : Binding) (v : Term) → IsYetToFind bs i v →
    i < length bs → b ≡ get_or bs i b → v ≡ variable_term b.variable → bound_term bs v ≡ Some b.term
found_exactly bs i b v so_far below read here =
    so_far.exact ∙ ap (λ (cs : List Binding). bound_term cs v) (drop_read bs i b below read) ∙ term_here b (drop (i + 1) bs) v here

pub not_here : {n : ℕ} (b : Binding) (bs : List Binding) (v : Term) → IsVariableTerm n v → (v ≡ variable_term b.variable → ⊥) →
    apply_to (as_substitution (b ∷ bs)) v ≡ apply_to (as_substitution bs) v
not_here b bs v is apart =
    ap (apply_to (as_substitution (b ∷ bs))) is.is_variable
    ∙ other b (as_substitution bs) is.variable (λ e. apart (is.is_variable ∙ ap (λ (x : Variable). variable_term x) e))
    ∙ sym (ap (apply_to (as_substitution bs)) is.is_variable)

term_not_here : (b : Binding) (bs : List Binding) (v : Term) → (v ≡ variable_term b.variable → ⊥) → bound_term (b ∷ bs) v ≡ bound_term bs v
term_not_here b bs v apart = choose (same_term v (variable_term b.variable)) (same_Decides v (variable_term b.variable)).0
  where
    choose : (c : Bool) → (c ≡ true → v ≡ variable_term b.variable) → (if c then Some b.term else bound_term bs v) ≡ bound_term bs v
    choose true p = absurd (apart (p refl))
    choose false p = refl

pub found_later : {n : ℕ} (bs : List Binding) (i : ℕ) (b : Binding) (v : Term) → IsVariableTerm n v → IsYetToFind bs i v →
    i < length bs → b ≡ get_or bs i b → (v ≡ variable_term b.variable → ⊥) → IsYetToFind bs (i + 1) v
found_later bs i b v is so_far below read apart = record {
  applied = so_far.applied ∙ ap (λ (cs : List Binding). apply_to (as_substitution cs) v) (drop_read bs i b below read) ∙ not_here b (drop (i + 1) bs) v is apart;
  exact = so_far.exact ∙ ap (λ (cs : List Binding). bound_term cs v) (drop_read bs i b below read) ∙ term_not_here b (drop (i + 1) bs) v apart;
}

pub found_nowhere : (bs : List Binding) (i : ℕ) (v : Term) → IsYetToFind bs i v → length bs ≤ i → (apply_to (as_substitution bs) v ≡ v) × (bound_term bs v ≡ None)
found_nowhere bs i v so_far end =
    let none : drop i bs ≡ [] = drop_all i bs end in (
      so_far.applied ∙ ap (λ (cs : List Binding). apply_to (as_substitution cs) v) none ∙ term_unchanged v,
      so_far.exact ∙ ap (λ (cs : List Binding). bound_term cs v) none,
    )

-- Behind bindings of other numbers all of a number are found.
abbrev atom_number : AtomTerm → ℕ
atom_number (text_variable n) = n
atom_number (datum_variable n) = n
atom_number (name_variable n) = n
atom_number (key_term (symmetric_term (skey_variable n))) = n
atom_number (key_term (symmetric_term (ltk_term a b))) = 0
atom_number (key_term (asymmetric_term flag (akey_variable n))) = n
atom_number (key_term (asymmetric_term flag (pubk_term p a))) = 0

abbrev term_number : Term → ℕ
term_number (atom_term u) = atom_number u
term_number (tag_term bytes) = 0
term_number (pair_term a b) = 0
term_number (enc_term a k) = 0

number_of_term : (s : Sort) (n : ℕ) → term_number (variable_of_sort s n) ≡ n
number_of_term s n = elim s as (λ k. term_number (variable_of_sort k n) ≡ n) [ text_sort ↦ refl | datum_sort ↦ refl | name_sort ↦ refl | skey_sort ↦ refl | akey_sort ↦ refl ]

pub other_number : (s : Sort) (n : ℕ) (b : Binding) → (b.variable.number ≡ n → ⊥) → variable_of_sort s n ≡ variable_term b.variable → ⊥
other_number s n b apart e =
    apart (sym (number_of_term b.variable.sort b.variable.number) ∙ sym (ap term_number e) ∙ number_of_term s n)

pub behind_applied : (s : Sort) (n : ℕ) (rest bs : List Binding) → IsRestAfter n rest bs →
    apply_to (as_substitution bs) (variable_of_sort s n) ≡ apply_to (as_substitution rest) (variable_of_sort s n)
behind_applied s n rest [] h = ap (λ (cs : List Binding). apply_to (as_substitution cs) (variable_of_sort s n)) (sym h)
behind_applied s n rest (b ∷ bs) (inl e) = ap (λ (cs : List Binding). apply_to (as_substitution cs) (variable_of_sort s n)) (sym e)
behind_applied s n rest (b ∷ bs) (inr p) =
    not_here b bs (variable_of_sort s n) (variable_is_term s n) (other_number s n b p.0) ∙ behind_applied s n rest bs p.1

pub behind_bound : (s : Sort) (n : ℕ) (rest bs : List Binding) → IsRestAfter n rest bs →
    bound_term bs (variable_of_sort s n) ≡ bound_term rest (variable_of_sort s n)
behind_bound s n rest [] h = ap (λ (cs : List Binding). bound_term cs (variable_of_sort s n)) (sym h)
behind_bound s n rest (b ∷ bs) (inl e) = ap (λ (cs : List Binding). bound_term cs (variable_of_sort s n)) (sym e)
behind_bound s n rest (b ∷ bs) (inr p) =
    term_not_here b bs (variable_of_sort s n) (other_number s n b p.0) ∙ behind_bound s n rest bs p.1

-- What a look-up in the rest has found is of all.
pub found_behind : {A : Type 0} (f : A → Term) (s : Sort) (n : ℕ) (rest bs : List Binding) (found : Option A) → IsRestAfter n rest bs →
    MatchOption found (apply_to (as_substitution rest) (variable_of_sort s n) ≡ variable_of_sort s n) (λ t. apply_to (as_substitution rest) (variable_of_sort s n) ≡ f t) →
    MatchOption found (apply_to (as_substitution bs) (variable_of_sort s n) ≡ variable_of_sort s n) (λ t. apply_to (as_substitution bs) (variable_of_sort s n) ≡ f t)
found_behind f s n rest bs None h k = behind_applied s n rest bs h ∙ k
found_behind f s n rest bs (Some t) h k = behind_applied s n rest bs h ∙ k

-- Whether a variable is bound to a term, where it is bound.
pub bound_same : (bound : Option Term) (found term : Term) (r : Bool) → Some found ≡ bound → Decides r (found ≡ term) →
    Some r ≡ option_map (λ (u : Term). same_term u term) bound
bound_same None found term r e h = absurd (cc)
bound_same (Some u) found term r e h =
    let is_u : found ≡ u = cc in
    ap Some (sym (test_is u term r (subst (λ (t : Term). Decides r (t ≡ term)) is_u h)))
