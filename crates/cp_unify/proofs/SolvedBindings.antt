-- What solved bindings do to terms, and how a further binding is added to them.
use Rattle.std.proofs.Common.{◌≡◌, Bool, List, [], ◌∷◌, ◌++◌, map, refl, sym, ap, ap₂, ◌∙◌, subst, true}
use Rattle.cp_model.specs.Message.{KeyPair, symmetric, asymmetric, key}
use Rattle.cp_model.specs.Term.{SymmetricTerm, PairTerm, symmetric_term, asymmetric_term, AtomTerm, text_variable, datum_variable, name_variable, key_term, Term, tag_term, pair_term, enc_term, variable_term, Assignment, value_of_symmetric, value_of_half, value_of, Substitution, apply_to_symmetric, apply_to_half, apply_to_atom, apply_to, after, composed, atom_term}
use Rattle.cp_model.specs.declared.sort.Sort.{Sort}
use Rattle.cp_model.specs.declared.sort.Sort.TheVariants.{Text as text_sort, Datum as datum_sort, Name as name_sort, Skey as skey_sort, Akey as akey_sort}
use Rattle.cp_model.specs.declared.variable.Variable.{Variable}
use Rattle.cp_model.proofs.LawTerms.{atom_after, value_after}
use Rattle.cp_term.specs.Sorts.{is_atom_of_sort, is_of_sort}
use Rattle.cp_unify.specs.Bindings.{Binding, HasItsSort, Meets, as_substitution}
use Rattle.cp_unify.specs.Joined.{moved, joined_bindings}
use Rattle.cp_unify.specs.Unifiers.{Solves, IsSolvable}
use Rattle.cp_unify.proofs.Free.{free, same_atoms, same_terms}
use Rattle.cp_unify.proofs.Substituted.{as_joined, value_met, atom_met}

-- An assignment after two substitutions.
symmetric_value : (g : Assignment) (t : Substitution) (k : SymmetricTerm) → value_of_symmetric g (apply_to_symmetric t k) ≡ value_of_symmetric (after g t) k
symmetric_value g t k =
    let e : key (symmetric (value_of_symmetric (after g t) k)) ≡ key (symmetric (value_of_symmetric g (apply_to_symmetric t k))) = atom_after g t (key_term (symmetric_term k)) in cc

half_value : (g : Assignment) (t : Substitution) (flag : Bool) (k : PairTerm) →
    value_of_half g (apply_to_half t flag k).0 (apply_to_half t flag k).1 ≡ value_of_half (after g t) flag k
half_value g t flag k =
    let there : Bool × KeyPair = value_of_half g (apply_to_half t flag k).0 (apply_to_half t flag k).1 in
    let here : Bool × KeyPair = value_of_half (after g t) flag k in
    let e : key (asymmetric here.0 here.1) ≡ key (asymmetric there.0 there.1) = atom_after g t (key_term (asymmetric_term flag k)) in
    let e0 : there.0 ≡ here.0 = cc in
    let e1 : there.1 ≡ here.1 = cc in
    λ i. (e0 i, e1 i)

pub after_composed : (g : Assignment) (s t : Substitution) → after g (composed s t) ≡ after (after g t) s
after_composed g s t = λ i. record (after (after g t) s) {
  skeys = λ n. symmetric_value g t (s.skeys n) i;
  akeys = λ n. half_value g t (s.akeys n).0 (s.akeys n).1 i;
}

-- A term has under a substitution the sort that it had.
atom_sort_kept : (s : Substitution) (k : Sort) (u : AtomTerm) → is_atom_of_sort k (apply_to_atom s u) ≡ is_atom_of_sort k u
atom_sort_kept s text_sort (text_variable n) = refl
atom_sort_kept s datum_sort (datum_variable n) = refl
atom_sort_kept s name_sort (name_variable n) = refl
atom_sort_kept s skey_sort (key_term (symmetric_term k)) = refl
atom_sort_kept s akey_sort (key_term (asymmetric_term flag k)) = refl
atom_sort_kept s skey_sort (key_term (asymmetric_term flag k)) = refl
atom_sort_kept s akey_sort (key_term (symmetric_term k)) = refl
atom_sort_kept s _ _ = refl

pub sort_kept : (s : Substitution) (k : Sort) (t : Term) → is_of_sort k (apply_to s t) ≡ is_of_sort k t
sort_kept s k (tag_term bytes) = refl
sort_kept s k (atom_term u) = atom_sort_kept s k u
sort_kept s k (pair_term a b) = refl
sort_kept s k (enc_term a j) = refl

pub moved_has_sort : (q : List Binding) (b : Binding) → HasItsSort b → HasItsSort (moved q b)
moved_has_sort q b h = sort_kept (as_substitution q) b.variable.sort b.term ∙ h

-- As a loop has the parts of the binding.
pub sorted_under : (q : List Binding) (b : Binding) (x : Variable) (t u : Term) → HasItsSort b → x ≡ b.variable → t ≡ b.term → u ≡ apply_to (as_substitution q) t →
    is_of_sort x.sort u ≡ true
sorted_under q b x t u h same is given =
    ap₂ (λ (y : Variable) (v : Term). is_of_sort y.sort v) same (given ∙ ap (apply_to (as_substitution q)) is) ∙ moved_has_sort q b h

-- What meets q meets bindings where it meets them with their terms under q.
pub moved_meets : (g : Assignment) (r q : List Binding) → Meets g q → Meets g r → Meets g (map (moved q) r)
moved_meets g [] q met m = tt
moved_meets g (b ∷ bs) q met m = (m.0 ∙ sym (value_met g q b.term met), moved_meets g bs q met m.1)

pub meets_moved : (g : Assignment) (r q : List Binding) → Meets g q → Meets g (map (moved q) r) → Meets g r
meets_moved g [] q met m = tt
meets_moved g (b ∷ bs) q met m = (m.0 ∙ value_met g q b.term met, meets_moved g bs q met m.1)

meets_append : (g : Assignment) (r q : List Binding) → Meets g r → Meets g q → Meets g (r ++ q)
meets_append g [] q m n = n
meets_append g (b ∷ bs) q m n = (m.0, meets_append g bs q m.1 n)

meets_front : (g : Assignment) (r q : List Binding) → Meets g (r ++ q) → Meets g r
meets_front g [] q m = tt
meets_front g (b ∷ bs) q m = (m.0, meets_front g bs q m.1)

meets_back : (g : Assignment) (r q : List Binding) → Meets g (r ++ q) → Meets g q
meets_back g [] q m = m
meets_back g (b ∷ bs) q m = meets_back g bs q m.1

pub meets_joined : (g : Assignment) (r q : List Binding) → Meets g r → Meets g q → Meets g (joined_bindings r q)
meets_joined g r q m n = meets_append g (map (moved q) r) q (moved_meets g r q n m) n

pub joined_meets : (g : Assignment) (r q : List Binding) → Meets g (joined_bindings r q) → Meets g r × Meets g q
joined_meets g r q m =
    let n : Meets g q = meets_back g (map (moved q) r) q m in
    (meets_moved g r q n (meets_front g (map (moved q) r) q m), n)

-- The bindings give an assignment that meets them, whatever the others get.
abbrev pub AlwaysMet : List Binding → Type 0
AlwaysMet r = (g : Assignment) → Meets (after g (as_substitution r)) r

-- Bindings that leave both sides of a further one, and which leaves its own term, with that one.
pub always_met_joined : (r : List Binding) (b : Binding) → AlwaysMet r →
    apply_to (as_substitution r) (variable_term b.variable) ≡ variable_term b.variable →
    apply_to (as_substitution r) b.term ≡ b.term →
    apply_to (as_substitution (b ∷ [])) (variable_term b.variable) ≡ b.term →
    apply_to (as_substitution (b ∷ [])) b.term ≡ b.term →
    AlwaysMet (joined_bindings r (b ∷ []))
always_met_joined r b met left right bound absent g =
    let q : List Binding = b ∷ [] in
    let f : Assignment = after g (as_substitution q) in
    let h : Assignment = after f (as_substitution r) in
    let same : after g (as_substitution (joined_bindings r q)) ≡ h =
    ap (λ (s : Substitution). after g s) (as_joined r q) ∙ after_composed g (as_substitution r) (as_substitution q) in
    let at_variable : value_of h (variable_term b.variable) ≡ value_of g b.term =
    value_after f (as_substitution r) (variable_term b.variable) ∙ ap (value_of f) left
    ∙ value_after g (as_substitution q) (variable_term b.variable) ∙ ap (value_of g) bound in
    let at_term : value_of h b.term ≡ value_of g b.term =
    value_after f (as_substitution r) b.term ∙ ap (value_of f) right
    ∙ value_after g (as_substitution q) b.term ∙ ap (value_of g) absent in
    let all : Meets h (joined_bindings r q) = meets_joined h r q (met f) (at_variable ∙ sym at_term, tt) in
    subst (λ (k : Assignment). Meets k (joined_bindings r q)) (sym same) all

-- Applied twice the bindings do what they do once.
pub idempotent_atom : (r : List Binding) → AlwaysMet r → (u : AtomTerm) → apply_to_atom (as_substitution r) (apply_to_atom (as_substitution r) u) ≡ apply_to_atom (as_substitution r) u
idempotent_atom r met u =
    let s : Substitution = as_substitution r in
    same_atoms _ _ (sym (atom_after free s (apply_to_atom s u)) ∙ atom_met (after free s) r u (met free) ∙ atom_after free s u)

pub idempotent_term : (r : List Binding) → AlwaysMet r → (t : Term) → apply_to (as_substitution r) (apply_to (as_substitution r) t) ≡ apply_to (as_substitution r) t
idempotent_term r met t =
    let s : Substitution = as_substitution r in
    same_terms _ _ (sym (value_after free s (apply_to s t)) ∙ value_met (after free s) r t (met free) ∙ value_after free s t)

-- They make terms equal whose values are equal wherever they are met.
pub unified : (r : List Binding) (a b : Term) → AlwaysMet r → ((g : Assignment) → Meets g r → value_of g a ≡ value_of g b) →
    apply_to (as_substitution r) a ≡ apply_to (as_substitution r) b
unified r a b met equal =
    let s : Substitution = as_substitution r in
    same_terms _ _ (sym (value_after free s a) ∙ equal (after free s) (met free) ∙ value_after free s b)

solved_where_met : (s : Substitution) (q : List Binding) → Meets (after free s) q → Solves s q
solved_where_met s [] m = tt
solved_where_met s (b ∷ bs) m =
    (same_terms _ _ (sym (value_after free s (variable_term b.variable)) ∙ m.0 ∙ value_after free s b.term), solved_where_met s bs m.1)

pub solves : (r q : List Binding) → AlwaysMet r → ((g : Assignment) → Meets g r → Meets g q) → Solves (as_substitution r) q
solves r q met sound = solved_where_met (as_substitution r) q (sound (after free (as_substitution r)) (met free))

pub solvable : (r : List Binding) → AlwaysMet r → IsSolvable r
solvable r met = record { solution = after free (as_substitution r); meets = met free }

-- A substitution that solves what the bindings solve does after them what it does alone.
met_where_solved : (s : Substitution) (q : List Binding) → Solves s q → Meets (after free s) q
met_where_solved s [] h = tt
met_where_solved s (b ∷ bs) h =
    (value_after free s (variable_term b.variable) ∙ ap (value_of free) h.0 ∙ sym (value_after free s b.term), met_where_solved s bs h.1)

pub factoring : (r q : List Binding) (a b : Term) → ((g : Assignment) → Meets g q → value_of g a ≡ value_of g b → Meets g r) →
    (t : Substitution) → Solves t q → apply_to t a ≡ apply_to t b → (u : Term) → apply_to t (apply_to (as_substitution r) u) ≡ apply_to t u
factoring r q a b general t solved equal u =
    let g : Assignment = after free t in
    let met : Meets g r = general g (met_where_solved t q solved) (value_after free t a ∙ ap (value_of free) equal ∙ sym (value_after free t b)) in
    same_terms _ _ (sym (value_after free t (apply_to (as_substitution r) u)) ∙ value_met g r u met ∙ value_after free t u)
