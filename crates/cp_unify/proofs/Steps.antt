-- The loop that mends one difference after the other.
use Rattle.std.proofs.Common.{◌≡◌, ◌⊎◌, inl, inr, ◌<◌, ℕ, Bool, true, false, if◌then◌else◌, ◌==◌, ◌&&◌, List, [], ◌∷◌, ◌++◌, Option, refl, sym, ap, ap₂, ◌∙◌, subst, arith}
use Rattle.std.specs.Prelude.{nat_eq, nat_lt}
use Rattle.std.specs.Bool.{Decides}
use Rattle.std.specs.Cmp.Lexicographic.{pointwise}
use Rattle.std.specs.Option.{option_eq}
use Rattle.std.proofs.lemmas.Bool.Decides.{Decides-and}
use Rattle.cp_model.specs.Same.{same_bool}
use Rattle.cp_term.specs.Keys.{key_as_term}
use Rattle.cp_term.proofs.SameTerms.{flag_Decides, purpose_Decides}
use Rattle.cp_lists.specs.Lists.{IsIn, here, there}
use Rattle.cp_model.specs.Term.{PairTerm, skey_variable, ltk_term, akey_variable, pubk_term, symmetric_term, asymmetric_term, AtomTerm, text_variable, datum_variable, name_variable, key_term, Term, tag_term, pair_term, enc_term, variable_term, variables_of_atom, variables_of, Assignment, value_of, Substitution, apply_to, atom_term}
use Rattle.cp_model.specs.declared.sort.Sort.{Sort}
use Rattle.cp_model.specs.declared.sort.Sort.TheVariants.{Text as text_sort, Datum as datum_sort, Name as name_sort, Skey as skey_sort, Akey as akey_sort}
use Rattle.cp_model.specs.declared.variable.Variable.{Variable}
use Rattle.cp_model.specs.Identity.{unchanged}
use Rattle.cp_model.proofs.LawTerms.{atom_unchanged, term_unchanged, term_composed}
use Rattle.cp_term.specs.Spines.{HasTail}
use Rattle.cp_unify.specs.Bindings.{Binding, HasItsSort, IsBetween, Meets, put_term, as_substitution, variables_of_bindings}
use Rattle.cp_unify.specs.Joined.{moved, joined_bindings}
use Rattle.cp_unify.specs.Unifiers.{IsBefore, AreLaterToEarlier, AreVariablesAmong, HasNoUnifier}
use Rattle.cp_unify.specs.Solved.{IsSolved, SolvesBeside}
use Rattle.cp_unify.proofs.VariableTests.{is_variable, is_variable_tells, occurs, occurs_tells, occurs_in, occurs_not, count, fewer}
use Rattle.cp_unify.proofs.Found.{Narrows, IsDifference, found}
use Rattle.cp_unify.specs.Differences.{binds, between_names, difference_of}
use Rattle.cp_unify.specs.declared.difference.Difference.TheVariants.{Same, Clash, Bind}
use Rattle.cp_lists.proofs.Members.{not_in_none, only_item, in_append_left, in_append_right, in_append}
use Rattle.cp_unify.proofs.Members.{among_cons, among_append, among_left, among_right}
use Rattle.cp_unify.proofs.VariablesUnder.{Leaves, leaves_variables_of, leaves_term, bound, bound_or_left, other, leaves_other, leaves_absent, given_term}
use Rattle.cp_unify.proofs.SolvedBindings.{meets_joined, joined_meets, AlwaysMet, always_met_joined, idempotent_term}
use Rattle.cp_unify.proofs.Substituted.{as_joined, value_met}

-- What bindings give to a variable is over their variables and that one.
gives_cases : (b : Binding) (s : Substitution) (zs : List Variable) (x : Variable) → AreVariablesAmong (variables_of b.term) zs →
    AreVariablesAmong (variables_of (apply_to s (variable_term x))) zs →
    ((is_variable x b.variable ≡ true) × (x ≡ b.variable)) ⊎ ((is_variable x b.variable ≡ false) × (x ≡ b.variable → ⊥)) →
    AreVariablesAmong (variables_of (apply_to (put_term b.variable b.term s) (variable_term x))) zs
gives_cases b s zs x own rest (inl p) =
    elim (bound_or_left b s) [
      | inl e ↦
          let f : apply_to (put_term b.variable b.term s) (variable_term x) ≡ b.term =
          ap (λ (y : Variable). apply_to (put_term b.variable b.term s) (variable_term y)) p.1 ∙ e in
          subst (λ (u : Term). AreVariablesAmong (variables_of u) zs) (sym f) own
      | inr e ↦ subst (λ (t : Substitution). AreVariablesAmong (variables_of (apply_to t (variable_term x))) zs) (sym e) rest
    ]
gives_cases b s zs x own rest (inr p) = subst (λ (u : Term). AreVariablesAmong (variables_of u) zs) (sym (other b s x p.1)) rest

pub one_variable : (s : Sort) (n : ℕ) (zs : List Variable) → (let x : Variable = record { sort = s; number = n } in IsIn x zs → AreVariablesAmong (variables_of (variable_term x)) zs)
one_variable text_sort n zs h y i = subst (λ (z : Variable). IsIn z zs) (sym (only_item i)) h
one_variable datum_sort n zs h y i = subst (λ (z : Variable). IsIn z zs) (sym (only_item i)) h
one_variable name_sort n zs h y i = subst (λ (z : Variable). IsIn z zs) (sym (only_item i)) h
one_variable skey_sort n zs h y i = subst (λ (z : Variable). IsIn z zs) (sym (only_item i)) h
one_variable akey_sort n zs h y i = subst (λ (z : Variable). IsIn z zs) (sym (only_item i)) h

as_gives : (q : List Binding) (zs : List Variable) → AreVariablesAmong (variables_of_bindings q) zs → (x : Variable) → IsIn x zs →
    AreVariablesAmong (variables_of (apply_to (as_substitution q) (variable_term x))) zs
as_gives [] zs h x i = rw atom_unchanged (one_variable x.sort x.number zs i)
as_gives (b ∷ bs) zs h x i =
    gives_cases b (as_substitution bs) zs x (λ y j. h y (there (in_append_left (variables_of_bindings bs) j)))
    (as_gives bs zs (λ y j. h y (there (in_append_right (variables_of b.term) j))) x i) (is_variable_tells x b.variable)

pub applied_among : (q : List Binding) (zs : List Variable) (t : Term) → AreVariablesAmong (variables_of_bindings q) zs → AreVariablesAmong (variables_of t) zs →
    AreVariablesAmong (variables_of (apply_to (as_substitution q) t)) zs
applied_among q zs t h k y i = given_term (λ z. IsIn z zs) (as_substitution q) t (λ x j. as_gives q zs h x (k x j)) y i

pub joined_among : (r q : List Binding) (zs : List Variable) → AreVariablesAmong (variables_of_bindings r) zs → AreVariablesAmong (variables_of_bindings q) zs →
    AreVariablesAmong (variables_of_bindings (joined_bindings r q)) zs
joined_among [] q zs h k = k
joined_among (b ∷ bs) q zs h k =
    among_cons b.variable _ zs (h b.variable here)
    (among_append (variables_of (moved q b).term) (variables_of_bindings (joined_bindings bs q)) zs
    (applied_among q zs b.term k (λ y j. h y (there (in_append_left (variables_of_bindings bs) j))))
    (joined_among bs q zs (λ y j. h y (there (in_append_right (variables_of b.term) j))) k))

-- Later variables stay bound to earlier ones.
before_longer : (u : Term) (m n : ℕ) → IsBefore u m → m < n → IsBefore u n
before_longer (atom_term (text_variable k)) m n h l = omega arith
before_longer (atom_term (datum_variable k)) m n h l = omega arith
before_longer (atom_term (name_variable k)) m n h l = omega arith
before_longer (atom_term (key_term (symmetric_term (skey_variable k)))) m n h l = omega arith
before_longer (atom_term (key_term (symmetric_term (ltk_term a b)))) m n h l = tt
before_longer (atom_term (key_term (asymmetric_term flag (akey_variable k)))) m n h l = omega arith
before_longer (atom_term (key_term (asymmetric_term flag (pubk_term p a)))) m n h l = tt
before_longer (tag_term bytes) m n h l = tt
before_longer (pair_term a b) m n h l = tt
before_longer (enc_term a k) m n h l = tt

before_own : (s : Sort) (m n : ℕ) → m < n → IsBefore (variable_term (record { sort = s; number = m })) n
before_own text_sort m n h = h
before_own datum_sort m n h = h
before_own name_sort m n h = h
before_own skey_sort m n h = h
before_own akey_sort m n h = h

-- A term that is not changed, or that is the term of the binding.
before_either : (b : Binding) (x : Variable) (n : ℕ) → x.number < n → IsBefore b.term b.variable.number → x ≡ b.variable →
    (apply_to (as_substitution (b ∷ [])) (variable_term b.variable) ≡ b.term) ⊎ (as_substitution (b ∷ []) ≡ unchanged) →
    IsBefore (apply_to (as_substitution (b ∷ [])) (variable_term x)) n
before_either b x n l h same (inl given) =
    let e : apply_to (as_substitution (b ∷ [])) (variable_term x) ≡ b.term =
    ap (λ (y : Variable). apply_to (as_substitution (b ∷ [])) (variable_term y)) same ∙ given in
    let number : x.number ≡ b.variable.number = ap (λ (y : Variable). y.number) same in
    subst (λ (u : Term). IsBefore u n) (sym e) (before_longer b.term b.variable.number n h (omega arith))
before_either b x n l h same (inr none) =
    let e : apply_to (as_substitution (b ∷ [])) (variable_term x) ≡ variable_term x =
    ap (λ (s : Substitution). apply_to s (variable_term x)) none ∙ term_unchanged (variable_term x) in
    subst (λ (u : Term). IsBefore u n) (sym e) (before_own x.sort x.number n l)

before_variable : (b : Binding) (x : Variable) (n : ℕ) → x.number < n → IsBefore b.term b.variable.number → IsBefore (apply_to (as_substitution (b ∷ [])) (variable_term x)) n
before_variable b x n l h =
    elim (is_variable_tells x b.variable) [
      | inl p ↦ before_either b x n l h p.1 (bound_or_left b unchanged)
      | inr p ↦ subst (λ (u : Term). IsBefore u n) (sym (ap atom_term (leaves_other b x p.1))) (before_own x.sort x.number n l)
    ]

before_moved : (b : Binding) (u : Term) (n : ℕ) → IsBefore u n → IsBefore b.term b.variable.number → IsBefore (apply_to (as_substitution (b ∷ [])) u) n
before_moved b (atom_term (text_variable m)) n l h = before_variable b (record { sort = text_sort; number = m }) n l h
before_moved b (atom_term (datum_variable m)) n l h = before_variable b (record { sort = datum_sort; number = m }) n l h
before_moved b (atom_term (name_variable m)) n l h = before_variable b (record { sort = name_sort; number = m }) n l h
before_moved b (atom_term (key_term (symmetric_term (skey_variable m)))) n l h = before_variable b (record { sort = skey_sort; number = m }) n l h
before_moved b (atom_term (key_term (symmetric_term (ltk_term a c)))) n l h = tt
before_moved b (atom_term (key_term (asymmetric_term flag (akey_variable m)))) n l h = before_variable b (record { sort = akey_sort; number = m }) n l h
before_moved b (atom_term (key_term (asymmetric_term flag (pubk_term p a)))) n l h = tt
before_moved b (tag_term bytes) n l h = tt
before_moved b (pair_term a c) n l h = tt
before_moved b (enc_term a k) n l h = tt

joined_before : (r : List Binding) (b : Binding) → AreLaterToEarlier r → IsBefore b.term b.variable.number → AreLaterToEarlier (joined_bindings r (b ∷ []))
joined_before [] b h k = (k, tt)
joined_before (c ∷ cs) b h k = (before_moved b c.term c.variable.number h.0 k, joined_before cs b h.1 k)

-- How far the loop has come: from the equation of a0 and b0 beside the bindings r0 to that of a and b beside r, which
-- leaves a and b.
pub record IsReducedTo (a0 b0 : Term) (r0 : List Binding) (a b : Term) (r : List Binding) : Type 0 where
  pub solved : IsSolved r
  pub sound : (g : Assignment) → Meets g r → value_of g a ≡ value_of g b → Meets g r0 × (value_of g a0 ≡ value_of g b0)
  pub general : (g : Assignment) → Meets g r0 → value_of g a0 ≡ value_of g b0 → Meets g r × (value_of g a ≡ value_of g b)
  pub leaves_left : apply_to (as_substitution r) a ≡ a
  pub leaves_right : apply_to (as_substitution r) b ≡ b
  pub within : AreVariablesAmong (variables_of_bindings r) (variables_of a0 ++ (variables_of b0 ++ variables_of_bindings r0))
  pub left_within : AreVariablesAmong (variables_of a) (variables_of a0 ++ (variables_of b0 ++ variables_of_bindings r0))
  pub right_within : AreVariablesAmong (variables_of b) (variables_of a0 ++ (variables_of b0 ++ variables_of_bindings r0))

pub reduced_at_first : (a0 b0 : Term) (r0 : List Binding) → IsSolved r0 → IsReducedTo a0 b0 r0 (apply_to (as_substitution r0) a0) (apply_to (as_substitution r0) b0) r0
reduced_at_first a0 b0 r0 h =
    let zs : List Variable = variables_of a0 ++ (variables_of b0 ++ variables_of_bindings r0) in
    let there_r : AreVariablesAmong (variables_of_bindings r0) zs = λ x i. in_append_right (variables_of a0) (in_append_right (variables_of b0) i) in
    record {
      solved = h;
      sound = λ g m e. (m, sym (value_met g r0 a0 m) ∙ e ∙ value_met g r0 b0 m);
      general = λ g m e. (m, value_met g r0 a0 m ∙ e ∙ sym (value_met g r0 b0 m));
      leaves_left = idempotent_term r0 h.met a0;
      leaves_right = idempotent_term r0 h.met b0;
      within = there_r;
      left_within = applied_among r0 zs a0 there_r (λ x i. in_append_left _ i);
      right_within = applied_among r0 zs b0 there_r (λ x i. in_append_right (variables_of a0) (in_append_left _ i));
    }

leaves_of_both : (r : List Binding) (a b : Term) → apply_to (as_substitution r) a ≡ a → apply_to (as_substitution r) b ≡ b → (x : Variable) →
    IsIn x (variables_of a ++ variables_of b) → Leaves (as_substitution r) x
leaves_of_both r a b la lb x i =
    elim (in_append (variables_of a) (variables_of b) i) [
      | inl j ↦ leaves_variables_of (as_substitution r) a la x j
      | inr j ↦ leaves_variables_of (as_substitution r) b lb x j
    ]

leaves_after : (r q : List Binding) (a : Term) → apply_to (as_substitution r) a ≡ a → AlwaysMet (joined_bindings r q) →
    apply_to (as_substitution (joined_bindings r q)) (apply_to (as_substitution q) a) ≡ apply_to (as_substitution q) a
leaves_after r q a la met =
    let e : apply_to (as_substitution (joined_bindings r q)) a ≡ apply_to (as_substitution q) a =
    ap (λ (s : Substitution). apply_to s a) (as_joined r q) ∙ term_composed (as_substitution r) (as_substitution q) a ∙ ap (apply_to (as_substitution q)) la in
    ap (apply_to (as_substitution (joined_bindings r q))) (sym e) ∙ idempotent_term (joined_bindings r q) met a ∙ e

abbrev Equal : Term → Term → Assignment → Type 0
Equal a b g = value_of g a ≡ value_of g b

pub reduced_further : (a0 b0 : Term) (r0 : List Binding) (a b : Term) (r : List Binding) (x : Binding) → IsReducedTo a0 b0 r0 a b r →
    Narrows (Equal a b) (variables_of a ++ variables_of b) x →
    IsReducedTo a0 b0 r0 (apply_to (as_substitution (x ∷ [])) a) (apply_to (as_substitution (x ∷ [])) b) (joined_bindings r (x ∷ []))
reduced_further a0 b0 r0 a b r x h n =
    let q : List Binding = x ∷ [] in
    let zs : List Variable = variables_of a0 ++ (variables_of b0 ++ variables_of_bindings r0) in
    let left_alone : (y : Variable) → IsIn y (variables_of a ++ variables_of b) → Leaves (as_substitution r) y = leaves_of_both r a b h.leaves_left h.leaves_right in
    let both : AreVariablesAmong (variables_of a ++ variables_of b) zs = among_append (variables_of a) (variables_of b) zs h.left_within h.right_within in
    let of_x : AreVariablesAmong (variables_of_bindings q) zs =
    among_cons x.variable _ zs (both _ n.left) (among_append (variables_of x.term) [] zs (λ y i. both y (n.right y i)) (λ y i. absurd (not_in_none i))) in
    let met : AlwaysMet (joined_bindings r q) =
    always_met_joined r x h.solved.met (ap atom_term (left_alone x.variable n.left))
    (leaves_term (as_substitution r) x.term (λ y i. left_alone y (n.right y i)))
    (bound x unchanged n.sorted) (leaves_absent x x.term n.absent) in
    record {
      solved = record { met = met; later_to_earlier = joined_before r x h.solved.later_to_earlier n.before };
      sound = λ g m e.
          let parts : Meets g r × Meets g q = joined_meets g r q m in
          h.sound g parts.0 (sym (value_met g q a parts.1) ∙ e ∙ value_met g q b parts.1);
      general = λ g m e.
          let before : Meets g r × (value_of g a ≡ value_of g b) = h.general g m e in
          let meets_x : Meets g q = (n.every g before.1, tt) in
          (meets_joined g r q before.0 meets_x, value_met g q a meets_x ∙ before.1 ∙ sym (value_met g q b meets_x));
      leaves_left = leaves_after r q a h.leaves_left met;
      leaves_right = leaves_after r q b h.leaves_right met;
      within = joined_among r q zs h.within of_x;
      left_within = applied_among q zs a of_x h.left_within;
      right_within = applied_among q zs b of_x h.right_within;
    }

pub reduced_to_same : (a0 b0 : Term) (r0 : List Binding) (a b : Term) (r : List Binding) → IsReducedTo a0 b0 r0 a b r → a ≡ b → SolvesBeside a0 b0 r0 r
reduced_to_same a0 b0 r0 a b r h e = record {
  sound = λ g m. h.sound g m (ap (value_of g) e);
  general = λ g m equal. (h.general g m equal).0;
  solved = h.solved;
  no_new = h.within;
}

-- How many of some variables occur in two terms: those that are not bound yet.
abbrev pub unbound : List Variable → Term → Term → ℕ
unbound zs a b = count (occurs (variables_of a ++ variables_of b)) zs

one_of : (s : Sort) (n : ℕ) (y : Variable) → (let x : Variable = record { sort = s; number = n } in IsIn y (variables_of (variable_term x)) → y ≡ x)
one_of text_sort n y i = only_item i
one_of datum_sort n y i = only_item i
one_of name_sort n y i = only_item i
one_of skey_sort n y i = only_item i
one_of akey_sort n y i = only_item i

gone_one : (x : Binding) → HasItsSort x → (IsIn x.variable (variables_of x.term) → ⊥) → (z y : Variable) →
    IsIn y (variables_of (apply_to (as_substitution (x ∷ [])) (variable_term z))) → y ≡ x.variable → ⊥
gone_one x sorted absent z y i e =
    elim (is_variable_tells z x.variable) [
      | inl p ↦
          let f : apply_to (as_substitution (x ∷ [])) (variable_term z) ≡ x.term =
          ap (λ (v : Variable). apply_to (as_substitution (x ∷ [])) (variable_term v)) p.1 ∙ bound x unchanged sorted in
          absent (subst (λ (v : Variable). IsIn v (variables_of x.term)) e (subst (λ (u : Term). IsIn y (variables_of u)) f i))
      | inr p ↦ p.1 (sym (one_of z.sort z.number y (subst (λ (u : AtomTerm). IsIn y (variables_of_atom u)) (leaves_other x z p.1) i)) ∙ e)
    ]

gone_from : (x : Binding) (t : Term) → HasItsSort x → (IsIn x.variable (variables_of x.term) → ⊥) → (y : Variable) → IsIn y (variables_of (apply_to (as_substitution (x ∷ [])) t)) → y ≡ x.variable → ⊥
gone_from x t sorted absent = given_term (λ y. y ≡ x.variable → ⊥) (as_substitution (x ∷ [])) t (λ z i y j. gone_one x sorted absent z y j)

occurs_still : (xs ys : List Variable) → AreVariablesAmong ys xs → (x : Variable) → occurs ys x ≡ true → occurs xs x ≡ true
occurs_still xs ys h x e =
    elim (occurs_tells ys x) [
      | inl p ↦ elim (occurs_tells xs x) [ inl q ↦ q.0 | inr q ↦ absurd (q.1 (h x p.1)) ]
      | inr p ↦ absurd (let f : true ≡ false = sym e ∙ p.0 in cc)
    ]

pub fewer_unbound : (zs : List Variable) (a b : Term) (x : Binding) → AreVariablesAmong (variables_of a ++ variables_of b) zs → Narrows (Equal a b) (variables_of a ++ variables_of b) x →
    unbound zs (apply_to (as_substitution (x ∷ [])) a) (apply_to (as_substitution (x ∷ [])) b) < unbound zs a b
fewer_unbound zs a b x within n =
    let q : List Binding = x ∷ [] in
    let xs : List Variable = variables_of a ++ variables_of b in
    let ys : List Variable = variables_of (apply_to (as_substitution q) a) ++ variables_of (apply_to (as_substitution q) b) in
    let of_x : AreVariablesAmong (variables_of_bindings q) xs =
    among_cons x.variable _ xs n.left (among_append (variables_of x.term) [] xs n.right (λ y i. absurd (not_in_none i))) in
    let still : AreVariablesAmong ys xs = among_append _ _ xs (applied_among q xs a of_x (among_left _ _)) (applied_among q xs b of_x (among_right (variables_of a) (variables_of b))) in
    let gone : IsIn x.variable ys → ⊥ = λ i. elim (in_append _ _ i) [
      | inl j ↦ gone_from x a n.sorted n.absent x.variable j refl
      | inr j ↦ gone_from x b n.sorted n.absent x.variable j refl
    ] in
    fewer (occurs xs) (occurs ys) x.variable zs (occurs_still xs ys still) (within _ n.left) (occurs_in xs x.variable n.left) (occurs_not ys x.variable gone)

-- What each difference of the terms so far tells.
pub same_found : (a b : Term) → Same ≡ difference_of a b → a ≡ b
same_found a b e = subst (IsDifference a b) (sym e) (found a b)

pub clash_found : (a0 b0 : Term) (r0 : List Binding) (a b : Term) (r : List Binding) → IsReducedTo a0 b0 r0 a b r → Clash ≡ difference_of a b →
    (g : Assignment) → Meets g r0 → value_of g a0 ≡ value_of g b0 → ⊥
clash_found a0 b0 r0 a b r h e g m equal =
    let no : (f : Assignment) → value_of f a ≡ value_of f b → ⊥ = subst (IsDifference a b) (sym e) (found a b) in
    no g (h.general g m equal).1

bind_found : (a b : Term) (x : Binding) → Bind x ≡ difference_of a b → Narrows (Equal a b) (variables_of a ++ variables_of b) x
bind_found a b x e = subst (IsDifference a b) (sym e) (found a b)

pub reduced_next : (a0 b0 : Term) (r0 : List Binding) (a b : Term) (r : List Binding) (x : Binding) (q : List Binding) (a1 b1 : Term) (r1 : List Binding) →
    IsReducedTo a0 b0 r0 a b r → Bind x ≡ difference_of a b → q ≡ x ∷ [] →
    a1 ≡ apply_to (as_substitution q) a → b1 ≡ apply_to (as_substitution q) b → r1 ≡ joined_bindings r q → IsReducedTo a0 b0 r0 a1 b1 r1
reduced_next a0 b0 r0 a b r x q a1 b1 r1 h e eq ea eb er = rw (ea, eb, er, eq) (reduced_further a0 b0 r0 a b r x h (bind_found a b x e))

pub unbound_falls : (a0 b0 : Term) (r0 : List Binding) (a b : Term) (r : List Binding) (x : Binding) (q : List Binding) (a1 b1 : Term) →
    IsReducedTo a0 b0 r0 a b r → Bind x ≡ difference_of a b → q ≡ x ∷ [] →
    a1 ≡ apply_to (as_substitution q) a → b1 ≡ apply_to (as_substitution q) b →
    unbound (variables_of a0 ++ (variables_of b0 ++ variables_of_bindings r0)) a1 b1 < unbound (variables_of a0 ++ (variables_of b0 ++ variables_of_bindings r0)) a b
unbound_falls a0 b0 r0 a b r x q a1 b1 h e eq ea eb =
    rw (ea, eb, eq) (fewer_unbound _ a b x (among_append _ _ _ h.left_within h.right_within) (bind_found a b x e))

-- How far the loop has come beside the bindings r, under which it looks at both terms.
abbrev pub IsReducedBy : Term → Term → List Binding → List Binding → Type 0
IsReducedBy a0 b0 r0 r = IsReducedTo a0 b0 r0 (apply_to (as_substitution r) a0) (apply_to (as_substitution r) b0) r

joined_under : (r q r1 : List Binding) (t u : Term) → r1 ≡ joined_bindings r q → u ≡ apply_to (as_substitution r) t →
    apply_to (as_substitution r1) t ≡ apply_to (as_substitution q) u
joined_under r q r1 t u er e = rw (er, e) (ap (λ (s : Substitution). apply_to s t) (as_joined r q) ∙ term_composed (as_substitution r) (as_substitution q) t)

-- What a binding is between becomes equal.
both_bound : (x : Binding) (a b : Term) → HasItsSort x → (IsIn x.variable (variables_of x.term) → ⊥) → a ≡ variable_term x.variable → x.term ≡ b →
    apply_to (as_substitution (x ∷ [])) a ≡ apply_to (as_substitution (x ∷ [])) b
both_bound x a b sorted absent ea eb =
    ap (apply_to (as_substitution (x ∷ []))) ea ∙ bound x unchanged sorted ∙ sym (leaves_absent x x.term absent) ∙ ap (apply_to (as_substitution (x ∷ []))) eb

between_same : (x : Binding) (a b : Term) → HasItsSort x → (IsIn x.variable (variables_of x.term) → ⊥) → IsBetween x a b →
    apply_to (as_substitution (x ∷ [])) a ≡ apply_to (as_substitution (x ∷ [])) b
between_same x a b sorted absent (inl p) = both_bound x a b sorted absent p.0 p.1
between_same x a b sorted absent (inr p) = sym (both_bound x b a sorted absent p.0 p.1)

names_between : (m n : ℕ) (x : Binding) → Bind x ≡ between_names m n → IsBetween x (atom_term (name_variable m)) (atom_term (name_variable n))
names_between m n x = choose (m == n) (nat_lt m n)
  where
    choose : (b c : Bool) → Bind x ≡ (if b then Same else (if c then binds name_sort n (atom_term (name_variable m)) else binds name_sort m (atom_term (name_variable n)))) →
        IsBetween x (atom_term (name_variable m)) (atom_term (name_variable n))
    choose true c e = absurd (cc)
    choose false true e =
        let f : x ≡ record { variable = record { sort = name_sort; number = n }; term = atom_term (name_variable m) } = cc in
        inr (ap (λ (y : Binding). variable_term y.variable) (sym f), ap (λ (y : Binding). y.term) f)
    choose false false e =
        let f : x ≡ record { variable = record { sort = name_sort; number = m }; term = atom_term (name_variable n) } = cc in
        inl (ap (λ (y : Binding). variable_term y.variable) (sym f), ap (λ (y : Binding). y.term) f)

-- Two keys of names become equal with their names.
names_same : (f h : Bool) (p q : Option (List ℕ)) (m n : ℕ) (x : Binding) (r : Bool) → Decides r ((f ≡ h) × (p ≡ q)) → HasItsSort x → (IsIn x.variable (variables_of x.term) → ⊥) →
    Bind x ≡ (if r then between_names m n else Clash) →
    apply_to (as_substitution (x ∷ [])) (key_as_term (asymmetric_term f (pubk_term p m))) ≡ apply_to (as_substitution (x ∷ [])) (key_as_term (asymmetric_term h (pubk_term q n)))
names_same f h p q m n x true d sorted absent e =
    let both : (f ≡ h) × (p ≡ q) = d.0 refl in
    let k : apply_to (as_substitution (x ∷ [])) (atom_term (name_variable m)) ≡ apply_to (as_substitution (x ∷ [])) (atom_term (name_variable n)) =
    between_same x _ _ sorted absent (names_between m n x e) in
    let k' : (as_substitution (x ∷ [])).names m ≡ (as_substitution (x ∷ [])).names n = cc in
    ap (λ (u : AtomTerm). atom_term u) (ap₂ (λ (b : Bool) (j : PairTerm). key_term (asymmetric_term b j)) both.0 (ap₂ pubk_term both.1 k'))
names_same f h p q m n x false d sorted absent e = absurd (cc)

-- Where the first difference of two terms is all in which they differ.
pub between_all : (x : Binding) (a b : Term) → IsBetween x a b → Bind x ≡ difference_of a b → apply_to (as_substitution (x ∷ [])) a ≡ apply_to (as_substitution (x ∷ [])) b
between_all x a b k e = let n = bind_found a b x e in between_same x a b n.sorted n.absent k

pub names_all : (x : Binding) (a b : Term) (f h : Bool) (p q : Option (List ℕ)) (m n : ℕ) → a ≡ key_as_term (asymmetric_term f (pubk_term p m)) →
    b ≡ key_as_term (asymmetric_term h (pubk_term q n)) → Bind x ≡ difference_of a b →
    apply_to (as_substitution (x ∷ [])) a ≡ apply_to (as_substitution (x ∷ [])) b
names_all x a b f h p q m n ea eb e =
    let found = bind_found a b x e in
    rw (ea, eb)
    (names_same f h p q m n x (same_bool f h && option_eq (pointwise nat_eq) p q) (Decides-and _ _ (flag_Decides f h) (purpose_Decides p q)) found.sorted found.absent
    (e ∙ ap₂ difference_of ea eb))

module _ (a0 b0 : Term) (r0 r : List Binding) (a b : Term) (x : Binding) (q r1 : List Binding) (h : IsReducedBy a0 b0 r0 r) (ea : a ≡ apply_to (as_substitution r) a0) (eb : b ≡ apply_to (as_substitution r) b0) (e : Bind x ≡ difference_of a b) (eq : q ≡ x ∷ []) (er : r1 ≡ joined_bindings r q) where
  so_far : IsReducedTo a0 b0 r0 a b r
  so_far = rw (ea, eb) h

  pub next_reduced : IsReducedBy a0 b0 r0 r1
  next_reduced = reduced_next a0 b0 r0 a b r x q _ _ r1 so_far e eq (joined_under r q r1 a0 a er ea) (joined_under r q r1 b0 b er eb) er

  pub all_solved : apply_to (as_substitution (x ∷ [])) a ≡ apply_to (as_substitution (x ∷ [])) b → SolvesBeside a0 b0 r0 r1
  all_solved k = reduced_to_same a0 b0 r0 _ _ r1 (reduced_next a0 b0 r0 a b r x q _ _ r1 so_far e eq refl refl er) (rw eq k)

  pub unbound_next : unbound (variables_of a0 ++ (variables_of b0 ++ variables_of_bindings r0)) (apply_to (as_substitution r1) a0) (apply_to (as_substitution r1) b0)
      < unbound (variables_of a0 ++ (variables_of b0 ++ variables_of_bindings r0)) (apply_to (as_substitution r) a0) (apply_to (as_substitution r) b0)
  unbound_next =
      rw (← ea, ← eb) (unbound_falls a0 b0 r0 a b r x q _ _ so_far e eq (joined_under r q r1 a0 a er ea) (joined_under r q r1 b0 b er eb))

pub same_solved : (a0 b0 : Term) (r0 r : List Binding) (a b : Term) → IsReducedBy a0 b0 r0 r → a ≡ apply_to (as_substitution r) a0 → b ≡ apply_to (as_substitution r) b0 →
    Same ≡ difference_of a b → SolvesBeside a0 b0 r0 r
same_solved a0 b0 r0 r a b h ea eb e = reduced_to_same a0 b0 r0 _ _ r h (sym ea ∙ same_found a b e ∙ eb)

pub clash_unsolved : (a0 b0 : Term) (r0 r : List Binding) (a b : Term) → IsReducedBy a0 b0 r0 r → a ≡ apply_to (as_substitution r) a0 → b ≡ apply_to (as_substitution r) b0 →
    Clash ≡ difference_of a b → HasNoUnifier a0 b0 r0
clash_unsolved a0 b0 r0 r a b h ea eb e = clash_found a0 b0 r0 _ _ r h (rw (← ea, ← eb) e)

-- A term without parts has none under a substitution.
no_tail : (s : Substitution) (t : Term) → (HasTail t → ⊥) → HasTail (apply_to s t) → ⊥
no_tail s (tag_term bytes) h k = h k
no_tail s (atom_term u) h k = h k
no_tail s (pair_term a b) h k = h tt
no_tail s (enc_term a k) h j = h tt

pub leaf_under : (r : List Binding) (t u : Term) → u ≡ apply_to (as_substitution r) t → (HasTail t → ⊥) → HasTail u → ⊥
leaf_under r t u e h = rw e (no_tail (as_substitution r) t h)
