-- Substitutions that change a skeleton within its own variables, and one after the other.
use Rattle.std.proofs.Common.{◌≡◌, ◌⊎◌, inl, inr, ℕ, List, [], ◌∷◌, map, refl, sym, ap, ap₂, ◌∙◌, subst, ⊎_elim}
use Rattle.cp_lists.specs.Lists.{IsIn}
use Rattle.cp_model.specs.Term.{AtomTerm, KeyTerm, key_term, Term, tag_term, atom_term, pair_term, enc_term, variables_of_key, variables_of_atom, variables_of, Substitution, apply_to_key, apply_to, composed, variable_term}
use Rattle.cp_model.specs.declared.sort.Sort.{Sort}
use Rattle.cp_model.specs.declared.sort.Sort.TheVariants.{Text as text_sort, Datum as datum_sort, Name as name_sort, Skey as skey_sort, Akey as akey_sort}
use Rattle.cp_model.specs.declared.variable.Variable.{Variable}
use Rattle.cp_model.specs.Identity.{unchanged}
use Rattle.cp_model.specs.Skeleton.{FromProblem, Skeleton}
use Rattle.cp_model.specs.Problem.{variables_of_skeleton}
use Rattle.cp_lists.proofs.Members.{in_append, in_append_left, in_append_right, only_item, in_or_not}
use Rattle.cp_model.proofs.LawTerms.{term_composed, term_unchanged}
use Rattle.cp_model.proofs.VariableTerms.{unchanged_term}
use Rattle.cp_theory.specs.Normal.{variables_of_terms, skeleton_under}
use Rattle.cp_unify.specs.Unifiers.{AreVariablesAmong}
use Rattle.cp_unify.proofs.VariablesUnder.{Leaves, leaves_variables_of, leaves_atom, given_term}
use Rattle.cp_unify.proofs.VariableTests.{is_variable_tells}
use Rattle.cp_collapse.specs.SameSkeletons.{SaysTheSame}
use Rattle.cp_normal.specs.BySubstitution.{all_variables, StaysWithin}
use Rattle.cp_collapse.specs.Directed.{IsMostGeneralFor}
use Rattle.cp_normal.proofs.Narrowed.{same_variables, of_skeleton}
use Rattle.cp_collapse.proofs.NoNewVariables.{unifier_none_new, unifier_leaves}

-- ---- variables of terms

variable_or_other : (x y : Variable) → (x ≡ y) ⊎ (x ≡ y → ⊥)
variable_or_other x y = elim (is_variable_tells x y) [ inl p ↦ inl p.1 | inr p ↦ inr p.1 ]

of_variable : (s : Sort) (n : ℕ) (y : Variable) → IsIn y (variables_of (variable_term (record { sort = s; number = n }))) → y ≡ record { sort = s; number = n }
of_variable text_sort n y i = only_item i
of_variable datum_sort n y i = only_item i
of_variable name_sort n y i = only_item i
of_variable skey_sort n y i = only_item i
of_variable akey_sort n y i = only_item i

-- What a substitution gives a variable that it leaves has that variable alone.
left_alone : (s : Substitution) (x y : Variable) → apply_to s (variable_term x) ≡ variable_term x → IsIn y (variables_of (apply_to s (variable_term x))) → y ≡ x
left_alone s x y left i = of_variable x.sort x.number y (subst (λ (u : Term). IsIn y (variables_of u)) left i)

leaves_key : (s : Substitution) (k : KeyTerm) → ((x : Variable) → IsIn x (variables_of_key k) → Leaves s x) → apply_to_key s k ≡ k
leaves_key s k h = let e : key_term (apply_to_key s k) ≡ key_term k = leaves_atom s (key_term k) h in cc

leaves_term : (s : Substitution) (t : Term) → ((x : Variable) → IsIn x (variables_of t) → Leaves s x) → apply_to s t ≡ t
leaves_term s (tag_term bytes) h = refl
leaves_term s (atom_term v) h = ap atom_term (leaves_atom s v h)
leaves_term s (pair_term t u) h = ap₂ pair_term (leaves_term s t (λ x i. h x (in_append_left (variables_of u) i))) (leaves_term s u (λ x i. h x (in_append_right (variables_of t) i)))
leaves_term s (enc_term t k) h = ap₂ enc_term (leaves_term s t (λ x i. h x (in_append_left (variables_of_key k) i))) (leaves_key s k (λ x i. h x (in_append_right (variables_of t) i)))

-- ---- the variables of what a skeleton comes to under such a substitution

module _ (s : Substitution) (zs : List Variable) (P : Variable → Type 0) (each : (t : Term) → AreVariablesAmong (variables_of t) zs → (x : Variable) → IsIn x (variables_of (apply_to s t)) → P x) where
  of_terms : (ts : List Term) → AreVariablesAmong (variables_of_terms ts) zs → (x : Variable) → IsIn x (variables_of_terms (map (apply_to s) ts)) → P x
  of_terms [] h x i = elim i [ ]
  of_terms (t ∷ ts) h x i =
      ⊎_elim (λ j. each t (λ y m. h y (in_append_left (variables_of_terms ts) m)) x j) (λ j. of_terms ts (λ y m. h y (in_append_right (variables_of t) m)) x j)
      (in_append (variables_of (apply_to s t)) (variables_of_terms (map (apply_to s) ts)) i)

module _ (s : Substitution) (k l : Skeleton) (w : StaysWithin k s) (same : SaysTheSame (skeleton_under s k) l) where
  abbrev zs : List Variable
  zs = all_variables k

  abbrev IsKept : Variable → Type 0
  IsKept y = Leaves s y × IsIn y zs

  kept_of_term : (t : Term) → AreVariablesAmong (variables_of t) zs → (y : Variable) → IsIn y (variables_of (apply_to s t)) → IsKept y
  kept_of_term t among y i = (leaves_variables_of s (apply_to s t) (w.idempotent t) y i, given_term (λ z. IsIn z zs) s t (λ x j z m. w.within x z (among x j) m) y i)

  -- A variable that is left occurs in k, and the substitution leaves it.
  pub kept : (y : Variable) → IsIn y (all_variables l) → IsKept y
  kept y i =
      ⊎_elim
      (λ j. of_skeleton s zs IsKept kept_of_term k (λ x m. in_append_left (variables_of_terms k.from_problem.values) m) y (subst (IsIn y) (sym (same_variables (skeleton_under s k) l same)) j))
      (λ j. of_terms s zs IsKept kept_of_term k.from_problem.values (λ x m. in_append_right (variables_of_skeleton k) m) y (subst (λ (f : FromProblem). IsIn y (variables_of_terms f.values)) (sym same.from_problem) j))
      (in_append (variables_of_skeleton l) (variables_of_terms l.from_problem.values) i)

  -- ---- one more substitution

  module _ (t : Substitution) (v : StaysWithin l t) where
    -- What the second gives a variable that the first leaves is left by the first, and of k.
    then_kept : (x y : Variable) → IsKept x → IsIn y (variables_of (apply_to t (variable_term x))) → IsKept y
    then_kept x y own i =
        elim (in_or_not variable_or_other (all_variables l) x) [
          | inl p ↦ kept y (v.within x y p i)
          | inr never ↦ subst IsKept (sym (left_alone t x y (v.leaves x never) i)) own
        ]

    then_left : (x y : Variable) → Leaves s x → IsIn y (variables_of (apply_to t (variable_term x))) → Leaves s y
    then_left x y own i =
        elim (in_or_not variable_or_other (all_variables l) x) [
          | inl p ↦ (kept y (v.within x y p i)).0
          | inr never ↦ subst (Leaves s) (sym (left_alone t x y (v.leaves x never) i)) own
        ]

    left_by_first : (u : Term) (y : Variable) → IsIn y (variables_of (apply_to t (apply_to s u))) → Leaves s y
    left_by_first u = given_term (Leaves s) t (apply_to s u) (λ x i y j. then_left x y (leaves_variables_of s (apply_to s u) (w.idempotent u) x i) j)

    both_idempotent : (u : Term) → apply_to (composed s t) (apply_to (composed s t) u) ≡ apply_to (composed s t) u
    both_idempotent u =
        let d : Term = apply_to t (apply_to s u) in
        let e : apply_to (composed s t) u ≡ d = term_composed s t u in
        ap (apply_to (composed s t)) e
        ∙ term_composed s t d
        ∙ ap (apply_to t) (leaves_term s d (left_by_first u))
        ∙ v.idempotent (apply_to s u)
        ∙ sym e

    kept_by_first : (x z : Variable) → IsIn x zs → IsIn z (variables_of (apply_to s (variable_term x))) → IsKept z
    kept_by_first x z i j = kept_of_term (variable_term x) (λ y m. subst (λ a. IsIn a zs) (sym (of_variable x.sort x.number y m)) i) z j

    both_within : (x y : Variable) → IsIn x zs → IsIn y (variables_of (apply_to (composed s t) (variable_term x))) → IsIn y zs
    both_within x y i j =
        (given_term IsKept t (apply_to s (variable_term x)) (λ z m a n. then_kept z a (kept_by_first x z i m) n) y
        (subst (λ (u : Term). IsIn y (variables_of u)) (term_composed s t (variable_term x)) j)).1

    both_leave : (x : Variable) → (IsIn x zs → ⊥) → apply_to (composed s t) (variable_term x) ≡ variable_term x
    both_leave x never =
        term_composed s t (variable_term x)
        ∙ ap (apply_to t) (w.leaves x never)
        ∙ v.leaves x (λ i. never (kept x i).1)

    pub both_stay_within : StaysWithin k (composed s t)
    both_stay_within = record { idempotent = both_idempotent; within = both_within; leaves = both_leave }

-- ---- none, and one unifier

pub unchanged_stays_within : (k : Skeleton) → StaysWithin k unchanged
unchanged_stays_within k = record {
  idempotent = λ t. term_unchanged (apply_to unchanged t);
  within = λ x y i j. subst (λ z. IsIn z (all_variables k)) (sym (left_alone unchanged x y (term_unchanged (variable_term x)) j)) i;
  leaves = λ x never. term_unchanged (variable_term x);
}

-- A most general unifier of two atoms whose variables occur in the skeleton.
module _ (k : Skeleton) (a b : AtomTerm) (s : Substitution) (of_a : (x : Variable) → IsIn x (variables_of_atom a) → IsIn x (all_variables k)) (of_b : (x : Variable) → IsIn x (variables_of_atom b) → IsIn x (all_variables k)) (m : IsMostGeneralFor a b s) where
  pub unifier_stays_within : StaysWithin k s
  unifier_stays_within = record {
    idempotent = m.directed.idempotent;
    within = unifier_none_new (λ x. IsIn x (all_variables k)) (in_or_not variable_or_other (all_variables k)) a b s of_a of_b m;
    leaves = λ x never. unchanged_term s x (unifier_leaves (λ z. IsIn z (all_variables k)) (in_or_not variable_or_other (all_variables k)) a b s of_a of_b m x never);
  }
