-- The loop that makes the branches of a skeleton, and what they are.
use Rattle.std.proofs.Common.{◌≡◌, ◌⊎◌, inl, inr, ℕ, ◌+◌, ◌<◌, List, [], ◌∷◌, ◌++◌, length, get_or, take, map, refl, sym, ap, ◌∙◌, subst}
use Rattle.std.proofs.lemmas.List.{take_more, map-append}
use Rattle.cp_lists.specs.Lists.{IsIn, here, there}
use Rattle.cp_model.specs.Term.{AtomTerm, Term, atom_term, Substitution, apply_to}
use Rattle.cp_model.specs.Skeleton.{Skeleton as Plain}
use Rattle.cp_lists.proofs.Members.{in_append, in_append_left, in_append_right}
use Rattle.cp_theory.specs.Normal.{skeleton_under}
use Rattle.cp_unify.specs.Bindings.{Binding, as_substitution}
use Rattle.cp_unify.specs.Unifiers.{IsMostGeneralUnifier, HasNoUnifier}
use Rattle.cp_collapse.specs.SameSkeletons.{SaysTheSame}
use Rattle.cp_collapse.specs.Directed.{IsMostGeneralFor}
use Rattle.cp_normal.specs.declared.rewriting.Candidate.{Candidate}
use Rattle.cp_normal.specs.declared.rewriting.Candidate.TheVariants.{Open}
use Rattle.cp_normal.specs.Candidates.{AreOpenBranches}
use Rattle.cp_normal.specs.declared.form.Form.{Form}
use Rattle.cp_normal.specs.Branches.{NeverEqualAtoms, HasBranch}
use Rattle.cp_normal.specs.Branched.{AreInOrder, no_atoms, never_equal_to, unified_with, IsBranch, AreBranchesOf}
use Rattle.cp_collapse.proofs.AtomUnifiers.{most_general_for, never_equal}

-- ---- in order

one_more : (k : Plain) (v a : AtomTerm) (s : Substitution) (l : Plain) (xs : List AtomTerm) (ls : List Plain) → IsMostGeneralFor v a s → SaysTheSame (skeleton_under s k) l → AreInOrder k v xs ls → AreInOrder k v (xs ++ a ∷ []) (ls ++ l ∷ [])
one_more k v a s l xs ls m same no_atoms = unified_with m same no_atoms
one_more k v a s l xs ls m same (never_equal_to {others = ys} {ls = ms} n p) = never_equal_to n (one_more k v a s l ys ms m same p)
one_more k v a s l xs ls m same (unified_with {others = ys} {ls = ms} n q p) = unified_with n q (one_more k v a s l ys ms m same p)

none_more : (k : Plain) (v a : AtomTerm) (xs : List AtomTerm) (ls : List Plain) → NeverEqualAtoms v a → AreInOrder k v xs ls → AreInOrder k v (xs ++ a ∷ []) ls
none_more k v a xs ls never no_atoms = never_equal_to never no_atoms
none_more k v a xs ls never (never_equal_to {others = ys} {ls = ms} n p) = never_equal_to n (none_more k v a ys ms never p)
none_more k v a xs ls never (unified_with {others = ys} {ls = ms} n q p) = unified_with n q (none_more k v a ys ms never p)

later_branch : (k : Plain) (v a : AtomTerm) (l : Plain) (ls : List Plain) → NeverEqualAtoms v a ⊎ HasBranch k v a ls → NeverEqualAtoms v a ⊎ HasBranch k v a (l ∷ ls)
later_branch k v a l ls (inl n) = inl n
later_branch k v a l ls (inr b) = inr (record { unifier = b.unifier; most_general = b.most_general; branch = b.branch; listed = there b.listed; same = b.same })

pub all_have_branches : (k : Plain) (v a : AtomTerm) (xs : List AtomTerm) (ls : List Plain) → AreInOrder k v xs ls → IsIn a xs → NeverEqualAtoms v a ⊎ HasBranch k v a ls
all_have_branches k v a xs ls (never_equal_to n p) here = inl n
all_have_branches k v a xs ls (never_equal_to {others = ys} {ls = ms} n p) (there i) = all_have_branches k v a ys ms p i
all_have_branches k v a xs ls (unified_with {s = s} {l = l} m same p) here = inr (record { unifier = s; most_general = m; branch = l; listed = here; same = same })
all_have_branches k v a xs ls (unified_with {l = l} {others = ys} {ls = ms} m same p) (there i) = later_branch k v a l ms (all_have_branches k v a ys ms p i)
all_have_branches k v a xs ls no_atoms i = elim i [ ]

-- ---- the loop

module _ (k : Form) (v : AtomTerm) where
  pub none_yet : (ls : List Form) → ls ≡ [] → AreBranchesOf k v [] ls
  none_yet ls e = record {
    each = λ l i. elim (subst (IsIn l) e i) [ ];
    in_order = subst (λ ms. AreInOrder k.skeleton v [] (map (λ (f : Form). f.skeleton) ms)) (sym e) no_atoms;
  }

  wider : (xs ys : List AtomTerm) (l : Form) → IsBranch k v xs l → IsBranch k v (xs ++ ys) l
  wider xs ys l b = record { heard = b.heard; listed = in_append_left ys b.listed; bindings = b.bindings; most_general = b.most_general; same = b.same; variables = b.variables; followed = b.followed }

  module _ (xs : List AtomTerm) (i : ℕ) (a : AtomTerm) (lt : i < length xs) (is : a ≡ get_or xs i a) (ls : List Form) (so_far : AreBranchesOf k v (take i xs) ls) where
    taken : take (i + 1) xs ≡ take i xs ++ a ∷ []
    taken = take_more xs i a lt ∙ ap (λ z. take i xs ++ z ∷ []) (sym is)

    skipped_with : HasNoUnifier (atom_term v) (atom_term a) [] → AreBranchesOf k v (take i xs ++ a ∷ []) ls
    skipped_with never = record {
      each = λ l m. wider (take i xs) (a ∷ []) l (so_far.each l m);
      in_order = none_more k.skeleton v a (take i xs) (map (λ (f : Form). f.skeleton) ls) (never_equal v a never) so_far.in_order;
    }

    pub skipped : HasNoUnifier (atom_term v) (atom_term a) [] → AreBranchesOf k v (take (i + 1) xs) ls
    skipped never = subst (λ ys. AreBranchesOf k v ys ls) (sym taken) (skipped_with never)

    module _ (r : List Binding) (l : Form) (m : IsMostGeneralUnifier (atom_term v) (atom_term a) [] r) (same : SaysTheSame (skeleton_under (as_substitution r) k.skeleton) l.skeleton) (variables : l.skeleton.variables ≡ k.skeleton.variables)
        (followed : (t : Term) → apply_to (as_substitution l.substitution) t ≡ apply_to (as_substitution r) (apply_to (as_substitution k.substitution) t)) where
      new_branch : IsBranch k v (take i xs ++ a ∷ []) l
      new_branch = record { heard = a; listed = in_append_right (take i xs) here; bindings = r; most_general = m; same = same; variables = variables; followed = followed }

      of_either : (b : Form) → IsIn b ls ⊎ IsIn b (l ∷ []) → IsBranch k v (take i xs ++ a ∷ []) b
      of_either b (inl j) = wider (take i xs) (a ∷ []) b (so_far.each b j)
      of_either b (inr here) = new_branch
      of_either b (inr (there j)) = elim j [ ]

      added_with : AreBranchesOf k v (take i xs ++ a ∷ []) (ls ++ l ∷ [])
      added_with = record {
        each = λ b j. of_either b (in_append ls (l ∷ []) j);
        in_order = subst (AreInOrder k.skeleton v (take i xs ++ a ∷ [])) (sym (map-append (λ (f : Form). f.skeleton) ls (l ∷ [])))
            (one_more k.skeleton v a (as_substitution r) l.skeleton (take i xs) (map (λ (f : Form). f.skeleton) ls) (most_general_for v a r m) same so_far.in_order);
      }

      pub branch_added : (new : List Form) → new ≡ ls ++ l ∷ [] → AreBranchesOf k v (take (i + 1) xs) new
      branch_added new e = subst (λ ms. AreBranchesOf k v (take (i + 1) xs) ms) (sym e) (subst (λ ys. AreBranchesOf k v ys (ls ++ l ∷ [])) (sym taken) added_with)

-- The same of candidates.
module _ (k : Form) (v : AtomTerm) where
  pub none_open_yet : (cs : List (Candidate Form Form)) → cs ≡ [] → AreOpenBranches k v [] cs
  none_open_yet cs e = record { branches = []; all_open = e; are = none_yet k v [] refl }

  module _ (xs : List AtomTerm) (i : ℕ) (a : AtomTerm) (lt : i < length xs) (is : a ≡ get_or xs i a) (cs : List (Candidate Form Form)) (so_far : AreOpenBranches k v (take i xs) cs) where
    pub skipped_open : HasNoUnifier (atom_term v) (atom_term a) [] → AreOpenBranches k v (take (i + 1) xs) cs
    skipped_open never = record { branches = so_far.branches; all_open = so_far.all_open; are = skipped k v xs i a lt is so_far.branches so_far.are never }

    pub open_added : (r : List Binding) (l : Form) → IsMostGeneralUnifier (atom_term v) (atom_term a) [] r → SaysTheSame (skeleton_under (as_substitution r) k.skeleton) l.skeleton → l.skeleton.variables ≡ k.skeleton.variables →
        ((t : Term) → apply_to (as_substitution l.substitution) t ≡ apply_to (as_substitution r) (apply_to (as_substitution k.substitution) t)) → (new : List (Candidate Form Form)) → new ≡ cs ++ Open l ∷ [] →
        AreOpenBranches k v (take (i + 1) xs) new
    open_added r l m same variables followed new e = record {
      branches = so_far.branches ++ l ∷ [];
      all_open = e ∙ ap (λ (ds : List (Candidate Form Form)). ds ++ Open l ∷ []) so_far.all_open ∙ sym (map-append Open so_far.branches (l ∷ []));
      are = branch_added k v xs i a lt is so_far.branches so_far.are r l m same variables followed (so_far.branches ++ l ∷ []) refl;
    }

-- ---- the answers of unification

module _ (x y : Term) (given : List Binding) (v a : AtomTerm) (is_x : x ≡ atom_term v) (is_y : y ≡ atom_term a) (is_given : given ≡ []) where
  pub unifier_of : (r : List Binding) → IsMostGeneralUnifier x y given r → IsMostGeneralUnifier (atom_term v) (atom_term a) [] r
  unifier_of r m =
      subst (λ g. IsMostGeneralUnifier (atom_term v) (atom_term a) g r) is_given (subst (λ t. IsMostGeneralUnifier (atom_term v) t given r) is_y (subst (λ t. IsMostGeneralUnifier t y given r) is_x m))

  pub no_unifier_of : HasNoUnifier x y given → HasNoUnifier (atom_term v) (atom_term a) []
  no_unifier_of n = subst (λ g. HasNoUnifier (atom_term v) (atom_term a) g) is_given (subst (λ t. HasNoUnifier (atom_term v) t given) is_y (subst (λ t. HasNoUnifier t y given) is_x n))
