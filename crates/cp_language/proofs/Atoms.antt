-- The lists of assumptions of a problem: their values are declared, and hold all that the strands' roles give.
use Rattle.std.proofs.Common.{◌≡◌, ℕ, zero, suc, List, [], ◌∷◌, ◌++◌, Bool, true, false, Some, refl, sym, ap, subst, if◌then◌else◌, ⊎_elim}
use Rattle.cp_lists.specs.Lists.{item_at, IsIn, here, there}
use Rattle.cp_model.specs.Term.{AtomTerm, variables_of_atom, apply_to_atom}
use Rattle.cp_model.specs.Bindings.{Binding, as_substitution}
use Rattle.cp_model.specs.Strand.{Role, Applies, variables_of_prefix}
use Rattle.cp_model.specs.declared.variable.Declaration.{Declaration}
use Rattle.cp_model.specs.Skeleton.{SkeletonStrand, instance, listener}
use Rattle.cp_lists.proofs.Members.{in_append, in_append_left, in_append_right}
use Rattle.cp_model.specs.Same.{has_variables}
use Rattle.cp_model.specs.Given.{atoms_onto, applying, given_non, given_penetrator_non}
use Rattle.cp_model.proofs.Gathered.{onto-only, atoms}
use Rattle.cp_model.proofs.SameTests.{variables_there, there_variables}
use Rattle.cp_language.proofs.Values.{AtomsDeclared, and_these}
use Rattle.cp_language.proofs.Instances.{TakesToDeclared, atom_taken}
use Rattle.cp_language.proofs.Strands.{AreSoundStrands}

-- ---- each value once

pub onto_declared : (ds : List Declaration) (before vs : List AtomTerm) → AtomsDeclared ds before → AtomsDeclared ds vs → AtomsDeclared ds (atoms_onto before vs)
onto_declared ds before vs h k = λ w p. ⊎_elim (h w) (k w) (onto-only atoms before vs w p)

-- ---- the values that roles give

module _ (role : Role) (height : ℕ) (terms : List Binding) where
  applying_one : (full : List Declaration) (b : Bool) (v : AtomTerm) (vs : List AtomTerm) → TakesToDeclared (as_substitution terms) full (variables_of_prefix role height) →
      has_variables (variables_of_prefix role height) (variables_of_atom v) ≡ b → AtomsDeclared full vs → AtomsDeclared full (if b then apply_to_atom (as_substitution terms) v ∷ vs else vs)
  applying_one full false v vs h e k = k
  applying_one full true v vs h e k =
      and_these full (apply_to_atom (as_substitution terms) v) vs (atom_taken (as_substitution terms) full v (λ x p. h x (variables_there (variables_of_prefix role height) (variables_of_atom v) e x p))) k

  applying_declared : (full : List Declaration) (vs : List AtomTerm) → TakesToDeclared (as_substitution terms) full (variables_of_prefix role height) → AtomsDeclared full (applying role height terms vs)
  applying_declared full [] h = λ v p. elim p [ ]
  applying_declared full (v ∷ vs) h =
      applying_one full (has_variables (variables_of_prefix role height) (variables_of_atom v)) v (applying role height terms vs) h refl (applying_declared full vs h)

  applied_first : (b : Bool) (v : AtomTerm) (vs : List AtomTerm) → b ≡ true → IsIn (apply_to_atom (as_substitution terms) v) (if b then apply_to_atom (as_substitution terms) v ∷ vs else vs)
  applied_first true v vs e = here
  applied_first false v vs e = absurd (cc)

  applied_later : (b : Bool) (u v : AtomTerm) (vs : List AtomTerm) → IsIn (apply_to_atom (as_substitution terms) v) vs → IsIn (apply_to_atom (as_substitution terms) v) (if b then apply_to_atom (as_substitution terms) u ∷ vs else vs)
  applied_later true u v vs p = there p
  applied_later false u v vs p = p

  applying_there : (vs : List AtomTerm) (v : AtomTerm) → IsIn v vs → Applies role height v → IsIn (apply_to_atom (as_substitution terms) v) (applying role height terms vs)
  applying_there [] v p a = elim p [ ]
  applying_there (u ∷ vs) v here a =
      applied_first (has_variables (variables_of_prefix role height) (variables_of_atom v)) v (applying role height terms vs) (there_variables (variables_of_prefix role height) (variables_of_atom v) a)
  applying_there (u ∷ vs) v (there p) a =
      applied_later (has_variables (variables_of_prefix role height) (variables_of_atom u)) u v (applying role height terms vs) (applying_there vs v p a)

-- The values of one kind that the strands' roles give.
module _ (of_kind : Role → List AtomTerm) where
  abbrev pub given : List SkeletonStrand → List AtomTerm
  given [] = []
  given (listener t ∷ ks) = given ks
  given (instance role height terms ∷ ks) = applying role height terms (of_kind role) ++ given ks

  pub given_declared : (roles : List Role) (full : List Declaration) (ks : List SkeletonStrand) → AreSoundStrands roles full ks → AtomsDeclared full (given ks)
  given_declared roles full [] h = λ v p. elim p [ ]
  given_declared roles full (listener t ∷ ks) h = given_declared roles full ks (λ s p. h s (there p))
  given_declared roles full (instance role height terms ∷ ks) h =
      λ v p. ⊎_elim (applying_declared role height terms full (of_kind role) (h (instance role height terms) here).2 v) (given_declared roles full ks (λ s q. h s (there q)) v)
      (in_append (applying role height terms (of_kind role)) (given ks) p)

  same_strand : (k : SkeletonStrand) (ks : List SkeletonStrand) (role : Role) (height : ℕ) (terms : List Binding) (v : AtomTerm) → k ≡ instance role height terms → IsIn v (of_kind role) → Applies role height v →
      IsIn (apply_to_atom (as_substitution terms) v) (given (k ∷ ks))
  same_strand k ks role height terms v e p a =
      subst (λ (x : SkeletonStrand). IsIn (apply_to_atom (as_substitution terms) v) (given (x ∷ ks))) (sym e) (in_append_left (given ks) (applying_there role height terms (of_kind role) v p a))

  pub given_there : (ks : List SkeletonStrand) (s : ℕ) (role : Role) (height : ℕ) (terms : List Binding) → item_at ks s ≡ Some (instance role height terms) →
      (v : AtomTerm) → IsIn v (of_kind role) → Applies role height v → IsIn (apply_to_atom (as_substitution terms) v) (given ks)
  given_there [] s role height terms e v p a = absurd (cc)
  given_there (k ∷ ks) zero role height terms e v p a = let q : k ≡ instance role height terms = cc in same_strand k ks role height terms v q p a
  given_there (listener t ∷ ks) (suc s) role height terms e v p a = given_there ks s role height terms e v p a
  given_there (instance r h m ∷ ks) (suc s) role height terms e v p a = in_append_right (applying r h m (of_kind r)) (given_there ks s role height terms e v p a)

pub non_given : (ks : List SkeletonStrand) → given_non ks ≡ given (λ r. r.non_originating) ks
non_given [] = refl
non_given (listener t ∷ ks) = non_given ks
non_given (instance role height terms ∷ ks) = ap (λ (vs : List AtomTerm). applying role height terms role.non_originating ++ vs) (non_given ks)

pub penetrator_non_given : (ks : List SkeletonStrand) → given_penetrator_non ks ≡ given (λ r. r.penetrator_non_originating) ks
penetrator_non_given [] = refl
penetrator_non_given (listener t ∷ ks) = penetrator_non_given ks
penetrator_non_given (instance role height terms ∷ ks) = ap (λ (vs : List AtomTerm). applying role height terms role.penetrator_non_originating ++ vs) (penetrator_non_given ks)
