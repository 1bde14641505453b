-- The skeletons of the program that one step of narrowing makes.
use Rattle.std.specs.Prelude.{◌≡◌, List, [], ◌∷◌, map}
use Rattle.cp_lists.specs.Lists.{IsIn}
use Rattle.cp_model.specs.Term.{AtomTerm, Term, atom_term, Substitution, apply_to}
use Rattle.cp_model.specs.Skeleton.{Skeleton as Plain}
use Rattle.cp_theory.specs.Normal.{skeleton_under}
use Rattle.cp_unify.specs.Bindings.{Binding, as_substitution}
use Rattle.cp_unify.specs.Unifiers.{IsMostGeneralUnifier}
use Rattle.cp_collapse.specs.SameSkeletons.{SaysTheSame}
use Rattle.cp_collapse.specs.Directed.{IsMostGeneralFor}
use Rattle.cp_normal.specs.declared.form.Form.{Form}
use Rattle.cp_normal.specs.Branches.{NeverEqualAtoms}

-- The branches of k by v and the atoms, in their order: for each atom that unifies with v one that says the same as k under
-- the most general unifier of the two.
pub data AreInOrder (k : Plain) (v : AtomTerm) : List AtomTerm → List Plain → Type 0 where
  no_atoms : AreInOrder k v [] []
  never_equal_to : {a : AtomTerm} {others : List AtomTerm} {ls : List Plain} → NeverEqualAtoms v a → AreInOrder k v others ls → AreInOrder k v (a ∷ others) ls
  unified_with : {a : AtomTerm} {s : Substitution} {l : Plain} {others : List AtomTerm} {ls : List Plain} → IsMostGeneralFor v a s → SaysTheSame (skeleton_under s k) l → AreInOrder k v others ls → AreInOrder k v (a ∷ others) (l ∷ ls)

-- l is a branch of k by v and one of the atoms, with the variables of k, and with k's substitution followed by the unifier.
pub record IsBranch (k : Form) (v : AtomTerm) (atoms : List AtomTerm) (l : Form) : Type 0 where
  pub heard : AtomTerm
  pub listed : IsIn heard atoms
  pub bindings : List Binding
  pub most_general : IsMostGeneralUnifier (atom_term v) (atom_term heard) [] bindings
  pub same : SaysTheSame (skeleton_under (as_substitution bindings) k.skeleton) l.skeleton
  pub variables : l.skeleton.variables ≡ k.skeleton.variables
  pub followed : (t : Term) → apply_to (as_substitution l.substitution) t ≡ apply_to (as_substitution bindings) (apply_to (as_substitution k.substitution) t)

-- The forms are the branches of k by v and these atoms, in their order.
pub record AreBranchesOf (k : Form) (v : AtomTerm) (atoms : List AtomTerm) (branches : List Form) : Type 0 where
  pub each : (l : Form) → IsIn l branches → IsBranch k v atoms l
  pub in_order : AreInOrder k.skeleton v atoms (map (λ (f : Form). f.skeleton) branches)
