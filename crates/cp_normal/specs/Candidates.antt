-- Skeletons on the way to normal forms.
use Rattle.std.specs.Prelude.{◌≡◌, List, [], ◌∷◌, map}
use Rattle.cp_normal.specs.declared.rewriting.Candidate.{Candidate}
use Rattle.cp_normal.specs.declared.rewriting.Candidate.TheVariants.{Open, Done}
use Rattle.cp_model.specs.Term.{AtomTerm, Term, Substitution, apply_to, composed}
use Rattle.cp_model.specs.Identity.{unchanged}
use Rattle.cp_model.specs.Skeleton.{Skeleton}
use Rattle.cp_model.specs.declared.node.Node.{Node}
use Rattle.cp_model.specs.declared.node.OrderPair.{OrderPair}
use Rattle.cp_unify.specs.Bindings.{as_substitution}
use Rattle.cp_theory.specs.Normal.{with_pairs}
use Rattle.cp_normal.specs.Findings.{AreNormalPairs, IsContradictory}
use Rattle.cp_normal.specs.NormalForms.{NarrowsTo, none, one}
use Rattle.cp_normal.specs.Branches.{IsSettled}
use Rattle.cp_normal.specs.Branched.{AreBranchesOf}
use Rattle.cp_normal.specs.Exact.{IsRefuted}
use Rattle.cp_normal.specs.MisplacedValues.{IsFirstMisplaced}
use Rattle.cp_normal.specs.ReceivedAtomLists.{heard_before}
use Rattle.cp_normal.specs.declared.form.Form.{Form}

-- The unifiers of the steps of narrowing, one after the other.
abbrev pub unifiers_of : {k l : Skeleton} → NarrowsTo k l → Substitution
unifiers_of none = unchanged
unifiers_of (one step p) = composed step.unifier (unifiers_of p)

-- g is narrowed from f by steps, and its substitution is that of f followed by the unifiers of the steps.
pub record ComesOn (f g : Form) : Type 0 where
  pub steps : NarrowsTo f.skeleton g.skeleton
  pub followed : (t : Term) → apply_to (as_substitution g.substitution) t ≡ apply_to (unifiers_of steps) (apply_to (as_substitution f.substitution) t)

-- r is the normal form of a settled skeleton: this with its normal pairs, and with the same substitution.
pub record IsNormalFormOfSettled (l r : Form) : Type 0 where
  pub settled : IsSettled l.skeleton
  pub pairs : List OrderPair
  pub normal : AreNormalPairs l.skeleton pairs
  pub consistent : IsContradictory l.skeleton → ⊥
  pub same : r.skeleton ≡ with_pairs l.skeleton pairs
  pub variables : r.skeleton.variables ≡ l.skeleton.variables
  pub substitution : r.substitution ≡ l.substitution

-- The candidates are the branches of f by v and these atoms, in their order, all to be narrowed further.
pub record AreOpenBranches (f : Form) (v : AtomTerm) (atoms : List AtomTerm) (made : List (Candidate Form Form)) : Type 0 where
  pub branches : List Form
  pub all_open : made ≡ map Open branches
  pub are : AreBranchesOf f v atoms branches

-- One step of narrowing. A skeleton that is refuted becomes nothing. One with a misplaced unique value becomes its branches by
-- the first such value. Any other becomes nothing where it contradicts itself, and else its normal form.
pub data NarrowsInto (f : Form) : List (Candidate Form Form) → Type 0 where
  none_if_refuted : IsRefuted f.skeleton → NarrowsInto f []
  into_branches : {v : AtomTerm} {x : Node} {made : List (Candidate Form Form)} → (IsRefuted f.skeleton → ⊥) → IsFirstMisplaced f.skeleton v x → AreOpenBranches f v (heard_before f.skeleton x) made → NarrowsInto f made
  none_if_cyclic : IsSettled f.skeleton → IsContradictory f.skeleton → NarrowsInto f []
  into_form : {r : Form} → IsNormalFormOfSettled f r → NarrowsInto f (Done r ∷ [])
