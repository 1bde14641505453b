-- Skeletons that cover a test: what makes sure that, wherever the skeleton stands, one of them does.
use Rattle.std.specs.Prelude.{◌≡◌, ◌≢◌, ◌⊎◌, ℕ, suc, ◌<◌, ◌≤◌, List, [], ◌∷◌, ◌++◌, Some, length}
use Rattle.cp_lists.specs.Lists.{item_at, IsIn}
use Rattle.cp_model.specs.Term.{KeyTerm, key_term, inverse_term, Term, atom_term, enc_term, Assignment, value_of, Substitution}
use Rattle.cp_model.specs.Bindings.{Binding}
use Rattle.cp_model.specs.Identity.{unchanged}
use Rattle.cp_model.specs.Strand.{Role, Protocol}
use Rattle.cp_model.specs.declared.strand.Event.TheVariants.{Send as send}
use Rattle.cp_model.specs.Bundle.{node_at}
use Rattle.cp_model.specs.declared.node.Node.{Node}
use Rattle.cp_model.specs.Skeleton.{instance, term_event_at, Skeleton, Before}
use Rattle.cp_model.specs.Derivable.{IsOnInstance}
use Rattle.cp_model.specs.Tree.{Pattern}
use Rattle.cp_model.specs.declared.step.Step.{Step}
use Rattle.cp_model.specs.Positions.{term_at}
use Rattle.cp_model.specs.PrefixVariables.{prefix_variables, added_variables}
use Rattle.cp_model.specs.Extensions.{AddsListener, IsClosedPrefix, AddsStrand, Extends}
use Rattle.cp_theory.specs.Normal.{with_pairs, skeleton_under}
use Rattle.cp_theory.specs.Inside.{IsInside}
use Rattle.cp_theory.specs.Critical.{used_variables}
use Rattle.cp_theory.specs.Forms.{ReducesTo}
use Rattle.cp_theory.specs.Fresh.{fresh_terms, AreBelow}
use Rattle.cp_theory.specs.FittingAssignments.{Fits}
use Rattle.cp_theory.specs.Trials.{ReleaseTest, SolvesTest}

-- The skeleton with m put before n.
abbrev pub put_before : Node → Node → Skeleton → Skeleton
put_before m n k = with_pairs k (k.pairs ++ record { earlier = m; later = n } ∷ [])

-- The values g fit a substitution under which k reduces to skeletons of the list.
pub record IsContracted (protocol : Protocol) (ks : List Skeleton) (k : Skeleton) (g : Assignment) : Type 0 where
  pub substitution : Substitution
  pub fits : Fits k unchanged k g substitution
  pub down : ReducesTo protocol ks (skeleton_under substitution k)

-- The values g, of k as it has grown out of the first skeleton, fit a substitution under which the release test is solved.
pub record IsSolvedUnder (trial : ReleaseTest) (ks : List Skeleton) (k : Skeleton) (g : Assignment) : Type 0 where
  pub substitution : Substitution
  pub fits : Fits trial.first unchanged k g substitution
  pub tried : SolvesTest trial ks substitution (skeleton_under substitution k)

-- The grown skeleton, with the event that is to release the term put before n. If that closes no cycle: whatever values
-- make what stands at the position equal to the term fit a substitution under which the release test is solved.
abbrev pub CoversRelease : ReleaseTest → List Skeleton → Node → Skeleton → Type 0
CoversRelease trial ks n grown = let node = node_at trial.strand trial.index in let put = put_before node n grown in
    ((y : Node) → Before put y y → ⊥) → (t u : Term) → term_event_at grown.strands node ≡ Some (send t) → term_at t trial.path ≡ Some u →
    (g : Assignment) → value_of g u ≡ value_of g trial.critical → IsSolvedUnder trial ks put g

-- The new skeleton is the old one, where the instance on strand s, of this role and height, is high enough to have event j;
-- else it has grown to that, and the variables that are added are new ones.
pub record IsHighEnough (s : ℕ) (role : Role) (height j : ℕ) (old new : Skeleton) : Type 0 where
  pub count : ℕ
  pub below : AreBelow count (used_variables old)
  pub closed : IsClosedPrefix role (suc j)
  pub how : ((j < height) × (new ≡ old)) ⊎ ((height ≤ j) × Extends s (suc j) (fresh_terms count (added_variables role height (suc j))) old new)

-- A displaced strand: strand s of the skeleton is made high enough, and its event put before n to release the term.
pub record IsDisplaced (trial : ReleaseTest) (ks : List Skeleton) (n : Node) (role : Role) (height : ℕ) : Type 0 where
  pub grown : Skeleton
  pub grows : IsHighEnough trial.strand role height trial.index trial.first grown
  pub releases : CoversRelease trial ks n grown

-- An added strand: an instance of the role with new variables, of which the last event is put before n to release the term.
pub record IsAddedStrand (trial : ReleaseTest) (ks : List Skeleton) (n : Node) (role : Role) : Type 0 where
  pub count : ℕ
  pub below : AreBelow count (used_variables trial.first)
  pub closed : IsClosedPrefix role (suc trial.index)
  pub grown : Skeleton
  pub adds : AddsStrand role (suc trial.index) (fresh_terms count (prefix_variables role (suc trial.index))) trial.first grown
  pub releases : CoversRelease trial ks n grown

-- An added listener on the term, whose transmission is put before n: it reduces to skeletons of the list.
pub record IsListenedTo (protocol : Protocol) (ks : List Skeleton) (k : Skeleton) (n : Node) (t : Term) : Type 0 where
  pub added : Skeleton
  pub adds : AddsListener t k added
  pub down : ReducesTo protocol ks (put_before (node_at (length k.strands) 1) n added)

-- The release test for event j of strand s and a position.
abbrev pub trial_at : Protocol → Skeleton → List Pattern → Term → ℕ → ℕ → List Step → ReleaseTest
trial_at protocol k ps c s j path = record { protocol = protocol; first = k; patterns = ps; critical = c; strand = s; index = j; path = path }

-- The skeletons ks cover the test of c at n under the patterns ps.
--
-- Contracted: of each transmission of a role strand before n, each carried position is inside the patterns, or c stands
-- there, or whatever values make what stands there equal to c lead to a skeleton of ks.
-- Displaced: for each role strand other than n's own, and each carried position of each transmission of its role, that event
-- is before n already, or the strand is displaced.
-- Added: for each role, and each carried position of each of its transmissions, a strand of it is added.
-- Listeners: where c is an encryption there is one on its key or on its plaintext; and for each pattern there is one on the
-- inverse of its key.
pub record IsCovering (protocol : Protocol) (k : Skeleton) (n : Node) (c : Term) (ps : List Pattern) (ks : List Skeleton) : Type 0 where
  pub contracted : (m : Node) (t u : Term) (path : List Step) → IsOnInstance k m → term_event_at k.strands m ≡ Some (send t) → Before k m n → term_at t path ≡ Some u →
      IsInside ps unchanged t path ⊎ ((u ≡ c) ⊎ ((g : Assignment) → value_of g u ≡ value_of g c → IsContracted protocol ks k g))
  pub displaced : (s : ℕ) (role : Role) (height : ℕ) (terms : List Binding) (j : ℕ) (t u : Term) (path : List Step) → item_at k.strands s ≡ Some (instance role height terms) → s ≢ n.strand →
      item_at role.trace j ≡ Some (send t) → term_at t path ≡ Some u → Before k (node_at s j) n ⊎ IsDisplaced (trial_at protocol k ps c s j path) ks n role height
  pub added : (role : Role) (j : ℕ) (t u : Term) (path : List Step) → IsIn role protocol.roles → item_at role.trace j ≡ Some (send t) → term_at t path ≡ Some u →
      IsAddedStrand (trial_at protocol k ps c (length k.strands) j path) ks n role
  pub encrypted : (body : Term) (key : KeyTerm) → c ≡ enc_term body key → IsListenedTo protocol ks k n (atom_term (key_term key)) ⊎ IsListenedTo protocol ks k n body
  pub keys : (p : Pattern) (body : Term) (key : KeyTerm) → IsIn p ps → p.term ≡ enc_term body key → IsListenedTo protocol ks k n (atom_term (key_term (inverse_term key)))
