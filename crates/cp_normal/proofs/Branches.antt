-- The branches of a skeleton in which a unique value is misplaced lose no standing.
use Rattle.std.proofs.Common.{◌≡◌, ◌⊎◌, inl, inr, List, sym}
use Rattle.cp_model.specs.Term.{AtomTerm, value_of_atom, Assignment, Substitution, variable_term}
use Rattle.cp_model.specs.Strand.{Protocol}
use Rattle.cp_model.specs.Bundle.{Bundle}
use Rattle.cp_model.specs.declared.node.Node.{Node}
use Rattle.cp_model.specs.Skeleton.{UniqueAt, Skeleton, IsSkeleton}
use Rattle.cp_model.specs.Standing.{Standing, StandsIn, StandsApart}
use Rattle.cp_theory.specs.Normal.{IsHeardBefore, IsSolution, skeleton_under, StandsAmong, LosesNoStanding}
use Rattle.cp_theory.proofs.HeardBefore.{heard_before}
use Rattle.cp_theory.proofs.Under.{stands_under, apart_under, factors_under, factors_then}
use Rattle.cp_normal.specs.NormalForms.{IsMisplaced, IsReceivedBefore}
use Rattle.cp_collapse.specs.Directed.{IsMostGeneralFor}
use Rattle.cp_normal.specs.Branches.{NeverEqualAtoms, HasBranch, HasBranches}
use Rattle.cp_collapse.proofs.SameStandings.{same_stands, same_apart, same_factors}

-- An assignment that gives two atoms one value solves every skeleton by their most general unifier.
solution_of : (k : Skeleton) (a b : AtomTerm) (s : Substitution) (g : Assignment) → IsMostGeneralFor a b s → value_of_atom g a ≡ value_of_atom g b → IsSolution g s k
solution_of k a b s g m e = record { inside = λ x i. m.general g e (variable_term x); of_problem = λ x i. m.general g e (variable_term x) }

heard_at : (k : Skeleton) (g : Assignment) (v : AtomTerm) (x : Node) (h : IsHeardBefore k g v x) → IsReceivedBefore k h.heard x
heard_at k g v x h = record { index = h.index; earlier = h.earlier; received = h.received; reception = h.reception; carried = h.carried }

module _ (k : Skeleton) (v : AtomTerm) (ls : List Skeleton) (b : Bundle) (h : Standing) (stands : StandsIn k b h) (apart : StandsApart k h) where
  in_branch : (heard : AtomTerm) → value_of_atom h.values v ≡ value_of_atom h.values heard → HasBranch k v heard ls → StandsAmong ls k b h
  in_branch heard e r =
      let solution = solution_of k v heard r.unifier h.values r.most_general e in
      record {
        skeleton = r.branch;
        listed = r.listed;
        stands = same_stands (skeleton_under r.unifier k) r.branch r.same b h (stands_under r.unifier k b h solution stands);
        apart = same_apart (skeleton_under r.unifier k) r.branch r.same h (apart_under r.unifier k h apart);
        factors = factors_then k (skeleton_under r.unifier k) r.branch h h h (factors_under r.unifier k h solution) (same_factors (skeleton_under r.unifier k) r.branch r.same h);
      }

  in_some : (heard : AtomTerm) → value_of_atom h.values v ≡ value_of_atom h.values heard → NeverEqualAtoms v heard ⊎ HasBranch k v heard ls → StandsAmong ls k b h
  in_some heard e (inl never) = absurd (never h.values e)
  in_some heard e (inr r) = in_branch heard e r

pub branches_lose_none : (protocol : Protocol) (k : Skeleton) (u : UniqueAt) (x : Node) (ls : List Skeleton) → IsSkeleton protocol k → IsMisplaced k u x → HasBranches k u x ls → LosesNoStanding protocol k ls
branches_lose_none protocol k u x ls sk misplaced branches b h is stands apart =
    let heard : IsHeardBefore k h.values u.value x = heard_before protocol k b h u x sk misplaced.listed misplaced.originates misplaced.elsewhere stands apart in
    in_some k u.value ls b h stands apart heard.heard (sym heard.equal) (branches heard.heard (heard_at k h.values u.value x heard))
