-- One step of narrowing leaves fewer variables.
use Rattle.std.proofs.Common.{◌≡◌, ◌<◌, List, [], ◌++◌, sym, subst}
use Rattle.cp_lists.specs.Lists.{IsIn}
use Rattle.cp_model.specs.Term.{AtomTerm, atom_term, IsCarriedByTerm, variables_of_atom}
use Rattle.cp_model.specs.declared.strand.Event.TheVariants.{Receive as recv}
use Rattle.cp_model.specs.Bundle.{node_at}
use Rattle.cp_model.specs.declared.node.Node.{Node}
use Rattle.cp_model.specs.Skeleton.{skeleton_trace, UniqueAt, Skeleton}
use Rattle.cp_model.specs.Problem.{variables_of_strands, variables_of_atoms, variables_of_assumptions, variables_of_skeleton}
use Rattle.cp_lists.proofs.Members.{in_append_left, in_append_right}
use Rattle.cp_model.proofs.LawStandings.{strand_of_event, event_on}
use Rattle.cp_theory.specs.Normal.{skeleton_under}
use Rattle.cp_model.proofs.OccurringVariables.{in_strands, in_uniques}
use Rattle.cp_model.proofs.LawPrefixes.{in_trace}
use Rattle.cp_unify.specs.Bindings.{Binding, as_substitution}
use Rattle.cp_unify.specs.Unifiers.{AreVariablesAmong, IsMostGeneralUnifier}
use Rattle.cp_collapse.specs.SameSkeletons.{SaysTheSame}
use Rattle.cp_normal.specs.NormalForms.{IsMisplaced, IsReceivedBefore}
use Rattle.cp_normal.specs.Branches.{HasFewerVariables}
use Rattle.cp_model.proofs.UnderVariables.{carried_variables}
use Rattle.cp_normal.proofs.Distinct.{distinct, fewer_distinct}
use Rattle.cp_normal.proofs.Narrowed.{same_variables, under_has_fewer}

-- A value that was received before a node does not originate there.
pub heard_is_other : (k : Skeleton) (u : UniqueAt) (x : Node) (heard : AtomTerm) → IsMisplaced k u x → IsReceivedBefore k heard x → u.value ≡ heard → ⊥
heard_is_other k u x heard misplaced h e =
    misplaced.originates.1.first h.index (recv h.received) h.earlier h.reception (subst (λ (v : AtomTerm). IsCarriedByTerm (atom_term v) h.received) (sym e) h.carried)

unique_variables : (k : Skeleton) (u : UniqueAt) → IsIn u k.assumptions.uniquely_originating → AreVariablesAmong (variables_of_atom u.value) (variables_of_skeleton k)
unique_variables k u i x j =
    in_append_right (variables_of_strands k.strands)
    (in_append_right (variables_of_atoms k.assumptions.non_originating ++ variables_of_atoms k.assumptions.penetrator_non_originating) (in_uniques k.assumptions.uniquely_originating u x i j))

heard_variables : (k : Skeleton) (heard : AtomTerm) (x : Node) → IsReceivedBefore k heard x → AreVariablesAmong (variables_of_atom heard) (variables_of_skeleton k)
heard_variables k heard x h y j =
    let n : Node = node_at x.strand h.index in
    let st = strand_of_event k.strands n (recv h.received) h.reception in
    in_append_left (variables_of_assumptions k.assumptions)
    (in_strands k.strands x.strand st.0 y st.1
    (in_trace (skeleton_trace st.0) h.index (recv h.received) y (event_on k n st.0 (recv h.received) st.1 h.reception) (carried_variables h.carried y j)))

pub narrowed_has_fewer : (k l : Skeleton) (u : UniqueAt) (x : Node) (heard : AtomTerm) (r : List Binding) → IsMisplaced k u x → IsReceivedBefore k heard x → IsMostGeneralUnifier (atom_term u.value) (atom_term heard) [] r →
    SaysTheSame (skeleton_under (as_substitution r) k) l → HasFewerVariables k l
narrowed_has_fewer k l u x heard r misplaced h m same =
    let f : HasFewerVariables k (skeleton_under (as_substitution r) k) = under_has_fewer k u.value heard r m (heard_is_other k u x heard misplaced h) (unique_variables k u misplaced.listed) (heard_variables k heard x h) in
    let e = same_variables (skeleton_under (as_substitution r) k) l same in
    record {
      among = λ y i. f.among y (subst (IsIn y) (sym e) i);
      taken = f.taken;
      was_there = f.was_there;
      is_gone = λ i. f.is_gone (subst (IsIn f.taken) (sym e) i);
    }

-- The count of different variables falls.
pub fewer_counted : (k l : Skeleton) → HasFewerVariables k l → distinct (variables_of_skeleton l) < distinct (variables_of_skeleton k)
fewer_counted k l f = fewer_distinct (variables_of_skeleton l) (variables_of_skeleton k) f.taken f.among f.was_there f.is_gone
