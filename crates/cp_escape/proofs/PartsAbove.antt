-- What encloses positions: encryptions, whose variables are variables of the message; step by step.
use Rattle.std.proofs.Common.{◌≡◌, List, [], ◌∷◌, Some, refl, sym, subst, ⊎_elim}
use Rattle.cp_lists.specs.Lists.{IsIn}
use Rattle.cp_lists.proofs.Members.{in_append_left, in_append_right, head_or_behind, not_in_none}
use Rattle.cp_model.specs.Term.{KeyTerm, Term, tag_term, atom_term, pair_term, enc_term, variables_of, variables_of_key}
use Rattle.cp_model.specs.declared.variable.Variable.{Variable}
use Rattle.cp_model.specs.Strand.{payload}
use Rattle.cp_model.specs.declared.strand.Event.{Event}
use Rattle.cp_model.specs.declared.node.Node.{Node}
use Rattle.cp_model.specs.Skeleton.{Skeleton, skeleton_trace, term_event_at}
use Rattle.cp_model.specs.Pattern.{IsEncryption}
use Rattle.cp_model.specs.Problem.{variables_of_assumptions, variables_of_skeleton}
use Rattle.cp_model.proofs.LawPrefixes.{in_trace}
use Rattle.cp_model.proofs.LawStandings.{strand_of_event, event_on}
use Rattle.cp_model.proofs.OccurringVariables.{in_strands}
use Rattle.cp_model.specs.declared.step.Step.{Step}
use Rattle.cp_model.specs.declared.step.Step.TheVariants.{Left, Right, Plaintext}
use Rattle.cp_theory.specs.Above.{encryptions_above}

-- Each is an encryption, and its variables are the message's.
pub record IsPartOf (t e : Term) : Type 0 where
  pub encryption : IsEncryption e
  pub variables : (x : Variable) → IsIn x (variables_of e) → IsIn x (variables_of t)

wider_part : (t u e : Term) → ((x : Variable) → IsIn x (variables_of t) → IsIn x (variables_of u)) → IsPartOf t e → IsPartOf u e
wider_part t u e f p = record { encryption = p.encryption; variables = λ x i. f x (p.variables x i) }

itself_part : (a : Term) (k : KeyTerm) → IsPartOf (enc_term a k) (enc_term a k)
itself_part a k = record { encryption = record { body = a; key = k; encrypted = refl }; variables = λ x i. i }

pub part_above : (t : Term) (path : List Step) (e : Term) → IsIn e (encryptions_above t path) → IsPartOf t e
part_above (pair_term a b) (Left ∷ path) e i = wider_part a (pair_term a b) e (λ x j. in_append_left (variables_of b) j) (part_above a path e i)
part_above (pair_term a b) (Right ∷ path) e i = wider_part b (pair_term a b) e (λ x j. in_append_right (variables_of a) j) (part_above b path e i)
part_above (enc_term a k) (Plaintext ∷ path) e i =
    ⊎_elim (λ (same : e ≡ enc_term a k). subst (IsPartOf (enc_term a k)) (sym same) (itself_part a k))
    (λ j. wider_part a (enc_term a k) e (λ x l. in_append_left (variables_of_key k) l) (part_above a path e j)) (head_or_behind i)
part_above (pair_term a b) (Plaintext ∷ path) e i = absurd (not_in_none i)
part_above (enc_term a k) (Left ∷ path) e i = absurd (not_in_none i)
part_above (enc_term a k) (Right ∷ path) e i = absurd (not_in_none i)
part_above (tag_term bytes) (s ∷ path) e i = absurd (not_in_none i)
part_above (atom_term v) (s ∷ path) e i = absurd (not_in_none i)
part_above (tag_term bytes) [] e i = absurd (not_in_none i)
part_above (atom_term v) [] e i = absurd (not_in_none i)
part_above (pair_term a b) [] e i = absurd (not_in_none i)
part_above (enc_term a k) [] e i = absurd (not_in_none i)

-- The variables of an event are the skeleton's.
pub event_variables : (k : Skeleton) (n : Node) (e : Event Term) → term_event_at k.strands n ≡ Some e → (x : Variable) → IsIn x (variables_of (payload e)) → IsIn x (variables_of_skeleton k)
event_variables k n e at x i =
    let st = strand_of_event k.strands n e at in
    in_append_left (variables_of_assumptions k.assumptions)
    (in_strands k.strands n.strand st.0 x st.1 (in_trace (skeleton_trace st.0) n.index e x (event_on k n st.0 e st.1 at) i))
