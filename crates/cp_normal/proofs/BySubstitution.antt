-- Normal forms come from a skeleton by one substitution each.
use Rattle.std.proofs.Common.{◌≡◌, inl, List, [], ◌∷◌, map, refl, sym, ap, ap₂, ◌∙◌, subst}
use Rattle.cp_lists.specs.Lists.{IsIn, one_step}
use Rattle.cp_model.specs.Term.{Term, Assignment, value_of, after, Substitution, apply_to, composed}
use Rattle.cp_model.specs.Identity.{unchanged}
use Rattle.cp_model.specs.Strand.{Protocol}
use Rattle.cp_model.specs.declared.strand.Event.TheVariants.{Send as send, Receive as recv}
use Rattle.cp_model.specs.Bundle.{node_at, Bundle, IsBundle}
use Rattle.cp_model.specs.Skeleton.{FromProblem, Skeleton, along_pair, IsSkeleton}
use Rattle.cp_model.specs.declared.node.OrderPair.{OrderPair}
use Rattle.cp_model.specs.Standing.{Standing, StandsIn, StandsApart}
use Rattle.cp_model.specs.Homomorphism.{FactorsThrough}
use Rattle.cp_lists.proofs.Members.{in_append_left}
use Rattle.cp_model.proofs.LawTerms.{value_after}
use Rattle.cp_theory.specs.Normal.{skeleton_under, with_pairs, variables_of_terms, SaysNoMore, LosesNoStanding}
use Rattle.cp_theory.proofs.Weaker.{stands_too}
use Rattle.cp_collapse.specs.SameSkeletons.{SaysTheSame}
use Rattle.cp_normal.specs.BySubstitution.{StaysWithin, ComesBySubstitution, StandsAmongForms, ComeBySubstitutions}
use Rattle.cp_normal.specs.Candidates.{unifiers_of}
use Rattle.cp_normal.specs.Exact.{HasForms}
use Rattle.cp_normal.specs.NormalForms.{IsNarrowed, NarrowsTo, none, one, IsNormalFormOf}
use Rattle.cp_normal.proofs.FormsOf.{are_normal_forms, lose_no_standing}
use Rattle.cp_normal.proofs.NarrowedStandings.{LeavesValues, solved_unchanged, solved_both, step_solved, rest_leaves, standings_leave}
use Rattle.cp_normal.proofs.NarrowedUnder.{says_unchanged, says_both}
use Rattle.cp_collapse.proofs.SameFacts.{says_back, says_with_pairs}
use Rattle.cp_normal.proofs.SameFindings.{same_normal_pairs}
use Rattle.cp_normal.proofs.VariablesUnder.{carried_occurs}
use Rattle.cp_normal.proofs.Within.{both_stay_within, unchanged_stays_within, unifier_stays_within}

-- ---- what is narrowed by steps

-- l is k under one substitution, which is solved where it leaves the values of the messages.
record ComesUnder (k l : Skeleton) : Type 0 where
  pub substitution : Substitution
  pub stays_within : StaysWithin k substitution
  pub same : SaysTheSame (skeleton_under substitution k) l
  pub solved : (g : Assignment) → LeavesValues g substitution k → (t : Term) → value_of (after g substitution) t ≡ value_of g t

step_stays_within : (k l : Skeleton) (step : IsNarrowed k l) → StaysWithin k step.unifier
step_stays_within k l step =
    let others = variables_of_terms k.from_problem.values in
    let o = step.misplaced.originates.1 in
    let d = step.heard_before in
    unifier_stays_within k step.entry.value step.heard step.unifier
    (λ x i. in_append_left others (carried_occurs k step.node (send o.sent) step.entry.value o.transmission o.carried x i))
    (λ x i. in_append_left others (carried_occurs k (node_at step.node.strand d.index) (recv d.received) step.heard d.reception d.carried x i))
    step.most_general

comes_under : {k l : Skeleton} → NarrowsTo k l → ComesUnder k l
comes_under {k} none = record { substitution = unchanged; stays_within = unchanged_stays_within k; same = says_unchanged k; solved = λ g leaves. solved_unchanged g }
comes_under {k} {l} (one {l = m} step p) =
    let rest : ComesUnder m l = comes_under p in
    let r : Substitution = rest.substitution in
    record {
      substitution = composed step.unifier r;
      stays_within = both_stay_within step.unifier k m (step_stays_within k m step) step.same r rest.stays_within;
      same = says_both k m l step.unifier r step.same rest.same;
      solved = λ g leaves. solved_both g step.unifier r (step_solved g k m step r leaves) (rest.solved g (rest_leaves g k m step r leaves));
    }

-- ---- normal forms

pub form_comes : (k r : Skeleton) → IsNormalFormOf k r → ComesBySubstitution k r
form_comes k r f =
    let under : ComesUnder k f.narrowed = comes_under f.by_steps in
    let d : Skeleton = skeleton_under under.substitution k in
    record {
      substitution = under.substitution;
      stays_within = under.stays_within;
      same = subst (SaysTheSame (with_pairs d r.pairs)) (sym f.same) (says_with_pairs d f.narrowed r.pairs under.same);
      pairs = same_normal_pairs f.narrowed d r.pairs (says_back d f.narrowed under.same) f.pairs;
    }

-- That substitution is the unifiers of the steps, one after the other.
same_unifiers : {k l : Skeleton} (p : NarrowsTo k l) → (comes_under p).substitution ≡ unifiers_of p
unfolding comes_under
same_unifiers none = refl
same_unifiers (one step p) = ap (composed step.unifier) (same_unifiers p)

pub form_unifiers : (k r : Skeleton) (f : IsNormalFormOf k r) → (form_comes k r f).substitution ≡ unifiers_of f.by_steps
unfolding form_comes
form_unifiers k r f = same_unifiers f.by_steps

-- What is narrowed says no more than the normal form.
says_no_more : (narrowed : Skeleton) (pairs : List OrderPair) → ((p : OrderPair) → IsIn p narrowed.pairs → IsIn p pairs) → SaysNoMore narrowed (with_pairs narrowed pairs)
says_no_more narrowed pairs keeps = record {
  strands = λ i. narrowed.strands;
  ordered = λ p i. one_step (along_pair (keeps p i));
  non = λ v i. i;
  penetrator_non = λ v i. i;
  unique = λ u i. i;
  problem_strands = λ i. narrowed.from_problem.strands;
  problem_values = λ i. narrowed.from_problem.values;
}

pub form_solved : (k r : Skeleton) (f : IsNormalFormOf k r) (b : Bundle) (h : Standing) → StandsIn k b h → StandsIn r b h → (t : Term) → value_of (after h.values (form_comes k r f).substitution) t ≡ value_of h.values t
unfolding form_comes comes_under
form_solved k r f b h stands stands' =
    let under : ComesUnder k f.narrowed = comes_under f.by_steps in
    let there : StandsIn f.narrowed b h =
    stands_too f.narrowed (with_pairs f.narrowed r.pairs) (says_no_more f.narrowed r.pairs (λ p i. (f.pairs p).1 (inl i))) b h
    (subst (λ (d : Skeleton). StandsIn d b h) f.same stands') in
    under.solved h.values (standings_leave under.substitution k f.narrowed b h under.same stands there)

-- ---- a standing that agrees with the substitution

same_under : (g : Assignment) (s : Substitution) → ((t : Term) → value_of (after g s) t ≡ value_of g t) → (ts : List Term) → map (value_of g) ts ≡ map (value_of g) (map (apply_to s) ts)
same_under g s same [] = refl
same_under g s same (t ∷ ts) = ap₂ ◌∷◌ (sym (same t) ∙ value_after g s t) (same_under g s same ts)

pub comes_factors : (k r : Skeleton) (h : Standing) (c : ComesBySubstitution k r) → ((t : Term) → value_of (after h.values c.substitution) t ≡ value_of h.values t) → FactorsThrough k h r h
comes_factors k r h c same = record {
  strands = ap (λ (f : FromProblem). map h.nodes f.strands) c.same.from_problem;
  values = same_under h.values c.substitution same k.from_problem.values ∙ ap (λ (f : FromProblem). map (value_of h.values) f.values) c.same.from_problem;
}

-- ---- all normal forms

pub forms_come : (protocol : Protocol) (k : Skeleton) (rs : List Skeleton) → ((r : Skeleton) → IsIn r rs → IsNormalFormOf k r) → LosesNoStanding protocol k rs → ComeBySubstitutions protocol k rs
forms_come protocol k rs are loses_none = record { by = λ r i. form_comes k r (are r i); standing = standing }
  where
    standing : (b : Bundle) (h : Standing) → IsBundle protocol b → StandsIn k b h → StandsApart k h → StandsAmongForms k rs (λ r i. form_comes k r (are r i)) b h
    standing b h is stands apart =
        let among = loses_none b h is stands apart in
        record {
          form = among.skeleton;
          listed = among.listed;
          stands = among.stands;
          apart = among.apart;
          same_values = form_solved k among.skeleton (are among.skeleton among.listed) b h stands among.stands;
        }

pub come_by_substitutions : (protocol : Protocol) (k : Skeleton) (rs : List Skeleton) → IsSkeleton protocol k → HasForms k rs → ComeBySubstitutions protocol k rs
come_by_substitutions protocol k rs sk has = forms_come protocol k rs (are_normal_forms has) (lose_no_standing protocol k rs sk has)
