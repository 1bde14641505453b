-- An event in whose message the critical term cannot stand adds nothing: no strand need be made for it.
use Rattle.std.proofs.Common.{◌≡◌, ℕ, suc, List, [], ◌∷◌, ◌++◌, length, Some, Bool, false, refl, sym, ap, ◌∙◌, subst}
use Rattle.cp_lists.specs.Lists.{item_at}
use Rattle.cp_model.specs.Term.{Term, apply_to}
use Rattle.cp_model.specs.Bindings.{Binding, as_substitution, bindings_of}
use Rattle.cp_model.specs.Strand.{payload, Role, variables_of_prefix}
use Rattle.cp_model.specs.declared.strand.Event.{Event}
use Rattle.cp_model.specs.declared.strand.Event.TheVariants.{Send as send}
use Rattle.cp_model.specs.declared.node.Node.{Node}
use Rattle.cp_model.specs.Bundle.{node_at}
use Rattle.cp_model.specs.Skeleton.{SkeletonStrand, instance, term_event_at, Skeleton}
use Rattle.cp_model.specs.Extensions.{AddsStrand}
use Rattle.cp_model.specs.GivenAssumptions.{with_given_from}
use Rattle.cp_model.specs.PrefixVariables.{prefix_variables, is_added, AreTermsFor, terms_of}
use Rattle.cp_model.specs.Positions.{positions_where}
use Rattle.cp_model.specs.declared.step.Step.{Step}
use Rattle.cp_skel.proofs.Changed.{made}
use Rattle.cp_skel.proofs.GivenParts.{given-adds}
use Rattle.cp_skel.proofs.ValuedTerms.{value-terms, all-added}
use Rattle.cp_theory.specs.Fresh.{fresh_terms}
use Rattle.cp_theory.specs.Covering.{put_before}
use Rattle.cp_pattern.specs.Candidates.{may_equal, carries_where}
use Rattle.cp_pattern.proofs.CandidatesUnder.{none_where, candidates_under}
use Rattle.cp_cohort.specs.GatheredLists.{EachGives, nothing_given}
use Rattle.cp_cohort.specs.Cohort.{GuardedTest, AddsEvent, is_reception}
use Rattle.cp_cohort.specs.CoveringChildren.{declarations_among}
use Rattle.cp_cohort.specs.Children.{NeverSends, receives, sends_others, ReleasesPut, ReleasesEach}
use Rattle.cp_model.specs.declared.tree.Operation.TheVariants.{AddedStrand as by_added_strand}
use Rattle.cp_cohort.proofs.FitValues.{values_fit}
use Rattle.cp_cohort.proofs.GrownReleases.{added_sends, added_each, released_all}

-- A transmission of a message that carries no such term.
pub never_sent : (c : Term) (trace : List (Event Term)) (j : ℕ) (t : Term) → item_at trace j ≡ Some (send t) → (e : Event Term) → item_at trace j ≡ Some e →
    (message : Term) → message ≡ payload e → (b : Bool) → b ≡ carries_where (may_equal c) message → b ≡ false → NeverSends c trace j
never_sent c trace j t sent e there message is b carries fails =
    let both : Some (send t) ≡ Some e = sym sent ∙ there in
    let same : send t ≡ e = cc in
    let one : message ≡ t = is ∙ ap payload (sym same) in
    sends_others sent (ap (carries_where (may_equal c)) (sym one) ∙ sym carries ∙ fails)

module _ (q : GuardedTest) (role : Role) (j : ℕ) where
  abbrev k : Skeleton
  k = q.skeleton

  -- The new strand, with new variables, and the skeleton with it.
  abbrev values : List Term
  values = fresh_terms (length k.variables) (prefix_variables role (suc j))

  abbrev terms : List Binding
  terms = bindings_of (made role 0 (suc j) [] values)

  abbrev strand : SkeletonStrand
  strand = instance role (suc j) terms

  abbrev grown : Skeleton
  grown = record {
    variables = k.variables ++ declarations_among role (prefix_variables role (suc j));
    strands = k.strands ++ strand ∷ [];
    pairs = k.pairs;
    assumptions = with_given_from (length k.strands) (strand ∷ []) k.assumptions;
    from_problem = k.from_problem;
  }

  fit : AreTermsFor (prefix_variables role (suc j)) values
  fit = values_fit (length k.variables) (prefix_variables role (suc j)) values refl

  adds : AddsStrand role (suc j) values k grown
  adds = record {
    terms = terms;
    gives = ap (terms_of (as_substitution terms)) (sym (all-added role (suc j)))
        ∙ value-terms (is_added (variables_of_prefix role 0) (variables_of_prefix role (suc j))) [] role.variables values (subst (λ xs. AreTermsFor xs values) (sym (all-added role (suc j))) fit);
    strands = refl;
    pairs = refl;
    assumptions = given-adds role (suc j) terms (length k.strands) k.assumptions grown.assumptions refl;
    from_problem = refl;
  }

  abbrev place : Node
  place = node_at (length k.strands) j

  module _ (t : Term) (sent : item_at role.trace j ≡ Some (send t)) (none : positions_where (may_equal q.critical) t ≡ []) where
    abbrev message : Term
    message = apply_to (as_substitution (added_sends q role j t sent grown adds).terms) t

    sends_it : (u : Term) → term_event_at grown.strands place ≡ Some (send u) → message ≡ u
    sends_it u there =
        let first : term_event_at grown.strands place ≡ Some (send message) = (added_sends q role j t sent grown adds).there in
        let both : Some (send message) ≡ Some (send u) = sym first ∙ there in
        cc

    nothing_there : positions_where (may_equal q.critical) message ≡ []
    nothing_there = candidates_under (as_substitution (added_sends q role j t sent grown adds).terms) q.critical t ∙ none

    nothing_released : ReleasesEach q (by_added_strand (length k.strands)) place grown []
    nothing_released =
        released_all q (by_added_strand (length k.strands)) place (put_before place q.node grown) grown message refl sends_it []
        (subst (λ (ps : List (List Step)). EachGives (ReleasesPut q (by_added_strand (length k.strands)) place (put_before place q.node grown) message) ps []) (sym nothing_there) nothing_given)

    no_strand : AddsEvent q role j []
    no_strand = added_each q role j t sent grown adds refl [] nothing_released

  pub nothing_added : NeverSends q.critical role.trace j → AddsEvent q role j []
  nothing_added (receives at) = is_reception at
  nothing_added (sends_others {t = t} sent fails) = no_strand t sent (none_where (may_equal q.critical) t fails)
