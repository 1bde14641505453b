-- The conditions on a release speak of strands and substitution alone.
use Rattle.std.proofs.Common.{List, sym, ap, ◌∙◌, subst}
use Rattle.cp_model.specs.Bundle.{node_at}
use Rattle.cp_model.specs.Skeleton.{SkeletonStrand, term_event_at}
use Rattle.cp_model.specs.Strand.{payload}
use Rattle.cp_model.specs.Term.{apply_to}
use Rattle.cp_unify.specs.Bindings.{Binding, as_substitution}
use Rattle.cp_theory.specs.Inside.{IsInside, CarriesInsideAlone}
use Rattle.cp_normal.specs.declared.form.Form.{Form}
use Rattle.cp_normal.specs.Formed.{Keeps}
use Rattle.cp_cohort.specs.Releases.{Release, PartialSolution, MeetsBoth}
use Rattle.cp_cohort.specs.Stages.{of_form}

-- What keeps both of a partial solution meets them too.
pub kept_met : (r : Release) (x : PartialSolution) (f : Form) → MeetsBoth r x → Keeps x.skeleton x.substitution f → MeetsBoth r (of_form f)
kept_met r x f meets keeps = record {
  outside = λ i. meets.outside (record {
    event = i.event;
    there = sym (ap (λ (ss : List SkeletonStrand). term_event_at ss (node_at r.strand r.index)) keeps.strands) ∙ i.there;
    inside = subst (λ (s : List Binding). IsInside r.patterns (as_substitution s) (payload i.event) r.path) keeps.substitution i.inside;
  });
  inside_before = λ i l event there.
      subst (λ (s : List Binding). CarriesInsideAlone r.patterns (as_substitution s) (apply_to (as_substitution s) r.critical) (payload event)) (sym keeps.substitution)
      (meets.inside_before i l event (sym (ap (λ (ss : List SkeletonStrand). term_event_at ss (node_at r.strand i)) keeps.strands) ∙ there));
}
