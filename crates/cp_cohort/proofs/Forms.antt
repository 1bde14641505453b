-- The normal forms of a partial solution come from it.
use Rattle.std.proofs.Common.{List, sym, ap, ◌∙◌, subst}
use Rattle.cp_lists.specs.Lists.{item_at}
use Rattle.cp_model.specs.Term.{Substitution, apply_to, composed}
use Rattle.cp_model.specs.Skeleton.{Skeleton, skeleton_trace_or_none}
use Rattle.cp_normal.specs.declared.form.Form.{Form}
use Rattle.cp_normal.specs.Formed.{AreFormsBeside}
use Rattle.cp_cohort.specs.Releases.{Release, PartialSolution, came_by}
use Rattle.cp_cohort.specs.Stages.{of_form}
use Rattle.cp_cohort.specs.Candidates.{OneMatches, ComesFrom}
use Rattle.cp_cohort.proofs.OccurrenceBranches.{same_trace}
use Rattle.cp_cohort.proofs.PairedForms.{HasForm}
use Rattle.cp_cohort.proofs.FurtherMatches.{one_matches_under}

module _ (r : Release) (x : PartialSolution) (answers : List Form) (are : AreFormsBeside x.skeleton x.substitution answers) where
  pub form_comes : (a : Form) → HasForm x.skeleton x.substitution are.forms a → ComesFrom r x (of_form a)
  form_comes a h =
      let from = are.normal.formed h.form h.listed in
      let by = from.comes.substitution in
      record {
        by = by;
        trace = ap (λ (k : Skeleton). skeleton_trace_or_none (item_at k.strands r.strand)) h.beside.skeleton ∙ same_trace by x.skeleton h.form.skeleton r.strand from.comes.same.strands;
        stays = λ e m.
            subst (λ (s : Substitution). OneMatches r.patterns s (apply_to by e)) (sym h.beside.substitution)
            (subst (λ (s : Substitution). OneMatches r.patterns (composed (came_by x) s) (apply_to by e)) from.by (one_matches_under r.patterns (came_by x) by e m));
      }
