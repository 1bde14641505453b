-- On the way the strand of a release goes on to send the critical term, before a node.
use Rattle.std.proofs.Common.{◌≡◌, ℕ, List, Some, sym, ap, ◌∙◌, subst}
use Rattle.cp_lists.specs.Lists.{item_at, IsIn}
use Rattle.cp_model.specs.Term.{Term, Substitution, apply_to, composed}
use Rattle.cp_model.specs.Bindings.{Binding}
use Rattle.cp_model.specs.Strand.{Role}
use Rattle.cp_model.specs.declared.strand.Event.TheVariants.{Send as send}
use Rattle.cp_model.specs.Bundle.{node_at}
use Rattle.cp_model.specs.declared.node.Node.{Node}
use Rattle.cp_model.specs.Skeleton.{instance, term_event_at, Skeleton, Before}
use Rattle.cp_model.proofs.LawTerms.{term_composed}
use Rattle.cp_model.specs.Positions.{term_at}
use Rattle.cp_normal.specs.Formed.{Formed, AreFormedNormalForms, IsFormBeside}
use Rattle.cp_normal.specs.declared.form.Form.{Form}
use Rattle.cp_theory.proofs.Places.{term_at_under}
use Rattle.cp_cohort.specs.Releases.{Release, PartialSolution, came_by, MeetsBoth}
use Rattle.cp_cohort.specs.Stages.{of_form, Stage, SolvesRelease}
use Rattle.cp_cohort.proofs.EachSettled.{settles_each}
use Rattle.cp_cohort.proofs.SkeletonSteps.{Leads, IsStep, step_alike, step_form, step_event, step_instance, step_before, step_leads, first_then}

-- The first skeleton leads to the partial solution, in which the event of the release, of an instance of this role and height,
-- sends the critical term at the position, before node n.
pub record IsSending (first : Skeleton) (n : Node) (r : Release) (role : Role) (height : ℕ) (x : PartialSolution) : Type 0 where
  pub leads : Leads first x.skeleton (came_by x)
  pub terms : List Binding
  pub on_instance : item_at x.skeleton.strands r.strand ≡ Some (instance role height terms)
  pub message : Term
  pub sent : term_event_at x.skeleton.strands (node_at r.strand r.index) ≡ Some (send message)
  pub before : Before x.skeleton (node_at r.strand r.index) n
  pub stands : term_at message r.path ≡ Some (apply_to (came_by x) r.critical)

module _ (first : Skeleton) (n : Node) (r : Release) (role : Role) (height : ℕ) where
  pub sends_on : (x : PartialSolution) (t : Substitution) (y : PartialSolution) → IsSending first n r role height x → IsStep x.skeleton y.skeleton t → came_by y ≡ composed (came_by x) t → IsSending first n r role height y
  sends_on x t y s step by =
      let l : Skeleton = y.skeleton in
      let on = step_instance x.skeleton l t step r.strand role height s.terms s.on_instance in
      record {
        leads = subst (Leads first l) (sym by) (first_then first x.skeleton l (came_by x) t s.leads (step_leads x.skeleton l t step));
        terms = on.0;
        on_instance = on.1;
        message = apply_to t s.message;
        sent = step_event x.skeleton l t step (node_at r.strand r.index) (send s.message) s.sent;
        before = step_before x.skeleton l t step s.before;
        stands = term_at_under t s.message r.path (apply_to (came_by x) r.critical) s.stands ∙ ap Some (sym (term_composed (came_by x) t r.critical)) ∙ ap (λ (u : Substitution). Some (apply_to u r.critical)) (sym by);
      }

  form_sends : (x : PartialSolution) → IsSending first n r role height x → (forms : List Formed) → AreFormedNormalForms x.skeleton forms → (f : Formed) → IsIn f forms → (a : Form) → IsFormBeside x.skeleton x.substitution a f → IsSending first n r role height (of_form a)
  form_sends x s forms are f i a beside =
      let o = are.formed f i in
      let step : IsStep x.skeleton a.skeleton o.comes.substitution = subst (λ (k : Skeleton). IsStep x.skeleton k o.comes.substitution) (sym beside.skeleton) (step_form x.skeleton f.skeleton o.comes) in
      sends_on x o.comes.substitution (of_form a) s step (beside.substitution ∙ ap (composed (came_by x)) (sym o.by))

  abbrev IsReleased : PartialSolution → Type 0
  IsReleased y = IsSending first n r role height y × MeetsBoth r y

  pub settles_sending : {stage : Stage} {x : PartialSolution} {ys : List PartialSolution} → SolvesRelease r stage x ys → IsSending first n r role height x → (y : PartialSolution) → IsIn y ys → IsReleased y
  settles_sending = settles_each r (IsSending first n r role height) (record {
    branch = λ x s c choice u m y next. sends_on x u y s (step_alike x.skeleton y.skeleton u next.same) next.by;
    form = form_sends;
  })
