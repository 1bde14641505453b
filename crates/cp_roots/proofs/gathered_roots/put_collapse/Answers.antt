use Rattle.std.proofs.Common.{ap, ◌∙◌}
use Rattle.cp_model.specs.Skeleton.{FromProblem}
use Rattle.cp_model.specs.declared.tree.Operation.TheVariants.{Collapsed as by_collapse}
use Rattle.std.proofs.lemmas.Result.{on_ok_weaker}
use Rattle.cp_roots.proofs.PutForms.{collapse_put}
use Rattle.cp_roots.proofs.gathered_roots.put_collapse.Goals as goal

pub returns : goal.returns
returns c =
    on_ok_weaker c.put_forms.result
    (λ puts. collapse_put c.args.collapse _ c.in_ok-partition.partition.items c.strands.result.now c.in_ok-forms.forms.items c.args.roots.now.items c.put_forms.new.roots.items
    (record { forms = c.in_ok-forms.ensures.forms; loses_none = c.in_ok-forms.ensures.loses_none; exact = c.in_ok-forms.ensures.exact }) c.in_ok-forms.ensures.variables
    (c.strands.ensures ∙ ap (λ (f : FromProblem). f.strands) c.from_problem.ensures) c.in_ok-partition.ensures (ap by_collapse c.of.ensures) puts)
    c.put_forms.ensures
