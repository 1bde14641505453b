use Rattle.std.proofs.Common.{map, sym, ap, ◌∙◌}
use Rattle.std.specs.Prelude.{option_map}
use Rattle.cp_model.specs.Strand.{variables_of_trace, prefix_of}
use Rattle.cp_sexpr.specs.View.{view}
use Rattle.cp_report.specs.Skeletons.{declared_in_prefix, mapping_misfits, prefix_misfits}
use Rattle.cp_spelled.specs.FirstMisfit.{first_onto}
use Rattle.cp_spelled.specs.Views.{scope_view}
use Rattle.cp_stated.proofs.Results.{when_ok}
use Rattle.cp_stated.proofs.instances.prefix_misfits.Goals as goal

pub returns : goal.returns
returns c =
    let s = scope_view c.args.scope in
    let at = c.args.place in
    let fs = map view c.args.maplets.now in
    let o = c.args.first.now in
    let prefix = c.prefix_of.ensures ∙ ap (λ r. prefix_of r c.args.height) c.deref.ensures in
    let variables = c.variables.ensures ∙ ap (λ r. r.variables) c.deref-2.ensures in
    let wanted = c.in_ok-wanted.ensures ∙ ap (λ es. declared_in_prefix (variables_of_trace es) 0 c.variables.result.now) prefix ∙ ap (declared_in_prefix (variables_of_trace (prefix_of c.in-Some.role.now.value c.args.height)) 0) variables in
    when_ok c.mapping_misfits.result
    (λ h. h ∙ ap (λ ds. first_onto o (mapping_misfits s ds at fs)) wanted ∙ ap (λ r. first_onto o (prefix_misfits s (option_map (λ x. x.now.value) r) c.args.height at fs)) (sym c.in-Some.is)) c.mapping_misfits.ensures
