use Rattle.std.proofs.Common.{◌≡◌, length, replicate, false, sym, ap, ap₂, ◌∙◌, Bool, List}
use Rattle.cp_model.specs.declared.variable.Declaration.{Declaration}
use Rattle.cp_language.specs.Report.{occurring}
use Rattle.cp_names.specs.Flags.{flagged_variables, label_names_by}
use Rattle.cp_names.proofs.MarkMeanings.{flags_mean}
use Rattle.cp_names.proofs.NamesByFlags.{label_named}
use Rattle.cp_names.proofs.labels.variables_of_label.Goals as goal

pub returns-clause-flags : goal.returns-clause-flags
returns-clause-flags c =
    let l = c.args.label.now in
    let declared : c.deref-3.result.now ≡ l.skeleton.variables = c.deref-3.ensures.value ∙ c.in_ok-declared.ensures ∙ c.variables.ensures in
    let counted : length l.skeleton.variables ≡ c.len.result = ap length (sym declared) ∙ c.deref-3.ensures.len ∙ sym c.len.ensures in
    flags_mean (occurring l) (length l.skeleton.variables) c.in_ok-flags.flags.items
    (c.in_ok-flags.ensures ∙ ap (λ xs. flagged_variables xs (replicate c.len.result false)) c.deref.ensures.value
    ∙ ap (λ xs. flagged_variables xs (replicate c.len.result false)) c.in_ok-occurring.ensures ∙ ap (λ n. flagged_variables (occurring l) (replicate n false)) (sym counted))

pub returns-clause-names : goal.returns-clause-names
returns-clause-names c =
    let l = c.args.label.now in
    let declared : c.deref-3.result.now ≡ l.skeleton.variables = c.deref-3.ensures.value ∙ c.in_ok-declared.ensures ∙ c.variables.ensures in
    let counted : length l.skeleton.variables ≡ c.len.result = ap length (sym declared) ∙ c.deref-3.ensures.len ∙ sym c.len.ensures in
    label_named c.args.of_problem.now c.in_ok-names.names.items (occurring l) c.len.result c.in_ok-flags.flags.items l.skeleton.variables
    (c.in_ok-names.ensures ∙ ap₂ (λ (ms : List Bool) (es : List Declaration). label_names_by c.args.of_problem.now ms es) c.deref-2.ensures.value declared)
    (flags_mean (occurring l) c.len.result c.in_ok-flags.flags.items
    (c.in_ok-flags.ensures ∙ ap (λ xs. flagged_variables xs (replicate c.len.result false)) c.deref.ensures.value ∙ ap (λ xs. flagged_variables xs (replicate c.len.result false)) c.in_ok-occurring.ensures))
    counted
