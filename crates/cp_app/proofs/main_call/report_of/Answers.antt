use Rattle.std.proofs.Common.{List, map, ap, ◌++◌, ◌∙◌, subst}
use Rattle.cp_sexpr.specs.View.{views}
use Rattle.cp_load.specs.Inputs.{entry_view, input_entries}
use Rattle.cp_load.specs.declared.input.Entry.{Entry}
use Rattle.cp_app.specs.Analysis.{IsAnalysisOf}
use Rattle.cp_app.specs.Headline.{HaveTrees}
use Rattle.cp_app.specs.Reported.{text_by}
use Rattle.cp_app.proofs.Trees.{analysable_entries}
use Rattle.cp_app.proofs.Endings.{whole_report, load_cause}
use Rattle.cp_app.proofs.main_call.report_of.Goals as goal

pub returns-in_err-loaded-clause-cause : goal.returns-in_err-loaded-clause-cause
returns-in_err-loaded-clause-cause c =
    load_cause c.args.command c.args.input.now (views c.in_ok-forms.forms.items) c.in_err-loaded.field-0.0 c.from_residual-in_err-loaded.result c.requires.reads c.from_residual-in_err-loaded.ensures.1 c.in_ok-forms.ensures.forms
    (rw c.deref.ensures.value at c.in_err-loaded.ensures.refused)

pub trees_of-requires : goal.trees_of-requires
trees_of-requires c = record { analysable = analysable_entries (views c.deref.result.now) c.in_ok-loaded.loaded c.deref-2.result.now c.deref-2.ensures.value c.in_ok-loaded.ensures.input }

pub returns-clause-report : goal.returns-clause-report
returns-clause-report c =
    let input = c.in_ok-loaded.loaded in
    let entries = input_entries input in
    whole_report c.args.command c.args.input.now c.print_by.new.text.items (views c.in_ok-forms.forms.items) entries c.in_ok-trees.trees.items c.are_complete-complete.result
    c.requires.reads c.requires.short c.in_ok-forms.ensures.forms (rw c.deref.ensures.value at c.in_ok-loaded.ensures.input)
    (subst (λ (es : List Entry). HaveTrees (IsAnalysisOf c.args.command.limits) (map entry_view es) c.in_ok-trees.trees.items) c.deref-2.ensures.value c.in_ok-trees.ensures)
    (rw c.deref-3.ensures.value at c.are_complete-complete.ensures)
    (c.in_ok-print_by.ensures ∙ ap (λ xs. xs ++ text_by c.args.command.name entries c.deref-4.result.now) c.new-text.ensures.items ∙ ap (λ ts. text_by c.args.command.name entries ts) c.deref-4.ensures.value)
