use Rattle.std.proofs.Common.{List, map, subst}
use Rattle.std.proofs.lemmas.Result.{IfOk-weaker}
use Rattle.cp_sexpr.specs.View.{views}
use Rattle.cp_load.specs.Inputs.{entry_view, input_entries}
use Rattle.cp_load.specs.declared.input.Entry.{Entry}
use Rattle.cp_app.specs.Analysis.{IsAnalysisOf}
use Rattle.cp_app.specs.Headline.{HaveTrees}
use Rattle.cp_app.proofs.BenchTotals.{memory_at_reading, memory_at_loading, forms_read, if_kept, trees_loaded}
use Rattle.cp_app.proofs.Trees.{analysable_entries}
use Rattle.cp_app.proofs.bench.generated_trees.Goals as goal

pub read-requires : goal.read-requires
read-requires c = rw c.deref.ensures.value (rw c.in_ok-text.ensures (c.generated_text_is_accepted.ensures.short c.args.n c.requires.few))

pub returns-in_err-forms-clause-memory : goal.returns-in_err-forms-clause-memory
returns-in_err-forms-clause-memory c =
    memory_at_reading c.from_residual-in_err-forms.result c.in_ok-text.text.items c.args.n c.in_err-forms.field-0.0 c.in_ok-text.ensures (c.generated_text_is_accepted.ensures.read c.args.n)
    (rw c.deref.ensures.value at c.in_err-forms.ensures.refused) c.from_residual-in_err-forms.ensures.1

pub returns-in_err-loaded-clause-memory : goal.returns-in_err-loaded-clause-memory
returns-in_err-loaded-clause-memory c =
    let forms = forms_read c.in_ok-text.text.items c.args.n (views c.in_ok-forms.forms.items) c.in_ok-text.ensures (c.generated_text_is_accepted.ensures.read c.args.n) (rw c.deref.ensures.value at c.in_ok-forms.ensures.forms) in
    memory_at_loading c.from_residual-in_err-loaded.result (views c.in_ok-forms.forms.items) c.args.n c.in_err-loaded.field-0.0 forms (c.generated_text_is_accepted.ensures.well_formed c.args.n)
    (rw c.deref-2.ensures.value at c.in_err-loaded.ensures.refused) c.from_residual-in_err-loaded.ensures.1

pub trees_of-requires : goal.trees_of-requires
trees_of-requires c = record { analysable = analysable_entries (views c.deref-2.result.now) c.in_ok-loaded.loaded c.deref-3.result.now c.deref-3.ensures.value c.in_ok-loaded.ensures.input }

pub returns-clause-trees : goal.returns-clause-trees
returns-clause-trees c =
    let forms = forms_read c.in_ok-text.text.items c.args.n (views c.in_ok-forms.forms.items) c.in_ok-text.ensures (c.generated_text_is_accepted.ensures.read c.args.n) (rw c.deref.ensures.value at c.in_ok-forms.ensures.forms) in
    let loaded = rw c.deref-2.ensures.value at c.in_ok-loaded.ensures.input in
    if_kept _ c.trees_of.result c.map_err.result _ c.map_err.ensures.cases
    (IfOk-weaker c.trees_of.result _ _
    (λ trees analysed. trees_loaded c.args.limits c.args.n (views c.in_ok-forms.forms.items) (input_entries c.in_ok-loaded.loaded) trees.items forms loaded
    (subst (λ (es : List Entry). HaveTrees (IsAnalysisOf c.args.limits) (map entry_view es) trees.items) c.deref-3.ensures.value analysed))
    c.trees_of.ensures)
