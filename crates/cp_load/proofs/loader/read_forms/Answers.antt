use Rattle.std.proofs.Common.{[]}
use Rattle.cp_roles.specs.Above.{protocols_view, turned}
use Rattle.cp_load.proofs.TopForms.{faults-taken, entries-taken, faults-done, entries-done}
use Rattle.cp_load.proofs.loader.read_forms.Goals as goal

pub loop-form-preserved : goal.loop-form-preserved
loop-form-preserved c =
    let fs = c.args.forms.now in
    let ps = protocols_view c.loop-form.protocols.items in
    let qs = protocols_view c.top_form.new.above.items in (
      faults-taken fs c.loop-form.form-index c.form-item.result c.loop-form-test.true c.form-item.is ps qs c.in_ok-unchecked.ensures.protocols
          c.loop-form.first c.top_form.new.first _ c.in_ok-unchecked.ensures.faults c.loop-form.invariant.0,
      entries-taken fs c.loop-form.form-index c.form-item.result c.loop-form-test.true c.form-item.is ps qs c.in_ok-unchecked.ensures.protocols
          c.loop-form.unchecked_entries.items c.push.new.self.items c.in_ok-unchecked.unchecked _ c.in_ok-unchecked.ensures.entry c.in_ok-push.ensures.items c.loop-form.invariant.1,
      c.in_ok-unchecked.ensures.names,
    )

pub returns-clause-faults : goal.returns-clause-faults
returns-clause-faults c = faults-done c.args.forms.now c.loop-form.form-index c.loop-form-test.false (turned (protocols_view c.loop-form.protocols.items) []) c.loop-form.first _ c.loop-form.invariant.0

pub returns-clause-entries : goal.returns-clause-entries
returns-clause-entries c = entries-done c.args.forms.now c.loop-form.form-index c.loop-form-test.false (turned (protocols_view c.loop-form.protocols.items) []) c.loop-form.unchecked_entries.items _ c.loop-form.invariant.1
