use Rattle.std.proofs.Common.{◌≡◌, Some, sym, ap, ◌∙◌}
use Rattle.cp_load.proofs.SoundUnchecked.{unchecked_sound}
use Rattle.cp_load.proofs.TopForms.{forms-all, protocols-all, no-faults, input-loaded, input-refused}
use Rattle.cp_load.proofs.loader.load.Goals as goal

pub returns-in-Some-clause-refused : goal.returns-in-Some-clause-refused
returns-in-Some-clause-refused c = λ r e.
    let same : c.in-Some.fault ≡ r = cc in
    input-refused c.args.forms.now c.new-first.result c.read_forms.new.first c.new-first.ensures c.in_ok-unchecked_entries.ensures.faults r (sym c.found.ensures ∙ c.in-Some.is ∙ ap Some same)

pub all_finished-requires : goal.all_finished-requires
all_finished-requires c =
    unchecked_sound c.args.forms.now c.in_ok-unchecked_entries.unchecked_entries.items
    (no-faults c.args.forms.now c.new-first.result c.read_forms.new.first c.new-first.ensures c.in_ok-unchecked_entries.ensures.faults (sym c.found.ensures ∙ c.in-None.is)) c.in_ok-unchecked_entries.ensures.entries

pub returns-clause-input : goal.returns-clause-input
returns-clause-input c =
    input-loaded c.args.forms.now c.new-first.result c.read_forms.new.first c.new-first.ensures c.in_ok-unchecked_entries.ensures.faults (sym c.found.ensures ∙ c.in-None.is) _
    (c.in_ok-all_finished-in-None.ensures ∙ c.in_ok-unchecked_entries.ensures.entries)

pub returns-clause-forms : goal.returns-clause-forms
returns-clause-forms c = forms-all c.args.forms.now _ (c.in_ok-all_finished-in-None.ensures ∙ c.in_ok-unchecked_entries.ensures.entries)

pub returns-clause-protocols : goal.returns-clause-protocols
returns-clause-protocols c = protocols-all c.args.forms.now _ (c.in_ok-all_finished-in-None.ensures ∙ c.in_ok-unchecked_entries.ensures.entries)
