use Rattle.std.proofs.Common.{Bor, List, [], map, ap, ◌∙◌}
use Rattle.std.specs.Prelude.{option_map}
use Rattle.cp_language.specs.Input.{stated}
use Rattle.cp_roles.specs.Above.{protocols_view, turned}
use Rattle.cp_load.specs.UncheckedProblems.{unchecked_view}
use Rattle.cp_load.specs.declared.unchecked_problems.UncheckedProblem.{UncheckedProblem}
use Rattle.cp_report.specs.ReadBack.{next_place}
use Rattle.cp_readback.specs.Sections.{section_view}
use Rattle.cp_readback.specs.declared.sections.Section.{Section}
use Rattle.cp_readback.proofs.InSections.{faults-taken, misfits-taken, entries-taken, faults-done, misfits-done, entries-done}
use Rattle.cp_readback.proofs.report.stated_in.Goals as goal

pub loop-place-preserved : goal.loop-place-preserved
loop-place-preserved c =
    let ss = c.args.sections.now in
    let k = c.loop-place.place in
    let s = c.index-sections-place.result in
    let ps = protocols_view c.loop-place.protocols.items in
    let qs = protocols_view c.top_form.new.above.items in
    let u = c.in_ok-unchecked.unchecked in
    let entry = c.in_ok-unchecked.ensures.entry in
    let asked = c.problem.ensures ∙ ap stated entry in
    let follows = c.next_place-next.ensures ∙ ap (λ (ts : List Section). next_place c.args.start (map section_view ts)) c.split_at.ensures.back in (
      faults-taken ss k s c.loop-place-test.true c.index-sections-place.is ps qs c.in_ok-unchecked.ensures.protocols c.loop-place.faults c.top_form.new.first _ c.in_ok-unchecked.ensures.faults c.loop-place.invariant.0,
      misfits-taken ss k s c.loop-place-test.true c.index-sections-place.is ps qs c.in_ok-unchecked.ensures.protocols c.args.start (option_map (λ (d : Bor UncheckedProblem). unchecked_view d.now) c.problem.result) c.next_place-next.result
          c.loop-place.first c.behind_misfits.new.first _ asked follows c.in_ok-behind_misfits.ensures c.loop-place.invariant.1,
      entries-taken ss k s c.loop-place-test.true c.index-sections-place.is ps qs c.in_ok-unchecked.ensures.protocols c.loop-place.unchecked_entries.items c.push.new.self.items u _ entry c.in_ok-push.ensures.items c.loop-place.invariant.2,
      c.in_ok-unchecked.ensures.names,
    )

pub returns-clause-faults : goal.returns-clause-faults
returns-clause-faults c = faults-done c.args.sections.now c.loop-place.place c.loop-place-test.false (turned (protocols_view c.loop-place.protocols.items) []) c.loop-place.faults _ c.loop-place.invariant.0

pub returns-clause-misfits : goal.returns-clause-misfits
returns-clause-misfits c = misfits-done c.args.sections.now c.loop-place.place c.loop-place-test.false c.args.start (turned (protocols_view c.loop-place.protocols.items) []) c.loop-place.first _ c.loop-place.invariant.1

pub returns-clause-entries : goal.returns-clause-entries
returns-clause-entries c = entries-done c.args.sections.now c.loop-place.place c.loop-place-test.false (turned (protocols_view c.loop-place.protocols.items) []) c.loop-place.unchecked_entries.items _ c.loop-place.invariant.2

pub top_form-requires : goal.top_form-requires
top_form-requires c = c.loop-place.invariant.3
