use Rattle.std.proofs.Common.{map, refl, sym, ap, ◌∙◌}
use Rattle.std.proofs.lemmas.List.{map-append}
use Rattle.cp_sexpr.specs.View.{view}
use Rattle.cp_report.specs.ReadBack.{Section, sections_of}
use Rattle.cp_readback.specs.Sections.{section_view}
use Rattle.cp_readback.proofs.Sectioned.{section-passed, section-taken, sections-done}
use Rattle.cp_readback.proofs.sections.sections_of.Goals as goal

pub loop-place-preserved-then-is_of_tree : goal.loop-place-preserved-then-is_of_tree
loop-place-preserved-then-is_of_tree c =
    section-passed c.args.forms.now c.loop-place.place c.index-forms-place.result c.loop-place-test.true c.index-forms-place.is (map section_view c.loop-place.sections.items) _
    (sym c.if-is_of_tree.true ∙ c.is_of_tree.ensures) c.loop-place.invariant

pub loop-place-preserved : goal.loop-place-preserved
loop-place-preserved c =
    let s : Section = record { form = view c.index-forms-place.result; behind = map view c.tree_in_front-behind.result.now } in
    section-taken c.args.forms.now c.loop-place.place c.index-forms-place.result c.loop-place-test.true c.index-forms-place.is (map section_view c.loop-place.sections.items) _
    (sym c.if-is_of_tree.false ∙ c.is_of_tree.ensures) (map section_view c.push.new.self.items) s
    (ap (map section_view) c.in_ok-push.ensures.items ∙ map-append section_view c.loop-place.sections.items _) refl
    (c.tree_in_front-behind.ensures ∙ ap (λ gs. (sections_of (map view gs)).front) c.split_at.ensures.back) c.loop-place.invariant

pub returns : goal.returns
returns c =
    let same = sections-done c.args.forms.now c.loop-place.place c.loop-place-test.false (map section_view c.loop-place.sections.items) _ c.loop-place.invariant in
    λ i. record { front = c.tree_in_front-front.ensures i; sections = same i }
