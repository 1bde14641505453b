use Rattle.std.proofs.Common.{map, refl, sym, ap, ◌∙◌, arith}
use Rattle.cp_sexpr.specs.View.{view}
use Rattle.cp_report.specs.Misfits.{place_before, each_misfits}
use Rattle.cp_report.specs.Spelled.{term_misfits}
use Rattle.cp_scope.specs.Forms.{headed_view}
use Rattle.cp_scope.proofs.Sizes.{headed_smaller, item_smaller, forms_size}
use Rattle.cp_spelled.specs.FirstMisfit.{first_onto}
use Rattle.cp_spelled.specs.Own.{headed_misfits}
use Rattle.cp_spelled.specs.Views.{scope_view}
use Rattle.cp_scope.proofs.EachForm.{next_asked, all_asked}
use Rattle.cp_spelled.proofs.JudgedLists.{term-judged, headed-smaller}
use Rattle.cp_spelled.proofs.misfits.+term_misfits.Goals as goal

pub term_misfits-requires : goal.term_misfits-requires
term_misfits-requires t c =
    let list = headed_smaller (view c.args.form.now) (headed_view c.in-Some.list) (sym c.in-Some.ensures) in
    let part = headed-smaller (scope_view c.args.scope) c.in-Some.list.head.now (map view c.in-Some.list.items.now) in
    let same = ap forms_size c.headed_misfits-item-items.ensures.judged in
    let item = item_smaller c.headed_misfits-item-items.result.now c.loop-item.item-index c.item-item.result c.loop-item-test.true c.item-item.is in
    (omega (arith, list, part, same, item, c.decreases), tt)

pub loop-item-preserved : goal.loop-item-preserved
loop-item-preserved t c =
    next_asked place_before (each_misfits (term_misfits (scope_view c.args.scope))) (term_misfits (scope_view c.args.scope)) c.headed_misfits-item-items.result.now c.loop-item.item-index (λ f gs. refl) c.item-item.result c.loop-item-test.true c.item-item.is
    c.loop-item.first c.term_misfits.new.first _ c.term_misfits.ensures c.loop-item.invariant

pub returns : goal.returns
returns t c =
    let s = scope_view c.args.scope in
    let h = headed_view c.in-Some.list in
    all_asked place_before (each_misfits (term_misfits s)) (term_misfits s) c.headed_misfits-item-items.result.now c.loop-item.item-index refl c.loop-item-test.false c.loop-item.first _ c.loop-item.invariant
    ∙ ap (λ o. first_onto o (each_misfits (term_misfits s) (map view c.headed_misfits-item-items.result.now))) c.headed_misfits-item-items.ensures.misfits
    ∙ ap (λ fs. first_onto (first_onto c.args.first.now (headed_misfits s h.at h.head h.items)) (each_misfits (term_misfits s) fs)) c.headed_misfits-item-items.ensures.judged
    ∙ sym (term-judged s (view c.args.form.now) h c.in-Some.ensures c.args.first.now)
