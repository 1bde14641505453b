use Rattle.std.proofs.Common.{map, sym, ap, ◌∙◌, arith}
use Rattle.cp_sexpr.specs.View.{view}
use Rattle.cp_language.specs.Words.{term_head}
use Rattle.cp_language.specs.Roles.{each_faults}
use Rattle.cp_language.specs.Terms.{term_faults}
use Rattle.cp_scope.specs.FirstFault.{first_onto}
use Rattle.cp_scope.specs.Forms.{headed_view}
use Rattle.cp_scope.specs.OwnFaults.{own_faults}
use Rattle.cp_scope.proofs.Sizes.{headed_smaller, item_smaller, forms_size}
use Rattle.cp_scope.proofs.Items.{each-taken, each-done}
use Rattle.cp_scope.proofs.Judged.{term-judged, judged-smaller}
use Rattle.cp_scope.proofs.faults.+term_faults.Goals as goal

pub term_faults-requires : goal.term_faults-requires
term_faults-requires t c =
    let list = headed_smaller (view c.args.form.now) (headed_view c.in-Some.list) (sym c.in-Some.ensures) in
    let part = judged-smaller (term_head c.in-Some.list.head.now) (map view c.in-Some.list.items.now) in
    let same = ap forms_size c.own_faults-item-items.ensures.judged in
    let item = item_smaller c.own_faults-item-items.result.now c.loop-item.item-index c.item-item.result c.loop-item-test.true c.item-item.is in
    (omega (arith, list, part, same, item, c.decreases), tt)

pub loop-item-preserved : goal.loop-item-preserved
loop-item-preserved t c =
    each-taken (term_faults c.args.variables.now) c.own_faults-item-items.result.now c.loop-item.item-index c.item-item.result c.loop-item-test.true c.item-item.is
    c.loop-item.first c.term_faults.new.first _ c.term_faults.ensures c.loop-item.invariant

pub returns : goal.returns
returns t c =
    let ds = c.args.variables.now in
    let h = headed_view c.in-Some.list in
    each-done (term_faults ds) c.own_faults-item-items.result.now c.loop-item.item-index c.loop-item-test.false c.loop-item.first _ c.loop-item.invariant
    ∙ ap (λ o. first_onto o (each_faults (term_faults ds) (map view c.own_faults-item-items.result.now))) c.own_faults-item-items.ensures.faults
    ∙ ap (λ fs. first_onto (first_onto c.args.first.now (own_faults ds h.at (term_head h.head) h.items)) (each_faults (term_faults ds) fs)) c.own_faults-item-items.ensures.judged
    ∙ sym (term-judged ds (view c.args.form.now) h c.in-Some.ensures c.args.first.now)
