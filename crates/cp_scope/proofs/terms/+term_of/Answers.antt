use Rattle.std.proofs.Common.{map, refl, sym, ap, ◌∙◌, arith}
use Rattle.std.proofs.lemmas.Result.{IfOk-weaker}
use Rattle.cp_sexpr.specs.View.{view}
use Rattle.cp_language.specs.Terms.{applied}
use Rattle.cp_scope.specs.Forms.{headed_view}
use Rattle.cp_scope.proofs.Sizes.{inside_smaller}
use Rattle.cp_scope.proofs.Meanings.{term-applied, terms-done}
use Rattle.cp_scope.proofs.terms.+term_of.Goals as goal

pub term_of-requires : goal.term_of-requires
term_of-requires t c =
    (omega (arith, inside_smaller (view c.args.form.now) (headed_view c.in-Some.list) c.in-Some.list.items.now c.loop-item.item-index c.item-item.result (sym c.in-Some.ensures) refl c.loop-item-test.true c.item-item.is, c.decreases), tt)

pub returns : goal.returns
returns t c =
    let ds = c.args.variables.now in
    let items = c.in-Some.list.items.now in
    let terms = terms-done ds items c.loop-item.item-index c.loop-item-test.false c.loop-item.terms.items _ c.loop-item.invariant in
    IfOk-weaker c.applied.result _ _
    (λ v h. h ∙ ap (λ head. applied head (map view items) c.loop-item.terms.items) c.term_head.ensures
    ∙ ap (applied _ (map view items)) terms ∙ term-applied ds (view c.args.form.now) (headed_view c.in-Some.list) c.in-Some.ensures)
    c.applied.ensures
