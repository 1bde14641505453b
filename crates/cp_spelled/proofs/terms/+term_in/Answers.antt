use Rattle.std.proofs.Common.{refl, sym, ap, ◌∙◌, arith}
use Rattle.std.proofs.lemmas.Result.{IfOk-weaker}
use Rattle.cp_sexpr.specs.View.{view}
use Rattle.cp_scope.specs.Forms.{headed_view}
use Rattle.cp_scope.proofs.Sizes.{inside_smaller}
use Rattle.cp_spelled.specs.Own.{headed_term}
use Rattle.cp_spelled.specs.Views.{scope_view}
use Rattle.cp_spelled.proofs.Meanings.{term-headed, terms-done}
use Rattle.cp_spelled.proofs.terms.+term_in.Goals as goal

pub term_in-requires : goal.term_in-requires
term_in-requires t c =
    (omega (arith, inside_smaller (view c.args.form.now) (headed_view c.in-Some.list) c.in-Some.list.items.now c.loop-item.item-index c.item-item.result (sym c.in-Some.ensures) refl c.loop-item-test.true c.item-item.is, c.decreases), tt)

pub returns : goal.returns
returns t c =
    let s = scope_view c.args.scope in
    let h = headed_view c.in-Some.list in
    let terms = terms-done s c.in-Some.list.items.now c.loop-item.item-index c.loop-item-test.false c.loop-item.terms.items _ c.loop-item.invariant in
    IfOk-weaker c.headed_term.result _ _ (λ v g. g ∙ ap (headed_term s h.head h.items) terms ∙ term-headed s (view c.args.form.now) h c.in-Some.ensures) c.headed_term.ensures
