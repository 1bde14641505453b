use Rattle.std.proofs.Common.{List, [], ◌∷◌, ◌++◌, sym, ap, ◌∙◌, subst, append_assoc}
use Rattle.std.proofs.lemmas.List.{get_or_default}
use Rattle.cp_base.specs.Growing.{Grows, seen}
use Rattle.cp_base.proofs.Grown.{grows_by_none, grows_then, grows_seen}
use Rattle.cp_sexpr.specs.Syntax.{Form}
use Rattle.cp_print.specs.Order.{pair_form}
use Rattle.cp_print.proofs.CoveredForms.{covered_here, covered_behind, covered_none}
use Rattle.cp_print.proofs.order.add_covered.Goals as goal

pub returns-then-is_empty : goal.returns-then-is_empty
returns-then-is_empty c =
    let old = seen pair_form c.args.pairs.now in
    subst (λ (fs : List Form). Grows old old fs) (sym (covered_none c.args.ends.now c.args.x c.args.nodes.now _ c.is_empty.ensures c.if-is_empty.true)) (grows_by_none old)

pub loop-y-preserved-then-not-has_node : goal.loop-y-preserved-then-not-has_node
loop-y-preserved-then-not-has_node c =
    let l = c.loop-y in
    let next = covered_behind c.args.nodes.now l.y-index _ c.loop-y-test.true (get_or_default c.args.nodes.now l.y-index _ _ c.loop-y-test.true) c.args.ends.now c.args.x c.has_node.result c.has_node.ensures c.if-not-has_node.true in
    (l.invariant.0, l.invariant.1, l.invariant.2 ∙ ap (λ t. l.invariant.0 ++ t) next)

pub loop-y-preserved : goal.loop-y-preserved
loop-y-preserved c =
    let l = c.loop-y in
    let done = l.invariant.0 in
    let next = covered_here c.args.nodes.now l.y-index _ c.loop-y-test.true (get_or_default c.args.nodes.now l.y-index _ _ c.loop-y-test.true) c.args.ends.now c.args.x c.has_node.result c.has_node.ensures c.if-not-has_node.false in
    let pair = grows_seen pair_form l.pairs c.push.new.self _ c.push.ensures in
    (done ++ _ ∷ [], grows_then _ _ _ done _ l.invariant.1 pair, l.invariant.2 ∙ ap (λ t. done ++ t) next ∙ sym (append_assoc done (_ ∷ []) _))
