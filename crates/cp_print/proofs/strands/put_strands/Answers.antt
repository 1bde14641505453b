use Rattle.std.proofs.Common.{true, ◌+◌, ◌∷◌, map, drop, sym, ap, ◌∙◌}
use Rattle.std.proofs.lemmas.List.{drop_all, drop_more}
use Rattle.cp_language.specs.Report.{strand_form}
use Rattle.cp_print.specs.Named.{named_in}
use Rattle.cp_print.proofs.SpelledItems.{items_begin, items_go_on, items_end}
use Rattle.cp_print.proofs.strands.put_strands.Goals as goal

pub loop-strand-init : goal.loop-strand-init
loop-strand-init c = items_begin true c.args.out.now (map (strand_form (named_in c.args.naming.now)) c.args.strands.now)

pub loop-strand-preserved : goal.loop-strand-preserved
loop-strand-preserved c =
    let l = c.loop-strand in
    let form = strand_form (named_in c.args.naming.now) in
    let ss = c.args.strands.now in
    let s = c.strand-item.result in
    let next = ap (map form) (drop_more ss l.strand-index s c.loop-strand-test.true) ∙ ap (λ x. form x ∷ map form (drop (l.strand-index + 1) ss)) (sym c.strand-item.is) in
    items_go_on true (form s) _ _ _ l.invariant next c.put_strand.ensures

pub returns : goal.returns
returns c = items_end true _ _ c.loop-strand.invariant (ap (map (strand_form (named_in c.args.naming.now))) (drop_all c.loop-strand.strand-index c.args.strands.now c.loop-strand-test.false))
