use Rattle.std.proofs.Common.{sym, ap, ◌∙◌}
use Rattle.cp_model.specs.Term.{atom_term}
use Rattle.cp_model.specs.declared.node.Node.{Node}
use Rattle.cp_hom.proofs.PairedItems.{pair_of_uniques, no_pair_of_uniques}
use Rattle.cp_hom.proofs.pairings.unique_pairing.Goals as goal

pub returns-then-first-second : goal.returns-then-first-second
returns-then-first-second c =
    no_pair_of_uniques c.args.uniques.now c.args.others.now c.args.index c.args.image c.in-Some.from.now c.in-Some-item_at.to.now c.in-Some.ensures c.in-Some-item_at.ensures
    (λ same. c.if-first-second.true (ap (λ (n : Node). n.index) c.origin-first.ensures ∙ same ∙ sym (ap (λ (n : Node). n.index) c.origin-second.ensures)))

pub returns : goal.returns
returns c =
    pair_of_uniques c.args.uniques.now c.args.others.now c.args.index c.args.image c.in-Some.from.now c.in-Some-item_at.to.now c.in-Some.ensures c.in-Some-item_at.ensures
    c.origin-first.result.strand c.origin-second.result.strand c.as_term.result.now c.as_term-2.result.now
    (sym (ap (λ (n : Node). n.index) c.origin-first.ensures) ∙ c.if-first-second.false ∙ ap (λ (n : Node). n.index) c.origin-second.ensures)
    (ap (λ (n : Node). n.strand) c.origin-first.ensures) (ap (λ (n : Node). n.strand) c.origin-second.ensures)
    (c.as_term.ensures ∙ ap atom_term c.value.ensures) (c.as_term-2.ensures ∙ ap atom_term c.value-2.ensures)
