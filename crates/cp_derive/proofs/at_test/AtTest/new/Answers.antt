use Rattle.std.proofs.Common.{sym, subst}
use Rattle.cp_model.specs.declared.strand.Event.TheVariants.{Receive as recv}
use Rattle.cp_theory.specs.Critical.{IsTest}
use Rattle.cp_model.specs.Term.{Term}
use Rattle.cp_derive.specs.AtNode.{SkeletonNode}
use Rattle.cp_derive.proofs.at_test.AtTest.new.Goals as goal

pub new-requires : goal.new-requires
new-requires c = record { there = (recv c.requires.test.message, c.requires.test.reception) }

pub invariant_of-result : goal.invariant_of-result
invariant_of-result c = subst (λ (n : SkeletonNode). IsTest n.skeleton n.node c.in_ok-critical.critical) (sym c.in_ok-at.ensures)
    (subst (λ (t : Term). IsTest c.args.k.now c.args.node t) (sym c.in_ok-critical.ensures) c.requires.test)
