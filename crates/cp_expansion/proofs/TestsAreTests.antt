-- The test of a skeleton is one: a component of a message that cannot be derived.
use Rattle.cp_model.specs.Term.{Term}
use Rattle.cp_model.specs.declared.node.Node.{Node}
use Rattle.cp_model.specs.Skeleton.{Skeleton}
use Rattle.cp_theory.specs.Critical.{IsTest}
use Rattle.cp_derive.proofs.CriticalTests.{critical_is_test}
use Rattle.cp_expansion.specs.ChosenTest.{IsTestOf}

pub is_test : (k : Skeleton) (n : Node) (c : Term) → IsTestOf k n c → IsTest k n c
is_test k n c t = critical_is_test k n t.message t.path c t.reception t.critical
