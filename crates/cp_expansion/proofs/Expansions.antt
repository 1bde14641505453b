-- What was widened is an expansion.
use Rattle.std.proofs.Common.{◌≡◌, List, Result, Ok, Err, IfOk, sym, subst}
use Rattle.cp_model.specs.Term.{Term}
use Rattle.cp_model.specs.declared.node.Node.{Node}
use Rattle.cp_model.specs.Strand.{Protocol}
use Rattle.cp_model.specs.Skeleton.{Skeleton}
use Rattle.cp_model.specs.Tree.{Pattern, Test}
use Rattle.cp_skel.specs.Tables.{DiffersInTable}
use Rattle.cp_cohort.specs.Cohort.{guarded_test_of}
use Rattle.cp_escape.specs.Escape.{IsEscape}
use Rattle.cp_expansion.specs.Expansion.{AreWidened, IsExpansionOf}
use Rattle.cp_expansion.specs.ChosenTest.{IsTestOf}
use Rattle.cp_expansion.specs.Views.{last_test, expansion_by}
use Rattle.cp_expansion.specs.declared.expansion.Expansion as program

pub expansion_made : {E : Type 0} (protocol : Protocol) (k : Skeleton) (n : Node) (c : Term) (escape : List Pattern) (r : Result (Test × program.Expansion) E) → IsTestOf k n c → IsEscape k n c escape
    → IfOk r (λ x. x.0 ≡ record { node = n; critical = c }) → IfOk r (λ x. AreWidened protocol (guarded_test_of k n c escape) (last_test x.0 x.1) x.1.children.items) → IfOk r (λ x. DiffersInTable k x.1.skeleton)
    → IfOk r (λ x. IsExpansionOf protocol k (expansion_by x.0 x.1))
expansion_made protocol k n c escape (Ok x) test is_escape same widened table = record {
  test = subst (λ (t : Test). IsTestOf k t.node t.critical) (sym same) test;
  escape = escape;
  is_escape = subst (λ (t : Test). IsEscape k t.node t.critical escape) (sym same) is_escape;
  widened = subst (λ (t : Test). AreWidened protocol (guarded_test_of k t.node t.critical escape) (last_test x.0 x.1) x.1.children.items) (sym same) widened;
  table = table;
}
expansion_made protocol k n c escape (Err x) test is_escape same widened table = tt
