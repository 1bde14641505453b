-- What guards a test, part by part.
use Rattle.std.proofs.Common.{◌≡◌, List, sym, subst}
use Rattle.cp_lists.specs.Lists.{IsIn}
use Rattle.cp_model.specs.Term.{Term, variables_of}
use Rattle.cp_model.specs.declared.variable.Variable.{Variable}
use Rattle.cp_model.specs.Tree.{Pattern}
use Rattle.cp_model.specs.declared.node.Node.{Node}
use Rattle.cp_model.specs.Skeleton.{Skeleton}
use Rattle.cp_theory.specs.Critical.{used_variables}
use Rattle.cp_theory.specs.Guards.{Guards}
use Rattle.cp_pattern.specs.Sent.{SendInsideAlone}
use Rattle.cp_pattern.specs.Within.{MayGuard}

module _ (ps : List Pattern) (k : Skeleton) (n : Node) (c : Term) (used : List Variable) (all : used ≡ used_variables k) where
  pub all_of_guards : Guards ps k n c → (p : Pattern) → IsIn p ps → MayGuard used p
  all_of_guards g p i = record { pattern = g.patterns p i; key = g.keys p i; free_used = λ x f. subst (IsIn x) (sym all) (g.used_by_patterns p x i f) }

  pub guards_by : ((p : Pattern) → IsIn p ps → MayGuard used p) → ((x : Variable) → IsIn x (variables_of c) → IsIn x (used_variables k)) → SendInsideAlone ps k n c → Guards ps k n c
  guards_by each critical inside = record {
    patterns = λ p i. (each p i).pattern;
    keys = λ p i. (each p i).key;
    used_by_patterns = λ p x i f. subst (IsIn x) all ((each p i).free_used x f);
    used_by_critical = critical;
    inside = inside;
  }
