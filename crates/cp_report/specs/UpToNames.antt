-- When two reports are the same but for the names of variables, places, and the pairs that generate an order.
use Rattle.std.specs.Prelude.{◌≡◌, ◌↔◌, ℕ, List, [], false, map, Option, Some, None}
use Rattle.cp_lists.specs.Lists.{IsIn}
use Rattle.cp_model.specs.Senders.{ArePaired}
use Rattle.cp_model.specs.Term.{skey_variable, akey_variable, variables_of, Substitution, apply_to, apply_to_atom, composed, AgreeOnTerms}
use Rattle.cp_model.specs.Bindings.{as_substitution}
use Rattle.cp_model.specs.declared.sort.Sort.{Sort}
use Rattle.cp_model.specs.declared.sort.Sort.TheVariants.{Text as text_sort, Datum as datum_sort, Name as name_sort, Skey as skey_sort, Akey as akey_sort}
use Rattle.cp_model.specs.declared.variable.Variable.{Variable}
use Rattle.cp_model.specs.Strand.{variables_of_prefix}
use Rattle.cp_model.specs.declared.node.Node.{Node}
use Rattle.cp_model.specs.Skeleton.{SkeletonStrand, instance, listener, UniqueAt, Assumptions, Skeleton, Before}
use Rattle.cp_model.specs.Stated.{AreImages}
use Rattle.cp_model.specs.Tree.{Pattern, Test, Label, Tree}
use Rattle.cp_sexpr.specs.Syntax.{Forms}
use Rattle.cp_sexpr.specs.ReadBack.{unplaced}
use Rattle.cp_language.specs.Input.{Entry, form_of, stated_protocol, stated}
use Rattle.cp_language.specs.Report.{occurring}
use Rattle.cp_report.specs.ReadBack.{misfits, Report, report_of}

-- ---- renamings

abbrev pub variable_numbered : Sort → ℕ → Variable
variable_numbered s n = record { sort = s; number = n }

-- A renaming gives each variable the number of one of its sort.
abbrev pub renamed : (Variable → ℕ) → Variable → Variable
renamed number x = variable_numbered x.sort (number x)

-- The renaming as a substitution.
abbrev pub renaming : (Variable → ℕ) → Substitution
renaming number = record {
  texts = λ n. number (variable_numbered text_sort n);
  datums = λ n. number (variable_numbered datum_sort n);
  names = λ n. number (variable_numbered name_sort n);
  skeys = λ n. skey_variable (number (variable_numbered skey_sort n));
  akeys = λ n. (false, akey_variable (number (variable_numbered akey_sort n)));
}

-- Different ones of these variables stay different.
abbrev pub IsOneToOne : (Variable → ℕ) → List Variable → Type 0
IsOneToOne number xs = (x y : Variable) → IsIn x xs → IsIn y xs → renamed number x ≡ renamed number y → x ≡ y

-- ---- skeletons

-- Instances of one role at one height, with the same terms for the variables of the prefix; or listeners to one term.
abbrev pub IsSameStrandUnder : Substitution → SkeletonStrand → SkeletonStrand → Type 0
IsSameStrandUnder f (instance role height terms) (instance role' height' terms') = (role ≡ role') × (height ≡ height') × AgreeOnTerms (variables_of_prefix role height) (composed (as_substitution terms) f) (as_substitution terms')
IsSameStrandUnder f (listener t) (listener t') = apply_to f t ≡ t'
IsSameStrandUnder f (instance role height terms) (listener t') = ⊥
IsSameStrandUnder f (listener t) (instance role' height' terms') = ⊥

abbrev pub unique_renamed : Substitution → UniqueAt → UniqueAt
unique_renamed f u = record { value = apply_to_atom f u.value; origin = u.origin }

-- The same values, in any order.
pub record AreSameAssumptions (f : Substitution) (a b : Assumptions) : Type 0 where
  pub non : AreImages (apply_to_atom f) a.non_originating b.non_originating
  pub penetrator_non : AreImages (apply_to_atom f) a.penetrator_non_originating b.penetrator_non_originating
  pub unique : AreImages (unique_renamed f) a.uniquely_originating b.uniquely_originating

-- The same strands in the same places, the same order, whatever pairs generate it, the same assumptions, and the same way
-- from the problem, with what the problem states itself.
pub record IsSameSkeleton (f : Substitution) (k m : Skeleton) : Type 0 where
  pub strands : ArePaired (IsSameStrandUnder f) k.strands m.strands
  pub order : (x y : Node) → Before k x y ↔ Before m x y
  pub assumptions : AreSameAssumptions f k.assumptions m.assumptions
  pub mapped_strands : k.from_problem.strands ≡ m.from_problem.strands
  pub mapped_values : map (apply_to f) k.from_problem.values ≡ m.from_problem.values
  pub own_assumptions : AreSameAssumptions f k.from_problem.assumptions m.from_problem.assumptions
  pub own_pairs : AreImages (λ p. p) k.from_problem.pairs m.from_problem.pairs

-- ---- labels

-- Patterns with the same term, the locals of one going to those of the other and no two variables to one; variables that
-- are no locals are renamed as the label's are.
pub record IsSamePattern (number : Variable → ℕ) (p q : Pattern) : Type 0 where
  pub with_locals : Variable → ℕ
  pub one_to_one : IsOneToOne with_locals (variables_of p.term)
  pub others : (x : Variable) → IsIn x (variables_of p.term) → (IsIn x p.locals → ⊥) → with_locals x ≡ number x
  pub term : apply_to (renaming with_locals) p.term ≡ q.term
  pub locals : AreImages (renamed with_locals) p.locals q.locals

abbrev pub IsSameTest : Substitution → Option Test → Option Test → Type 0
IsSameTest f None None = Unit {0}
IsSameTest f (Some t) (Some u) = (t.node ≡ u.node) × (apply_to f t.critical ≡ u.critical)
IsSameTest f None (Some u) = ⊥
IsSameTest f (Some t) None = ⊥

-- The labels are the same under a renaming of variables that takes no two that occur to one.
pub record IsSameLabel (l m : Label) : Type 0 where
  pub number : Variable → ℕ
  pub one_to_one : IsOneToOne number (occurring l)
  pub parent : l.parent ≡ m.parent
  pub operation : l.operation ≡ m.operation
  pub skeleton : IsSameSkeleton (renaming number) l.skeleton m.skeleton
  pub unrealised : l.unrealised ≡ m.unrealised
  pub test : IsSameTest (renaming number) l.test m.test
  pub escape : ArePaired (IsSamePattern number) l.escape m.escape
  pub children : l.children ≡ m.children
  pub mark : l.mark ≡ m.mark

-- ---- trees and reports

-- Trees with the same labels in the same places and the same outcome.
pub record IsSameTree (t u : Tree) : Type 0 where
  pub labels : ArePaired IsSameLabel t.labels u.labels
  pub outcome : t.outcome ≡ u.outcome

-- The same form but for places, which states the same: nothing, one protocol, or one problem.
pub record IsSameEntry (d e : Entry) : Type 0 where
  pub form : unplaced (form_of d) ≡ unplaced (form_of e)
  pub protocol : stated_protocol d ≡ stated_protocol e
  pub problem : stated d ≡ stated e

pub record IsSameReport (r s : Report) : Type 0 where
  pub entries : ArePaired IsSameEntry r.entries s.entries
  pub trees : ArePaired IsSameTree r.trees s.trees

-- The forms are a report, and the same as this one but for names, places and the pairs that generate an order.
pub record IsReport (fs : Forms) (report : Report) : Type 0 where
  pub fits : misfits fs ≡ []
  pub same : IsSameReport report (report_of fs)
