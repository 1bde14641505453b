-- What is said of the strands, the order, the assumptions and the map of a skeleton is said of it with any table.
use Rattle.std.proofs.Common.{ℕ, List}
use Rattle.cp_model.specs.Term.{Term}
use Rattle.cp_model.specs.Strand.{Role}
use Rattle.cp_model.specs.declared.variable.Declaration.{Declaration}
use Rattle.cp_model.specs.Skeleton.{Skeleton}
use Rattle.cp_model.specs.Extensions.{AddsStrand, Extends}

pub extends_other : (s height : ℕ) (values : List Term) (k grown : Skeleton) (ds : List Declaration) → Extends s height values (record k { variables = ds }) grown → Extends s height values k grown
extends_other s height values k grown ds e = record {
  role = e.role;
  before = e.before;
  old_terms = e.old_terms;
  was_instance = e.was_instance;
  terms = e.terms;
  on_instance = e.on_instance;
  keeps = e.keeps;
  gives = e.gives;
  others = e.others;
  pairs = e.pairs;
  assumptions = e.assumptions;
  from_problem = e.from_problem;
}

pub strand_other : (role : Role) (height : ℕ) (values : List Term) (k grown : Skeleton) (ds : List Declaration) → AddsStrand role height values (record k { variables = ds }) grown → AddsStrand role height values k grown
strand_other role height values k grown ds a = record { terms = a.terms; gives = a.gives; strands = a.strands; pairs = a.pairs; assumptions = a.assumptions; from_problem = a.from_problem }
