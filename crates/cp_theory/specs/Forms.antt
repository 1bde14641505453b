-- Lists of skeletons that keep the standings of another, each with the substitution by which it comes from that one.
use Rattle.std.specs.Prelude.{◌≡◌, List, map}
use Rattle.cp_lists.specs.Lists.{IsIn}
use Rattle.cp_model.specs.Term.{Term, value_of, after, Substitution, apply_to}
use Rattle.cp_model.specs.Strand.{Protocol}
use Rattle.cp_model.specs.Bundle.{Bundle, IsBundle}
use Rattle.cp_model.specs.Skeleton.{Skeleton}
use Rattle.cp_model.specs.Standing.{Standing, StandsIn, StandsApart}

-- A skeleton, and a substitution by which it comes from another.
pub record Form : Type 0 where
  pub substitution : Substitution
  pub skeleton : Skeleton

-- One of the forms stands apart in the bundle by the very standing h, which gives each term the value that it gives the term
-- under the form's substitution; and the form's map from the problem is k's, its terms under the substitution.
pub record IsAmongForms (forms : List Form) (k : Skeleton) (b : Bundle) (h : Standing) : Type 0 where
  pub form : Form
  pub listed : IsIn form forms
  pub stands : StandsIn form.skeleton b h
  pub apart : StandsApart form.skeleton h
  pub fits : (t : Term) → value_of (after h.values form.substitution) t ≡ value_of h.values t
  pub problem_strands : form.skeleton.from_problem.strands ≡ k.from_problem.strands
  pub problem_values : form.skeleton.from_problem.values ≡ map (apply_to form.substitution) k.from_problem.values

-- Wherever k stands apart in a bundle over the protocol, one of the forms does by the same standing. So the forms lose no
-- standing of k, and it is said by which substitution each comes.
abbrev pub KeepStandings : Protocol → Skeleton → List Form → Type 0
KeepStandings protocol k forms = (b : Bundle) (h : Standing) → IsBundle protocol b → StandsIn k b h → StandsApart k h → IsAmongForms forms k b h

-- k reduces to skeletons of the list: forms that keep its standings are all among them.
pub record ReducesTo (protocol : Protocol) (ks : List Skeleton) (k : Skeleton) : Type 0 where
  pub forms : List Form
  pub keep : KeepStandings protocol k forms
  pub listed : (form : Form) → IsIn form forms → IsIn form.skeleton ks
