-- What is given: the terms that were sent, and those that the penetrator cannot make.
use Rattle.std.specs.Prelude.{◌↔◌, List, refl}
use Rattle.std.specs.Coded.{Coded, code_by, coded_list, coded×}
use Rattle.cp_lists.specs.Lists.{IsIn}
use Rattle.cp_model.specs.Term.{AtomTerm, Term, atom_term}
use Rattle.cp_model.specs.declared.node.Node.{Node}
use Rattle.cp_model.specs.Skeleton.{Skeleton}
use Rattle.cp_model.specs.Derivable.{IsSecret}
use Rattle.cp_term.specs.Code.{coded_term}
use Rattle.cp_derive.specs.From.{DerivableFrom, IsSentBefore}

-- The terms that were sent, and the secret ones. Only secrets that are atoms count.
pub record Given : Type 0 where
  pub sent : List Term
  pub secrets : List Term

abbrev pub coded_given : Coded Given
coded_given =
    code_by (List Term × List Term) (coded× (coded_list coded_term) (coded_list coded_term)) (λ g. (g.sent, g.secrets)) (λ p. record { sent = p.0; secrets = p.1 }) (λ _. refl)

-- The term can be derived from what was sent, where the penetrator cannot make the secret atoms.
abbrev pub IsDerivable : Given → Term → Type 0
IsDerivable g t = DerivableFrom (λ v. IsIn (atom_term v) g.secrets) (λ s. IsIn s g.sent) t

-- What is given at a node of a skeleton: what role strands send strictly before it, and the assumptions' values.
pub record IsGivenAt (k : Skeleton) (n : Node) (g : Given) : Type 0 where
  pub sent : (t : Term) → IsIn t g.sent ↔ IsSentBefore k n t
  pub secrets : (v : AtomTerm) → IsIn (atom_term v) g.secrets ↔ IsSecret k v
