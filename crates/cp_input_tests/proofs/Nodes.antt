-- A node at which an event was found is one of the skeleton's.
use Rattle.std.proofs.Common.{◌≡◌, Some, sym, ◌∙◌}
use Rattle.std.specs.Prelude.{Option}
use Rattle.cp_model.specs.Term.{Term}
use Rattle.cp_model.specs.declared.node.Node.{Node}
use Rattle.cp_model.specs.declared.strand.Event.{Event}
use Rattle.cp_model.specs.Skeleton.{Skeleton, term_event_at, IsNodeOf}

pub there_where_some : (k : Skeleton) (n : Node) (found : Option (Event Term)) (e : Event Term) → found ≡ Some e → found ≡ term_event_at k.strands n → IsNodeOf k.strands n
there_where_some k n found e is event = (e, sym event ∙ is)
