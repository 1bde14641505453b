-- An example: a text is heard that two strands have sent before.
use Rattle.std.specs.Prelude.{ℕ, List, [], ◌∷◌}
use Rattle.cp_model.specs.Term.{text_variable, Term, atom_term}
use Rattle.cp_model.specs.declared.sort.Sort.TheVariants.{Text as text_sort}
use Rattle.cp_model.specs.Strand.{Role, Protocol}
use Rattle.cp_model.specs.declared.strand.Event.TheVariants.{Send as send}
use Rattle.cp_model.specs.Bundle.{node_at}
use Rattle.cp_model.specs.declared.node.OrderPair.{OrderPair}
use Rattle.cp_model.specs.Skeleton.{SkeletonStrand, instance, listener, Assumptions, Skeleton}

abbrev pub text : Term
text = atom_term (text_variable 0)

-- The role sends a text.
abbrev pub sender : Role
sender = record {
  name = 115 ∷ [];
  variables = record { identifier = 110 ∷ []; sort = text_sort } ∷ [];
  trace = send text ∷ [];
  non_originating = [];
  penetrator_non_originating = [];
  uniquely_originating = [];
}

abbrev pub protocol : Protocol
protocol = record { name = 101 ∷ []; roles = sender ∷ [] }

abbrev pub no_assumptions : Assumptions
no_assumptions = record { non_originating = []; penetrator_non_originating = []; uniquely_originating = [] }

abbrev pub sending : SkeletonStrand
sending = instance sender 1 []

-- What strand number s sends is before what the listener hears.
abbrev pub sent_by : ℕ → OrderPair
sent_by s = record { earlier = node_at s 0; later = node_at 0 0 }

-- The problem has a listener and a strand that sends the text, in no order; here they are with these other strands and pairs.
abbrev pub heard_with : List SkeletonStrand → List OrderPair → Skeleton
heard_with others pairs = record {
  variables = sender.variables;
  strands = listener text ∷ sending ∷ others;
  pairs = pairs;
  assumptions = no_assumptions;
  from_problem = record { strands = 0 ∷ 1 ∷ []; values = text ∷ []; assumptions = no_assumptions; pairs = [] };
}

-- Another strand sends the text too, and both do so before it is heard.
abbrev pub sent_twice : Skeleton
sent_twice = heard_with (sending ∷ []) (sent_by 1 ∷ sent_by 2 ∷ [])

-- The strand of the problem alone sends the text, before it is heard.
abbrev pub sent_once : Skeleton
sent_once = heard_with [] (sent_by 1 ∷ [])

-- The problem itself.
abbrev pub heard_and_sent : Skeleton
heard_and_sent = heard_with [] []
