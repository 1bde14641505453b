-- An example: a text that originates uniquely at a speaker, and a repeater who hears a text and says the same one. The
-- skeleton doesn't know that what was heard is what is said.
use Rattle.std.specs.Prelude.{[], ◌∷◌, false}
use Rattle.cp_model.specs.Message.{skey, akey}
use Rattle.cp_model.specs.Term.{text_variable, atom_term, Assignment, Substitution}
use Rattle.cp_model.specs.declared.sort.Sort.TheVariants.{Text as text_sort}
use Rattle.cp_model.specs.Identity.{unchanged}
use Rattle.cp_model.specs.Strand.{Role, Protocol, regular}
use Rattle.cp_model.specs.declared.strand.Event.TheVariants.{Send as send, Receive as recv}
use Rattle.cp_model.specs.declared.variable.Declaration.{Declaration}
use Rattle.cp_model.specs.Bundle.{node_at, Bundle}
use Rattle.cp_model.specs.declared.node.Node.{Node}
use Rattle.cp_model.specs.Skeleton.{instance, UniqueAt, Assumptions, Skeleton}
use Rattle.cp_model.specs.declared.node.OrderPair.{OrderPair}
use Rattle.cp_model.specs.Standing.{Standing}
use Rattle.cp_model.specs.Problem.{variable_terms}

abbrev pub said : Declaration
said = record { identifier = 110 ∷ []; sort = text_sort }

abbrev pub heard_declaration : Declaration
heard_declaration = record { identifier = 109 ∷ []; sort = text_sort }

-- The speaker sends a text, which originates uniquely.
abbrev pub speaker : Role
speaker = record {
  name = 115 ∷ [];
  variables = said ∷ [];
  trace = send (atom_term (text_variable 0)) ∷ [];
  non_originating = [];
  penetrator_non_originating = [];
  uniquely_originating = text_variable 0 ∷ [];
}

-- The repeater receives a text, and sends one.
abbrev pub repeater : Role
repeater = record {
  name = 114 ∷ [];
  variables = said ∷ heard_declaration ∷ [];
  trace = recv (atom_term (text_variable 1)) ∷ send (atom_term (text_variable 0)) ∷ [];
  non_originating = [];
  penetrator_non_originating = [];
  uniquely_originating = [];
}

abbrev pub protocol : Protocol
protocol = record { name = 101 ∷ []; roles = speaker ∷ repeater ∷ [] }

abbrev pub unique_text : UniqueAt
unique_text = record { value = text_variable 0; origin = node_at 0 0 }

abbrev pub assumptions : Assumptions
assumptions = record { non_originating = []; penetrator_non_originating = []; uniquely_originating = unique_text ∷ [] }

-- A speaker, and a repeater who sends the same text.
abbrev pub two_say_it : Skeleton
two_say_it = record {
  variables = repeater.variables;
  strands = instance speaker 1 [] ∷ instance repeater 2 [] ∷ [];
  pairs = [];
  assumptions = assumptions;
  from_problem = record { strands = 0 ∷ 1 ∷ []; values = variable_terms 0 (said ∷ heard_declaration ∷ []); assumptions = assumptions; pairs = [] };
}

-- The node at which the repeater sends it.
abbrev pub repeated : Node
repeated = node_at 1 1

-- Every variable has the atom of its sort with number 0.
abbrev pub zeros : Assignment
zeros = record { texts = λ n. 0; datums = λ n. 0; names = λ n. 0; skeys = λ n. skey 0; akeys = λ n. (false, akey 0) }

-- The speaker sends text 0; the repeater receives it from him, and sends it.
abbrev pub heard_and_said : Bundle
heard_and_said = record {
  strands = regular speaker 1 zeros ∷ regular repeater 2 zeros ∷ [];
  sender = λ n. node_at 0 0;
  order = node_at 0 0 ∷ node_at 1 0 ∷ node_at 1 1 ∷ [];
}

abbrev pub standing : Standing
standing = record { nodes = λ s. node_at s 0; values = zeros }

-- What was heard is what is said.
abbrev pub merging : Substitution
merging = record unchanged { texts = λ n. 0 }

-- From the speaker to the repeater's reception.
abbrev pub from_speaker : OrderPair
from_speaker = record { earlier = node_at 0 0; later = node_at 1 0 }
