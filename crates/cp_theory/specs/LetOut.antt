-- An example with a pattern: a text that originates uniquely is sent under a key, and heard with no key; one role opens such
-- encryptions.
use Rattle.std.specs.Prelude.{[], ◌∷◌, ◌==◌, if◌then◌else◌}
use Rattle.cp_model.specs.Term.{skey_variable, text_variable, key_term, Term, atom_term, Substitution}
use Rattle.cp_model.specs.Identity.{unchanged}
use Rattle.cp_model.specs.Strand.{Role, Protocol}
use Rattle.cp_model.specs.declared.strand.Event.TheVariants.{Send as send, Receive as recv}
use Rattle.cp_model.specs.Bundle.{node_at}
use Rattle.cp_model.specs.declared.node.Node.{Node}
use Rattle.cp_model.specs.declared.node.OrderPair.{OrderPair}
use Rattle.cp_model.specs.Skeleton.{instance, listener, UniqueAt, Assumptions, Skeleton}
use Rattle.cp_model.specs.Tree.{Pattern}
use Rattle.cp_theory.specs.Normal.{skeleton_under}
use Rattle.cp_theory.specs.Covering.{put_before}
use Rattle.cp_theory.specs.EncryptionExamples.{shared, locked, locker, new_terms}

abbrev pub secret : Term
secret = atom_term (text_variable 0)

-- The role has the variables of the one that sends a text under a key; it receives that, and sends the text with none.
abbrev pub opener : Role
opener = record locker { name = 111 ∷ []; trace = recv locked ∷ send secret ∷ [] }

abbrev pub protocol : Protocol
protocol = record { name = 101 ∷ []; roles = locker ∷ opener ∷ [] }

abbrev pub unique_text : UniqueAt
unique_text = record { value = text_variable 0; origin = node_at 0 0 }

abbrev pub assumptions : Assumptions
assumptions = record { non_originating = key_term shared ∷ []; penetrator_non_originating = []; uniquely_originating = unique_text ∷ [] }

abbrev pub first_sent : OrderPair
first_sent = record { earlier = node_at 0 0; later = node_at 1 0 }

-- A strand sends the text under the key, which does not originate; and then it is heard.
abbrev pub let_out : Skeleton
let_out = record {
  variables = locker.variables;
  strands = instance locker 1 [] ∷ listener secret ∷ [];
  pairs = first_sent ∷ [];
  assumptions = assumptions;
  from_problem = record { strands = 0 ∷ 1 ∷ []; values = secret ∷ atom_term (key_term shared) ∷ []; assumptions = assumptions; pairs = first_sent ∷ [] };
}

abbrev pub reception : Node
reception = node_at 1 0

-- The pattern is the encryption that was sent.
abbrev pub sent_encryption : Pattern
sent_encryption = record { term = locked; locals = [] }

abbrev pub with_opener : Skeleton
with_opener = record let_out { strands = instance locker 1 [] ∷ listener secret ∷ instance opener 2 new_terms ∷ [] }

-- The text that it opens is the one that was sent, and so is the key.
abbrev pub text_as_old : Substitution
text_as_old = record unchanged { texts = λ n. if n == 2 then 0 else n }

abbrev pub key_as_old : Substitution
key_as_old = record unchanged { skeys = λ n. if n == 3 then skey_variable 1 else skey_variable n }

-- The one answer: a strand has opened the encryption that was sent.
abbrev pub answer_opened : Skeleton
answer_opened = skeleton_under key_as_old (skeleton_under text_as_old (put_before (node_at 2 1) reception with_opener))
