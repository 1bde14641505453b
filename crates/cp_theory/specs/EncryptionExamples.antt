-- An example: an encryption is heard, under a key that does not originate; one role sends such encryptions.
use Rattle.std.specs.Prelude.{[], ◌∷◌, ◌==◌, if◌then◌else◌, List}
use Rattle.cp_model.specs.Term.{skey_variable, symmetric_term, text_variable, key_term, KeyTerm, Term, atom_term, enc_term, Substitution}
use Rattle.cp_model.specs.Bindings.{Binding, bindings_of}
use Rattle.cp_model.specs.declared.sort.Sort.TheVariants.{Text as text_sort, Skey as skey_sort}
use Rattle.cp_model.specs.Identity.{unchanged}
use Rattle.cp_model.specs.Strand.{Role, Protocol}
use Rattle.cp_model.specs.declared.strand.Event.TheVariants.{Send as send}
use Rattle.cp_model.specs.Bundle.{node_at}
use Rattle.cp_model.specs.declared.node.Node.{Node}
use Rattle.cp_model.specs.Skeleton.{instance, listener, Assumptions, Skeleton}
use Rattle.cp_theory.specs.Normal.{skeleton_under}
use Rattle.cp_theory.specs.Covering.{put_before}

abbrev pub shared : KeyTerm
shared = symmetric_term (skey_variable 1)

-- A text under a key.
abbrev pub locked : Term
locked = enc_term (atom_term (text_variable 0)) shared

-- The role sends a text under a key.
abbrev pub locker : Role
locker = record {
  name = 108 ∷ [];
  variables = record { identifier = 110 ∷ []; sort = text_sort } ∷ record { identifier = 107 ∷ []; sort = skey_sort } ∷ [];
  trace = send locked ∷ [];
  non_originating = [];
  penetrator_non_originating = [];
  uniquely_originating = [];
}

abbrev pub protocol : Protocol
protocol = record { name = 101 ∷ []; roles = locker ∷ [] }

abbrev pub assumptions : Assumptions
assumptions = record { non_originating = key_term shared ∷ []; penetrator_non_originating = []; uniquely_originating = [] }

-- A listener hears the encryption, and its key does not originate.
abbrev pub heard : Skeleton
heard = record {
  variables = locker.variables;
  strands = listener locked ∷ [];
  pairs = [];
  assumptions = assumptions;
  from_problem = record { strands = 0 ∷ []; values = atom_term (text_variable 0) ∷ atom_term (key_term shared) ∷ []; assumptions = assumptions; pairs = [] };
}

abbrev pub reception : Node
reception = node_at 0 0

-- New variables for those of the role.
abbrev pub new_terms : List Binding
new_terms = bindings_of (atom_term (text_variable 2) ∷ atom_term (key_term (symmetric_term (skey_variable 3))) ∷ [])

-- With a strand of the role.
abbrev pub with_locker : Skeleton
with_locker = record heard { strands = listener locked ∷ instance locker 1 new_terms ∷ [] }

-- The new variables are the old ones.
abbrev pub as_old : Substitution
as_old = record unchanged { texts = λ n. if n == 2 then 0 else n; skeys = λ n. if n == 3 then skey_variable 1 else skey_variable n }

-- The one answer: a strand of the role has sent it before.
abbrev pub sent_before : Skeleton
sent_before = skeleton_under as_old (put_before (node_at 1 0) reception with_locker)
