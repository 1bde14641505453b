-- The terms derivable at a node of a skeleton are those derivable from what was sent before it.
use Rattle.std.proofs.Common.{◌↔◌}
use Rattle.cp_model.specs.Term.{AtomTerm, Term, atom_term}
use Rattle.cp_lists.specs.Lists.{IsIn}
use Rattle.cp_model.specs.declared.node.Node.{Node}
use Rattle.cp_model.specs.Skeleton.{Skeleton}
use Rattle.cp_model.specs.Derivable.{IsSecret, DerivableAt, a_tag as tag_at, an_atom as atom_at, sent_before as sent_at, paired as paired_at, left_of as left_at, right_of as right_at, encrypted as encrypted_at, decrypted as decrypted_at}
use Rattle.cp_derive.specs.From.{DerivableFrom, a_tag, an_atom, was_sent, paired, left_of, right_of, encrypted, decrypted, IsSentBefore}
use Rattle.cp_derive.specs.Given.{Given, IsDerivable, IsGivenAt}

pub from_at : (k : Skeleton) (n : Node) (t : Term) → DerivableAt k n t → DerivableFrom (IsSecret k) (IsSentBefore k n) t
from_at k n _ tag_at = a_tag
from_at k n _ (atom_at h) = an_atom h
from_at k n _ (sent_at on e before) = was_sent (record { from = _; on_instance = on; transmission = e; before = before })
from_at k n _ (paired_at x y) = paired (from_at k n _ x) (from_at k n _ y)
from_at k n _ (left_at x) = left_of (from_at k n _ x)
from_at k n _ (right_at x) = right_of (from_at k n _ x)
from_at k n _ (encrypted_at x y) = encrypted (from_at k n _ x) (from_at k n _ y)
from_at k n _ (decrypted_at x y) = decrypted (from_at k n _ x) (from_at k n _ y)

pub at_from : (k : Skeleton) (n : Node) (t : Term) → DerivableFrom (IsSecret k) (IsSentBefore k n) t → DerivableAt k n t
at_from k n _ a_tag = tag_at
at_from k n _ (an_atom h) = atom_at h
at_from k n _ (was_sent h) = sent_at h.on_instance h.transmission h.before
at_from k n _ (paired x y) = paired_at (at_from k n _ x) (at_from k n _ y)
at_from k n _ (left_of x) = left_at (at_from k n _ x)
at_from k n _ (right_of x) = right_at (at_from k n _ x)
at_from k n _ (encrypted x y) = encrypted_at (at_from k n _ x) (at_from k n _ y)
at_from k n _ (decrypted x y) = decrypted_at (at_from k n _ x) (at_from k n _ y)

-- With no more secrets and no less sent, no less can be derived.
pub from_more : (s t : AtomTerm → Type 0) (m n : Term → Type 0) → ((v : AtomTerm) → t v → s v) → ((x : Term) → m x → n x) → (x : Term) → DerivableFrom s m x → DerivableFrom t n x
from_more s t m n less more _ a_tag = a_tag
from_more s t m n less more _ (an_atom h) = an_atom (λ i. h (less _ i))
from_more s t m n less more _ (was_sent h) = was_sent (more _ h)
from_more s t m n less more _ (paired x y) = paired (from_more s t m n less more _ x) (from_more s t m n less more _ y)
from_more s t m n less more _ (left_of x) = left_of (from_more s t m n less more _ x)
from_more s t m n less more _ (right_of x) = right_of (from_more s t m n less more _ x)
from_more s t m n less more _ (encrypted x y) = encrypted (from_more s t m n less more _ x) (from_more s t m n less more _ y)
from_more s t m n less more _ (decrypted x y) = decrypted (from_more s t m n less more _ x) (from_more s t m n less more _ y)

pub given_at : (k : Skeleton) (n : Node) (g : Given) → IsGivenAt k n g → (t : Term) → DerivableAt k n t ↔ IsDerivable g t
given_at k n g given t = (
  λ d. from_more (IsSecret k) (λ v. IsIn (atom_term v) g.secrets) (IsSentBefore k n) (λ x. IsIn x g.sent) (λ v. (given.secrets v).0) (λ x. (given.sent x).1) t (from_at k n t d),
  λ d. at_from k n t (from_more (λ v. IsIn (atom_term v) g.secrets) (IsSecret k) (λ x. IsIn x g.sent) (IsSentBefore k n) (λ v. (given.secrets v).1) (λ x. (given.sent x).0) t d),
)
