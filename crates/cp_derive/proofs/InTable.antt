-- What is known of a node is known of it in a skeleton that differs in its table alone.
use Rattle.std.proofs.Common.{List, inl, inr, refl, sym, subst}
use Rattle.cp_model.specs.Term.{AtomTerm, Term}
use Rattle.cp_model.specs.declared.variable.Declaration.{Declaration}
use Rattle.cp_model.specs.declared.node.Node.{Node}
use Rattle.cp_model.specs.Skeleton.{Skeleton}
use Rattle.cp_model.specs.Derivable.{IsSecret, IsOnInstance, DerivableAt, a_tag, an_atom, sent_before, paired, left_of, right_of, encrypted, decrypted}
use Rattle.cp_theory.specs.Critical.{IsTest}
use Rattle.cp_skel.specs.Tables.{DiffersInTable}
use Rattle.cp_skel.proofs.TableAlone.{tabled, was_before}
use Rattle.cp_derive.specs.AtNode.{IsAtNode}
use Rattle.cp_skel.specs.Preceding.{SkeletonNode}
use Rattle.cp_derive.specs.Given.{Given}

module _ (k : Skeleton) (table : List Declaration) where
  was_secret : (v : AtomTerm) → IsSecret k v → IsSecret (tabled k table) v
  was_secret v (inl i) = inl i
  was_secret v (inr (inl i)) = inr (inl i)
  was_secret v (inr (inr u)) = inr (inr (record { entry = u.entry; listed = u.listed; same = u.same }))

  pub was_on_instance : (n : Node) → IsOnInstance (tabled k table) n → IsOnInstance k n
  was_on_instance n o = record { role = o.role; height = o.height; terms = o.terms; on_instance = o.on_instance }

  pub was_derivable : {n : Node} {t : Term} → DerivableAt (tabled k table) n t → DerivableAt k n t
  was_derivable a_tag = a_tag
  was_derivable (an_atom {v = v} free) = an_atom (λ s. free (was_secret v s))
  was_derivable (sent_before {m = m} on ev before) = sent_before (was_on_instance m on) ev (was_before k table before)
  was_derivable (paired a b) = paired (was_derivable a) (was_derivable b)
  was_derivable (left_of a) = left_of (was_derivable a)
  was_derivable (right_of a) = right_of (was_derivable a)
  was_derivable (encrypted a b) = encrypted (was_derivable a) (was_derivable b)
  was_derivable (decrypted a b) = decrypted (was_derivable a) (was_derivable b)

  test_tabled : (n : Node) (c : Term) → IsTest k n c → IsTest (tabled k table) n c
  test_tabled n c t = record { message = t.message; reception = t.reception; component = t.component; underivable = λ d. t.underivable (was_derivable d) }

module _ (k l : Skeleton) (differs : DiffersInTable k l) where
  pub test_in_table : (n : Node) (c : Term) → IsTest k n c → IsTest l n c
  test_in_table n c t = subst (λ (x : Skeleton). IsTest x n c) (sym differs) (test_tabled k l.variables n c t)

-- A table can be put back.
module _ (at : SkeletonNode) (listed : Skeleton) (known : Given) (is : IsAtNode at listed known) where
  node_tabled : (table : List Declaration) → IsAtNode (record { skeleton = tabled at.skeleton table; node = at.node }) (tabled at.skeleton table) known
  node_tabled table = record {
    same = refl;
    derivable =
        λ t. ((λ d. was_derivable (tabled at.skeleton table) at.skeleton.variables ((is.derivable t).0 d)), (λ d. (is.derivable t).1 (was_derivable at.skeleton table d)));
  }

  pub node_in_table : (l : Skeleton) → DiffersInTable at.skeleton l → IsAtNode (record { skeleton = l; node = at.node }) l known
  node_in_table l differs = subst (λ (x : Skeleton). IsAtNode (record { skeleton = x; node = at.node }) x known) (sym differs) (node_tabled l.variables)
