-- A skeleton that is the same as an unrealised one up to names of variables and pairs that generate its order is unrealised.
use Rattle.std.proofs.Common.{◌≡◌, ℕ, List, Bool, true, false, Some, refl, sym, ap, ◌∙◌, subst, inl, inr}
use Rattle.std.specs.Prelude.{not}
use Rattle.cp_lists.specs.Lists.{IsIn}
use Rattle.cp_model.specs.Term.{symmetric_term, asymmetric_term, akey_variable, pubk_term, KeyTerm, key_term, inverse_term, AtomTerm, Term, atom_term, variables_of, variables_of_atom, flag_of, Substitution, apply_to, apply_to_key, apply_to_atom}
use Rattle.cp_model.specs.declared.variable.Variable.{Variable}
use Rattle.cp_model.specs.Strand.{event_map}
use Rattle.cp_model.specs.declared.strand.Event.{Event}
use Rattle.cp_model.specs.declared.strand.Event.TheVariants.{Send as send, Receive as recv}
use Rattle.cp_model.specs.declared.node.Node.{Node}
use Rattle.cp_model.specs.Problem.{variables_of_skeleton}
use Rattle.cp_model.specs.Skeleton.{term_event_at, Skeleton}
use Rattle.cp_model.specs.Derivable.{IsSecret, DerivableAt, a_tag, an_atom, sent_before, paired, left_of, right_of, encrypted, decrypted, IsUnrealised}
use Rattle.cp_report.specs.UpToNames.{renaming, IsOneToOne, unique_renamed, IsSameSkeleton}
use Rattle.cp_printable.proofs.BackRenamings.{term_returned, atom_forth}
use Rattle.cp_printable.proofs.SameStrands.{instance_from, event_onto, event_from}
use Rattle.cp_printable.proofs.SameMaps.{to, from, forth_homomorphism, non_within, penetrator_non_within, unique_within, event_within}

-- ---- inverse keys under a substitution

-- A negated flag negates the sum.
not_flag : (a b : Bool) → flag_of (not a) b ≡ not (flag_of a b)
not_flag true true = refl
not_flag true false = refl
not_flag false b = refl

-- A substitution makes an inverse key the inverse of what it makes of the key.
inverse_under : (s : Substitution) (key : KeyTerm) → apply_to_key s (inverse_term key) ≡ inverse_term (apply_to_key s key)
inverse_under s (symmetric_term k) = refl
inverse_under s (asymmetric_term flag (akey_variable n)) = ap (λ (b : Bool). asymmetric_term b (s.akeys n).1) (not_flag flag (s.akeys n).0)
inverse_under s (asymmetric_term flag (pubk_term purpose a)) = refl

module _ (number : Variable → ℕ) (xs : List Variable) (one : IsOneToOne number xs) (k n : Skeleton) (same : IsSameSkeleton (renaming number) k n) (within : (x : Variable) → IsIn x (variables_of_skeleton k) → IsIn x xs) where
  -- the renaming
  abbrev s : Substitution
  s = to number xs one k n same within

  -- and back
  abbrev r : Substitution
  r = from number xs one k n same within

  -- ---- secrets

  -- A value over the renamed variables that is what another value goes back to is renamed to that other value.
  there_and_back : (v w : AtomTerm) → w ≡ apply_to_atom r v → ((x : Variable) → IsIn x (variables_of_atom w) → IsIn x xs) → apply_to_atom s w ≡ v
  there_and_back v w e inside = ap (apply_to_atom s) e ∙ atom_forth number xs one v (λ x m. inside x (subst (λ (u : AtomTerm). IsIn x (variables_of_atom u)) (sym e) m))

  -- A value that goes back to a secret of the first skeleton is a secret of the second.
  secret_forth : (v : AtomTerm) → IsSecret k (apply_to_atom r v) → IsSecret n v
  secret_forth v (inl m) =
      inl (subst (λ (u : AtomTerm). IsIn u n.assumptions.non_originating) (there_and_back v (apply_to_atom r v) refl (non_within number xs one k n same within (apply_to_atom r v) m))
      ((forth_homomorphism s k n same).non (apply_to_atom r v) m))
  secret_forth v (inr (inl m)) =
      inr (inl (subst (λ (u : AtomTerm). IsIn u n.assumptions.penetrator_non_originating) (there_and_back v (apply_to_atom r v) refl (penetrator_non_within number xs one k n same within (apply_to_atom r v) m))
      ((forth_homomorphism s k n same).penetrator_non (apply_to_atom r v) m)))
  secret_forth v (inr (inr u)) =
      inr (inr (record {
        entry = unique_renamed s u.entry;
        listed = (forth_homomorphism s k n same).unique u.entry u.listed;
        same = there_and_back v u.entry.value u.same (unique_within number xs one k n same within u.entry u.listed);
      }))

  -- ---- what is derivable

  -- A message that was renamed goes back to itself.
  message_back : (t u : Term) → ((x : Variable) → IsIn x (variables_of u) → IsIn x xs) → apply_to s u ≡ t → u ≡ apply_to r t
  message_back t u inside q = sym (ap (apply_to r) (sym q) ∙ term_returned number xs one u inside)

  -- A transmission of the second skeleton is a renamed one of the first.
  sent_from : (m : Node) (t : Term) → term_event_at n.strands m ≡ Some (send t) → (u : Term) × (term_event_at k.strands m ≡ Some (send u)) × (u ≡ apply_to r t)
  sent_from m t at = let q = event_from s k.strands n.strands same.strands m (send t) at in by q.0 q.1 q.2
    where
      by : (e : Event Term) → term_event_at k.strands m ≡ Some e → event_map (apply_to s) e ≡ send t → (u : Term) × (term_event_at k.strands m ≡ Some (send u)) × (u ≡ apply_to r t)
      by (send u) a b = (u, a, message_back t u (λ x i. event_within number xs one k n same within m (send u) x a i) cc)
      by (recv u) a b = absurd (cc)

  -- If a term is derivable in the second skeleton, what it goes back to is derivable in the first.
  derivable_back : (x : Node) {t : Term} → DerivableAt n x t → DerivableAt k x (apply_to r t)
  derivable_back x a_tag = a_tag
  derivable_back x (an_atom {v = v} open_to_all) = an_atom (λ h. open_to_all (secret_forth v h))
  derivable_back x (sent_before {m = m} {t = t} on at before) =
      let q = sent_from m t at in
      let i = instance_from s k.strands n.strands same.strands m.strand on.role on.height on.terms on.on_instance in
      subst (DerivableAt k x) q.2 (sent_before (record { role = on.role; height = on.height; terms = i.0; on_instance = i.1 }) q.1 ((same.order m x).1 before))
  derivable_back x (paired c d) = paired (derivable_back x c) (derivable_back x d)
  derivable_back x (left_of d) = left_of (derivable_back x d)
  derivable_back x (right_of d) = right_of (derivable_back x d)
  derivable_back x (encrypted c d) = encrypted (derivable_back x c) (derivable_back x d)
  derivable_back x (decrypted {key = key} c d) =
      decrypted (derivable_back x c) (subst (λ (j : KeyTerm). DerivableAt k x (atom_term (key_term j))) (inverse_under r key) (derivable_back x d))

  -- If the first skeleton is unrealised, the second is.
  pub same_unrealised : IsUnrealised k → IsUnrealised n
  same_unrealised u = record {
    node = u.node;
    message = apply_to s u.message;
    reception = event_onto s k.strands n.strands same.strands u.node (recv u.message) u.reception;
    underivable = λ d. u.underivable (subst (DerivableAt k u.node) (term_returned number xs one u.message (λ x i. event_within number xs one k n same within u.node (recv u.message) x u.reception i)) (derivable_back u.node d));
  }
