-- The second example's skeleton, its test, and its guard.
use Rattle.std.proofs.Common.{◌≡◌, ◌≢◌, ℕ, zero, suc, ◌+◌, ◌<◌, List, [], ◌∷◌, Some, refl, sym, ap, subst, ◌⊎◌, inl, inr, ⊎_elim, arith}
use Rattle.cp_lists.specs.Lists.{item_at, IsIn, here, there, one_step, more_steps}
use Rattle.cp_lists.proofs.Members.{not_in_none, only_item}
use Rattle.cp_model.specs.Term.{AtomTerm, text_variable, KeyTerm, key_term, inverse_term, Term, tag_term, atom_term, pair_term, enc_term, itself_term, in_plaintext_term, variables_of}
use Rattle.cp_model.specs.Bindings.{Binding}
use Rattle.cp_model.specs.declared.variable.Variable.{Variable}
use Rattle.cp_model.specs.Identity.{unchanged}
use Rattle.cp_model.specs.Strand.{Role, IsHeight}
use Rattle.cp_model.specs.declared.strand.Event.TheVariants.{Send as send}
use Rattle.cp_model.specs.Bundle.{node_at}
use Rattle.cp_model.specs.declared.node.Node.{Node}
use Rattle.cp_model.specs.declared.node.OrderPair.{OrderPair}
use Rattle.cp_model.specs.Skeleton.{instance, term_event_at, OrderStep, along_strand_of, along_pair, Before, IsOrderPair, IsOrigin, GivesAssumptions, IsSkeleton}
use Rattle.cp_model.specs.Derivable.{IsSecret, IsOnInstance, DerivableAt, a_tag, an_atom, sent_before, paired, left_of, right_of, encrypted, decrypted}
use Rattle.cp_model.specs.Tree.{Pattern}
use Rattle.cp_model.specs.Pattern.{IsPattern}
use Rattle.cp_model.proofs.StrandParts.{same_instance}
use Rattle.cp_model.specs.declared.step.Step.{Step}
use Rattle.cp_model.specs.declared.step.Step.TheVariants.{Left, Right, Plaintext}
use Rattle.cp_model.specs.Positions.{term_at}
use Rattle.cp_theory.specs.Inside.{IsInside}
use Rattle.cp_theory.specs.Critical.{IsTest, used_variables}
use Rattle.cp_theory.specs.Guards.{Guards}
use Rattle.cp_theory.specs.NoneLeftOut.{IsMapInRange}
use Rattle.cp_theory.specs.EncryptionExamples.{shared, locked, locker}
use Rattle.cp_theory.proofs.HeardEncryption.{whole_test}
use Rattle.cp_theory.specs.LetOut.{secret, protocol, unique_text, first_sent, let_out, reception, sent_encryption}

-- The one role strand is the first.
pub is_first : (s : ℕ) (role : Role) (height : ℕ) (terms : List Binding) → item_at let_out.strands s ≡ Some (instance role height terms) → (s ≡ 0) × (Some (instance locker 1 []) ≡ Some (instance role height terms))
is_first zero role height terms at = (refl, at)
is_first (suc zero) role height terms at = absurd (cc)
is_first (suc (suc s)) role height terms at = absurd (cc)

-- Along the order the number of a strand and the index together rise.
step_rises : {x y : Node} → OrderStep let_out x y → x.strand + x.index < y.strand + y.index
step_rises (along_strand_of {s = s} {i = i} ev) = omega arith
step_rises (along_pair {p = p} i) = let same : p ≡ first_sent = only_item i in subst (λ (q : OrderPair). q.earlier.strand + q.earlier.index < q.later.strand + q.later.index) (sym same) (omega arith)

rises : {x y : Node} → Before let_out x y → x.strand + x.index < y.strand + y.index
rises (one_step s) = step_rises s
rises {x} {y = z} (more_steps {y = y} s p) = let l : x.strand + x.index < y.strand + y.index = step_rises s in let m : y.strand + y.index < z.strand + z.index = rises p in omega arith

nothing_given : (s : ℕ) → GivesAssumptions let_out s locker 1 []
nothing_given s = record { non = λ v i. absurd (not_in_none i); penetrator_non = λ v i. absurd (not_in_none i); unique = λ v n i. absurd (not_in_none i) }

pair_there : IsOrderPair let_out first_sent
pair_there = record { sent = locked; received = secret; transmission = refl; reception = refl; between_strands = λ e. omega (arith, e) }

origin_there : IsOrigin let_out unique_text
origin_there = record { role = locker; height = 1; terms = []; on_instance = refl; sent = locked; transmission = refl; carried = in_plaintext_term itself_term }

pub let_out_skeleton : IsSkeleton protocol let_out
let_out_skeleton = record {
  of_role = λ s role height terms at. same_instance (λ r m ts. IsIn r protocol.roles) (is_first s role height terms at).1 here;
  heights = λ s role height terms at. same_instance (λ r m ts. IsHeight r m) (is_first s role height terms at).1 (omega arith, omega arith);
  order_pairs = λ p i. subst (IsOrderPair let_out) (sym (only_item i)) pair_there;
  no_cycle = λ n before. let l : n.strand + n.index < n.strand + n.index = rises before in omega arith;
  origins = λ u i. subst (IsOrigin let_out) (sym (only_item i)) origin_there;
  given = λ s role height terms at. same_instance (λ r m ts. GivesAssumptions let_out s r m ts) (is_first s role height terms at).1 (nothing_given s);
}

pub let_out_in_range : IsMapInRange let_out
let_out_in_range s here = omega arith
let_out_in_range s (there here) = omega arith
let_out_in_range s (there (there i)) = absurd (not_in_none i)

-- What can be derived holds the text inside that encryption alone, and is not the key.
abbrev IsKept : Term → Type 0
IsKept (tag_term bytes) = Unit {0}
IsKept (atom_term v) = (v ≢ text_variable 0) × (v ≢ key_term shared)
IsKept (pair_term a b) = IsKept a × IsKept b
IsKept (enc_term a k) = IsKept a ⊎ (enc_term a k ≡ locked)

not_secret : (v : AtomTerm) → (IsSecret let_out v → ⊥) → (v ≢ text_variable 0) × (v ≢ key_term shared)
not_secret v none = (λ e. none (inr (inr (record { entry = unique_text; listed = here; same = sym e }))), λ e. none (inl (subst (λ (w : AtomTerm). IsIn w (key_term shared ∷ [])) (sym e) here)))

-- What the role strand sends is that encryption.
pub sends_locked : (m : Node) (t : Term) → m.strand ≡ 0 → term_event_at let_out.strands m ≡ Some (send t) → (m.index ≡ 0) × (locked ≡ t)
sends_locked m t e ev = at_index m.index (subst (λ (s : ℕ). term_event_at let_out.strands (node_at s m.index) ≡ Some (send t)) e ev)
  where
    at_index : (i : ℕ) → term_event_at let_out.strands (node_at 0 i) ≡ Some (send t) → (i ≡ 0) × (locked ≡ t)
    at_index zero q = (refl, cc)
    at_index (suc i) q = absurd (cc)

opens_nothing : (a : Term) (key : KeyTerm) → enc_term a key ≡ locked → (key_term (inverse_term key) ≢ key_term shared) → IsKept a
opens_nothing a key e other = let same : key ≡ shared = cc in absurd (other (ap (λ (k : KeyTerm). key_term (inverse_term k)) same))

keeps : {t : Term} → DerivableAt let_out reception t → IsKept t
keeps a_tag = tt
keeps (an_atom {v = v} none) = not_secret v none
keeps (sent_before {m = m} {t = t} on ev before) =
    let first = is_first m.strand on.role on.height on.terms on.on_instance in
    subst IsKept (sends_locked m t first.0 ev).1 (inr refl)
keeps (paired p q) = (keeps p, keeps q)
keeps (left_of p) = (keeps p).0
keeps (right_of p) = (keeps p).1
keeps (encrypted p q) = inl (keeps p)
keeps (decrypted {a = a} {key = key} p q) = ⊎_elim (λ k. k) (λ e. opens_nothing a key e (keeps q).1) (keeps p)

pub let_out_test : IsTest let_out reception secret
let_out_test = whole_test let_out reception secret refl (λ a b e. cc) (λ d. (keeps d).0 refl)

-- The pattern guards it.
is_pattern : IsPattern sent_encryption
is_pattern = record { encryption = record { body = secret; key = shared; encrypted = refl }; locals_occur = λ x i. absurd (not_in_none i) }

used_there : (x : Variable) → IsIn x (variables_of locked) → IsIn x (used_variables let_out)
used_there x here = here
used_there x (there here) = there here
used_there x (there (there i)) = absurd (not_in_none i)

used_critical : (x : Variable) → IsIn x (variables_of secret) → IsIn x (used_variables let_out)
used_critical x here = here
used_critical x (there i) = absurd (not_in_none i)

pub inside_locked : (path : List Step) → term_at locked path ≡ Some secret → IsInside (sent_encryption ∷ []) unchanged locked path
inside_locked [] at = absurd (cc)
inside_locked (Plaintext ∷ []) at = record { encryption = locked; above = here; pattern = sent_encryption; listed = here; matches = record { filled = unchanged; as_said = λ x free. refl; same = refl } }
inside_locked (Plaintext ∷ Left ∷ path) at = absurd (cc)
inside_locked (Plaintext ∷ Right ∷ path) at = absurd (cc)
inside_locked (Plaintext ∷ Plaintext ∷ path) at = absurd (cc)
inside_locked (Left ∷ path) at = absurd (cc)
inside_locked (Right ∷ path) at = absurd (cc)

inside_sent : (m : Node) (t : Term) → IsOnInstance let_out m → term_event_at let_out.strands m ≡ Some (send t) → (path : List Step) → term_at t path ≡ Some secret → IsInside (sent_encryption ∷ []) unchanged t path
inside_sent m t on ev path at =
    let first = is_first m.strand on.role on.height on.terms on.on_instance in
    let same = (sends_locked m t first.0 ev).1 in
    subst (λ (u : Term). IsInside (sent_encryption ∷ []) unchanged u path) same (inside_locked path (subst (λ (u : Term). term_at u path ≡ Some secret) (sym same) at))

pub let_out_guards : Guards (sent_encryption ∷ []) let_out reception secret
let_out_guards = record {
  patterns = λ p i. subst IsPattern (sym (only_item i)) is_pattern;
  keys = λ p i body key x e inx local. not_in_none (subst (λ (q : Pattern). IsIn x q.locals) (only_item i) local);
  used_by_patterns = λ p x i free. used_there x (subst (λ (q : Pattern). IsIn x (variables_of q.term)) (only_item i) free.occurs);
  used_by_critical = used_critical;
  inside = λ m t on ev before path at. inside_sent m t on ev path at;
}
