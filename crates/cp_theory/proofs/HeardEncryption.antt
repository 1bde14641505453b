-- The example's skeleton and its test.
use Rattle.std.proofs.Common.{◌≡◌, ◌≢◌, ℕ, zero, suc, ◌<◌, [], ◌∷◌, Some, refl, sym, ap, subst, inl, arith, List}
use Rattle.cp_lists.specs.Lists.{item_at, IsIn, here, there, one_step, more_steps}
use Rattle.cp_lists.proofs.Members.{not_in_none}
use Rattle.cp_model.specs.Term.{AtomTerm, KeyTerm, key_term, Term, tag_term, atom_term, pair_term, enc_term, variables_of}
use Rattle.cp_model.specs.Bindings.{Binding}
use Rattle.cp_model.specs.declared.variable.Variable.{Variable}
use Rattle.cp_model.specs.Strand.{Role}
use Rattle.cp_model.specs.declared.strand.Event.TheVariants.{Receive as recv}
use Rattle.cp_model.specs.declared.node.Node.{Node}
use Rattle.cp_model.specs.Skeleton.{instance, term_event_at, OrderStep, along_strand_of, along_pair, Before, Skeleton, IsSkeleton}
use Rattle.cp_model.specs.Derivable.{IsSecret, DerivableAt, a_tag, an_atom, paired, left_of, right_of, encrypted, decrypted}
use Rattle.cp_model.specs.Derivable as derivable
use Rattle.cp_theory.specs.Critical.{IsTest, whole_part, used_variables}
use Rattle.cp_theory.specs.Guards.{Guards}
use Rattle.cp_theory.specs.NoneLeftOut.{IsMapInRange}
use Rattle.cp_theory.specs.EncryptionExamples.{shared, locked, protocol, heard, reception}

-- There is no role strand.
pub no_instance : (s : ℕ) (role : Role) (height : ℕ) (terms : List Binding) → item_at heard.strands s ≡ Some (instance role height terms) → ⊥
no_instance zero role height terms at = cc
no_instance (suc s) role height terms at = cc

-- The order is that of strands.
step_rises : {x y : Node} → OrderStep heard x y → x.index < y.index
step_rises (along_strand_of {s = s} {i = i} ev) = omega arith
step_rises (along_pair i) = absurd (not_in_none i)

rises : {x y : Node} → Before heard x y → x.index < y.index
rises (one_step s) = step_rises s
rises {x} {y = z} (more_steps {y = y} s p) = let l : x.index < y.index = step_rises s in let m : y.index < z.index = rises p in omega arith

pub heard_skeleton : IsSkeleton protocol heard
heard_skeleton = record {
  of_role = λ s role height terms at. absurd (no_instance s role height terms at);
  heights = λ s role height terms at. absurd (no_instance s role height terms at);
  order_pairs = λ p i. absurd (not_in_none i);
  no_cycle = λ n before. let l : n.index < n.index = rises before in omega arith;
  origins = λ u i. absurd (not_in_none i);
  given = λ s role height terms at. absurd (no_instance s role height terms at);
}

pub heard_in_range : IsMapInRange heard
heard_in_range s here = omega arith
heard_in_range s (there i) = absurd (not_in_none i)

-- What can be derived holds nothing under the key, and is not the key.
abbrev pub IsUnlocked : Term → Type 0
IsUnlocked (tag_term bytes) = Unit {0}
IsUnlocked (atom_term v) = v ≢ key_term shared
IsUnlocked (pair_term a b) = IsUnlocked a × IsUnlocked b
IsUnlocked (enc_term a k) = IsUnlocked a × (k ≢ shared)

not_secret : (v : AtomTerm) → (IsSecret heard v → ⊥) → v ≢ key_term shared
not_secret v none e = none (inl (subst (λ (w : AtomTerm). IsIn w (key_term shared ∷ [])) (sym e) here))

other_key : (k : KeyTerm) → key_term k ≢ key_term shared → k ≢ shared
other_key k n e = n (ap key_term e)

pub unlocked : {t : Term} → DerivableAt heard reception t → IsUnlocked t
unlocked a_tag = tt
unlocked (an_atom {v = v} none) = not_secret v none
unlocked (derivable.sent_before {m = m} on ev before) = absurd (no_instance m.strand on.role on.height on.terms on.on_instance)
unlocked (paired p q) = (unlocked p, unlocked q)
unlocked (left_of p) = (unlocked p).0
unlocked (right_of p) = (unlocked p).1
unlocked (encrypted {key = key} p q) = (unlocked p, other_key key (unlocked q))
unlocked (decrypted p q) = (unlocked p).0

-- The whole message of a reception is a test where it is no pair and cannot be derived.
pub whole_test : (k : Skeleton) (n : Node) (t : Term) → term_event_at k.strands n ≡ Some (recv t) → ((a b : Term) → t ≢ pair_term a b) → (DerivableAt k n t → ⊥) → IsTest k n t
whole_test k n t received no_pair underivable = record { message = t; reception = received; component = record { part = whole_part; no_pair = no_pair }; underivable = underivable }

pub heard_test : IsTest heard reception locked
heard_test = whole_test heard reception locked refl (λ a b e. cc) (λ d. (unlocked d).1 refl)

used_there : (x : Variable) → IsIn x (variables_of locked) → IsIn x (used_variables heard)
used_there x here = here
used_there x (there here) = there here
used_there x (there (there i)) = absurd (not_in_none i)

pub heard_guards : Guards [] heard reception locked
heard_guards = record {
  patterns = λ p i. absurd (not_in_none i);
  keys = λ p i. absurd (not_in_none i);
  used_by_patterns = λ p x i. absurd (not_in_none i);
  used_by_critical = used_there;
  inside = λ m t on. absurd (no_instance m.strand on.role on.height on.terms on.on_instance);
}
