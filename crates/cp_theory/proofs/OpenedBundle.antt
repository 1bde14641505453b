-- The example of the authentication test meets its premises, and its outcomes.
use Rattle.std.proofs.Common.{◌≡◌, ◌≢◌, ℕ, zero, suc, ◌+◌, ◌<◌, List, Some, refl, sym, ap, ◌∙◌, le_refl, arith}
use Rattle.cp_lists.specs.Lists.{item_at, IsIn, here, there, one_step}
use Rattle.cp_model.specs.Message.{Atom, key, Message, atom}
use Rattle.cp_model.specs.Term.{Assignment}
use Rattle.cp_model.specs.Strand.{payload, Role, create_tag, create_atom, regular, penetrator}
use Rattle.cp_model.specs.declared.strand.Event.{Event}
use Rattle.cp_model.specs.declared.strand.Event.TheVariants.{Send as send, Receive as recv}
use Rattle.cp_model.specs.KeyMessage.{key_message}
use Rattle.cp_model.specs.Bundle.{node_at, event_at, KeepsRole, AreOfProtocol, along_link, IsBundle}
use Rattle.cp_model.specs.declared.node.Node.{Node}
use Rattle.cp_theory.specs.RepeatedText.{zeros}
use Rattle.cp_theory.specs.AuthenticationTest.{IsOutside, is_whole, outside_plaintext, IsNoPairMessage, IsNotCreated, IsReleased, IsEncrypted, IsDecrypted}
use Rattle.cp_theory.specs.Opened.{locker, opener, protocol, shared, secret, locked, opened, every, heard_from_opener, heard_from_decryption, heard_from_encryption}
use Rattle.cp_lists.proofs.Members.{not_in_none}
use Rattle.cp_model.proofs.StrandParts.{same_regular}
use Rattle.cp_theory.proofs.Numbered.{IsOfRole, of_roles, is_numbered}
use Rattle.cp_theory.proofs.Tested.{encrypted_there, decrypted_there}

-- The two regular strands.
each_regular : (P : ℕ → Role → ℕ → Assignment → Type 0) → P 0 locker 1 zeros → P 1 opener 2 zeros →
    (s : ℕ) (role : Role) (height : ℕ) (g : Assignment) → item_at opened.strands s ≡ Some (regular role height g) → P s role height g
each_regular P p q zero role height g e = same_regular (P 0) e p
each_regular P p q (suc zero) role height g e = same_regular (P 1) e q
each_regular P p q (suc (suc zero)) role height g e = absurd (cc)
each_regular P p q (suc (suc (suc zero))) role height g e = absurd (cc)
each_regular P p q (suc (suc (suc (suc zero)))) role height g e = absurd (cc)
each_regular P p q (suc (suc (suc (suc (suc zero))))) role height g e = absurd (cc)
each_regular P p q (suc (suc (suc (suc (suc (suc zero)))))) role height g e = absurd (cc)
each_regular P p q (suc (suc (suc (suc (suc (suc (suc zero))))))) role height g e = absurd (cc)
each_regular P p q (suc (suc (suc (suc (suc (suc (suc (suc s)))))))) role height g e = absurd (cc)

kept_locker : KeepsRole opened.strands 0 locker 1 zeros
kept_locker = record { non = λ v h a. absurd (not_in_none h); penetrator_non = λ v h a. absurd (not_in_none h); unique = λ v i h a. absurd (not_in_none h) }

kept_opener : KeepsRole opened.strands 1 opener 2 zeros
kept_opener = record { non = λ v h a. absurd (not_in_none h); penetrator_non = λ v h a. absurd (not_in_none h); unique = λ v i h a. absurd (not_in_none h) }

-- The place of the first node of a strand in the numbering.
abbrev start : ℕ → ℕ
start zero = 0
start (suc zero) = 1
start (suc (suc zero)) = 3
start (suc (suc (suc zero))) = 4
start (suc (suc (suc (suc zero)))) = 5
start (suc (suc (suc (suc (suc zero))))) = 8
start (suc (suc (suc (suc (suc (suc zero)))))) = 9
start (suc (suc (suc (suc (suc (suc (suc zero))))))) = 12
start (suc (suc (suc (suc (suc (suc (suc (suc s)))))))) = 13

abbrev place : Node → ℕ
place n = start n.strand + n.index

linked_on : (s i : ℕ) (m : Message) → event_at opened.strands (node_at s i) ≡ Some (recv m) → (event_at opened.strands (opened.sender (node_at s i)) ≡ Some (send m)) × (place (opened.sender (node_at s i)) < place (node_at s i))
linked_on zero zero m e = absurd (cc)
linked_on zero (suc i) m e = absurd (cc)
linked_on (suc zero) zero m e = let q : locked ≡ m = cc in (ap (λ (x : Message). Some (send x)) q, omega arith)
linked_on (suc zero) (suc zero) m e = absurd (cc)
linked_on (suc zero) (suc (suc i)) m e = absurd (cc)
linked_on (suc (suc zero)) zero m e = let q : secret ≡ m = cc in (ap (λ (x : Message). Some (send x)) q, omega arith)
linked_on (suc (suc zero)) (suc i) m e = absurd (cc)
linked_on (suc (suc (suc zero))) zero m e = absurd (cc)
linked_on (suc (suc (suc zero))) (suc i) m e = absurd (cc)
linked_on (suc (suc (suc (suc zero)))) zero m e = let q : (key_message shared) ≡ m = cc in (ap (λ (x : Message). Some (send x)) q, omega arith)
linked_on (suc (suc (suc (suc zero)))) (suc zero) m e = let q : locked ≡ m = cc in (ap (λ (x : Message). Some (send x)) q, omega arith)
linked_on (suc (suc (suc (suc zero)))) (suc (suc zero)) m e = absurd (cc)
linked_on (suc (suc (suc (suc zero)))) (suc (suc (suc i))) m e = absurd (cc)
linked_on (suc (suc (suc (suc (suc zero))))) zero m e = let q : secret ≡ m = cc in (ap (λ (x : Message). Some (send x)) q, omega arith)
linked_on (suc (suc (suc (suc (suc zero))))) (suc i) m e = absurd (cc)
linked_on (suc (suc (suc (suc (suc (suc zero)))))) zero m e = let q : (key_message shared) ≡ m = cc in (ap (λ (x : Message). Some (send x)) q, omega arith)
linked_on (suc (suc (suc (suc (suc (suc zero)))))) (suc zero) m e = let q : secret ≡ m = cc in (ap (λ (x : Message). Some (send x)) q, omega arith)
linked_on (suc (suc (suc (suc (suc (suc zero)))))) (suc (suc zero)) m e = absurd (cc)
linked_on (suc (suc (suc (suc (suc (suc zero)))))) (suc (suc (suc i))) m e = absurd (cc)
linked_on (suc (suc (suc (suc (suc (suc (suc zero))))))) zero m e = let q : locked ≡ m = cc in (ap (λ (x : Message). Some (send x)) q, omega arith)
linked_on (suc (suc (suc (suc (suc (suc (suc zero))))))) (suc i) m e = absurd (cc)
linked_on (suc (suc (suc (suc (suc (suc (suc (suc s)))))))) i m e = absurd (cc)

listed_on : (s i : ℕ) (e : Event Message) → event_at opened.strands (node_at s i) ≡ Some e → IsIn (node_at s i) opened.order
listed_on zero zero e at = here
listed_on zero (suc i) e at = absurd (cc)
listed_on (suc zero) zero e at = there here
listed_on (suc zero) (suc zero) e at = there (there here)
listed_on (suc zero) (suc (suc i)) e at = absurd (cc)
listed_on (suc (suc zero)) zero e at = there (there (there here))
listed_on (suc (suc zero)) (suc i) e at = absurd (cc)
listed_on (suc (suc (suc zero))) zero e at = there (there (there (there here)))
listed_on (suc (suc (suc zero))) (suc i) e at = absurd (cc)
listed_on (suc (suc (suc (suc zero)))) zero e at = there (there (there (there (there here))))
listed_on (suc (suc (suc (suc zero)))) (suc zero) e at = there (there (there (there (there (there here)))))
listed_on (suc (suc (suc (suc zero)))) (suc (suc zero)) e at = there (there (there (there (there (there (there here))))))
listed_on (suc (suc (suc (suc zero)))) (suc (suc (suc i))) e at = absurd (cc)
listed_on (suc (suc (suc (suc (suc zero))))) zero e at = there (there (there (there (there (there (there (there here)))))))
listed_on (suc (suc (suc (suc (suc zero))))) (suc i) e at = absurd (cc)
listed_on (suc (suc (suc (suc (suc (suc zero)))))) zero e at = there (there (there (there (there (there (there (there (there here))))))))
listed_on (suc (suc (suc (suc (suc (suc zero)))))) (suc zero) e at = there (there (there (there (there (there (there (there (there (there here)))))))))
listed_on (suc (suc (suc (suc (suc (suc zero)))))) (suc (suc zero)) e at = there (there (there (there (there (there (there (there (there (there (there here))))))))))
listed_on (suc (suc (suc (suc (suc (suc zero)))))) (suc (suc (suc i))) e at = absurd (cc)
listed_on (suc (suc (suc (suc (suc (suc (suc zero))))))) zero e at = there (there (there (there (there (there (there (there (there (there (there (there here)))))))))))
listed_on (suc (suc (suc (suc (suc (suc (suc zero))))))) (suc i) e at = absurd (cc)
listed_on (suc (suc (suc (suc (suc (suc (suc (suc s)))))))) i e at = absurd (cc)

place_is : (i : ℕ) (n : Node) → item_at opened.order i ≡ Some n → i ≡ place n
place_is zero n e = let q : node_at 0 0 ≡ n = cc in ap place q
place_is (suc zero) n e = let q : node_at 1 0 ≡ n = cc in ap place q
place_is (suc (suc zero)) n e = let q : node_at 1 1 ≡ n = cc in ap place q
place_is (suc (suc (suc zero))) n e = let q : node_at 2 0 ≡ n = cc in ap place q
place_is (suc (suc (suc (suc zero)))) n e = let q : node_at 3 0 ≡ n = cc in ap place q
place_is (suc (suc (suc (suc (suc zero))))) n e = let q : node_at 4 0 ≡ n = cc in ap place q
place_is (suc (suc (suc (suc (suc (suc zero)))))) n e = let q : node_at 4 1 ≡ n = cc in ap place q
place_is (suc (suc (suc (suc (suc (suc (suc zero))))))) n e = let q : node_at 4 2 ≡ n = cc in ap place q
place_is (suc (suc (suc (suc (suc (suc (suc (suc zero)))))))) n e = let q : node_at 5 0 ≡ n = cc in ap place q
place_is (suc (suc (suc (suc (suc (suc (suc (suc (suc zero))))))))) n e = let q : node_at 6 0 ≡ n = cc in ap place q
place_is (suc (suc (suc (suc (suc (suc (suc (suc (suc (suc zero)))))))))) n e = let q : node_at 6 1 ≡ n = cc in ap place q
place_is (suc (suc (suc (suc (suc (suc (suc (suc (suc (suc (suc zero))))))))))) n e = let q : node_at 6 2 ≡ n = cc in ap place q
place_is (suc (suc (suc (suc (suc (suc (suc (suc (suc (suc (suc (suc zero)))))))))))) n e = let q : node_at 7 0 ≡ n = cc in ap place q
place_is (suc (suc (suc (suc (suc (suc (suc (suc (suc (suc (suc (suc (suc i))))))))))))) n e = absurd (cc)

there_is : (n : Node) → IsIn n opened.order → (e : Event Message) × (event_at opened.strands n ≡ Some e)
there_is n here = (send locked, refl)
there_is n (there here) = (recv locked, refl)
there_is n (there (there here)) = (send secret, refl)
there_is n (there (there (there here))) = (recv secret, refl)
there_is n (there (there (there (there here)))) = (send (key_message shared), refl)
there_is n (there (there (there (there (there here))))) = (recv (key_message shared), refl)
there_is n (there (there (there (there (there (there here)))))) = (recv locked, refl)
there_is n (there (there (there (there (there (there (there here))))))) = (send secret, refl)
there_is n (there (there (there (there (there (there (there (there here)))))))) = (recv secret, refl)
there_is n (there (there (there (there (there (there (there (there (there here))))))))) = (recv (key_message shared), refl)
there_is n (there (there (there (there (there (there (there (there (there (there here)))))))))) = (recv secret, refl)
there_is n (there (there (there (there (there (there (there (there (there (there (there here))))))))))) = (send locked, refl)
there_is n (there (there (there (there (there (there (there (there (there (there (there (there here)))))))))))) = (recv locked, refl)
there_is n (there (there (there (there (there (there (there (there (there (there (there (there (there h))))))))))))) = elim h [ ]

of_protocol : AreOfProtocol protocol opened.strands
of_protocol = of_roles protocol opened.strands (each_regular (IsOfRole protocol opened.strands) (here, (le_refl 1, le_refl 1), kept_locker) (there here, (omega arith, le_refl 2), kept_opener))

pub is_bundle : IsBundle protocol opened
is_bundle = is_numbered protocol opened place of_protocol (λ s i. omega arith) linked_on listed_on there_is place_is

-- The premises.
pub text_is_no_pair : IsNoPairMessage secret
text_is_no_pair x y e = cc

pub encryption_is_no_pair : IsNoPairMessage locked
encryption_is_no_pair x y e = cc

no_tag_made : (s : ℕ) (bytes : List ℕ) → item_at opened.strands s ≡ Some (penetrator (create_tag bytes)) → ⊥
no_tag_made zero bytes e = absurd (cc)
no_tag_made (suc zero) bytes e = absurd (cc)
no_tag_made (suc (suc zero)) bytes e = absurd (cc)
no_tag_made (suc (suc (suc zero))) bytes e = absurd (cc)
no_tag_made (suc (suc (suc (suc zero)))) bytes e = absurd (cc)
no_tag_made (suc (suc (suc (suc (suc zero))))) bytes e = absurd (cc)
no_tag_made (suc (suc (suc (suc (suc (suc zero)))))) bytes e = absurd (cc)
no_tag_made (suc (suc (suc (suc (suc (suc (suc zero))))))) bytes e = absurd (cc)
no_tag_made (suc (suc (suc (suc (suc (suc (suc (suc s)))))))) bytes e = absurd (cc)

made_is_key : (s : ℕ) (a : Atom) → item_at opened.strands s ≡ Some (penetrator (create_atom a)) → key shared ≡ a
made_is_key zero a e = absurd (cc)
made_is_key (suc zero) a e = absurd (cc)
made_is_key (suc (suc zero)) a e = absurd (cc)
made_is_key (suc (suc (suc zero))) a e = cc
made_is_key (suc (suc (suc (suc zero)))) a e = absurd (cc)
made_is_key (suc (suc (suc (suc (suc zero))))) a e = absurd (cc)
made_is_key (suc (suc (suc (suc (suc (suc zero)))))) a e = absurd (cc)
made_is_key (suc (suc (suc (suc (suc (suc (suc zero))))))) a e = absurd (cc)
made_is_key (suc (suc (suc (suc (suc (suc (suc (suc s)))))))) a e = absurd (cc)

text_is_no_key : (a : Atom) → key shared ≡ a → secret ≢ atom a
text_is_no_key a e f = let g : secret ≡ atom (key shared) = f ∙ ap atom (sym e) in absurd (cc)

pub text_not_created : IsNotCreated opened secret
text_not_created = record { no_tag = λ s bytes e f. no_tag_made s bytes e; no_atom = λ s a e. text_is_no_key a (made_is_key s a e) }

encryption_is_no_atom : (a : Atom) → locked ≢ atom a
encryption_is_no_atom a e = cc

pub encryption_not_created : IsNotCreated opened locked
encryption_not_created = record { no_tag = λ s bytes e f. no_tag_made s bytes e; no_atom = λ s a e. encryption_is_no_atom a }

-- The text stands in its encryption only inside.
not_outside_at : {m : Message} → IsOutside every secret m → m ≡ locked → ⊥
not_outside_at is_whole e = absurd (cc)
not_outside_at (outside_plaintext e o) f = absurd (cc)
not_outside_at _ e = absurd (cc)

pub text_not_outside : IsOutside every secret locked → ⊥
text_not_outside o = not_outside_at o refl

first_on : (i : ℕ) (e : Event Message) → i < 1 → event_at opened.strands (node_at 1 i) ≡ Some e → IsOutside every secret (payload e) → ⊥
first_on zero e l at o = let same : payload e ≡ locked = let q : recv locked ≡ e = cc in ap payload (sym q) in not_outside_at o same
first_on (suc i) e l at o = absurd (omega arith)

-- The outcomes.
pub released : IsReleased opened every secret heard_from_opener
released = record {
  node = node_at 1 1;
  role = opener;
  height = 2;
  values = zeros;
  on_regular = refl;
  sent = secret;
  transmission = refl;
  outside = is_whole;
  first = first_on;
  earlier = one_step (along_link {n = heard_from_opener} {m = secret} refl);
}

pub decrypted : IsDecrypted opened every secret heard_from_decryption
decrypted = decrypted_there opened every secret heard_from_decryption 4 secret shared refl (refl, is_whole, text_not_outside) (one_step (along_link {n = heard_from_decryption} {m = secret} refl))

pub encrypted : IsEncrypted opened locked heard_from_encryption
encrypted = encrypted_there opened locked heard_from_encryption 6 secret shared refl refl (one_step (along_link {n = heard_from_encryption} {m = locked} refl))
