-- The authentication test: where the first transmission of a message outside can be.
use Rattle.std.proofs.Common.{◌≡◌, ℕ, zero, suc, ◌<◌, List, [], ◌∷◌, Option, Some, None, Bool, true, false, refl, sym, ap, ◌∙◌, subst, ◌⊎◌, inl, inr, ⊎_elim, arith}
use Rattle.std.proofs.lemmas.Bool.{true_from_ne_false}
use Rattle.cp_lists.specs.Lists.{item_at}
use Rattle.cp_model.specs.Message.{Key, inverse, Atom, Message, tag, atom, pair, enc}
use Rattle.cp_model.specs.Strand.{payload, Protocol, Penetrator, create_tag, create_atom, pairing, splitting, encryption, decryption, hearing, penetrator_trace, Strand, regular, penetrator}
use Rattle.cp_model.specs.declared.strand.Event.{Event}
use Rattle.cp_model.specs.declared.strand.Event.TheVariants.{Send as send, Receive as recv}
use Rattle.cp_model.specs.KeyMessage.{key_message}
use Rattle.cp_model.specs.Bundle.{node_at, trace_or_none, event_at, Bundle, Precedes, IsBundle}
use Rattle.cp_model.specs.declared.node.Node.{Node}
use Rattle.cp_model.proofs.LawMessages.{dec_message, dec_or}
use Rattle.cp_model.proofs.LawStandings.{bundle_climb}
use Rattle.cp_lists.proofs.Reached.{steps_append}
use Rattle.cp_theory.specs.AuthenticationTest.{IsOutside, is_whole, outside_left, outside_right, outside_plaintext, IsNoPairMessage, IsNotCreated, IsEncrypted, IsDecrypted, IsAnswered}
use Rattle.cp_theory.proofs.Sources.{IsSource, source_before_reception}

-- Outside in a message: the message itself, or outside in its parts.
abbrev InParts : (Message → Key → Bool) → Message → Message → Type 0
InParts protects c (tag bytes) = ⊥
InParts protects c (atom a) = ⊥
InParts protects c (pair x y) = IsOutside protects c x ⊎ IsOutside protects c y
InParts protects c (enc x k) = (protects x k ≡ false) × IsOutside protects c x

pub outside_cases : {protects : Message → Key → Bool} {c m : Message} → IsOutside protects c m → (c ≡ m) ⊎ InParts protects c m
outside_cases is_whole = inl refl
outside_cases (outside_left p) = inr (inl p)
outside_cases (outside_right p) = inr (inr p)
outside_cases (outside_plaintext e p) = inr (e, p)

dec_parts : (protects : Message → Key → Bool) (c m : Message) → (InParts protects c m → IsOutside protects c m) → Dec (c ≡ m) → Dec (InParts protects c m) → Dec (IsOutside protects c m)
dec_parts protects c m back (yes e) d = yes (subst (IsOutside protects c) e is_whole)
dec_parts protects c m back (no n) (yes p) = yes (back p)
dec_parts protects c m back (no n) (no q) = no (λ o. ⊎_elim n q (outside_cases o))

dec_and : {A B : Type 0} → Dec A → Dec B → Dec (A × B)
dec_and (yes a) (yes b) = yes (a, b)
dec_and (yes a) (no n) = no (λ r. n r.1)
dec_and (no n) d = no (λ r. n r.0)

dec_false : (x : Bool) → Dec (x ≡ false)
dec_false false = yes refl
dec_false true = no (λ e. cc)

pub dec_outside : (protects : Message → Key → Bool) (c m : Message) → Dec (IsOutside protects c m)
dec_outside protects c (tag bytes) = dec_parts protects c (tag bytes) absurd (dec_message c (tag bytes)) (no (λ p. p))
dec_outside protects c (atom a) = dec_parts protects c (atom a) absurd (dec_message c (atom a)) (no (λ p. p))
dec_outside protects c (pair x y) = dec_parts protects c (pair x y) (⊎_elim outside_left outside_right) (dec_message c (pair x y)) (dec_or (dec_outside protects c x) (dec_outside protects c y))
dec_outside protects c (enc x k) = dec_parts protects c (enc x k) (λ r. outside_plaintext r.0 r.1) (dec_message c (enc x k)) (dec_and (dec_false (protects x k)) (dec_outside protects c x))

-- What a strand of the penetrator on which c is sent outside first has to be.
abbrev Makes : (Message → Key → Bool) → Message → Penetrator → Type 0
Makes protects c (create_tag bytes) = c ≡ tag bytes
Makes protects c (create_atom a) = c ≡ atom a
Makes protects c (pairing x y) = ⊥
Makes protects c (splitting x y) = ⊥
Makes protects c (encryption x k) = c ≡ enc x k
Makes protects c (decryption x k) = (protects x k ≡ true) × IsOutside protects c x × (IsOutside protects c (enc x k) → ⊥)
Makes protects c (hearing x) = ⊥

abbrev NoneEarlier : (Message → Key → Bool) → Message → List (Event Message) → ℕ → Type 0
NoneEarlier protects c trace i = (k : ℕ) (e : Event Message) → k < i → item_at trace k ≡ Some e → IsOutside protects c (payload e) → ⊥

whole_tag : (protects : Message → Key → Bool) (c : Message) (bytes : List ℕ) → (c ≡ tag bytes) ⊎ InParts protects c (tag bytes) → c ≡ tag bytes
whole_tag protects c bytes (inl e) = e
whole_tag protects c bytes (inr p) = absurd p

whole_atom : (protects : Message → Key → Bool) (c : Message) (a : Atom) → (c ≡ atom a) ⊎ InParts protects c (atom a) → c ≡ atom a
whole_atom protects c a (inl e) = e
whole_atom protects c a (inr p) = absurd p

no_pairing : (protects : Message → Key → Bool) (c x y : Message) → IsNoPairMessage c → NoneEarlier protects c (penetrator_trace (pairing x y)) 2 → (c ≡ pair x y) ⊎ InParts protects c (pair x y) → ⊥
no_pairing protects c x y np none (inl e) = np x y e
no_pairing protects c x y np none (inr (inl p)) = none 0 (recv x) (omega arith) refl p
no_pairing protects c x y np none (inr (inr p)) = none 1 (recv y) (omega arith) refl p

is_encrypted : (protects : Message → Key → Bool) (c x : Message) (k : Key) → NoneEarlier protects c (penetrator_trace (encryption x k)) 2 → (c ≡ enc x k) ⊎ InParts protects c (enc x k) → c ≡ enc x k
is_encrypted protects c x k none (inl e) = e
is_encrypted protects c x k none (inr p) = absurd (none 1 (recv x) (omega arith) refl p.1)

-- What is sent there.
sent_is : {protects : Message → Key → Bool} {c x t : Message} → Some (send x) ≡ Some (send t) → IsOutside protects c t → IsOutside protects c x
sent_is {protects = protects} {c = c} {x = x} {t = t} e o = let same : t ≡ x = cc in subst (IsOutside protects c) same o

makes : (protects : Message → Key → Bool) (c : Message) → IsNoPairMessage c → (p : Penetrator) (i : ℕ) (t : Message) → item_at (penetrator_trace p) i ≡ Some (send t) → IsOutside protects c t →
    NoneEarlier protects c (penetrator_trace p) i → Makes protects c p
makes protects c np (create_tag bytes) zero t at o none = whole_tag protects c bytes (outside_cases (sent_is at o))
makes protects c np (create_tag bytes) (suc i) t at o none = absurd (cc)
makes protects c np (create_atom a) zero t at o none = whole_atom protects c a (outside_cases (sent_is at o))
makes protects c np (create_atom a) (suc i) t at o none = absurd (cc)
makes protects c np (pairing x y) zero t at o none = absurd (cc)
makes protects c np (pairing x y) (suc zero) t at o none = absurd (cc)
makes protects c np (pairing x y) (suc (suc zero)) t at o none = no_pairing protects c x y np none (outside_cases (sent_is at o))
makes protects c np (pairing x y) (suc (suc (suc i))) t at o none = absurd (cc)
makes protects c np (splitting x y) zero t at o none = absurd (cc)
makes protects c np (splitting x y) (suc zero) t at o none = none 0 (recv (pair x y)) (omega arith) refl (outside_left (sent_is at o))
makes protects c np (splitting x y) (suc (suc zero)) t at o none = none 0 (recv (pair x y)) (omega arith) refl (outside_right (sent_is at o))
makes protects c np (splitting x y) (suc (suc (suc i))) t at o none = absurd (cc)
makes protects c np (encryption x k) zero t at o none = absurd (cc)
makes protects c np (encryption x k) (suc zero) t at o none = absurd (cc)
makes protects c np (encryption x k) (suc (suc zero)) t at o none = is_encrypted protects c x k none (outside_cases (sent_is at o))
makes protects c np (encryption x k) (suc (suc (suc i))) t at o none = absurd (cc)
makes protects c np (decryption x k) zero t at o none = absurd (cc)
makes protects c np (decryption x k) (suc zero) t at o none = absurd (cc)
makes protects c np (decryption x k) (suc (suc zero)) t at o none =
    let inside : IsOutside protects c x = sent_is at o in
    let not : IsOutside protects c (enc x k) → ⊥ = none 1 (recv (enc x k)) (omega arith) refl in
    (true_from_ne_false (protects x k) (λ e. not (outside_plaintext e inside)), inside, not)
makes protects c np (decryption x k) (suc (suc (suc i))) t at o none = absurd (cc)
makes protects c np (hearing x) zero t at o none = absurd (cc)
makes protects c np (hearing x) (suc i) t at o none = absurd (cc)

-- On three-event strands that receive twice the transmission is the third event.
third : (x y z t : Message) (i : ℕ) → item_at (recv x ∷ recv y ∷ send z ∷ []) i ≡ Some (send t) → i ≡ 2
third x y z t zero at = absurd (cc)
third x y z t (suc zero) at = absurd (cc)
third x y z t (suc (suc zero)) at = refl
third x y z t (suc (suc (suc i))) at = absurd (cc)

-- What stands on a strand of the bundle.
on_trace : (b : Bundle) (s i : ℕ) {o : Option Strand} → item_at b.strands s ≡ o → event_at b.strands (node_at s i) ≡ item_at (trace_or_none o) i
on_trace b s i e = ap (λ (o : Option Strand). item_at (trace_or_none o) i) e

-- An earlier event of the strand of x, where x precedes n.
earlier_on : (b : Bundle) (x n : Node) (e : Event Message) → event_at b.strands x ≡ Some e → Precedes b x n → (i : ℕ) → i < x.index → Precedes b (node_at x.strand i) n
earlier_on b x n e ev before i l = steps_append (bundle_climb b x.strand i x.index e ev l) before

-- A strand of the penetrator that encrypts or decrypts, and whose transmission precedes n.
pub encrypted_there : (b : Bundle) (c : Message) (n : Node) (s : ℕ) (a : Message) (k : Key) → item_at b.strands s ≡ Some (penetrator (encryption a k)) → c ≡ enc a k → Precedes b (node_at s 2) n → IsEncrypted b c n
encrypted_there b c n s a k on e before = record {
  plaintext = a;
  key = k;
  is_encryption = e;
  strand = s;
  on_penetrator = on;
  key_received = on_trace b s 0 on;
  key_earlier = earlier_on b (node_at s 2) n (send (enc a k)) (on_trace b s 2 on) before 0 (omega arith);
  plaintext_received = on_trace b s 1 on;
  plaintext_earlier = earlier_on b (node_at s 2) n (send (enc a k)) (on_trace b s 2 on) before 1 (omega arith);
}

pub decrypted_there : (b : Bundle) (protects : Message → Key → Bool) (c : Message) (n : Node) (s : ℕ) (a : Message) (k : Key) →
    item_at b.strands s ≡ Some (penetrator (decryption a k)) → Makes protects c (decryption a k) → Precedes b (node_at s 2) n → IsDecrypted b protects c n
decrypted_there b protects c n s a k on m before = record {
  plaintext = a;
  key = k;
  protected = m.0;
  outside = m.1;
  not_outside = m.2;
  strand = s;
  on_penetrator = on;
  key_received = on_trace b s 0 on;
  key_earlier = earlier_on b (node_at s 2) n (send a) (on_trace b s 2 on) before 0 (omega arith);
  encryption_received = on_trace b s 1 on;
  encryption_earlier = earlier_on b (node_at s 2) n (send a) (on_trace b s 2 on) before 1 (omega arith);
}

encrypted : (b : Bundle) (protects : Message → Key → Bool) (c : Message) (n x : Node) (source : IsSource b (IsOutside protects c) x) → Precedes b x n → (a : Message) (k : Key) →
    item_at b.strands x.strand ≡ Some (penetrator (encryption a k)) → c ≡ enc a k → IsEncrypted b c n
encrypted b protects c n x source before a k on e =
    let at : x.index ≡ 2 = third (key_message k) a (enc a k) source.sent x.index (sym (on_trace b x.strand x.index on) ∙ source.transmission) in
    encrypted_there b c n x.strand a k on e (subst (λ i. Precedes b (node_at x.strand i) n) at before)

decrypted : (b : Bundle) (protects : Message → Key → Bool) (c : Message) (n x : Node) (source : IsSource b (IsOutside protects c) x) → Precedes b x n → (a : Message) (k : Key) →
    item_at b.strands x.strand ≡ Some (penetrator (decryption a k)) → Makes protects c (decryption a k) → IsDecrypted b protects c n
decrypted b protects c n x source before a k on m =
    let at : x.index ≡ 2 = third (key_message (inverse k)) (enc a k) a source.sent x.index (sym (on_trace b x.strand x.index on) ∙ source.transmission) in
    decrypted_there b protects c n x.strand a k on m (subst (λ i. Precedes b (node_at x.strand i) n) at before)

by_penetrator : (b : Bundle) (protects : Message → Key → Bool) (c : Message) (n x : Node) → IsNotCreated b c → (source : IsSource b (IsOutside protects c) x) → Precedes b x n → (p : Penetrator) →
    item_at b.strands x.strand ≡ Some (penetrator p) → Makes protects c p → IsAnswered b protects c n
by_penetrator b protects c n x nc source before (create_tag bytes) on m = absurd (nc.no_tag x.strand bytes on m)
by_penetrator b protects c n x nc source before (create_atom a) on m = absurd (nc.no_atom x.strand a on m)
by_penetrator b protects c n x nc source before (pairing a d) on m = absurd m
by_penetrator b protects c n x nc source before (splitting a d) on m = absurd m
by_penetrator b protects c n x nc source before (encryption a k) on m = inr (inl (encrypted b protects c n x source before a k on m))
by_penetrator b protects c n x nc source before (decryption a k) on m = inr (inr (decrypted b protects c n x source before a k on m))
by_penetrator b protects c n x nc source before (hearing a) on m = absurd m

by_strand : (b : Bundle) (protects : Message → Key → Bool) (c : Message) (n x : Node) → IsNoPairMessage c → IsNotCreated b c → (source : IsSource b (IsOutside protects c) x) → Precedes b x n → (o : Option Strand) →
    item_at b.strands x.strand ≡ o → IsAnswered b protects c n
by_strand b protects c n x np nc source before None on =
    let e : None ≡ Some (send source.sent) = sym (on_trace b x.strand x.index on) ∙ source.transmission in
    absurd (cc)
by_strand b protects c n x np nc source before (Some (regular role height g)) on = inl (record {
  node = x;
  role = role;
  height = height;
  values = g;
  on_regular = on;
  sent = source.sent;
  transmission = source.transmission;
  outside = source.holds;
  first = source.first;
  earlier = before;
})
by_strand b protects c n x np nc source before (Some (penetrator p)) on =
    by_penetrator b protects c n x nc source before p on
    (makes protects c np p x.index source.sent (sym (on_trace b x.strand x.index on) ∙ source.transmission) source.holds (λ k e l at. source.first k e l (on_trace b x.strand k on ∙ at)))

pub answered : (protocol : Protocol) (b : Bundle) → IsBundle protocol b → (protects : Message → Key → Bool) (c : Message) (n : Node) (m : Message) → event_at b.strands n ≡ Some (recv m) → IsOutside protects c m →
    IsNoPairMessage c → IsNotCreated b c → IsAnswered b protects c n
answered protocol b is protects c n m ev o np nc =
    let r = source_before_reception protocol b is (IsOutside protects c) (dec_outside protects c) n m ev o in
    by_strand b protects c n r.0 np nc r.1 r.2 (item_at b.strands r.0.strand) refl
