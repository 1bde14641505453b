-- Where the penetrator has received the key or the plaintext, or the inverse of a pattern's key, a listener hears it.
use Rattle.std.proofs.Common.{◌≡◌, List, length, Option, Some, Bool, true, false, not, refl, sym, ap, ap₂, ◌∙◌, subst, ⊎_elim}
use Rattle.std.proofs.Common.{subst₂}
use Rattle.cp_lists.specs.Lists.{IsIn}
use Rattle.cp_lists.proofs.Members.{in_append_right}
use Rattle.cp_model.specs.Message.{Key, asymmetric, inverse, key, Message, enc, atom}
use Rattle.cp_model.specs.Term.{PairTerm, akey_variable, pubk_term, KeyTerm, symmetric_term, asymmetric_term, key_term, inverse_term, Term, tag_term, atom_term, pair_term, enc_term, variable_term, variables_of, Assignment, flag_of, value_of, value_of_key, value_of_half}
use Rattle.cp_model.specs.declared.variable.Variable.{Variable}
use Rattle.cp_model.specs.Identity.{unchanged}
use Rattle.cp_model.specs.Strand.{Protocol}
use Rattle.cp_model.specs.declared.strand.Event.TheVariants.{Receive as recv}
use Rattle.cp_model.specs.KeyMessage.{key_message}
use Rattle.cp_model.specs.Bundle.{node_at, event_at, Bundle, Precedes}
use Rattle.cp_model.specs.declared.node.Node.{Node}
use Rattle.cp_model.specs.Skeleton.{SkeletonStrand, Skeleton}
use Rattle.cp_model.specs.Standing.{Standing, image_on, image_of}
use Rattle.cp_model.specs.Tree.{Pattern}
use Rattle.cp_model.proofs.LawAgreement.{agree_value}
use Rattle.cp_theory.specs.AuthenticationTest.{IsEncrypted, IsDecrypted}
use Rattle.cp_theory.specs.Matches.{IsFreeIn, MatchesMessage}
use Rattle.cp_theory.specs.Guards.{HoldsNoLocalInItsKey}
use Rattle.cp_theory.specs.Covering.{put_before, IsListenedTo}
use Rattle.cp_theory.specs.NoneLeftOut.{GoesOn}
use Rattle.cp_theory.proofs.Reached.{goes_down}
use Rattle.cp_theory.proofs.StrandReleases.{Situation, reached_grown}
use Rattle.cp_theory.proofs.Grown.{listening, listener_node, listener_there, has_listener}

-- The inverse of a key term has the inverse value.
flag_inverse : (a b : Bool) → flag_of (not a) b ≡ not (flag_of a b)
flag_inverse true true = refl
flag_inverse true false = refl
flag_inverse false b = refl

half_inverse : (g : Assignment) (flag : Bool) (k : PairTerm) → asymmetric (value_of_half g (not flag) k).0 (value_of_half g (not flag) k).1 ≡ inverse (asymmetric (value_of_half g flag k).0 (value_of_half g flag k).1)
half_inverse g flag (akey_variable n) = ap (λ (e : Bool). asymmetric e (g.akeys n).1) (flag_inverse flag (g.akeys n).0)
half_inverse g flag (pubk_term p a) = refl

value_of_inverse : (g : Assignment) (k : KeyTerm) → value_of_key g (inverse_term k) ≡ inverse (value_of_key g k)
value_of_inverse g (symmetric_term k) = refl
value_of_inverse g (asymmetric_term flag k) = half_inverse g flag k

-- The key of a matching pattern has the value of the message's key, where it holds no local.
record PatternKey (p : Pattern) (g : Assignment) (k : Key) : Type 0 where
  body : Term
  key : KeyTerm
  encryption : p.term ≡ enc_term body key
  same : value_of_key g key ≡ k

same_key : (p : Pattern) (g f : Assignment) (body : Term) (kt : KeyTerm) → p.term ≡ enc_term body kt → HoldsNoLocalInItsKey p →
    ((x : Variable) → IsFreeIn x p → value_of f (variable_term x) ≡ value_of g (variable_term x)) → value_of_key f kt ≡ value_of_key g kt
same_key p g f body kt e holds as_said =
    let both : atom (key (value_of_key f kt)) ≡ atom (key (value_of_key g kt)) =
    agree_value f g (atom_term (key_term kt)) (λ x i. as_said x (record { occurs = subst (λ (t : Term). IsIn x (variables_of t)) (sym e) (in_append_right (variables_of body) i); no_local = holds body kt x e i })) in
    cc

pattern_key : (p : Pattern) (g : Assignment) (m : Message) (k : Key) (body : Term) (kt : KeyTerm) → p.term ≡ enc_term body kt → HoldsNoLocalInItsKey p → MatchesMessage p g (enc m k) → PatternKey p g k
pattern_key p g m k body kt e holds matches =
    let value : enc (value_of matches.filled body) (value_of_key matches.filled kt) ≡ enc m k = ap (value_of matches.filled) (sym e) ∙ matches.same in
    let key_value : value_of_key matches.filled kt ≡ k = cc in
    record { body = body; key = kt; encryption = e; same = sym (same_key p g matches.filled body kt e holds matches.as_said) ∙ key_value }

-- A term whose value is an encryption, and that is no pair, is one.
pub record IsEncryptionOf (g : Assignment) (c : Term) (m : Message) (k : Key) : Type 0 where
  pub body : Term
  pub key : KeyTerm
  pub encryption : c ≡ enc_term body key
  pub body_value : value_of g body ≡ m
  pub key_value : value_of_key g key ≡ k

pub encryption_of : (g : Assignment) (c : Term) (m : Message) (k : Key) → value_of g c ≡ enc m k → IsEncryptionOf g c m k
encryption_of g (tag_term bytes) m k e = absurd (cc)
encryption_of g (atom_term a) m k e = absurd (cc)
encryption_of g (pair_term a b) m k e = absurd (cc)
encryption_of g (enc_term a kt) m k e = record { body = a; key = kt; encryption = refl; body_value = cc; key_value = cc }

module _ (protocol : Protocol) (k : Skeleton) (n : Node) (c : Term) (ps : List Pattern) (ks : List Skeleton) (b : Bundle) (h : Standing) (test : Message → Key → Bool)
    (here : Situation protocol k n c ps ks b h test) where
  -- The term is received at a node that precedes n's image.
  pub listened_goes_on : (t : Term) (node : Node) → event_at b.strands node ≡ Some (recv (value_of h.values t)) → Precedes b node (image_of k h n) → IsListenedTo protocol ks k n t → GoesOn ks k b h
  listened_goes_on t node heard earlier l =
      let place = length k.strands in
      let g = listening k l.added b h here.stands here.apart t l.adds node heard in
      let has = has_listener k l.added b h here.stands here.apart t l.adds node heard in
      let image : image_of l.added g (node_at place 1) ≡ node =
      ap₂ (λ (o : Option SkeletonStrand) (m : Node). image_on o m 1) (listener_there k l.added b h here.stands here.apart t l.adds node heard) (listener_node k l.added b h here.stands here.apart t l.adds node heard) in
      let precedes : Precedes b (image_of l.added g (node_at place 1)) (image_of l.added g n) = subst₂ (Precedes b) (sym image) (sym (has.images n (here.received, here.reception))) earlier in
      goes_down protocol ks k b h unchanged (put_before (node_at place 1) n l.added) g here.bundle (reached_grown protocol k l.added b h g (node_at place 1) n here.skeleton here.stands has precedes) l.down

  heard_key : (kt : KeyTerm) (m : Key) (node : Node) → value_of_key h.values kt ≡ m → event_at b.strands node ≡ Some (recv (key_message m)) → event_at b.strands node ≡ Some (recv (value_of h.values (atom_term (key_term kt))))
  heard_key kt m node same heard = heard ∙ ap (λ (z : Key). Some (recv (key_message z))) (sym same)

  -- The penetrator has encrypted the term.
  pub encrypted_goes_on : IsEncrypted b (value_of h.values c) (image_of k h n) → GoesOn ks k b h
  encrypted_goes_on r =
      let e = encryption_of h.values c r.plaintext r.key r.is_encryption in
      ⊎_elim
      (listened_goes_on (atom_term (key_term e.key)) (node_at r.strand 0) (heard_key e.key r.key (node_at r.strand 0) e.key_value r.key_received) r.key_earlier)
      (listened_goes_on e.body (node_at r.strand 1) (r.plaintext_received ∙ ap (λ (z : Message). Some (recv z)) (sym e.body_value)) r.plaintext_earlier)
      (here.covering.encrypted e.body e.key e.encryption)

  -- He has decrypted a protecting encryption.
  pub decrypted_goes_on : IsDecrypted b test (value_of h.values c) (image_of k h n) → GoesOn ks k b h
  decrypted_goes_on r =
      let protected = here.tells.sound r.plaintext r.key r.protected in
      let p = protected.pattern in
      let e = (here.guards.patterns p protected.listed).encryption in
      let pk = pattern_key p h.values r.plaintext r.key e.body e.key e.encrypted (here.guards.keys p protected.listed) protected.matches in
      let same : value_of_key h.values (inverse_term pk.key) ≡ inverse r.key = value_of_inverse h.values pk.key ∙ ap inverse pk.same in
      listened_goes_on (atom_term (key_term (inverse_term pk.key))) (node_at r.strand 0) (heard_key (inverse_term pk.key) (inverse r.key) (node_at r.strand 0) same r.key_received) r.key_earlier
      (here.covering.keys p pk.body pk.key protected.listed pk.encryption)
