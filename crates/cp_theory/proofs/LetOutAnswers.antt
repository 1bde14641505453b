-- The second example's test is covered by one skeleton.
use Rattle.std.proofs.Common.{◌≡◌, ℕ, zero, suc, List, [], ◌∷◌, Some, refl, sym, ap, ◌∙◌, subst, ◌⊎◌, inl, inr, arith, ◌==◌}
use Rattle.cp_lists.specs.Lists.{item_at, IsIn, here, there, one_step}
use Rattle.cp_lists.proofs.Members.{not_in_none, only_item, head_or_behind}
use Rattle.std.proofs.Common.{⊎_elim}
use Rattle.cp_model.specs.Message.{symmetric, key, atom, itself, in_plaintext}
use Rattle.cp_model.specs.Term.{KeyTerm, inverse_term, skey_variable, symmetric_term, text_variable, key_term, Term, atom_term, enc_term, Assignment, value_of, value_of_atom, Substitution}
use Rattle.cp_model.specs.Bindings.{Binding}
use Rattle.cp_model.specs.declared.sort.Sort.TheVariants.{Skey as skey_sort}
use Rattle.cp_model.specs.Identity.{unchanged}
use Rattle.cp_model.specs.Strand.{Role}
use Rattle.cp_model.specs.declared.strand.Event.TheVariants.{Send as send, Receive as recv}
use Rattle.cp_model.specs.Bundle.{node_at, OriginatesAt, Bundle}
use Rattle.cp_model.specs.declared.node.Node.{Node}
use Rattle.cp_model.specs.Skeleton.{instance, listener, term_event_at, Skeleton, Before, along_pair}
use Rattle.cp_model.specs.Standing.{Standing, StandsIn, StandsApart}
use Rattle.cp_model.specs.Tree.{Pattern}
use Rattle.cp_model.specs.declared.step.Step.{Step}
use Rattle.cp_model.specs.declared.step.Step.TheVariants.{Left, Right, Plaintext}
use Rattle.cp_model.specs.Positions.{term_at}
use Rattle.cp_theory.specs.Normal.{terms_under, skeleton_under}
use Rattle.cp_theory.proofs.Images.{image_event}
use Rattle.cp_theory.specs.Matches.{IsFreeIn}
use Rattle.cp_theory.specs.Inside.{IsInside}
use Rattle.cp_model.specs.Extensions.{IsClosedPrefix}
use Rattle.cp_theory.specs.Forms.{KeepStandings}
use Rattle.cp_theory.specs.FittingAssignments.{Fits}
use Rattle.cp_theory.specs.Trials.{ReleaseTest, IsCarriedEarlier, AreValuesInside, SolvesTest, settled, branched}
use Rattle.cp_theory.specs.Covering.{put_before, IsContracted, IsSolvedUnder, IsAddedStrand, IsListenedTo, trial_at, IsCovering}
use Rattle.cp_theory.specs.EncryptionExamples.{shared, locked, locker, new_terms}
use Rattle.cp_theory.specs.LetOut.{secret, opener, protocol, unique_text, let_out, reception, sent_encryption, with_opener, text_as_old, key_as_old, answer_opened}
use Rattle.cp_theory.proofs.Built.{listed_comes_down}
use Rattle.cp_theory.proofs.HeardCovered.{closed, added_new, never_heard, new_locked, in_new_locked, text_kept, key_kept, values_kept}
use Rattle.cp_theory.proofs.LetOutTest.{is_first, sends_locked}

abbrev guard : List Pattern
guard = sent_encryption ∷ []

-- ---- values of new variables that are those of old ones

text_fits : (k : Skeleton) (g : Assignment) → g.texts 0 ≡ g.texts 2 → Fits let_out unchanged k g text_as_old
text_fits k g same = record { values = g; same_inside = λ x i. refl; same_of_first = λ x i. refl; fits = values_kept g text_as_old.texts text_as_old.skeys (λ n. text_kept g same n (n == 2) refl) (λ n. refl) }

key_fits : (s : Substitution) (k : Skeleton) (g : Assignment) → g.skeys 1 ≡ g.skeys 3 → Fits let_out s k g key_as_old
key_fits s k g same = record { values = g; same_inside = λ x i. refl; same_of_first = λ x i. refl; fits = values_kept g key_as_old.texts key_as_old.skeys (λ n. refl) (λ n. key_kept g same n (n == 3) refl) }

-- ---- a second locker

abbrev with_locker : Skeleton
with_locker = record let_out { strands = instance locker 1 [] ∷ listener secret ∷ instance locker 1 new_terms ∷ [] }

abbrev second_locked : Skeleton
second_locked = skeleton_under text_as_old (put_before (node_at 2 0) reception with_locker)

-- The text would originate on two strands.
module _ (b : Bundle) (h : Standing) (stands : StandsIn second_locked b h) (apart : StandsApart second_locked h) where
  originates : OriginatesAt b.strands (atom (value_of_atom h.values (text_variable 0))) (node_at (h.nodes 2).strand 0)
  originates = record {
    sent = value_of h.values (enc_term secret (symmetric_term (skey_variable 3)));
    transmission = image_event b h 2 locker 1 (terms_under text_as_old locker 1 new_terms) 0 (send (enc_term secret (symmetric_term (skey_variable 3)))) (stands.instances 2 locker 1 (terms_under text_as_old locker 1 new_terms) refl) refl;
    carried = in_plaintext itself;
    first = λ j e l at c. absurd (omega (arith, l));
  }

  twice : ⊥
  twice =
      let one : node_at (h.nodes 2).strand 0 ≡ node_at (h.nodes 0).strand 0 = (stands.unique unique_text here).only (node_at (h.nodes 2).strand 0) originates in
      let same : 2 ≡ 0 = apart 2 0 locker 1 (terms_under text_as_old locker 1 new_terms) locker 1 (terms_under text_as_old locker 1 []) refl refl (ap (λ (n : Node). n.strand) one) in
      omega (arith, same)

none_locks_twice : KeepStandings protocol second_locked []
none_locks_twice b h is stands apart = absurd (twice b h stands apart)

locker_at : (path : List Step) (u : Term) → term_at new_locked path ≡ Some u → (g : Assignment) → value_of g u ≡ value_of g secret → IsSolvedUnder (trial_at protocol let_out guard secret 2 0 path) (answer_opened ∷ []) (put_before (node_at 2 0) reception with_locker) g
locker_at path u at g same =
    ⊎_elim
    (λ (whole : u ≡ new_locked). let value : value_of g new_locked ≡ value_of g secret = subst (λ (z : Term). value_of g z ≡ value_of g secret) whole same in absurd (cc))
    (λ (part : u ≡ atom_term (text_variable 2)).
    let value : value_of g (atom_term (text_variable 2)) ≡ value_of g secret = subst (λ (z : Term). value_of g z ≡ value_of g secret) part same in
    let texts : g.texts 0 ≡ g.texts 2 = cc in
    record {
      substitution = text_as_old;
      fits = text_fits (put_before (node_at 2 0) reception with_locker) g texts;
      tried = settled (record { forms = []; keep = none_locks_twice; listed = λ form i. absurd (not_in_none i) });
    })
    (in_new_locked path u at)

locker_sends : (t : Term) → term_event_at with_locker.strands (node_at 2 0) ≡ Some (send t) → new_locked ≡ t
locker_sends t ev = cc

added_locker : (path : List Step) → IsAddedStrand (trial_at protocol let_out guard secret 2 0 path) (answer_opened ∷ []) reception locker
added_locker path = added_new (trial_at protocol let_out guard secret 2 0 path) (answer_opened ∷ []) reception locker refl refl refl refl closed refl
    (λ acyclic t u ev at g same. locker_at path u (subst (λ (z : Term). term_at z path ≡ Some u) (sym (locker_sends t ev)) at) g same)

-- ---- an opener

opener_closed : IsClosedPrefix opener 2
opener_closed x here = refl
opener_closed x (there here) = refl
opener_closed x (there (there here)) = refl
opener_closed x (there (there (there i))) = absurd (not_in_none i)

abbrev put_opener : Skeleton
put_opener = put_before (node_at 2 1) reception with_opener

abbrev trial : List Step → ReleaseTest
trial path = trial_at protocol let_out guard secret 2 1 path

-- What it opens carries the text, under a key that must be the old one.
abbrev received : (path : List Step) → IsCarriedEarlier (trial path) text_as_old (skeleton_under text_as_old put_opener)
received path = record {
  index = 0;
  earlier = omega arith;
  on_instance = record { role = opener; height = 2; terms = terms_under text_as_old opener 2 new_terms; on_instance = refl };
  event = recv (enc_term secret (symmetric_term (skey_variable 3)));
  there = refl;
  path = Plaintext ∷ [];
  carried = refl;
}

same_keys : (path : List Step) (g : Assignment) → AreValuesInside (trial path) text_as_old (skeleton_under text_as_old put_opener) (received path) g → g.skeys 1 ≡ g.skeys 3
same_keys path g inside =
    let encryption : inside.encryption ≡ enc_term secret (symmetric_term (skey_variable 3)) = only_item inside.above in
    let pattern : inside.protected.pattern ≡ sent_encryption = only_item inside.protected.listed in
    let free : IsFreeIn (record { sort = skey_sort; number = 1 }) inside.protected.pattern = subst (IsFreeIn (record { sort = skey_sort; number = 1 })) (sym pattern) (record { occurs = there here; no_local = not_in_none }) in
    let f = inside.protected.matches.filled in
    let said : atom (key (symmetric (f.skeys 1))) ≡ atom (key (symmetric (g.skeys 1))) = inside.protected.matches.as_said (record { sort = skey_sort; number = 1 }) free in
    let value : value_of f locked ≡ value_of g (enc_term secret (symmetric_term (skey_variable 3))) =
    ap (λ (q : Pattern). value_of f q.term) (sym pattern) ∙ inside.protected.matches.same ∙ ap (value_of g) encryption in
    cc

opener_tried : (path : List Step) → SolvesTest (trial path) (answer_opened ∷ []) text_as_old (skeleton_under text_as_old put_opener)
opener_tried path = branched (received path) (λ g inside. key_as_old) (λ g inside. key_fits text_as_old (skeleton_under text_as_old put_opener) g (same_keys path g inside))
    (λ g inside. settled (listed_comes_down protocol (answer_opened ∷ []) answer_opened here))

opener_at : (path : List Step) (u : Term) → term_at (atom_term (text_variable 2)) path ≡ Some u → (g : Assignment) → value_of g u ≡ value_of g secret → IsSolvedUnder (trial path) (answer_opened ∷ []) put_opener g
opener_at [] u at g same =
    let whole : u ≡ atom_term (text_variable 2) = cc in
    let value : value_of g (atom_term (text_variable 2)) ≡ value_of g secret = subst (λ (z : Term). value_of g z ≡ value_of g secret) whole same in
    let texts : g.texts 0 ≡ g.texts 2 = cc in
    record { substitution = text_as_old; fits = text_fits put_opener g texts; tried = opener_tried [] }
opener_at (Left ∷ path) u at g same = absurd (cc)
opener_at (Right ∷ path) u at g same = absurd (cc)
opener_at (Plaintext ∷ path) u at g same = absurd (cc)

opener_sends : (t : Term) → term_event_at with_opener.strands (node_at 2 1) ≡ Some (send t) → atom_term (text_variable 2) ≡ t
opener_sends t ev = cc

added_opener : (path : List Step) → IsAddedStrand (trial path) (answer_opened ∷ []) reception opener
added_opener path = added_new (trial path) (answer_opened ∷ []) reception opener refl refl refl refl opener_closed refl
    (λ acyclic t u ev at g same. opener_at path u (subst (λ (z : Term). term_at z path ≡ Some u) (sym (opener_sends t ev)) at) g same)

-- ---- all roles

locker_place : (j : ℕ) (t : Term) (path : List Step) → item_at locker.trace j ≡ Some (send t) → IsAddedStrand (trial_at protocol let_out guard secret 2 j path) (answer_opened ∷ []) reception locker
locker_place zero t path at = added_locker path
locker_place (suc j) t path at = absurd (cc)

opener_place : (j : ℕ) (t : Term) (path : List Step) → item_at opener.trace j ≡ Some (send t) → IsAddedStrand (trial_at protocol let_out guard secret 2 j path) (answer_opened ∷ []) reception opener
opener_place zero t path at = absurd (cc)
opener_place (suc zero) t path at = added_opener path
opener_place (suc (suc j)) t path at = absurd (cc)

abbrev IsAddedAt : ℕ → List Step → Role → Type 0
IsAddedAt j path role = IsAddedStrand (trial_at protocol let_out guard secret 2 j path) (answer_opened ∷ []) reception role

added_role : (role : Role) (j : ℕ) (t : Term) (path : List Step) → IsIn role protocol.roles → item_at role.trace j ≡ Some (send t) → IsAddedAt j path role
added_role role j t path i at =
    ⊎_elim
    (λ (e : role ≡ locker). subst (IsAddedAt j path) (sym e) (locker_place j t path (subst (λ (r : Role). item_at r.trace j ≡ Some (send t)) e at)))
    (λ k. let e : role ≡ opener = only_item k in subst (IsAddedAt j path) (sym e) (opener_place j t path (subst (λ (r : Role). item_at r.trace j ≡ Some (send t)) e at)))
    (head_or_behind i)

-- ---- strands that are there

contracted_at : (t u : Term) (path : List Step) → locked ≡ t → term_at t path ≡ Some u → IsInside guard unchanged t path ⊎ ((u ≡ secret) ⊎ ((g : Assignment) → value_of g u ≡ value_of g secret → IsContracted protocol (answer_opened ∷ []) let_out g))
contracted_at t u path e at = at_path path (subst (λ (z : Term). term_at z path ≡ Some u) (sym e) at)
  where
    at_path : (way : List Step) → term_at locked way ≡ Some u → IsInside guard unchanged t path ⊎ ((u ≡ secret) ⊎ ((g : Assignment) → value_of g u ≡ value_of g secret → IsContracted protocol (answer_opened ∷ []) let_out g))
    at_path [] ev = let whole : u ≡ locked = cc in inr (inr (λ g same. let value : value_of g locked ≡ value_of g secret = subst (λ (z : Term). value_of g z ≡ value_of g secret) whole same in absurd (cc)))
    at_path (Plaintext ∷ []) ev = inr (inl cc)
    at_path (Plaintext ∷ Left ∷ way) ev = absurd (cc)
    at_path (Plaintext ∷ Right ∷ way) ev = absurd (cc)
    at_path (Plaintext ∷ Plaintext ∷ way) ev = absurd (cc)
    at_path (Left ∷ way) ev = absurd (cc)
    at_path (Right ∷ way) ev = absurd (cc)

already : (s : ℕ) (role : Role) (height : ℕ) (terms : List Binding) (j : ℕ) (t : Term) → item_at let_out.strands s ≡ Some (instance role height terms) → item_at role.trace j ≡ Some (send t) → node_at s j ≡ node_at 0 0
already s role height terms j t at ev =
    let first = is_first s role height terms at in
    let both : Some (instance locker 1 []) ≡ Some (instance role height terms) = first.1 in
    let same : role ≡ locker = cc in
    let place : j ≡ 0 = first_place j (subst (λ (r : Role). item_at r.trace j ≡ Some (send t)) same ev) in
    λ i. node_at (first.0 i) (place i)
  where
    first_place : (i : ℕ) → item_at locker.trace i ≡ Some (send t) → i ≡ 0
    first_place zero q = refl
    first_place (suc i) q = absurd (cc)

-- ---- the listener on the pattern's key

listened : IsListenedTo protocol (answer_opened ∷ []) let_out reception (atom_term (key_term shared))
listened = never_heard protocol (answer_opened ∷ []) let_out reception (key_term shared) here refl

key_listened : (p : Pattern) (body : Term) (k : KeyTerm) → p ≡ sent_encryption → p.term ≡ enc_term body k → IsListenedTo protocol (answer_opened ∷ []) let_out reception (atom_term (key_term (inverse_term k)))
key_listened p body k same e =
    let both : locked ≡ enc_term body k = ap (λ (q : Pattern). q.term) (sym same) ∙ e in
    let is : shared ≡ k = cc in
    subst (λ (z : KeyTerm). IsListenedTo protocol (answer_opened ∷ []) let_out reception (atom_term (key_term (inverse_term z)))) is listened

pub let_out_covering : IsCovering protocol let_out reception secret guard (answer_opened ∷ [])
let_out_covering = record {
  contracted = λ m t u path on ev before at. contracted_at t u path (sends_locked m t (is_first m.strand on.role on.height on.terms on.on_instance).0 ev).1 at;
  displaced = λ s role height terms j t u path at ne ev there_at. inl (subst (λ (m : Node). Before let_out m reception) (sym (already s role height terms j t at ev)) (one_step (along_pair here)));
  added = λ role j t u path i at ev. added_role role j t path i at;
  encrypted = λ body k e. absurd (cc);
  keys = λ p body k i e. key_listened p body k (only_item i) e;
}
