-- The example's test is covered by one skeleton.
use Rattle.std.proofs.Common.{◌≡◌, ℕ, zero, suc, List, [], ◌∷◌, ◌++◌, length, Some, Bool, true, false, refl, sym, ap, ◌∙◌, subst, ◌⊎◌, inl, inr, ⊎_elim, ◌==◌, eqb-true}
use Rattle.std.specs.Prelude.{◌&&◌, nat_lt, if◌then◌else◌}
use Rattle.std.proofs.lemmas.Bool.{and_parts, ltb-true}
use Rattle.std.proofs.lemmas.List.{append-nil}
use Rattle.cp_lists.specs.Lists.{item_at, IsIn, here, there}
use Rattle.cp_lists.proofs.Members.{not_in_none, only_item}
use Rattle.cp_model.specs.Message.{SymmetricKey, symmetric, text, key, atom}
use Rattle.cp_model.specs.Term.{AtomTerm, KeyTerm, itself_term, skey_variable, SymmetricTerm, symmetric_term, text_variable, key_term, Term, atom_term, enc_term, variable_term, Assignment, value_of, value_of_symmetric, after}
use Rattle.cp_model.specs.Bindings.{as_substitution}
use Rattle.cp_model.specs.declared.sort.Sort.{Sort}
use Rattle.cp_model.specs.declared.sort.Sort.TheVariants.{Text as text_sort, Datum as datum_sort, Name as name_sort, Skey as skey_sort, Akey as akey_sort}
use Rattle.cp_model.specs.declared.variable.Variable.{Variable}
use Rattle.cp_model.specs.Identity.{unchanged}
use Rattle.cp_model.specs.Strand.{Role, Protocol}
use Rattle.cp_model.specs.declared.strand.Event.TheVariants.{Send as send, Receive as recv}
use Rattle.cp_model.specs.Bundle.{node_at}
use Rattle.cp_model.specs.declared.node.Node.{Node}
use Rattle.cp_model.specs.Skeleton.{instance, listener, term_event_at, Skeleton}
use Rattle.cp_model.proofs.LawAgreement.{agree_value}
use Rattle.cp_model.specs.declared.step.Step.{Step}
use Rattle.cp_model.specs.declared.step.Step.TheVariants.{Left, Right, Plaintext}
use Rattle.cp_model.specs.Positions.{term_at}
use Rattle.cp_theory.proofs.NoStandingLost.{none_carried}
use Rattle.cp_model.specs.GivenAssumptions.{AddsOnce}
use Rattle.cp_model.specs.Extensions.{IsClosedPrefix, AddsStrand}
use Rattle.cp_model.specs.PrefixVariables.{prefix_variables, terms_of}
use Rattle.cp_theory.specs.Critical.{used_variables}
use Rattle.cp_theory.specs.Fresh.{fresh_terms, AreBelow}
use Rattle.cp_theory.specs.FittingAssignments.{Fits}
use Rattle.cp_theory.specs.Trials.{ReleaseTest, settled}
use Rattle.cp_theory.specs.Covering.{put_before, CoversRelease, IsSolvedUnder, IsAddedStrand, IsListenedTo, trial_at, IsCovering}
use Rattle.cp_theory.specs.EncryptionExamples.{shared, locked, locker, protocol, heard, reception, new_terms, with_locker, as_old, sent_before}
use Rattle.cp_theory.proofs.Built.{listed_comes_down}
use Rattle.cp_theory.proofs.HeardEncryption.{no_instance}

-- ---- the added strand

abbrev pub are_below : ℕ → List Variable → Bool
are_below n [] = true
are_below n (x ∷ xs) = nat_lt x.number n && are_below n xs

below_by : (n : ℕ) (xs : List Variable) → are_below n xs ≡ true → AreBelow n xs
below_by n [] e x i = absurd (not_in_none i)
below_by n (y ∷ xs) e x here = ltb-true y.number n (and_parts (nat_lt y.number n) (are_below n xs) e).0
below_by n (y ∷ xs) e x (there i) = below_by n xs (and_parts (nat_lt y.number n) (are_below n xs) e).1 x i

pub closed : IsClosedPrefix locker 1
closed x here = refl
closed x (there here) = refl
closed x (there (there i)) = absurd (not_in_none i)

nothing_given : {A : Type 0} {given : A → Type 0} (old : List A) → ((x : A) → given x → ⊥) → AddsOnce given old old
nothing_given old none = record {
  more = [];
  behind = sym (append-nil old);
  only_given = λ x i. absurd (not_in_none i);
  only_missing = λ x i. absurd (not_in_none i);
  once = tt;
  all = λ x g. absurd (none x g);
}

-- A strand of a role that assumes nothing, with the new variables, is added.
strand_added : (k : Skeleton) (role : Role) (j : ℕ) → role.non_originating ≡ [] → role.penetrator_non_originating ≡ [] → role.uniquely_originating ≡ [] →
    terms_of (as_substitution new_terms) (prefix_variables role (suc j)) ≡ fresh_terms 2 (prefix_variables role (suc j)) →
    AddsStrand role (suc j) (fresh_terms 2 (prefix_variables role (suc j))) k (record k { strands = k.strands ++ instance role (suc j) new_terms ∷ [] })
strand_added k role j no_non no_penetrator_non no_unique gives = record {
  terms = new_terms;
  gives = gives;
  strands = refl;
  pairs = refl;
  assumptions = record {
    non = nothing_given k.assumptions.non_originating (λ v g. not_in_none (subst (IsIn g.atom) no_non g.listed));
    penetrator_non = nothing_given k.assumptions.penetrator_non_originating (λ v g. not_in_none (subst (IsIn g.atom) no_penetrator_non g.listed));
    unique = nothing_given k.assumptions.uniquely_originating (λ u g. not_in_none (subst (IsIn g.atom) no_unique g.listed));
  };
  from_problem = refl;
}

pub adds : AddsStrand locker 1 (fresh_terms 2 (prefix_variables locker 1)) heard with_locker
adds = strand_added heard locker 0 refl refl refl refl

-- A strand of a role that assumes nothing, at the end of the role, with the new variables.
pub added_new : (trial : ReleaseTest) (ks : List Skeleton) (n : Node) (role : Role) → role.non_originating ≡ [] → role.penetrator_non_originating ≡ [] → role.uniquely_originating ≡ [] →
    are_below 2 (used_variables trial.first) ≡ true → IsClosedPrefix role (suc trial.index) → terms_of (as_substitution new_terms) (prefix_variables role (suc trial.index)) ≡ fresh_terms 2 (prefix_variables role (suc trial.index)) →
    CoversRelease trial ks n (record trial.first { strands = trial.first.strands ++ instance role (suc trial.index) new_terms ∷ [] }) → IsAddedStrand trial ks n role
added_new trial ks n role no_non no_penetrator_non no_unique below is_closed gives releases =
    let k = trial.first in
    record {
      count = 2;
      below = below_by 2 (used_variables k) below;
      closed = is_closed;
      grown = record k { strands = k.strands ++ instance role (suc trial.index) new_terms ∷ [] };
      adds = strand_added k role trial.index no_non no_penetrator_non no_unique gives;
      releases = releases;
    }

-- ---- what is the same

abbrev pub new_locked : Term
new_locked = enc_term (atom_term (text_variable 2)) (symmetric_term (skey_variable 3))

-- Where the second number has the value of the first, so has each number that becomes the first.
pub text_kept : (g : Assignment) → g.texts 0 ≡ g.texts 2 → (n : ℕ) (b : Bool) → (n == 2) ≡ b → g.texts (if b then 0 else n) ≡ g.texts n
text_kept g same n true e = same ∙ ap g.texts (sym (eqb-true n 2 e))
text_kept g same n false e = refl

pub key_kept : (g : Assignment) → g.skeys 1 ≡ g.skeys 3 → (n : ℕ) (b : Bool) → (n == 3) ≡ b → value_of_symmetric g (if b then skey_variable 1 else skey_variable n) ≡ g.skeys n
key_kept g same n true e = same ∙ ap g.skeys (sym (eqb-true n 3 e))
key_kept g same n false e = refl

-- A substitution of texts and of symmetric keys that keeps their values keeps those of all terms.
pub values_kept : (g : Assignment) (texts : ℕ → ℕ) (keys : ℕ → SymmetricTerm) → ((n : ℕ) → g.texts (texts n) ≡ g.texts n) → ((n : ℕ) → value_of_symmetric g (keys n) ≡ g.skeys n) →
    (u : Term) → value_of (after g (record unchanged { texts = texts; skeys = keys })) u ≡ value_of g u
values_kept g texts keys same_texts same_keys u = agree_value (after g (record unchanged { texts = texts; skeys = keys })) g u (λ x i. kept x.sort x.number)
  where
    kept : (s : Sort) (n : ℕ) → value_of (after g (record unchanged { texts = texts; skeys = keys })) (variable_term (record { sort = s; number = n })) ≡ value_of g (variable_term (record { sort = s; number = n }))
    kept text_sort n = ap (λ (m : ℕ). atom (text m)) (same_texts n)
    kept datum_sort n = refl
    kept name_sort n = refl
    kept skey_sort n = ap (λ (k : SymmetricKey). atom (key (symmetric k))) (same_keys n)
    kept akey_sort n = refl

-- What stands in the encryption is itself, or its text.
pub in_new_locked : (path : List Step) (u : Term) → term_at new_locked path ≡ Some u → (u ≡ new_locked) ⊎ (u ≡ atom_term (text_variable 2))
in_new_locked [] u at = inl cc
in_new_locked (Plaintext ∷ []) u at = inr cc
in_new_locked (Plaintext ∷ Left ∷ path) u at = absurd (cc)
in_new_locked (Plaintext ∷ Right ∷ path) u at = absurd (cc)
in_new_locked (Plaintext ∷ Plaintext ∷ path) u at = absurd (cc)
in_new_locked (Left ∷ path) u at = absurd (cc)
in_new_locked (Right ∷ path) u at = absurd (cc)

module _ (g : Assignment) (same : value_of g new_locked ≡ value_of g locked) where
  same_text : g.texts 0 ≡ g.texts 2
  same_text = cc

  same_key : g.skeys 1 ≡ g.skeys 3
  same_key = cc

  fits : Fits heard unchanged (put_before (node_at 1 0) reception with_locker) g as_old
  fits = record {
    values = g;
    same_inside = λ x i. refl;
    same_of_first = λ x i. refl;
    fits = values_kept g as_old.texts as_old.skeys (λ n. text_kept g same_text n (n == 2) refl) (λ n. key_kept g same_key n (n == 3) refl);
  }

  tried : (path : List Step) → IsSolvedUnder (trial_at protocol heard [] locked 1 0 path) (sent_before ∷ []) (put_before (node_at 1 0) reception with_locker) g
  tried path = record { substitution = as_old; fits = fits; tried = settled (listed_comes_down protocol (sent_before ∷ []) sent_before here) }

-- Wherever the encryption stands in what the new strand sends.
what_is_sent : (t : Term) → term_event_at with_locker.strands (node_at 1 0) ≡ Some (send t) → new_locked ≡ t
what_is_sent t ev = cc

released : (path : List Step) (t u : Term) → new_locked ≡ t → term_at t path ≡ Some u → (g : Assignment) → value_of g u ≡ value_of g locked →
    IsSolvedUnder (trial_at protocol heard [] locked 1 0 path) (sent_before ∷ []) (put_before (node_at 1 0) reception with_locker) g
released path t u e at g same =
    ⊎_elim
    (λ (whole : u ≡ new_locked). tried g (subst (λ (z : Term). value_of g z ≡ value_of g locked) whole same) path)
    (λ (part : u ≡ atom_term (text_variable 2)). let value : value_of g (atom_term (text_variable 2)) ≡ value_of g locked = subst (λ (z : Term). value_of g z ≡ value_of g locked) part same in absurd (cc))
    (in_new_locked path u (subst (λ (z : Term). term_at z path ≡ Some u) (sym e) at))

added_locker : (path : List Step) → IsAddedStrand (trial_at protocol heard [] locked 1 0 path) (sent_before ∷ []) reception locker
added_locker path = added_new (trial_at protocol heard [] locked 1 0 path) (sent_before ∷ []) reception locker refl refl refl refl closed refl
    (λ acyclic t u ev at g same. released path t u (what_is_sent t ev) at g same)

added_role : (role : Role) (j : ℕ) (t u : Term) (path : List Step) → role ≡ locker → item_at role.trace j ≡ Some (send t) → IsAddedStrand (trial_at protocol heard [] locked 1 j path) (sent_before ∷ []) reception role
added_role role zero t u path e at = subst (IsAddedStrand (trial_at protocol heard [] locked 1 0 path) (sent_before ∷ []) reception) (sym e) (added_locker path)
added_role role (suc j) t u path e at = let none : item_at locker.trace (suc j) ≡ Some (send t) = subst (λ (r : Role). item_at r.trace (suc j) ≡ Some (send t)) e at in absurd (cc)

-- ---- the listener on the key

-- An atom that does not originate is heard nowhere: with a listener on it nothing stands.
pub never_heard : (of : Protocol) (ks : List Skeleton) (k : Skeleton) (n : Node) (v : AtomTerm) → IsIn v k.assumptions.non_originating →
    term_event_at (k.strands ++ listener (atom_term v) ∷ []) (node_at (length k.strands) 0) ≡ Some (recv (atom_term v)) → IsListenedTo of ks k n (atom_term v)
never_heard of ks k n v i ev =
    let added : Skeleton = record k { strands = k.strands ++ listener (atom_term v) ∷ [] } in
    record {
      added = added;
      adds = refl;
      down = record {
        forms = [];
        keep = λ b h is stands apart. absurd (not_in_none (none_carried of (put_before (node_at (length k.strands) 1) n added) v (node_at (length k.strands) 0) i
            (record { event = recv (atom_term v); there = ev; carried = itself_term }) b h is stands apart).listed);
        listed = λ form j. absurd (not_in_none j);
      };
    }

abbrev pub with_listener : Skeleton
with_listener = record heard { strands = listener locked ∷ listener (atom_term (key_term shared)) ∷ [] }

listened : IsListenedTo protocol (sent_before ∷ []) heard reception (atom_term (key_term shared))
listened = never_heard protocol (sent_before ∷ []) heard reception (key_term shared) here refl

pub heard_covering : IsCovering protocol heard reception locked [] (sent_before ∷ [])
heard_covering = record {
  contracted = λ m t u path on. absurd (no_instance m.strand on.role on.height on.terms on.on_instance);
  displaced = λ s role height terms j t u path at. absurd (no_instance s role height terms at);
  added = λ role j t u path i at ev. added_role role j t u path (only_item i) at;
  encrypted = λ body key e. inl (let same : key ≡ shared = cc in subst (λ (k : KeyTerm). IsListenedTo protocol (sent_before ∷ []) heard reception (atom_term (key_term k))) (sym same) listened);
  keys = λ p body key i. absurd (not_in_none i);
}
