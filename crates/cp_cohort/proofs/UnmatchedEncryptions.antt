-- How many encryptions of an event match no pattern, and when the number falls.
use Rattle.std.proofs.Common.{◌≡◌, ◌<◌, ◌≤◌, ◌+◌, ℕ, zero, suc, List, [], ◌∷◌, map, take, Some, Bool, true, false, refl, sym, subst, ⊎_elim, arith}
use Rattle.cp_lists.specs.Lists.{item_at, IsIn}
use Rattle.cp_lists.proofs.Members.{head_or_behind, not_in_none}
use Rattle.cp_model.specs.Term.{KeyTerm, Term, tag_term, atom_term, pair_term, enc_term, Substitution, apply_to, apply_to_key}
use Rattle.cp_model.specs.Strand.{payload, event_map}
use Rattle.cp_model.specs.declared.strand.Event.{Event}
use Rattle.cp_model.specs.Tree.{Pattern}
use Rattle.cp_model.proofs.LawEvents.{payload_map}
use Rattle.cp_model.specs.declared.step.Step.{Step}
use Rattle.cp_model.specs.declared.step.Step.TheVariants.{Left, Right, Plaintext}
use Rattle.cp_theory.specs.Above.{encryptions_above}
use Rattle.cp_cohort.specs.Candidates.{OneMatches}
use Rattle.cp_cohort.proofs.AsMessages.{one_matches, one_does, does_one}

-- ---- in a term

abbrev pub one_unless : Bool → ℕ
one_unless true = 0
one_unless false = 1

abbrev pub unmatched : List Pattern → Substitution → Term → ℕ
unmatched ps s (tag_term bytes) = 0
unmatched ps s (atom_term a) = 0
unmatched ps s (pair_term a b) = unmatched ps s a + unmatched ps s b
unmatched ps s (enc_term a k) = one_unless (one_matches ps s (enc_term a k)) + unmatched ps s a

-- What is matched stays so under u, where the other variables are as t says.
abbrev pub StaysMatched : List Pattern → Substitution → Substitution → Substitution → Type 0
StaysMatched ps s u t = (e : Term) → OneMatches ps s e → OneMatches ps t (apply_to u e)

at_most : (b c : Bool) → (b ≡ true → c ≡ true) → one_unless c ≤ one_unless b
at_most true c h = let e : c ≡ true = h refl in rw e (omega arith)
at_most false true h = omega arith
at_most false false h = omega arith

less : (b c : Bool) → b ≡ false → c ≡ true → one_unless c < one_unless b
less b c e d = rw e (rw d (omega arith))

module _ (ps : List Pattern) (s u t : Substitution) (stays : StaysMatched ps s u t) where
  stays_by_test : (e : Term) → one_matches ps s e ≡ true → one_matches ps t (apply_to u e) ≡ true
  stays_by_test e m = does_one ps t (apply_to u e) (stays e (one_does ps s e m))

  pub no_more_unmatched : (m : Term) → unmatched ps t (apply_to u m) ≤ unmatched ps s m
  no_more_unmatched (tag_term bytes) = omega arith
  no_more_unmatched (atom_term a) = omega arith
  no_more_unmatched (pair_term a b) = let l = no_more_unmatched a in let r = no_more_unmatched b in omega (arith, l, r)
  no_more_unmatched (enc_term a k) =
      let l = no_more_unmatched a in
      let h = at_most (one_matches ps s (enc_term a k)) (one_matches ps t (enc_term (apply_to u a) (apply_to_key u k))) (stays_by_test (enc_term a k)) in
      omega (arith, l, h)

  -- It falls where an encryption above a position matches now, and did not.
  module _ (e : Term) (was : one_matches ps s e ≡ false) (is : one_matches ps t (apply_to u e) ≡ true) where
    fewer_here : (a : Term) (k : KeyTerm) → e ≡ enc_term a k → unmatched ps t (apply_to u (enc_term a k)) < unmatched ps s (enc_term a k)
    fewer_here a k same =
        let l = no_more_unmatched a in
        let h = less (one_matches ps s (enc_term a k)) (one_matches ps t (enc_term (apply_to u a) (apply_to_key u k))) (subst (λ (z : Term). one_matches ps s z ≡ false) same was) (subst (λ (z : Term). one_matches ps t (apply_to u z) ≡ true) same is) in
        omega (arith, l, h)

    fewer_inside : (a : Term) (k : KeyTerm) → unmatched ps t (apply_to u a) < unmatched ps s a → unmatched ps t (apply_to u (enc_term a k)) < unmatched ps s (enc_term a k)
    fewer_inside a k l =
        let h = at_most (one_matches ps s (enc_term a k)) (one_matches ps t (enc_term (apply_to u a) (apply_to_key u k))) (stays_by_test (enc_term a k)) in
        omega (arith, l, h)

    pub fewer_unmatched : (m : Term) (path : List Step) → IsIn e (encryptions_above m path) → unmatched ps t (apply_to u m) < unmatched ps s m
    fewer_unmatched (pair_term a b) (Left ∷ path) i = let l = fewer_unmatched a path i in let r = no_more_unmatched b in omega (arith, l, r)
    fewer_unmatched (pair_term a b) (Right ∷ path) i = let l = no_more_unmatched a in let r = fewer_unmatched b path i in omega (arith, l, r)
    fewer_unmatched (enc_term a k) (Plaintext ∷ path) i = ⊎_elim (λ same. fewer_here a k same) (λ j. fewer_inside a k (fewer_unmatched a path j)) (head_or_behind i)
    fewer_unmatched (tag_term bytes) [] i = absurd (not_in_none i)
    fewer_unmatched (tag_term bytes) (Left ∷ path) i = absurd (not_in_none i)
    fewer_unmatched (tag_term bytes) (Right ∷ path) i = absurd (not_in_none i)
    fewer_unmatched (tag_term bytes) (Plaintext ∷ path) i = absurd (not_in_none i)
    fewer_unmatched (atom_term a) [] i = absurd (not_in_none i)
    fewer_unmatched (atom_term a) (Left ∷ path) i = absurd (not_in_none i)
    fewer_unmatched (atom_term a) (Right ∷ path) i = absurd (not_in_none i)
    fewer_unmatched (atom_term a) (Plaintext ∷ path) i = absurd (not_in_none i)
    fewer_unmatched (pair_term a b) [] i = absurd (not_in_none i)
    fewer_unmatched (pair_term a b) (Plaintext ∷ path) i = absurd (not_in_none i)
    fewer_unmatched (enc_term a k) [] i = absurd (not_in_none i)
    fewer_unmatched (enc_term a k) (Left ∷ path) i = absurd (not_in_none i)
    fewer_unmatched (enc_term a k) (Right ∷ path) i = absurd (not_in_none i)

-- ---- in events

abbrev pub unmatched_in : List Pattern → Substitution → List (Event Term) → ℕ
unmatched_in ps s [] = 0
unmatched_in ps s (e ∷ es) = unmatched ps s (payload e) + unmatched_in ps s es

module _ (ps : List Pattern) (s u t : Substitution) (stays : StaysMatched ps s u t) where
  no_more_of : (e : Event Term) → unmatched ps t (payload (event_map (apply_to u) e)) ≤ unmatched ps s (payload e)
  no_more_of e = subst (λ (m : Term). unmatched ps t m ≤ unmatched ps s (payload e)) (sym (payload_map (apply_to u) e)) (no_more_unmatched ps s u t stays (payload e))

  pub no_more_in : (n : ℕ) (es : List (Event Term)) → unmatched_in ps t (take n (map (event_map (apply_to u)) es)) ≤ unmatched_in ps s (take n es)
  no_more_in zero es = omega arith
  no_more_in (suc n) [] = omega arith
  no_more_in (suc n) (e ∷ es) = let a = no_more_of e in let b = no_more_in n es in omega (arith, a, b)

  pub fewer_in : (n : ℕ) (es : List (Event Term)) (i : ℕ) (e : Event Term) → i < n → item_at es i ≡ Some e → unmatched ps t (apply_to u (payload e)) < unmatched ps s (payload e) →
      unmatched_in ps t (take n (map (event_map (apply_to u)) es)) < unmatched_in ps s (take n es)
  fewer_in zero es i e lt at less = omega (arith, lt)
  fewer_in (suc n) [] i e lt at less = cc
  fewer_in (suc n) (d ∷ es) zero e lt at less =
      let is : d ≡ e = cc in
      let b = no_more_in n es in
      let a : unmatched ps t (payload (event_map (apply_to u) d)) < unmatched ps s (payload d) =
      subst (λ (c : Event Term). unmatched ps t (payload (event_map (apply_to u) c)) < unmatched ps s (payload c)) (sym is) (subst (λ (m : Term). unmatched ps t m < unmatched ps s (payload e)) (sym (payload_map (apply_to u) e)) less) in
      omega (arith, a, b)
  fewer_in (suc n) (d ∷ es) (suc i) e lt at less = let a = no_more_of d in let b = fewer_in n es i e (omega (arith, lt)) at less in omega (arith, a, b)
