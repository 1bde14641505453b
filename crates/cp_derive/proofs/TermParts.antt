-- Taking a term apart.
use Rattle.std.proofs.Common.{ℕ, ◌+◌, ◌<◌, List, [], ◌∷◌, ◌++◌, length, get_or, drop, ◌≡◌, ◌⊎◌, inl, inr, sym, subst, ap, ◌∙◌, arith}
use Rattle.std.specs.List.{sum_by}
use Rattle.std.proofs.lemmas.List.Sums.{sum_by_push}
use Rattle.cp_lists.proofs.Members.{next_or_rest}
use Rattle.cp_lists.specs.Lists.{IsIn}
use Rattle.cp_model.specs.Term.{AtomTerm, KeyTerm, Term, tag_term, atom_term, pair_term, enc_term}
use Rattle.cp_term.specs.Keys.{key_as_term}
use Rattle.cp_term.specs.Size.{term_size}
use Rattle.cp_derive.specs.From.{left_of, right_of, decrypted}
use Rattle.cp_derive.specs.Given.{Given, IsDerivable}
use Rattle.cp_derive.specs.Buildable.{IsAtHand, Builds}
use Rattle.cp_derive.specs.OpenedTerms.{weight_of, weight, locked_of, IsOpenOrLocked, AreOpenOrLocked, TakesApart}
use Rattle.cp_derive.specs.declared.opened_terms.Locked.{Locked}
use Rattle.cp_derive.specs.declared.opened_terms.Opening.{Opening}
use Rattle.cp_derive.proofs.Listed.{IsPushed}

-- What is held more builds no less.
hand_more : (secrets h m : List Term) → ((x : Term) → IsIn x h → IsIn x m) → (t : Term) → IsAtHand secrets h t → IsAtHand secrets m t
hand_more secrets h m more t (inl i) = inl (more t i)
hand_more secrets h m more t (inr n) = inr n

pub builds_more : (secrets h m : List Term) → ((x : Term) → IsIn x h → IsIn x m) → (t : Term) → Builds secrets h t → Builds secrets m t
builds_more secrets h m more (tag_term bytes) b = tt
builds_more secrets h m more (atom_term a) b = hand_more secrets h m more (atom_term a) b
builds_more secrets h m more (pair_term a c) b = (builds_more secrets h m more a b.0, builds_more secrets h m more c b.1)
builds_more secrets h m more (enc_term a k) (inl i) = inl (more (enc_term a k) i)
builds_more secrets h m more (enc_term a k) (inr b) = inr (builds_more secrets h m more a b.0, hand_more secrets h m more (key_as_term k) b.1)

pub open_more : (secrets : List Term) (o n : Opening) → ((x : Term) → IsIn x o.held.items → IsIn x n.held.items) → ((l : Locked) → IsIn l o.locked.items → IsIn l n.locked.items) →
    (a : Term) (k : KeyTerm) → IsOpenOrLocked secrets o a k → IsOpenOrLocked secrets n a k
open_more secrets o n held locked a k (inl b) = inl (builds_more secrets o.held.items n.held.items held a b)
open_more secrets o n held locked a k (inr i) = inr (locked (locked_of a k) i)

-- Where the term can be built already, nothing is to be done.
pub takes_nothing : (secrets : List Term) (t : Term) (o : Opening) → Builds secrets o.held.items t → TakesApart secrets t o o
takes_nothing secrets t o b = record {
  builds = b;
  held_more = λ x h. h;
  locked_more = λ l h. h;
  sound = λ sent s d. s;
  opened = λ a k h. inl h;
  weighs = omega arith;
}

module _ (secrets : List Term) (t : Term) (o n : Opening) (p : IsPushed o.held.items t n.held.items) where
  pub takes_atom : (a : AtomTerm) → t ≡ atom_term a → n.locked.items ≡ o.locked.items → TakesApart secrets t o n
  takes_atom a e l = record {
    builds = subst (Builds secrets n.held.items) (sym e) (inl (subst (λ x. IsIn x n.held.items) e p.itself));
    held_more = p.more;
    locked_more = λ x h. subst (IsIn x) (sym l) h;
    sound = λ sent s d. record {
      held = λ x h. elim (p.only x h) [ inl i ↦ s.held x i | inr same ↦ subst (IsDerivable (record { sent = sent; secrets = secrets })) same d ];
      locked = λ x h. s.locked x (subst (IsIn x) l h);
    };
    opened = λ b k h. elim (p.only (enc_term b k) h) [ inl i ↦ inl i | inr same ↦ let wrong : ⊥ = cc in absurd wrong ];
    weighs = let same : weight n ≡ weight o = ap (sum_by weight_of) l in omega arith;
  }

  pub takes_encryption : (a : Term) (k : KeyTerm) → t ≡ enc_term a k → IsPushed o.locked.items (locked_of a k) n.locked.items → n.locked.items ≡ o.locked.items ++ (locked_of a k ∷ []) → TakesApart secrets t o n
  takes_encryption a k e q l = record {
    builds = subst (Builds secrets n.held.items) (sym e) (inl (subst (λ x. IsIn x n.held.items) e p.itself));
    held_more = p.more;
    locked_more = q.more;
    sound = λ sent s d.
        let g : Given = record { sent = sent; secrets = secrets } in record {
          held = λ x h. elim (p.only x h) [ inl i ↦ s.held x i | inr same ↦ subst (IsDerivable g) same d ];
          locked = λ x h key.
              elim (q.only x h) [
                | inl i ↦ s.locked x i key
                | inr same ↦ subst (λ y. IsDerivable g y.inverse → IsDerivable g y.body) same (λ i. decrypted (subst (IsDerivable g) e d) i) key
              ];
        };
    opened = λ b j h.
        elim (p.only (enc_term b j) h) [
          | inl i ↦ inl i
          | inr same ↦
              let both : enc_term a k ≡ enc_term b j = sym e ∙ same in
              let body : a ≡ b = cc in
              let key : k ≡ j = cc in
              inr (inr (subst (λ x. IsIn (locked_of x j) n.locked.items) body (subst (λ x. IsIn (locked_of a x) n.locked.items) key q.itself)))
        ];
    weighs =
        let sum : weight n ≡ weight o + weight_of (locked_of a k) = ap (sum_by weight_of) l ∙ sum_by_push weight_of o.locked.items (locked_of a k) in
        let size : term_size t ≡ term_size a + 2 = ap term_size e in
        omega arith;
  }

-- First the left part of a pair, and then the right one.
pub takes_pair : (secrets : List Term) (t a b : Term) (o m n : Opening) → t ≡ pair_term a b → TakesApart secrets a o m → TakesApart secrets b m n → TakesApart secrets t o n
takes_pair secrets t a b o m n e first second = record {
  builds = subst (Builds secrets n.held.items) (sym e) (builds_more secrets m.held.items n.held.items second.held_more a first.builds, second.builds);
  held_more = λ x h. second.held_more x (first.held_more x h);
  locked_more = λ l h. second.locked_more l (first.locked_more l h);
  sound = λ sent s d.
      let whole = subst (IsDerivable (record { sent = sent; secrets = secrets })) e d in
      second.sound sent (first.sound sent s (left_of whole)) (right_of whole);
  opened = λ x k h.
      elim (second.opened x k h) [
        | inl i ↦ elim (first.opened x k i) [ inl j ↦ inl j | inr w ↦ inr (open_more secrets m n second.held_more second.locked_more x k w) ]
        | inr w ↦ inr w
      ];
  weighs =
      let size : term_size t ≡ term_size a + term_size b + 1 = ap term_size e in
      omega (arith, first.weighs, second.weighs);
}

pub taken_open : (secrets : List Term) (t : Term) (o n : Opening) → TakesApart secrets t o n → AreOpenOrLocked secrets o → AreOpenOrLocked secrets n
taken_open secrets t o n takes all a k h =
    elim (takes.opened a k h) [ inl i ↦ open_more secrets o n takes.held_more takes.locked_more a k (all a k i) | inr w ↦ w ]

built_or_left : (secrets sent : List Term) (i : ℕ) (x : Term) (o n : Opening) → TakesApart secrets x o n → (t : Term) →
    (x ≡ t) ⊎ IsIn t (drop (i + 1) sent) → IsIn t (drop (i + 1) sent) ⊎ Builds secrets n.held.items t
built_or_left secrets sent i x o n takes t (inl e) = inr (subst (Builds secrets n.held.items) e takes.builds)
built_or_left secrets sent i x o n takes t (inr h) = inl h

-- Each term is left to be taken or can be built.
pub covers_next : (secrets sent : List Term) (i : ℕ) (x : Term) (o n : Opening) → i < length sent → x ≡ get_or sent i x → TakesApart secrets x o n → (t : Term) →
    IsIn t (drop i sent) ⊎ Builds secrets o.held.items t → IsIn t (drop (i + 1) sent) ⊎ Builds secrets n.held.items t
covers_next secrets sent i x o n h e takes t (inl there_is) = built_or_left secrets sent i x o n takes t (next_or_rest sent i t x h e there_is)
covers_next secrets sent i x o n h e takes t (inr b) = inr (builds_more secrets o.held.items n.held.items takes.held_more t b)
