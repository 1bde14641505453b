-- What was sent, opened piece by piece.
use Rattle.std.proofs.Common.{ℕ, ◌+◌, ◌<◌, ◌≤◌, List, [], ◌++◌, ◌≡◌, ◌⊎◌, inl, inr, length, get_or, drop, sym, subst, ap, ◌∙◌}
use Rattle.std.proofs.lemmas.List.{append-nil}
use Rattle.cp_lists.proofs.Members.{item_is_in, none_left, in_append, in_append_left, in_append_right, not_in_none}
use Rattle.cp_lists.specs.Lists.{IsIn}
use Rattle.cp_model.specs.Term.{Term, enc_term}
use Rattle.cp_derive.specs.From.{was_sent}
use Rattle.cp_derive.specs.Given.{Given}
use Rattle.cp_derive.specs.Buildable.{Builds, IsClosedUnderParts}
use Rattle.cp_derive.specs.OpenedTerms.{locked_of, IsSoundOpening, AreOpenOrLocked, TakesApart, Advances, IsCovered, IsOpened}
use Rattle.cp_derive.specs.declared.opened_terms.Opening.{Opening}
use Rattle.cp_derive.proofs.TermParts.{builds_more, taken_open, covers_next}

-- What was sent before is covered, and so is as much of what was sent too as was taken.
pub record IsOpening (sent more secrets : List Term) (i : ℕ) (o : Opening) : Type 0 where
  pub sound : (whole : List Term) → ((t : Term) → IsIn t (sent ++ more) → IsIn t whole) → IsSoundOpening (record { sent = whole; secrets = secrets }) o
  pub opened : AreOpenOrLocked secrets o
  pub builds : (t : Term) → IsIn t (sent ++ more) → IsIn t (drop i more) ⊎ Builds secrets o.held.items t

pub begun : (sent more secrets : List Term) (o : Opening) → IsOpened sent secrets o → IsOpening sent more secrets 0 o
begun sent more secrets o h = record {
  sound = λ whole all. h.covered.sound whole (λ t i. all t (in_append_left more i));
  opened = h.covered.opened;
  builds = λ t i. elim (in_append sent more i) [ inl j ↦ inr (h.covered.builds t j) | inr j ↦ inl j ];
}

pub one_taken : (sent more secrets : List Term) (i : ℕ) (x : Term) (o n : Opening) → i < length more → x ≡ get_or more i x → TakesApart secrets x o n → IsOpening sent more secrets i o →
    IsOpening sent more secrets (i + 1) n
one_taken sent more secrets i x o n within is takes h = record {
  sound = λ whole all. takes.sound whole (h.sound whole all) (was_sent (all x (in_append_right sent (item_is_in more i x within is))));
  opened = taken_open secrets x o n takes h.opened;
  builds = λ t j. covers_next secrets more i x o n within is takes t (h.builds t j);
}

pub all_taken : (sent more secrets : List Term) (i : ℕ) (o : Opening) → length more ≤ i → IsOpening sent more secrets i o → IsCovered (sent ++ more) secrets o
all_taken sent more secrets i o past h = record {
  sound = h.sound;
  opened = h.opened;
  builds = λ t j. elim (h.builds t j) [ inl left ↦ absurd (none_left more i t past left) | inr b ↦ b ];
}

pub advanced : (sent secrets : List Term) (o n : Opening) → Advances secrets o n → IsCovered sent secrets o → IsCovered sent secrets n
advanced sent secrets o n a h = record {
  sound = λ whole all. a.sound whole (h.sound whole all);
  opened = a.opened h.opened;
  builds = λ t i. builds_more secrets o.held.items n.held.items a.held_more t (h.builds t i);
}

-- Where what was sent is opened, what is held is all that is needed.
pub closed : (g : Given) (o : Opening) → IsOpened g.sent g.secrets o → IsClosedUnderParts g o.held.items
closed g o h = record {
  derivable = (h.covered.sound g.sent (λ t i. i)).held;
  sent = h.covered.builds;
  opened = λ a k i key. elim (h.covered.opened a k i) [ inl b ↦ b | inr l ↦ absurd (h.locked (locked_of a k) l key) ];
}

pub nothing_opened : (secrets : List Term) (o : Opening) → o.held.items ≡ [] → o.locked.items ≡ [] → IsOpened [] secrets o
nothing_opened secrets o h l = record {
  covered = record {
    sound = λ whole all. record {
      held = λ t i. absurd (not_in_none (subst (IsIn t) h i));
      locked = λ x i. absurd (not_in_none (subst (IsIn x) l i));
    };
    opened = λ a k i. absurd (not_in_none (subst (IsIn (enc_term a k)) h i));
    builds = λ t i. absurd (not_in_none i);
  };
  locked = λ x i. absurd (not_in_none (subst (IsIn x) l i));
}

-- What was opened of lists that were lent is opened of the lists.
pub opened_more : (sent more all secrets lent_secrets lent_more : List Term) (o n : Opening) → lent_secrets ≡ secrets → lent_more ≡ more → all ≡ sent ++ more →
    ((s : List Term) → IsOpened s lent_secrets o → IsOpened (s ++ lent_more) lent_secrets n) → IsOpened sent secrets o → IsOpened all secrets n
opened_more sent more all secrets lent_secrets lent_more o n same_secrets same_more whole step h =
    let before : IsOpened sent lent_secrets o = subst (λ s. IsOpened sent s o) (sym same_secrets) h in
    subst (λ s. IsOpened s secrets n) (sym whole)
    (subst (λ m. IsOpened (sent ++ m) secrets n) same_more (subst (λ s. IsOpened (sent ++ lent_more) s n) same_secrets (step sent before)))

-- Nothing more was sent.
pub no_more_sent : (g : Given) (more : List Term) → more ≡ [] → g ≡ record { sent = g.sent ++ more; secrets = g.secrets }
no_more_sent g more none = ap (λ xs. let h : Given = record { sent = xs; secrets = g.secrets } in h) (sym (ap (λ xs. g.sent ++ xs) none ∙ append-nil g.sent))
