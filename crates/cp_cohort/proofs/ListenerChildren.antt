-- Listeners.
use Rattle.std.proofs.Common.{append_assoc, ◌≡◌, ◌≢◌, ℕ, ◌+◌, ◌≤◌, List, [], ◌∷◌, ◌++◌, length, take, refl, sym, ap, ◌∙◌, subst, add-one, Bool, true, false, ◌↔◌, IsTrue, Some, if◌then◌else◌}
use Rattle.std.specs.Borrow.{Bor}
use Rattle.std.proofs.lemmas.List.{append-nil, take_all}
use Rattle.cp_lists.specs.Lists.{item_at}
use Rattle.cp_lists.proofs.Items.{take_to_item}
use Rattle.cp_model.specs.Term.{KeyTerm, key_term, inverse_term, Term, atom_term, enc_term}
use Rattle.cp_model.specs.Derivable.{DerivableAt}
use Rattle.cp_derive.specs.Given.{Given, IsDerivable}
use Rattle.cp_term.specs.Keys.{key_as_term}
use Rattle.cp_term.specs.Shapes.{HasShape}
use Rattle.cp_term.specs.declared.shape.Shape.{Shape}
use Rattle.cp_term.specs.declared.shape.Shape.TheVariants.{Tag, Variable, Inverse, Ltk, Pubk, Pair, Encryption}
use Rattle.cp_model.specs.declared.sort.Sort.TheVariants as sorts
use Rattle.cp_model.specs.Tree.{Pattern}
use Rattle.cp_cohort.specs.GatheredLists.{EachGives, nothing_given, has_term, terms_onto}
use Rattle.cp_cohort.specs.Cohort.{GuardedTest, FreesCritical, by_key, by_body, by_nothing, OpensPattern, Listens, AreListeners}
use Rattle.cp_cohort.specs.CoveringChildren.{Child}
use Rattle.cp_cohort.specs.HeardTerms.{FreesOnto, AreHeard}
use Rattle.cp_cohort.proofs.ChildLists.{one_more}

-- The terms to be heard, where these patterns have been taken.
pub record IsHeardSoFar (q : GuardedTest) (ps : List Pattern) (terms : List Term) : Type 0 where
  pub frees : List Term
  pub opens : List Term
  pub critical : FreesCritical q frees
  pub patterns : EachGives OpensPattern ps opens
  pub each : terms ≡ terms_onto [] (frees ++ opens)

onto_more : (before ts us : List Term) → terms_onto before (ts ++ us) ≡ terms_onto (terms_onto before ts) us
onto_more before [] us = refl
onto_more before (t ∷ ts) us = onto_more (if has_term before t then before else before ++ t ∷ []) ts us

module _ (q : GuardedTest) where
  pub heard_first : (terms new : List Term) → terms ≡ [] → FreesOnto q terms new → IsHeardSoFar q [] new
  heard_first terms new none f = record {
    frees = f.frees;
    opens = [];
    critical = f.critical;
    patterns = nothing_given;
    each = f.onto ∙ ap (λ us. terms_onto us f.frees) none ∙ ap (terms_onto []) (sym (append-nil f.frees));
  }

  pub heard_next : (ps : List Pattern) (i : ℕ) (p : Pattern) (t : Term) → item_at ps i ≡ Some p → (old new : List Term) → IsHeardSoFar q (take i ps) old → OpensPattern p (t ∷ []) → new ≡ terms_onto old (t ∷ []) →
      IsHeardSoFar q (take (i + 1) ps) new
  heard_next ps i p t e old new h o n = record {
    frees = h.frees;
    opens = h.opens ++ t ∷ [];
    critical = h.critical;
    patterns = subst (λ zs. EachGives OpensPattern zs (h.opens ++ t ∷ [])) (sym (ap (λ n. take n ps) (add-one i) ∙ take_to_item ps i p e)) (one_more OpensPattern p (t ∷ []) h.patterns o);
    each = n ∙ ap (λ us. terms_onto us (t ∷ [])) h.each ∙ sym (onto_more [] (h.frees ++ h.opens) (t ∷ [])) ∙ ap (terms_onto []) (append_assoc h.frees h.opens (t ∷ []));
  }

  pub heard_last : (n : ℕ) (terms : List Term) → length q.patterns ≤ n → IsHeardSoFar q (take n q.patterns) terms → AreHeard q terms
  heard_last n terms l h = record {
    frees = h.frees;
    opens = h.opens;
    critical = h.critical;
    patterns = subst (λ zs. EachGives OpensPattern zs h.opens) (take_all n q.patterns l) h.patterns;
    each = h.each;
  }

-- ---- encryptions

pub no_encryption : (s : Shape) (t : Term) → HasShape s t → ((b k : Bor Term) → s ≡ Encryption b k → ⊥) → (body : Term) (key : KeyTerm) → t ≡ enc_term body key → ⊥
no_encryption (Encryption b k) t is other body key e = other b k refl
no_encryption (Tag text) t is other body key e = absurd (cc)
no_encryption (Variable n sorts.Text) t is other body key e = absurd (cc)
no_encryption (Variable n sorts.Datum) t is other body key e = absurd (cc)
no_encryption (Variable n sorts.Name) t is other body key e = absurd (cc)
no_encryption (Variable n sorts.Skey) t is other body key e = absurd (cc)
no_encryption (Variable n sorts.Akey) t is other body key e = absurd (cc)
no_encryption (Inverse n) t is other body key e = absurd (cc)
no_encryption (Ltk a b) t is other body key e = absurd (cc)
no_encryption (Pubk flag purpose a) t is other body key e = absurd (cc)
no_encryption (Pair left right) t is other body key e = absurd (cc)

pub opened_by : (p : Pattern) (u inverse : Term) (body key : Term) → u ≡ p.term → ((k : KeyTerm) × (key ≡ key_as_term k) × (u ≡ enc_term body k)) → ((k : KeyTerm) → key ≡ key_as_term k → inverse ≡ key_as_term (inverse_term k)) →
    OpensPattern p (inverse ∷ [])
opened_by p u inverse body key same shape inverts =
    record { body = body; key = shape.0; is_pattern = sym same ∙ shape.2; inverse = ap (λ (t : Term). t ∷ []) (inverts shape.0 shape.1) }

module _ (q : GuardedTest) (body key : Term) (shape : (k : KeyTerm) × (key ≡ key_as_term k) × (q.critical ≡ enc_term body k)) (derivable : Bool)
    (asked : IsTrue derivable ↔ DerivableAt q.skeleton q.node key) (old new : List Term) where
  pub freed_by_body : derivable ≡ true → new ≡ terms_onto old (body ∷ []) → FreesOnto q old new
  freed_by_body holds e = record { frees = body ∷ []; critical = by_body shape.2 (subst (DerivableAt q.skeleton q.node) shape.1 (asked.0 holds)); onto = e }

  pub freed_by_key : derivable ≡ false → new ≡ terms_onto old (key ∷ []) → FreesOnto q old new
  freed_by_key fails e = record {
    frees = atom_term (key_term shape.0) ∷ [];
    critical = by_key shape.2 (λ d. let holds : derivable ≡ true = asked.1 (subst (DerivableAt q.skeleton q.node) (sym shape.1) d) in absurd (cc));
    onto = e ∙ ap (λ (t : Term). terms_onto old (t ∷ [])) shape.1;
  }

pub freed_by_nothing : (q : GuardedTest) (old : List Term) → ((body : Term) (key : KeyTerm) → q.critical ≢ enc_term body key) → FreesOnto q old old
freed_by_nothing q old other = record { frees = []; critical = by_nothing other; onto = refl }

-- What can be built from what is known at the node can be derived there.
pub asked_at : (q : GuardedTest) (known : Given) (t : Term) → ((u : Term) → IsDerivable known u ↔ DerivableAt q.skeleton q.node u) → (b : Bool) → IsTrue b ↔ IsDerivable known t → IsTrue b ↔ DerivableAt q.skeleton q.node t
asked_at q known t given b exact = ((λ holds. (given t).0 (exact.0 holds)), (λ d. exact.1 ((given t).1 d)))

pub are_listeners : (q : GuardedTest) (terms : List Term) → AreHeard q terms → (items : List Term) → items ≡ terms → (cs : List Child) → EachGives (Listens q) items cs → AreListeners q cs
are_listeners q terms h items same cs e = record {
  frees = h.frees;
  opens = h.opens;
  critical = h.critical;
  patterns = h.patterns;
  each = subst (λ (us : List Term). EachGives (Listens q) us cs) (same ∙ h.each) e;
}
