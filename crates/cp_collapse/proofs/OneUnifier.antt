-- Of two most general substitutions that bind later variables to earlier ones each does what the other does.
use Rattle.std.proofs.Common.{◌≡◌, ◌⊎◌, inl, inr, ℕ, ◌<◌, Bool, true, false, if◌then◌else◌, nat_eq, List, [], ◌∷◌, refl, sym, ap, ap₂, ◌∙◌, subst, arith, eqb-true}
use Rattle.cp_model.specs.Term.{SymmetricTerm, skey_variable, ltk_term, PairTerm, akey_variable, pubk_term, symmetric_term, asymmetric_term, AtomTerm, text_variable, datum_variable, name_variable, key_term, Term, atom_term, Assignment, value_of_atom, value_of, after, Substitution, flag_of, apply_to_symmetric, apply_to_half, apply_to_atom, apply_to, variable_term}
use Rattle.cp_model.specs.declared.sort.Sort.{Sort}
use Rattle.cp_model.specs.declared.sort.Sort.TheVariants.{Text as text_sort, Datum as datum_sort, Name as name_sort, Skey as skey_sort, Akey as akey_sort}
use Rattle.cp_model.proofs.LawTerms.{atom_after, value_after, flag_last}
use Rattle.cp_model.proofs.LawAgreement.{agree_term}
use Rattle.cp_unify.specs.Bindings.{Binding, put, put_of_sort, as_substitution}
use Rattle.cp_unify.specs.Unifiers.{IsBeforeSymmetric, IsBeforePair, IsBefore, AreLaterToEarlier}
use Rattle.cp_unify.proofs.Free.{free, same_terms}
use Rattle.cp_collapse.specs.Directed.{BindsLaterToEarlier, IsMostGeneralFor}

-- ---- what such a substitution gives a variable: itself, or what is before it

abbrev IsOrBefore : ℕ → ℕ → Type 0
IsOrBefore n m = (m ≡ n) ⊎ (m < n)

abbrev IsOrBeforeSymmetric : ℕ → SymmetricTerm → Type 0
IsOrBeforeSymmetric n k = (k ≡ skey_variable n) ⊎ IsBeforeSymmetric k n

abbrev IsOrBeforePair : ℕ → Bool × PairTerm → Type 0
IsOrBeforePair n p = (p ≡ (false, akey_variable n)) ⊎ IsBeforePair p.1 n

record Lowers (s : Substitution) : Type 0 where
  texts : (n : ℕ) → IsOrBefore n (s.texts n)
  datums : (n : ℕ) → IsOrBefore n (s.datums n)
  names : (n : ℕ) → IsOrBefore n (s.names n)
  skeys : (n : ℕ) → IsOrBeforeSymmetric n (s.skeys n)
  akeys : (n : ℕ) → IsOrBeforePair n (s.akeys n)

put_keeps : {V : Type 0} (P : ℕ → V → Type 0) (x : ℕ) (v : V) (f : ℕ → V) → P x v → ((n : ℕ) → P n (f n)) → (n : ℕ) → P n (put x v f n)
put_keeps {V} P x v f here all n = by (nat_eq n x) refl
  where
    by : (b : Bool) → nat_eq n x ≡ b → P n (put x v f n)
    by true q = subst (P n) (sym (ap (λ (b : Bool). if b then v else f n) q)) (subst (λ (m : ℕ). P m v) (sym (eqb-true n x q)) here)
    by false q = subst (P n) (sym (ap (λ (b : Bool). if b then v else f n) q)) (all n)

lowers_more : (k : Sort) (x : ℕ) (v : Term) (s : Substitution) → IsBefore v x → Lowers s → Lowers (put_of_sort k x v s)
lowers_more text_sort x (atom_term (text_variable m)) s less l = record { texts = put_keeps IsOrBefore x m s.texts (inr less) l.texts; datums = l.datums; names = l.names; skeys = l.skeys; akeys = l.akeys }
lowers_more datum_sort x (atom_term (datum_variable m)) s less l = record { texts = l.texts; datums = put_keeps IsOrBefore x m s.datums (inr less) l.datums; names = l.names; skeys = l.skeys; akeys = l.akeys }
lowers_more name_sort x (atom_term (name_variable m)) s less l = record { texts = l.texts; datums = l.datums; names = put_keeps IsOrBefore x m s.names (inr less) l.names; skeys = l.skeys; akeys = l.akeys }
lowers_more skey_sort x (atom_term (key_term (symmetric_term k))) s less l = record { texts = l.texts; datums = l.datums; names = l.names; skeys = put_keeps IsOrBeforeSymmetric x k s.skeys (inr less) l.skeys; akeys = l.akeys }
lowers_more akey_sort x (atom_term (key_term (asymmetric_term flag k))) s less l = record { texts = l.texts; datums = l.datums; names = l.names; skeys = l.skeys; akeys = put_keeps IsOrBeforePair x (flag, k) s.akeys (inr less) l.akeys }
lowers_more skey_sort x (atom_term (key_term (asymmetric_term flag k))) s less l = l
lowers_more akey_sort x (atom_term (key_term (symmetric_term k))) s less l = l
lowers_more _ x _ s less l = l

lowers_by : (bs : List Binding) → AreLaterToEarlier bs → Lowers (as_substitution bs)
lowers_by [] h = record { texts = λ n. inl refl; datums = λ n. inl refl; names = λ n. inl refl; skeys = λ n. inl refl; akeys = λ n. inl refl }
lowers_by (b ∷ bs) h = lowers_more b.variable.sort b.variable.number b.term (as_substitution bs) h.0 (lowers_by bs h.1)

lowers : (s : Substitution) → BindsLaterToEarlier s → Lowers s
lowers s d = subst Lowers (sym d.is_substitution) (lowers_by d.bindings d.later_to_earlier)

-- ---- two of them

one_number : (a c m n : ℕ) → IsOrBefore a m → IsOrBefore c n → m ≡ c → n ≡ a → a ≡ c
one_number a c m n (inl p) q e f = sym p ∙ e
one_number a c m n (inr p) (inl q) e f = sym f ∙ q
one_number a c m n (inr p) (inr q) e f = absurd (omega (arith, p, q, e, f))

one_plain : (f g : ℕ → ℕ) → ((n : ℕ) → IsOrBefore n (f n)) → ((n : ℕ) → IsOrBefore n (g n)) → (n : ℕ) → g (f n) ≡ g n → f (g n) ≡ f n → f n ≡ g n
one_plain f g first second n p q = one_number (f n) (g n) (g (f n)) (f (g n)) (second (f n)) (first (g n)) p q

-- The number of a variable that is a text, a datum or a name.
abbrev number_in : Term → ℕ
number_in (atom_term (text_variable n)) = n
number_in (atom_term (datum_variable n)) = n
number_in (atom_term (name_variable n)) = n
number_in t = 0

module _ (s t : Substitution) (first : Lowers s) (second : Lowers t) where
  one_symmetric : (u w : SymmetricTerm) → apply_to_symmetric t u ≡ w → apply_to_symmetric s w ≡ u → u ≡ w
  one_symmetric (skey_variable a) (skey_variable b) e f = by (second.skeys a) (first.skeys b)
    where
      by : IsOrBeforeSymmetric a (t.skeys a) → IsOrBeforeSymmetric b (s.skeys b) → skey_variable a ≡ skey_variable b
      by (inl p) q = sym p ∙ e
      by (inr p) (inl q) = sym f ∙ q
      by (inr p) (inr q) =
          let l : b < a = subst (λ (k : SymmetricTerm). IsBeforeSymmetric k a) e p in
          let m : a < b = subst (λ (k : SymmetricTerm). IsBeforeSymmetric k b) f q in
          absurd (omega (arith, l, m))
  one_symmetric (skey_variable a) (ltk_term c d) e f = absurd (cc)
  one_symmetric (ltk_term a b) (skey_variable c) e f = absurd (cc)
  one_symmetric (ltk_term a b) (ltk_term c d) e f =
      let p : t.names a ≡ c = cc in
      let q : t.names b ≡ d = cc in
      let r : s.names c ≡ a = cc in
      let u : s.names d ≡ b = cc in
      ap₂ ltk_term (one_number a c (t.names a) (s.names c) (second.names a) (first.names c) p r) (one_number b d (t.names b) (s.names d) (second.names b) (first.names d) q u)

  one_half : (f : Bool) (u : PairTerm) (g : Bool) (w : PairTerm) → apply_to_half t f u ≡ (g, w) → apply_to_half s g w ≡ (f, u) → (f ≡ g) × (u ≡ w)
  one_half f (akey_variable a) g (akey_variable b) e h = by (second.akeys a) (first.akeys b)
    where
      by : IsOrBeforePair a (t.akeys a) → IsOrBeforePair b (s.akeys b) → (f ≡ g) × (akey_variable a ≡ akey_variable b)
      by (inl p) q = (sym (flag_last f) ∙ ap (λ (k : Bool × PairTerm). flag_of f k.0) (sym p) ∙ ap (λ (k : Bool × PairTerm). k.0) e, ap (λ (k : Bool × PairTerm). k.1) (sym p) ∙ ap (λ (k : Bool × PairTerm). k.1) e)
      by (inr p) (inl q) = (sym (sym (flag_last g) ∙ ap (λ (k : Bool × PairTerm). flag_of g k.0) (sym q) ∙ ap (λ (k : Bool × PairTerm). k.0) h), sym (ap (λ (k : Bool × PairTerm). k.1) (sym q) ∙ ap (λ (k : Bool × PairTerm). k.1) h))
      by (inr p) (inr q) =
          let l : b < a = subst (λ (k : PairTerm). IsBeforePair k a) (ap (λ (k : Bool × PairTerm). k.1) e) p in
          let m : a < b = subst (λ (k : PairTerm). IsBeforePair k b) (ap (λ (k : Bool × PairTerm). k.1) h) q in
          absurd (omega (arith, l, m))
  one_half f (akey_variable a) g (pubk_term q c) e h = let no : pubk_term q (s.names c) ≡ akey_variable a = ap (λ (k : Bool × PairTerm). k.1) h in absurd (cc)
  one_half f (pubk_term p a) g (akey_variable c) e h = let no : pubk_term p (t.names a) ≡ akey_variable c = ap (λ (k : Bool × PairTerm). k.1) e in absurd (cc)
  one_half f (pubk_term p a) g (pubk_term q c) e h =
      let flags : f ≡ g = ap (λ (k : Bool × PairTerm). k.0) e in
      let there : pubk_term p (t.names a) ≡ pubk_term q c = ap (λ (k : Bool × PairTerm). k.1) e in
      let back : pubk_term q (s.names c) ≡ pubk_term p a = ap (λ (k : Bool × PairTerm). k.1) h in
      let purposes : p ≡ q = cc in
      let m : t.names a ≡ c = cc in
      let n : s.names c ≡ a = cc in
      (flags, ap₂ pubk_term purposes (one_number a c (t.names a) (s.names c) (second.names a) (first.names c) m n))

  -- Each, after the other, does what it does alone.
  module _ (there : (u : Term) → apply_to t (apply_to s u) ≡ apply_to t u) (back : (u : Term) → apply_to s (apply_to t u) ≡ apply_to s u) where
    one_key : (n : ℕ) → atom_term (key_term (asymmetric_term (s.akeys n).0 (s.akeys n).1)) ≡ atom_term (key_term (asymmetric_term (t.akeys n).0 (t.akeys n).1))
    one_key n =
        let variable : Term = atom_term (key_term (asymmetric_term false (akey_variable n))) in
        let u = s.akeys n in
        let w = t.akeys n in
        let over = apply_to_half t u.0 u.1 in
        let again = apply_to_half s w.0 w.1 in
        let e : atom_term (key_term (asymmetric_term over.0 over.1)) ≡ atom_term (key_term (asymmetric_term w.0 w.1)) = there variable in
        let f : atom_term (key_term (asymmetric_term again.0 again.1)) ≡ atom_term (key_term (asymmetric_term u.0 u.1)) = back variable in
        let e0 : over.0 ≡ w.0 = cc in
        let e1 : over.1 ≡ w.1 = cc in
        let f0 : again.0 ≡ u.0 = cc in
        let f1 : again.1 ≡ u.1 = cc in
        let r = one_half u.0 u.1 w.0 w.1 (λ i. (e0 i, e1 i)) (λ i. (f0 i, f1 i)) in
        ap₂ (λ flag k. atom_term (key_term (asymmetric_term flag k))) r.0 r.1

    one_variable : (sort : Sort) (n : ℕ) → apply_to s (variable_term (record { sort = sort; number = n })) ≡ apply_to t (variable_term (record { sort = sort; number = n }))
    one_variable text_sort n = let u = atom_term (text_variable n) in ap (λ (m : ℕ). atom_term (text_variable m)) (one_plain s.texts t.texts first.texts second.texts n (ap number_in (there u)) (ap number_in (back u)))
    one_variable datum_sort n = let u = atom_term (datum_variable n) in ap (λ (m : ℕ). atom_term (datum_variable m)) (one_plain s.datums t.datums first.datums second.datums n (ap number_in (there u)) (ap number_in (back u)))
    one_variable name_sort n = let u = atom_term (name_variable n) in ap (λ (m : ℕ). atom_term (name_variable m)) (one_plain s.names t.names first.names second.names n (ap number_in (there u)) (ap number_in (back u)))
    one_variable skey_sort n =
        let e : atom_term (key_term (symmetric_term (apply_to_symmetric t (s.skeys n)))) ≡ atom_term (key_term (symmetric_term (t.skeys n))) = there (atom_term (key_term (symmetric_term (skey_variable n)))) in
        let f : atom_term (key_term (symmetric_term (apply_to_symmetric s (t.skeys n)))) ≡ atom_term (key_term (symmetric_term (s.skeys n))) = back (atom_term (key_term (symmetric_term (skey_variable n)))) in
        let p : apply_to_symmetric t (s.skeys n) ≡ t.skeys n = cc in
        let q : apply_to_symmetric s (t.skeys n) ≡ s.skeys n = cc in
        ap (λ k. atom_term (key_term (symmetric_term k))) (one_symmetric (s.skeys n) (t.skeys n) p q)
    one_variable akey_sort n = one_key n

    one_term : (u : Term) → apply_to s u ≡ apply_to t u
    one_term u = agree_term s t u (λ x i. one_variable x.sort x.number)

-- What is most general for a fact comes before every substitution that makes it true.
absorbs : (fact : Assignment → Type 0) (s t : Substitution) → ((g : Assignment) → fact g → (u : Term) → value_of (after g s) u ≡ value_of g u) → fact (after free t) → (u : Term) → apply_to t (apply_to s u) ≡ apply_to t u
absorbs fact s t general true_after u =
    same_terms (apply_to t (apply_to s u)) (apply_to t u)
    (sym (value_after free t (apply_to s u)) ∙ sym (value_after (after free t) s u) ∙ general (after free t) true_after u ∙ value_after free t u)

pub one_unifier : (fact : Assignment → Type 0) (s t : Substitution) → BindsLaterToEarlier s → BindsLaterToEarlier t → fact (after free s) → fact (after free t) →
    ((g : Assignment) → fact g → (u : Term) → value_of (after g s) u ≡ value_of g u) → ((g : Assignment) → fact g → (u : Term) → value_of (after g t) u ≡ value_of g u) → (u : Term) → apply_to s u ≡ apply_to t u
one_unifier fact s t a b here there general general' =
    one_term s t (lowers s a) (lowers t b) (absorbs fact s t general there) (absorbs fact t s general' here)

-- ---- of two atoms

made_equal : (a b : AtomTerm) (s : Substitution) → apply_to_atom s a ≡ apply_to_atom s b → value_of_atom (after free s) a ≡ value_of_atom (after free s) b
made_equal a b s e = atom_after free s a ∙ ap (value_of_atom free) e ∙ sym (atom_after free s b)

pub one_for_atoms : (a b : AtomTerm) (s t : Substitution) → IsMostGeneralFor a b s → IsMostGeneralFor a b t → (u : Term) → apply_to s u ≡ apply_to t u
one_for_atoms a b s t m n =
    one_unifier (λ g. value_of_atom g a ≡ value_of_atom g b) s t m.directed n.directed (made_equal a b s m.unifies) (made_equal a b t n.unifies) m.general n.general
