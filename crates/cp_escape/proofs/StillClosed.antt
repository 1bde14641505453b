-- Encryptions that stay closed: the first of them, and why their keys hold the skeleton's variables alone.
use Rattle.std.proofs.Common.{◌≡◌, ℕ, ◌+◌, ◌<◌, ◌≤◌, Bool, List, [], ◌∷◌, length, get_or, drop, map, refl, sym, ◌∙◌, subst, ◌↔◌, IsTrue, not}
use Rattle.std.proofs.lemmas.List.{drop_all}
use Rattle.cp_lists.specs.Lists.{IsIn}
use Rattle.cp_lists.proofs.Members.{drop_read, in_append_left, in_append_right}
use Rattle.cp_model.specs.Term.{KeyTerm, symmetric_term, asymmetric_term, AtomTerm, key_term, inverse_term, Term, atom_term, enc_term, variables_of_key, variables_of_atom}
use Rattle.cp_model.specs.declared.variable.Variable.{Variable}
use Rattle.cp_model.specs.Problem.{variables_of_atoms, variables_of_uniques, variables_of_strands}
use Rattle.cp_model.specs.Skeleton.{Skeleton}
use Rattle.cp_theory.specs.Normal.{variables_of_terms}
use Rattle.cp_model.proofs.OccurringVariables.{in_atoms}
use Rattle.cp_term.specs.Keys.{key_as_term}
use Rattle.cp_theory.specs.Critical.{used_variables}
use Rattle.cp_escape.specs.Escape.{IsFirstWith, in_front, further}
use Rattle.cp_escape.specs.WidenedPattern.{StaysClosed}

-- ---- the first of them

-- Of encryptions some are left; those before them do not stay closed.
pub record NoneStays (k : Skeleton) (whole left : List Term) : Type 0 where
  pub first : (e : Term) → IsFirstWith (StaysClosed k) left e → IsFirstWith (StaysClosed k) whole e
  pub none : (e : Term) → IsFirstWith (StaysClosed k) whole e → IsFirstWith (StaysClosed k) left e

passed_over : {has : Term → Type 0} (e x : Term) (rest : List Term) → (has e → ⊥) → IsFirstWith has (e ∷ rest) x → IsFirstWith has rest x
passed_over e x rest not (in_front h) = absurd (not h)
passed_over e x rest not (further n f) = f

none_first : {has : Term → Type 0} (e : Term) → IsFirstWith has [] e → ⊥
none_first e f = elim f [ ]

module _ {A : Type 0} (shown : A → Term) (k : Skeleton) (items : List A) where
  module _ (i : ℕ) (x : A) (below : i < length items) (read : x ≡ get_or items i x) (so_far : NoneStays k (map shown items) (map shown (drop i items))) where
    left : NoneStays k (map shown items) (shown x ∷ map shown (drop (i + 1) items))
    left = subst (λ (xs : List A). NoneStays k (map shown items) (map shown xs)) (drop_read items i x below read) so_far

    pub item_stays : (es : List Term) → map shown items ≡ es → StaysClosed k (shown x) → IsFirstWith (StaysClosed k) es (shown x)
    item_stays es same s = subst (λ (xs : List Term). IsFirstWith (StaysClosed k) xs (shown x)) same (left.first (shown x) (in_front s))

    pub item_passed : (StaysClosed k (shown x) → ⊥) → NoneStays k (map shown items) (map shown (drop (i + 1) items))
    item_passed n = record {
      first = λ e f. left.first e (further n f);
      none = λ e f. passed_over (shown x) e (map shown (drop (i + 1) items)) n (left.none e f);
    }

  pub none_past : (i : ℕ) → length items ≤ i → NoneStays k (map shown items) (map shown (drop i items)) → (es : List Term) → map shown items ≡ es → (e : Term) → IsFirstWith (StaysClosed k) es e → ⊥
  none_past i past so_far es same e f =
      let end : NoneStays k (map shown items) [] = subst (λ (xs : List A). NoneStays k (map shown items) (map shown xs)) (drop_all i items past) so_far in
      none_first e (end.none e (subst (λ (xs : List Term). IsFirstWith (StaysClosed k) xs e) (sym same) f))

-- ---- whether one stays closed

same_key_variables : (key : KeyTerm) → variables_of_key (inverse_term key) ≡ variables_of_key key
same_key_variables (symmetric_term k) = refl
same_key_variables (asymmetric_term flag k) = refl

-- The variables of what originates nowhere are the skeleton's.
assumed_used : (k : Skeleton) (v : AtomTerm) → IsIn v k.assumptions.non_originating → (x : Variable) → IsIn x (variables_of_atom v) → IsIn x (used_variables k)
assumed_used k v listed x i =
    in_append_left (variables_of_terms k.from_problem.values)
    (in_append_right (variables_of_strands k.strands)
    (in_append_left (variables_of_uniques k.assumptions.uniquely_originating) (in_append_left (variables_of_atoms k.assumptions.penetrator_non_originating) (in_atoms k.assumptions.non_originating v x listed i))))

module _ (k : Skeleton) (e body : Term) (key : KeyTerm) (is : e ≡ enc_term body key) where
  pub stays : IsIn (key_term (inverse_term key)) k.assumptions.non_originating → StaysClosed k e
  stays listed = record {
    body = body;
    key = key;
    is_encryption = is;
    own_key = λ x i. assumed_used k (key_term (inverse_term key)) listed x (subst (IsIn x) (sym (same_key_variables key)) i);
    non_originating = listed;
  }

  pub inverse_listed : StaysClosed k e → IsIn (key_term (inverse_term key)) k.assumptions.non_originating
  inverse_listed s =
      let both : enc_term body key ≡ enc_term s.body s.key = sym is ∙ s.is_encryption in
      let same : key ≡ s.key = cc in
      subst (λ (j : KeyTerm). IsIn (key_term (inverse_term j)) k.assumptions.non_originating) (sym same) s.non_originating

  module _ (key_term' inverse : Term) (shown : key_term' ≡ key_as_term key) (inverts : (j : KeyTerm) → key_term' ≡ key_as_term j → inverse ≡ key_as_term (inverse_term j)) where
    pub stays_exactly : (v : AtomTerm) → inverse ≡ atom_term v → (answer : Bool) → IsTrue answer ↔ IsIn v k.assumptions.non_originating → IsTrue answer ↔ StaysClosed k e
    stays_exactly v is_atom answer h =
        let both : atom_term v ≡ key_as_term (inverse_term key) = sym is_atom ∙ inverts key shown in
        let same : v ≡ key_term (inverse_term key) = cc in
        (λ t. stays (subst (λ (w : AtomTerm). IsIn w k.assumptions.non_originating) same (h.0 t)), λ s. h.1 (subst (λ (w : AtomTerm). IsIn w k.assumptions.non_originating) (sym same) (inverse_listed s)))
