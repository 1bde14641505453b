-- What the bindings of locals that were found tell.
use Rattle.std.proofs.Common.{◌≡◌, ℕ, Bool, true, false, if◌then◌else◌, ◌==◌, ◌&&◌, List, [], ◌∷◌, Option, Some, None, MatchOption, IfSome, IfNone, refl, sym, ap, ap₂, ◌∙◌, subst}
use Rattle.std.specs.Prelude.{nat_eq, option_and_then}
use Rattle.std.specs.Bool.{Decides}
use Rattle.std.specs.Cmp.Lexicographic.{pointwise}
use Rattle.std.specs.Option.{option_eq}
use Rattle.std.proofs.lemmas.Bool.{eq-eqb}
use Rattle.std.proofs.lemmas.Bool.Decides.{Decides-and}
use Rattle.cp_lists.specs.Lists.{IsIn, here}
use Rattle.cp_model.specs.Term.{SymmetricTerm, skey_variable, ltk_term, PairTerm, akey_variable, pubk_term, KeyTerm, symmetric_term, asymmetric_term, AtomTerm, text_variable, datum_variable, name_variable, key_term, Term, tag_term, atom_term, pair_term, enc_term, variable_term, variables_of_symmetric, variables_of_pair, variables_of_key, variables_of_atom, variables_of, inverse_term, flag_of, Substitution, apply_to_key, apply_to}
use Rattle.cp_model.specs.declared.sort.Sort.{Sort}
use Rattle.cp_model.specs.declared.sort.Sort.TheVariants.{Text as text_sort, Datum as datum_sort, Name as name_sort, Skey as skey_sort, Akey as akey_sort}
use Rattle.cp_model.specs.declared.variable.Variable.{Variable}
use Rattle.cp_model.proofs.LawTerms.{flag_last, term_unchanged, flag_twice}
use Rattle.cp_model.specs.Same.{same_bool, same_term}
use Rattle.cp_model.proofs.CarriedParts.{not_both}
use Rattle.cp_model.proofs.SameTests.{variable_in, in_has_variable}
use Rattle.cp_term.proofs.SameTerms.{bytes_Decides, flag_Decides, purpose_Decides, same_Decides}
use Rattle.cp_unify.specs.Bindings.{Binding, put_term, as_substitution}
use Rattle.cp_unify.specs.Beside.{Agrees, MatchesBeside, NeverMatchesBeside}
use Rattle.cp_unify.specs.Matched.{IsFound, is_listed, bound_term, matched_local, matched_variable, matched_names, matched_symmetric, matched_pairs, matched_keys, matched_atoms, matched}
use Rattle.cp_unify.specs.Matches.{ChangesOnly, BindsOnly, IsMatch, HasNoMatch}
use Rattle.cp_term.specs.Keys.{key_as_term, IsKey}
use Rattle.cp_term.specs.Variables.{variable_of_sort}
use Rattle.cp_term.specs.Sorts.{is_atom_of_sort, is_of_sort}
use Rattle.cp_unify.proofs.Found.{swap}
use Rattle.cp_unify.proofs.Members.{among_left, among_right}
use Rattle.cp_unify.proofs.VariablesUnder.{sort_matches, bound, other}

-- The substitution changes only is_local.
abbrev pub ChangesLocals : (Variable → Bool) → Substitution → Type 0
ChangesLocals is_local s = (x : Variable) → is_local x ≡ false → apply_to s (variable_term x) ≡ variable_term x

-- The list has all locals among these variables.
abbrev pub HasLocals : (Variable → Bool) → List Variable → List Variable → Type 0
HasLocals is_local xs locals = (x : Variable) → IsIn x xs → is_local x ≡ true → IsIn x locals

-- q are bindings beside r with which, and with which alone, a substitution that changes only is_local meets an equation.
-- They are of locals among these variables.
pub record MeetsBeside (is_local : Variable → Bool) (xs : List Variable) (equation : Substitution → Type 0) (r q : List Binding) : Type 0 where
  pub extends : (s : Substitution) → Agrees s q → Agrees s r
  pub sound : (s : Substitution) → ChangesLocals is_local s → Agrees s q → equation s
  pub general : (s : Substitution) → ChangesLocals is_local s → Agrees s r → equation s → Agrees s q
  pub own : Agrees (as_substitution r) r → Agrees (as_substitution q) q
  pub only : (locals : List Variable) → HasLocals is_local xs locals → BindsOnly locals r → BindsOnly locals q

abbrev pub Outcome : (Variable → Bool) → List Variable → (Substitution → Type 0) → List Binding → Option (List Binding) → Type 0
Outcome is_local xs equation r answer =
    MatchOption answer ((s : Substitution) → ChangesLocals is_local s → Agrees s r → equation s → ⊥) (λ q. MeetsBeside is_local xs equation r q)

outcome_like : (is_local : Variable → Bool) (xs : List Variable) (e f : Substitution → Type 0) (r : List Binding) (answer : Option (List Binding)) →
    ((s : Substitution) → e s → f s) → ((s : Substitution) → f s → e s) → Outcome is_local xs e r answer → Outcome is_local xs f r answer
outcome_like is_local xs e f r None up down h = λ s c a w. h s c a (down s w)
outcome_like is_local xs e f r (Some q) up down h = record {
  extends = h.extends;
  sound = λ s c a. up s (h.sound s c a);
  general = λ s c a w. h.general s c a (down s w);
  own = h.own;
  only = h.only;
}

both_beside : (is_local : Variable → Bool) (xs ys zs : List Variable) (e1 e2 e : Substitution → Type 0) (r q : List Binding) (answer : Option (List Binding)) →
    ((x : Variable) → IsIn x xs → IsIn x zs) → ((x : Variable) → IsIn x ys → IsIn x zs) →
    ((s : Substitution) → e1 s → e2 s → e s) → ((s : Substitution) → e s → e1 s) → ((s : Substitution) → e s → e2 s) →
    MeetsBeside is_local xs e1 r q → Outcome is_local ys e2 q answer → Outcome is_local zs e r answer
both_beside is_local xs ys zs e1 e2 e r q None i1 i2 up d1 d2 h k = λ s c a w. k s c (h.general s c a (d1 s w)) (d2 s w)
both_beside is_local xs ys zs e1 e2 e r q (Some p) i1 i2 up d1 d2 h k = record {
  extends = λ s a. h.extends s (k.extends s a);
  sound = λ s c a. up s (h.sound s c (k.extends s a)) (k.sound s c a);
  general = λ s c a w. k.general s c (h.general s c a (d1 s w)) (d2 s w);
  own = λ o. k.own (h.own o);
  only = λ ls w o. k.only ls (λ x i. w x (i2 x i)) (h.only ls (λ x i. w x (i1 x i)) o);
}

outcome_both : (is_local : Variable → Bool) (xs ys zs : List Variable) (e1 e2 e : Substitution → Type 0) (r : List Binding) (first : Option (List Binding)) (next : List Binding → Option (List Binding)) →
    ((x : Variable) → IsIn x xs → IsIn x zs) → ((x : Variable) → IsIn x ys → IsIn x zs) →
    ((s : Substitution) → e1 s → e2 s → e s) → ((s : Substitution) → e s → e1 s) → ((s : Substitution) → e s → e2 s) →
    Outcome is_local xs e1 r first → ((q : List Binding) → Outcome is_local ys e2 q (next q)) → Outcome is_local zs e r (option_and_then next first)
outcome_both is_local xs ys zs e1 e2 e r None next i1 i2 up d1 d2 h k = λ s c a w. h s c a (d1 s w)
outcome_both is_local xs ys zs e1 e2 e r (Some q) next i1 i2 up d1 d2 h k = both_beside is_local xs ys zs e1 e2 e r q (next q) i1 i2 up d1 d2 h (k q)

-- What holds anyway, or never.
outcome_choice : (is_local : Variable → Bool) (xs : List Variable) (e : Substitution → Type 0) (r : List Binding) (b : Bool) →
    (b ≡ true → (s : Substitution) → ChangesLocals is_local s → Agrees s r → e s) → (b ≡ false → (s : Substitution) → ChangesLocals is_local s → Agrees s r → e s → ⊥) →
    Outcome is_local xs e r (if b then Some r else None)
outcome_choice is_local xs e r true up down = record {
  extends = λ s a. a;
  sound = λ s c a. up refl s c a;
  general = λ s c a w. a;
  own = λ o. o;
  only = λ ls w o. o;
}
outcome_choice is_local xs e r false up down = λ s c a w. down refl s c a w

-- The term of a bound variable; and that one that is not bound is that of no binding.
agrees_bound : (s : Substitution) (r : List Binding) (x t : Term) → Agrees s r → bound_term r x ≡ Some t → apply_to s x ≡ t
agrees_bound s [] x t a e = absurd (let f : ◌≡◌ {A = Option Term} None (Some t) = e in cc)
agrees_bound s (b ∷ bs) x t a e = choose (same_term x (variable_term b.variable)) (same_Decides x (variable_term b.variable)).0 e (agrees_bound s bs x t a.1)
  where
    choose : (c : Bool) → (c ≡ true → x ≡ variable_term b.variable) → (if c then Some b.term else bound_term bs x) ≡ Some t →
        (bound_term bs x ≡ Some t → apply_to s x ≡ t) → apply_to s x ≡ t
    choose true p f rest = let et : b.term ≡ t = cc in ap (apply_to s) (p refl) ∙ a.0 ∙ et
    choose false p f rest = rest f

unbound_apart : (r : List Binding) (c : Binding) → bound_term r (variable_term c.variable) ≡ None → (s : Substitution) → Agrees s r → Agrees (put_term c.variable c.term s) r
unbound_apart [] c e s a = tt
unbound_apart (b ∷ bs) c e s a =
    choose (same_term v (variable_term b.variable)) (same_Decides v (variable_term b.variable)).1 e (λ f. unbound_apart bs c f s a.1)
  where
    v : Term
    v = variable_term c.variable

    choose : (k : Bool) → (variable_term c.variable ≡ variable_term b.variable → k ≡ true) →
        (if k then Some b.term else bound_term bs (variable_term c.variable)) ≡ None →
        (bound_term bs (variable_term c.variable) ≡ None → Agrees (put_term c.variable c.term s) bs) → Agrees (put_term c.variable c.term s) (b ∷ bs)
    choose true p f rest = absurd (let g : Some b.term ≡ None = f in cc)
    choose false p f rest =
        (other c s b.variable (λ same. let g : false ≡ true = p (ap (λ (x : Variable). variable_term x) (sym same)) in cc) ∙ a.0, rest f)

-- The substitution makes the pattern the term.
abbrev pub IsMade : Term → Term → Substitution → Type 0
IsMade p t s = apply_to s p ≡ t

abbrev Stands : AtomTerm → AtomTerm → Substitution → Type 0
Stands x v = IsMade (atom_term x) (atom_term v)

-- A local that is not bound yet.
new_local : (is_local : Variable → Bool) (x : Variable) (v : Term) (r : List Binding) → is_of_sort x.sort v ≡ true → is_local x ≡ true → bound_term r (variable_term x) ≡ None →
    MeetsBeside is_local (x ∷ []) (IsMade (variable_term x) v) r (record { variable = x; term = v } ∷ r)
new_local is_local x v r sort one free =
    let b : Binding = record { variable = x; term = v } in
    record {
      extends = λ s a. a.1;
      sound = λ s c a. a.0;
      general = λ s c a w. (w, a);
      own = λ o. (bound b (as_substitution r) sort, unbound_apart r b free (as_substitution r) o);
      only = λ ls w o. (w x here one, o);
    }

local_found : (is_local : Variable → Bool) (x : Variable) (v : Term) (r : List Binding) → is_of_sort x.sort v ≡ true → is_local x ≡ true → (o : Option Term) →
    bound_term r (variable_term x) ≡ o → Outcome is_local (x ∷ []) (IsMade (variable_term x) v) r (matched_local x v r o)
local_found is_local x v r sort one None e = new_local is_local x v r sort one e
local_found is_local x v r sort one (Some t) e =
    outcome_choice is_local (x ∷ []) (IsMade (variable_term x) v) r (same_term t v)
    (λ f s c a. agrees_bound s r (variable_term x) t a e ∙ (same_Decides t v).0 f)
    (λ f s c a w. let g : same_term t v ≡ true = (same_Decides t v).1 (sym (agrees_bound s r (variable_term x) t a e) ∙ w) in cc)

variable_matched : (is_local : Variable → Bool) (x : Variable) (v : Term) (r : List Binding) → Outcome is_local (x ∷ []) (IsMade (variable_term x) v) r (matched_variable is_local x v r)
variable_matched is_local x v r = by_sort (is_of_sort x.sort v) refl
  where
    by_local : is_of_sort x.sort v ≡ true → (c : Bool) → is_local x ≡ c →
        Outcome is_local (x ∷ []) (IsMade (variable_term x) v) r (if c then matched_local x v r (bound_term r (variable_term x)) else (if same_term (variable_term x) v then Some r else None))
    by_local sort true e = local_found is_local x v r sort e (bound_term r (variable_term x)) refl
    by_local sort false e =
        outcome_choice is_local (x ∷ []) (IsMade (variable_term x) v) r (same_term (variable_term x) v)
        (λ f s c a. c x e ∙ (same_Decides (variable_term x) v).0 f)
        (λ f s c a w. let g : same_term (variable_term x) v ≡ true = (same_Decides (variable_term x) v).1 (sym (c x e) ∙ w) in cc)

    by_sort : (b : Bool) → is_of_sort x.sort v ≡ b →
        Outcome is_local (x ∷ []) (IsMade (variable_term x) v) r (if b then (if is_local x then matched_local x v r (bound_term r (variable_term x)) else (if same_term (variable_term x) v then Some r else None)) else None)
    by_sort true e = by_local e (is_local x) refl
    by_sort false e = λ s c a w. let f : is_of_sort x.sort v ≡ true = subst (λ (u : Term). is_of_sort x.sort u ≡ true) w (sort_matches s x.sort x.number) in cc

-- Keys.
abbrev symmetric_atom : SymmetricTerm → AtomTerm
symmetric_atom k = key_term (symmetric_term k)

abbrev asymmetric_atom : Bool → PairTerm → AtomTerm
asymmetric_atom f k = key_term (asymmetric_term f k)

-- The same as a term.
abbrev asymmetric_term_of : Bool → PairTerm → Term
asymmetric_term_of f k = atom_term (asymmetric_atom f k)

named : {m n : ℕ} → m ≡ n → atom_term (name_variable m) ≡ atom_term (name_variable n)
named e = ap (λ (k : ℕ). atom_term (name_variable k)) e

abbrev a_name : ℕ → Variable
a_name n = record { sort = name_sort; number = n }

symmetric_matched : (is_local : Variable → Bool) (k j : SymmetricTerm) (r : List Binding) → Outcome is_local (variables_of_symmetric k) (Stands (symmetric_atom k) (symmetric_atom j)) r (matched_symmetric is_local k j r)
symmetric_matched is_local (skey_variable m) j r = variable_matched is_local (record { sort = skey_sort; number = m }) (atom_term (symmetric_atom j)) r
symmetric_matched is_local (ltk_term a b) (skey_variable n) r = λ s c g w. cc
symmetric_matched is_local (ltk_term a b) (ltk_term c d) r =
    outcome_both is_local (a_name a ∷ []) (a_name b ∷ []) (variables_of_symmetric (ltk_term a b)) (Stands (name_variable a) (name_variable c)) (Stands (name_variable b) (name_variable d)) (Stands (symmetric_atom (ltk_term a b)) (symmetric_atom (ltk_term c d))) r
    (matched_names is_local a c r) (matched_names is_local b d) (among_left (a_name a ∷ []) (a_name b ∷ [])) (among_right (a_name a ∷ []) (a_name b ∷ []))
    (λ s e f. let e' : s.names a ≡ c = cc in let f' : s.names b ≡ d = cc in ap₂ (λ (m n : ℕ). atom_term (symmetric_atom (ltk_term m n))) e' f')
    (λ s w. let e : s.names a ≡ c = cc in named e) (λ s w. let e : s.names b ≡ d = cc in named e)
    (variable_matched is_local (record { sort = name_sort; number = a }) (atom_term (name_variable c)) r) (λ q. variable_matched is_local (record { sort = name_sort; number = b }) (atom_term (name_variable d)) q)

akey_up : (f g x : Bool) → x ≡ flag_of f g → flag_of f x ≡ g
akey_up f g x e = ap (flag_of f) e ∙ flag_twice f g

akey_down : (f g x : Bool) → flag_of f x ≡ g → x ≡ flag_of f g
akey_down f g x e = swap f g x false (e ∙ sym (flag_last g)) ∙ flag_last (flag_of f g)

akey_matched : (is_local : Variable → Bool) (f : Bool) (m : ℕ) (g : Bool) (j : PairTerm) (r : List Binding) →
    Outcome is_local (variables_of_pair (akey_variable m)) (Stands (asymmetric_atom f (akey_variable m)) (asymmetric_atom g j)) r (matched_pairs is_local f (akey_variable m) g j r)
akey_matched is_local f m g j r =
    outcome_like is_local (variables_of_pair (akey_variable m)) (IsMade (variable_of_sort akey_sort m) (atom_term (asymmetric_atom (flag_of f g) j))) (Stands (asymmetric_atom f (akey_variable m)) (asymmetric_atom g j)) r
    (matched_pairs is_local f (akey_variable m) g j r)
    (λ s w. let e0 : (s.akeys m).0 ≡ flag_of f g = cc in let e1 : (s.akeys m).1 ≡ j = cc in ap₂ asymmetric_term_of (akey_up f g (s.akeys m).0 e0) e1)
    (λ s w. let e0 : flag_of f (s.akeys m).0 ≡ g = cc in let e1 : (s.akeys m).1 ≡ j = cc in ap₂ asymmetric_term_of (akey_down f g (s.akeys m).0 e0) e1)
    (variable_matched is_local (record { sort = akey_sort; number = m }) (atom_term (asymmetric_atom (flag_of f g) j)) r)

pubk_matched : (is_local : Variable → Bool) (f g : Bool) (p q : Option (List ℕ)) (a b : ℕ) (r : List Binding) (c : Bool) → Decides c ((f ≡ g) × (p ≡ q)) →
    Outcome is_local (variables_of_pair (pubk_term p a)) (Stands (asymmetric_atom f (pubk_term p a)) (asymmetric_atom g (pubk_term q b))) r (if c then matched_names is_local a b r else None)
pubk_matched is_local f g p q a b r true d =
    let e : (f ≡ g) × (p ≡ q) = d.0 refl in
    outcome_like is_local (variables_of_pair (pubk_term p a)) (Stands (name_variable a) (name_variable b)) (Stands (asymmetric_atom f (pubk_term p a)) (asymmetric_atom g (pubk_term q b))) r (matched_names is_local a b r)
    (λ s w. let w' : s.names a ≡ b = cc in ap₂ asymmetric_term_of e.0 (ap₂ pubk_term e.1 w'))
    (λ s w. let w' : s.names a ≡ b = cc in named w')
    (variable_matched is_local (record { sort = name_sort; number = a }) (atom_term (name_variable b)) r)
pubk_matched is_local f g p q a b r false d = λ s c x w. let e0 : f ≡ g = cc in let e1 : p ≡ q = cc in let e : false ≡ true = d.1 (e0, e1) in cc

pairs_matched : (is_local : Variable → Bool) (f : Bool) (k : PairTerm) (g : Bool) (j : PairTerm) (r : List Binding) →
    Outcome is_local (variables_of_pair k) (Stands (asymmetric_atom f k) (asymmetric_atom g j)) r (matched_pairs is_local f k g j r)
pairs_matched is_local f (akey_variable m) g j r = akey_matched is_local f m g j r
pairs_matched is_local f (pubk_term p a) g (akey_variable n) r = λ s c x w. cc
pairs_matched is_local f (pubk_term p a) g (pubk_term q b) r =
    pubk_matched is_local f g p q a b r (same_bool f g && option_eq (pointwise nat_eq) p q) (Decides-and _ _ (flag_Decides f g) (purpose_Decides p q))

keys_matched : (is_local : Variable → Bool) (k j : KeyTerm) (r : List Binding) → Outcome is_local (variables_of_key k) (Stands (key_term k) (key_term j)) r (matched_keys is_local k j r)
keys_matched is_local (symmetric_term k) (symmetric_term j) r = symmetric_matched is_local k j r
keys_matched is_local (asymmetric_term f k) (asymmetric_term g j) r = pairs_matched is_local f k g j r
keys_matched is_local (symmetric_term k) (asymmetric_term g j) r = λ s c x w. cc
keys_matched is_local (asymmetric_term f k) (symmetric_term j) r = λ s c x w. cc

atoms_matched : (is_local : Variable → Bool) (u v : AtomTerm) (r : List Binding) → Outcome is_local (variables_of_atom u) (Stands u v) r (matched_atoms is_local u v r)
atoms_matched is_local (text_variable m) v r = variable_matched is_local (record { sort = text_sort; number = m }) (atom_term v) r
atoms_matched is_local (datum_variable m) v r = variable_matched is_local (record { sort = datum_sort; number = m }) (atom_term v) r
atoms_matched is_local (name_variable m) v r = variable_matched is_local (record { sort = name_sort; number = m }) (atom_term v) r
atoms_matched is_local (key_term k) (key_term j) r = keys_matched is_local k j r
atoms_matched is_local (key_term k) _ r = λ s c x w. cc

-- Terms.
tags_matched : (is_local : Variable → Bool) (x y : List ℕ) (r : List Binding) (b : Bool) → Decides b (x ≡ y) → Outcome is_local [] (IsMade (tag_term x) (tag_term y)) r (if b then Some r else None)
tags_matched is_local x y r b d =
    outcome_choice is_local [] (IsMade (tag_term x) (tag_term y)) r b (λ f s c a. ap tag_term (d.0 f)) (λ f s c a w. let e : x ≡ y = cc in let g : b ≡ true = d.1 e in cc)

pub terms_matched : (is_local : Variable → Bool) (p t : Term) (r : List Binding) → Outcome is_local (variables_of p) (IsMade p t) r (matched is_local p t r)
terms_matched is_local (tag_term x) (tag_term y) r = tags_matched is_local x y r (pointwise nat_eq x y) (bytes_Decides x y)
terms_matched is_local (atom_term u) (atom_term v) r = atoms_matched is_local u v r
terms_matched is_local (pair_term a b) (pair_term c d) r =
    outcome_both is_local (variables_of a) (variables_of b) (variables_of (pair_term a b)) (IsMade a c) (IsMade b d) (IsMade (pair_term a b) (pair_term c d)) r (matched is_local a c r) (matched is_local b d)
    (among_left (variables_of a) (variables_of b)) (among_right (variables_of a) (variables_of b))
    (λ s e f. ap₂ pair_term e f) (λ s w. cc) (λ s w. cc) (terms_matched is_local a c r) (λ q. terms_matched is_local b d q)
terms_matched is_local (enc_term a k) (enc_term b j) r =
    outcome_both is_local (variables_of_key k) (variables_of a) (variables_of (enc_term a k)) (Stands (key_term k) (key_term j)) (IsMade a b) (IsMade (enc_term a k) (enc_term b j)) r (matched_keys is_local k j r) (matched is_local a b)
    (among_right (variables_of a) (variables_of_key k)) (among_left (variables_of a) (variables_of_key k))
    (λ s e f. let e' : apply_to_key s k ≡ j = cc in ap₂ enc_term f e') (λ s w. let e : apply_to_key s k ≡ j = cc in ap (λ (i : KeyTerm). atom_term (key_term i)) e) (λ s w. cc)
    (keys_matched is_local k j r) (λ q. terms_matched is_local a b q)
terms_matched is_local _ _ r = λ s c x w. cc

-- The bindings change only the variables that they are of.
changes_only : (locals : List Variable) (r : List Binding) → BindsOnly locals r → ChangesOnly locals (as_substitution r)
changes_only locals [] h x apart = term_unchanged (variable_term x)
changes_only locals (b ∷ bs) h x apart =
    other b (as_substitution bs) x (λ e. apart (subst (λ (y : Variable). IsIn y locals) (sym e) h.0)) ∙ changes_only locals bs h.1 x apart

-- Where a substitution changes only variables that are listed, it changes only those that pass the test.
changes_listed : (locals : List Variable) (s : Substitution) → ChangesOnly locals s → ChangesLocals (is_listed (Some locals)) s
changes_listed locals s c x e = c x (λ i. not_both e (in_has_variable locals x i))

changes_any : (s : Substitution) → ChangesLocals (is_listed None) s
changes_any s x e = absurd (let f : true ≡ false = e in cc)

answer_some : (p t : Term) (locals : List Variable) (answer : Option (List Binding)) → Outcome (is_listed (Some locals)) (variables_of p) (IsMade p t) [] answer →
    IfSome answer (λ r. IsMatch p t locals r)
answer_some p t locals None h = tt
answer_some p t locals (Some q) h =
    let only : BindsOnly locals q = h.only locals (λ x i e. variable_in locals x e) tt in
    record { binds_locals = only; matches = h.sound (as_substitution q) (changes_listed locals (as_substitution q) (changes_only locals q only)) (h.own tt) }

answer_occur : (p t : Term) (locals : List Variable) (answer : Option (List Binding)) → Outcome (is_listed (Some locals)) (variables_of p) (IsMade p t) [] answer →
    IfSome answer (λ r. BindsOnly (variables_of p) r)
answer_occur p t locals None h = tt
answer_occur p t locals (Some q) h = h.only (variables_of p) (λ x i e. i) tt

answer_none : (p t : Term) (locals : List Variable) (answer : Option (List Binding)) → Outcome (is_listed (Some locals)) (variables_of p) (IsMade p t) [] answer →
    IfNone answer (HasNoMatch p t locals)
answer_none p t locals None h = λ s c w. h s (changes_listed locals s c) tt w
answer_none p t locals (Some q) h = tt

-- A match where each variable is a local.
pub beside_some : (p t : Term) (r : List Binding) (answer : Option (List Binding)) → answer ≡ matched (is_listed None) p t r → IfSome answer (MatchesBeside p t r)
beside_some p t r answer e = choose answer (subst (Outcome (is_listed None) (variables_of p) (IsMade p t) r) (sym e) (terms_matched (is_listed None) p t r))
  where
    choose : (found : Option (List Binding)) → Outcome (is_listed None) (variables_of p) (IsMade p t) r found → IfSome found (MatchesBeside p t r)
    choose None h = tt
    choose (Some q) h = record {
      extends = h.extends;
      sound = λ s a. h.sound s (changes_any s) a;
      general = λ s a w. h.general s (changes_any s) a w;
      own = h.own;
    }

pub beside_none : (p t : Term) (r : List Binding) (answer : Option (List Binding)) → answer ≡ matched (is_listed None) p t r → IfNone answer (NeverMatchesBeside p t r)
beside_none p t r answer e = choose answer (subst (Outcome (is_listed None) (variables_of p) (IsMade p t) r) (sym e) (terms_matched (is_listed None) p t r))
  where
    choose : (found : Option (List Binding)) → Outcome (is_listed None) (variables_of p) (IsMade p t) r found → IfNone found (NeverMatchesBeside p t r)
    choose None h = λ s a w. h s (changes_any s) a w
    choose (Some q) h = tt

outcome_of : (p t : Term) (locals : List Variable) (given : List Binding) (answer : Option (List Binding)) → given ≡ [] → answer ≡ matched (is_listed (Some locals)) p t given →
    Outcome (is_listed (Some locals)) (variables_of p) (IsMade p t) [] answer
outcome_of p t locals given answer none e =
    subst (Outcome (is_listed (Some locals)) (variables_of p) (IsMade p t) []) (sym (e ∙ ap (matched (is_listed (Some locals)) p t) none)) (terms_matched (is_listed (Some locals)) p t [])

pub match_some : (p t : Term) (locals : List Variable) (given : List Binding) (answer : Option (List Binding)) → given ≡ [] → answer ≡ matched (is_listed (Some locals)) p t given →
    IfSome answer (λ r. IsMatch p t locals r)
match_some p t locals given answer none e = answer_some p t locals answer (outcome_of p t locals given answer none e)

pub match_occur : (p t : Term) (locals : List Variable) (given : List Binding) (answer : Option (List Binding)) → given ≡ [] → answer ≡ matched (is_listed (Some locals)) p t given →
    IfSome answer (λ r. BindsOnly (variables_of p) r)
match_occur p t locals given answer none e = answer_occur p t locals answer (outcome_of p t locals given answer none e)

pub match_none : (p t : Term) (locals : List Variable) (given : List Binding) (answer : Option (List Binding)) → given ≡ [] → answer ≡ matched (is_listed (Some locals)) p t given →
    IfNone answer (HasNoMatch p t locals)
match_none p t locals given answer none e = answer_none p t locals answer (outcome_of p t locals given answer none e)

-- A term of sort akey, and one that is not.
pub record IsAsymmetric (t : Term) : Type 0 where
  pub flag : Bool
  pub half : PairTerm
  pub is_asymmetric : t ≡ key_as_term (asymmetric_term flag half)

asymmetric_atom_term : (u : AtomTerm) → true ≡ is_atom_of_sort akey_sort u → IsAsymmetric (atom_term u)
asymmetric_atom_term (key_term (asymmetric_term f k)) e = record { flag = f; half = k; is_asymmetric = refl }
asymmetric_atom_term (key_term (symmetric_term k)) e = absurd (let f : true ≡ false = e in cc)
asymmetric_atom_term (text_variable n) e = absurd (let f : true ≡ false = e in cc)
asymmetric_atom_term (datum_variable n) e = absurd (let f : true ≡ false = e in cc)
asymmetric_atom_term (name_variable n) e = absurd (let f : true ≡ false = e in cc)

pub asymmetric_of : (t : Term) (b : Bool) → b ≡ is_of_sort akey_sort t → b ≡ true → IsAsymmetric t
asymmetric_of (atom_term u) b is h = asymmetric_atom_term u (sym h ∙ is)
asymmetric_of (tag_term x) b is h = absurd (let f : true ≡ false = sym h ∙ is in cc)
asymmetric_of (pair_term a c) b is h = absurd (let f : true ≡ false = sym h ∙ is in cc)
asymmetric_of (enc_term a k) b is h = absurd (let f : true ≡ false = sym h ∙ is in cc)

not_akey_atom : (u : AtomTerm) (m : ℕ) (is_local : Variable → Bool) (r : List Binding) → false ≡ is_atom_of_sort akey_sort u → None ≡ matched_atoms is_local (asymmetric_atom true (akey_variable m)) u r
not_akey_atom (key_term (asymmetric_term f k)) m is_local r e = absurd (let g : false ≡ true = e in cc)
not_akey_atom (key_term (symmetric_term k)) m is_local r e = refl
not_akey_atom (text_variable n) m is_local r e = refl
not_akey_atom (datum_variable n) m is_local r e = refl
not_akey_atom (name_variable n) m is_local r e = refl

pub not_akey : (t : Term) (m : ℕ) (is_local : Variable → Bool) (r : List Binding) (b : Bool) → b ≡ is_of_sort akey_sort t → b ≡ false → None ≡ matched is_local (atom_term (asymmetric_atom true (akey_variable m))) t r
not_akey (tag_term x) m is_local r b is h = refl
not_akey (pair_term a c) m is_local r b is h = refl
not_akey (enc_term a k) m is_local r b is h = refl
not_akey (atom_term u) m is_local r b is h = not_akey_atom u m is_local r (sym h ∙ is)

pub asymmetric_is_key : (t : Term) → IsAsymmetric t → IsKey t
asymmetric_is_key t h = record { key = asymmetric_term h.flag h.half; is_key = h.is_asymmetric }

pub inverse_matched : (t inverse : Term) (m : ℕ) (is_local : Variable → Bool) (r : List Binding) (answer : Option (List Binding)) → IsAsymmetric t →
    ((k : KeyTerm) → t ≡ key_as_term k → inverse ≡ key_as_term (inverse_term k)) → answer ≡ matched is_local (variable_of_sort akey_sort m) inverse r →
    answer ≡ matched is_local (atom_term (asymmetric_atom true (akey_variable m))) t r
inverse_matched t inverse m is_local r answer h made e =
    e ∙ ap (λ (u : Term). matched is_local (variable_of_sort akey_sort m) u r) (made (asymmetric_term h.flag h.half) h.is_asymmetric)
    ∙ sym (ap (λ (u : Term). matched is_local (atom_term (asymmetric_atom true (akey_variable m))) u r) h.is_asymmetric)

-- A variable that is no local matches itself.
own_choice : (b c : Bool) (found : Option (List Binding)) (r : List Binding) → b ≡ false → c ≡ true → Some r ≡ (if b then found else (if c then Some r else None))
own_choice true c found r e f = absurd (let g : true ≡ false = e in cc)
own_choice false true found r e f = refl
own_choice false false found r e f = absurd (let g : false ≡ true = f in cc)

own_match : (sort : Sort) (n : ℕ) (is_local : Variable → Bool) (r : List Binding) → is_local (record { sort = sort; number = n }) ≡ false →
    Some r ≡ matched is_local (variable_of_sort sort n) (variable_of_sort sort n) r
own_match text_sort n is_local r e = own_choice _ (n == n) _ r e (eq-eqb n n refl)
own_match datum_sort n is_local r e = own_choice _ (n == n) _ r e (eq-eqb n n refl)
own_match name_sort n is_local r e = own_choice _ (n == n) _ r e (eq-eqb n n refl)
own_match skey_sort n is_local r e = own_choice _ (n == n) _ r e (eq-eqb n n refl)
own_match akey_sort n is_local r e = own_choice _ (n == n) _ r e (eq-eqb n n refl)

itself : (sort : Sort) (n : ℕ) (t : Term) (is_local : Variable → Bool) (r : List Binding) → t ≡ variable_of_sort sort n →
    is_local (record { sort = sort; number = n }) ≡ false → Some r ≡ matched is_local (variable_of_sort sort n) t r
itself sort n t is_local r e f = own_match sort n is_local r f ∙ sym (ap (λ (u : Term). matched is_local (variable_of_sort sort n) u r) e)

-- As another variable it is matched with nothing.
as_variable : (sort : Sort) (n : ℕ) (t : Term) (is_local : Variable → Bool) (r : List Binding) →
    matched is_local (variable_of_sort sort n) t r ≡ matched_variable is_local (record { sort = sort; number = n }) t r
as_variable text_sort n (atom_term v) is_local r = refl
as_variable datum_sort n (atom_term v) is_local r = refl
as_variable name_sort n (atom_term v) is_local r = refl
as_variable skey_sort n (atom_term (key_term (symmetric_term j))) is_local r = refl
as_variable skey_sort n (atom_term (key_term (asymmetric_term g j))) is_local r = refl
as_variable skey_sort n (atom_term (text_variable m)) is_local r = refl
as_variable skey_sort n (atom_term (datum_variable m)) is_local r = refl
as_variable skey_sort n (atom_term (name_variable m)) is_local r = refl
as_variable akey_sort n (atom_term (key_term (symmetric_term j))) is_local r = refl
as_variable akey_sort n (atom_term (key_term (asymmetric_term g j))) is_local r = refl
as_variable akey_sort n (atom_term (text_variable m)) is_local r = refl
as_variable akey_sort n (atom_term (datum_variable m)) is_local r = refl
as_variable akey_sort n (atom_term (name_variable m)) is_local r = refl
as_variable text_sort n (tag_term x) is_local r = refl
as_variable datum_sort n (tag_term x) is_local r = refl
as_variable name_sort n (tag_term x) is_local r = refl
as_variable skey_sort n (tag_term x) is_local r = refl
as_variable akey_sort n (tag_term x) is_local r = refl
as_variable text_sort n (pair_term a b) is_local r = refl
as_variable datum_sort n (pair_term a b) is_local r = refl
as_variable name_sort n (pair_term a b) is_local r = refl
as_variable skey_sort n (pair_term a b) is_local r = refl
as_variable akey_sort n (pair_term a b) is_local r = refl
as_variable text_sort n (enc_term a k) is_local r = refl
as_variable datum_sort n (enc_term a k) is_local r = refl
as_variable name_sort n (enc_term a k) is_local r = refl
as_variable skey_sort n (enc_term a k) is_local r = refl
as_variable akey_sort n (enc_term a k) is_local r = refl

no_choice : (b c d : Bool) (found : Option (List Binding)) (r : List Binding) → c ≡ false → (d ≡ true → ⊥) →
    None ≡ (if b then (if c then found else (if d then Some r else None)) else None)
no_choice false c d found r e f = refl
no_choice true true d found r e f = absurd (let g : true ≡ false = e in cc)
no_choice true false true found r e f = absurd (f refl)
no_choice true false false found r e f = refl

pub own_found : (sort : Sort) (n : ℕ) (t : Term) (is_local : Variable → Bool) (r : List Binding) (same : Bool) → Decides same (t ≡ variable_of_sort sort n) →
    is_local (record { sort = sort; number = n }) ≡ false → IsFound same r (matched is_local (variable_of_sort sort n) t r)
own_found sort n t is_local r true d e = itself sort n t is_local r (d.0 refl) e
own_found sort n t is_local r false d e =
    no_choice (is_of_sort sort t) _ (same_term (variable_of_sort sort n) t) _ r e
    (λ f. let g : false ≡ true = d.1 (sym ((same_Decides (variable_of_sort sort n) t).0 f)) in cc)
    ∙ sym (as_variable sort n t is_local r)
