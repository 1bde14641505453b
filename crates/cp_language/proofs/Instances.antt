-- The terms of an instance without faults: each variable of the prefix has one of its sort, with variables that are
-- declared or made for the instance.
use Rattle.std.proofs.Common.{◌≡◌, ℕ, zero, suc, ◌+◌, List, [], ◌∷◌, ◌++◌, length, map, Bool, true, false, ◌&&◌, not, Option, Some, None, refl, sym, ap, ◌∙◌, subst, arith, if◌then◌else◌, append_assoc}
use Rattle.std.proofs.lemmas.List.{length-append}
use Rattle.cp_base.specs.declared.place.Place.{Place}
use Rattle.cp_base.specs.declared.place.Code.TheVariants.{BadShape, DuplicateVar, NotInPrefix, IllSorted}
use Rattle.cp_lists.specs.Lists.{item_at, IsIn, here, there}
use Rattle.cp_model.specs.Term.{variable_term, SymmetricTerm, skey_variable, ltk_term, PairTerm, akey_variable, pubk_term, KeyTerm, symmetric_term, asymmetric_term, AtomTerm, text_variable, datum_variable, name_variable, key_term, Term, tag_term, atom_term, pair_term, enc_term, variables_of_symmetric, variables_of_pair, variables_of_key, variables_of_atom, variables_of, Substitution, apply_to_symmetric, apply_to_half, apply_to_key, apply_to_atom, apply_to}
use Rattle.cp_model.specs.declared.sort.Sort.{Sort}
use Rattle.cp_model.specs.declared.sort.Sort.TheVariants.{Text as text_sort, Datum as datum_sort, Name as name_sort, Skey as skey_sort, Akey as akey_sort}
use Rattle.cp_model.specs.declared.variable.Variable.{Variable}
use Rattle.cp_model.specs.Strand.{payload, event_map, Role, variables_of_trace, variables_of_prefix}
use Rattle.cp_model.specs.declared.strand.Event.{Event}
use Rattle.cp_model.specs.declared.strand.Event.TheVariants.{Send as send, Receive as recv}
use Rattle.cp_model.specs.declared.variable.Declaration.{Declaration}
use Rattle.cp_model.specs.Bindings.{as_substitution, bindings_of}
use Rattle.cp_model.specs.Values.{text_in, datum_in, name_in, skey_in, akey_in, substitution_by}
use Rattle.cp_model.specs.Problem.{declared_sort, IsDeclared}
use Rattle.cp_lists.proofs.Members.{in_append_left, in_append_right, only_item}
use Rattle.cp_lists.proofs.Appended.{none_before, none_behind, none_of_four}
use Rattle.cp_sexpr.specs.Syntax.{Form, symbol, string, number, list, none, more}
use Rattle.cp_language.specs.Words.{is_one_of}
use Rattle.cp_model.specs.Same.{has_variable}
use Rattle.cp_language.specs.Faults.{fault, fault_unless, place_of}
use Rattle.cp_language.specs.Terms.{variable_named, is_sort, sort_of, sort_faults, term_faults, term_of}
use Rattle.cp_language.specs.Problems.{is_known, role_variable_faults, mapped_faults, maplet_faults, mapped_identifier, maplets_faults, term_mapped, Instantiated, is_fresh, term_or_fresh, instantiated, instance_of_role}
use Rattle.cp_model.proofs.SameTests.{in_has_variable}
use Rattle.cp_model.proofs.DeclaredVariables.{still_declared}
use Rattle.cp_model.proofs.DeclaredTerms.{bindings_are}
use Rattle.cp_language.proofs.ValidTests.{one_of}
use Rattle.cp_language.proofs.Terms.{holds, AreDeclared, none_declared, both_declared, IsOfSort, variable_of_sort, variable_declared, term_variables_declared, term_of_sort}
use Rattle.cp_language.proofs.Names.{named_itself}
use Rattle.cp_language.proofs.Roles.{IsSoundRole, prefix_declared}

-- ---- terms under a substitution

-- The substitution gives each of these variables a term with declared variables.
abbrev pub TakesToDeclared : Substitution → List Declaration → List Variable → Type 0
TakesToDeclared s ds xs = (x : Variable) → IsIn x xs → AreDeclared ds (variables_of (apply_to s (variable_term x)))

takes_left : (s : Substitution) (ds : List Declaration) (xs ys : List Variable) → TakesToDeclared s ds (xs ++ ys) → TakesToDeclared s ds xs
takes_left s ds xs ys h x p = h x (in_append_left ys p)

takes_right : (s : Substitution) (ds : List Declaration) (xs ys : List Variable) → TakesToDeclared s ds (xs ++ ys) → TakesToDeclared s ds ys
takes_right s ds xs ys h x p = h x (in_append_right xs p)

symmetric_taken : (s : Substitution) (ds : List Declaration) (k : SymmetricTerm) → TakesToDeclared s ds (variables_of_symmetric k) → AreDeclared ds (variables_of_symmetric (apply_to_symmetric s k))
symmetric_taken s ds (skey_variable n) h = h (record { sort = skey_sort; number = n }) here
symmetric_taken s ds (ltk_term a b) h =
    both_declared ds (record { sort = name_sort; number = s.names a } ∷ []) (record { sort = name_sort; number = s.names b } ∷ [])
    (h (record { sort = name_sort; number = a }) here) (h (record { sort = name_sort; number = b }) (there here))

half_taken : (s : Substitution) (ds : List Declaration) (flag : Bool) (k : PairTerm) → TakesToDeclared s ds (variables_of_pair k) → AreDeclared ds (variables_of_pair (apply_to_half s flag k).1)
half_taken s ds flag (akey_variable n) h = h (record { sort = akey_sort; number = n }) here
half_taken s ds flag (pubk_term purpose a) h = h (record { sort = name_sort; number = a }) here

key_taken : (s : Substitution) (ds : List Declaration) (k : KeyTerm) → TakesToDeclared s ds (variables_of_key k) → AreDeclared ds (variables_of_key (apply_to_key s k))
key_taken s ds (symmetric_term k) h = symmetric_taken s ds k h
key_taken s ds (asymmetric_term flag k) h = half_taken s ds flag k h

pub atom_taken : (s : Substitution) (ds : List Declaration) (a : AtomTerm) → TakesToDeclared s ds (variables_of_atom a) → AreDeclared ds (variables_of_atom (apply_to_atom s a))
atom_taken s ds (text_variable n) h = h (record { sort = text_sort; number = n }) here
atom_taken s ds (datum_variable n) h = h (record { sort = datum_sort; number = n }) here
atom_taken s ds (name_variable n) h = h (record { sort = name_sort; number = n }) here
atom_taken s ds (key_term k) h = key_taken s ds k h

term_taken : (s : Substitution) (ds : List Declaration) (t : Term) → TakesToDeclared s ds (variables_of t) → AreDeclared ds (variables_of (apply_to s t))
term_taken s ds (tag_term bytes) h = none_declared ds
term_taken s ds (atom_term a) h = atom_taken s ds a h
term_taken s ds (pair_term a b) h =
    both_declared ds (variables_of (apply_to s a)) (variables_of (apply_to s b))
    (term_taken s ds a (takes_left s ds (variables_of a) (variables_of b) h)) (term_taken s ds b (takes_right s ds (variables_of a) (variables_of b) h))
term_taken s ds (enc_term a k) h =
    both_declared ds (variables_of (apply_to s a)) (variables_of_key (apply_to_key s k))
    (term_taken s ds a (takes_left s ds (variables_of a) (variables_of_key k) h)) (key_taken s ds k (takes_right s ds (variables_of a) (variables_of_key k) h))

payload_taken : (s : Substitution) (ds : List Declaration) (e : Event Term) → TakesToDeclared s ds (variables_of (payload e)) → AreDeclared ds (variables_of (payload (event_map (apply_to s) e)))
payload_taken s ds (send t) h = term_taken s ds t h
payload_taken s ds (recv t) h = term_taken s ds t h

pub trace_taken : (s : Substitution) (ds : List Declaration) (es : List (Event Term)) → TakesToDeclared s ds (variables_of_trace es) → AreDeclared ds (variables_of_trace (map (event_map (apply_to s)) es))
trace_taken s ds [] h = none_declared ds
trace_taken s ds (e ∷ es) h =
    both_declared ds (variables_of (payload (event_map (apply_to s) e))) (variables_of_trace (map (event_map (apply_to s)) es))
    (payload_taken s ds e (takes_left s ds (variables_of (payload e)) (variables_of_trace es) h))
    (trace_taken s ds es (takes_right s ds (variables_of (payload e)) (variables_of_trace es) h))

-- ---- a list of terms as a substitution

-- there is a term for a variable, of its sort and with declared variables
pub record HasTerm (ds : List Declaration) (s : Sort) (o : Option Term) : Type 0 where
  pub term : Term
  pub at : o ≡ Some term
  pub sorted : IsOfSort s term
  pub declared : AreDeclared ds (variables_of term)

-- a term of the variable's sort is taken
term_is_taken : (ts : List Term) (s : Sort) (n : ℕ) (t : Term) → item_at ts n ≡ Some t → IsOfSort s t → apply_to (substitution_by ts) (variable_term (record { sort = s; number = n })) ≡ t
term_is_taken ts text_sort n t e h =
    ap (λ (o : Option Term). atom_term (text_variable (text_in n o))) e ∙ ap (λ (u : Term). atom_term (text_variable (text_in n (Some u)))) h.1 ∙ sym h.1
term_is_taken ts datum_sort n t e h =
    ap (λ (o : Option Term). atom_term (datum_variable (datum_in n o))) e ∙ ap (λ (u : Term). atom_term (datum_variable (datum_in n (Some u)))) h.1 ∙ sym h.1
term_is_taken ts name_sort n t e h =
    ap (λ (o : Option Term). atom_term (name_variable (name_in n o))) e ∙ ap (λ (u : Term). atom_term (name_variable (name_in n (Some u)))) h.1 ∙ sym h.1
term_is_taken ts skey_sort n t e h =
    ap (λ (o : Option Term). atom_term (key_term (symmetric_term (skey_in n o)))) e ∙ ap (λ (u : Term). atom_term (key_term (symmetric_term (skey_in n (Some u))))) h.1 ∙ sym h.1
term_is_taken ts akey_sort n t e h =
    ap (λ (o : Option Term). atom_term (key_term (asymmetric_term (akey_in n o).0 (akey_in n o).1))) e
    ∙ ap (λ (u : Term). atom_term (key_term (asymmetric_term (akey_in n (Some u)).0 (akey_in n (Some u)).1))) h.2 ∙ sym h.2

taken_declared : (ds : List Declaration) (ts : List Term) (x : Variable) → HasTerm ds x.sort (item_at ts x.number) → AreDeclared ds (variables_of (apply_to (substitution_by ts) (variable_term x)))
taken_declared ds ts x h = subst (λ (t : Term). AreDeclared ds (variables_of t)) (sym (term_is_taken ts x.sort x.number h.term h.at h.sorted)) h.declared

-- ---- declarations go on

pub more_declared : (ds others : List Declaration) (xs : List Variable) → AreDeclared ds xs → AreDeclared (ds ++ others) xs
more_declared ds others xs h x p = still_declared ds others x.number x.sort (h x p)

next_declared : (ds : List Declaration) (d : Declaration) (others : List Declaration) → declared_sort (item_at (ds ++ (d ∷ others)) (length ds)) ≡ Some d.sort
next_declared [] d others = refl
next_declared (c ∷ ds) d others = next_declared ds d others

-- the declaration of a variable
declaration_there : (ds : List Declaration) (i : ℕ) (s : Sort) → declared_sort (item_at ds i) ≡ Some s → (d : Declaration) × (item_at ds i ≡ Some d) × (d.sort ≡ s)
declaration_there ds i s e = of (item_at ds i) e
  where
    of : (o : Option Declaration) → declared_sort o ≡ Some s → (d : Declaration) × (o ≡ Some d) × (d.sort ≡ s)
    of None e = absurd (cc)
    of (Some d) e = (d, refl, cc)

-- ---- the terms of an instance

-- What the maplets give a variable of the prefix is of its sort, with declared variables.
abbrev AreMapped : List Variable → List Declaration → List Form → List Declaration → ℕ → List Declaration → Type 0
AreMapped prefix ds maplets full n rest =
    (j : ℕ) (d : Declaration) (t : Term) → item_at rest j ≡ Some d → has_variable prefix (record { sort = d.sort; number = n + j }) ≡ true →
    term_mapped ds d.identifier maplets ≡ Some t → IsOfSort d.sort t × AreDeclared full (variables_of t)

-- the term of the first of the role's variables
first_term : (prefix : List Variable) (ds : List Declaration) (maplets : List Form) (full : List Declaration) (next n : ℕ) (d : Declaration) (o : Option Term) →
    ((t : Term) → o ≡ Some t → IsOfSort d.sort t × AreDeclared full (variables_of t)) →
    ((not (is_known o) && has_variable prefix (record { sort = d.sort; number = n })) ≡ true → IsDeclared full (record { sort = d.sort; number = next })) →
    has_variable prefix (record { sort = d.sort; number = n }) ≡ true →
    HasTerm full d.sort (Some (term_or_fresh o (not (is_known o) && has_variable prefix (record { sort = d.sort; number = n })) d.sort next))
first_term prefix ds maplets full next n d (Some t) given made occurs = let h = given t refl in record { term = t; at = refl; sorted = h.0; declared = h.1 }
first_term prefix ds maplets full next n d None given made occurs = record {
  term = variable_term (record { sort = d.sort; number = next });
  at = ap (λ (b : Bool). Some (term_or_fresh None b d.sort next)) occurs;
  sorted = variable_of_sort (record { sort = d.sort; number = next });
  declared = variable_declared full (record { sort = d.sort; number = next }) (made occurs);
}

-- the variables so far, with one more where it is made
abbrev front_with : Bool → List Declaration → Declaration → List Declaration
front_with b front d = front ++ (if b then d ∷ [] else [])

next_is_length : (b : Bool) (front : List Declaration) (d : Declaration) (next : ℕ) → next ≡ length front → (if b then suc next else next) ≡ length (front_with b front d)
next_is_length true front d next e = omega (arith, length-append front (d ∷ []))
next_is_length false front d next e = omega (arith, length-append front [])

next_there : (b : Bool) (front : List Declaration) (d : Declaration) (others full : List Declaration) (next : ℕ) → full ≡ front ++ ((if b then d ∷ [] else []) ++ others) → next ≡ length front →
    b ≡ true → IsDeclared full (record { sort = d.sort; number = next })
next_there true front d others full next e l is =
    subst (λ (ds : List Declaration). declared_sort (item_at ds next) ≡ Some d.sort) (sym e)
    (subst (λ (i : ℕ). declared_sort (item_at (front ++ (d ∷ others)) i) ≡ Some d.sort) (sym l) (next_declared front d others))
next_there false front d others full next e l is = absurd (cc)

has_terms : (prefix : List Variable) (ds : List Declaration) (maplets : List Form) (full front others : List Declaration) (next n : ℕ) (rest : List Declaration) →
    full ≡ front ++ ((instantiated prefix ds maplets next n rest).fresh ++ others) → next ≡ length front → AreMapped prefix ds maplets full n rest →
    (j : ℕ) (d : Declaration) → item_at rest j ≡ Some d → has_variable prefix (record { sort = d.sort; number = n + j }) ≡ true →
    HasTerm full d.sort (item_at (instantiated prefix ds maplets next n rest).terms j)
has_terms prefix ds maplets full front others next n [] e l mapped j d at occurs = absurd (cc)
has_terms prefix ds maplets full front others next n (c ∷ rest) e l mapped zero d at occurs =
    let b = is_fresh prefix ds maplets n c in
    let later = (instantiated prefix ds maplets (if b then suc next else next) (suc n) rest).fresh in
    let p : c ≡ d = cc in
    let q : n + 0 ≡ n = omega arith in
    let occurs_first = subst (λ (x : Declaration). has_variable prefix (record { sort = x.sort; number = n + 0 }) ≡ true) (sym p) occurs in
    subst (λ (x : Declaration). HasTerm full x.sort (item_at (instantiated prefix ds maplets next n (c ∷ rest)).terms 0)) p
    (first_term prefix ds maplets full next n c (term_mapped ds c.identifier maplets)
    (λ t given. mapped 0 c t refl occurs_first given)
    (next_there b front c (later ++ others) full next (e ∙ ap (λ (ys : List Declaration). front ++ ys) (append_assoc (if b then c ∷ [] else []) later others)) l)
    (subst (λ (i : ℕ). has_variable prefix (record { sort = c.sort; number = i }) ≡ true) q occurs_first))
has_terms prefix ds maplets full front others next n (c ∷ rest) e l mapped (suc j) d at occurs =
    let b = is_fresh prefix ds maplets n c in
    let later = (instantiated prefix ds maplets (if b then suc next else next) (suc n) rest).fresh in
    let q : n + suc j ≡ suc n + j = omega arith in
    has_terms prefix ds maplets full (front_with b front c) others (if b then suc next else next) (suc n) rest
    (e ∙ ap (λ (ys : List Declaration). front ++ ys) (append_assoc (if b then c ∷ [] else []) later others) ∙ sym (append_assoc front (if b then c ∷ [] else []) (later ++ others)))
    (next_is_length b front c next l)
    (λ k x t there occurs_later given.
    let r : suc n + k ≡ n + suc k = omega arith in
    mapped (suc k) x t there (subst (λ (i : ℕ). has_variable prefix (record { sort = x.sort; number = i }) ≡ true) r occurs_later) given)
    j d at (subst (λ (i : ℕ). has_variable prefix (record { sort = d.sort; number = i }) ≡ true) q occurs)

-- ---- maplets

-- what a term has to be that a variable of the role gets
abbrev IsMappedTo : Variable → List Declaration → Term → Type 0
IsMappedTo x ds u = IsOfSort x.sort u × AreDeclared ds (variables_of u)

this_maplet : (role : Role) (height : ℕ) (ds : List Declaration) (before : List (List ℕ)) (p : Place) (s : List ℕ) (f : Form) →
    mapped_faults role height ds before (symbol p s) (Some f) ≡ [] → term_faults ds f ≡ [] →
    (x : Variable) (t : List ℕ) → variable_named role.variables t ≡ Some x → is_one_of t (s ∷ []) ≡ true → IsMappedTo x ds (term_of ds f)
this_maplet role height ds before p s f e faultless x t named is =
    let same : t ≡ s = only_item (one_of t (s ∷ []) is) in
    let known = subst (λ (u : List ℕ). variable_named role.variables u ≡ Some x) same named in
    let a = none_behind (if is_one_of s before then fault p DuplicateVar else []) (role_variable_faults role height ds p (Some f) (variable_named role.variables s)) e in
    let b = subst (λ (o : Option Variable). role_variable_faults role height ds p (Some f) o ≡ []) known a in
    let c = none_behind (fault_unless (has_variable (variables_of_prefix role height) x) p NotInPrefix) (sort_faults ds x.sort f) b in
    (term_of_sort ds x.sort f faultless (holds (is_sort x.sort (sort_of ds f)) (place_of f) IllSorted c), term_variables_declared ds f faultless)

either_maplet : (ds : List Declaration) (x : Variable) (t : List ℕ) (s : List ℕ) (f : Form) (fs : List Form) (u : Term) →
    (is_one_of t (s ∷ []) ≡ true → IsMappedTo x ds (term_of ds f)) → (term_mapped ds t fs ≡ Some u → IsMappedTo x ds u) →
    (b : Bool) → is_one_of t (s ∷ []) ≡ b → (if b then Some (term_of ds f) else term_mapped ds t fs) ≡ Some u → IsMappedTo x ds u
either_maplet ds x t s f fs u this later true is at = let p : term_of ds f ≡ u = cc in subst (λ (v : Term). IsMappedTo x ds v) p (this is)
either_maplet ds x t s f fs u this later false is at = later at

one_maplet : (role : Role) (height : ℕ) (ds : List Declaration) (before : List (List ℕ)) (f : Form) (fs : List Form) → maplet_faults role height ds before f ≡ [] →
    (x : Variable) (t : List ℕ) (u : Term) → variable_named role.variables t ≡ Some x → (term_mapped ds t fs ≡ Some u → IsMappedTo x ds u) → term_mapped ds t (f ∷ fs) ≡ Some u → IsMappedTo x ds u
one_maplet role height ds before (symbol at s) fs e x t u named later is = absurd (cc)
one_maplet role height ds before (string at s) fs e x t u named later is = absurd (cc)
one_maplet role height ds before (number at n) fs e x t u named later is = absurd (cc)
one_maplet role height ds before (list at none) fs e x t u named later is = absurd (cc)
one_maplet role height ds before (list at (more f none)) fs e x t u named later is =
    let p = none_of_four (fault at BadShape) (mapped_faults role height ds before f None) [] [] e in let q = p.0 in absurd (cc)
one_maplet role height ds before (list at (more f (more g (more h gs)))) fs e x t u named later is =
    let p = none_of_four [] (mapped_faults role height ds before f (Some g)) (term_faults ds g) (fault (place_of h) BadShape) e in let q = p.3 in absurd (cc)
one_maplet role height ds before (list at (more (symbol p s) (more f none))) fs e x t u named later is =
    let q = none_of_four [] (mapped_faults role height ds before (symbol p s) (Some f)) (term_faults ds f) [] e in
    either_maplet ds x t s f fs u (this_maplet role height ds before p s f q.1 q.2 x t named) later (is_one_of t (s ∷ [])) refl is
one_maplet role height ds before (list at (more (string p s) (more f none))) fs e x t u named later is =
    let q = none_of_four [] (fault p BadShape) (term_faults ds f) [] e in let r = q.1 in absurd (cc)
one_maplet role height ds before (list at (more (number p s) (more f none))) fs e x t u named later is =
    let q = none_of_four [] (fault p BadShape) (term_faults ds f) [] e in let r = q.1 in absurd (cc)
one_maplet role height ds before (list at (more (list p s) (more f none))) fs e x t u named later is =
    let q = none_of_four [] (fault p BadShape) (term_faults ds f) [] e in let r = q.1 in absurd (cc)

-- The term that maplets without faults give a variable of the role.
mapped_term : (role : Role) (height : ℕ) (ds : List Declaration) (before : List (List ℕ)) (fs : List Form) → maplets_faults role height ds before fs ≡ [] →
    (x : Variable) (t : List ℕ) (u : Term) → variable_named role.variables t ≡ Some x → term_mapped ds t fs ≡ Some u → IsMappedTo x ds u
mapped_term role height ds before [] e x t u named at = absurd (cc)
mapped_term role height ds before (f ∷ fs) e x t u named at =
    one_maplet role height ds before f fs (none_before (maplet_faults role height ds before f) (maplets_faults role height ds (mapped_identifier f ++ before) fs) e) x t u named
    (mapped_term role height ds (mapped_identifier f ++ before) fs (none_behind (maplet_faults role height ds before f) (maplets_faults role height ds (mapped_identifier f ++ before) fs) e) x t u named) at

-- ---- instances

-- Declarations in which those of these variables that are declared here are declared too.
abbrev pub Extends : List Declaration → List Declaration → Type 0
Extends ds full = (xs : List Variable) → AreDeclared ds xs → AreDeclared full xs

module _ (role : Role) (height : ℕ) (ds : List Declaration) (next : ℕ) (maplets : List Form) (sound : IsSoundRole role) (faultless : maplets_faults role height ds [] maplets ≡ []) where
  abbrev made : Instantiated
  made = instance_of_role role ds next height maplets

  module _ (full front others : List Declaration) (are : full ≡ front ++ (made.fresh ++ others)) (many : next ≡ length front) (extends : Extends ds full) where
    all_mapped : AreMapped (variables_of_prefix role height) ds maplets full 0 role.variables
    all_mapped j d t at occurs given =
        let r = mapped_term role height ds [] maplets faultless (record { sort = d.sort; number = j }) d.identifier t (named_itself role.variables j d sound.distinct at) given in
        (r.0, extends (variables_of t) r.1)

    term_there : (x : Variable) → IsIn x (variables_of_prefix role height) → HasTerm full x.sort (item_at made.terms x.number)
    term_there x p =
        let d = declaration_there role.variables x.number x.sort (prefix_declared role height sound x p) in
        let q : x.number ≡ 0 + x.number = omega arith in
        let occurs = subst (λ (y : Variable). has_variable (variables_of_prefix role height) y ≡ true) (λ k. record { sort = sym d.2 k; number = q k }) (in_has_variable (variables_of_prefix role height) x p) in
        subst (λ (s : Sort). HasTerm full s (item_at made.terms x.number)) d.2
        (has_terms (variables_of_prefix role height) ds maplets full front others next 0 role.variables are many all_mapped x.number d.0 d.1 occurs)

    -- The variables of the prefix of an instance without faults get terms over declared variables.
    pub instance_takes : TakesToDeclared (as_substitution (bindings_of made.terms)) full (variables_of_prefix role height)
    instance_takes x p = subst (λ (s : Substitution). AreDeclared full (variables_of (apply_to s (variable_term x)))) (sym (bindings_are made.terms)) (taken_declared full made.terms x (term_there x p))
