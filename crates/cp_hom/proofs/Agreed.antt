-- Events that are made others, and substitutions that agree on their variables.
use Rattle.std.proofs.Common.{◌≡◌, ℕ, List, [], ◌∷◌, ◌⊎◌, inl, inr, sym, ap, ◌∙◌}
use Rattle.cp_lists.specs.Lists.{IsIn, here, there}
use Rattle.cp_model.specs.Term.{skey_variable, ltk_term, akey_variable, pubk_term, KeyTerm, symmetric_term, asymmetric_term, AtomTerm, text_variable, datum_variable, name_variable, key_term, Term, tag_term, atom_term, pair_term, enc_term, flag_of, variables_of_key, variables_of_atom, variables_of, Substitution, apply_to_key, apply_to_atom, apply_to, composed, AgreeOnTerms, variable_term}
use Rattle.cp_model.specs.declared.variable.Variable.{Variable}
use Rattle.cp_model.specs.Strand.{payload, variables_of_trace}
use Rattle.cp_model.specs.declared.strand.Event.{Event}
use Rattle.cp_lists.proofs.Members.{in_append, in_append_left, in_append_right}
use Rattle.cp_model.proofs.LawTerms.{term_composed, flag_same}
use Rattle.cp_model.proofs.LawAgreement.{agree_term}
use Rattle.cp_hom.specs.Counterparts.{MakesEvents}

-- Substitutions that give a term one term agree on its variables.
key_agreed : (s t : Substitution) (k : KeyTerm) → apply_to_key s k ≡ apply_to_key t k → AgreeOnTerms (variables_of_key k) s t
key_agreed s t (symmetric_term (skey_variable n)) e x here = ap (λ (k : KeyTerm). atom_term (key_term k)) e
key_agreed s t (symmetric_term (skey_variable n)) e x (there p) = elim p [ ]
key_agreed s t (symmetric_term (ltk_term m n)) e x here = let f : s.names m ≡ t.names m = cc in ap (λ (m : ℕ). atom_term (name_variable m)) f
key_agreed s t (symmetric_term (ltk_term m n)) e x (there here) = let f : s.names n ≡ t.names n = cc in ap (λ (m : ℕ). atom_term (name_variable m)) f
key_agreed s t (symmetric_term (ltk_term m n)) e x (there (there p)) = elim p [ ]
key_agreed s t (asymmetric_term flag (akey_variable n)) e x here =
    let f : flag_of flag (s.akeys n).0 ≡ flag_of flag (t.akeys n).0 = cc in
    let g : (s.akeys n).0 ≡ (t.akeys n).0 = flag_same flag (s.akeys n).0 (t.akeys n).0 f in
    let h : (s.akeys n).1 ≡ (t.akeys n).1 = cc in
    λ i. atom_term (key_term (asymmetric_term (g i) (h i)))
key_agreed s t (asymmetric_term flag (akey_variable n)) e x (there p) = elim p [ ]
key_agreed s t (asymmetric_term flag (pubk_term purpose n)) e x here = let f : s.names n ≡ t.names n = cc in ap (λ (m : ℕ). atom_term (name_variable m)) f
key_agreed s t (asymmetric_term flag (pubk_term purpose n)) e x (there p) = elim p [ ]

atom_agreed : (s t : Substitution) (v : AtomTerm) → apply_to_atom s v ≡ apply_to_atom t v → AgreeOnTerms (variables_of_atom v) s t
atom_agreed s t (text_variable n) e x here = ap atom_term e
atom_agreed s t (text_variable n) e x (there p) = elim p [ ]
atom_agreed s t (datum_variable n) e x here = ap atom_term e
atom_agreed s t (datum_variable n) e x (there p) = elim p [ ]
atom_agreed s t (name_variable n) e x here = ap atom_term e
atom_agreed s t (name_variable n) e x (there p) = elim p [ ]
atom_agreed s t (key_term k) e x p = let f : apply_to_key s k ≡ apply_to_key t k = cc in key_agreed s t k f x p

agreed_both : (s t : Substitution) (xs ys : List Variable) → AgreeOnTerms xs s t → AgreeOnTerms ys s t → (x : Variable) → IsIn x xs ⊎ IsIn x ys →
    apply_to s (variable_term x) ≡ apply_to t (variable_term x)
agreed_both s t xs ys a b x (inl p) = a x p
agreed_both s t xs ys a b x (inr p) = b x p

term_agreed : (s t : Substitution) (u : Term) → apply_to s u ≡ apply_to t u → AgreeOnTerms (variables_of u) s t
term_agreed s t (tag_term bytes) e x p = elim p [ ]
term_agreed s t (atom_term v) e x p = let f : apply_to_atom s v ≡ apply_to_atom t v = cc in atom_agreed s t v f x p
term_agreed s t (pair_term u w) e x p =
    let f : apply_to s u ≡ apply_to t u = cc in
    let g : apply_to s w ≡ apply_to t w = cc in
    agreed_both s t (variables_of u) (variables_of w) (term_agreed s t u f) (term_agreed s t w g) x (in_append (variables_of u) (variables_of w) p)
term_agreed s t (enc_term u k) e x p =
    let f : apply_to s u ≡ apply_to t u = cc in
    let g : apply_to_key s k ≡ apply_to_key t k = cc in
    agreed_both s t (variables_of u) (variables_of_key k) (term_agreed s t u f) (key_agreed s t k g) x (in_append (variables_of u) (variables_of_key k) p)

-- The messages of events are made others exactly where the substitutions agree on the variables.
pub events_agreed : (f : Substitution) (es : List (Event Term)) (s t : Substitution) → MakesEvents f es s t → AgreeOnTerms (variables_of_trace es) (composed s f) t
events_agreed f [] s t h x p = elim p [ ]
events_agreed f (e ∷ es) s t h x p =
    agreed_both (composed s f) t (variables_of (payload e)) (variables_of_trace es)
    (term_agreed (composed s f) t (payload e) (term_composed s f (payload e) ∙ h.0)) (events_agreed f es s t h.1) x
    (in_append (variables_of (payload e)) (variables_of_trace es) p)

pub events_made : (f : Substitution) (es : List (Event Term)) (s t : Substitution) → AgreeOnTerms (variables_of_trace es) (composed s f) t → MakesEvents f es s t
events_made f [] s t a = tt
events_made f (e ∷ es) s t a = (
  sym (term_composed s f (payload e)) ∙ agree_term (composed s f) t (payload e) (λ x p. a x (in_append_left (variables_of_trace es) p)),
  events_made f es s t (λ x p. a x (in_append_right (variables_of (payload e)) p)),
)
