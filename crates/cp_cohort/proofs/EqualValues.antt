-- Assignments that give a term one value agree on its variables.
use Rattle.std.proofs.Common.{◌≡◌, ℕ, suc, List, [], ◌∷◌, map, Some, refl, sym, ap, ◌∙◌, ⊎_elim}
use Rattle.cp_lists.specs.Lists.{item_at, here, there}
use Rattle.cp_lists.proofs.Members.{not_in_none, in_append, in_append_left, in_append_right}
use Rattle.cp_model.specs.Message.{Key, asymmetric, name, key, atom}
use Rattle.cp_model.specs.Term.{skey_variable, ltk_term, akey_variable, pubk_term, KeyTerm, symmetric_term, asymmetric_term, AtomTerm, text_variable, datum_variable, name_variable, key_term, Term, tag_term, atom_term, pair_term, enc_term, flag_of, variables_of_key, variables_of_atom, variables_of, Assignment, value_of, value_of_key, value_of_atom, after, AgreeOn, Substitution, apply_to}
use Rattle.cp_model.specs.Strand.{payload, event_map, variables_of_trace}
use Rattle.cp_model.specs.declared.strand.Event.{Event}
use Rattle.cp_model.specs.declared.strand.Event.TheVariants.{Send as send, Receive as recv}
use Rattle.cp_model.specs.Skeleton.{SkeletonStrand, skeleton_trace}
use Rattle.cp_model.specs.Problem.{variables_of_strands}
use Rattle.cp_model.proofs.LawTerms.{value_after, flag_same}
use Rattle.cp_model.proofs.LawAgreement.{agree_value}
use Rattle.cp_theory.specs.Normal.{variables_of_terms}

key_agreed : (g h : Assignment) (k : KeyTerm) → value_of_key g k ≡ value_of_key h k → AgreeOn (variables_of_key k) g h
key_agreed g h (symmetric_term (skey_variable n)) e x here = ap (λ (k : Key). atom (key k)) e
key_agreed g h (symmetric_term (skey_variable n)) e x (there p) = absurd (not_in_none p)
key_agreed g h (symmetric_term (ltk_term m n)) e x here = let f : g.names m ≡ h.names m = cc in ap (λ (m : ℕ). atom (name m)) f
key_agreed g h (symmetric_term (ltk_term m n)) e x (there here) = let f : g.names n ≡ h.names n = cc in ap (λ (m : ℕ). atom (name m)) f
key_agreed g h (symmetric_term (ltk_term m n)) e x (there (there p)) = absurd (not_in_none p)
key_agreed g h (asymmetric_term flag (akey_variable n)) e x here =
    let f : flag_of flag (g.akeys n).0 ≡ flag_of flag (h.akeys n).0 = cc in
    let p : (g.akeys n).0 ≡ (h.akeys n).0 = flag_same flag (g.akeys n).0 (h.akeys n).0 f in
    let r : (g.akeys n).1 ≡ (h.akeys n).1 = cc in
    λ i. atom (key (asymmetric (p i) (r i)))
key_agreed g h (asymmetric_term flag (akey_variable n)) e x (there p) = absurd (not_in_none p)
key_agreed g h (asymmetric_term flag (pubk_term purpose n)) e x here = let f : g.names n ≡ h.names n = cc in ap (λ (m : ℕ). atom (name m)) f
key_agreed g h (asymmetric_term flag (pubk_term purpose n)) e x (there p) = absurd (not_in_none p)

atom_agreed : (g h : Assignment) (v : AtomTerm) → value_of_atom g v ≡ value_of_atom h v → AgreeOn (variables_of_atom v) g h
atom_agreed g h (text_variable n) e x here = ap atom e
atom_agreed g h (text_variable n) e x (there p) = absurd (not_in_none p)
atom_agreed g h (datum_variable n) e x here = ap atom e
atom_agreed g h (datum_variable n) e x (there p) = absurd (not_in_none p)
atom_agreed g h (name_variable n) e x here = ap atom e
atom_agreed g h (name_variable n) e x (there p) = absurd (not_in_none p)
atom_agreed g h (key_term k) e x p = let f : value_of_key g k ≡ value_of_key h k = cc in key_agreed g h k f x p

pub term_agreed : (g h : Assignment) (t : Term) → value_of g t ≡ value_of h t → AgreeOn (variables_of t) g h
term_agreed g h (tag_term bytes) e x p = absurd (not_in_none p)
term_agreed g h (atom_term v) e x p = let f : value_of_atom g v ≡ value_of_atom h v = cc in atom_agreed g h v f x p
term_agreed g h (pair_term t u) e x p =
    let f : value_of g t ≡ value_of h t = cc in
    let r : value_of g u ≡ value_of h u = cc in
    ⊎_elim (λ i. term_agreed g h t f x i) (λ i. term_agreed g h u r x i) (in_append (variables_of t) (variables_of u) p)
term_agreed g h (enc_term t k) e x p =
    let f : value_of g t ≡ value_of h t = cc in
    let r : value_of_key g k ≡ value_of_key h k = cc in
    ⊎_elim (λ i. term_agreed g h t f x i) (λ i. key_agreed g h k r x i) (in_append (variables_of t) (variables_of_key k) p)

-- On the variables of a term under a substitution, where after it they agree on the variables of the term.
under_agreed : (s : Substitution) (g h : Assignment) (t : Term) → AgreeOn (variables_of t) (after g s) (after h s) → AgreeOn (variables_of (apply_to s t)) g h
under_agreed s g h t a = term_agreed g h (apply_to s t) (sym (value_after g s t) ∙ agree_value (after g s) (after h s) t a ∙ value_after h s t)

event_agreed : (s : Substitution) (g h : Assignment) (e : Event Term) → AgreeOn (variables_of (payload e)) (after g s) (after h s) → AgreeOn (variables_of (payload (event_map (apply_to s) e))) g h
event_agreed s g h (send t) a = under_agreed s g h t a
event_agreed s g h (recv t) a = under_agreed s g h t a

pub trace_agreed : (s : Substitution) (g h : Assignment) (es : List (Event Term)) → AgreeOn (variables_of_trace es) (after g s) (after h s) → AgreeOn (variables_of_trace (map (event_map (apply_to s)) es)) g h
trace_agreed s g h [] a x i = absurd (not_in_none i)
trace_agreed s g h (e ∷ es) a x i =
    ⊎_elim (λ j. event_agreed s g h e (λ y m. a y (in_append_left (variables_of_trace es) m)) x j) (λ j. trace_agreed s g h es (λ y m. a y (in_append_right (variables_of (payload e)) m)) x j)
    (in_append (variables_of (payload (event_map (apply_to s) e))) (variables_of_trace (map (event_map (apply_to s)) es)) i)

pub strands_agreed : (g h : Assignment) (ss : List SkeletonStrand) → ((i : ℕ) (st : SkeletonStrand) → item_at ss i ≡ Some st → AgreeOn (variables_of_trace (skeleton_trace st)) g h) → AgreeOn (variables_of_strands ss) g h
strands_agreed g h [] a x i = absurd (not_in_none i)
strands_agreed g h (st ∷ ss) a x i =
    ⊎_elim (λ j. a 0 st refl x j) (λ j. strands_agreed g h ss (λ m u e. a (suc m) u e) x j) (in_append (variables_of_trace (skeleton_trace st)) (variables_of_strands ss) i)

-- On the variables of terms to which two substitutions give the same terms.
pub terms_agreed : (g h : Assignment) (s t : Substitution) (ts : List Term) → AgreeOn (variables_of_terms ts) h (after g s) → map (apply_to s) ts ≡ map (apply_to t) ts → AgreeOn (variables_of_terms ts) h (after g t)
terms_agreed g h s t [] a e x i = absurd (not_in_none i)
terms_agreed g h s t (u ∷ us) a e x i =
    let first : apply_to s u ≡ apply_to t u = cc in
    let rest : map (apply_to s) us ≡ map (apply_to t) us = cc in
    let same : value_of h u ≡ value_of (after g t) u =
    agree_value h (after g s) u (λ y m. a y (in_append_left (variables_of_terms us) m)) ∙ value_after g s u ∙ ap (value_of g) first ∙ sym (value_after g t u) in
    ⊎_elim (λ j. term_agreed h (after g t) u same x j) (λ j. terms_agreed g h s t us (λ y m. a y (in_append_right (variables_of u) m)) rest x j)
    (in_append (variables_of u) (variables_of_terms us) i)
