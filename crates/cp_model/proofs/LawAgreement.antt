-- Values and terms depend on the variables that occur alone.
use Rattle.std.proofs.Common.{◌≡◌, ◌∙◌, sym, Bool, List, refl, ap, ap₂}
use Rattle.cp_lists.specs.Lists.{here, there}
use Rattle.cp_model.specs.Message.{KeyPair, symmetric, asymmetric, name, key, atom, pair, enc}
use Rattle.cp_model.specs.Term.{name_sort, skey_sort, akey_sort, text_sort, datum_sort, Variable, SymmetricTerm, skey_variable, ltk_term, PairTerm, akey_variable, pubk_term, KeyTerm, symmetric_term, asymmetric_term, AtomTerm, text_variable, datum_variable, name_variable, key_term, Term, tag_term, atom_term, pair_term, enc_term, variables_of_symmetric, variables_of_pair, variables_of_key, variables_of_atom, variables_of, Assignment, value_of_symmetric, value_of_half, value_of_key, value_of_atom, value_of, AgreeOn, Substitution, apply_to, apply_to_atom, after, variable_term, atoms_by, AgreeOnTerms}
use Rattle.cp_model.specs.Strand.{Event, send, recv, payload, event_map}
use Rattle.cp_lists.proofs.Members.{in_append_left, in_append_right}
use Rattle.cp_model.proofs.LawTerms.{atom_after, value_after}
use Rattle.cp_model.proofs.VariableTerms.{same_atoms}
use Rattle.cp_model.proofs.SingleValues.{same_atom, same_term}
use Rattle.cp_model.proofs.SingleBundle.{own_number, own_numbers_distinct}

-- Assignments that agree on the variables of a term give it one value.
agree_symmetric : (g h : Assignment) (k : SymmetricTerm) → AgreeOn (variables_of_symmetric k) g h → value_of_symmetric g k ≡ value_of_symmetric h k
agree_symmetric g h (skey_variable n) a = let e : atom (key (symmetric (g.skeys n))) ≡ atom (key (symmetric (h.skeys n))) = a (record { sort = skey_sort; number = n }) here in cc
agree_symmetric g h (ltk_term m n) a =
    let e : atom (name (g.names m)) ≡ atom (name (h.names m)) = a (record { sort = name_sort; number = m }) here in
    let f : atom (name (g.names n)) ≡ atom (name (h.names n)) = a (record { sort = name_sort; number = n }) (there here) in
    cc

agree_half : (g h : Assignment) (flag : Bool) (k : PairTerm) → AgreeOn (variables_of_pair k) g h → value_of_half g flag k ≡ value_of_half h flag k
agree_half g h flag (akey_variable n) a =
    let e : atom (key (asymmetric (g.akeys n).0 (g.akeys n).1)) ≡ atom (key (asymmetric (h.akeys n).0 (h.akeys n).1)) = a (record { sort = akey_sort; number = n }) here in
    let p : (g.akeys n).0 ≡ (h.akeys n).0 = cc in
    let q : (g.akeys n).1 ≡ (h.akeys n).1 = cc in
    ap₂ (λ x y. value_of_half (record g { akeys = λ m. (x, y) }) flag (akey_variable n)) p q
agree_half g h flag (pubk_term purpose n) a = let e : atom (name (g.names n)) ≡ atom (name (h.names n)) = a (record { sort = name_sort; number = n }) here in cc

agree_key : (g h : Assignment) (k : KeyTerm) → AgreeOn (variables_of_key k) g h → value_of_key g k ≡ value_of_key h k
agree_key g h (symmetric_term k) a = ap symmetric (agree_symmetric g h k a)
agree_key g h (asymmetric_term flag k) a = ap (λ (p : Bool × KeyPair). asymmetric p.0 p.1) (agree_half g h flag k a)

pub agree_atom_value : (g h : Assignment) (v : AtomTerm) → AgreeOn (variables_of_atom v) g h → value_of_atom g v ≡ value_of_atom h v
agree_atom_value g h (text_variable n) a = same_atoms (a (record { sort = text_sort; number = n }) here)
agree_atom_value g h (datum_variable n) a = same_atoms (a (record { sort = datum_sort; number = n }) here)
agree_atom_value g h (name_variable n) a = same_atoms (a (record { sort = name_sort; number = n }) here)
agree_atom_value g h (key_term k) a = ap key (agree_key g h k a)

pub agree_value : (g h : Assignment) (t : Term) → AgreeOn (variables_of t) g h → value_of g t ≡ value_of h t
agree_value g h (tag_term bytes) a = refl
agree_value g h (atom_term v) a = ap atom (agree_atom_value g h v a)
agree_value g h (pair_term t u) a =
    ap₂ pair (agree_value g h t (λ x p. a x (in_append_left (variables_of u) p))) (agree_value g h u (λ x p. a x (in_append_right (variables_of t) p)))
agree_value g h (enc_term t k) a =
    ap₂ enc (agree_value g h t (λ x p. a x (in_append_left (variables_of_key k) p))) (agree_key g h k (λ x p. a x (in_append_right (variables_of t) p)))

pub agree_event_values : (g h : Assignment) (e : Event Term) → AgreeOn (variables_of (payload e)) g h → event_map (value_of g) e ≡ event_map (value_of h) e
agree_event_values g h (send t) a = ap send (agree_value g h t a)
agree_event_values g h (recv t) a = ap recv (agree_value g h t a)

-- Substitutions that agree on variables make values agree on them.
module _ (s t : Substitution) (xs : List Variable) (agree : AgreeOnTerms xs s t) where
  values_agree : AgreeOn xs (after (atoms_by own_number) s) (after (atoms_by own_number) t)
  values_agree x p = value_after (atoms_by own_number) s (variable_term x) ∙ ap (value_of (atoms_by own_number)) (agree x p) ∙ sym (value_after (atoms_by own_number) t (variable_term x))

-- Substitutions that agree on the variables of a term give it one term, since different terms have different values.
pub agree_atom : (s t : Substitution) (v : AtomTerm) → AgreeOnTerms (variables_of_atom v) s t → apply_to_atom s v ≡ apply_to_atom t v
agree_atom s t v a =
    same_atom own_number own_numbers_distinct (apply_to_atom s v) (apply_to_atom t v)
    (sym (atom_after (atoms_by own_number) s v) ∙ agree_atom_value _ _ v (values_agree s t (variables_of_atom v) a) ∙ atom_after (atoms_by own_number) t v)

pub agree_term : (s t : Substitution) (u : Term) → AgreeOnTerms (variables_of u) s t → apply_to s u ≡ apply_to t u
agree_term s t u a =
    same_term own_number own_numbers_distinct (apply_to s u) (apply_to t u)
    (sym (value_after (atoms_by own_number) s u) ∙ agree_value _ _ u (values_agree s t (variables_of u) a) ∙ value_after (atoms_by own_number) t u)

pub agree_event : (s t : Substitution) (e : Event Term) → AgreeOnTerms (variables_of (payload e)) s t → event_map (apply_to s) e ≡ event_map (apply_to t) e
agree_event s t (send m) a = ap send (agree_term s t m a)
agree_event s t (recv m) a = ap recv (agree_term s t m a)
