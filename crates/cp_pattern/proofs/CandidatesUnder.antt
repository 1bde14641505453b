-- Positions at which a term may stand: where there are none, and that a substitution changes none.
use Rattle.std.proofs.Common.{◌≡◌, ◌||◌, ◌&&◌, ◌++◌, List, [], Bool, false, refl, ap, ap₂}
use Rattle.std.proofs.lemmas.Bool.{or_parts}
use Rattle.cp_model.specs.Term.{KeyTerm, symmetric_term, asymmetric_term, AtomTerm, text_variable, datum_variable, name_variable, key_term, Term, tag_term, atom_term, pair_term, enc_term, Substitution, apply_to_key, apply_to_atom, apply_to}
use Rattle.cp_model.specs.declared.step.Step.{Step}
use Rattle.cp_model.specs.declared.step.Step.TheVariants.{Left, Right, Plaintext}
use Rattle.cp_model.specs.Positions.{here_if, paths_below, positions_where}
use Rattle.cp_pattern.specs.Candidates.{is_same_key_sort, is_same_sort, may_equal, carries_where}

-- A term that carries none that passes has no such position.
pub none_where : (test : Term → Bool) (t : Term) → carries_where test t ≡ false → positions_where test t ≡ []
none_where test (tag_term bytes) e = ap here_if e
none_where test (atom_term a) e = ap here_if e
none_where test (pair_term a b) e =
    let here = or_parts (test (pair_term a b)) (carries_where test a || carries_where test b) e in
    let parts = or_parts (carries_where test a) (carries_where test b) here.1 in
    ap₂ (λ (c : Bool) (ps : List (List Step)). here_if c ++ ps) here.0
    (ap₂ (λ (ps qs : List (List Step)). paths_below Left ps ++ paths_below Right qs) (none_where test a parts.0) (none_where test b parts.1))
none_where test (enc_term a k) e =
    let both = or_parts (test (enc_term a k)) (carries_where test a) e in
    ap₂ (λ (c : Bool) (ps : List (List Step)). here_if c ++ paths_below Plaintext ps) both.0 (none_where test a both.1)

-- ---- under a substitution

key_sort_under : (s : Substitution) (j k : KeyTerm) → is_same_key_sort j (apply_to_key s k) ≡ is_same_key_sort j k
key_sort_under s (symmetric_term j) (symmetric_term k) = refl
key_sort_under s (symmetric_term j) (asymmetric_term g k) = refl
key_sort_under s (asymmetric_term f j) (symmetric_term k) = refl
key_sort_under s (asymmetric_term f j) (asymmetric_term g k) = refl

sort_under : (s : Substitution) (a b : AtomTerm) → is_same_sort a (apply_to_atom s b) ≡ is_same_sort a b
sort_under s (text_variable m) (text_variable n) = refl
sort_under s (text_variable m) (datum_variable n) = refl
sort_under s (text_variable m) (name_variable n) = refl
sort_under s (text_variable m) (key_term k) = refl
sort_under s (datum_variable m) (text_variable n) = refl
sort_under s (datum_variable m) (datum_variable n) = refl
sort_under s (datum_variable m) (name_variable n) = refl
sort_under s (datum_variable m) (key_term k) = refl
sort_under s (name_variable m) (text_variable n) = refl
sort_under s (name_variable m) (datum_variable n) = refl
sort_under s (name_variable m) (name_variable n) = refl
sort_under s (name_variable m) (key_term k) = refl
sort_under s (key_term j) (text_variable n) = refl
sort_under s (key_term j) (datum_variable n) = refl
sort_under s (key_term j) (name_variable n) = refl
sort_under s (key_term j) (key_term k) = key_sort_under s j k

form_under : (s : Substitution) (c t : Term) → may_equal c (apply_to s t) ≡ may_equal c t
form_under s (tag_term x) (tag_term y) = refl
form_under s (tag_term x) (atom_term b) = refl
form_under s (tag_term x) (pair_term d e) = refl
form_under s (tag_term x) (enc_term d k) = refl
form_under s (atom_term a) (tag_term y) = refl
form_under s (atom_term a) (atom_term b) = sort_under s a b
form_under s (atom_term a) (pair_term d e) = refl
form_under s (atom_term a) (enc_term d k) = refl
form_under s (pair_term a b) (tag_term y) = refl
form_under s (pair_term a b) (atom_term d) = refl
form_under s (pair_term a b) (pair_term d e) = ap₂ (λ (x y : Bool). x && y) (form_under s a d) (form_under s b e)
form_under s (pair_term a b) (enc_term d k) = refl
form_under s (enc_term a j) (tag_term y) = refl
form_under s (enc_term a j) (atom_term d) = refl
form_under s (enc_term a j) (pair_term d e) = refl
form_under s (enc_term a j) (enc_term d k) = ap₂ (λ (x y : Bool). x && y) (key_sort_under s j k) (form_under s a d)

-- Where a term may stand in a message, it may stand in what a substitution makes of it, and the other way round.
pub candidates_under : (s : Substitution) (c t : Term) → positions_where (may_equal c) (apply_to s t) ≡ positions_where (may_equal c) t
candidates_under s c (tag_term bytes) = refl
candidates_under s c (atom_term a) = ap here_if (form_under s c (atom_term a))
candidates_under s c (pair_term a b) =
    ap₂ (λ (x : Bool) (ps : List (List Step)). here_if x ++ ps) (form_under s c (pair_term a b))
    (ap₂ (λ (ps qs : List (List Step)). paths_below Left ps ++ paths_below Right qs) (candidates_under s c a) (candidates_under s c b))
candidates_under s c (enc_term a k) =
    ap₂ (λ (x : Bool) (ps : List (List Step)). here_if x ++ paths_below Plaintext ps) (form_under s c (enc_term a k)) (candidates_under s c a)
