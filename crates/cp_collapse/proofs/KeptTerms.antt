-- Terms that a substitution leaves as they are, declaration by declaration.
use Rattle.std.proofs.Common.{◌≡◌, ◌+◌, ◌<◌, ℕ, true, List, ◌∷◌, length, get_or, drop, refl, sym, ap, ap₂, ◌∙◌}
use Rattle.cp_lists.proofs.Members.{drop_read}
use Rattle.cp_lists.proofs.Items.{item_of_read}
use Rattle.cp_model.specs.Term.{symmetric_term, asymmetric_term, text_variable, datum_variable, name_variable, key_term, Term, atom_term, variable_term, Substitution, apply_to, composed}
use Rattle.cp_model.specs.declared.sort.Sort.{Sort}
use Rattle.cp_model.specs.declared.sort.Sort.TheVariants.{Text as text_sort, Datum as datum_sort, Name as name_sort, Skey as skey_sort, Akey as akey_sort}
use Rattle.cp_model.specs.declared.variable.Variable.{Variable}
use Rattle.cp_model.specs.declared.variable.Declaration.{Declaration}
use Rattle.cp_model.specs.Homomorphism.{substitution_by}
use Rattle.cp_model.specs.PrefixVariables.{declared_variables, terms_of, fits}
use Rattle.cp_model.proofs.LawTerms.{term_composed}
use Rattle.cp_term.specs.Sorts.{is_of_sort}
use Rattle.cp_skel.proofs.Placed.{placed}
use Rattle.cp_collapse.proofs.DeclaredTerms.{opened}

sorted_fits : (s : Sort) (t : Term) → is_of_sort s t ≡ true → fits s t ≡ true
sorted_fits text_sort (atom_term (text_variable m)) h = refl
sorted_fits datum_sort (atom_term (datum_variable m)) h = refl
sorted_fits name_sort (atom_term (name_variable m)) h = refl
sorted_fits skey_sort (atom_term (key_term (symmetric_term k))) h = refl
sorted_fits akey_sort (atom_term (key_term (asymmetric_term flag k))) h = refl
sorted_fits _ _ h = absurd (cc)

-- If the terms of the declarations from n on are kept, then all are.
abbrev pub AreKeptFrom : Substitution → ℕ → List Declaration → List Term → Type 0
AreKeptFrom s n ds ts =
    let f = composed (substitution_by ts) s in
    drop n ts ≡ terms_of f (declared_variables n (drop n ds)) → ts ≡ terms_of f (declared_variables 0 ds)

-- One more that is kept.
pub one_kept : (s : Substitution) (n : ℕ) (ds : List Declaration) (ts : List Term) (d : Declaration) (t : Term) → n < length ds → d ≡ get_or ds n d → n < length ts → t ≡ get_or ts n t →
    apply_to s t ≡ t → is_of_sort d.sort t ≡ true → AreKeptFrom s n ds ts → AreKeptFrom s (n + 1) ds ts
one_kept s n ds ts d t lt is lt_term is_term kept sorted so_far rest =
    let f : Substitution = composed (substitution_by ts) s in
    let x : Variable = record { sort = d.sort; number = n } in
    let own : apply_to (substitution_by ts) (variable_term x) ≡ t = placed d.sort n t ts (sorted_fits d.sort t sorted) (item_of_read ts n t lt_term is_term) in
    let here : t ≡ apply_to f (variable_term x) = sym (term_composed (substitution_by ts) s (variable_term x) ∙ ap (apply_to s) own ∙ kept) in
    so_far (drop_read ts n t lt_term is_term ∙ ap₂ (λ u us. u ∷ us) here rest ∙ sym (opened f ds n d lt is))
