-- The terms that a list gives to variables.
use Rattle.std.proofs.Common.{◌≡◌, ℕ, List, refl, sym, ap, ◌∙◌, true}
use Rattle.std.specs.Prelude.{Option, Some, None}
use Rattle.cp_lists.specs.Lists.{item_at}
use Rattle.cp_model.specs.Term.{symmetric_term, asymmetric_term, text_variable, datum_variable, name_variable, key_term, Term, atom_term, variable_term, apply_to}
use Rattle.cp_model.specs.declared.sort.Sort.{Sort}
use Rattle.cp_model.specs.declared.sort.Sort.TheVariants.{Text as text_sort, Datum as datum_sort, Name as name_sort, Skey as skey_sort, Akey as akey_sort}
use Rattle.cp_model.specs.Homomorphism.{text_in, datum_in, name_in, skey_in, akey_in, substitution_by}
use Rattle.cp_model.specs.PrefixVariables.{fits}
use Rattle.cp_model.proofs.DeclaredTerms.{value_in, by_number}
use Rattle.cp_strand.specs.Valued.{term_or}

-- A term of the variable's sort that stands at its number is what the variable becomes.
pub placed : (s : Sort) (n : ℕ) (t : Term) (ts : List Term) → fits s t ≡ true → item_at ts n ≡ Some t → apply_to (substitution_by ts) (variable_term (record { sort = s; number = n })) ≡ t
placed text_sort n (atom_term (text_variable m)) ts h e = ap (λ o. atom_term (text_variable (text_in n o))) e
placed datum_sort n (atom_term (datum_variable m)) ts h e = ap (λ o. atom_term (datum_variable (datum_in n o))) e
placed name_sort n (atom_term (name_variable m)) ts h e = ap (λ o. atom_term (name_variable (name_in n o))) e
placed skey_sort n (atom_term (key_term (symmetric_term k))) ts h e = ap (λ o. atom_term (key_term (symmetric_term (skey_in n o)))) e
placed akey_sort n (atom_term (key_term (asymmetric_term flag k))) ts h e = ap (λ o. atom_term (key_term (asymmetric_term (akey_in n o).0 (akey_in n o).1))) e
placed _ n _ ts h e = absurd (cc)

-- A list that has no term for a variable gives it what one with the variable itself does.
alike : (s : Sort) (n : ℕ) (o : Option Term) → value_in s n o ≡ value_in s n (Some (term_or (record { sort = s; number = n }) o))
alike s n (Some t) = refl
alike text_sort n None = refl
alike datum_sort n None = refl
alike name_sort n None = refl
alike skey_sort n None = refl
alike akey_sort n None = refl

-- Where the variable's own term, or else the variable, stands at its number, it becomes what it was.
pub stays : (s : Sort) (n : ℕ) (old ts : List Term) → item_at ts n ≡ Some (term_or (record { sort = s; number = n }) (item_at old n)) →
    apply_to (substitution_by old) (variable_term (record { sort = s; number = n })) ≡ apply_to (substitution_by ts) (variable_term (record { sort = s; number = n }))
stays s n old ts e = by_number old s n ∙ alike s n (item_at old n) ∙ sym (by_number ts s n ∙ ap (value_in s n) e)
