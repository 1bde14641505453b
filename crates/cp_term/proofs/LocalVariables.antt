-- A term with a local variable that is a pattern.
use Rattle.std.proofs.Common.{◌≡◌, List, [], ◌∷◌, refl, sym, subst}
use Rattle.cp_lists.specs.Lists.{IsIn, here}
use Rattle.cp_lists.proofs.Members.{only_item}
use Rattle.cp_model.specs.Term.{Term, skey_variable, symmetric_term, text_variable, atom_term, enc_term, variables_of}
use Rattle.cp_model.specs.declared.sort.Sort.TheVariants.{Text as text_sort}
use Rattle.cp_model.specs.declared.variable.Variable.{Variable}
use Rattle.cp_model.specs.Pattern.{IsPattern}
use Rattle.cp_model.specs.Tree.{Pattern}

abbrev the_text : Variable
the_text = record { sort = text_sort; number = 0 }

abbrev text_under_key : Term
text_under_key = enc_term (atom_term (text_variable 0)) (symmetric_term (skey_variable 1))

abbrev pattern_of : Term → List Variable → Pattern
pattern_of t locals = record { term = t; locals = locals }

example : IsPattern (pattern_of text_under_key (the_text ∷ []))
example = record {
  encryption = record { body = atom_term (text_variable 0); key = symmetric_term (skey_variable 1); encrypted = refl };
  locals_occur = λ x i. subst (λ z. IsIn z (variables_of text_under_key)) (sym (only_item i)) here;
}

-- The text 0 under the symmetric key 1, where the text is local.
pub text_under_key_is_pattern : (t : Term) (locals : List Variable) → t ≡ text_under_key → locals ≡ the_text ∷ [] → IsPattern (pattern_of t locals)
text_under_key_is_pattern t locals e f =
    subst (λ (u : Term). IsPattern (pattern_of u locals)) (sym e) (subst (λ (xs : List Variable). IsPattern (pattern_of text_under_key xs)) (sym f) example)
