-- What is made of flagged variables is what is made of those that occur.
use Rattle.std.proofs.Common.{◌≡◌, ℕ, suc, ◌+◌, ◌≤◌, List, [], ◌∷◌, length, get_or, Bool, false, refl, sym, ap, ◌∙◌, arith, add-one, codes}
use Rattle.std.specs.Prelude.{if◌then◌else◌}
use Rattle.cp_lists.specs.Lists.{item_at}
use Rattle.cp_model.specs.Term.{Term, apply_to, variable_term}
use Rattle.cp_model.specs.Bindings.{Binding, as_substitution, bindings_of}
use Rattle.cp_model.specs.Values.{substitution_by}
use Rattle.cp_model.proofs.DeclaredTerms.{bindings_are}
use Rattle.cp_model.specs.declared.variable.Variable.{Variable}
use Rattle.cp_model.specs.declared.variable.Declaration.{Declaration}
use Rattle.cp_sexpr.specs.Syntax.{Form}
use Rattle.cp_language.specs.Names.{has_number, sort_text}
use Rattle.cp_language.specs.Printed.{term_form, variable, word, numeral, headed_list, plain_list}
use Rattle.cp_language.specs.Report.{name_or_none, vars_from, maplets_from, strand_form}
use Rattle.cp_model.specs.Strand.{Role, variables_of_prefix}
use Rattle.cp_model.specs.Skeleton.{instance}
use Rattle.cp_model.specs.Same.{has_variable}
use Rattle.cp_names.specs.Flags.{AreFlagsOf}
use Rattle.cp_names.proofs.NamesByFlags.{branch}
use Rattle.cp_print.specs.MarkedForms.{vars_by, maplets_by}

module _ (occurring : List Variable) (count : ℕ) (flags : List Bool) (m : AreFlagsOf occurring count flags) where
  vars-from : (names : List (List ℕ)) (n : ℕ) (ds : List Declaration) → n + length ds ≤ count → vars_by names flags n ds ≡ vars_from names occurring n ds
  vars-from names n [] h = refl
  vars-from names n (d ∷ ds) h =
      let f = plain_list (word (name_or_none (item_at names n)) ∷ word (sort_text d.sort) ∷ []) in
      let rest : vars_by names flags (n + 1) ds ≡ vars_from names occurring (suc n) ds = ap (λ k. vars_by names flags k ds) (add-one n) ∙ vars-from names (suc n) ds (omega arith) in
      branch (get_or flags n false) (has_number occurring n) (f ∷ vars_by names flags (n + 1) ds) (vars_by names flags (n + 1) ds) (f ∷ vars_from names occurring (suc n) ds) (vars_from names occurring (suc n) ds)
      (m.each n (omega arith)) (ap (λ fs. f ∷ fs) rest) rest

  pub vars-by : (names : List (List ℕ)) (ds : List Declaration) → length ds ≡ count → vars_by names flags 0 ds ≡ vars_from names occurring 0 ds
  vars-by names ds e = vars-from names 0 ds (omega arith)

-- the maplets by a substitution are those by its bindings
maplets-from : (named : Variable → Form) (prefix : List Variable) (terms : List Binding) (n : ℕ) (ds : List Declaration) → maplets_by named prefix (as_substitution terms) n ds ≡ maplets_from named prefix terms n ds
maplets-from named prefix terms n [] = refl
maplets-from named prefix terms n (d ∷ ds) =
    let x = variable d.sort n in
    let f = plain_list (word d.identifier ∷ term_form named (apply_to (as_substitution terms) (variable_term x)) ∷ []) in
    ap (λ (fs : List Form). if has_variable prefix x then f ∷ fs else fs) (ap (λ k. maplets_by named prefix (as_substitution terms) k ds) (add-one n) ∙ maplets-from named prefix terms (suc n) ds)

-- and those of an instance
pub instance_maplets : (named : Variable → Form) (prefix : List Variable) (all : List Declaration) (values : List Term) → maplets_by named prefix (substitution_by values) 0 all ≡ maplets_from named prefix (bindings_of values) 0 all
instance_maplets named prefix all values = sym (ap (λ s. maplets_by named prefix s 0 all) (bindings_are values)) ∙ maplets-from named prefix (bindings_of values) 0 all

-- an instance, item by item
pub defstrand_is : (named : Variable → Form) (role of_instance : Role) (name : List ℕ) (h g n : ℕ) (vs ws : List Term) → role ≡ of_instance → name ≡ role.name → h ≡ n → g ≡ n → vs ≡ ws
    → headed_list (codes "defstrand") (word name ∷ numeral g ∷ maplets_from named (variables_of_prefix role h) (bindings_of vs) 0 role.variables) ≡ strand_form named (instance of_instance n (bindings_of ws))
defstrand_is named role of_instance name h g n vs ws r a b d e =
    ap (λ (t : List ℕ). headed_list (codes "defstrand") (word t ∷ numeral g ∷ maplets_from named (variables_of_prefix role h) (bindings_of vs) 0 role.variables)) a
    ∙ ap (λ (k : ℕ). headed_list (codes "defstrand") (word role.name ∷ numeral k ∷ maplets_from named (variables_of_prefix role h) (bindings_of vs) 0 role.variables)) d
    ∙ ap (λ (k : ℕ). headed_list (codes "defstrand") (word role.name ∷ numeral n ∷ maplets_from named (variables_of_prefix role k) (bindings_of vs) 0 role.variables)) b
    ∙ ap (λ (us : List Term). strand_form named (instance role n (bindings_of us))) e
    ∙ ap (λ (x : Role). strand_form named (instance x n (bindings_of ws))) r
