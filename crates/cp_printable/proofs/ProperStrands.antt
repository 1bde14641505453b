-- What is printed of strands, of their order and of assumptions is proper.
use Rattle.std.proofs.Common.{◌≡◌, ℕ, suc, List, [], ◌∷◌, ◌++◌, Bool, true, false, refl, if◌then◌else◌, codes, ⊎_elim}
use Rattle.std.specs.Prelude.{map}
use Rattle.std.specs.List.{filter}
use Rattle.cp_lists.specs.Lists.{IsIn, here, there}
use Rattle.cp_lists.proofs.Items.{place_of}
use Rattle.cp_lists.proofs.Members.{in_append, in_append_left, from_filter}
use Rattle.cp_model.specs.Term.{Term, apply_to, variable_term, AtomTerm, variables_of}
use Rattle.cp_model.specs.Bindings.{Binding, as_substitution}
use Rattle.cp_model.specs.declared.variable.Variable.{Variable}
use Rattle.cp_model.specs.Strand.{prefix_of, variables_of_trace, variables_of_prefix}
use Rattle.cp_model.specs.declared.variable.Declaration.{Declaration}
use Rattle.cp_model.specs.declared.node.Node.{Node}
use Rattle.cp_model.specs.declared.node.OrderPair.{OrderPair}
use Rattle.cp_model.specs.Skeleton.{SkeletonStrand, instance, listener, skeleton_trace, UniqueAt}
use Rattle.cp_model.specs.Problem.{variables_of_strands, variables_of_atoms, variables_of_uniques}
use Rattle.cp_model.specs.Same.{has_variable}
use Rattle.cp_model.specs.Given.{listed_atoms, listed_uniques}
use Rattle.cp_model.proofs.SameTests.{variable_in}
use Rattle.cp_model.proofs.Gathered.{IsGathering, onto-only, atoms, uniques}
use Rattle.cp_model.proofs.OccurringVariables.{in_trace_under, in_strands, in_atoms, in_uniques}
use Rattle.cp_sexpr.specs.Syntax.{Form}
use Rattle.cp_language.specs.Printed.{term_form, word, plain_list, variable, atom_form}
use Rattle.cp_language.specs.Report.{node_form, maplets_from, strand_form, is_covering, covering_with, covering_from, unique_form}
use Rattle.cp_printable.specs.Proper.{IsStringText, IsSymbolText, IsProper}
use Rattle.cp_printable.specs.Spelled.{IsSpelledTerm, IsSpelledAtom, AreSpelledAtoms, AreSpelledDeclarations, IsSpelledStrand}
use Rattle.cp_printable.proofs.ProperWords.{proper_word, AreProperForms, proper_append, proper_map}
use Rattle.cp_printable.proofs.ProperTerms.{AreNamed, proper_atom, proper_term}

module _ (named : Variable → Form) where
  -- ---- strands

  module _ (prefix : List Variable) (terms : List Binding)
      (each : (x : Variable) → IsIn x prefix → AreNamed named (variables_of (apply_to (as_substitution terms) (variable_term x))) × IsSpelledTerm IsStringText (apply_to (as_substitution terms) (variable_term x))) where
    proper_maplets : (n : ℕ) (ds : List Declaration) → AreSpelledDeclarations IsSymbolText ds → AreProperForms (maplets_from named prefix terms n ds)
    proper_maplets n [] own = tt
    proper_maplets n (d ∷ ds) own = by (has_variable prefix (variable d.sort n)) refl (proper_maplets (suc n) ds (λ c m. own c (there m)))
      where
        value : Term
        value = apply_to (as_substitution terms) (variable_term (variable d.sort n))

        by : (b : Bool) → has_variable prefix (variable d.sort n) ≡ b → AreProperForms (maplets_from named prefix terms (suc n) ds)
            → AreProperForms (if b then plain_list (word d.identifier ∷ term_form named value ∷ []) ∷ maplets_from named prefix terms (suc n) ds else maplets_from named prefix terms (suc n) ds)
        by true e rest = let h = each (variable d.sort n) (variable_in prefix (variable d.sort n) e) in ((own d here, (proper_term named value h.0 h.1, tt)), rest)
        by false e rest = rest

  proper_strand : (s : SkeletonStrand) → AreNamed named (variables_of_trace (skeleton_trace s)) → IsSpelledStrand IsStringText IsSymbolText s → IsProper (strand_form named s)
  proper_strand (instance role height terms) h (own, values) = (
    proper_word (codes "defstrand") refl,
    (own.name, (tt, proper_maplets (variables_of_prefix role height) terms (λ x m. (λ y i. h y (in_trace_under (as_substitution terms) (prefix_of role height) x y m i), values x m)) 0 role.variables own.variables)),
  )
  proper_strand (listener t) h s = (proper_word (codes "deflistener") refl, (proper_term named t (λ x m. h x (in_append_left (variables_of t ++ []) m)) s, tt))

  pub proper_strands : (ss : List SkeletonStrand) → AreNamed named (variables_of_strands ss) → ((s : SkeletonStrand) → IsIn s ss → IsSpelledStrand IsStringText IsSymbolText s)
      → AreProperForms (map (strand_form named) ss)
  proper_strands ss h each = proper_map (strand_form named) ss (λ s m. let r = place_of m in proper_strand s (λ x i. h x (in_strands ss r.0 s x r.1 i)) (each s m))

-- ---- order

proper_with : (pairs : List OrderPair) (nodes : List Node) (x : Node) (ys : List Node) → AreProperForms (covering_with pairs nodes x ys)
proper_with pairs nodes x [] = tt
proper_with pairs nodes x (y ∷ ys) = by (is_covering pairs nodes x y) (proper_with pairs nodes x ys)
  where
    by : (b : Bool) → AreProperForms (covering_with pairs nodes x ys)
        → AreProperForms (if b then plain_list (node_form x ∷ node_form y ∷ []) ∷ covering_with pairs nodes x ys else covering_with pairs nodes x ys)
    by true rest = (((tt, (tt, tt)), ((tt, (tt, tt)), tt)), rest)
    by false rest = rest

pub proper_covering : (pairs : List OrderPair) (nodes xs : List Node) → AreProperForms (covering_from pairs nodes xs)
proper_covering pairs nodes [] = tt
proper_covering pairs nodes (x ∷ xs) = proper_append (covering_with pairs nodes x nodes) (covering_from pairs nodes xs) (proper_with pairs nodes x nodes) (proper_covering pairs nodes xs)

-- ---- assumptions

-- What a report lists of a list is in it.
listed_only : {A : Type 0} {has : List A → A → Bool} {onto : List A → List A → List A} (g : IsGathering has onto) (own given old : List A) (v : A)
    → IsIn v (onto [] (filter (has old) (own ++ given) ++ old)) → IsIn v old
listed_only {has = has} g own given old v m = ⊎_elim (λ i. elim i [ ]) within (onto-only g [] (filter (has old) (own ++ given) ++ old) v m)
  where
    within : IsIn v (filter (has old) (own ++ given) ++ old) → IsIn v old
    within i = ⊎_elim (λ j. g.found old v (from_filter (has old) (own ++ given) j).1) (λ j. j) (in_append (filter (has old) (own ++ given)) old i)

module _ (named : Variable → Form) where
  pub proper_atoms : (own given old : List AtomTerm) → AreNamed named (variables_of_atoms old) → AreSpelledAtoms IsStringText old → AreProperForms (map (atom_form named) (listed_atoms own given old))
  proper_atoms own given old h s = proper_map (atom_form named) (listed_atoms own given old) (λ v m. let i = listed_only atoms own given old v m in proper_atom named v (λ x j. h x (in_atoms old v x i j)) (s v i))

  pub proper_uniques : (own given old : List UniqueAt) → AreNamed named (variables_of_uniques old) → ((u : UniqueAt) → IsIn u old → IsSpelledAtom IsStringText u.value)
      → AreProperForms (map (unique_form named) (listed_uniques own given old))
  proper_uniques own given old h s =
      proper_map (unique_form named) (listed_uniques own given old)
      (λ u m. let i = listed_only uniques own given old u m in (proper_atom named u.value (λ x j. h x (in_uniques old u x i j)) (s u i), ((tt, (tt, tt)), tt)))
