-- What is printed of a pattern is proper: its locals by their sorts and numbers, and its other variables by their names.
use Rattle.std.proofs.Common.{◌≡◌, ◌⊎◌, inl, inr, ℕ, suc, List, [], ◌∷◌, Bool, true, false, refl, sym, ap, ◌∙◌, if◌then◌else◌, ⊎_elim}
use Rattle.std.specs.Prelude.{Option, Some, None, ◌&&◌, ◌||◌, ◌==◌, codes}
use Rattle.std.proofs.lemmas.Bool.{both_ways, cases_Bool, or_from, or_parts}
use Rattle.cp_lists.specs.Lists.{IsIn, there}
use Rattle.cp_lists.proofs.Members.{head_or_behind, at_head}
use Rattle.cp_model.specs.Term.{variables_of}
use Rattle.cp_model.specs.declared.sort.Sort.{Sort}
use Rattle.cp_model.specs.declared.sort.Sort.TheVariants.{Text as text_sort, Datum as datum_sort, Name as name_sort, Skey as skey_sort, Akey as akey_sort}
use Rattle.cp_model.specs.declared.variable.Variable.{Variable}
use Rattle.cp_model.specs.Tree.{Pattern}
use Rattle.cp_model.specs.Same.{same_sort, has_variable}
use Rattle.cp_model.proofs.SameTests.{variable_is, in_has_variable}
use Rattle.cp_sexpr.specs.Syntax.{Form}
use Rattle.cp_language.specs.Names.{sort_text}
use Rattle.cp_language.specs.Printed.{locals_in_order, place_among, local_or_name, pattern_form}
use Rattle.cp_language.specs.Report.{variables_but}
use Rattle.cp_printable.specs.Proper.{IsStringText, IsSymbolText, IsProper}
use Rattle.cp_printable.specs.Spelled.{IsSpelledTerm}
use Rattle.cp_printable.proofs.ProperWords.{proper_word}
use Rattle.cp_printable.proofs.ProperTerms.{AreNamed, proper_term}

pub proper_sort : (s : Sort) → IsSymbolText (sort_text s)
proper_sort text_sort = proper_word (codes "text") refl
proper_sort datum_sort = proper_word (codes "data") refl
proper_sort name_sort = proper_word (codes "name") refl
proper_sort skey_sort = proper_word (codes "skey") refl
proper_sort akey_sort = proper_word (codes "akey") refl

-- ---- a variable that gets no number is no local

-- the test of one variable
abbrev is_same : Variable → Variable → Bool
is_same x y = same_sort x.sort y.sort && (x.number == y.number)

not_placed : (n : ℕ) (xs : List Variable) (x : Variable) → place_among n xs x ≡ None → has_variable xs x ≡ false
not_placed n [] x e = refl
not_placed n (y ∷ xs) x e = by (is_same y x) refl e (not_placed (suc n) xs x)
  where
    by : (b : Bool) → is_same y x ≡ b → (if b || false then Some n else place_among (suc n) xs x) ≡ None → (place_among (suc n) xs x ≡ None → has_variable xs x ≡ false) → (is_same y x || has_variable xs x) ≡ false
    by true p f rest = absurd (cc)
    by false p f rest = or_from (is_same y x) (has_variable xs x) p (rest f)

module _ (locals : List Variable) where
  -- a variable that occurs and is not listed among the locals is none
  no_local : (seen xs : List Variable) (x : Variable) → IsIn x xs → has_variable seen x ≡ false → has_variable (locals_in_order locals seen xs) x ≡ false → has_variable locals x ≡ false
  no_local seen [] x m s h = elim m [ ]
  no_local seen (y ∷ xs) x m s h = by (has_variable locals y) refl (has_variable seen y) refl h (head_or_behind m) (λ ys i s' h'. no_local ys xs x i s' h')
    where
      Rest : Type 0
      Rest = (ys : List Variable) → IsIn x xs → has_variable ys x ≡ false → has_variable (locals_in_order locals ys xs) x ≡ false → has_variable locals x ≡ false

      itself : x ≡ y → has_variable (y ∷ locals_in_order locals (y ∷ seen) xs) x ≡ false → ⊥
      itself same f = both_ways (has_variable (y ∷ locals_in_order locals (y ∷ seen) xs) x) f (in_has_variable (y ∷ locals_in_order locals (y ∷ seen) xs) x (at_head same))

      still_new : has_variable seen y ≡ true → has_variable (y ∷ seen) x ≡ false
      still_new q = ⊎_elim (λ e. absurd (both_ways (has_variable seen x) s (ap (has_variable seen) (sym (variable_is y x e)) ∙ q))) (λ e. or_from (is_same y x) (has_variable seen x) e s) (cases_Bool (is_same y x))

      by : (b : Bool) → has_variable locals y ≡ b → (c : Bool) → has_variable seen y ≡ c
          → has_variable (if b then (if c then locals_in_order locals (y ∷ seen) xs else y ∷ locals_in_order locals (y ∷ seen) xs) else locals_in_order locals seen xs) x ≡ false
          → (x ≡ y) ⊎ IsIn x xs → Rest → has_variable locals x ≡ false
      by false p c q f (inl same) rest = ap (has_variable locals) same ∙ p
      by true p true q f (inl same) rest = absurd (both_ways (has_variable seen x) s (ap (has_variable seen) same ∙ q))
      by true p false q f (inl same) rest = absurd (itself same f)
      by false p c q f (inr i) rest = rest seen i s f
      by true p false q f (inr i) rest =
          let parts = or_parts (is_same y x) (has_variable (locals_in_order locals (y ∷ seen) xs) x) f in rest (y ∷ seen) i (or_from (is_same y x) (has_variable seen x) parts.0 s) parts.1
      by true p true q f (inr i) rest = rest (y ∷ seen) i (still_new q) f

  -- it is one of those that are named
  among_others : (xs : List Variable) (x : Variable) → IsIn x xs → has_variable locals x ≡ false → IsIn x (variables_but locals xs)
  among_others [] x m e = elim m [ ]
  among_others (y ∷ xs) x m e = by (has_variable locals y) refl (head_or_behind m) (λ i. among_others xs x i e)
    where
      by : (b : Bool) → has_variable locals y ≡ b → (x ≡ y) ⊎ IsIn x xs → (IsIn x xs → IsIn x (variables_but locals xs)) → IsIn x (if b then variables_but locals xs else y ∷ variables_but locals xs)
      by true p (inl same) rest = absurd (both_ways (has_variable locals x) e (ap (has_variable locals) same ∙ p))
      by false p (inl same) rest = at_head same
      by true p (inr i) rest = rest i
      by false p (inr i) rest = there (rest i)

-- ---- patterns

pub proper_pattern : (named : Variable → Form) (p : Pattern) → AreNamed named (variables_but p.locals (variables_of p.term)) → IsSpelledTerm IsStringText p.term → IsProper (pattern_form named p)
proper_pattern named p h s = proper_term (λ x. local_or_name named x (place_among 0 order x)) p.term (λ x m. one x m (place_among 0 order x) refl) s
  where
    order : List Variable
    order = locals_in_order p.locals [] (variables_of p.term)

    one : (x : Variable) → IsIn x (variables_of p.term) → (o : Option ℕ) → place_among 0 order x ≡ o → IsProper (local_or_name named x o)
    one x m None e = h x (among_others p.locals (variables_of p.term) x m (no_local p.locals [] (variables_of p.term) x m refl (not_placed 0 order x e)))
    one x m (Some i) e = (proper_word (codes "any") refl, (proper_sort x.sort, (tt, tt)))
