-- Patterns with new variables for their locals: their strings, and the identifiers of the new variables.
use Rattle.std.proofs.Common.{◌≡◌, ◌==◌, ℕ, zero, suc, List, [], ◌∷◌, ◌++◌, codes, Option, Some, None, Bool, true, false, if◌then◌else◌, refl, sym, ap, ◌∙◌, subst, ⊎_elim}
use Rattle.cp_term.specs.Variables.{variable_of_sort}
use Rattle.cp_unify.specs.Bindings.{put_of_sort}
use Rattle.cp_lists.specs.Lists.{item_at, IsIn}
use Rattle.cp_lists.proofs.Items.{at_place}
use Rattle.cp_lists.proofs.Members.{not_in_none, from_map, in_append}
use Rattle.cp_model.specs.Term.{PairTerm, akey_variable, pubk_term, Substitution, apply_to_half, composed}
use Rattle.cp_model.specs.declared.sort.Sort.{Sort}
use Rattle.cp_model.specs.declared.sort.Sort.TheVariants.{Text as text_sort, Datum as datum_sort, Name as name_sort, Skey as skey_sort, Akey as akey_sort}
use Rattle.cp_model.specs.declared.variable.Variable.{Variable}
use Rattle.cp_model.specs.declared.variable.Declaration.{Declaration}
use Rattle.cp_model.specs.Problem.{declared_sort, IsDeclared}
use Rattle.cp_model.specs.Tree.{Pattern}
use Rattle.cp_pattern.specs.Opened.{with_new, opened_pattern, identifier_or_x, declared_after, declared_as}
use Rattle.cp_printable.specs.Strings.{strings_of_pair}
use Rattle.cp_printable.specs.Spelled.{IsSpelledTerm, AreSpelledDeclarations}
use Rattle.cp_printable.proofs.Under.{GivesStrings, term_under}

-- ---- one substitution after another

module _ (S : List ℕ → Type 0) where
  half_gives : (u : Substitution) (flag : Bool) (k : PairTerm) → GivesStrings S u → ((s : List ℕ) → IsIn s (strings_of_pair k) → S s) → (s : List ℕ) → IsIn s (strings_of_pair (apply_to_half u flag k).1) → S s
  half_gives u flag (akey_variable n) gives is s i = gives n s i
  half_gives u flag (pubk_term purpose a) gives is s i = is s i

  pub then_gives : (f u : Substitution) → GivesStrings S f → GivesStrings S u → GivesStrings S (composed f u)
  then_gives f u first second n s i = half_gives u (f.akeys n).0 (f.akeys n).1 second (first n) s i

  -- ---- new variables for locals

  one_new : (b : Bool) (m : ℕ) (old : Bool × PairTerm) → ((s : List ℕ) → IsIn s (strings_of_pair old.1) → S s) → (s : List ℕ) → IsIn s (strings_of_pair (if b then (false, akey_variable m) else old).1) → S s
  one_new true m old is s i = absurd (not_in_none i)
  one_new false m old is s i = is s i

  put_new : (k : Sort) (m n : ℕ) (f : Substitution) → GivesStrings S f → GivesStrings S (put_of_sort k m (variable_of_sort k n) f)
  put_new text_sort m n f gives z = gives z
  put_new datum_sort m n f gives z = gives z
  put_new name_sort m n f gives z = gives z
  put_new skey_sort m n f gives z = gives z
  put_new akey_sort m n f gives z = one_new (z == m) n (f.akeys z) (gives z)

  pub new_gives : (n : ℕ) (xs : List Variable) (f : Substitution) → GivesStrings S f → GivesStrings S (with_new n xs f)
  new_gives n [] f gives = gives
  new_gives n (x ∷ xs) f gives = put_new x.sort x.number n (with_new (suc n) xs f) (new_gives (suc n) xs f gives)

  pub opened_spelled : (p : Pattern) (f : Substitution) (n : ℕ) → IsSpelledTerm S p.term → GivesStrings S f → IsSpelledTerm S (opened_pattern p f n)
  opened_spelled p f n is gives = term_under S S (with_new n p.locals f) p.term (new_gives n p.locals f gives) is

-- ---- the identifiers of new variables

-- What names the locals as new variables is admitted: of a declared one its identifier, of any other that of the letter x.
abbrev pub AreNamed : (List ℕ → Type 0) → List Declaration → Pattern → Type 0
AreNamed I ds p = (x : Variable) → IsIn x p.locals → I (identifier_or_x (item_at ds x.number))

module _ (I : List ℕ → Type 0) where
  pub new_declared : (ds : List Declaration) (p : Pattern) → AreNamed I ds p → AreSpelledDeclarations I (declared_as ds p.locals)
  new_declared ds p named d i = let m = from_map (declared_after ds) p.locals i in subst (λ (e : Declaration). I e.identifier) m.2 (named m.0 m.1)

  still : (ds more : List Declaration) (n : ℕ) → AreSpelledDeclarations I more → I (identifier_or_x (item_at ds n)) → I (identifier_or_x (item_at (ds ++ more) n))
  still [] more n are is = by_item (item_at more n) refl
    where
      by_item : (o : Option Declaration) → item_at more n ≡ o → I (identifier_or_x o)
      by_item None e = is
      by_item (Some d) e = are d (at_place more n d e)
  still (d ∷ ds) more zero are is = is
  still (d ∷ ds) more (suc n) are is = still ds more n are is

  -- They are named so where more variables are declared behind.
  pub still_named : (ds more : List Declaration) (p : Pattern) → AreSpelledDeclarations I more → AreNamed I ds p → AreNamed I (ds ++ more) p
  still_named ds more p are named x i = still ds more x.number are (named x i)

  -- They are, where declared identifiers are admitted and the locals are declared, or where the letter x is admitted.
  pub named_as_declared : (ds : List Declaration) (p : Pattern) → AreSpelledDeclarations I ds → ((x : Variable) → IsIn x p.locals → IsDeclared ds x) → AreNamed I ds p
  named_as_declared ds p are declared x i = by_item (item_at ds x.number) refl
    where
      by_item : (o : Option Declaration) → item_at ds x.number ≡ o → I (identifier_or_x o)
      by_item None e = let none : declared_sort None ≡ Some x.sort = sym (ap declared_sort e) ∙ declared x i in absurd (cc)
      by_item (Some d) e = are d (at_place ds x.number d e)

  pub named_by_letter : (ds : List Declaration) (p : Pattern) → AreSpelledDeclarations I ds → I (codes "x") → AreNamed I ds p
  named_by_letter ds p are letter x i = by_item (item_at ds x.number) refl
    where
      by_item : (o : Option Declaration) → item_at ds x.number ≡ o → I (identifier_or_x o)
      by_item None e = letter
      by_item (Some d) e = are d (at_place ds x.number d e)

  pub both_declared : (ds more : List Declaration) → AreSpelledDeclarations I ds → AreSpelledDeclarations I more → AreSpelledDeclarations I (ds ++ more)
  both_declared ds more first second d i = ⊎_elim (λ j. first d j) (λ j. second d j) (in_append ds more i)
