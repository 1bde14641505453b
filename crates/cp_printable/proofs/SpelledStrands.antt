-- The strings and identifiers of the strands that proper forms state are proper, and so are the variables that are made
-- for them, which are named after those of their roles.
use Rattle.std.proofs.Common.{◌≡◌, ℕ, suc, ◌+◌, List, [], ◌∷◌, ◌++◌, length, Bool, true, false, Option, Some, None, refl, sym, subst, if◌then◌else◌}
use Rattle.cp_lists.specs.Lists.{item_at, here, there}
use Rattle.cp_lists.proofs.Items.{at_place}
use Rattle.cp_model.specs.Term.{apply_to, variable_term, PairTerm, akey_variable, pubk_term, symmetric_term, asymmetric_term, AtomTerm, text_variable, datum_variable, name_variable, key_term, Term, tag_term, atom_term, pair_term, enc_term, Substitution, apply_to_key, apply_to_atom}
use Rattle.cp_model.specs.Bindings.{as_substitution, bindings_of}
use Rattle.cp_model.specs.declared.sort.Sort.{Sort}
use Rattle.cp_model.specs.declared.sort.Sort.TheVariants.{Text as text_sort, Datum as datum_sort, Name as name_sort, Skey as skey_sort, Akey as akey_sort}
use Rattle.cp_model.specs.declared.variable.Variable.{Variable}
use Rattle.cp_model.specs.Strand.{Role, variables_of_prefix}
use Rattle.cp_model.specs.declared.variable.Declaration.{Declaration}
use Rattle.cp_model.specs.Skeleton.{SkeletonStrand, instance, listener}
use Rattle.cp_model.specs.Values.{akey_in, substitution_by}
use Rattle.cp_model.proofs.DeclaredTerms.{bindings_are}
use Rattle.cp_sexpr.specs.Syntax.{Form, symbol, string, number, list, none, more}
use Rattle.cp_language.specs.declared.words.ItemHead.{ItemHead}
use Rattle.cp_language.specs.Words.{is_one_of}
use Rattle.cp_language.specs.Terms.{term_of}
use Rattle.cp_language.specs.Roles.{headed, items_behind, item_or_none}
use Rattle.cp_language.specs.Problems.{role_named, mapped_identifier, term_mapped, is_fresh, term_or_fresh, instantiated, instance_of_role, Strands, instance_by, name_in_front, listened_term, strand_by, fresh_of, with_strand, strands_from, is_assumption_or_order, before_items, number_of}
use Rattle.cp_language.proofs.Strands.{role_listed, of_item}
use Rattle.cp_printable.specs.Strings.{strings_of_pair, strings_of_key, strings_of}
use Rattle.cp_printable.specs.Proper.{IsStringText, IsSymbolText, IsProper}
use Rattle.cp_printable.specs.Spelled.{IsSpelledTerm, IsSpelledAtom, AreSpelledDeclarations, IsSpelledRole, IsSpelledStrand}
use Rattle.cp_printable.proofs.SpelledTerms.{Each, each_of_none, each_more, each_of_both, AreStrings, no_strings, empty_string, variable_strings, term_strings}
use Rattle.cp_printable.proofs.SpelledRoles.{AllProper, behind_proper, AreSpelledRoles}

-- All of these identifiers are symbols.
abbrev pub AreSymbols : List Declaration → Type 0
AreSymbols ds = AreSpelledDeclarations IsSymbolText ds

no_symbols : AreSymbols []
no_symbols = each_of_none (λ (d : Declaration). IsSymbolText d.identifier)

one_symbol : (d : Declaration) → IsSymbolText d.identifier → AreSymbols (d ∷ [])
one_symbol d h = each_more (λ (c : Declaration). IsSymbolText c.identifier) d [] h no_symbols

pub both_symbols : (ds es : List Declaration) → AreSymbols ds → AreSymbols es → AreSymbols (ds ++ es)
both_symbols ds es h k = each_of_both (λ (d : Declaration). IsSymbolText d.identifier) ds es h k

-- ---- a list of terms as a substitution

-- The strings of each of these terms hold bytes of strings.
abbrev pub HaveStrings : List Term → Type 0
HaveStrings ts = Each (IsSpelledTerm IsStringText) ts

-- The terms that a substitution gives have strings of bytes of strings alone.
abbrev pub GivesStrings : Substitution → Type 0
GivesStrings s = (x : Variable) → IsSpelledTerm IsStringText (apply_to s (variable_term x))

option_strings : (n : ℕ) (o : Option Term) → ((t : Term) → o ≡ Some t → AreStrings (strings_of t)) → AreStrings (strings_of_pair (akey_in n o).1)
option_strings n None h = no_strings
option_strings n (Some (tag_term bytes)) h = no_strings
option_strings n (Some (pair_term a b)) h = no_strings
option_strings n (Some (enc_term a k)) h = no_strings
option_strings n (Some (atom_term (text_variable m))) h = no_strings
option_strings n (Some (atom_term (datum_variable m))) h = no_strings
option_strings n (Some (atom_term (name_variable m))) h = no_strings
option_strings n (Some (atom_term (key_term (symmetric_term k)))) h = no_strings
option_strings n (Some (atom_term (key_term (asymmetric_term flag k)))) h = h (atom_term (key_term (asymmetric_term flag k))) refl

numbered_gives : (ts : List Term) → HaveStrings ts → (s : Sort) (n : ℕ) → IsSpelledTerm IsStringText (apply_to (substitution_by ts) (variable_term (record { sort = s; number = n })))
numbered_gives ts h text_sort n = no_strings
numbered_gives ts h datum_sort n = no_strings
numbered_gives ts h name_sort n = no_strings
numbered_gives ts h skey_sort n = no_strings
numbered_gives ts h akey_sort n = option_strings n (item_at ts n) (λ t e. h t (at_place ts n t e))

by_terms : (ts : List Term) → HaveStrings ts → GivesStrings (as_substitution (bindings_of ts))
by_terms ts h = subst (λ (s : Substitution). GivesStrings s) (sym (bindings_are ts)) (λ x. numbered_gives ts h x.sort x.number)

pair_applied : (s : Substitution) → GivesStrings s → (flag : Bool) (k : PairTerm) → AreStrings (strings_of_pair k) → AreStrings (strings_of_key (apply_to_key s (asymmetric_term flag k)))
pair_applied s gives flag (akey_variable n) h = gives (record { sort = akey_sort; number = n })
pair_applied s gives flag (pubk_term purpose a) h = h

-- A value under such a substitution.
pub atom_applied : (s : Substitution) → GivesStrings s → (v : AtomTerm) → IsSpelledAtom IsStringText v → IsSpelledAtom IsStringText (apply_to_atom s v)
atom_applied s gives (text_variable n) h = no_strings
atom_applied s gives (datum_variable n) h = no_strings
atom_applied s gives (name_variable n) h = no_strings
atom_applied s gives (key_term (symmetric_term k)) h = no_strings
atom_applied s gives (key_term (asymmetric_term flag k)) h = pair_applied s gives flag k h

-- ---- instances

-- If there is a term, its strings are of bytes of strings.
abbrev IfTerm : Option Term → Type 0
IfTerm o = (t : Term) → o ≡ Some t → AreStrings (strings_of t)

no_term : IfTerm None
no_term t e = absurd (cc)

either_mapped : (b : Bool) (t : Term) (o : Option Term) → AreStrings (strings_of t) → IfTerm o → IfTerm (if b then Some t else o)
either_mapped true t o h k u e = let q : t ≡ u = cc in subst (λ (x : Term). AreStrings (strings_of x)) q h
either_mapped false t o h k u e = k u e

first_mapped : (ds : List Declaration) (t : List ℕ) (f : Form) (fs : List Form) → IsProper f → IfTerm (term_mapped ds t fs) → IfTerm (term_mapped ds t (f ∷ fs))
first_mapped ds t (symbol at s) fs h k = either_mapped (is_one_of t (mapped_identifier (symbol at s))) (tag_term []) (term_mapped ds t fs) empty_string k
first_mapped ds t (string at s) fs h k = either_mapped (is_one_of t (mapped_identifier (string at s))) (tag_term []) (term_mapped ds t fs) empty_string k
first_mapped ds t (number at n) fs h k = either_mapped (is_one_of t (mapped_identifier (number at n))) (tag_term []) (term_mapped ds t fs) empty_string k
first_mapped ds t (list at none) fs h k = either_mapped (is_one_of t (mapped_identifier (list at none))) (tag_term []) (term_mapped ds t fs) empty_string k
first_mapped ds t (list at (more f none)) fs h k = either_mapped (is_one_of t (mapped_identifier (list at (more f none)))) (tag_term []) (term_mapped ds t fs) empty_string k
first_mapped ds t (list at (more f (more g gs))) fs h k =
    either_mapped (is_one_of t (mapped_identifier (list at (more f (more g gs))))) (term_of ds g) (term_mapped ds t fs) (term_strings ds g h.1.0) k

-- the term that maplets give an identifier
mapped_strings : (ds : List Declaration) (t : List ℕ) (fs : List Form) → AllProper fs → IfTerm (term_mapped ds t fs)
mapped_strings ds t [] h = no_term
mapped_strings ds t (f ∷ fs) h = first_mapped ds t f fs h.0 (mapped_strings ds t fs h.1)

given_or_fresh : (o : Option Term) (b : Bool) (s : Sort) (next : ℕ) → IfTerm o → AreStrings (strings_of (term_or_fresh o b s next))
given_or_fresh (Some t) b s next h = h t refl
given_or_fresh None true s next h = variable_strings (record { sort = s; number = next })
given_or_fresh None false s next h = empty_string

one_if : (b : Bool) (d : Declaration) → IsSymbolText d.identifier → AreSymbols (if b then d ∷ [] else [])
one_if true d h = one_symbol d h
one_if false d h = no_symbols

module _ (prefix : List Variable) (ds : List Declaration) (maplets : List Form) (proper : AllProper maplets) where
  terms_strings : (next n : ℕ) (rest : List Declaration) → HaveStrings (instantiated prefix ds maplets next n rest).terms
  terms_strings next n [] = each_of_none (IsSpelledTerm IsStringText)
  terms_strings next n (d ∷ rest) =
      let b = is_fresh prefix ds maplets n d in
      each_more (IsSpelledTerm IsStringText) (term_or_fresh (term_mapped ds d.identifier maplets) b d.sort next) (instantiated prefix ds maplets (if b then suc next else next) (suc n) rest).terms
      (given_or_fresh (term_mapped ds d.identifier maplets) b d.sort next (mapped_strings ds d.identifier maplets proper))
      (terms_strings (if b then suc next else next) (suc n) rest)

  -- the variables that are made are named after those of the role
  fresh_symbols : (next n : ℕ) (rest : List Declaration) → AreSymbols rest → AreSymbols (instantiated prefix ds maplets next n rest).fresh
  fresh_symbols next n [] h = no_symbols
  fresh_symbols next n (d ∷ rest) h =
      let b = is_fresh prefix ds maplets n d in
      both_symbols (if b then d ∷ [] else []) (instantiated prefix ds maplets (if b then suc next else next) (suc n) rest).fresh
      (one_if b d (h d here)) (fresh_symbols (if b then suc next else next) (suc n) rest (λ c i. h c (there i)))

-- ---- strands

-- Of an instance the role and all terms are proper, of a listener its term.
abbrev pub IsProperStrand : SkeletonStrand → Type 0
IsProperStrand (instance role height terms) = IsSpelledRole IsStringText IsSymbolText role × GivesStrings (as_substitution terms)
IsProperStrand (listener t) = AreStrings (strings_of t)

abbrev pub AreProperStrands : List SkeletonStrand → Type 0
AreProperStrands ks = Each IsProperStrand ks

pub strand_spelled : (k : SkeletonStrand) → IsProperStrand k → IsSpelledStrand IsStringText IsSymbolText k
strand_spelled (instance role height terms) h = (h.0, λ x i. h.1 x)
strand_spelled (listener t) h = h

-- A strand, and the variables made for it.
abbrev IsProperPair : SkeletonStrand × List Declaration → Type 0
IsProperPair s = IsProperStrand s.0 × AreSymbols s.1

by_role : (o : Option Role) (ds : List Declaration) (next : ℕ) (fs : List Form) → ((role : Role) → o ≡ Some role → IsSpelledRole IsStringText IsSymbolText role) → AllProper fs →
    IsProperPair (instance_by o ds next fs)
by_role None ds next fs h k = (empty_string, no_symbols)
by_role (Some role) ds next [] h k = (empty_string, no_symbols)
by_role (Some role) ds next (name ∷ []) h k = (empty_string, no_symbols)
by_role (Some role) ds next (name ∷ height ∷ maplets) h k =
    let r = h role refl in
    let prefix = variables_of_prefix role (number_of height) in (
      (r, by_terms (instance_of_role role ds next (number_of height) maplets).terms (terms_strings prefix ds maplets k.1.1 next 0 role.variables)),
      fresh_symbols prefix ds maplets k.1.1 next 0 role.variables r.variables,
    )

heard_strings : (ds : List Declaration) (fs : List Form) → AllProper fs → AreStrings (strings_of (listened_term ds fs))
heard_strings ds [] h = empty_string
heard_strings ds (f ∷ fs) h = term_strings ds f h.0

abbrev IsProperOption : Option (SkeletonStrand × List Declaration) → Type 0
IsProperOption None = Unit {0}
IsProperOption (Some s) = IsProperPair s

by_head : (roles : List Role) (ds : List Declaration) (next : ℕ) (k : ItemHead) (fs : List Form) → AreSpelledRoles roles → AllProper fs → IsProperOption (strand_by roles ds next k fs)
by_head roles ds next k fs h p =
    of_item roles ds next fs (λ i o. IsProperOption o)
    (by_role (role_named roles (name_in_front fs)) ds next fs (λ role e. h role (role_listed roles (name_in_front fs) role e)) p) (heard_strings ds fs p, no_symbols) (λ i. tt) k

-- Proper strands, and the variables made for them.
pub record AreProperOnes (s : Strands) : Type 0 where
  pub strands : AreProperStrands s.strands
  pub fresh : AreSymbols s.fresh

with_one : (o : Option (SkeletonStrand × List Declaration)) (rest : Strands) → IsProperOption o → AreProperOnes rest → AreProperOnes (with_strand o rest)
with_one None rest h hs = hs
with_one (Some s) rest h hs = record {
  strands = each_more IsProperStrand s.0 rest.strands h.0 hs.strands;
  fresh = both_symbols s.1 rest.fresh h.1 hs.fresh;
}

-- The strands that proper forms state, of roles that are proper.
pub strands_proper : (roles : List Role) (ds : List Declaration) (next : ℕ) (fs : List Form) → AreSpelledRoles roles → AllProper fs → AreProperOnes (strands_from roles ds next fs)
strands_proper roles ds next [] h p = record { strands = each_of_none IsProperStrand; fresh = no_symbols }
strands_proper roles ds next (f ∷ fs) h p =
    let one = strand_by roles ds next (item_or_none (headed f)) (items_behind (headed f)) in
    with_one one (strands_from roles ds (next + length (fresh_of one)) fs)
    (by_head roles ds next (item_or_none (headed f)) (items_behind (headed f)) h (behind_proper f p.0))
    (strands_proper roles ds (next + length (fresh_of one)) fs h p.1)

none_or_more : (b : Bool) (f : Form) (fs : List Form) → IsProper f → AllProper fs → AllProper (if b then [] else f ∷ fs)
none_or_more true f fs h p = tt
none_or_more false f fs h p = (h, p)

-- The forms before the first assumption or pair.
pub before_proper : (body : List Form) → AllProper body → AllProper (before_items body)
before_proper [] p = tt
before_proper (f ∷ fs) p = none_or_more (is_assumption_or_order (item_or_none (headed f))) f (before_items fs) p.0 (before_proper fs p.1)
