-- The text of terms.
use Rattle.std.proofs.Common.{◌≡◌, ℕ, Bool, true, false, List, [], ◌∷◌, ◌++◌, refl, sym, ap, ◌∙◌, append_assoc, codes}
use Rattle.std.specs.Prelude.{Option, Some, None}
use Rattle.std.proofs.lemmas.List.{append-nil}
use Rattle.cp_base.specs.Growing.{Growth, Grows}
use Rattle.cp_base.proofs.Grown.{grows_then}
use Rattle.cp_sexpr.specs.Syntax.{Form, list, Forms, none, more, append}
use Rattle.cp_sexpr.specs.Pieces.{space, close_parenthesis}
use Rattle.cp_sexpr.specs.Spelling.{spelling, next_spelling}
use Rattle.cp_model.specs.Term.{Term, tag_term, atom_term, pair_term, enc_term, pubk_term, KeyTerm}
use Rattle.cp_model.specs.declared.sort.Sort.TheVariants.{Name as name_sort}
use Rattle.cp_model.specs.declared.variable.Variable.{Variable}
use Rattle.cp_language.specs.Printed.{gathered, plain_list, spine, term_form, no_place, word, variable, atom_form, asymmetric_form}
use Rattle.cp_strand.specs.Atoms.{atom_of}
use Rattle.cp_term.specs.Keys.{key_as_term}
use Rattle.cp_print.specs.Parts.{purpose_items, name_key_word, is_pair_term}
use Rattle.cp_print.specs.Spelled.{item_text}
use Rattle.cp_print.proofs.SpelledItems.{same_text}

next-append : (fs gs : Forms) → next_spelling (append fs gs) ≡ next_spelling fs ++ next_spelling gs
next-append none gs = refl
next-append (more f fs) gs = ap (λ t. item_text false f ++ t) (next-append fs gs) ∙ sym (append_assoc (item_text false f) (next_spelling fs) (next_spelling gs))

next-one : (f : Form) → next_spelling (more f none) ≡ item_text false f
next-one f = append-nil (item_text false f)

module _ (named : Variable → Form) where
  -- the key of a name by its word
  pub name_key_is : (private : Bool) (purpose : Option (List ℕ)) (a : ℕ)
      → plain_list (word (name_key_word private) ∷ (purpose_items purpose ++ named (variable name_sort a) ∷ [])) ≡ asymmetric_form named private (pubk_term purpose a)
  name_key_is true None a = refl
  name_key_is true (Some p) a = refl
  name_key_is false None a = refl
  name_key_is false (Some p) a = refl

  -- behind another part
  several : (f : Form) (b : Term) → gathered named (more f (spine named b)) ≡ list no_place (more (word (codes "cat")) (more f (spine named b)))
  several f (tag_term t) = refl
  several f (atom_term a) = refl
  several f (pair_term a b) = refl
  several f (enc_term a k) = refl

  -- a pair is one `cat`
  pub cat_is : (t : Term) → is_pair_term t ≡ true → term_form named t ≡ list no_place (more (word (codes "cat")) (spine named t))
  cat_is (tag_term t) h = absurd (cc)
  cat_is (atom_term a) h = absurd (cc)
  cat_is (pair_term a b) h = several (term_form named a) b
  cat_is (enc_term a k) h = absurd (cc)

  -- any other term is its only part
  pub part_is : (t : Term) → is_pair_term t ≡ false → next_spelling (spine named t) ≡ item_text false (term_form named t)
  part_is (tag_term t) h = next-one (term_form named (tag_term t))
  part_is (atom_term a) h = next-one (term_form named (atom_term a))
  part_is (pair_term a b) h = absurd (cc)
  part_is (enc_term a k) h = next-one (term_form named (enc_term a k))

  -- the parts so far, and those of what is left, are all
  abbrev pub PartsLeft : Growth ℕ → Growth ℕ → Term → Term → Type 0
  PartsLeft old now rest whole = (done : List ℕ) × Grows old now done × (next_spelling (spine named whole) ≡ done ++ next_spelling (spine named rest))

  module _ {a b : Growth ℕ} (rest whole : Term) (l : PartsLeft a b rest whole) where
    -- one part more
    pub part_more : {c : Growth ℕ} (left right : Term) → rest ≡ pair_term left right → Grows b c (item_text false (term_form named left)) → PartsLeft a c right whole
    part_more {c} left right e g = (
      l.0 ++ item_text false (term_form named left),
      grows_then a b c l.0 (item_text false (term_form named left)) l.1 g,
      l.2 ∙ ap (λ t. l.0 ++ next_spelling (spine named t)) e ∙ sym (append_assoc l.0 (item_text false (term_form named left)) (next_spelling (spine named right))),
    )

    -- the last part
    pub part_last : {c : Growth ℕ} (f : Form) → spine named rest ≡ more f none → Grows b c (item_text false f) → Grows a c (next_spelling (spine named whole))
    part_last {c} f e g = same_text (sym (l.2 ∙ ap (λ fs. l.0 ++ next_spelling fs) e ∙ ap (λ t. l.0 ++ t) (next-one f))) (grows_then a b c l.0 (item_text false f) l.1 g)

  -- an encryption is a list of the parts of its plaintext and its key
  abbrev pub encryption_of : Term → Form → Form
  encryption_of body key = list no_place (more (word (codes "enc")) (append (spine named body) (more key none)))

  pub encryption_is : (t body kt : Term) (key : KeyTerm) → t ≡ enc_term body key → kt ≡ key_as_term key → spine named t ≡ more (encryption_of body (atom_form named (atom_of kt))) none
  encryption_is t body kt key e d = ap (spine named) e ∙ ap (λ k. more (encryption_of body k) none) (sym (ap (λ u. atom_form named (atom_of u)) d))

  pub encryption_made : {a b c d e f : Growth ℕ} (body : Term) (key : Form) → Grows a b (codes " (enc") → Grows b c (next_spelling (spine named body)) → Grows c d (space ∷ []) → Grows d e (spelling key) → Grows e f (close_parenthesis ∷ [])
      → Grows a f (item_text false (encryption_of body key))
  encryption_made {a} {b} {c} {d} {e} {f} body key opened parts gap last closed =
      let bs = next_spelling (spine named body) in
      let made = grows_then a b f (codes " (enc") _ opened (grows_then b c f bs _ parts (grows_then c d f (space ∷ []) _ gap (grows_then d e f (spelling key) _ last closed))) in
      let inside : next_spelling (append (spine named body) (more key none)) ++ close_parenthesis ∷ [] ≡ bs ++ (space ∷ (spelling key ++ close_parenthesis ∷ []))
      = ap (λ t. t ++ close_parenthesis ∷ []) (next-append (spine named body) (more key none) ∙ ap (λ t. bs ++ t) (next-one key)) ∙ append_assoc bs (item_text false key) (close_parenthesis ∷ []) in
      same_text (ap (λ t. codes " (enc" ++ t) (sym inside)) made
