-- Identifiers that are declared one after another.
use Rattle.std.proofs.Common.{◌≡◌, ℕ, ◌+◌, ◌<◌, ◌≤◌, ◌||◌, List, [], ◌∷◌, ◌++◌, length, get_or, map, drop, Vec, Global, Bool, true, false, if◌then◌else◌, refl, sym, ap, ◌∙◌}
use Rattle.std.specs.Prelude.{Option}
use Rattle.std.proofs.lemmas.List.{drop_all, append_assoc, append-nil}
use Rattle.std.proofs.Math.Bool.{or_assoc}
use Rattle.cp_lists.proofs.Members.{drop_read}
use Rattle.cp_base.specs.declared.place.Place.{Place}
use Rattle.cp_base.specs.declared.place.Code.TheVariants.{DuplicateVar, MesgVar}
use Rattle.cp_base.specs.declared.place.Refusal.{Refusal}
use Rattle.cp_model.specs.declared.sort.Sort.{Sort}
use Rattle.cp_model.specs.declared.variable.Declaration.{Declaration}
use Rattle.cp_sexpr.specs.Syntax.{Form, symbol, string, number, list, forms_of}
use Rattle.cp_sexpr.specs.View.{view}
use Rattle.cp_sexpr.specs.declared.form.Form as program
use Rattle.cp_model.specs.Same.{same_text}
use Rattle.cp_language.specs.declared.words.SortWord.{SortWord}
use Rattle.cp_language.specs.Words.{is_one_of}
use Rattle.cp_language.specs.Faults.{fault, items_of}
use Rattle.cp_language.specs.Terms.{lacks}
use Rattle.cp_language.specs.Names.{identifiers_in}
use Rattle.cp_language.specs.Roles.{text_of_symbol, list_items, front_of, last_form, sort_named, is_of_messages, sort_or_text, last_sort_faults, identifier_faults, identifiers_faults, declared_identifiers, declaration_faults, declarations_faults, declared_of, declarations_in}
use Rattle.cp_scope.specs.FirstFault.{first_onto}
use Rattle.cp_scope.proofs.Firsts.{first_onto-append, first_then_three}
use Rattle.cp_scope.proofs.Views.{view-List, items_of-forms_of}

or_comm : (a b : Bool) → (a || b) ≡ (b || a)
or_comm true true = refl
or_comm true false = refl
or_comm false true = refl
or_comm false false = refl

pub is_one_of-append : (t : List ℕ) (xs ys : List (List ℕ)) → is_one_of t (xs ++ ys) ≡ (is_one_of t xs || is_one_of t ys)
is_one_of-append t [] ys = refl
is_one_of-append t (x ∷ xs) ys = ap (λ b. same_text t x || b) (is_one_of-append t xs ys) ∙ sym (or_assoc (same_text t x) (is_one_of t xs) (is_one_of t ys))

pub identifiers_in-append : (xs ys : List Declaration) → identifiers_in (xs ++ ys) ≡ identifiers_in xs ++ identifiers_in ys
identifiers_in-append [] ys = refl
identifiers_in-append (x ∷ xs) ys = ap (λ zs. x.identifier ∷ zs) (identifiers_in-append xs ys)

-- the same names, in another order
abbrev pub AreSameNames : List (List ℕ) → List (List ℕ) → Type 0
AreSameNames xs ys = (t : List ℕ) → is_one_of t xs ≡ is_one_of t ys

pub names-swap : (xs ys : List (List ℕ)) → AreSameNames (xs ++ ys) (ys ++ xs)
names-swap xs ys t = is_one_of-append t xs ys ∙ or_comm (is_one_of t xs) (is_one_of t ys) ∙ sym (is_one_of-append t ys xs)

names_behind : (xs ys zs : List (List ℕ)) → AreSameNames ys zs → AreSameNames (xs ++ ys) (xs ++ zs)
names_behind [] ys zs h t = h t
names_behind (x ∷ xs) ys zs h t = ap (λ b. same_text t x || b) (names_behind xs ys zs h t)

identifier-names : (b c : List (List ℕ)) (s : SortWord) (f : Form) → AreSameNames b c → identifier_faults b s f ≡ identifier_faults c s f
identifier-names b c s (symbol at t) h = ap (λ d. (if is_of_messages s then fault at MesgVar else []) ++ (if d then fault at DuplicateVar else [])) (h t)
identifier-names b c s (string at t) h = refl
identifier-names b c s (number at n) h = refl
identifier-names b c s (list at fs) h = refl

pub identifiers-names : (b c : List (List ℕ)) (s : SortWord) (fs : List Form) → AreSameNames b c → identifiers_faults b s fs ≡ identifiers_faults c s fs
identifiers-names b c s [] h = refl
identifiers-names b c s (f ∷ fs) h =
    ap (λ rs. rs ++ identifiers_faults (text_of_symbol f ∷ b) s fs) (identifier-names b c s f h)
    ∙ ap (λ rs. identifier_faults c s f ++ rs) (identifiers-names (text_of_symbol f ∷ b) (text_of_symbol f ∷ c) s fs (λ t. ap (λ d. same_text t (text_of_symbol f) || d) (h t)))

declaration-names : (b c : List (List ℕ)) (f : Form) → AreSameNames b c → declaration_faults b f ≡ declaration_faults c f
declaration-names b c (symbol at t) h = refl
declaration-names b c (string at t) h = refl
declaration-names b c (number at n) h = refl
declaration-names b c (list at fs) h = rw (identifiers-names b c (sort_named (last_form (list_items (list at fs)))) (front_of (list_items (list at fs))) h)

pub declarations-names : (b c : List (List ℕ)) (fs : List Form) → AreSameNames b c → declarations_faults b fs ≡ declarations_faults c fs
declarations-names b c [] h = refl
declarations-names b c (f ∷ fs) h =
    ap (λ rs. rs ++ declarations_faults (declared_identifiers (front_of (list_items f)) ++ b) fs) (declaration-names b c f h)
    ∙ ap (λ rs. declaration_faults c f ++ rs)
    (declarations-names (declared_identifiers (front_of (list_items f)) ++ b) (declared_identifiers (front_of (list_items f)) ++ c) fs (names_behind (declared_identifiers (front_of (list_items f))) b c h))

identifiers-declared : (s : Sort) (fs : List Form) → identifiers_in (declared_of s fs) ≡ declared_identifiers fs
identifiers-declared s [] = refl
identifiers-declared s (f ∷ fs) = ap (λ xs. text_of_symbol f ∷ xs) (identifiers-declared s fs)

-- ---- one identifier after another

module _ (word : SortWord) (forms : List program.Form) (k : ℕ) where
  -- the faults that are left, and what is left to declare
  pub identifiers-taken : (f : program.Form) → k < length forms → f ≡ get_or forms k f → (ds es : List Declaration) (o p all : Option Refusal)
      → es ≡ ds ++ record { identifier = text_of_symbol (view f); sort = sort_or_text word } ∷ []
      → p ≡ first_onto o (identifier_faults (identifiers_in ds) word (view f))
      → first_onto o (identifiers_faults (identifiers_in ds) word (map view (drop k forms))) ≡ all
      → first_onto p (identifiers_faults (identifiers_in es) word (map view (drop (k + 1) forms))) ≡ all
  identifiers-taken f h e ds es o p all g q i =
      let names : identifiers_in es ≡ identifiers_in ds ++ text_of_symbol (view f) ∷ [] = ap identifiers_in g ∙ identifiers_in-append ds (record { identifier = text_of_symbol (view f); sort = sort_or_text word } ∷ []) in
      let rest = map view (drop (k + 1) forms) in
      ap (λ b. first_onto p (identifiers_faults b word rest)) names
      ∙ ap (first_onto p) (identifiers-names (identifiers_in ds ++ text_of_symbol (view f) ∷ []) (text_of_symbol (view f) ∷ identifiers_in ds) word rest (names-swap (identifiers_in ds) (text_of_symbol (view f) ∷ [])))
      ∙ ap (λ x. first_onto x (identifiers_faults (text_of_symbol (view f) ∷ identifiers_in ds) word rest)) q
      ∙ sym (first_onto-append o (identifier_faults (identifiers_in ds) word (view f)) (identifiers_faults (text_of_symbol (view f) ∷ identifiers_in ds) word rest))
      ∙ sym (ap (λ fs. first_onto o (identifiers_faults (identifiers_in ds) word (map view fs))) (drop_read forms k f h e)) ∙ i

  pub declared-taken : (f : program.Form) → k < length forms → f ≡ get_or forms k f → (ds es all : List Declaration)
      → es ≡ ds ++ record { identifier = text_of_symbol (view f); sort = sort_or_text word } ∷ []
      → ds ++ declared_of (sort_or_text word) (map view (drop k forms)) ≡ all
      → es ++ declared_of (sort_or_text word) (map view (drop (k + 1) forms)) ≡ all
  declared-taken f h e ds es all g i =
      ap (λ xs. xs ++ declared_of (sort_or_text word) (map view (drop (k + 1) forms))) g
      ∙ append_assoc ds (record { identifier = text_of_symbol (view f); sort = sort_or_text word } ∷ []) (declared_of (sort_or_text word) (map view (drop (k + 1) forms)))
      ∙ sym (ap (λ fs. ds ++ declared_of (sort_or_text word) (map view fs)) (drop_read forms k f h e)) ∙ i

  pub identifiers-done : length forms ≤ k → (b : List (List ℕ)) (o all : Option Refusal) → first_onto o (identifiers_faults b word (map view (drop k forms))) ≡ all → o ≡ all
  identifiers-done h b o all i = ap (λ fs. first_onto o (identifiers_faults b word (map view fs))) (sym (drop_all k forms h)) ∙ i

  pub declared-done : length forms ≤ k → (ds all : List Declaration) → ds ++ declared_of (sort_or_text word) (map view (drop k forms)) ≡ all → ds ≡ all
  declared-done h ds all i = sym (append-nil ds) ∙ ap (λ fs. ds ++ declared_of (sort_or_text word) (map view fs)) (sym (drop_all k forms h)) ∙ i

-- ---- one declaration after another

module _ (forms : List program.Form) (k : ℕ) where
  abbrev pub declared_by : Form → List Declaration
  declared_by f = declared_of (sort_or_text (sort_named (last_form (list_items f)))) (front_of (list_items f))

  pub declarations-taken : (f : program.Form) → k < length forms → f ≡ get_or forms k f → (ds es : List Declaration) (o p all : Option Refusal)
      → es ≡ ds ++ declared_by (view f)
      → p ≡ first_onto o (declaration_faults (identifiers_in ds) (view f))
      → first_onto o (declarations_faults (identifiers_in ds) (map view (drop k forms))) ≡ all
      → first_onto p (declarations_faults (identifiers_in es) (map view (drop (k + 1) forms))) ≡ all
  declarations-taken f h e ds es o p all g q i =
      let new = declared_identifiers (front_of (list_items (view f))) in
      let names : identifiers_in es ≡ identifiers_in ds ++ new = ap identifiers_in g ∙ identifiers_in-append ds (declared_by (view f))
      ∙ ap (λ xs. identifiers_in ds ++ xs) (identifiers-declared (sort_or_text (sort_named (last_form (list_items (view f))))) (front_of (list_items (view f)))) in
      let rest = map view (drop (k + 1) forms) in
      ap (λ b. first_onto p (declarations_faults b rest)) names
      ∙ ap (first_onto p) (declarations-names (identifiers_in ds ++ new) (new ++ identifiers_in ds) rest (names-swap (identifiers_in ds) new))
      ∙ ap (λ x. first_onto x (declarations_faults (new ++ identifiers_in ds) rest)) q
      ∙ sym (first_onto-append o (declaration_faults (identifiers_in ds) (view f)) (declarations_faults (new ++ identifiers_in ds) rest))
      ∙ sym (ap (λ fs. first_onto o (declarations_faults (identifiers_in ds) (map view fs))) (drop_read forms k f h e)) ∙ i

  pub all-declared-taken : (f : program.Form) → k < length forms → f ≡ get_or forms k f → (ds es all : List Declaration)
      → es ≡ ds ++ declared_by (view f) → ds ++ declarations_in (map view (drop k forms)) ≡ all → es ++ declarations_in (map view (drop (k + 1) forms)) ≡ all
  all-declared-taken f h e ds es all g i =
      ap (λ xs. xs ++ declarations_in (map view (drop (k + 1) forms))) g ∙ append_assoc ds (declared_by (view f)) (declarations_in (map view (drop (k + 1) forms)))
      ∙ sym (ap (λ fs. ds ++ declarations_in (map view fs)) (drop_read forms k f h e)) ∙ i

  pub declarations-done : length forms ≤ k → (b : List (List ℕ)) (o all : Option Refusal) → first_onto o (declarations_faults b (map view (drop k forms))) ≡ all → o ≡ all
  declarations-done h b o all i = ap (λ fs. first_onto o (declarations_faults b (map view fs))) (sym (drop_all k forms h)) ∙ i

  pub all-declared-done : length forms ≤ k → (ds all : List Declaration) → ds ++ declarations_in (map view (drop k forms)) ≡ all → ds ≡ all
  all-declared-done h ds all i = sym (append-nil ds) ∙ ap (λ fs. ds ++ declarations_in (map view fs)) (sym (drop_all k forms h)) ∙ i

-- ---- one declaration

module _ (f : program.Form) (at : Place) (v : Vec program.Form Global) (fs : List program.Form) (e : f ≡ program.List at v) (g : fs ≡ v.items) where
  seen : {A : Type 0} (meant : Form → A) (of_items : List Form → A) → ((gs : List Form) → meant (list at (forms_of gs)) ≡ of_items (items_of (forms_of gs))) → of_items (map view fs) ≡ meant (view f)
  seen meant of_items h =
      ap (λ gs. of_items (map view gs)) g ∙ ap of_items (sym (items_of-forms_of (map view v.items))) ∙ sym (h (map view v.items)) ∙ sym (ap meant (ap view e ∙ view-List at v))

  pub declaration-read : (b : List (List ℕ)) (word : SortWord) (last : Option Form) (front : List Form) (o p q r : Option Refusal)
      → last ≡ last_form (map view fs) → front ≡ front_of (map view fs) → word ≡ sort_named last
      → p ≡ first_onto o (lacks 2 at (map view fs)) → q ≡ first_onto p (identifiers_faults b word front) → r ≡ first_onto q (last_sort_faults last)
      → r ≡ first_onto o (declaration_faults b (view f))
  declaration-read b word last front o p q r el ef ew hp hq hr =
      first_then_three o p q r (lacks 2 at (map view fs)) (identifiers_faults b word front) (last_sort_faults last) hp hq hr
      ∙ ap (λ w. first_onto o (lacks 2 at (map view fs) ++ identifiers_faults b w front ++ last_sort_faults last)) ew
      ∙ ap (λ l. first_onto o (lacks 2 at (map view fs) ++ identifiers_faults b (sort_named l) front ++ last_sort_faults l)) el
      ∙ ap (λ gs. first_onto o (lacks 2 at (map view fs) ++ identifiers_faults b (sort_named (last_form (map view fs))) gs ++ last_sort_faults (last_form (map view fs)))) ef
      ∙ ap (first_onto o) (seen (declaration_faults b) (λ gs. lacks 2 at gs ++ identifiers_faults b (sort_named (last_form gs)) (front_of gs) ++ last_sort_faults (last_form gs)) (λ gs. refl))

  pub declaration-declared : (word : SortWord) (last : Option Form) (front : List Form) (ds es : List Declaration)
      → last ≡ last_form (map view fs) → front ≡ front_of (map view fs) → word ≡ sort_named last → es ≡ ds ++ declared_of (sort_or_text word) front
      → es ≡ ds ++ declared_of (sort_or_text (sort_named (last_form (list_items (view f))))) (front_of (list_items (view f)))
  declaration-declared word last front ds es el ef ew h =
      h ∙ ap (λ w. ds ++ declared_of (sort_or_text w) front) ew ∙ ap (λ l. ds ++ declared_of (sort_or_text (sort_named l)) front) el
      ∙ ap (λ gs. ds ++ declared_of (sort_or_text (sort_named (last_form (map view fs)))) gs) ef
      ∙ ap (λ gs. ds ++ declared_of (sort_or_text (sort_named (last_form gs))) (front_of gs)) (seen list_items (λ gs. gs) (λ gs. refl))
