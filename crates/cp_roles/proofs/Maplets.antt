-- The faults of strands, part by part.
use Rattle.std.proofs.Common.{◌≡◌, ℕ, zero, suc, ◌+◌, ◌-◌, ◌<◌, ◌≤◌, List, [], ◌∷◌, ◌++◌, length, get_or, map, take, drop, if◌then◌else◌, refl, sym, ap, ◌∙◌, arith}
use Rattle.std.specs.Prelude.{Option}
use Rattle.std.proofs.lemmas.List.{take_all, drop_all, append_assoc, append-nil}
use Rattle.cp_lists.proofs.Members.{drop_read}
use Rattle.cp_base.specs.declared.place.Place.{Place}
use Rattle.cp_base.specs.declared.place.Code.TheVariants.{BadShape, DuplicateVar}
use Rattle.cp_base.specs.declared.place.Refusal.{Refusal}
use Rattle.cp_lists.specs.Lists.{item_at}
use Rattle.cp_model.specs.Strand.{Role}
use Rattle.cp_model.specs.declared.variable.Declaration.{Declaration}
use Rattle.cp_sexpr.specs.Syntax.{Form, symbol, string, number, list}
use Rattle.cp_sexpr.specs.View.{view}
use Rattle.cp_sexpr.specs.declared.form.Form as program
use Rattle.cp_language.specs.Faults.{fault, items_of}
use Rattle.cp_language.specs.Terms.{lacks, exceeds, term_faults, variable_named}
use Rattle.cp_language.specs.Roles.{text_of_symbol}
use Rattle.cp_language.specs.Problems.{role_named, role_name_faults, height_faults, role_variable_faults, mapped_faults, first_form, second_term_faults, maplet_items_faults, maplet_faults, mapped_identifier, maplets_faults, maplets_faults_of, instance_faults, listener_faults}
use Rattle.cp_scope.specs.FirstFault.{first_onto}
use Rattle.cp_roles.specs.Mapped.{mapped_names}
use Rattle.cp_scope.proofs.Firsts.{first_onto-append, first_then, first_then_three, first_then_four}
use Rattle.cp_scope.proofs.DeclaredIdentifiers.{AreSameNames, names-swap}

first-item : (fs : List Form) → item_at fs 0 ≡ first_form fs
first-item [] = refl
first-item (f ∷ fs) = refl

pub listener-read : (ds : List Declaration) (at : Place) (fs rest : List program.Form) (f : program.Form) (o p q : Option Refusal) → fs ≡ f ∷ rest
    → p ≡ first_onto o (term_faults ds (view f)) → q ≡ first_onto p (exceeds 0 (map view rest)) → q ≡ first_onto o (listener_faults ds at (map view fs))
listener-read ds at fs rest f o p q e g h =
    first_then o p q (term_faults ds (view f)) (exceeds 0 (map view rest)) g h ∙ ap (λ gs. first_onto o (listener_faults ds at (map view gs))) (sym e)

module _ (role : Role) (height : ℕ) (ds : List Declaration) where
  pub maplet-read : (b : List (List ℕ)) (at : Place) (fs rest : List program.Form) (f : program.Form) (term : Option Form) (o p q r s : Option Refusal) → fs ≡ f ∷ rest → term ≡ item_at (map view rest) 0
      → p ≡ first_onto o (lacks 1 at (map view rest)) → q ≡ first_onto p (mapped_faults role height ds b (view f) term) → r ≡ first_onto q (second_term_faults ds term) → s ≡ first_onto r (exceeds 1 (map view rest))
      → s ≡ first_onto o (maplet_items_faults role height ds b at (map view fs))
  maplet-read b at fs rest f term o p q r s e t hp hq hr hs =
      let gs = map view rest in
      first_then_four o p q r s (lacks 1 at gs) (mapped_faults role height ds b (view f) term) (second_term_faults ds term) (exceeds 1 gs) hp hq hr hs
      ∙ ap (λ x. first_onto o (lacks 1 at gs ++ mapped_faults role height ds b (view f) x ++ second_term_faults ds x ++ exceeds 1 gs)) (t ∙ first-item gs)
      ∙ ap (λ xs. first_onto o (maplet_items_faults role height ds b at (map view xs))) (sym e)

  mapped-names : (b c : List (List ℕ)) (f : Form) (term : Option Form) → AreSameNames b c → mapped_faults role height ds b f term ≡ mapped_faults role height ds c f term
  mapped-names b c (symbol at t) term h = ap (λ x. (if x then fault at DuplicateVar else []) ++ role_variable_faults role height ds at term (variable_named role.variables t)) (h t)
  mapped-names b c (string at t) term h = refl
  mapped-names b c (number at n) term h = refl
  mapped-names b c (list at fs) term h = refl

  items-names : (b c : List (List ℕ)) (at : Place) (fs : List Form) → AreSameNames b c → maplet_items_faults role height ds b at fs ≡ maplet_items_faults role height ds c at fs
  items-names b c at [] h = refl
  items-names b c at (f ∷ fs) h = ap (λ rs. lacks 1 at fs ++ rs ++ second_term_faults ds (first_form fs) ++ exceeds 1 fs) (mapped-names b c f (first_form fs) h)

  maplet-names : (b c : List (List ℕ)) (f : Form) → AreSameNames b c → maplet_faults role height ds b f ≡ maplet_faults role height ds c f
  maplet-names b c (symbol at t) h = refl
  maplet-names b c (string at t) h = refl
  maplet-names b c (number at n) h = refl
  maplet-names b c (list at fs) h = items-names b c at (items_of fs) h

  names_behind : (xs ys zs : List (List ℕ)) → AreSameNames ys zs → AreSameNames (xs ++ ys) (xs ++ zs)
  names_behind [] ys zs h t = h t
  names_behind (x ∷ xs) ys zs h t = rw (names_behind xs ys zs h t)

  maplets-names : (b c : List (List ℕ)) (fs : List Form) → AreSameNames b c → maplets_faults role height ds b fs ≡ maplets_faults role height ds c fs
  maplets-names b c [] h = refl
  maplets-names b c (f ∷ fs) h =
      ap (λ rs. rs ++ maplets_faults role height ds (mapped_identifier f ++ b) fs) (maplet-names b c f h)
      ∙ ap (λ rs. maplet_faults role height ds c f ++ rs) (maplets-names (mapped_identifier f ++ b) (mapped_identifier f ++ c) fs (names_behind (mapped_identifier f) b c h))

  names-next : (fs : List program.Form) (k : ℕ) (f : program.Form) → k < length fs → f ≡ get_or fs k f → mapped_names (take (k + 1) (map view fs)) ≡ mapped_names (take k (map view fs)) ++ mapped_identifier (view f)
  names-next [] k f lt is = absurd (omega arith)
  names-next (g ∷ fs) zero f lt is = ap (λ x. mapped_identifier (view x) ++ []) (sym is) ∙ append-nil (mapped_identifier (view f))
  names-next (g ∷ fs) (suc k) f lt is =
      let step : suc k + 1 ≡ suc (k + 1) = omega arith in
      ap (λ n. mapped_names (take n (map view (g ∷ fs)))) step
      ∙ ap (λ ns. mapped_identifier (view g) ++ ns) (names-next fs k f (omega arith) is)
      ∙ sym (append_assoc (mapped_identifier (view g)) (mapped_names (take k (map view fs))) (mapped_identifier (view f)))

  module _ (fs : List program.Form) (k : ℕ) where
    pub maplets-taken : (f : program.Form) → k < length fs → f ≡ get_or fs k f → (before : List Form) (o p all : Option Refusal) → before ≡ take k (map view fs)
        → p ≡ first_onto o (maplet_faults role height ds (mapped_names before) (view f))
        → first_onto o (maplets_faults role height ds (mapped_names (take k (map view fs))) (map view (drop k fs))) ≡ all
        → first_onto p (maplets_faults role height ds (mapped_names (take (k + 1) (map view fs))) (map view (drop (k + 1) fs))) ≡ all
    maplets-taken f lt is before o p all e g i =
        let names = mapped_names (take k (map view fs)) in
        let rest = map view (drop (k + 1) fs) in
        ap (λ b. first_onto p (maplets_faults role height ds b rest)) (names-next fs k f lt is)
        ∙ ap (first_onto p) (maplets-names (names ++ mapped_identifier (view f)) (mapped_identifier (view f) ++ names) rest (names-swap names (mapped_identifier (view f))))
        ∙ ap (λ x. first_onto x (maplets_faults role height ds (mapped_identifier (view f) ++ names) rest)) (g ∙ ap (λ b. first_onto o (maplet_faults role height ds (mapped_names b) (view f))) e)
        ∙ sym (first_onto-append o (maplet_faults role height ds names (view f)) (maplets_faults role height ds (mapped_identifier (view f) ++ names) rest))
        ∙ sym (ap (λ gs. first_onto o (maplets_faults role height ds names (map view gs))) (drop_read fs k f lt is)) ∙ i

    pub maplets-done : length fs ≤ k → (b : List (List ℕ)) (o all : Option Refusal) → first_onto o (maplets_faults role height ds b (map view (drop k fs))) ≡ all → o ≡ all
    maplets-done h b o all i = ap (λ gs. first_onto o (maplets_faults role height ds b (map view gs))) (sym (drop_all k fs h)) ∙ i

module _ (roles : List Role) (ds : List Declaration) (at : Place) where
  pub few_items : (fs : List program.Form) → length fs < 2 → fault at BadShape ≡ instance_faults roles ds at (map view fs)
  few_items [] l = refl
  few_items (x ∷ []) l = refl
  few_items (x ∷ y ∷ fs) l = absurd (omega arith)

  pub instance-read : (fs : List program.Form) (n h : program.Form) → 2 ≤ length fs → n ≡ get_or fs 0 n → h ≡ get_or fs 1 h → (role : Option Role) (o p q r : Option Refusal)
      → role ≡ role_named roles (text_of_symbol (view n))
      → p ≡ first_onto o (role_name_faults roles (view n)) → q ≡ first_onto p (height_faults role (view h))
      → r ≡ first_onto q (maplets_faults_of role (view h) ds (map view (take (length fs - 2) (drop 2 fs)))) → r ≡ first_onto o (instance_faults roles ds at (map view fs))
  instance-read [] n h l e f role o p q r i hp hq hr = absurd (omega arith)
  instance-read (x ∷ []) n h l e f role o p q r i hp hq hr = absurd (omega arith)
  instance-read (x ∷ y ∷ fs) n h l e f role o p q r i hp hq hr =
      let all : Option Role → Form → Form → List program.Form → List Refusal = λ m k w gs. role_name_faults roles k ++ height_faults m w ++ maplets_faults_of m w ds (map view gs) in
      let rest = take (length (x ∷ y ∷ fs) - 2) fs in
      first_then_three o p q r (role_name_faults roles (view n)) (height_faults role (view h)) (maplets_faults_of role (view h) ds (map view rest)) hp hq hr
      ∙ ap (λ m. first_onto o (all m (view n) (view h) rest)) i
      ∙ ap (λ k. first_onto o (all (role_named roles (text_of_symbol (view k))) (view k) (view h) rest)) e
      ∙ ap (λ w. first_onto o (all (role_named roles (text_of_symbol (view x))) (view x) (view w) rest)) f
      ∙ ap (λ gs. first_onto o (all (role_named roles (text_of_symbol (view x))) (view x) (view y) gs)) (take_all (length (x ∷ y ∷ fs) - 2) fs (omega arith))
