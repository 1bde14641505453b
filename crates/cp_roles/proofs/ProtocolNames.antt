-- Protocols by their names.
use Rattle.std.proofs.Common.{◌≡◌, ℕ, ◌-◌, ◌<◌, ◌≤◌, List, [], ◌∷◌, ◌++◌, length, get_or, map, take, drop, if◌then◌else◌, refl, sym, ap, ◌∙◌, arith}
use Rattle.std.specs.Prelude.{Option, Some}
use Rattle.std.proofs.lemmas.List.{take_all}
use Rattle.cp_base.specs.declared.place.Place.{Place}
use Rattle.cp_base.specs.declared.place.Code.TheVariants.{BadShape, DuplicateProtocol}
use Rattle.cp_base.specs.declared.place.Refusal.{Refusal}
use Rattle.cp_model.specs.Strand.{Protocol}
use Rattle.cp_sexpr.specs.Syntax.{Form}
use Rattle.cp_sexpr.specs.View.{view}
use Rattle.cp_sexpr.specs.declared.form.Form as program
use Rattle.cp_model.specs.Same.{same_text}
use Rattle.cp_language.specs.Faults.{fault}
use Rattle.cp_language.specs.Roles.{name_faults_at, algebra_faults, roles_faults, protocol_faults}
use Rattle.cp_language.specs.Problems.{protocol_named}
use Rattle.cp_scope.specs.FirstFault.{first_onto}
use Rattle.cp_roles.specs.Above.{names_of_protocols, turned}
use Rattle.cp_scope.proofs.Firsts.{first_then_three}

-- the last of these protocols that has this name, or the one found before
abbrev pub last_named : Option Protocol → List Protocol → List ℕ → Option Protocol
last_named found [] t = found
last_named found (p ∷ ps) t = last_named (if same_text p.name t then Some p else found) ps t

pub named-turned : (ps others : List Protocol) (t : List ℕ) → last_named (protocol_named others t) ps t ≡ protocol_named (turned ps others) t
named-turned [] others t = refl
named-turned (p ∷ ps) others t = named-turned ps (p ∷ others) t

pub turned-push : (ps others : List Protocol) (p : Protocol) → turned (ps ++ p ∷ []) others ≡ p ∷ turned ps others
turned-push [] others p = refl
turned-push (q ∷ qs) others p = turned-push qs (q ∷ others) p

module _ (b : List (List ℕ)) (at : Place) where
  pub few_items : (fs : List program.Form) → length fs < 2 → fault at BadShape ≡ protocol_faults b at (map view fs)
  few_items [] l = refl
  few_items (x ∷ []) l = refl
  few_items (x ∷ y ∷ fs) l = absurd (omega arith)

  pub protocol-read : (fs : List program.Form) (n a : program.Form) → 2 ≤ length fs → n ≡ get_or fs 0 n → a ≡ get_or fs 1 a → (o p q r : Option Refusal)
      → p ≡ first_onto o (name_faults_at b (λ x. fault x DuplicateProtocol) (view n)) → q ≡ first_onto p (algebra_faults (view a))
      → r ≡ first_onto q (roles_faults [] (map view (take (length fs - 2) (drop 2 fs)))) → r ≡ first_onto o (protocol_faults b at (map view fs))
  protocol-read [] n a l e f o p q r hp hq hr = absurd (omega arith)
  protocol-read (x ∷ []) n a l e f o p q r hp hq hr = absurd (omega arith)
  protocol-read (x ∷ y ∷ fs) n a l e f o p q r hp hq hr =
      let all : Form → Form → List program.Form → List Refusal = λ k w gs. name_faults_at b (λ z. fault z DuplicateProtocol) k ++ algebra_faults w ++ roles_faults [] (map view gs) in
      let rest = take (length (x ∷ y ∷ fs) - 2) fs in
      first_then_three o p q r (name_faults_at b (λ z. fault z DuplicateProtocol) (view n)) (algebra_faults (view a)) (roles_faults [] (map view rest)) hp hq hr
      ∙ ap (λ k. first_onto o (all (view k) (view a) rest)) e ∙ ap (λ w. first_onto o (all (view x) (view w) rest)) f
      ∙ ap (λ gs. first_onto o (all (view x) (view y) gs)) (take_all (length (x ∷ y ∷ fs) - 2) fs (omega arith))

-- The names of protocols, of which one more stands behind the others.
names_behind : {A : Type 0} (f : A → Protocol) (xs : List A) (x : A) → names_of_protocols (map f (xs ++ x ∷ [])) ≡ names_of_protocols (map f xs) ++ (f x).name ∷ []
names_behind f [] x = refl
names_behind f (y ∷ ys) x = ap (λ (ns : List (List ℕ)). (f y).name ∷ ns) (names_behind f ys x)

pub names_more : {A : Type 0} (f : A → Protocol) (xs all : List A) (x : A) (old new : List (List ℕ)) (name : List ℕ) → old ≡ names_of_protocols (map f xs) →
    new ≡ old ++ name ∷ [] → name ≡ (f x).name → all ≡ xs ++ x ∷ [] → new ≡ names_of_protocols (map f all)
names_more f xs all x old new name same put is e =
    put ∙ ap (λ (ns : List (List ℕ)). ns ++ name ∷ []) same ∙ ap (λ (n : List ℕ). names_of_protocols (map f xs) ++ n ∷ []) is
    ∙ sym (names_behind f xs x) ∙ sym (ap (λ ys. names_of_protocols (map f ys)) e)
