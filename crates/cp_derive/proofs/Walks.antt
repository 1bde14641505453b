-- The walk to the first component that cannot be derived.
use Rattle.std.proofs.Common.{List, [], ◌∷◌, ◌++◌, Option, Some, None, ◌≡◌, inl, inr, refl, sym, subst, ap, ◌∙◌, append_assoc}
use Rattle.std.proofs.lemmas.List.{append-nil, map-append}
use Rattle.cp_lists.proofs.Members.{in_append}
use Rattle.cp_lists.specs.Lists.{IsIn, here, there}
use Rattle.cp_model.specs.Term.{Term, tag_term, atom_term, pair_term, enc_term}
use Rattle.cp_model.specs.Positions.{term_at}
use Rattle.cp_model.specs.declared.step.Step.{Step}
use Rattle.cp_model.specs.declared.step.Step.TheVariants.{Left, Right}
use Rattle.cp_derive.specs.From.{paired, left_of, right_of}
use Rattle.cp_derive.specs.Given.{Given, IsDerivable}
use Rattle.cp_derive.specs.Components.{Component, components_below, components_of, IsFirstUnderivable}
use Rattle.cp_derive.specs.Walk.{IsNoPairTerm, LeadsToFirst, at_itself, to_left, to_right, WalksTo, FindsComponent}
use Rattle.std.specs.Borrow.{Bor}
use Rattle.cp_derive.specs.Forms.{HasForm}
use Rattle.cp_derive.specs.declared.form.Form.{Form}
use Rattle.cp_derive.specs.declared.form.Form.TheVariants.{Tag, Atom, Pair, Encryption}

-- Where a component cannot be derived, the whole cannot.
pub first_underivable : (g : Given) (c t : Term) (path : List Step) → LeadsToFirst g c t path → IsDerivable g t → ⊥
first_underivable g c _ _ (at_itself plain none) d = none d
first_underivable g c _ _ (to_left l) d = first_underivable g c _ _ l (left_of d)
first_underivable g c _ _ (to_right _ l) d = first_underivable g c _ _ l (right_of d)

-- It stands at its path.
pub first_place : (g : Given) (c t : Term) (path : List Step) → LeadsToFirst g c t path → term_at t path ≡ Some c
first_place g c _ _ (at_itself plain none) = refl
first_place g c _ _ (to_left l) = first_place g c _ _ l
first_place g c _ _ (to_right _ l) = first_place g c _ _ l

alone : (t : Term) → IsNoPairTerm t → components_of t ≡ record { path = []; term = t } ∷ []
alone (tag_term bytes) h = refl
alone (atom_term a) h = refl
alone (pair_term a b) h = absurd h
alone (enc_term a k) h = refl

-- A component below a step is one with the same term.
in_below : (g : Given) (s : Step) (cs : List Component) → ((d : Component) → IsIn d cs → IsDerivable g d.term) → (d : Component) → IsIn d (components_below s cs) → IsDerivable g d.term
in_below g s (c ∷ cs) all _ here = all c here
in_below g s (c ∷ cs) all d (there h) = in_below g s cs (λ e i. all e (there i)) d h
in_below g s [] all d h = elim h [ ]

in_both : (g : Given) (xs ys : List Component) → ((d : Component) → IsIn d xs → IsDerivable g d.term) → ((d : Component) → IsIn d ys → IsDerivable g d.term) →
    (d : Component) → IsIn d (xs ++ ys) → IsDerivable g d.term
in_both g xs ys first second d h = elim (in_append xs ys h) [ inl i ↦ first d i | inr i ↦ second d i ]

in_one : (g : Given) (c : Component) → IsDerivable g c.term → (d : Component) → IsIn d (c ∷ []) → IsDerivable g d.term
in_one g c h _ here = h
in_one g c h d (there i) = elim i [ ]

-- The components of a derivable term are derivable.
components_derivable : (g : Given) (t : Term) → IsDerivable g t → (d : Component) → IsIn d (components_of t) → IsDerivable g d.term
components_derivable g (tag_term bytes) h = in_one g (record { path = []; term = tag_term bytes }) h
components_derivable g (atom_term a) h = in_one g (record { path = []; term = atom_term a }) h
components_derivable g (pair_term a b) h =
    in_both g (components_below Left (components_of a)) (components_below Right (components_of b)) (in_below g Left (components_of a) (components_derivable g a (left_of h)))
    (in_below g Right (components_of b) (components_derivable g b (right_of h)))
components_derivable g (enc_term a k) h = in_one g (record { path = []; term = enc_term a k }) h

below_parts : (s : Step) (before after : List Component) (path : List Step) (c : Term) →
    components_below s (before ++ (record { path = path; term = c } ∷ after)) ≡ components_below s before ++ (record { path = s ∷ path; term = c } ∷ components_below s after)
below_parts s before after path c = map-append (λ d. record { path = s ∷ d.path; term = d.term }) before (record { path = path; term = c } ∷ after)

pub first_listed : (g : Given) (c t : Term) (path : List Step) → LeadsToFirst g c t path → IsFirstUnderivable (IsDerivable g) t path c
first_listed g c _ _ (at_itself plain none) = record { before = []; after = []; among = alone c plain; underivable = none; derivable = λ d h. elim h [ ] }
first_listed g c _ _ (to_left {a} {b} {path} l) =
    let f = first_listed g c a path l in
    record {
      before = components_below Left f.before;
      after = components_below Left f.after ++ components_below Right (components_of b);
      among =
          ap (λ cs. cs ++ components_below Right (components_of b)) (ap (components_below Left) f.among ∙ below_parts Left f.before f.after path c)
          ∙ append_assoc (components_below Left f.before) (record { path = Left ∷ path; term = c } ∷ components_below Left f.after) (components_below Right (components_of b));
      underivable = f.underivable;
      derivable = in_below g Left f.before f.derivable;
    }
first_listed g c _ _ (to_right {a} {b} {path} h l) =
    let f = first_listed g c b path l in
    record {
      before = components_below Left (components_of a) ++ components_below Right f.before;
      after = components_below Right f.after;
      among =
          ap (λ cs. components_below Left (components_of a) ++ cs) (ap (components_below Right) f.among ∙ below_parts Right f.before f.after path c)
          ∙ sym (append_assoc (components_below Left (components_of a)) (components_below Right f.before) (record { path = Right ∷ path; term = c } ∷ components_below Right f.after));
      underivable = f.underivable;
      derivable = in_both g (components_below Left (components_of a)) (components_below Right f.before) (in_below g Left (components_of a) (components_derivable g a h)) (in_below g Right f.before f.derivable);
    }

-- What leads on from the rest leads on from the whole.
abbrev pub LeadsUp : Given → Term → List Step → Term → List Step → Type 0
LeadsUp g whole start rest h = (c : Term) (path : List Step) → LeadsToFirst g c rest path → WalksTo g whole start (h ++ path) c

module _ (g : Given) (whole rest : Term) (start h : List Step) (up : LeadsUp g whole start rest h) where
  pub found_here : IsNoPairTerm rest → (IsDerivable g rest → ⊥) → WalksTo g whole start h rest
  found_here plain none = subst (λ p. WalksTo g whole start p rest) (append-nil h) (up rest [] (at_itself plain none))

  pub found_left : (a b c : Term) (to left : List Step) → rest ≡ pair_term a b → left ≡ h ++ (Left ∷ []) → WalksTo g a left to c → WalksTo g whole start to c
  found_left a b c to left e l on =
      let path : to ≡ h ++ (Left ∷ on.path) = on.behind ∙ ap (λ p. p ++ on.path) l ∙ append_assoc h (Left ∷ []) on.path in
      subst (λ p. WalksTo g whole start p c) (sym path) (up c (Left ∷ on.path) (subst (λ t. LeadsToFirst g c t (Left ∷ on.path)) (sym e) (to_left on.leads)))

  pub go_right : (a b : Term) (right : List Step) → rest ≡ pair_term a b → IsDerivable g a → right ≡ h ++ (Right ∷ []) → LeadsUp g whole start b right
  go_right a b right e d r c path l =
      let same : right ++ path ≡ h ++ (Right ∷ path) = ap (λ p. p ++ path) r ∙ append_assoc h (Right ∷ []) path in
      subst (λ p. WalksTo g whole start p c) (sym same) (up c (Right ∷ path) (subst (λ t. LeadsToFirst g c t (Right ∷ path)) (sym e) (to_right d l)))

pub pair_derivable : (g : Given) (whole rest a b : Term) → rest ≡ pair_term a b → (IsDerivable g rest → IsDerivable g whole) → IsDerivable g a → IsDerivable g b → IsDerivable g whole
pair_derivable g whole rest a b e up first second = up (subst (IsDerivable g) (sym e) (paired first second))

pub leads_from_start : (g : Given) (whole c : Term) (from to : List Step) → from ≡ [] → WalksTo g whole from to c → LeadsToFirst g c whole to
leads_from_start g whole c from to e on = subst (LeadsToFirst g c whole) (sym (on.behind ∙ ap (λ p. p ++ on.path) e)) on.leads

pub found_some : (g : Given) (whole : Term) (from to : List Step) (o : Option Term) (c : Term) → o ≡ Some c → FindsComponent g whole from to o → WalksTo g whole from to c
found_some g whole from to o c e h = subst (FindsComponent g whole from to) e h

pub found_none : (g : Given) (whole : Term) (from to : List Step) (o : Option Term) → ((c : Term) → o ≡ Some c → ⊥) → FindsComponent g whole from to o → (to ≡ from) × IsDerivable g whole
found_none g whole from to None other h = h
found_none g whole from to (Some c) other h = absurd (other c refl)

pub plain_form : (f : Form) (t : Term) → HasForm f t → ((l r : Bor Term) → f ≡ Pair l r → ⊥) → IsNoPairTerm t
plain_form Tag t h other = subst IsNoPairTerm (sym h.1) tt
plain_form Atom t h other = subst IsNoPairTerm (sym h.1) tt
plain_form (Pair l r) t h other = absurd (other l r refl)
plain_form (Encryption b k) t h other = subst IsNoPairTerm (sym h.2) tt
