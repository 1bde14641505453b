-- The forms of the program, level by level.
use Rattle.std.proofs.Common.{◌≡◌, ℕ, List, [], ◌∷◌, map, Vec, Global, Some, None, refl, sym, ap, ◌∙◌, subst, rules}
use Rattle.std.proofs.lemmas.Option.{same_Some}
use Rattle.cp_base.specs.declared.place.Place.{Place}
use Rattle.cp_sexpr.specs.Syntax.{Form, symbol, string, number, list, Forms, none, more, forms_of}
use Rattle.cp_sexpr.specs.View.{view, views}
use Rattle.cp_sexpr.specs.declared.form.Form as program
use Rattle.cp_sexpr.specs.declared.form.Form.{the_lemmas}
use Rattle.cp_language.specs.Faults.{items_of, place_of}
use Rattle.cp_language.specs.Roles.{Headed, headed, list_items}
use Rattle.cp_scope.specs.Forms.{symbol_in}

pub view-List : (at : Place) (v : Vec program.Form Global) → view (program.List at v) ≡ list at (views v.items)
view-List at v = search (rules, the_lemmas)

pub items_of-forms_of : (fs : List Form) → items_of (forms_of fs) ≡ fs
items_of-forms_of [] = refl
items_of-forms_of (f ∷ fs) = ap (λ gs. f ∷ gs) (items_of-forms_of fs)

pub forms_of-items_of : (fs : Forms) → forms_of (items_of fs) ≡ fs
forms_of-items_of none = refl
forms_of-items_of (more f fs) = ap (more f) (forms_of-items_of fs)

pub symbol_is : (f : Form) (t : List ℕ) → symbol_in f ≡ Some t → f ≡ symbol (place_of f) t
symbol_is (symbol at s) t e = ap (symbol at) (same_Some s t e)
symbol_is (string at s) t e = absurd (cc)
symbol_is (number at n) t e = absurd (cc)
symbol_is (list at fs) t e = absurd (cc)

pub headed-symbol : (at : Place) (f : Form) (t : List ℕ) (items : List Form) → symbol_in f ≡ Some t
    → headed (list at (more f (forms_of items))) ≡ Some (record { at = at; head = t; items = items })
headed-symbol at f t items e = rw (symbol_is f t e, items_of-forms_of items)

-- a list that begins with no symbol has no head
pub headed-none : (at : Place) (f : Form) (fs : Forms) → symbol_in f ≡ None → headed (list at (more f fs)) ≡ None
headed-none at (symbol p t) fs e = absurd (cc)
headed-none at (string p t) fs e = refl
headed-none at (number p n) fs e = refl
headed-none at (list p gs) fs e = refl

-- a list whose first item is this form
pub view-list : (f first : program.Form) (at : Place) (v : Vec program.Form Global) (items : List program.Form)
    → f ≡ program.List at v → v.items ≡ first ∷ items → view f ≡ list at (more (view first) (views items))
view-list f first at v items e g = ap view e ∙ view-List at v ∙ ap (λ fs. list at (views fs)) g

pub headed-view : (f first : program.Form) (at : Place) (v : Vec program.Form Global) (t : List ℕ) (items : List program.Form)
    → f ≡ program.List at v → v.items ≡ first ∷ items → Some t ≡ symbol_in (view first)
    → Some (record { at = at; head = t; items = map view items }) ≡ headed (view f)
headed-view f first at v t items e g h = sym (ap headed (view-list f first at v items e g) ∙ headed-symbol at (view first) t (map view items) (sym h))

pub list_items-view : (f : program.Form) (at : Place) (v : Vec program.Form Global) (items : List program.Form)
    → f ≡ program.List at v → items ≡ v.items → map view items ≡ list_items (view f)
list_items-view f at v items e g = ap (map view) g ∙ sym (ap list_items (ap view e ∙ view-List at v) ∙ items_of-forms_of (map view v.items))

-- The form is a list with this head.
pub record IsHeaded (f : Form) (h : Headed) : Type 0 where
  pub head_at : Place
  pub whole : f ≡ list h.at (more (symbol head_at h.head) (forms_of h.items))

headed_list : (at p : Place) (t : List ℕ) (fs : Forms) (h : Headed) → Some (record { at = at; head = t; items = items_of fs }) ≡ Some h → IsHeaded (list at (more (symbol p t) fs)) h
headed_list at p t fs h e =
    let P : Headed → Type 0 = λ k. IsHeaded (list at (more (symbol p t) fs)) k in
    subst P (same_Some (record { at = at; head = t; items = items_of fs }) h e) (record { head_at = p; whole = ap (λ gs. list at (more (symbol p t) gs)) (sym (forms_of-items_of fs)) })

pub headed_is : (f : Form) (h : Headed) → headed f ≡ Some h → IsHeaded f h
headed_is (symbol at t) h e = absurd (cc)
headed_is (string at t) h e = absurd (cc)
headed_is (number at n) h e = absurd (cc)
headed_is (list at none) h e = absurd (cc)
headed_is (list at (more (symbol p t) fs)) h e = headed_list at p t fs h e
headed_is (list at (more (string p t) fs)) h e = absurd (cc)
headed_is (list at (more (number p n) fs)) h e = absurd (cc)
headed_is (list at (more (list p gs) fs)) h e = absurd (cc)
