-- How large forms are.
use Rattle.std.proofs.Common.{◌≡◌, ℕ, zero, suc, ◌+◌, ◌<◌, List, [], ◌∷◌, length, get_or, map, Some, ap, arith}
use Rattle.cp_sexpr.specs.Syntax.{Form, list, Forms, none, more, forms_of}
use Rattle.cp_sexpr.specs.View.{view}
use Rattle.cp_sexpr.specs.declared.form.Form as program
use Rattle.cp_language.specs.Roles.{Headed, headed}
use Rattle.cp_scope.proofs.Views.{headed_is}

abbrev mutual
  pub form_size : Form → ℕ
  form_size (list at fs) = 1 + all_size fs
  form_size f = 1

  pub all_size : Forms → ℕ
  all_size none = 1
  all_size (more f fs) = form_size f + (1 + all_size fs)

abbrev pub forms_size : List Form → ℕ
forms_size fs = all_size (forms_of fs)

-- the items of a list are smaller
pub headed_smaller : (f : Form) (h : Headed) → headed f ≡ Some h → forms_size h.items < form_size f
headed_smaller f h e =
    let size = ap form_size (headed_is f h e).whole in omega (arith, size)

-- an item is smaller than the list
pub item_smaller : (fs : List program.Form) (k : ℕ) (f : program.Form) → k < length fs → f ≡ get_or fs k f → form_size (view f) < forms_size (map view fs)
item_smaller [] k f h e = absurd (omega arith)
item_smaller (g ∷ fs) zero f h e = let size = ap (λ x. form_size (view x)) e in omega (arith, size)
item_smaller (g ∷ fs) (suc k) f h e = let inner = item_smaller fs k f (omega arith) e in omega (arith, inner)

-- so what stands in a list is smaller than the list
pub inside_smaller : (f : Form) (h : Headed) (fs : List program.Form) (k : ℕ) (g : program.Form) → headed f ≡ Some h → h.items ≡ map view fs → k < length fs → g ≡ get_or fs k g → form_size (view g) < form_size f
inside_smaller f h fs k g e same less read =
    let list = headed_smaller f h e in
    let items = ap forms_size same in
    let item = item_smaller fs k g less read in
    omega (arith, list, items, item)
