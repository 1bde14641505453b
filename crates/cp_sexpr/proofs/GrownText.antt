-- A text that was appended part by part to a list that is being made.
use Rattle.std.proofs.Common.{◌≡◌, ℕ, Bool, true, false, List, [], ◌∷◌, ◌++◌, ◌≤◌, length, drop, arith, sym, ap, ◌∙◌, subst, append_assoc, Result, Ok, Err}
use Rattle.std.specs.Result.{OnOk, OnErr}
use Rattle.cp_base.specs.Growing.{Growth, growth, Grows}
use Rattle.cp_base.proofs.Grown.{grows_then}
use Rattle.std.proofs.lemmas.List.{append-nil, drop_all}
use Rattle.cp_sexpr.specs.Pieces.{open_parenthesis, close_parenthesis}
use Rattle.cp_sexpr.specs.ListSpelling.{next_by, list_spelling}
use Rattle.cp_sexpr.specs.Spelling.{AppendsFront}
use Rattle.cp_sexpr.specs.View.{views}
use Rattle.cp_sexpr.specs.declared.form.Form as program

-- what was put back is all of the text
pub all_put_back : {X E : Type 0} (r : Result X E) (old new text : List ℕ) (taken made : Growth ℕ) → taken ≡ growth old false → Grows taken made text → new ≡ made.items → OnOk r (made.ran_out ≡ false) → OnOk r (new ≡ old ++ text)
all_put_back (Ok x) old new text taken made t g e h = e ∙ (g.whole h).1 ∙ ap (λ x. x.items ++ text) t
all_put_back (Err x) old new text taken made t g e h = tt

-- or a front of it
pub front_put_back : {X E : Type 0} (r : Result X E) (old new text : List ℕ) (taken made : Growth ℕ) → taken ≡ growth old false → Grows taken made text → new ≡ made.items → OnErr r (AppendsFront old new text)
front_put_back (Ok x) old new text taken made t g e = tt
front_put_back (Err x) old new text taken made t g e = (g.part.0, g.part.1, g.part.2, e ∙ g.part.3 ∙ ap (λ x. x.items ++ g.part.0) t)

-- three parts
pub three_parts : (a b c d : Growth ℕ) (xs ys zs text : List ℕ) → Grows a b xs → Grows b c ys → Grows c d zs → text ≡ xs ++ (ys ++ zs) → Grows a d text
three_parts a b c d xs ys zs text f g h e = subst (Grows a d) (sym e) (grows_then a b d xs (ys ++ zs) f (grows_then b c d ys zs g h))

-- ---- a list in parentheses

-- its items behind the opening parenthesis: what was appended, and what is left
abbrev pub ListLeaves : (old now : Growth ℕ) → List ℕ → List ℕ → Type 0
ListLeaves old now items rest = (done : List ℕ) × (Grows old now (open_parenthesis ∷ done)) × (items ≡ done ++ rest)

pub list_begins : (a b c : Growth ℕ) (first rest items : List ℕ) → Grows a b (open_parenthesis ∷ []) → Grows b c first → items ≡ first ++ rest → ListLeaves a c items rest
list_begins a b c first rest items g h e = (first, grows_then a b c (open_parenthesis ∷ []) first g h, e)

pub list_goes_on : (a b c d : Growth ℕ) (gap item before rest items : List ℕ) → ListLeaves a b items before → before ≡ gap ++ (item ++ rest) → Grows b c gap → Grows c d item → ListLeaves a d items rest
list_goes_on a b c d gap item before rest items l e g h = (
  l.0 ++ (gap ++ item),
  grows_then a b d (open_parenthesis ∷ l.0) (gap ++ item) l.1 (grows_then b c d gap item g h),
  l.2 ∙ ap (λ t. l.0 ++ t) (e ∙ sym (append_assoc gap item rest)) ∙ sym (append_assoc l.0 (gap ++ item) rest),
)

pub list_ends : (a b m c : Growth ℕ) (items rest : List ℕ) → ListLeaves a b items rest → rest ≡ [] → m ≡ b → Grows m c (close_parenthesis ∷ []) → Grows a c (open_parenthesis ∷ (items ++ close_parenthesis ∷ []))
list_ends a b m c items rest l e i h =
    let g = subst (λ x. Grows x c (close_parenthesis ∷ [])) i h in
    subst (λ t. Grows a c (open_parenthesis ∷ (t ++ close_parenthesis ∷ []))) (sym (l.2 ∙ ap (λ t. l.0 ++ t) e ∙ append-nil l.0)) (grows_then a b c (open_parenthesis ∷ l.0) (close_parenthesis ∷ []) l.1 g)

pub empty_list : (top : Bool) (a b m c : Growth ℕ) (items : List program.Form) → length items ≡ 0 → Grows a b (open_parenthesis ∷ []) → m ≡ b → Grows m c (close_parenthesis ∷ []) → Grows a c (list_spelling top (views items))
empty_list true a b m c [] e g i h = grows_then a b c (open_parenthesis ∷ []) (close_parenthesis ∷ []) g (subst (λ x. Grows x c (close_parenthesis ∷ [])) i h)
empty_list false a b m c [] e g i h = grows_then a b c (open_parenthesis ∷ []) (close_parenthesis ∷ []) g (subst (λ x. Grows x c (close_parenthesis ∷ [])) i h)
empty_list top a b m c (f ∷ fs) e g i h = absurd (omega arith)

pub none_left : (top : Bool) (items : List program.Form) (i : ℕ) → length items ≤ i → next_by top (views (drop i items)) ≡ []
none_left true items i h = ap (λ fs. next_by true (views fs)) (drop_all i items h)
none_left false items i h = ap (λ fs. next_by false (views fs)) (drop_all i items h)
