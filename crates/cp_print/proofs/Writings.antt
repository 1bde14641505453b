-- Top forms that are written one after another.
use Rattle.std.proofs.Common.{◌≡◌, ℕ, ◌+◌, List, [], ◌∷◌, ◌++◌, length, refl, sym, ap, ap₂, ◌∙◌, arith, length-append, subst, append_assoc}
use Rattle.std.proofs.lemmas.List.{append-nil}
use Rattle.cp_sexpr.specs.Syntax.{Form}
use Rattle.cp_sexpr.specs.Spelling.{top_spelling, AppendsFront}
use Rattle.cp_language.specs.Report.{text_of_forms}
use Rattle.cp_print.specs.WrittenForms.{ends_from, HasAppendedForms, Leaves}

pub text-append : (fs gs : List Form) → text_of_forms (fs ++ gs) ≡ text_of_forms fs ++ text_of_forms gs
text-append [] gs = refl
text-append (f ∷ fs) gs = ap (λ t. top_spelling f ++ t) (text-append fs gs) ∙ sym (append_assoc (top_spelling f) (text_of_forms fs) (text_of_forms gs))

ends-append : (n : ℕ) (fs gs : List Form) → ends_from n (fs ++ gs) ≡ ends_from n fs ++ ends_from (n + length (text_of_forms fs)) gs
ends-append n [] gs = ap (λ m. ends_from m gs) (let h : n ≡ n + 0 = omega arith in h)
ends-append n (f ∷ fs) gs =
    let m = n + length (top_spelling f) in
    let long = length-append (top_spelling f) (text_of_forms fs) in
    let at : m + length (text_of_forms fs) ≡ n + length (top_spelling f ++ text_of_forms fs) = omega arith in
    ap (λ es. m ∷ es) (ends-append m fs gs ∙ ap (λ k. ends_from m fs ++ ends_from k gs) at)

pub written_none : (text ends : List ℕ) → HasAppendedForms text ends text ends []
written_none text ends = record { text_grew = sym (append-nil text); ends_grew = sym (append-nil ends) }

pub written_two : (a ea b eb c ec : List ℕ) (fs gs : List Form) → HasAppendedForms a ea b eb fs → HasAppendedForms b eb c ec gs → HasAppendedForms a ea c ec (fs ++ gs)
written_two a ea b eb c ec fs gs h i = record {
  text_grew = i.text_grew ∙ ap (λ t. t ++ text_of_forms gs) h.text_grew ∙ append_assoc a (text_of_forms fs) (text_of_forms gs) ∙ ap (λ t. a ++ t) (sym (text-append fs gs));
  ends_grew =
      let at : length b ≡ length a + length (text_of_forms fs) = ap length h.text_grew ∙ length-append a (text_of_forms fs) in
      i.ends_grew ∙ ap₂ (λ es n. es ++ ends_from n gs) h.ends_grew at ∙ append_assoc ea (ends_from (length a) fs) (ends_from (length a + length (text_of_forms fs)) gs)
      ∙ ap (λ es. ea ++ es) (sym (ends-append (length a) fs gs));
}

pub front_none : (a t : List ℕ) → AppendsFront a a t
front_none a t = ([], t, refl, sym (append-nil a))

pub front_first : (a b : List ℕ) (fs gs : List Form) → AppendsFront a b (text_of_forms fs) → AppendsFront a b (text_of_forms (fs ++ gs))
front_first a b fs gs h = (h.0, h.1 ++ text_of_forms gs, text-append fs gs ∙ ap (λ t. t ++ text_of_forms gs) h.2 ∙ append_assoc h.0 h.1 (text_of_forms gs), h.3)

pub front_then : (a ea b eb c : List ℕ) (fs gs : List Form) → HasAppendedForms a ea b eb fs → AppendsFront b c (text_of_forms gs) → AppendsFront a c (text_of_forms (fs ++ gs))
front_then a ea b eb c fs gs h i = (
  text_of_forms fs ++ i.0,
  i.1,
  text-append fs gs ∙ ap (λ t. text_of_forms fs ++ t) i.2 ∙ sym (append_assoc (text_of_forms fs) i.0 i.1),
  i.3 ∙ ap (λ t. t ++ i.0) h.text_grew ∙ append_assoc a (text_of_forms fs) i.0,
)

-- written, and then a failure with nothing more
pub front_written : (a ea b eb : List ℕ) (fs gs : List Form) → HasAppendedForms a ea b eb fs → AppendsFront a b (text_of_forms (fs ++ gs))
front_written a ea b eb fs gs h = front_then a ea b eb b fs gs h (front_none b (text_of_forms gs))

-- ---- what is left

pub leaves_all : (a ea : List ℕ) (whole : List Form) → Leaves a ea a ea whole whole
leaves_all a ea whole = record { done = []; split = refl; written = written_none a ea }

pub leaves_more : (a ea b eb c ec : List ℕ) (whole fs before rest : List Form) → Leaves a ea b eb whole before → before ≡ fs ++ rest → HasAppendedForms b eb c ec fs → Leaves a ea c ec whole rest
leaves_more a ea b eb c ec whole fs before rest l e h = record {
  done = l.done ++ fs;
  split = l.split ∙ ap (λ gs. l.done ++ gs) e ∙ sym (append_assoc l.done fs rest);
  written = written_two a ea b eb c ec l.done fs l.written h;
}

pub leaves_front : (a ea b eb c : List ℕ) (whole fs before rest : List Form) → Leaves a ea b eb whole before → before ≡ fs ++ rest → AppendsFront b c (text_of_forms fs) → AppendsFront a c (text_of_forms whole)
leaves_front a ea b eb c whole fs before rest l e h =
    subst (λ (gs : List Form). AppendsFront a c (text_of_forms gs)) (sym (l.split ∙ ap (λ gs. l.done ++ gs) e)) (front_then a ea b eb c l.done (fs ++ rest) l.written (front_first b c fs rest h))

pub leaves_stop : (a ea b eb : List ℕ) (whole before : List Form) → Leaves a ea b eb whole before → AppendsFront a b (text_of_forms whole)
leaves_stop a ea b eb whole before l = subst (λ (gs : List Form). AppendsFront a b (text_of_forms gs)) (sym l.split) (front_written a ea b eb l.done before l.written)

-- the same is left, in other words
pub leaves_same : (a ea b eb : List ℕ) (whole before rest : List Form) → Leaves a ea b eb whole before → before ≡ rest → Leaves a ea b eb whole rest
leaves_same a ea b eb whole before rest l e = subst (λ (gs : List Form). Leaves a ea b eb whole gs) e l

pub leaves_none : (a ea b eb : List ℕ) (whole before : List Form) → Leaves a ea b eb whole before → before ≡ [] → HasAppendedForms a ea b eb whole
leaves_none a ea b eb whole before l e = subst (λ (gs : List Form). HasAppendedForms a ea b eb gs) (sym (l.split ∙ ap (λ gs. l.done ++ gs) e ∙ append-nil l.done)) l.written

-- ---- one top form

pub written_one : (a ea b eb : List ℕ) (f : Form) → b ≡ a ++ top_spelling f → eb ≡ ea ++ length b ∷ [] → HasAppendedForms a ea b eb (f ∷ [])
written_one a ea b eb f e g = record {
  text_grew = e ∙ ap (λ t. a ++ t) (sym (append-nil (top_spelling f)));
  ends_grew = g ∙ ap (λ n. ea ++ n ∷ []) (ap length e ∙ length-append a (top_spelling f));
}

pub front_one : (a b : List ℕ) (f : Form) → AppendsFront a b (top_spelling f) → AppendsFront a b (text_of_forms (f ∷ []))
front_one a b f h = (h.0, h.1, append-nil (top_spelling f) ∙ h.2, h.3)

pub front_whole : (a b : List ℕ) (f : Form) → b ≡ a ++ top_spelling f → AppendsFront a b (text_of_forms (f ∷ []))
front_whole a b f e = (top_spelling f, [], refl, e)

-- ---- the same where the whole is equal to its parts

module _ (a ea b eb : List ℕ) (fs gs whole : List Form) (e : whole ≡ fs ++ gs) where
  pub written_both : (c ec : List ℕ) → HasAppendedForms a ea b eb fs → HasAppendedForms b eb c ec gs → HasAppendedForms a ea c ec whole
  written_both c ec h i = subst (λ (hs : List Form). HasAppendedForms a ea c ec hs) (sym e) (written_two a ea b eb c ec fs gs h i)

  pub first_failed : AppendsFront a b (text_of_forms fs) → AppendsFront a b (text_of_forms whole)
  first_failed h = subst (λ (hs : List Form). AppendsFront a b (text_of_forms hs)) (sym e) (front_first a b fs gs h)

  pub second_failed : (c : List ℕ) → HasAppendedForms a ea b eb fs → AppendsFront b c (text_of_forms gs) → AppendsFront a c (text_of_forms whole)
  second_failed c h i = subst (λ (hs : List Form). AppendsFront a c (text_of_forms hs)) (sym e) (front_then a ea b eb c fs gs h i)
