-- Lists that grow step by step.
use Rattle.std.proofs.Common.{◌≡◌, Bool, true, false, List, [], ◌++◌, map, refl, sym, ap, ◌∙◌, append_assoc}
use Rattle.std.proofs.lemmas.List.{append-nil, map-append}
use Rattle.cp_base.specs.Growing.{Growth, growth, Grows, seen}

true_is_not_false : true ≡ false → ⊥
true_is_not_false h = cc

module _ {T : Type 0} where
  pub grows_by_none : (old : Growth T) → Grows old old []
  grows_by_none old = record {
    whole = λ h. (h, sym (append-nil old.items));
    part = ([], [], refl, sym (append-nil old.items));
    still = λ h. refl;
  }

  -- what memory had run out on before does not change
  pub grows_still : (old : Growth T) (items : List T) → old.ran_out ≡ true → Grows old old items
  grows_still old items h = record {
    whole = λ n. absurd (true_is_not_false (sym h ∙ n));
    part = ([], items, refl, sym (append-nil old.items));
    still = λ h. refl;
  }

  -- all was appended
  pub grows_whole : (old items new : List T) → new ≡ old ++ items → Grows (growth old false) (growth new false) items
  grows_whole old items new e = record {
    whole = λ h. (refl, e);
    part = (items, [], sym (append-nil items), e);
    still = λ h. absurd (true_is_not_false (sym h));
  }

  -- nothing was, for want of memory
  pub grows_failed : (old items new : List T) → new ≡ old → Grows (growth old false) (growth new true) items
  grows_failed old items new e = record {
    whole = λ h. absurd (true_is_not_false h);
    part = ([], items, refl, e ∙ sym (append-nil old));
    still = λ h. absurd (true_is_not_false (sym h));
  }

  -- memory ran out now, or before
  pub grows_not : (old : Growth T) (items : List T) → Grows old (growth old.items true) items
  grows_not old items = record {
    whole = λ h. absurd (true_is_not_false h);
    part = ([], items, refl, sym (append-nil old.items));
    still = λ h. ap (λ r. growth old.items r) (sym h);
  }

  -- by these items, and then by those
  pub grows_then : (a b c : Growth T) (xs ys : List T) → Grows a b xs → Grows b c ys → Grows a c (xs ++ ys)
  grows_then a b c xs ys g h = record {
    whole = λ n. (
      (g.whole (h.whole n).0).0,
      (h.whole n).1 ∙ ap (λ zs. zs ++ ys) (g.whole (h.whole n).0).1 ∙ append_assoc a.items xs ys,
    );
    part = part_by b.ran_out refl;
    still = λ r. let e = g.still r in h.still (ap (λ x. x.ran_out) e ∙ r) ∙ e;
  }
    where
      part_by : (ran_out : Bool) → b.ran_out ≡ ran_out → (front back : List T) × (xs ++ ys ≡ front ++ back) × (c.items ≡ a.items ++ front)
      part_by false e = (
        xs ++ h.part.0,
        h.part.1,
        ap (λ zs. xs ++ zs) h.part.2 ∙ sym (append_assoc xs h.part.0 h.part.1),
        h.part.3 ∙ ap (λ zs. zs ++ h.part.0) (g.whole e).1 ∙ append_assoc a.items xs h.part.0,
      )
      part_by true e = (
        g.part.0,
        g.part.1 ++ ys,
        ap (λ zs. zs ++ ys) g.part.2 ∙ append_assoc g.part.0 g.part.1 ys,
        ap (λ x. x.items) (h.still e) ∙ g.part.3,
      )

  -- a list that is new holds what it grew by
  pub new_holds : (old new : Growth T) (items : List T) → old ≡ growth [] false → Grows old new items → new.ran_out ≡ false → new.items ≡ items
  new_holds old new items e g h = (g.whole h).1 ∙ ap (λ x. x.items ++ items) e

pub grows_seen : {A B : Type 0} (f : A → B) (old new : Growth A) (items : List A) → Grows old new items → Grows (seen f old) (seen f new) (map f items)
grows_seen f old new items g = record {
  whole = λ h. ((g.whole h).0, ap (λ xs. map f xs) (g.whole h).1 ∙ map-append f old.items items);
  part = (
    map f g.part.0,
    map f g.part.1,
    ap (λ xs. map f xs) g.part.2 ∙ map-append f g.part.0 g.part.1,
    ap (λ xs. map f xs) g.part.3 ∙ map-append f old.items g.part.0,
  );
  still = λ h. ap (λ x. seen f x) (g.still h);
}
