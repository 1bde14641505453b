-- Candidates are taken from labels one by one.
use Rattle.std.proofs.Common.{◌≡◌, ℕ, suc, ◌+◌, ◌<◌, List, [], ◌∷◌, ◌++◌, Bool, true, false, length, map, drop, get_or, Some, None, sym, ap, ◌∙◌, refl, arith}
use Rattle.std.proofs.lemmas.List.{append_assoc}
use Rattle.cp_lists.specs.Lists.{item_at}
use Rattle.cp_lists.proofs.Items.{item_there, item_of_read, drop_of_item}
use Rattle.cp_tree.specs.Candidates.{Candidate}
use Rattle.cp_search.specs.declared.made.Made.{Made}
use Rattle.cp_search.specs.declared.resolved.Resolved.{Resolved}
use Rattle.cp_search.specs.declared.resolved.Resolved.TheVariants as settled
use Rattle.cp_search.specs.Candidates.{is_open, if_open, open_from}

abbrev candidate_of : ℕ → Made → Candidate
candidate_of n m = record { number = n; skeleton = m.skeleton }

closed_one : (s : Resolved) (n : ℕ) (m : Made) (cs : List Candidate) → is_open s ≡ false → if_open s n m cs ≡ cs
closed_one (settled.Leaf None) n m cs e = absurd (cc)
closed_one (settled.Leaf (Some x)) n m cs e = refl
closed_one (settled.Generalised x) n m cs e = refl
closed_one (settled.Expanded x) n m cs e = refl

opened_one : (s : Resolved) (n : ℕ) (m : Made) (cs : List Candidate) → is_open s ≡ true → if_open s n m cs ≡ candidate_of n m ∷ cs
opened_one (settled.Leaf None) n m cs e = refl
opened_one (settled.Leaf (Some x)) n m cs e = absurd (cc)
opened_one (settled.Generalised x) n m cs e = absurd (cc)
opened_one (settled.Expanded x) n m cs e = absurd (cc)

module _ {B : Type 0} (f : Candidate → B) (ms : List Made) (ss : List Resolved) (k : ℕ) (all : List B) where
  abbrev pub AreTaken : List B → ℕ → Type 0
  AreTaken done n = done ++ map f (open_from n (drop n ms) (drop n ss)) ≡ all

  module _ (s : Resolved) (m : Made) (at : item_at ss k ≡ Some s) (of : item_at ms k ≡ Some m) where
    abbrev rest : List Candidate
    rest = open_from (k + 1) (drop (k + 1) ms) (drop (k + 1) ss)

    next : open_from k (drop k ms) (drop k ss) ≡ if_open s k m rest
    next =
        let on : suc k ≡ k + 1 = omega arith in
        ap (λ (xs : List Made). open_from k xs (drop k ss)) (drop_of_item ms k m of) ∙ (ap (λ (xs : List Resolved). open_from k (m ∷ drop (suc k) ms) xs) (drop_of_item ss k s at)
        ∙ ap (λ (n : ℕ). if_open s k m (open_from n (drop n ms) (drop n ss))) on)

    pub passed : is_open s ≡ false → (done : List B) → AreTaken done k → AreTaken done (k + 1)
    passed e done h = ap (λ (cs : List Candidate). done ++ map f cs) (sym (next ∙ closed_one s k m rest e)) ∙ h

    pub taken : is_open s ≡ true → (done new : List B) → new ≡ done ++ f (candidate_of k m) ∷ [] → AreTaken done k → AreTaken new (k + 1)
    taken e done new pushed h =
        ap (λ (xs : List B). xs ++ map f rest) pushed ∙ (append_assoc done (f (candidate_of k m) ∷ []) (map f rest)
        ∙ (ap (λ (cs : List Candidate). done ++ map f cs) (sym (next ∙ opened_one s k m rest e)) ∙ h))

module _ {B : Type 0} (f : Candidate → B) (ms : List Made) (ss : List Resolved) (k : ℕ) (all : List B) (s : Resolved) (l : k < length ss) (is : s ≡ get_or ss k s) (same : length ss ≡ length ms) (o : Bool) (o_is : o ≡ is_open s) where
  within : k < length ms
  within = omega (arith, l, same)

  pub passed_here : o ≡ false → (done : List B) → AreTaken f ms ss k all done k → AreTaken f ms ss k all done (k + 1)
  passed_here e done h = let m = item_there ms k within in passed f ms ss k all s m.0 (item_of_read ss k s l is) m.1 (sym o_is ∙ e) done h

  pub taken_here : (m : Made) → m ≡ get_or ms k m → o ≡ true → (done new : List B) → new ≡ done ++ f (candidate_of k m) ∷ [] → AreTaken f ms ss k all done k → AreTaken f ms ss k all new (k + 1)
  taken_here m m_is e done new pushed h = taken f ms ss k all s m (item_of_read ss k s l is) (item_of_read ms k m within m_is) (sym o_is ∙ e) done new pushed h

  -- Where what is taken does not depend on the label.
  pub counted_here : (b : B) → ((m : Made) → f (candidate_of k m) ≡ b) → o ≡ true → (done new : List B) → new ≡ done ++ b ∷ [] → AreTaken f ms ss k all done k → AreTaken f ms ss k all new (k + 1)
  counted_here b each e done new pushed h =
      let m = item_there ms k within in
      taken f ms ss k all s m.0 (item_of_read ss k s l is) m.1 (sym o_is ∙ e) done new (pushed ∙ ap (λ (x : B). done ++ x ∷ []) (sym (each m.0))) h
