-- What is known grows where all the last places are among the new ones.
use Rattle.std.proofs.Common.{ℕ, zero, suc, List, [], ◌∷◌, ◌++◌, Bool, true, false, if◌then◌else◌, ◌≡◌, ◌⊎◌, inl, inr, get_or, replicate, refl, sym, subst, ◌∙◌}
use Rattle.std.specs.Prelude.{set}
use Rattle.std.proofs.lemmas.Bool.Decides.{eqb_tells}
use Rattle.std.proofs.lemmas.List.{get_or-set_other}
use Rattle.cp_lists.proofs.Members.{in_cases, in_append, in_append_left, in_append_right, in_last, in_pushed}
use Rattle.cp_lists.specs.Lists.{IsIn, here, there}
use Rattle.cp_model.specs.declared.node.Node.{Node}
use Rattle.cp_model.specs.declared.node.OrderPair.{OrderPair}
use Rattle.cp_derive.specs.Transmissions.{Transmission}
use Rattle.cp_derive.specs.Before.{ArePlacesBefore}
use Rattle.cp_derive.specs.Places.{AreSamePlaces, flagged_places, are_flagged, unflagged_behind}

-- ---- flags

none_flagged : (n p : ℕ) → get_or (replicate n false) p false ≡ false
none_flagged zero zero = refl
none_flagged zero (suc p) = refl
none_flagged (suc n) zero = refl
none_flagged (suc n) (suc p) = none_flagged n p

-- a flag was there before, or is of one of the places
flagged_only : (ps : List ℕ) (flags : List Bool) (p : ℕ) → get_or (flagged_places ps flags) p false ≡ true → (get_or flags p false ≡ true) ⊎ IsIn p ps
flagged_only [] flags p h = inl h
flagged_only (q ∷ qs) flags p h =
    elim (flagged_only qs (set flags q true) p h) [
      | inl e ↦
          elim (eqb_tells q p) [ inl w ↦ inr (subst (λ x. IsIn x (q ∷ qs)) w.1 here) | inr w ↦ inl (sym (get_or-set_other flags q p true false (λ e. w.1 (sym e))) ∙ e) ]
      | inr i ↦ inr (there i)
    ]

flagged_in : (ps : List ℕ) (n p : ℕ) → get_or (flagged_places ps (replicate n false)) p false ≡ true → IsIn p ps
flagged_in ps n p h =
    elim (flagged_only ps (replicate n false) p h) [ inl e ↦ let none : get_or (replicate n false) p false ≡ false = none_flagged n p in absurd (cc) | inr i ↦ i ]

first_and_rest : (b c : Bool) → (if b then c else false) ≡ true → (b ≡ true) × (c ≡ true)
first_and_rest true c h = (refl, h)
first_and_rest false c h = absurd (cc)

all_flagged : (flags : List Bool) (ps : List ℕ) → are_flagged flags ps ≡ true → (p : ℕ) → IsIn p ps → get_or flags p false ≡ true
all_flagged flags [] h p i = elim i [ ]
all_flagged flags (q ∷ qs) h p i =
    let both = first_and_rest (get_or flags q false) (are_flagged flags qs) h in
    elim (in_cases i) [ inl e ↦ subst (λ x. get_or flags x false ≡ true) e both.0 | inr j ↦ all_flagged flags qs both.1 p j ]

-- ---- places without a flag

one_more : (b : Bool) (done : List ℕ) (q p : ℕ) → IsIn p (if b then done else done ++ (q ∷ [])) → IsIn p done ⊎ (q ≡ p)
one_more true done q p i = inl i
one_more false done q p i = in_pushed done q p i

one_kept : (b : Bool) (done : List ℕ) (q p : ℕ) → IsIn p done → IsIn p (if b then done else done ++ (q ∷ []))
one_kept true done q p i = i
one_kept false done q p i = in_append_left (q ∷ []) i

one_there : (b : Bool) (done : List ℕ) (q : ℕ) → IsIn q (if b then done else done ++ (q ∷ [])) ⊎ (b ≡ true)
one_there true done q = inr refl
one_there false done q = inl (in_last done q)

unflagged_kept : (done : List ℕ) (flags : List Bool) (ps : List ℕ) (p : ℕ) → IsIn p done → IsIn p (unflagged_behind done flags ps)
unflagged_kept done flags [] p i = i
unflagged_kept done flags (q ∷ qs) p i =
    unflagged_kept (if get_or flags q false then done else done ++ (q ∷ [])) flags qs p (one_kept (get_or flags q false) done q p i)

unflagged_only : (done : List ℕ) (flags : List Bool) (ps : List ℕ) (p : ℕ) → IsIn p (unflagged_behind done flags ps) → IsIn p done ⊎ IsIn p ps
unflagged_only done flags [] p i = inl i
unflagged_only done flags (q ∷ qs) p i =
    elim (unflagged_only (if get_or flags q false then done else done ++ (q ∷ [])) flags qs p i) [
      | inl j ↦ elim (one_more (get_or flags q false) done q p j) [ inl old ↦ inl old | inr e ↦ inr (subst (λ x. IsIn x (q ∷ qs)) e here) ]
      | inr j ↦ inr (there j)
    ]

unflagged_all : (done : List ℕ) (flags : List Bool) (ps : List ℕ) (p : ℕ) → IsIn p ps → IsIn p (unflagged_behind done flags ps) ⊎ (get_or flags p false ≡ true)
unflagged_all done flags [] p i = elim i [ ]
unflagged_all done flags (q ∷ qs) p i =
    let next : List ℕ = if get_or flags q false then done else done ++ (q ∷ []) in
    elim (in_cases i) [
      | inl e ↦
          elim (one_there (get_or flags q false) done q) [
            | inl j ↦ inl (unflagged_kept next flags qs p (subst (λ x. IsIn x next) e j))
            | inr m ↦ inr (subst (λ x. get_or flags x false ≡ true) e m)
          ]
      | inr j ↦ unflagged_all next flags qs p j
    ]

-- ---- together

-- Where all the last places are among these, they and those that they do not flag are these.
pub same_places : (n : ℕ) (last places more : List ℕ) (at before : List Bool) → at ≡ flagged_places places (replicate n false) → are_flagged at last ≡ true →
    before ≡ flagged_places last (replicate n false) → more ≡ unflagged_behind [] before places → AreSamePlaces places (last ++ more)
same_places n last places more at before there_is all flags rest p = (
  λ i.
      elim (unflagged_all [] before places p i) [
        | inl j ↦ in_append_right last (subst (IsIn p) (sym rest) j)
        | inr m ↦ in_append_left more (flagged_in last n p (subst (λ ms. get_or ms p false ≡ true) flags m))
      ],
  λ i.
      elim (in_append last more i) [
        | inl j ↦ flagged_in places n p (subst (λ ms. get_or ms p false ≡ true) there_is (all_flagged at last all p j))
        | inr j ↦ elim (unflagged_only [] before places p (subst (IsIn p) rest j)) [ inl none ↦ elim none [ ] | inr k ↦ k ]
      ],
)

-- The same places, in whatever order, come before.
pub same_before : (pairs : List OrderPair) (n : Node) (ts : List Transmission) (ps qs : List ℕ) → AreSamePlaces ps qs → ArePlacesBefore pairs n ts ps → ArePlacesBefore pairs n ts qs
same_before pairs n ts ps qs same h = record {
  each = λ p t at leads. (same p).0 (h.each p t at leads);
  only = λ p t at i. h.only p t at ((same p).1 i);
}
