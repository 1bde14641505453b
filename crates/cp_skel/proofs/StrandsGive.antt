-- What the roles of strands give, strand by strand.
use Rattle.std.proofs.Common.{◌≡◌, ℕ, suc, ◌+◌, ◌<◌, List, [], ◌∷◌, ◌++◌, length, get_or, map, drop, refl, sym, ap, ap₂, ◌∙◌, add-one}
use Rattle.std.proofs.lemmas.List.{append-nil}
use Rattle.cp_lists.proofs.Members.{drop_read}
use Rattle.cp_model.specs.Term.{AtomTerm}
use Rattle.cp_model.specs.Skeleton.{SkeletonStrand, instance, listener, UniqueAt, Assumptions}
use Rattle.cp_model.specs.Given.{atoms_onto, uniques_onto, applying, applying_uniques, given_non, given_penetrator_non, given_uniques}
use Rattle.cp_model.specs.GivenAssumptions.{with_given_from}
use Rattle.cp_model.proofs.Gathered.{onto-append, atoms, uniques}
use Rattle.cp_skel.proofs.EachOnce.{put-next}
use Rattle.cp_strand.specs.declared.given.IndexedUnique.{IndexedUnique}
use Rattle.cp_strand.specs.declared.given.Given.{Given}
use Rattle.cp_strand.specs.Givens.{unique_on, IsGivenBy}
use Rattle.cp_skel.specs.JoinedAssumptions.{joined_assumptions, with_these}

-- ---- what is given to a strand

pub put-unique : (s : ℕ) (now new all : List UniqueAt) (us : List IndexedUnique) (n : ℕ) (u : IndexedUnique) (w : UniqueAt) → n < length us → u ≡ get_or us n u → w ≡ unique_on s u
    → new ≡ uniques_onto now (w ∷ []) → uniques_onto now (map (unique_on s) (drop n us)) ≡ all → uniques_onto new (map (unique_on s) (drop (n + 1) us)) ≡ all
put-unique s now new all us n u w lt is e put h =
    put-next uniques now new (map (unique_on s) (drop n us)) (map (unique_on s) (drop (n + 1) us)) all (unique_on s u) w (ap (map (unique_on s)) (drop_read us n u lt is)) e put h

-- A list with what is missing grows by what is given, wherever the list and what is given are read.
pub missing-grew : {A B : Type 0} (onto : List A → List B → List A) (own now more new : List A) (given read : List B)
    → now ≡ own → read ≡ given → now ++ new ≡ onto (now ++ more) read → own ++ new ≡ onto (own ++ more) given
missing-grew onto own now more new given read same is h = sym (ap (λ xs. xs ++ new) same) ∙ h ∙ ap₂ (λ xs gs. onto (xs ++ more) gs) same is

-- Behind assumptions that lack nothing stand no others.
pub none-missing : (a : Assumptions) → joined_assumptions a (record { non_originating = []; penetrator_non_originating = []; uniquely_originating = [] }) ≡ a
none-missing a = λ i. record {
  non_originating = append-nil a.non_originating i;
  penetrator_non_originating = append-nil a.penetrator_non_originating i;
  uniquely_originating = append-nil a.uniquely_originating i;
}

-- What is given to a strand is put behind the assumptions.
pub these-given : (s : ℕ) (k : SkeletonStrand) (g : Given) (own all : Assumptions) → IsGivenBy k g → all ≡ with_these s g own → all ≡ with_given_from s (k ∷ []) own
these-given s k g own all given e = e ∙ (λ i. record {
  non_originating = atoms_onto own.non_originating (given.non i);
  penetrator_non_originating = atoms_onto own.penetrator_non_originating (given.penetrator_non i);
  uniquely_originating = uniques_onto own.uniquely_originating (given.unique s i);
})

-- ---- strand by strand

split : (before xs ys : List AtomTerm) → atoms_onto before (xs ++ ys) ≡ atoms_onto (atoms_onto before (xs ++ [])) ys
split before xs ys = onto-append atoms before xs ys ∙ ap (λ zs. atoms_onto (atoms_onto before zs) ys) (sym (append-nil xs))

split_uniques : (before xs ys : List UniqueAt) → uniques_onto before (xs ++ ys) ≡ uniques_onto (uniques_onto before (xs ++ [])) ys
split_uniques before xs ys = onto-append uniques before xs ys ∙ ap (λ zs. uniques_onto (uniques_onto before zs) ys) (sym (append-nil xs))

given-step : (s : ℕ) (k : SkeletonStrand) (ks : List SkeletonStrand) (own : Assumptions)
    → with_given_from s (k ∷ ks) own ≡ with_given_from (suc s) ks (with_given_from s (k ∷ []) own)
given-step s (listener t) ks own = refl
given-step s (instance role height terms) ks own = λ i. record {
  non_originating = split own.non_originating (applying role height terms role.non_originating) (given_non ks) i;
  penetrator_non_originating = split own.penetrator_non_originating (applying role height terms role.penetrator_non_originating) (given_penetrator_non ks) i;
  uniquely_originating = split_uniques own.uniquely_originating (applying_uniques role height terms s role.uniquely_originating) (given_uniques (suc s) ks) i;
}

module _ (ks : List SkeletonStrand) (n : ℕ) (own new all : Assumptions) where
  pub strand-gives : (k : SkeletonStrand) → n < length ks → k ≡ get_or ks n k → new ≡ with_given_from n (k ∷ []) own
      → with_given_from n (drop n ks) own ≡ all → with_given_from (n + 1) (drop (n + 1) ks) new ≡ all
  strand-gives k lt is g h =
      let rest = (drop (n + 1) ks) in
      ap (λ m. with_given_from m rest new) (add-one n) ∙ ap (with_given_from (suc n) rest) g ∙ sym (given-step n k rest own)
      ∙ sym (ap (λ ls. with_given_from n ls own) (drop_read ks n k lt is)) ∙ h
