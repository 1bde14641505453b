-- Candidates are marked one by one.
use Rattle.std.proofs.Common.{◌≡◌, ℕ, zero, suc, ◌+◌, ◌<◌, ◌≤◌, List, [], ◌∷◌, ◌++◌, length, map, get_or, slice_index_or, Option, Some, None, sym, ap, subst, ◌∙◌, refl, arith}
use Rattle.std.specs.Prelude.{IfSome}
use Rattle.std.proofs.lemmas.List.{length-map}
use Rattle.cp_lists.specs.Lists.{item_at}
use Rattle.cp_lists.proofs.Items.{item_there, item_of_read, map_of_item}
use Rattle.cp_model.specs.Skeleton.{Skeleton}
use Rattle.cp_model.specs.declared.tree.Mark.{Mark}
use Rattle.cp_shapes.specs.Shapes.{IsMarkOf, AreShapeMarksOf}
use Rattle.cp_shapes.proofs.Gathered.{AreTo, next_to}
use Rattle.cp_tree.specs.Candidates.{Candidate, skeletons_of, IsLabelAt}
use Rattle.cp_tree.specs.Searched.{IsMarkedAmong, as_shape, as_instance}
use Rattle.cp_search.specs.Candidates.{candidate_mark}
use Rattle.cp_search.specs.TreeLabels.{AreCandidateMarks}

index_at : (ns : List ℕ) (i n : ℕ) → item_at ns i ≡ Some n → slice_index_or ns i 0 ≡ n
index_at [] i n e = absurd (cc)
index_at (m ∷ ns) zero n e = let same : m ≡ n = cc in same
index_at (m ∷ ns) (suc i) n e = index_at ns i n e

module _ (cs : List Candidate) where
  -- The mark is that of candidate number p.
  abbrev pub IsCandidateMark : ℕ → Mark → Type 0
  IsCandidateMark p mark = (c : Candidate) → item_at cs p ≡ Some c → IsMarkedAmong cs c.number (Some mark)

  abbrev pub AreMarkedTo : List Mark → ℕ → Type 0
  AreMarkedTo marks n = AreTo IsCandidateMark marks n

  module _ (numbers : List ℕ) (numbers_are : numbers ≡ map (λ c. c.number) cs) where
    shape_place : (q : ℕ) → q < length (skeletons_of cs) → IsLabelAt cs q (slice_index_or numbers q 0)
    shape_place q l =
        let c = item_there cs q (let e = length-map cs (λ (c : Candidate). c.skeleton) in omega (arith, l, e)) in
        record {
          candidate = c.0;
          at = c.1;
          number = sym (index_at numbers q c.0.number (ap (λ (ns : List ℕ). item_at ns q) numbers_are ∙ map_of_item (λ (c : Candidate). c.number) cs q c.0 c.1));
        }

    marked : (p : ℕ) (o : Option ℕ) → IsMarkOf (skeletons_of cs) p o → IsCandidateMark p (candidate_mark numbers o)
    marked p None s c at = as_shape (record { candidate = c; at = at; number = refl }) s
    marked p (Some q) h c at = as_instance (record { candidate = c; at = at; number = refl }) h (shape_place q h.holds.0.within)

    numbered : (p : ℕ) (o : Option ℕ) → IsMarkOf (skeletons_of cs) p o → IfSome o (λ place. place < length numbers)
    numbered p None h = tt
    numbered p (Some q) h =
        let l : q < length (skeletons_of cs) = h.holds.0.within in
        let m = length-map cs (λ (c : Candidate). c.skeleton) in
        let n = length-map cs (λ (c : Candidate). c.number) in
        let k : length numbers ≡ length (map (λ (c : Candidate). c.number) cs) = ap length numbers_are in
        omega (arith, l, m, n, k)

    module _ (given : List Skeleton) (g : given ≡ skeletons_of cs) (shapes : List (Option ℕ)) (are : AreShapeMarksOf given shapes) where
      same_count : length shapes ≡ length cs
      same_count = are.count ∙ (ap length g ∙ length-map cs (λ (c : Candidate). c.skeleton))

      module _ (p : ℕ) (o : Option ℕ) (l : p < length shapes) (is : o ≡ get_or shapes p o) where
        mark_of : IsMarkOf (skeletons_of cs) p o
        mark_of = subst (λ (ks : List Skeleton). IsMarkOf ks p o) g (are.each p o (item_of_read shapes p o l is))

        pub number_within : IfSome o (λ place. place < length numbers)
        number_within = numbered p o mark_of

        pub next_marked : (old new : List Mark) (mark : Mark) → AreMarkedTo old p → mark ≡ candidate_mark numbers o → new ≡ old ++ mark ∷ [] → AreMarkedTo new (p + 1)
        next_marked old new mark so_far is_mark e = next_to IsCandidateMark old p mark so_far (subst (IsCandidateMark p) (sym is_mark) (marked p o mark_of)) new e

      pub all_marked : (marks : List Mark) (n : ℕ) → AreMarkedTo marks n → n ≤ length shapes → length shapes ≤ n → AreCandidateMarks cs marks
      all_marked marks n to below above = record {
        count = to.count ∙ (let same : n ≡ length shapes = omega (arith, below, above) in same ∙ same_count);
        each = λ p c mark at is. to.each p mark is c at;
      }
