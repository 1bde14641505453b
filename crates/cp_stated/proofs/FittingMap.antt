-- A map that fits goes to strands that are there.
use Rattle.std.proofs.Common.{◌≡◌, ℕ, ◌<◌, List, [], ◌∷◌, length, map, nat_lt, Option, Some, None, ltb-true}
use Rattle.cp_base.specs.declared.place.Place.{Place}
use Rattle.cp_lists.specs.Lists.{IsIn, here, there}
use Rattle.cp_lists.proofs.Appended.{none_in_both}
use Rattle.cp_model.specs.Skeleton.{SkeletonStrand}
use Rattle.cp_sexpr.specs.Syntax.{Form, symbol, string, number, list}
use Rattle.cp_language.specs.Faults.{place_of, items_of}
use Rattle.cp_language.specs.Problems.{number_of, Problem}
use Rattle.cp_report.specs.Misfits.{entries_misfits, list_misfits}
use Rattle.cp_report.specs.Heads.{forms_after_head, entries_or_none, optional_misfits}
use Rattle.cp_report.specs.Spelled.{Scope}
use Rattle.cp_report.specs.Skeletons.{strand_number_misfits, mapping_misfits, map_misfits, problem_variables, strands_mapped}
use Rattle.cp_report.proofs.NoMisfits.{holds}

module _ (strands : List SkeletonStrand) where
  below : (f : Form) → strand_number_misfits strands f ≡ [] → number_of f < length strands
  below (symbol at t) e = absurd (cc)
  below (string at t) e = absurd (cc)
  below (number at n) e = ltb-true n (length strands) (holds (nat_lt n (length strands)) at e)
  below (list at fs) e = absurd (cc)

  all_below : (ks : List SkeletonStrand) (at : Place) (fs : List Form) → entries_misfits (map (λ k. strand_number_misfits strands) ks) at fs ≡ [] → (n : ℕ) → IsIn n (map number_of fs) → n < length strands
  all_below [] at [] e n m = elim m [ ]
  all_below [] at (f ∷ fs) e n m = absurd (cc)
  all_below (k ∷ ks) at [] e n m = elim m [ ]
  all_below (k ∷ ks) at (f ∷ fs) e n here = below f (none_in_both (strand_number_misfits strands f) (entries_misfits (map (λ k. strand_number_misfits strands) ks) at fs) e).0
  all_below (k ∷ ks) at (f ∷ fs) e n (there m) = all_below ks at fs (none_in_both (strand_number_misfits strands f) (entries_misfits (map (λ k. strand_number_misfits strands) ks) at fs) e).1 n m

  listed_below : (ks : List SkeletonStrand) (f : Form) (maplets : List Form) → list_misfits (entries_misfits (map (λ k. strand_number_misfits strands) ks)) f ≡ [] → (n : ℕ) → IsIn n (strands_mapped (f ∷ maplets)) → n < length strands
  listed_below ks (symbol at t) maplets e n m = absurd (cc)
  listed_below ks (string at t) maplets e n m = absurd (cc)
  listed_below ks (number at i) maplets e n m = absurd (cc)
  listed_below ks (list at fs) maplets e n m = all_below ks at (items_of fs) e n m

  in_entries : (p : Problem) (s : Scope) (at : Place) (fs : List Form) → map_misfits p s strands at fs ≡ [] → (n : ℕ) → IsIn n (strands_mapped fs) → n < length strands
  in_entries p s at [] e n m = elim m [ ]
  in_entries p s at (f ∷ maplets) e n m =
      listed_below p.skeleton.strands f maplets
      (none_in_both (list_misfits (entries_misfits (map (λ k. strand_number_misfits strands) p.skeleton.strands)) f) (mapping_misfits s (problem_variables p) at maplets) e).0 n m

  pub strands_there : (p : Problem) (s : Scope) (o : Option Form) → optional_misfits (map_misfits p s strands) o ≡ [] → (n : ℕ) → IsIn n (strands_mapped (entries_or_none o)) → n < length strands
  strands_there p s None e n m = elim m [ ]
  strands_there p s (Some f) e n m = in_entries p s (place_of f) (forms_after_head f) e n m
