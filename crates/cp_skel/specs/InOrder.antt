-- Lists whose items stand in the order in which others state them.
use Rattle.std.specs.Prelude.{◌≡◌, ◌≤◌, ℕ, List, Bool, map, take, length}
use Rattle.std.specs.List.{filter}
use Rattle.cp_model.specs.Skeleton.{SkeletonStrand, Assumptions}
use Rattle.cp_model.specs.Given.{has_atom, atoms_onto, has_unique, uniques_onto, given_non, given_penetrator_non, given_uniques}
use Rattle.cp_model.specs.GivenAssumptions.{IsEachOnce}
use Rattle.cp_strand.specs.declared.given.Given.{Given}
use Rattle.cp_strand.specs.Givens.{unique_on}
use Rattle.cp_skel.specs.declared.already_listed.Counts.{Counts}

-- The first m of the old items, and behind them the stated ones that are among the old, each once, are the first n, if each
-- old item stands once.
abbrev pub ListsTo : {A : Type 0} → (List A → A → Bool) → (List A → List A → List A) → List A → ℕ → List A → ℕ → Type 0
ListsTo among onto old m stated n = (n ≤ length old) × (IsEachOnce old → onto (take m old) (filter (among old) stated) ≡ take n old)

-- No more are listed than there are.
pub record AreCountsWithin (old : Assumptions) (n : Counts) : Type 0 where
  pub non : n.non_originating ≤ length old.non_originating
  pub penetrator_non : n.penetrator_non_originating ≤ length old.penetrator_non_originating
  pub unique : n.uniquely_originating ≤ length old.uniquely_originating

-- Nothing is listed.
abbrev pub none_listed : Counts
none_listed = record { non_originating = 0; penetrator_non_originating = 0; uniquely_originating = 0 }

-- What is given to strand number s, in three lists.
abbrev pub these : ℕ → Given → Assumptions
these s g = record {
  non_originating = g.non_originating.items;
  penetrator_non_originating = g.penetrator_non_originating.items;
  uniquely_originating = map (unique_on s) g.uniquely_originating.items;
}

-- What is given to strands, the first of which has number s, in three lists.
abbrev pub given_from : ℕ → List SkeletonStrand → Assumptions
given_from s ks = record {
  non_originating = given_non ks;
  penetrator_non_originating = given_penetrator_non ks;
  uniquely_originating = given_uniques s ks;
}

-- Each of the three lists, from so many items on, lists to so many with the stated ones.
pub record ListEach (old : Assumptions) (m : Counts) (stated : Assumptions) (n : Counts) : Type 0 where
  pub non : ListsTo has_atom atoms_onto old.non_originating m.non_originating stated.non_originating n.non_originating
  pub penetrator_non : ListsTo has_atom atoms_onto old.penetrator_non_originating m.penetrator_non_originating stated.penetrator_non_originating n.penetrator_non_originating
  pub unique : ListsTo has_unique uniques_onto old.uniquely_originating m.uniquely_originating stated.uniquely_originating n.uniquely_originating
