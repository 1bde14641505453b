-- The kinds of assumptions that are atoms alone.
use Rattle.std.specs.Prelude.{List}
use Rattle.cp_model.specs.Term.{AtomTerm}
use Rattle.cp_lists.specs.Lists.{IsIn}
use Rattle.cp_model.specs.Strand.{Role}
use Rattle.cp_skel.specs.declared.assumptions_left.Kind.{Kind}
use Rattle.cp_skel.specs.declared.assumptions_left.Kind.TheVariants.{NonOriginating, PenetratorNonOriginating}

-- What a role states of a kind.
abbrev pub stated_as : Kind → Role → List AtomTerm
stated_as NonOriginating role = role.non_originating
stated_as PenetratorNonOriginating role = role.penetrator_non_originating

-- The atom is in the first list and in neither of the others.
pub record IsInFirstAlone (first second third : List AtomTerm) (v : AtomTerm) : Type 0 where
  pub in_first : IsIn v first
  pub not_second : IsIn v second → ⊥
  pub not_third : IsIn v third → ⊥
