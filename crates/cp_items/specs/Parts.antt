-- Parts of single items, with what they depend on apart.
use Rattle.std.specs.Prelude.{ℕ, zero, suc, List, [], ◌∷◌, ◌++◌, map, Bool, true, false}
use Rattle.cp_base.specs.declared.place.Place.{Place}
use Rattle.cp_sexpr.specs.Syntax.{Form}
use Rattle.cp_language.specs.Roles.{text_of_symbol}
use Rattle.cp_language.specs.Problems.{number_of}
use Rattle.cp_model.specs.Skeleton.{SkeletonStrand}
use Rattle.cp_model.specs.declared.variable.Declaration.{Declaration}
use Rattle.cp_report.specs.Misfits.{misfit, misfit_unless, unless_misfit, lacking, each_misfits, symbol_misfits, entries_misfits}
use Rattle.cp_report.specs.Spelled.{pattern_misfits}
use Rattle.cp_report.specs.Skeletons.{strand_number_misfits}
use Rattle.cp_report.specs.declared.operations.OperationWord.{OperationWord}
use Rattle.cp_report.specs.Labels.{operation_word, is_operation, block_misfits, kinds_after, index_misfits}

-- ---- operations

-- The entries of a partition of so many strands, the first of them number i.
abbrev pub blocks_of : List ℕ → ℕ → ℕ → List (Form → List Place)
blocks_of ns i zero = []
blocks_of ns i (suc n) = block_misfits ns i ∷ blocks_of ns (suc i) n

-- The kinds of the entries behind the word, where the problem has so many strands.
abbrev pub kinds_behind : ℕ → OperationWord → List Form → List (Form → List Place)
kinds_behind strands w fs = kinds_after w (blocks_of (map number_of fs) 0 strands)

-- A word that names an operation, and what belongs to it, where the problem has so many strands.
abbrev pub operation_item_misfits : ℕ → Place → List Form → List Place
operation_item_misfits strands at [] = misfit at
operation_item_misfits strands at (f ∷ fs) =
    unless_misfit (symbol_misfits (λ t. is_operation (operation_word t)) f) (entries_misfits (kinds_behind strands (operation_word (text_of_symbol f)) fs) at fs)

-- The strand and the event that stand first are there; or the strand is.
abbrev pub node_place_misfits : List SkeletonStrand → List Form → List Place
node_place_misfits strands [] = []
node_place_misfits strands (f ∷ []) = []
node_place_misfits strands (f ∷ g ∷ fs) = strand_number_misfits strands f ++ index_misfits strands (number_of f) g

abbrev pub strand_place_misfits : List SkeletonStrand → List Form → List Place
strand_place_misfits strands [] = []
strand_place_misfits strands (f ∷ fs) = strand_number_misfits strands f

-- ---- escapes

-- At least one pattern, where the label has a test.
abbrev pub escape_item_misfits : Bool → List Declaration → Place → List Form → List Place
escape_item_misfits has_test ds at fs = misfit_unless has_test at ++ lacking 1 at fs ++ each_misfits (pattern_misfits ds) fs

-- ---- whether items fit

-- There are no misfits.
abbrev pub is_fitting : List Place → Bool
is_fitting [] = true
is_fitting (p ∷ ps) = false
