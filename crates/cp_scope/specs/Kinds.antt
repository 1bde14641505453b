-- The kinds of assumptions.
use Rattle.std.specs.Prelude.{Bool}
use Rattle.cp_language.specs.declared.words.ItemHead.{ItemHead}
use Rattle.cp_language.specs.Roles.{is_non_item, is_penetrator_non_item, is_unique_item}
use Rattle.cp_scope.specs.declared.atoms.Kind.{Kind}
use Rattle.cp_scope.specs.declared.atoms.Kind.TheVariants as kinds

-- A list with this head states assumptions of this kind.
abbrev pub is_of_kind : Kind → ItemHead → Bool
is_of_kind kinds.Non = is_non_item
is_of_kind kinds.PenetratorNon = is_penetrator_non_item
is_of_kind kinds.Unique = is_unique_item
