-- The names of the codes.
use Rattle.std.specs.Prelude.{ℕ, List, codes}
use Rattle.cp_base.specs.declared.place.Code.{Code}
use Rattle.cp_base.specs.declared.place.Code.TheVariants.{BadByte, OpenString, Unbalanced, TooDeep, BadNumber, Unclosed, UnknownForm, OutOfProfile, BadShape, DuplicateProtocol, DuplicateRole, UnknownProtocol, UnknownRole, UnknownSort, MesgVar, DuplicateVar, BadHeight, UnknownVar, NotInPrefix, IllSorted, KeySort, NotAtom, RoleUniqNoOrigin, UniqNowhere, BadNode, CyclicOrder}

-- a code is printed as its name
abbrev pub code_text : Code → List ℕ
code_text code = elim code [
  | BadByte ↦ codes "BadByte"
  | OpenString ↦ codes "OpenString"
  | Unbalanced ↦ codes "Unbalanced"
  | TooDeep ↦ codes "TooDeep"
  | BadNumber ↦ codes "BadNumber"
  | Unclosed ↦ codes "Unclosed"
  | UnknownForm ↦ codes "UnknownForm"
  | OutOfProfile ↦ codes "OutOfProfile"
  | BadShape ↦ codes "BadShape"
  | DuplicateProtocol ↦ codes "DuplicateProtocol"
  | DuplicateRole ↦ codes "DuplicateRole"
  | UnknownProtocol ↦ codes "UnknownProtocol"
  | UnknownRole ↦ codes "UnknownRole"
  | UnknownSort ↦ codes "UnknownSort"
  | MesgVar ↦ codes "MesgVar"
  | DuplicateVar ↦ codes "DuplicateVar"
  | BadHeight ↦ codes "BadHeight"
  | UnknownVar ↦ codes "UnknownVar"
  | NotInPrefix ↦ codes "NotInPrefix"
  | IllSorted ↦ codes "IllSorted"
  | KeySort ↦ codes "KeySort"
  | NotAtom ↦ codes "NotAtom"
  | RoleUniqNoOrigin ↦ codes "RoleUniqNoOrigin"
  | UniqNowhere ↦ codes "UniqNowhere"
  | BadNode ↦ codes "BadNode"
  | CyclicOrder ↦ codes "CyclicOrder"
]
