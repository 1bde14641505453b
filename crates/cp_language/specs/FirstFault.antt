-- Which of the faults of a text is the first.
use Rattle.std.specs.Prelude.{◌≡◌, ◌==◌, ◌&&◌, ◌||◌, nat_lt, ℕ, List, Bool, false}
use Rattle.cp_base.specs.declared.place.Code.{Code}
use Rattle.cp_base.specs.declared.place.Code.TheVariants.{BadByte, OpenString, Unbalanced, TooDeep, BadNumber, Unclosed, UnknownForm, OutOfProfile, BadShape, DuplicateProtocol, DuplicateRole, UnknownProtocol, UnknownRole, UnknownSort, MesgVar, DuplicateVar, BadHeight, UnknownVar, NotInPrefix, IllSorted, KeySort, NotAtom, RoleUniqNoOrigin, UniqNowhere, BadNode, CyclicOrder}
use Rattle.cp_base.specs.declared.place.Refusal.{Refusal}
use Rattle.cp_lists.specs.Lists.{IsIn}

-- Among the faults at one place, the order of their kinds: what a list is, its shape, its names, then its sorts.
abbrev pub rank_of : Code → ℕ
rank_of BadByte = 0
rank_of OpenString = 1
rank_of Unbalanced = 2
rank_of TooDeep = 3
rank_of BadNumber = 4
rank_of Unclosed = 5
rank_of UnknownForm = 6
rank_of OutOfProfile = 7
rank_of BadShape = 8
rank_of DuplicateProtocol = 9
rank_of DuplicateRole = 10
rank_of UnknownProtocol = 11
rank_of UnknownRole = 12
rank_of UnknownSort = 13
rank_of MesgVar = 14
rank_of DuplicateVar = 15
rank_of BadHeight = 16
rank_of UnknownVar = 17
rank_of NotInPrefix = 18
rank_of IllSorted = 19
rank_of KeySort = 20
rank_of NotAtom = 21
rank_of RoleUniqNoOrigin = 22
rank_of UniqNowhere = 23
rank_of BadNode = 24
rank_of CyclicOrder = 25

-- r comes before s: by line, then by column, then by kind.
abbrev pub refusal_before : Refusal → Refusal → Bool
refusal_before r s =
    nat_lt r.place.line s.place.line || ((r.place.line == s.place.line) &&
    (nat_lt r.place.col s.place.col || ((r.place.col == s.place.col) && nat_lt (rank_of r.code) (rank_of s.code))))

-- The first of the faults: one of them, and none comes before it.
pub record IsFirstFault (faults : List Refusal) (r : Refusal) : Type 0 where
  pub listed : IsIn r faults
  pub first : (s : Refusal) → IsIn s faults → refusal_before s r ≡ false
