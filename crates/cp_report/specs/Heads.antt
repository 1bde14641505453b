-- The heads of the forms of a report and of the items of a label form, and in which order these stand.
use Rattle.std.specs.Prelude.{ℕ, List, [], ◌∷◌, ◌++◌, Bool, true, false, codes, if◌then◌else◌, Option, Some, None}
use Rattle.cp_base.specs.declared.place.Place.{Place}
use Rattle.cp_sexpr.specs.Syntax.{Form}
use Rattle.cp_language.specs.Words.{is_one_of}
use Rattle.cp_language.specs.Faults.{place_of}
use Rattle.cp_language.specs.Roles.{Headed, headed, items_behind}
use Rattle.cp_language.specs.Problems.{is_not_empty}
use Rattle.cp_report.specs.Misfits.{misfit_unless}

-- ---- lists by their heads

abbrev pub is_headed_by : List (List ℕ) → Option Headed → Bool
is_headed_by heads None = false
is_headed_by heads (Some h) = is_one_of h.head heads

-- The form is a list with one of these heads.
abbrev pub has_head : List (List ℕ) → Form → Bool
has_head heads f = is_headed_by heads (headed f)

-- What stands behind the head of a list.
abbrev pub forms_after_head : Form → List Form
forms_after_head f = items_behind (headed f)

-- The first of the forms with one of these heads, wherever it stands.
abbrev pub item_with : List (List ℕ) → List Form → Option Form
item_with heads [] = None
item_with heads (f ∷ fs) = if has_head heads f then Some f else item_with heads fs

-- All of the forms with one of these heads, in order.
abbrev pub items_with : List (List ℕ) → List Form → List Form
items_with heads [] = []
items_with heads (f ∷ fs) = if has_head heads f then f ∷ items_with heads fs else items_with heads fs

abbrev pub entries_or_none : Option Form → List Form
entries_or_none None = []
entries_or_none (Some f) = forms_after_head f

-- The entries of the first of the items with this head; none where it is not there.
abbrev pub entries_under : List ℕ → List Form → List Form
entries_under head items = entries_or_none (item_with (head ∷ []) items)

-- What is asked of an item that may be left out.
abbrev pub optional_misfits : (Place → List Form → List Place) → Option Form → List Place
optional_misfits inside None = []
optional_misfits inside (Some f) = inside (place_of f) (forms_after_head f)

-- The place of an item, or where it is not there that of the label form.
abbrev pub place_or : Place → Option Form → Place
place_or at None = at
place_or at (Some f) = place_of f

-- ---- items of a label form

abbrev pub strand_heads : List (List ℕ)
strand_heads = codes "defstrand" ∷ codes "deflistener" ∷ []

abbrev pub mark_heads : List (List ℕ)
mark_heads = codes "shape" ∷ codes "dead" ∷ codes "seen" ∷ codes "instance-of" ∷ codes "limit" ∷ []

-- The heads of the items that belong behind the strands.
abbrev pub heads_behind_strands : List (List ℕ)
heads_behind_strands =
    codes "precedes" ∷ codes "non-orig" ∷ codes "pen-non-orig" ∷ codes "uniq-orig" ∷ codes "map" ∷ codes "unrealised" ∷ codes "test" ∷ codes "escape"
    ∷ codes "children" ∷ mark_heads

-- The items in front of the first that belongs behind the strands: the strands, what belongs before them, and what has no
-- right to stand there, which may be a misspelled strand.
abbrev pub up_to_strands : List Form → List Form
up_to_strands [] = []
up_to_strands (f ∷ fs) = if has_head heads_behind_strands f then [] else f ∷ up_to_strands fs

-- One kind of item: its heads, and whether it may stand again and again.
pub record Line : Type 0 where
  pub heads : List (List ℕ)
  pub repeats : Bool

abbrev pub once : List ℕ → Line
once head = record { heads = head ∷ []; repeats = false }

-- The items of a label form in the order in which they stand.
abbrev pub lines_of_label : List Line
lines_of_label =
    once (codes "parent") ∷ once (codes "by") ∷ once (codes "vars") ∷ record { heads = strand_heads; repeats = true }
    ∷ once (codes "precedes") ∷ once (codes "non-orig") ∷ once (codes "pen-non-orig") ∷ once (codes "uniq-orig") ∷ once (codes "map")
    ∷ once (codes "unrealised") ∷ once (codes "test") ∷ once (codes "escape") ∷ once (codes "children")
    ∷ record { heads = mark_heads; repeats = false } ∷ []

-- The lines from that of this form on; none where it is an item of none of them.
abbrev pub lines_from : Form → List Line → List Line
lines_from f [] = []
lines_from f (l ∷ ls) = if has_head l.heads f then l ∷ ls else lines_from f ls

-- The lines that may follow, where those from the item's own on are the second: all of them behind a misplaced one.
abbrev pub lines_behind : List Line → List Line → List Line
lines_behind lines [] = lines
lines_behind lines (l ∷ ls) = if l.repeats then l ∷ ls else ls

-- An item that is none of a label form, or that stands where it may not.
abbrev pub order_misfits : List Line → List Form → List Place
order_misfits lines [] = []
order_misfits lines (f ∷ fs) = misfit_unless (is_not_empty (lines_from f lines)) (place_of f) ++ order_misfits (lines_behind lines (lines_from f lines)) fs

-- ---- forms of a report

-- The form is a label form or a status form, and so none of the input's.
abbrev pub is_of_tree : Form → Bool
is_of_tree f = has_head (codes "label" ∷ codes "status" ∷ []) f

abbrev pub is_label : Form → Bool
is_label f = has_head (codes "label" ∷ []) f
