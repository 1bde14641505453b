use Rattle.std.proofs.Common.{◌≡◌, ℕ, List, ◌∷◌, ◌++◌, drop}
use Rattle.cp_base.specs.Growing.{Grows}
use Rattle.cp_sexpr.specs.ListSpelling.{next_by, first_by}
use Rattle.cp_sexpr.specs.Pieces.{open_parenthesis}
use Rattle.cp_sexpr.specs.View.{views}
use Rattle.cp_sexpr.proofs.writer.+write.Given as goal

-- what was appended behind the parenthesis, and the items that are left, make all the items
abbrev pub invariant-append_list-loop-item : goal.invariant-append_list-loop-item
invariant-append_list-loop-item l =
    (done : List ℕ) × (Grows l.fn.out l.out (open_parenthesis ∷ done))
    × (first_by l.fn.is_top (views l.fn.items) ≡ done ++ next_by l.fn.is_top (views (drop l.item-index l.others)))
