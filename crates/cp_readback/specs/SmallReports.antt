-- Examples: three reports of one small problem, which states one assumption itself.
use Rattle.std.specs.Prelude.{ℕ, List, [], ◌∷◌, ◌++◌, codes}
use Rattle.cp_sexpr.specs.Syntax.{Form, Forms, forms_of}
use Rattle.cp_language.specs.Printed.{word, numeral, headed_list, plain_list}

-- (defprotocol one basic (defrole say (vars (a name)) (trace (send a))))
abbrev pub small_protocol : Form
small_protocol =
    headed_list (codes "defprotocol") (word (codes "one") ∷ word (codes "basic") ∷
    headed_list (codes "defrole") (word (codes "say") ∷ headed_list (codes "vars") (headed_list (codes "a") (word (codes "name") ∷ []) ∷ []) ∷
    headed_list (codes "trace") (headed_list (codes "send") (word (codes "a") ∷ []) ∷ []) ∷ []) ∷ [])

-- (privk t)
abbrev pub private_of : List ℕ → Form
private_of t = headed_list (codes "privk") (word t ∷ [])

-- (defskeleton one (vars (a name)) (defstrand say 1 (a a)) (non-orig (privk a)))
abbrev pub small_problem : Form
small_problem =
    headed_list (codes "defskeleton") (word (codes "one") ∷ headed_list (codes "vars") (headed_list (codes "a") (word (codes "name") ∷ []) ∷ []) ∷
    headed_list (codes "defstrand") (word (codes "say") ∷ numeral 1 ∷ plain_list (word (codes "a") ∷ word (codes "a") ∷ []) ∷ []) ∷
    headed_list (codes "non-orig") (private_of (codes "a") ∷ []) ∷ [])

-- (label 0 (by problem) (vars (t name)) (defstrand say 1 (a t)) ASSUMPTIONS .. (map (0) (a t)) (shape))
abbrev pub small_label : List ℕ → List Form → Form
small_label t assumptions =
    headed_list (codes "label") (numeral 0 ∷ headed_list (codes "by") (word (codes "problem") ∷ []) ∷ headed_list (codes "vars") (plain_list (word t ∷ word (codes "name") ∷ []) ∷ []) ∷
    headed_list (codes "defstrand") (word (codes "say") ∷ numeral 1 ∷ plain_list (word (codes "a") ∷ word t ∷ []) ∷ []) ∷
    assumptions ++ headed_list (codes "map") (plain_list (numeral 0 ∷ []) ∷ plain_list (word (codes "a") ∷ word t ∷ []) ∷ []) ∷ headed_list (codes "shape") [] ∷ [])

-- (status complete labels 1 expanded 0 shapes 1)
abbrev pub small_status : Form
small_status =
    headed_list (codes "status") (word (codes "complete") ∷ word (codes "labels") ∷ numeral 1 ∷ word (codes "expanded") ∷ numeral 0 ∷ word (codes "shapes") ∷ numeral 1 ∷ [])

-- The label has the problem's variable and its assumption.
abbrev pub listed_report : Forms
listed_report = forms_of (small_protocol ∷ small_problem ∷ small_label (codes "a") (headed_list (codes "non-orig") (private_of (codes "a") ∷ []) ∷ []) ∷ small_status ∷ [])

-- The label has the problem's variable under another identifier, and its assumption.
abbrev pub renamed_report : Forms
renamed_report = forms_of (small_protocol ∷ small_problem ∷ small_label (codes "x") (headed_list (codes "non-orig") (private_of (codes "x") ∷ []) ∷ []) ∷ small_status ∷ [])

-- The label has the problem's variable, and does not have its assumption.
abbrev pub unlisted_report : Forms
unlisted_report = forms_of (small_protocol ∷ small_problem ∷ small_label (codes "a") [] ∷ small_status ∷ [])
