-- An example: a well-formed input whose problem has two instances, a listener, assumptions of each kind, and a pair.
use Rattle.std.specs.Prelude.{[], ◌∷◌, codes}
use Rattle.cp_sexpr.specs.Syntax.{Form, Forms, forms_of}
use Rattle.cp_language.specs.Printed.{word, numeral, headed_list, plain_list}

-- (vars (n text) (d data) (a b name) (k skey) (j akey))
abbrev pub example_variables : Form
example_variables =
    headed_list (codes "vars") (headed_list (codes "n") (word (codes "text") ∷ []) ∷ headed_list (codes "d") (word (codes "data") ∷ []) ∷ headed_list (codes "a") (word (codes "b") ∷ word (codes "name") ∷ []) ∷
    headed_list (codes "k") (word (codes "skey") ∷ []) ∷ headed_list (codes "j") (word (codes "akey") ∷ []) ∷ [])

-- (privk b)
abbrev pub example_private_key : Form
example_private_key = headed_list (codes "privk") (word (codes "b") ∷ [])

-- (enc n a k (pubk b))
abbrev pub example_request : Form
example_request = headed_list (codes "enc") (word (codes "n") ∷ word (codes "a") ∷ word (codes "k") ∷ headed_list (codes "pubk") (word (codes "b") ∷ []) ∷ [])

-- (enc n (enc d (ltk a b)) (invk j))
abbrev pub example_answer : Form
example_answer =
    headed_list (codes "enc") (word (codes "n") ∷ headed_list (codes "enc") (word (codes "d") ∷ headed_list (codes "ltk") (word (codes "a") ∷ word (codes "b") ∷ []) ∷ []) ∷
    headed_list (codes "invk") (word (codes "j") ∷ []) ∷ [])

-- The role "init" sends the request and receives the answer, the role "resp" the other way round.
abbrev pub example_init : Form
example_init =
    headed_list (codes "defrole") (word (codes "init") ∷ example_variables ∷
    headed_list (codes "trace") (headed_list (codes "send") (example_request ∷ []) ∷ headed_list (codes "recv") (example_answer ∷ []) ∷ []) ∷
    headed_list (codes "non-orig") (example_private_key ∷ []) ∷ headed_list (codes "pen-non-orig") (word (codes "k") ∷ []) ∷ headed_list (codes "uniq-orig") (word (codes "n") ∷ []) ∷ [])

abbrev pub example_resp : Form
example_resp =
    headed_list (codes "defrole") (word (codes "resp") ∷ example_variables ∷
    headed_list (codes "trace") (headed_list (codes "recv") (example_request ∷ []) ∷ headed_list (codes "send") (example_answer ∷ []) ∷ []) ∷
    headed_list (codes "uniq-orig") (word (codes "d") ∷ []) ∷ [])

abbrev pub example_protocol_form : Form
example_protocol_form = headed_list (codes "defprotocol") (word (codes "two") ∷ word (codes "basic") ∷ example_init ∷ example_resp ∷ [])

-- ((0 0) (1 0))
abbrev pub example_pair : Form
example_pair = plain_list (plain_list (numeral 0 ∷ numeral 0 ∷ []) ∷ plain_list (numeral 1 ∷ numeral 0 ∷ []) ∷ [])

-- An instance of each role, of which some variables have maplets, and a listener.
abbrev pub example_problem : Form
example_problem =
    headed_list (codes "defskeleton") (word (codes "two") ∷ example_variables ∷
    headed_list (codes "defstrand") (word (codes "init") ∷ numeral 2 ∷ plain_list (word (codes "n") ∷ word (codes "n") ∷ []) ∷ plain_list (word (codes "b") ∷ word (codes "a") ∷ []) ∷ []) ∷
    headed_list (codes "defstrand") (word (codes "resp") ∷ numeral 1 ∷ plain_list (word (codes "b") ∷ word (codes "b") ∷ []) ∷ []) ∷
    headed_list (codes "deflistener") (word (codes "d") ∷ []) ∷
    headed_list (codes "non-orig") (example_private_key ∷ []) ∷ headed_list (codes "pen-non-orig") (word (codes "j") ∷ []) ∷ headed_list (codes "uniq-orig") (word (codes "n") ∷ []) ∷
    headed_list (codes "precedes") (example_pair ∷ []) ∷ [])

abbrev pub example_input : Forms
example_input = forms_of (example_protocol_form ∷ example_problem ∷ [])
