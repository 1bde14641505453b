-- A text of any length: the Needham-Schroeder protocol and problems over it, about an initiator and about a responder in turn.
use Rattle.std.specs.Prelude.{ℕ, zero, suc, ◌+◌, ◌%◌, ◌==◌, List, [], ◌∷◌, ◌++◌, length, codes, if◌then◌else◌}
use Rattle.std.specs.List.{concat}
use Rattle.cp_language.specs.Printed.{word, numeral, headed_list, plain_list}
use Rattle.cp_language.specs.Problems.{Problem, problem_of}
use Rattle.cp_language.specs.Roles.{headed, items_behind, protocol_of}
use Rattle.cp_sexpr.specs.Pieces.{line_feed, start}
use Rattle.cp_sexpr.specs.Syntax.{Form, Forms, forms_of}
use Rattle.cp_generate.specs.Placed.{all_placed}

-- ---- text

-- lines, each with its line feed
abbrev pub lines : List (List ℕ) → List ℕ
lines [] = []
lines (t ∷ ts) = t ++ line_feed ∷ lines ts

abbrev pub protocol_text : List ℕ
protocol_text = lines (
    codes "(defprotocol ns basic" ∷
    codes "  (defrole init (vars (a b name) (n1 n2 text)) (trace (send (enc n1 a (pubk b))) (recv (enc n1 n2 (pubk a))) (send (enc n2 (pubk b)))))" ∷
    codes "  (defrole resp (vars (a b name) (n1 n2 text)) (trace (recv (enc n1 a (pubk b))) (send (enc n1 n2 (pubk a))) (recv (enc n2 (pubk b))))))" ∷ [])

-- An initiator runs to its end. The private keys are non-originating, and its nonce originates uniquely.
abbrev pub initiator_problem_text : List ℕ
initiator_problem_text = lines (
    codes "(defskeleton ns" ∷
    codes "  (vars (a b name) (n1 n2 text))" ∷
    codes "  (defstrand init 3 (a a) (b b) (n1 n1) (n2 n2))" ∷
    codes "  (non-orig (privk a) (privk b))" ∷
    codes "  (uniq-orig n1))" ∷ [])

-- A responder runs to its end. The initiator's private key is non-originating, and its own nonce originates uniquely.
abbrev pub responder_problem_text : List ℕ
responder_problem_text = lines (
    codes "(defskeleton ns" ∷
    codes "  (vars (a b name) (n1 n2 text))" ∷
    codes "  (defstrand resp 3 (a a) (b b) (n1 n1) (n2 n2))" ∷
    codes "  (non-orig (privk a))" ∷
    codes "  (uniq-orig n2))" ∷ [])

-- The problem with this number: the initiator's if it is even, otherwise the responder's.
abbrev pub problem_text : ℕ → List ℕ
problem_text i = if i % 2 == 0 then initiator_problem_text else responder_problem_text

-- so many problems, the first with number i
abbrev pub problem_texts_from : ℕ → ℕ → List (List ℕ)
problem_texts_from i zero = []
problem_texts_from i (suc n) = problem_text i ∷ problem_texts_from (i + 1) n

-- The protocol and n problems, each a part.
abbrev pub generated_parts : ℕ → List (List ℕ)
generated_parts n = protocol_text ∷ problem_texts_from 0 n

abbrev pub generated_text : ℕ → List ℕ
generated_text n = concat (generated_parts n)

-- Where each of these parts ends in a text, the first beginning at n.
abbrev pub part_ends : ℕ → List (List ℕ) → List ℕ
part_ends n [] = []
part_ends n (t ∷ ts) = (n + length t) ∷ part_ends (n + length t) ts

-- ---- forms

-- (vars (a b name) (n1 n2 text))
abbrev pub variables_form : Form
variables_form =
    headed_list (codes "vars") (headed_list (codes "a") (word (codes "b") ∷ word (codes "name") ∷ []) ∷ headed_list (codes "n1") (word (codes "n2") ∷ word (codes "text") ∷ []) ∷ [])

-- A key of a name: (pubk a), (privk a)
abbrev pub named_key : List ℕ → List ℕ → Form
named_key kind name = headed_list kind (word name ∷ [])

-- A role of this name, with these heads of its first and third event and of its second event.
abbrev pub role_form : List ℕ → List ℕ → List ℕ → Form
role_form name one other =
    headed_list (codes "defrole") (word name ∷ variables_form ∷ headed_list (codes "trace") (
    headed_list one (headed_list (codes "enc") (word (codes "n1") ∷ word (codes "a") ∷ named_key (codes "pubk") (codes "b") ∷ []) ∷ []) ∷
    headed_list other (headed_list (codes "enc") (word (codes "n1") ∷ word (codes "n2") ∷ named_key (codes "pubk") (codes "a") ∷ []) ∷ []) ∷
    headed_list one (headed_list (codes "enc") (word (codes "n2") ∷ named_key (codes "pubk") (codes "b") ∷ []) ∷ []) ∷ []) ∷ [])

abbrev pub protocol_form : Form
protocol_form =
    headed_list (codes "defprotocol") (word (codes "ns") ∷ word (codes "basic") ∷
    role_form (codes "init") (codes "send") (codes "recv") ∷ role_form (codes "resp") (codes "recv") (codes "send") ∷ [])

-- (a a)
abbrev pub own_maplet : List ℕ → Form
own_maplet t = plain_list (word t ∷ word t ∷ [])

-- An instance of this role at its full height, with these keys non-originating and this nonce uniquely originating.
abbrev pub problem_of_role : List ℕ → List Form → List ℕ → Form
problem_of_role role keys nonce =
    headed_list (codes "defskeleton") (word (codes "ns") ∷ variables_form ∷
    headed_list (codes "defstrand") (word role ∷ numeral 3 ∷ own_maplet (codes "a") ∷ own_maplet (codes "b") ∷ own_maplet (codes "n1") ∷ own_maplet (codes "n2") ∷ []) ∷
    headed_list (codes "non-orig") keys ∷ headed_list (codes "uniq-orig") (word nonce ∷ []) ∷ [])

abbrev pub initiator_problem : Form
initiator_problem = problem_of_role (codes "init") (named_key (codes "privk") (codes "a") ∷ named_key (codes "privk") (codes "b") ∷ []) (codes "n1")

abbrev pub responder_problem : Form
responder_problem = problem_of_role (codes "resp") (named_key (codes "privk") (codes "a") ∷ []) (codes "n2")

abbrev pub problem_form : ℕ → Form
problem_form i = if i % 2 == 0 then initiator_problem else responder_problem

abbrev pub problem_forms_from : ℕ → ℕ → List Form
problem_forms_from i zero = []
problem_forms_from i (suc n) = problem_form i ∷ problem_forms_from (i + 1) n

-- The forms of the text, with their places in it.
abbrev pub generated_forms : ℕ → Forms
generated_forms n = forms_of (all_placed start (protocol_form ∷ problem_forms_from 0 n))

-- ---- problems

-- The problem that the form states over the protocol.
abbrev pub problem_over_protocol : Form → Problem
problem_over_protocol f = problem_of (protocol_of (items_behind (headed protocol_form)) ∷ []) (items_behind (headed f))
