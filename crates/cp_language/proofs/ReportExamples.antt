-- Examples of reports: trees written down by hand, and the text that is printed for them. Each holds by computing
-- the definitions.
use Rattle.std.specs.Prelude.{◌≡◌, ℕ, List, [], ◌∷◌, ◌++◌, true, false, codes, refl, Option, Some, None}
use Rattle.std.specs.Fmt.{digits}
use Rattle.cp_base.specs.declared.place.Place.{Place}
use Rattle.cp_model.specs.Term.{AtomTerm, text_variable, datum_variable, name_variable, key_term, KeyTerm, symmetric_term, asymmetric_term, skey_variable, ltk_term, pubk_term, akey_variable, Term, tag_term, atom_term, pair_term, enc_term}
use Rattle.cp_model.specs.Bindings.{bindings_of}
use Rattle.cp_model.specs.declared.sort.Sort.{Sort}
use Rattle.cp_model.specs.declared.sort.Sort.TheVariants.{Text as text_sort, Datum as datum_sort, Name as name_sort, Skey as skey_sort, Akey as akey_sort}
use Rattle.cp_model.specs.declared.variable.Variable.{Variable}
use Rattle.cp_model.specs.Strand.{Role}
use Rattle.cp_model.specs.declared.strand.Event.{Event}
use Rattle.cp_model.specs.declared.strand.Event.TheVariants.{Send as send, Receive as recv}
use Rattle.cp_model.specs.declared.variable.Declaration.{Declaration}
use Rattle.cp_model.specs.Bundle.{node_at}
use Rattle.cp_model.specs.declared.node.Node.{Node}
use Rattle.cp_model.specs.Skeleton.{SkeletonStrand, instance, listener, Assumptions, Skeleton}
use Rattle.cp_model.specs.declared.node.OrderPair.{OrderPair}
use Rattle.cp_model.specs.Tree.{Pattern, Test, Label, Tree}
use Rattle.cp_model.specs.declared.tree.Operation.{Operation}
use Rattle.cp_model.specs.declared.tree.Operation.TheVariants.{Problem as by_problem, Collapsed as by_collapse, Contracted as by_contraction, Displaced as by_displacement, AddedStrand as by_added_strand, AddedListener as by_added_listener, Generalised as by_generalising}
use Rattle.cp_model.specs.declared.tree.Mark.{Mark}
use Rattle.cp_model.specs.declared.tree.Mark.TheVariants.{Shape as shape, Dead as dead, Seen as seen, InstanceOf as instance_of, LimitSteps as limit_steps, LimitStrands as limit_strands}
use Rattle.cp_model.specs.declared.tree.Outcome.TheVariants.{Complete as complete, LimitSteps as at_step_limit, LimitStrands as at_strand_limit}
use Rattle.cp_sexpr.specs.Syntax.{symbol, string, number, list, Forms, none, more}
use Rattle.cp_language.specs.Problems.{Problem}
use Rattle.cp_language.specs.Input.{Entry, stated, input_of}
use Rattle.cp_language.specs.Report.{report_text}
use Rattle.cp_language.specs.ShapesText.{shapes_text}

abbrev p : ℕ → ℕ → Place
p l c = record { line = l; col = c }

abbrev line : List ℕ → List ℕ → List ℕ
line t rest = t ++ 10 ∷ rest

-- The skeleton of the last problem of an input.
abbrev skeleton_of : List Entry → Skeleton → Skeleton
skeleton_of [] k = k
skeleton_of (e ∷ es) k = skeleton_of es (of_entry (stated e))
  where
    of_entry : Option Problem → Skeleton
    of_entry None = k
    of_entry (Some p) = p.skeleton

abbrev no_assumptions : Assumptions
no_assumptions = record { non_originating = []; penetrator_non_originating = []; uniquely_originating = [] }

abbrev no_skeleton : Skeleton
no_skeleton = record { variables = []; strands = []; pairs = []; assumptions = no_assumptions; from_problem = record { strands = []; values = []; assumptions = no_assumptions; pairs = [] } }

abbrev text_of : ℕ → Term
text_of n = atom_term (text_variable n)

abbrev name_of : ℕ → Term
name_of n = atom_term (name_variable n)

abbrev public_of : ℕ → KeyTerm
public_of n = asymmetric_term false (pubk_term None n)

abbrev private_of : ℕ → AtomTerm
private_of n = key_term (asymmetric_term true (pubk_term None n))

abbrev pair_from : Node → Node → OrderPair
pair_from x y = record { earlier = x; later = y }

abbrev test_at : ℕ → ℕ → Term → Option Test
test_at s i t = Some (record { node = node_at s i; critical = t })

abbrev input_single : Forms
input_single = (more (list (p 1 1) (more (symbol (p 1 2) (codes "defprotocol")) (more (symbol (p 1 14) (codes "ns")) (more (symbol (p 1 17) (codes "basic")) (more (list (p 2 3) (more (symbol (p 2 4) (codes "defrole")) (more (symbol (p 2 12) (codes "init")) (more (list (p 2 17) (more (symbol (p 2 18) (codes "vars")) (more (list (p 2 23) (more (symbol (p 2 24) (codes "a")) (more (symbol (p 2 26) (codes "b")) (more (symbol (p 2 28) (codes "name")) none)))) (more (list (p 2 34) (more (symbol (p 2 35) (codes "n1")) (more (symbol (p 2 38) (codes "n2")) (more (symbol (p 2 41) (codes "text")) none)))) none)))) (more (list (p 2 48) (more (symbol (p 2 49) (codes "trace")) (more (list (p 2 55) (more (symbol (p 2 56) (codes "send")) (more (list (p 2 61) (more (symbol (p 2 62) (codes "enc")) (more (symbol (p 2 66) (codes "n1")) (more (symbol (p 2 69) (codes "a")) (more (list (p 2 71) (more (symbol (p 2 72) (codes "pubk")) (more (symbol (p 2 77) (codes "b")) none))) none))))) none))) (more (list (p 2 82) (more (symbol (p 2 83) (codes "recv")) (more (list (p 2 88) (more (symbol (p 2 89) (codes "enc")) (more (symbol (p 2 93) (codes "n1")) (more (symbol (p 2 96) (codes "n2")) (more (list (p 2 99) (more (symbol (p 2 100) (codes "pubk")) (more (symbol (p 2 105) (codes "a")) none))) none))))) none))) (more (list (p 2 110) (more (symbol (p 2 111) (codes "send")) (more (list (p 2 116) (more (symbol (p 2 117) (codes "enc")) (more (symbol (p 2 121) (codes "n2")) (more (list (p 2 124) (more (symbol (p 2 125) (codes "pubk")) (more (symbol (p 2 130) (codes "b")) none))) none)))) none))) none))))) none))))) (more (list (p 3 3) (more (symbol (p 3 4) (codes "defrole")) (more (symbol (p 3 12) (codes "resp")) (more (list (p 3 17) (more (symbol (p 3 18) (codes "vars")) (more (list (p 3 23) (more (symbol (p 3 24) (codes "a")) (more (symbol (p 3 26) (codes "b")) (more (symbol (p 3 28) (codes "name")) none)))) (more (list (p 3 34) (more (symbol (p 3 35) (codes "n1")) (more (symbol (p 3 38) (codes "n2")) (more (symbol (p 3 41) (codes "text")) none)))) none)))) (more (list (p 3 48) (more (symbol (p 3 49) (codes "trace")) (more (list (p 3 55) (more (symbol (p 3 56) (codes "recv")) (more (list (p 3 61) (more (symbol (p 3 62) (codes "enc")) (more (symbol (p 3 66) (codes "n1")) (more (symbol (p 3 69) (codes "a")) (more (list (p 3 71) (more (symbol (p 3 72) (codes "pubk")) (more (symbol (p 3 77) (codes "b")) none))) none))))) none))) (more (list (p 3 82) (more (symbol (p 3 83) (codes "send")) (more (list (p 3 88) (more (symbol (p 3 89) (codes "enc")) (more (symbol (p 3 93) (codes "n1")) (more (symbol (p 3 96) (codes "n2")) (more (list (p 3 99) (more (symbol (p 3 100) (codes "pubk")) (more (symbol (p 3 105) (codes "a")) none))) none))))) none))) (more (list (p 3 110) (more (symbol (p 3 111) (codes "recv")) (more (list (p 3 116) (more (symbol (p 3 117) (codes "enc")) (more (symbol (p 3 121) (codes "n2")) (more (list (p 3 124) (more (symbol (p 3 125) (codes "pubk")) (more (symbol (p 3 130) (codes "b")) none))) none)))) none))) none))))) none))))) none)))))) (more (list (p 4 1) (more (symbol (p 4 2) (codes "defskeleton")) (more (symbol (p 4 14) (codes "ns")) (more (list (p 5 3) (more (symbol (p 5 4) (codes "vars")) (more (list (p 5 9) (more (symbol (p 5 10) (codes "n1")) (more (symbol (p 5 13) (codes "text")) none))) none))) (more (list (p 6 3) (more (symbol (p 6 4) (codes "defstrand")) (more (symbol (p 6 14) (codes "init")) (more (number (p 6 19) 1) (more (list (p 6 21) (more (symbol (p 6 22) (codes "n1")) (more (symbol (p 6 25) (codes "n1")) none))) none))))) (more (list (p 7 3) (more (symbol (p 7 4) (codes "uniq-orig")) (more (symbol (p 7 14) (codes "n1")) none))) none)))))) none))

abbrev input_exchange : Forms
input_exchange = (more (list (p 1 1) (more (symbol (p 1 2) (codes "defprotocol")) (more (symbol (p 1 14) (codes "ns")) (more (symbol (p 1 17) (codes "basic")) (more (list (p 2 3) (more (symbol (p 2 4) (codes "defrole")) (more (symbol (p 2 12) (codes "init")) (more (list (p 2 17) (more (symbol (p 2 18) (codes "vars")) (more (list (p 2 23) (more (symbol (p 2 24) (codes "a")) (more (symbol (p 2 26) (codes "b")) (more (symbol (p 2 28) (codes "name")) none)))) (more (list (p 2 34) (more (symbol (p 2 35) (codes "n1")) (more (symbol (p 2 38) (codes "n2")) (more (symbol (p 2 41) (codes "text")) none)))) none)))) (more (list (p 2 48) (more (symbol (p 2 49) (codes "trace")) (more (list (p 2 55) (more (symbol (p 2 56) (codes "send")) (more (list (p 2 61) (more (symbol (p 2 62) (codes "enc")) (more (symbol (p 2 66) (codes "n1")) (more (symbol (p 2 69) (codes "a")) (more (list (p 2 71) (more (symbol (p 2 72) (codes "pubk")) (more (symbol (p 2 77) (codes "b")) none))) none))))) none))) (more (list (p 2 82) (more (symbol (p 2 83) (codes "recv")) (more (list (p 2 88) (more (symbol (p 2 89) (codes "enc")) (more (symbol (p 2 93) (codes "n1")) (more (symbol (p 2 96) (codes "n2")) (more (list (p 2 99) (more (symbol (p 2 100) (codes "pubk")) (more (symbol (p 2 105) (codes "a")) none))) none))))) none))) (more (list (p 2 110) (more (symbol (p 2 111) (codes "send")) (more (list (p 2 116) (more (symbol (p 2 117) (codes "enc")) (more (symbol (p 2 121) (codes "n2")) (more (list (p 2 124) (more (symbol (p 2 125) (codes "pubk")) (more (symbol (p 2 130) (codes "b")) none))) none)))) none))) none))))) none))))) (more (list (p 3 3) (more (symbol (p 3 4) (codes "defrole")) (more (symbol (p 3 12) (codes "resp")) (more (list (p 3 17) (more (symbol (p 3 18) (codes "vars")) (more (list (p 3 23) (more (symbol (p 3 24) (codes "a")) (more (symbol (p 3 26) (codes "b")) (more (symbol (p 3 28) (codes "name")) none)))) (more (list (p 3 34) (more (symbol (p 3 35) (codes "n1")) (more (symbol (p 3 38) (codes "n2")) (more (symbol (p 3 41) (codes "text")) none)))) none)))) (more (list (p 3 48) (more (symbol (p 3 49) (codes "trace")) (more (list (p 3 55) (more (symbol (p 3 56) (codes "recv")) (more (list (p 3 61) (more (symbol (p 3 62) (codes "enc")) (more (symbol (p 3 66) (codes "n1")) (more (symbol (p 3 69) (codes "a")) (more (list (p 3 71) (more (symbol (p 3 72) (codes "pubk")) (more (symbol (p 3 77) (codes "b")) none))) none))))) none))) (more (list (p 3 82) (more (symbol (p 3 83) (codes "send")) (more (list (p 3 88) (more (symbol (p 3 89) (codes "enc")) (more (symbol (p 3 93) (codes "n1")) (more (symbol (p 3 96) (codes "n2")) (more (list (p 3 99) (more (symbol (p 3 100) (codes "pubk")) (more (symbol (p 3 105) (codes "a")) none))) none))))) none))) (more (list (p 3 110) (more (symbol (p 3 111) (codes "recv")) (more (list (p 3 116) (more (symbol (p 3 117) (codes "enc")) (more (symbol (p 3 121) (codes "n2")) (more (list (p 3 124) (more (symbol (p 3 125) (codes "pubk")) (more (symbol (p 3 130) (codes "b")) none))) none)))) none))) none))))) none))))) none)))))) (more (list (p 4 1) (more (symbol (p 4 2) (codes "defskeleton")) (more (symbol (p 4 14) (codes "ns")) (more (list (p 5 3) (more (symbol (p 5 4) (codes "vars")) (more (list (p 5 9) (more (symbol (p 5 10) (codes "a")) (more (symbol (p 5 12) (codes "b")) (more (symbol (p 5 14) (codes "name")) none)))) (more (list (p 5 20) (more (symbol (p 5 21) (codes "n1")) (more (symbol (p 5 24) (codes "n2")) (more (symbol (p 5 27) (codes "text")) none)))) none)))) (more (list (p 6 3) (more (symbol (p 6 4) (codes "defstrand")) (more (symbol (p 6 14) (codes "init")) (more (number (p 6 19) 3) (more (list (p 6 21) (more (symbol (p 6 22) (codes "a")) (more (symbol (p 6 24) (codes "a")) none))) (more (list (p 6 27) (more (symbol (p 6 28) (codes "b")) (more (symbol (p 6 30) (codes "b")) none))) (more (list (p 6 33) (more (symbol (p 6 34) (codes "n1")) (more (symbol (p 6 37) (codes "n1")) none))) (more (list (p 6 41) (more (symbol (p 6 42) (codes "n2")) (more (symbol (p 6 45) (codes "n2")) none))) none)))))))) (more (list (p 7 3) (more (symbol (p 7 4) (codes "non-orig")) (more (list (p 7 13) (more (symbol (p 7 14) (codes "privk")) (more (symbol (p 7 20) (codes "a")) none))) (more (list (p 7 23) (more (symbol (p 7 24) (codes "privk")) (more (symbol (p 7 30) (codes "b")) none))) none)))) (more (list (p 8 3) (more (symbol (p 8 4) (codes "uniq-orig")) (more (symbol (p 8 14) (codes "n1")) none))) none))))))) none))

abbrev input_twice : Forms
input_twice = (more (list (p 1 1) (more (symbol (p 1 2) (codes "defprotocol")) (more (symbol (p 1 14) (codes "ns")) (more (symbol (p 1 17) (codes "basic")) (more (list (p 2 3) (more (symbol (p 2 4) (codes "defrole")) (more (symbol (p 2 12) (codes "init")) (more (list (p 2 17) (more (symbol (p 2 18) (codes "vars")) (more (list (p 2 23) (more (symbol (p 2 24) (codes "a")) (more (symbol (p 2 26) (codes "b")) (more (symbol (p 2 28) (codes "name")) none)))) (more (list (p 2 34) (more (symbol (p 2 35) (codes "n1")) (more (symbol (p 2 38) (codes "n2")) (more (symbol (p 2 41) (codes "text")) none)))) none)))) (more (list (p 2 48) (more (symbol (p 2 49) (codes "trace")) (more (list (p 2 55) (more (symbol (p 2 56) (codes "send")) (more (list (p 2 61) (more (symbol (p 2 62) (codes "enc")) (more (symbol (p 2 66) (codes "n1")) (more (symbol (p 2 69) (codes "a")) (more (list (p 2 71) (more (symbol (p 2 72) (codes "pubk")) (more (symbol (p 2 77) (codes "b")) none))) none))))) none))) (more (list (p 2 82) (more (symbol (p 2 83) (codes "recv")) (more (list (p 2 88) (more (symbol (p 2 89) (codes "enc")) (more (symbol (p 2 93) (codes "n1")) (more (symbol (p 2 96) (codes "n2")) (more (list (p 2 99) (more (symbol (p 2 100) (codes "pubk")) (more (symbol (p 2 105) (codes "a")) none))) none))))) none))) (more (list (p 2 110) (more (symbol (p 2 111) (codes "send")) (more (list (p 2 116) (more (symbol (p 2 117) (codes "enc")) (more (symbol (p 2 121) (codes "n2")) (more (list (p 2 124) (more (symbol (p 2 125) (codes "pubk")) (more (symbol (p 2 130) (codes "b")) none))) none)))) none))) none))))) none))))) (more (list (p 3 3) (more (symbol (p 3 4) (codes "defrole")) (more (symbol (p 3 12) (codes "resp")) (more (list (p 3 17) (more (symbol (p 3 18) (codes "vars")) (more (list (p 3 23) (more (symbol (p 3 24) (codes "a")) (more (symbol (p 3 26) (codes "b")) (more (symbol (p 3 28) (codes "name")) none)))) (more (list (p 3 34) (more (symbol (p 3 35) (codes "n1")) (more (symbol (p 3 38) (codes "n2")) (more (symbol (p 3 41) (codes "text")) none)))) none)))) (more (list (p 3 48) (more (symbol (p 3 49) (codes "trace")) (more (list (p 3 55) (more (symbol (p 3 56) (codes "recv")) (more (list (p 3 61) (more (symbol (p 3 62) (codes "enc")) (more (symbol (p 3 66) (codes "n1")) (more (symbol (p 3 69) (codes "a")) (more (list (p 3 71) (more (symbol (p 3 72) (codes "pubk")) (more (symbol (p 3 77) (codes "b")) none))) none))))) none))) (more (list (p 3 82) (more (symbol (p 3 83) (codes "send")) (more (list (p 3 88) (more (symbol (p 3 89) (codes "enc")) (more (symbol (p 3 93) (codes "n1")) (more (symbol (p 3 96) (codes "n2")) (more (list (p 3 99) (more (symbol (p 3 100) (codes "pubk")) (more (symbol (p 3 105) (codes "a")) none))) none))))) none))) (more (list (p 3 110) (more (symbol (p 3 111) (codes "recv")) (more (list (p 3 116) (more (symbol (p 3 117) (codes "enc")) (more (symbol (p 3 121) (codes "n2")) (more (list (p 3 124) (more (symbol (p 3 125) (codes "pubk")) (more (symbol (p 3 130) (codes "b")) none))) none)))) none))) none))))) none))))) none)))))) (more (list (p 4 1) (more (symbol (p 4 2) (codes "defskeleton")) (more (symbol (p 4 14) (codes "ns")) (more (list (p 5 3) (more (symbol (p 5 4) (codes "vars")) (more (list (p 5 9) (more (symbol (p 5 10) (codes "n1")) (more (symbol (p 5 13) (codes "text")) none))) none))) (more (list (p 6 3) (more (symbol (p 6 4) (codes "defstrand")) (more (symbol (p 6 14) (codes "init")) (more (number (p 6 19) 1) (more (list (p 6 21) (more (symbol (p 6 22) (codes "n1")) (more (symbol (p 6 25) (codes "n1")) none))) none))))) (more (list (p 7 3) (more (symbol (p 7 4) (codes "defstrand")) (more (symbol (p 7 14) (codes "init")) (more (number (p 7 19) 1) (more (list (p 7 21) (more (symbol (p 7 22) (codes "n1")) (more (symbol (p 7 25) (codes "n1")) none))) none))))) (more (list (p 8 3) (more (symbol (p 8 4) (codes "uniq-orig")) (more (symbol (p 8 14) (codes "n1")) none))) none))))))) none))

abbrev text_named : List ℕ → Declaration
text_named t = record { identifier = t; sort = text_sort }

abbrev name_named : List ℕ → Declaration
name_named t = record { identifier = t; sort = name_sort }

-- The roles of the protocol, by hand.
abbrev role_variables : List Declaration
role_variables = name_named (codes "a") ∷ name_named (codes "b") ∷ text_named (codes "n1") ∷ text_named (codes "n2") ∷ []

abbrev first_message : Term
first_message = enc_term (pair_term (text_of 2) (name_of 0)) (public_of 1)

abbrev second_message : Term
second_message = enc_term (pair_term (text_of 2) (text_of 3)) (public_of 0)

abbrev third_message : Term
third_message = enc_term (text_of 3) (public_of 1)

abbrev role_of_trace : List ℕ → List (Event Term) → Role
role_of_trace name trace = record { name = name; variables = role_variables; trace = trace; non_originating = []; penetrator_non_originating = []; uniquely_originating = [] }

abbrev init : Role
init = role_of_trace (codes "init") (send first_message ∷ recv second_message ∷ send third_message ∷ [])

abbrev resp : Role
resp = role_of_trace (codes "resp") (recv first_message ∷ send second_message ∷ recv third_message ∷ [])

abbrev label_with : Option ℕ → Operation → Skeleton → List Node → Option Test → List Pattern → List ℕ → Option Mark → Label
label_with parent operation skeleton unrealised test escape children mark = record { parent = parent; operation = operation; skeleton = skeleton; unrealised = unrealised; test = test; escape = escape; children = children; mark = mark }

-- ---- one instance

abbrev tree_single : Tree
tree_single = record { labels = label_with None by_problem (skeleton_of (input_of input_single) no_skeleton) [] None [] [] (Some shape) ∷ []; outcome = complete }

report_single : report_text (input_of input_single) (tree_single ∷ []) ≡ line (codes "(defprotocol ns basic")
    (line (codes "  (defrole init (vars (a b name) (n1 n2 text)) (trace (send (enc n1 a (pubk b))) (recv (enc n1 n2 (pubk a))) (send (enc n2 (pubk b)))))")
    (line (codes "  (defrole resp (vars (a b name) (n1 n2 text)) (trace (recv (enc n1 a (pubk b))) (send (enc n1 n2 (pubk a))) (recv (enc n2 (pubk b))))))")
    (line (codes "(defskeleton ns")
    (line (codes "  (vars (n1 text))")
    (line (codes "  (defstrand init 1 (n1 n1))")
    (line (codes "  (uniq-orig n1))")
    (line (codes "(label 0")
    (line (codes "  (by problem)")
    (line (codes "  (vars (n1 text) (a name) (b name))")
    (line (codes "  (defstrand init 1 (a a) (b b) (n1 n1))")
    (line (codes "  (uniq-orig (n1 (0 0)))")
    (line (codes "  (map (0) (n1 n1) (a a) (b b))")
    (line (codes "  (shape))")
    (line (codes "(status complete labels 1 expanded 0 shapes 1)")
    ([])))))))))))))))
unfolding digits
report_single = refl

-- ---- an initiator and a responder

abbrev variables_of_exchange : List Declaration
variables_of_exchange = role_variables

abbrev variables_with_strand : List Declaration
variables_with_strand = role_variables ++ role_variables

abbrev assumptions_of_exchange : Assumptions
assumptions_of_exchange = record { non_originating = private_of 0 ∷ private_of 1 ∷ []; penetrator_non_originating = []; uniquely_originating = record { value = text_variable 2; origin = node_at 0 0 } ∷ [] }

abbrev initiator : SkeletonStrand
initiator = instance init 3 (bindings_of (name_of 0 ∷ name_of 1 ∷ text_of 2 ∷ text_of 3 ∷ []))

-- a responder whose own name is this variable
abbrev responder : ℕ → SkeletonStrand
responder b = instance resp 2 (bindings_of (name_of 0 ∷ name_of b ∷ text_of 2 ∷ text_of 3 ∷ []))

abbrev skeleton_exchange : List Declaration → List SkeletonStrand → List OrderPair → Skeleton
skeleton_exchange variables strands pairs = record { variables = variables; strands = strands; pairs = pairs; assumptions = assumptions_of_exchange; from_problem = record { strands = 0 ∷ []; values = name_of 0 ∷ name_of 1 ∷ text_of 2 ∷ text_of 3 ∷ []; assumptions = assumptions_of_exchange; pairs = [] } }

abbrev escape_exchange : List Pattern
escape_exchange = record { term = enc_term (pair_term (text_of 2) (name_of 0)) (public_of 1); locals = [] } ∷ record { term = enc_term (pair_term (text_of 2) (text_of 8)) (public_of 0); locals = record { sort = text_sort; number = 8 } ∷ [] } ∷ []

abbrev labels_exchange : List Label
labels_exchange =
    label_with None by_problem (skeleton_of (input_of input_exchange) no_skeleton) (node_at 0 1 ∷ [])
    (test_at 0 1 (enc_term (pair_term (text_of 2) (text_of 3)) (public_of 0))) [] (1 ∷ 2 ∷ []) None
    ∷ label_with (Some 0) (by_added_strand 1)
    (skeleton_exchange variables_with_strand (initiator ∷ responder 5 ∷ []) (pair_from (node_at 1 1) (node_at 0 1) ∷ pair_from (node_at 0 0) (node_at 1 0) ∷ []))
    (node_at 1 0 ∷ []) (test_at 1 0 (enc_term (pair_term (text_of 2) (name_of 0)) (public_of 5))) [] (3 ∷ 4 ∷ []) None
    ∷ label_with (Some 0) (by_added_listener 1)
    (skeleton_exchange variables_of_exchange (initiator ∷ listener (pair_term (text_of 2) (text_of 3)) ∷ []) (pair_from (node_at 1 1) (node_at 0 1) ∷ pair_from (node_at 0 0) (node_at 1 0) ∷ []))
    (node_at 0 1 ∷ node_at 1 0 ∷ []) (test_at 1 0 (text_of 2)) escape_exchange [] (Some dead)
    ∷ label_with (Some 1) (by_contraction (node_at 0 0))
    (skeleton_exchange variables_with_strand (initiator ∷ responder 1 ∷ []) (pair_from (node_at 1 1) (node_at 0 1) ∷ pair_from (node_at 0 0) (node_at 1 0) ∷ []))
    [] None [] [] (Some shape)
    ∷ label_with (Some 1) (by_added_listener 2)
    (skeleton_exchange variables_with_strand (initiator ∷ responder 5 ∷ listener (pair_term (text_of 2) (name_of 0)) ∷ [])
    (pair_from (node_at 1 1) (node_at 0 1) ∷ pair_from (node_at 0 0) (node_at 1 0) ∷ pair_from (node_at 2 1) (node_at 1 0) ∷ pair_from (node_at 0 0) (node_at 2 0) ∷ []))
    (node_at 1 0 ∷ node_at 2 0 ∷ []) (test_at 2 0 (text_of 2)) escape_exchange [] (Some dead)
    ∷ []

abbrev tree_exchange : Tree
tree_exchange = record { labels = labels_exchange; outcome = complete }

-- the lines of the input, those of some labels, those of the shape, and what stands behind them
abbrev lines_exchange : (List ℕ → List ℕ) → List ℕ → List ℕ
lines_exchange labels rest = line (codes "(defprotocol ns basic")
    (line (codes "  (defrole init (vars (a b name) (n1 n2 text)) (trace (send (enc n1 a (pubk b))) (recv (enc n1 n2 (pubk a))) (send (enc n2 (pubk b)))))")
    (line (codes "  (defrole resp (vars (a b name) (n1 n2 text)) (trace (recv (enc n1 a (pubk b))) (send (enc n1 n2 (pubk a))) (recv (enc n2 (pubk b))))))")
    (line (codes "(defskeleton ns")
    (line (codes "  (vars (a b name) (n1 n2 text))")
    (line (codes "  (defstrand init 3 (a a) (b b) (n1 n1) (n2 n2))")
    (line (codes "  (non-orig (privk a) (privk b))")
    (line (codes "  (uniq-orig n1))")
    (labels
    (line (codes "(label 3")
    (line (codes "  (parent 1)")
    (line (codes "  (by contracted 0 0)")
    (line (codes "  (vars (a name) (b name) (n1 text) (n2 text))")
    (line (codes "  (defstrand init 3 (a a) (b b) (n1 n1) (n2 n2))")
    (line (codes "  (defstrand resp 2 (a a) (b b) (n1 n1) (n2 n2))")
    (line (codes "  (precedes ((0 0) (1 0)) ((1 1) (0 1)))")
    (line (codes "  (non-orig (privk a) (privk b))")
    (line (codes "  (uniq-orig (n1 (0 0)))")
    (line (codes "  (map (0) (a a) (b b) (n1 n1) (n2 n2))")
    (line (codes "  (shape))")
    rest)))))))))))))))))))

report_exchange : report_text (input_of input_exchange) (tree_exchange ∷ []) ≡ lines_exchange (λ shape. line (codes "(label 0")
    (line (codes "  (by problem)")
    (line (codes "  (vars (a name) (b name) (n1 text) (n2 text))")
    (line (codes "  (defstrand init 3 (a a) (b b) (n1 n1) (n2 n2))")
    (line (codes "  (non-orig (privk a) (privk b))")
    (line (codes "  (uniq-orig (n1 (0 0)))")
    (line (codes "  (map (0) (a a) (b b) (n1 n1) (n2 n2))")
    (line (codes "  (unrealised (0 1))")
    (line (codes "  (test (0 1) (enc n1 n2 (pubk a)))")
    (line (codes "  (children 1 2))")
    (line (codes "(label 1")
    (line (codes "  (parent 0)")
    (line (codes "  (by added-strand 1)")
    (line (codes "  (vars (a name) (b name) (n1 text) (n2 text) (b-0 name))")
    (line (codes "  (defstrand init 3 (a a) (b b) (n1 n1) (n2 n2))")
    (line (codes "  (defstrand resp 2 (a a) (b b-0) (n1 n1) (n2 n2))")
    (line (codes "  (precedes ((0 0) (1 0)) ((1 1) (0 1)))")
    (line (codes "  (non-orig (privk a) (privk b))")
    (line (codes "  (uniq-orig (n1 (0 0)))")
    (line (codes "  (map (0) (a a) (b b) (n1 n1) (n2 n2))")
    (line (codes "  (unrealised (1 0))")
    (line (codes "  (test (1 0) (enc n1 a (pubk b-0)))")
    (line (codes "  (children 3 4))")
    (line (codes "(label 2")
    (line (codes "  (parent 0)")
    (line (codes "  (by added-listener 1)")
    (line (codes "  (vars (a name) (b name) (n1 text) (n2 text))")
    (line (codes "  (defstrand init 3 (a a) (b b) (n1 n1) (n2 n2))")
    (line (codes "  (deflistener (cat n1 n2))")
    (line (codes "  (precedes ((0 0) (1 0)) ((1 1) (0 1)))")
    (line (codes "  (non-orig (privk a) (privk b))")
    (line (codes "  (uniq-orig (n1 (0 0)))")
    (line (codes "  (map (0) (a a) (b b) (n1 n1) (n2 n2))")
    (line (codes "  (unrealised (0 1) (1 0))")
    (line (codes "  (test (1 0) n1)")
    (line (codes "  (escape (enc n1 a (pubk b)) (enc n1 (any text 0) (pubk a)))")
    (line (codes "  (dead))")
    shape)))))))))))))))))))))))))))))))))))))
    (line (codes "(label 4")
    (line (codes "  (parent 1)")
    (line (codes "  (by added-listener 2)")
    (line (codes "  (vars (a name) (b name) (n1 text) (n2 text) (b-0 name))")
    (line (codes "  (defstrand init 3 (a a) (b b) (n1 n1) (n2 n2))")
    (line (codes "  (defstrand resp 2 (a a) (b b-0) (n1 n1) (n2 n2))")
    (line (codes "  (deflistener (cat n1 a))")
    (line (codes "  (precedes ((0 0) (2 0)) ((1 1) (0 1)) ((2 1) (1 0)))")
    (line (codes "  (non-orig (privk a) (privk b))")
    (line (codes "  (uniq-orig (n1 (0 0)))")
    (line (codes "  (map (0) (a a) (b b) (n1 n1) (n2 n2))")
    (line (codes "  (unrealised (1 0) (2 0))")
    (line (codes "  (test (2 0) n1)")
    (line (codes "  (escape (enc n1 a (pubk b)) (enc n1 (any text 0) (pubk a)))")
    (line (codes "  (dead))")
    (line (codes "(status complete labels 5 expanded 4 shapes 1)")
    []))))))))))))))))
unfolding digits
report_exchange = refl

-- of its shapes alone
shapes_exchange : shapes_text (input_of input_exchange) (tree_exchange ∷ []) ≡ lines_exchange (λ shape. shape) (line (codes "(status complete labels 5 expanded 4 shapes 1)") [])
unfolding digits
shapes_exchange = refl

-- ---- two initiators with one unique value

abbrev variables_of_twice : List Declaration
variables_of_twice = text_named (codes "n1") ∷ name_named (codes "a") ∷ name_named (codes "b") ∷ name_named (codes "a") ∷ name_named (codes "b") ∷ []

abbrev unique_of_twice : Assumptions
unique_of_twice = record { non_originating = []; penetrator_non_originating = []; uniquely_originating = record { value = text_variable 0; origin = node_at 0 0 } ∷ [] }

abbrev skeleton_twice : Skeleton
skeleton_twice = record {
  variables = variables_of_twice;
  strands = instance init 1 (bindings_of (name_of 1 ∷ name_of 2 ∷ text_of 0 ∷ [])) ∷ [];
  pairs = [];
  assumptions = unique_of_twice;
  from_problem = record { strands = 0 ∷ 0 ∷ []; values = text_of 0 ∷ name_of 1 ∷ name_of 2 ∷ name_of 1 ∷ name_of 2 ∷ []; assumptions = unique_of_twice; pairs = [] };
}

abbrev tree_twice : Tree
tree_twice = record {
  labels =
      label_with None by_problem (skeleton_of (input_of input_twice) no_skeleton) [] None [] [] (Some dead)
      ∷ label_with None (by_collapse (0 ∷ 0 ∷ [])) skeleton_twice [] None [] [] (Some shape)
      ∷ [];
  outcome = complete;
}

report_twice : report_text (input_of input_twice) (tree_twice ∷ []) ≡ line (codes "(defprotocol ns basic")
    (line (codes "  (defrole init (vars (a b name) (n1 n2 text)) (trace (send (enc n1 a (pubk b))) (recv (enc n1 n2 (pubk a))) (send (enc n2 (pubk b)))))")
    (line (codes "  (defrole resp (vars (a b name) (n1 n2 text)) (trace (recv (enc n1 a (pubk b))) (send (enc n1 n2 (pubk a))) (recv (enc n2 (pubk b))))))")
    (line (codes "(defskeleton ns")
    (line (codes "  (vars (n1 text))")
    (line (codes "  (defstrand init 1 (n1 n1))")
    (line (codes "  (defstrand init 1 (n1 n1))")
    (line (codes "  (uniq-orig n1))")
    (line (codes "(label 0")
    (line (codes "  (by problem)")
    (line (codes "  (vars (n1 text) (a name) (b name) (a-0 name) (b-0 name))")
    (line (codes "  (defstrand init 1 (a a) (b b) (n1 n1))")
    (line (codes "  (defstrand init 1 (a a-0) (b b-0) (n1 n1))")
    (line (codes "  (uniq-orig (n1 (0 0)) (n1 (1 0)))")
    (line (codes "  (map (0 1) (n1 n1) (a a) (b b) (a-0 a-0) (b-0 b-0))")
    (line (codes "  (dead))")
    (line (codes "(label 1")
    (line (codes "  (by collapsed 0 0)")
    (line (codes "  (vars (n1 text) (a name) (b name))")
    (line (codes "  (defstrand init 1 (a a) (b b) (n1 n1))")
    (line (codes "  (uniq-orig (n1 (0 0)))")
    (line (codes "  (map (0 0) (n1 n1) (a a) (b b) (a-0 a) (b-0 b))")
    (line (codes "  (shape))")
    (line (codes "(status complete labels 2 expanded 0 shapes 1)")
    ([]))))))))))))))))))))))))
unfolding digits
report_twice = refl

-- ---- every kind of item

abbrev input_many : Forms
input_many = (more (list (p 1 1) (more (symbol (p 1 2) (codes "herald")) (more (string (p 1 9) (codes "x")) (more (list (p 2 3) (more (symbol (p 2 4) (codes "bound")) (more (number (p 2 10) 4) none))) none)))) (more (list (p 3 1) (more (symbol (p 3 2) (codes "defprotocol")) (more (symbol (p 3 14) (codes "q")) (more (symbol (p 3 16) (codes "basic")) (more (list (p 4 3) (more (symbol (p 4 4) (codes "defrole")) (more (symbol (p 4 12) (codes "s")) (more (list (p 4 14) (more (symbol (p 4 15) (codes "vars")) (more (list (p 4 20) (more (symbol (p 4 21) (codes "a")) (more (symbol (p 4 23) (codes "b")) (more (symbol (p 4 25) (codes "name")) none)))) (more (list (p 4 31) (more (symbol (p 4 32) (codes "n")) (more (symbol (p 4 34) (codes "text")) none))) (more (list (p 4 40) (more (symbol (p 4 41) (codes "k")) (more (symbol (p 4 43) (codes "skey")) none))) (more (list (p 4 49) (more (symbol (p 4 50) (codes "e")) (more (symbol (p 4 52) (codes "akey")) none))) (more (list (p 4 58) (more (symbol (p 4 59) (codes "d")) (more (symbol (p 4 61) (codes "data")) none))) none))))))) (more (list (p 4 68) (more (symbol (p 4 69) (codes "trace")) (more (list (p 4 75) (more (symbol (p 4 76) (codes "send")) (more (list (p 4 81) (more (symbol (p 4 82) (codes "cat")) (more (string (p 4 86) (codes "t")) (more (symbol (p 4 90) (codes "a")) (more (list (p 4 92) (more (symbol (p 4 93) (codes "cat")) (more (symbol (p 4 97) (codes "n")) (more (symbol (p 4 99) (codes "d")) none)))) (more (list (p 4 102) (more (symbol (p 4 103) (codes "enc")) (more (list (p 4 107) (more (symbol (p 4 108) (codes "cat")) (more (symbol (p 4 112) (codes "a")) (more (symbol (p 4 114) (codes "b")) none)))) (more (symbol (p 4 117) (codes "n")) (more (list (p 4 119) (more (symbol (p 4 120) (codes "invk")) (more (symbol (p 4 125) (codes "e")) none))) none))))) none)))))) none))) (more (list (p 4 131) (more (symbol (p 4 132) (codes "recv")) (more (list (p 4 137) (more (symbol (p 4 138) (codes "enc")) (more (string (p 4 142) (codes "x")) (more (symbol (p 4 146) (codes "k")) none)))) none))) (more (list (p 4 150) (more (symbol (p 4 151) (codes "send")) (more (list (p 4 156) (more (symbol (p 4 157) (codes "pubk")) (more (string (p 4 162) (codes "p")) (more (symbol (p 4 166) (codes "a")) none)))) none))) none))))) (more (list (p 4 171) (more (symbol (p 4 172) (codes "non-orig")) (more (list (p 4 181) (more (symbol (p 4 182) (codes "privk")) (more (symbol (p 4 188) (codes "a")) none))) none))) (more (list (p 4 192) (more (symbol (p 4 193) (codes "pen-non-orig")) (more (symbol (p 4 206) (codes "k")) none))) none))))))) none))))) (more (list (p 5 1) (more (symbol (p 5 2) (codes "defskeleton")) (more (symbol (p 5 14) (codes "q")) (more (list (p 6 3) (more (symbol (p 6 4) (codes "vars")) (more (list (p 6 9) (more (symbol (p 6 10) (codes "a")) (more (symbol (p 6 12) (codes "name")) none))) (more (list (p 6 18) (more (symbol (p 6 19) (codes "x")) (more (symbol (p 6 21) (codes "text")) none))) (more (list (p 6 27) (more (symbol (p 6 28) (codes "e")) (more (symbol (p 6 30) (codes "akey")) none))) none))))) (more (list (p 7 3) (more (symbol (p 7 4) (codes "defstrand")) (more (symbol (p 7 14) (codes "s")) (more (number (p 7 16) 1) (more (list (p 7 18) (more (symbol (p 7 19) (codes "a")) (more (symbol (p 7 21) (codes "a")) none))) (more (list (p 7 24) (more (symbol (p 7 25) (codes "n")) (more (symbol (p 7 27) (codes "x")) none))) (more (list (p 7 30) (more (symbol (p 7 31) (codes "e")) (more (list (p 7 33) (more (symbol (p 7 34) (codes "invk")) (more (symbol (p 7 39) (codes "e")) none))) none))) none))))))) (more (list (p 8 3) (more (symbol (p 8 4) (codes "deflistener")) (more (list (p 8 16) (more (symbol (p 8 17) (codes "cat")) (more (list (p 8 21) (more (symbol (p 8 22) (codes "cat")) (more (symbol (p 8 26) (codes "x")) (more (symbol (p 8 28) (codes "a")) none)))) (more (symbol (p 8 31) (codes "x")) none)))) none))) (more (list (p 9 3) (more (symbol (p 9 4) (codes "deflistener")) (more (list (p 9 16) (more (symbol (p 9 17) (codes "enc")) (more (list (p 9 21) (more (symbol (p 9 22) (codes "cat")) (more (symbol (p 9 26) (codes "x")) (more (list (p 9 28) (more (symbol (p 9 29) (codes "cat")) (more (symbol (p 9 33) (codes "a")) (more (symbol (p 9 35) (codes "x")) none)))) none)))) (more (list (p 9 39) (more (symbol (p 9 40) (codes "ltk")) (more (symbol (p 9 44) (codes "a")) (more (symbol (p 9 46) (codes "a")) none)))) none)))) none))) (more (list (p 10 3) (more (symbol (p 10 4) (codes "non-orig")) (more (list (p 10 13) (more (symbol (p 10 14) (codes "invk")) (more (symbol (p 10 19) (codes "e")) none))) (more (list (p 10 22) (more (symbol (p 10 23) (codes "privk")) (more (string (p 10 29) (codes "p")) (more (symbol (p 10 33) (codes "a")) none)))) (more (list (p 10 36) (more (symbol (p 10 37) (codes "invk")) (more (symbol (p 10 42) (codes "e")) none))) none))))) (more (list (p 11 3) (more (symbol (p 11 4) (codes "precedes")) (more (list (p 11 13) (more (list (p 11 14) (more (number (p 11 15) 0) (more (number (p 11 17) 0) none))) (more (list (p 11 20) (more (number (p 11 21) 1) (more (number (p 11 23) 0) none))) none))) (more (list (p 11 27) (more (list (p 11 28) (more (number (p 11 29) 1) (more (number (p 11 31) 1) none))) (more (list (p 11 34) (more (number (p 11 35) 2) (more (number (p 11 37) 0) none))) none))) (more (list (p 11 41) (more (list (p 11 42) (more (number (p 11 43) 0) (more (number (p 11 45) 0) none))) (more (list (p 11 48) (more (number (p 11 49) 2) (more (number (p 11 51) 0) none))) none))) none))))) (more (list (p 12 3) (more (symbol (p 12 4) (codes "uniq-orig")) (more (symbol (p 12 14) (codes "x")) none))) none)))))))))) none)))

abbrev role_many : Role
role_many = record {
  name = codes "s";
  variables = name_named (codes "a") ∷ name_named (codes "b") ∷ text_named (codes "n") ∷ record { identifier = codes "k"; sort = skey_sort } ∷ record { identifier = codes "e"; sort = akey_sort } ∷ record { identifier = codes "d"; sort = datum_sort } ∷ [];
  trace = send (pair_term (tag_term (codes "t")) (pair_term (name_of 0) (pair_term (pair_term (text_of 2) (atom_term (datum_variable 5))) (enc_term (pair_term (pair_term (name_of 0) (name_of 1)) (text_of 2)) (asymmetric_term true (akey_variable 4))))))
      ∷ recv (enc_term (tag_term (codes "x")) (symmetric_term (skey_variable 3))) ∷ send (atom_term (key_term (asymmetric_term false (pubk_term (Some (codes "p")) 0)))) ∷ [];
  non_originating = private_of 0 ∷ [];
  penetrator_non_originating = key_term (symmetric_term (skey_variable 3)) ∷ [];
  uniquely_originating = [];
}

-- the problem's variables are a, x, e, b and d, of which b and d are made for the instance
abbrev variables_many : List Declaration
variables_many =
    name_named (codes "a") ∷ text_named (codes "x") ∷ record { identifier = codes "e"; sort = akey_sort } ∷ name_named (codes "b") ∷ record { identifier = codes "d"; sort = datum_sort }
    ∷ name_named (codes "b") ∷ name_named (codes "b") ∷ text_named (codes "n") ∷ text_named (codes "n") ∷ record { identifier = codes "k"; sort = skey_sort } ∷ []

abbrev key_of : KeyTerm → Term
key_of k = atom_term (key_term k)

abbrev local : Sort → ℕ → Variable
local s n = record { sort = s; number = n }

abbrev pattern_many : Pattern
pattern_many = record {
  term = enc_term (pair_term (text_of 20) (enc_term (pair_term (name_of 21) (text_of 20)) (asymmetric_term true (akey_variable 0)))) (symmetric_term (ltk_term 0 0));
  locals = local akey_sort 0 ∷ local name_sort 21 ∷ local text_sort 20 ∷ [];
}

-- its assumptions stand in another order than that of a report, and one of them twice
abbrev skeleton_many : Skeleton
skeleton_many = record {
  variables = variables_many;
  strands =
      instance role_many 3 (bindings_of (name_of 0 ∷ name_of 5 ∷ text_of 1 ∷ key_of (symmetric_term (skey_variable 9)) ∷ key_of (asymmetric_term false (pubk_term (Some []) 0)) ∷ atom_term (datum_variable 4) ∷ []))
      ∷ instance role_many 1 (bindings_of (name_of 6 ∷ name_of 0 ∷ text_of 8 ∷ tag_term [] ∷ key_of (asymmetric_term false (akey_variable 2)) ∷ atom_term (datum_variable 4) ∷ [])) ∷ [];
  pairs = [];
  assumptions = record { non_originating = key_term (symmetric_term (ltk_term 0 6)) ∷ private_of 0 ∷ key_term (symmetric_term (ltk_term 0 6)) ∷ []; penetrator_non_originating = key_term (symmetric_term (skey_variable 9)) ∷ []; uniquely_originating = [] };
  from_problem = record { strands = 0 ∷ 1 ∷ 0 ∷ []; values = name_of 0 ∷ text_of 1 ∷ key_of (asymmetric_term false (pubk_term (Some []) 0)) ∷ name_of 5 ∷ atom_term (datum_variable 4) ∷ []; assumptions = no_assumptions; pairs = [] };
}

abbrev tags_only : Skeleton
tags_only = record {
  variables = variables_many;
  strands = listener (tag_term (codes "t")) ∷ [];
  pairs = [];
  assumptions = no_assumptions;
  from_problem = record { strands = []; values = tag_term (codes "u") ∷ pair_term (tag_term (codes "u")) (tag_term (codes "v")) ∷ tag_term (codes "w") ∷ tag_term (codes "b") ∷ tag_term (codes "d") ∷ []; assumptions = no_assumptions; pairs = [] };
}

abbrev tree_many : Tree
tree_many = record {
  labels =
      label_with None by_problem (skeleton_of (input_of input_many) no_skeleton) (node_at 1 0 ∷ node_at 2 0 ∷ []) None [] [] (Some limit_strands)
      ∷ label_with (Some 0) (by_displacement (node_at 0 2)) skeleton_many (node_at 0 1 ∷ []) (test_at 0 1 (enc_term (tag_term (codes "x")) (symmetric_term (skey_variable 9)))) (pattern_many ∷ []) (2 ∷ 3 ∷ []) None
      ∷ label_with (Some 1) by_generalising tags_only [] None [] [] (Some (instance_of 10))
      ∷ label_with (Some 1) (by_added_listener 2) no_skeleton [] None [] [] (Some (seen 12))
      ∷ label_with None (by_collapse (0 ∷ 0 ∷ 2 ∷ [])) no_skeleton [] None [] [] (Some limit_steps)
      ∷ [];
  outcome = at_strand_limit;
}

-- the lines of the input, and what stands behind them
abbrev input_lines_many : List ℕ → List ℕ
input_lines_many rest = line (codes "(herald " ++ 34 ∷ codes "x" ++ 34 ∷ codes "")
    (line (codes "  (bound 4))")
    (line (codes "(defprotocol q basic")
    (line (codes "  (defrole s (vars (a b name) (n text) (k skey) (e akey) (d data)) (trace (send (cat " ++ 34 ∷ codes "t" ++ 34 ∷ codes " a (cat n d) (enc (cat a b) n (invk e)))) (recv (enc " ++ 34 ∷ codes "x" ++ 34 ∷ codes " k)) (send (pubk " ++ 34 ∷ codes "p" ++ 34 ∷ codes " a))) (non-orig (privk a)) (pen-non-orig k)))")
    (line (codes "(defskeleton q")
    (line (codes "  (vars (a name) (x text) (e akey))")
    (line (codes "  (defstrand s 1 (a a) (n x) (e (invk e)))")
    (line (codes "  (deflistener (cat (cat x a) x))")
    (line (codes "  (deflistener (enc (cat x (cat a x)) (ltk a a)))")
    (line (codes "  (non-orig (invk e) (privk " ++ 34 ∷ codes "p" ++ 34 ∷ codes " a) (invk e))")
    (line (codes "  (precedes ((0 0) (1 0)) ((1 1) (2 0)) ((0 0) (2 0)))")
    (line (codes "  (uniq-orig x))")
    rest)))))))))))

report_many : report_text (input_of input_many) (tree_many ∷ []) ≡ input_lines_many
    (line (codes "(label 0")
    (line (codes "  (by problem)")
    (line (codes "  (vars (a name) (x text) (e akey) (b name) (d data))")
    (line (codes "  (defstrand s 1 (a a) (b b) (n x) (e (invk e)) (d d))")
    (line (codes "  (deflistener (cat (cat x a) x))")
    (line (codes "  (deflistener (enc x a x (ltk a a)))")
    (line (codes "  (precedes ((0 0) (1 0)) ((1 1) (2 0)))")
    (line (codes "  (non-orig (invk e) (privk " ++ 34 ∷ codes "p" ++ 34 ∷ codes " a) (privk a))")
    (line (codes "  (uniq-orig (x (0 0)))")
    (line (codes "  (map (0 1 2) (a a) (x x) (e e) (b b) (d d))")
    (line (codes "  (unrealised (1 0) (2 0))")
    (line (codes "  (limit strands))")
    (line (codes "(label 1")
    (line (codes "  (parent 0)")
    (line (codes "  (by displaced 0 2)")
    (line (codes "  (vars (a name) (x text) (e akey) (d data) (b-0 name) (b-1 name) (n text) (k skey))")
    (line (codes "  (defstrand s 3 (a a) (b b-0) (n x) (k k) (e (pubk " ++ 34 ∷ codes "" ++ 34 ∷ codes " a)) (d d))")
    (line (codes "  (defstrand s 1 (a b-1) (b a) (n n) (e e) (d d))")
    (line (codes "  (non-orig (privk a) (ltk a b-1))")
    (line (codes "  (pen-non-orig k)")
    (line (codes "  (map (0 1 0) (a a) (x x) (e (pubk " ++ 34 ∷ codes "" ++ 34 ∷ codes " a)) (b b-0) (d d))")
    (line (codes "  (unrealised (0 1))")
    (line (codes "  (test (0 1) (enc " ++ 34 ∷ codes "x" ++ 34 ∷ codes " k))")
    (line (codes "  (escape (enc (any text 0) (enc (any name 1) (any text 0) (invk (any akey 2))) (ltk a a)))")
    (line (codes "  (children 2 3))")
    (line (codes "(label 2")
    (line (codes "  (parent 1)")
    (line (codes "  (by generalised)")
    (line (codes "  (deflistener " ++ 34 ∷ codes "t" ++ 34 ∷ codes ")")
    (line (codes "  (map () (a " ++ 34 ∷ codes "u" ++ 34 ∷ codes ") (x (cat " ++ 34 ∷ codes "u" ++ 34 ∷ codes " " ++ 34 ∷ codes "v" ++ 34 ∷ codes ")) (e " ++ 34 ∷ codes "w" ++ 34 ∷ codes ") (b " ++ 34 ∷ codes "b" ++ 34 ∷ codes ") (d " ++ 34 ∷ codes "d" ++ 34 ∷ codes "))")
    (line (codes "  (instance-of 10))")
    (line (codes "(label 3")
    (line (codes "  (parent 1)")
    (line (codes "  (by added-listener 2)")
    (line (codes "  (map ())")
    (line (codes "  (seen 12))")
    (line (codes "(label 4")
    (line (codes "  (by collapsed 0 0 2)")
    (line (codes "  (map ())")
    (line (codes "  (limit steps))")
    (line (codes "(status limit strands labels 5 expanded 1 shapes 0)")
    [])))))))))))))))))))))))))))))))))))))))))
unfolding digits
report_many = refl

-- no label of which is a shape
shapes_many : shapes_text (input_of input_many) (tree_many ∷ []) ≡ input_lines_many
    (line (codes "(status limit strands labels 5 expanded 1 shapes 0)")
    [])
unfolding digits
shapes_many = refl

-- ---- fresh variables and what roles assume

abbrev input_fresh : Forms
input_fresh = (more (list (p 1 1) (more (symbol (p 1 2) (codes "defprotocol")) (more (symbol (p 1 14) (codes "p")) (more (symbol (p 1 16) (codes "basic")) (more (list (p 2 3) (more (symbol (p 2 4) (codes "defrole")) (more (symbol (p 2 12) (codes "r")) (more (list (p 2 14) (more (symbol (p 2 15) (codes "vars")) (more (list (p 2 20) (more (symbol (p 2 21) (codes "n")) (more (symbol (p 2 23) (codes "text")) none))) (more (list (p 2 29) (more (symbol (p 2 30) (codes "a")) (more (symbol (p 2 32) (codes "b")) (more (symbol (p 2 34) (codes "name")) none)))) none)))) (more (list (p 2 41) (more (symbol (p 2 42) (codes "trace")) (more (list (p 2 48) (more (symbol (p 2 49) (codes "send")) (more (list (p 2 54) (more (symbol (p 2 55) (codes "enc")) (more (symbol (p 2 59) (codes "n")) (more (symbol (p 2 61) (codes "a")) (more (list (p 2 63) (more (symbol (p 2 64) (codes "pubk")) (more (symbol (p 2 69) (codes "b")) none))) none))))) none))) (more (list (p 2 74) (more (symbol (p 2 75) (codes "recv")) (more (symbol (p 2 80) (codes "n")) none))) none)))) (more (list (p 2 84) (more (symbol (p 2 85) (codes "non-orig")) (more (list (p 2 94) (more (symbol (p 2 95) (codes "privk")) (more (symbol (p 2 101) (codes "b")) none))) none))) (more (list (p 2 105) (more (symbol (p 2 106) (codes "comment")) (more (string (p 2 114) (codes "x")) none))) (more (list (p 2 119) (more (symbol (p 2 120) (codes "non-orig")) (more (list (p 2 129) (more (symbol (p 2 130) (codes "privk")) (more (symbol (p 2 136) (codes "a")) none))) none))) (more (list (p 2 140) (more (symbol (p 2 141) (codes "pen-non-orig")) (more (symbol (p 2 154) (codes "n")) none))) (more (list (p 2 157) (more (symbol (p 2 158) (codes "uniq-orig")) (more (symbol (p 2 168) (codes "n")) (more (symbol (p 2 170) (codes "n")) none)))) none)))))))))) none))))) (more (list (p 3 1) (more (symbol (p 3 2) (codes "comment")) (more (list (p 4 3) (more (number (p 4 4) 1) none)) (more (symbol (p 4 7) (codes "x")) none)))) (more (list (p 5 1) (more (symbol (p 5 2) (codes "defskeleton")) (more (symbol (p 5 14) (codes "p")) (more (list (p 6 3) (more (symbol (p 6 4) (codes "vars")) (more (list (p 6 9) (more (symbol (p 6 10) (codes "m")) (more (symbol (p 6 12) (codes "text")) none))) (more (list (p 6 18) (more (symbol (p 6 19) (codes "a-0")) (more (symbol (p 6 23) (codes "name")) none))) none)))) (more (list (p 7 3) (more (symbol (p 7 4) (codes "defstrand")) (more (symbol (p 7 14) (codes "r")) (more (number (p 7 16) 1) (more (list (p 7 18) (more (symbol (p 7 19) (codes "n")) (more (symbol (p 7 21) (codes "m")) none))) none))))) (more (list (p 8 3) (more (symbol (p 8 4) (codes "deflistener")) (more (symbol (p 8 16) (codes "m")) none))) (more (list (p 9 3) (more (symbol (p 9 4) (codes "defstrand")) (more (symbol (p 9 14) (codes "r")) (more (number (p 9 16) 2) (more (list (p 9 18) (more (symbol (p 9 19) (codes "a")) (more (symbol (p 9 21) (codes "a-0")) none))) none))))) (more (list (p 10 3) (more (symbol (p 10 4) (codes "defstrand")) (more (symbol (p 10 14) (codes "r")) (more (number (p 10 16) 1) none)))) (more (list (p 11 3) (more (symbol (p 11 4) (codes "pen-non-orig")) (more (symbol (p 11 17) (codes "a-0")) (more (symbol (p 11 21) (codes "m")) none)))) (more (list (p 12 3) (more (symbol (p 12 4) (codes "uniq-orig")) (more (symbol (p 12 14) (codes "m")) (more (symbol (p 12 16) (codes "m")) none)))) (more (list (p 13 3) (more (symbol (p 13 4) (codes "precedes")) (more (list (p 13 13) (more (list (p 13 14) (more (number (p 13 15) 0) (more (number (p 13 17) 0) none))) (more (list (p 13 20) (more (number (p 13 21) 1) (more (number (p 13 23) 0) none))) none))) (more (list (p 13 27) (more (list (p 13 28) (more (number (p 13 29) 1) (more (number (p 13 31) 1) none))) (more (list (p 13 34) (more (number (p 13 35) 2) (more (number (p 13 37) 1) none))) none))) (more (list (p 13 41) (more (list (p 13 42) (more (number (p 13 43) 2) (more (number (p 13 45) 0) none))) (more (list (p 13 48) (more (number (p 13 49) 2) (more (number (p 13 51) 1) none))) none))) none))))) (more (list (p 14 3) (more (symbol (p 14 4) (codes "non-orig")) (more (list (p 14 13) (more (symbol (p 14 14) (codes "privk")) (more (symbol (p 14 20) (codes "a-0")) none))) none))) none)))))))))))) none)))

abbrev tree_fresh : Tree
tree_fresh = record {
  labels = label_with None by_problem (skeleton_of (input_of input_fresh) no_skeleton) [] None [] [] (Some shape) ∷ [];
  outcome = at_step_limit;
}

report_fresh : report_text (input_of input_fresh) (tree_fresh ∷ []) ≡ line (codes "(defprotocol p basic")
    (line (codes "  (defrole r (vars (n text) (a b name)) (trace (send (enc n a (pubk b))) (recv n)) (non-orig (privk b)) (comment " ++ 34 ∷ codes "x" ++ 34 ∷ codes ") (non-orig (privk a)) (pen-non-orig n) (uniq-orig n n)))")
    (line (codes "(comment")
    (line (codes "  (1) x)")
    (line (codes "(defskeleton p")
    (line (codes "  (vars (m text) (a-0 name))")
    (line (codes "  (defstrand r 1 (n m))")
    (line (codes "  (deflistener m)")
    (line (codes "  (defstrand r 2 (a a-0))")
    (line (codes "  (defstrand r 1)")
    (line (codes "  (pen-non-orig a-0 m)")
    (line (codes "  (uniq-orig m m)")
    (line (codes "  (precedes ((0 0) (1 0)) ((1 1) (2 1)) ((2 0) (2 1)))")
    (line (codes "  (non-orig (privk a-0)))")
    (line (codes "(label 0")
    (line (codes "  (by problem)")
    (line (codes "  (vars (m text) (a-0 name) (a name) (b name) (n text) (b-0 name) (n-0 text) (a-1 name) (b-1 name))")
    (line (codes "  (defstrand r 1 (n m) (a a) (b b))")
    (line (codes "  (deflistener m)")
    (line (codes "  (defstrand r 2 (n n) (a a-0) (b b-0))")
    (line (codes "  (defstrand r 1 (n n-0) (a a-1) (b b-1))")
    (line (codes "  (precedes ((0 0) (1 0)) ((1 1) (2 1)))")
    (line (codes "  (non-orig (privk a-0) (privk b) (privk a) (privk b-0) (privk b-1) (privk a-1))")
    (line (codes "  (pen-non-orig a-0 m n n-0)")
    (line (codes "  (uniq-orig (m (0 0)) (n (2 0)) (n-0 (3 0)))")
    (line (codes "  (map (0 1 2 3) (m m) (a-0 a-0) (a a) (b b) (n n) (b-0 b-0) (n-0 n-0) (a-1 a-1) (b-1 b-1))")
    (line (codes "  (shape))")
    (line (codes "(status limit steps labels 1 expanded 0 shapes 1)")
    ([]))))))))))))))))))))))))))))
unfolding digits
report_fresh = refl
