-- Reports as forms, for examples, and such forms with pieces in the place of others.
use Rattle.std.specs.Prelude.{ℕ, zero, suc, ◌+◌, List, [], ◌∷◌, length, codes, Option}
use Rattle.cp_base.specs.declared.place.Place.{Place}
use Rattle.cp_sexpr.specs.Syntax.{Form, symbol, string, number, list, Forms, none, more, forms_of}
use Rattle.cp_language.proofs.FirstFault.{p, first_by}
use Rattle.cp_report.specs.Misfits.{place_before}

-- The first of some places.
abbrev pub first : List Place → Option Place
first ps = first_by place_before ps

-- ---- forms on one line

-- A list with a symbol as its head.
abbrev pub headed : ℕ → ℕ → List ℕ → List Form → Form
headed l c head fs = list (p l c) (more (symbol (p l (c + 1)) head) (forms_of fs))

-- Two symbols.
abbrev pub two : ℕ → ℕ → List ℕ → List ℕ → Form
two l c s t = headed l c s (symbol (p l (c + 2 + length s)) t ∷ [])

-- A node: two numbers of one digit.
abbrev pub node : ℕ → ℕ → ℕ → ℕ → Form
node l c s i = list (p l c) (forms_of (number (p l (c + 1)) s ∷ number (p l (c + 3)) i ∷ []))

-- A label form of a number of one digit, with these items.
abbrev label : ℕ → ℕ → List Form → Form
label l n fs = headed l 1 (codes "label") (number (p l 8) n ∷ fs)

-- The status of a tree that is complete: how many labels there are, how many were expanded and how many are shapes, each a
-- number of one digit.
abbrev complete_status : ℕ → ℕ → ℕ → ℕ → Form
complete_status l labels expanded shapes =
    headed l 1 (codes "status") (
    symbol (p l 9) (codes "complete") ∷ symbol (p l 18) (codes "labels") ∷ number (p l 25) labels ∷ symbol (p l 27) (codes "expanded") ∷ number (p l 36) expanded ∷ symbol (p l 38) (codes "shapes") ∷ number (p l 45) shapes
    ∷ [])

-- ---- pieces in the place of others

-- Some forms in front of others.
abbrev front : List Form → Forms → Forms
front [] fs = fs
front (g ∷ gs) fs = more g (front gs fs)

abbrev without : ℕ → Forms → Forms
without zero fs = fs
without (suc n) none = none
without (suc n) (more f fs) = without n fs

abbrev mutual
  -- In the place of as many forms as said these, behind n others; or so within the form there, by the numbers of the rest of
  -- the path.
  bent_behind : ℕ → ℕ → List ℕ → List Form → Forms → Forms
  bent_behind taken zero [] new fs = front new (without taken fs)
  bent_behind taken zero (m ∷ ms) new none = none
  bent_behind taken zero (m ∷ ms) new (more f fs) = more (bent_within taken m ms new f) fs
  bent_behind taken (suc n) path new none = none
  bent_behind taken (suc n) path new (more f fs) = more f (bent_behind taken n path new fs)

  bent_within : ℕ → ℕ → List ℕ → List Form → Form → Form
  bent_within taken m ms new (list at fs) = list at (bent_behind taken m ms new fs)
  bent_within taken m ms new f = f

-- Forms bent at a path, which numbers the items of lists from the outermost on.
abbrev pub bent : ℕ → List ℕ → List Form → Forms → Forms
bent taken [] new fs = fs
bent taken (n ∷ path) new fs = bent_behind taken n path new fs

-- ---- one instance

-- A problem of the protocol, with these items.
abbrev defskeleton : List Form → Form
defskeleton fs = headed 4 1 (codes "defskeleton") (symbol (p 4 14) (codes "ns") ∷ fs)

abbrev defprotocol_of_single : Form
defprotocol_of_single =
    list (p 1 1) (forms_of (
    symbol (p 1 2) (codes "defprotocol") ∷ symbol (p 1 14) (codes "ns") ∷ symbol (p 1 17) (codes "basic")
    ∷ headed 2 3 (codes "defrole") (symbol (p 2 12) (codes "init") ∷ headed 2 17 (codes "vars") (headed 2 23 (codes "a") (symbol (p 2 26) (codes "b") ∷ symbol (p 2 28) (codes "name") ∷ []) ∷ headed 2 34 (codes "n1") (symbol (p 2 38) (codes "n2") ∷ symbol (p 2 41) (codes "text") ∷ []) ∷ []) ∷ headed 2 48 (codes "trace") (headed 2 55 (codes "send") (headed 2 61 (codes "enc") (symbol (p 2 66) (codes "n1") ∷ symbol (p 2 69) (codes "a") ∷ two 2 71 (codes "pubk") (codes "b") ∷ []) ∷ []) ∷ headed 2 82 (codes "recv") (headed 2 88 (codes "enc") (symbol (p 2 93) (codes "n1") ∷ symbol (p 2 96) (codes "n2") ∷ two 2 99 (codes "pubk") (codes "a") ∷ []) ∷ []) ∷ headed 2 110 (codes "send") (headed 2 116 (codes "enc") (symbol (p 2 121) (codes "n2") ∷ two 2 124 (codes "pubk") (codes "b") ∷ []) ∷ []) ∷ []) ∷ [])
    ∷ headed 3 3 (codes "defrole") (symbol (p 3 12) (codes "resp") ∷ headed 3 17 (codes "vars") (headed 3 23 (codes "a") (symbol (p 3 26) (codes "b") ∷ symbol (p 3 28) (codes "name") ∷ []) ∷ headed 3 34 (codes "n1") (symbol (p 3 38) (codes "n2") ∷ symbol (p 3 41) (codes "text") ∷ []) ∷ []) ∷ headed 3 48 (codes "trace") (headed 3 55 (codes "recv") (headed 3 61 (codes "enc") (symbol (p 3 66) (codes "n1") ∷ symbol (p 3 69) (codes "a") ∷ two 3 71 (codes "pubk") (codes "b") ∷ []) ∷ []) ∷ headed 3 82 (codes "send") (headed 3 88 (codes "enc") (symbol (p 3 93) (codes "n1") ∷ symbol (p 3 96) (codes "n2") ∷ two 3 99 (codes "pubk") (codes "a") ∷ []) ∷ []) ∷ headed 3 110 (codes "recv") (headed 3 116 (codes "enc") (symbol (p 3 121) (codes "n2") ∷ two 3 124 (codes "pubk") (codes "b") ∷ []) ∷ []) ∷ []) ∷ [])
    ∷ []))

abbrev defskeleton_of_single : Form
defskeleton_of_single =
    defskeleton (
    headed 5 3 (codes "vars") (two 5 9 (codes "n1") (codes "text") ∷ [])
    ∷ headed 6 3 (codes "defstrand") (symbol (p 6 14) (codes "init") ∷ number (p 6 19) 1 ∷ two 6 21 (codes "n1") (codes "n1") ∷ [])
    ∷ two 7 3 (codes "uniq-orig") (codes "n1")
    ∷ [])

abbrev by_of_single : ℕ → Form
by_of_single l = two l 3 (codes "by") (codes "problem")

abbrev vars_of_single : ℕ → Form
vars_of_single l = headed l 3 (codes "vars") (two l 9 (codes "n1") (codes "text") ∷ two l 19 (codes "a") (codes "name") ∷ two l 28 (codes "b") (codes "name") ∷ [])

abbrev defstrand_of_single : ℕ → Form
defstrand_of_single l = headed l 3 (codes "defstrand") (symbol (p l 14) (codes "init") ∷ number (p l 19) 1 ∷ two l 21 (codes "a") (codes "a") ∷ two l 27 (codes "b") (codes "b") ∷ two l 33 (codes "n1") (codes "n1") ∷ [])

abbrev uniq_orig_of_single : ℕ → Form
uniq_orig_of_single l = headed l 3 (codes "uniq-orig") (headed l 14 (codes "n1") (node l 18 0 0 ∷ []) ∷ [])

abbrev shape_of_single : ℕ → Form
shape_of_single l = headed l 3 (codes "shape") []

abbrev label_0_of_single : Form
label_0_of_single =
    label 8 0 (
    by_of_single 9 ∷ vars_of_single 10 ∷ defstrand_of_single 11 ∷ uniq_orig_of_single 12
    ∷ headed 13 3 (codes "map") (list (p 13 8) (forms_of (number (p 13 9) 0 ∷ [])) ∷ two 13 12 (codes "n1") (codes "n1") ∷ two 13 20 (codes "a") (codes "a") ∷ two 13 26 (codes "b") (codes "b") ∷ [])
    ∷ shape_of_single 14
    ∷ [])

abbrev pub text_single : Forms
text_single = forms_of (defprotocol_of_single ∷ defskeleton_of_single ∷ label_0_of_single ∷ complete_status 15 1 0 1 ∷ [])

-- ---- an initiator and a responder, with a tree of five labels

abbrev defskeleton_of_exchange : Form
defskeleton_of_exchange =
    defskeleton (
    headed 5 3 (codes "vars") (headed 5 9 (codes "a") (symbol (p 5 12) (codes "b") ∷ symbol (p 5 14) (codes "name") ∷ []) ∷ headed 5 20 (codes "n1") (symbol (p 5 24) (codes "n2") ∷ symbol (p 5 27) (codes "text") ∷ []) ∷ [])
    ∷ headed 6 3 (codes "defstrand") (symbol (p 6 14) (codes "init") ∷ number (p 6 19) 3 ∷ two 6 21 (codes "a") (codes "a") ∷ two 6 27 (codes "b") (codes "b") ∷ two 6 33 (codes "n1") (codes "n1") ∷ two 6 41 (codes "n2") (codes "n2") ∷ [])
    ∷ headed 7 3 (codes "non-orig") (two 7 13 (codes "privk") (codes "a") ∷ two 7 23 (codes "privk") (codes "b") ∷ [])
    ∷ two 8 3 (codes "uniq-orig") (codes "n1")
    ∷ [])

abbrev vars_of_exchange : ℕ → Form
vars_of_exchange l = headed l 3 (codes "vars") (two l 9 (codes "a") (codes "name") ∷ two l 18 (codes "b") (codes "name") ∷ two l 27 (codes "n1") (codes "text") ∷ two l 37 (codes "n2") (codes "text") ∷ [])

abbrev defstrand_of_exchange : ℕ → Form
defstrand_of_exchange l = headed l 3 (codes "defstrand") (symbol (p l 14) (codes "init") ∷ number (p l 19) 3 ∷ two l 21 (codes "a") (codes "a") ∷ two l 27 (codes "b") (codes "b") ∷ two l 33 (codes "n1") (codes "n1") ∷ two l 41 (codes "n2") (codes "n2") ∷ [])

abbrev non_orig_of_exchange : ℕ → Form
non_orig_of_exchange l = headed l 3 (codes "non-orig") (two l 13 (codes "privk") (codes "a") ∷ two l 23 (codes "privk") (codes "b") ∷ [])

abbrev map_of_exchange : ℕ → Form
map_of_exchange l = headed l 3 (codes "map") (list (p l 8) (forms_of (number (p l 9) 0 ∷ [])) ∷ two l 12 (codes "a") (codes "a") ∷ two l 18 (codes "b") (codes "b") ∷ two l 24 (codes "n1") (codes "n1") ∷ two l 32 (codes "n2") (codes "n2") ∷ [])

abbrev label_0_of_exchange : Form
label_0_of_exchange =
    label 9 0 (
    by_of_single 10 ∷ vars_of_exchange 11 ∷ defstrand_of_exchange 12 ∷ non_orig_of_exchange 13 ∷ uniq_orig_of_single 14 ∷ map_of_exchange 15
    ∷ headed 16 3 (codes "unrealised") (node 16 15 0 1 ∷ [])
    ∷ headed 17 3 (codes "test") (node 17 9 0 1 ∷ headed 17 15 (codes "enc") (symbol (p 17 20) (codes "n1") ∷ symbol (p 17 23) (codes "n2") ∷ two 17 26 (codes "pubk") (codes "a") ∷ []) ∷ [])
    ∷ headed 18 3 (codes "children") (number (p 18 13) 1 ∷ number (p 18 15) 2 ∷ [])
    ∷ [])

abbrev parent_of_exchange : ℕ → Form
parent_of_exchange l = headed l 3 (codes "parent") (number (p l 11) 0 ∷ [])

abbrev vars_2_of_exchange : ℕ → Form
vars_2_of_exchange l = headed l 3 (codes "vars") (two l 9 (codes "a") (codes "name") ∷ two l 18 (codes "b") (codes "name") ∷ two l 27 (codes "n1") (codes "text") ∷ two l 37 (codes "n2") (codes "text") ∷ two l 47 (codes "b-0") (codes "name") ∷ [])

abbrev defstrand_2_of_exchange : ℕ → Form
defstrand_2_of_exchange l = headed l 3 (codes "defstrand") (symbol (p l 14) (codes "resp") ∷ number (p l 19) 2 ∷ two l 21 (codes "a") (codes "a") ∷ two l 27 (codes "b") (codes "b-0") ∷ two l 35 (codes "n1") (codes "n1") ∷ two l 43 (codes "n2") (codes "n2") ∷ [])

abbrev precedes_of_exchange : ℕ → Form
precedes_of_exchange l = headed l 3 (codes "precedes") (list (p l 13) (forms_of (node l 14 0 0 ∷ node l 20 1 0 ∷ [])) ∷ list (p l 27) (forms_of (node l 28 1 1 ∷ node l 34 0 1 ∷ [])) ∷ [])

abbrev unrealised_of_exchange : ℕ → Form
unrealised_of_exchange l = headed l 3 (codes "unrealised") (node l 15 1 0 ∷ [])

abbrev label_1_of_exchange : Form
label_1_of_exchange =
    label 19 1 (
    parent_of_exchange 20 ∷ headed 21 3 (codes "by") (symbol (p 21 7) (codes "added-strand") ∷ number (p 21 20) 1 ∷ []) ∷ vars_2_of_exchange 22
    ∷ defstrand_of_exchange 23 ∷ defstrand_2_of_exchange 24 ∷ precedes_of_exchange 25 ∷ non_orig_of_exchange 26 ∷ uniq_orig_of_single 27 ∷ map_of_exchange 28
    ∷ unrealised_of_exchange 29
    ∷ headed 30 3 (codes "test") (node 30 9 1 0 ∷ headed 30 15 (codes "enc") (symbol (p 30 20) (codes "n1") ∷ symbol (p 30 23) (codes "a") ∷ two 30 25 (codes "pubk") (codes "b-0") ∷ []) ∷ [])
    ∷ headed 31 3 (codes "children") (number (p 31 13) 3 ∷ number (p 31 15) 4 ∷ [])
    ∷ [])

abbrev escape_of_exchange : ℕ → Form
escape_of_exchange l = headed l 3 (codes "escape") (headed l 11 (codes "enc") (symbol (p l 16) (codes "n1") ∷ symbol (p l 19) (codes "a") ∷ two l 21 (codes "pubk") (codes "b") ∷ []) ∷ headed l 31 (codes "enc") (symbol (p l 36) (codes "n1") ∷ headed l 39 (codes "any") (symbol (p l 44) (codes "text") ∷ number (p l 49) 0 ∷ []) ∷ two l 52 (codes "pubk") (codes "a") ∷ []) ∷ [])

abbrev dead_of_exchange : ℕ → Form
dead_of_exchange l = headed l 3 (codes "dead") []

abbrev label_2_of_exchange : Form
label_2_of_exchange =
    label 32 2 (
    parent_of_exchange 33 ∷ headed 34 3 (codes "by") (symbol (p 34 7) (codes "added-listener") ∷ number (p 34 22) 1 ∷ []) ∷ vars_of_exchange 35
    ∷ defstrand_of_exchange 36
    ∷ headed 37 3 (codes "deflistener") (headed 37 16 (codes "cat") (symbol (p 37 21) (codes "n1") ∷ symbol (p 37 24) (codes "n2") ∷ []) ∷ [])
    ∷ precedes_of_exchange 38 ∷ non_orig_of_exchange 39 ∷ uniq_orig_of_single 40 ∷ map_of_exchange 41
    ∷ headed 42 3 (codes "unrealised") (node 42 15 0 1 ∷ node 42 21 1 0 ∷ [])
    ∷ headed 43 3 (codes "test") (node 43 9 1 0 ∷ symbol (p 43 15) (codes "n1") ∷ []) ∷ escape_of_exchange 44 ∷ dead_of_exchange 45
    ∷ [])

abbrev parent_2_of_exchange : ℕ → Form
parent_2_of_exchange l = headed l 3 (codes "parent") (number (p l 11) 1 ∷ [])

abbrev label_3_of_exchange : Form
label_3_of_exchange =
    label 46 3 (
    parent_2_of_exchange 47 ∷ headed 48 3 (codes "by") (symbol (p 48 7) (codes "contracted") ∷ number (p 48 18) 0 ∷ number (p 48 20) 0 ∷ [])
    ∷ vars_of_exchange 49 ∷ defstrand_of_exchange 50
    ∷ headed 51 3 (codes "defstrand") (symbol (p 51 14) (codes "resp") ∷ number (p 51 19) 2 ∷ two 51 21 (codes "a") (codes "a") ∷ two 51 27 (codes "b") (codes "b") ∷ two 51 33 (codes "n1") (codes "n1") ∷ two 51 41 (codes "n2") (codes "n2") ∷ [])
    ∷ precedes_of_exchange 52 ∷ non_orig_of_exchange 53 ∷ uniq_orig_of_single 54 ∷ map_of_exchange 55 ∷ shape_of_single 56
    ∷ [])

abbrev label_4_of_exchange : Form
label_4_of_exchange =
    label 57 4 (
    parent_2_of_exchange 58 ∷ headed 59 3 (codes "by") (symbol (p 59 7) (codes "added-listener") ∷ number (p 59 22) 2 ∷ []) ∷ vars_2_of_exchange 60
    ∷ defstrand_of_exchange 61 ∷ defstrand_2_of_exchange 62
    ∷ headed 63 3 (codes "deflistener") (headed 63 16 (codes "cat") (symbol (p 63 21) (codes "n1") ∷ symbol (p 63 24) (codes "a") ∷ []) ∷ [])
    ∷ headed 64 3 (codes "precedes") (list (p 64 13) (forms_of (node 64 14 0 0 ∷ node 64 20 2 0 ∷ [])) ∷ list (p 64 27) (forms_of (node 64 28 1 1 ∷ node 64 34 0 1 ∷ [])) ∷ list (p 64 41) (forms_of (node 64 42 2 1 ∷ node 64 48 1 0 ∷ [])) ∷ [])
    ∷ non_orig_of_exchange 65 ∷ uniq_orig_of_single 66 ∷ map_of_exchange 67 ∷ headed 68 3 (codes "unrealised") (node 68 15 1 0 ∷ node 68 21 2 0 ∷ [])
    ∷ headed 69 3 (codes "test") (node 69 9 2 0 ∷ symbol (p 69 15) (codes "n1") ∷ []) ∷ escape_of_exchange 70 ∷ dead_of_exchange 71
    ∷ [])

abbrev pub text_exchange : Forms
text_exchange = forms_of (defprotocol_of_single ∷ defskeleton_of_exchange ∷ label_0_of_exchange ∷ label_1_of_exchange ∷ label_2_of_exchange ∷ label_3_of_exchange ∷ label_4_of_exchange ∷ complete_status 72 5 4 1 ∷ [])

-- ---- two instances, and their collapse

abbrev defskeleton_of_twice : Form
defskeleton_of_twice =
    defskeleton (
    headed 5 3 (codes "vars") (two 5 9 (codes "n1") (codes "text") ∷ [])
    ∷ headed 6 3 (codes "defstrand") (symbol (p 6 14) (codes "init") ∷ number (p 6 19) 1 ∷ two 6 21 (codes "n1") (codes "n1") ∷ [])
    ∷ headed 7 3 (codes "defstrand") (symbol (p 7 14) (codes "init") ∷ number (p 7 19) 1 ∷ two 7 21 (codes "n1") (codes "n1") ∷ [])
    ∷ two 8 3 (codes "uniq-orig") (codes "n1")
    ∷ [])

abbrev label_0_of_twice : Form
label_0_of_twice =
    label 9 0 (
    by_of_single 10
    ∷ headed 11 3 (codes "vars") (two 11 9 (codes "n1") (codes "text") ∷ two 11 19 (codes "a") (codes "name") ∷ two 11 28 (codes "b") (codes "name") ∷ two 11 37 (codes "a-0") (codes "name") ∷ two 11 48 (codes "b-0") (codes "name") ∷ [])
    ∷ defstrand_of_single 12
    ∷ headed 13 3 (codes "defstrand") (symbol (p 13 14) (codes "init") ∷ number (p 13 19) 1 ∷ two 13 21 (codes "a") (codes "a-0") ∷ two 13 29 (codes "b") (codes "b-0") ∷ two 13 37 (codes "n1") (codes "n1") ∷ [])
    ∷ headed 14 3 (codes "uniq-orig") (headed 14 14 (codes "n1") (node 14 18 0 0 ∷ []) ∷ headed 14 25 (codes "n1") (node 14 29 1 0 ∷ []) ∷ [])
    ∷ headed 15 3 (codes "map") (node 15 8 0 1 ∷ two 15 14 (codes "n1") (codes "n1") ∷ two 15 22 (codes "a") (codes "a") ∷ two 15 28 (codes "b") (codes "b") ∷ two 15 34 (codes "a-0") (codes "a-0") ∷ two 15 44 (codes "b-0") (codes "b-0") ∷ [])
    ∷ dead_of_exchange 16
    ∷ [])

abbrev label_1_of_twice : Form
label_1_of_twice =
    label 17 1 (
    headed 18 3 (codes "by") (symbol (p 18 7) (codes "collapsed") ∷ number (p 18 17) 0 ∷ number (p 18 19) 0 ∷ []) ∷ vars_of_single 19
    ∷ defstrand_of_single 20 ∷ uniq_orig_of_single 21
    ∷ headed 22 3 (codes "map") (node 22 8 0 0 ∷ two 22 14 (codes "n1") (codes "n1") ∷ two 22 22 (codes "a") (codes "a") ∷ two 22 28 (codes "b") (codes "b") ∷ two 22 34 (codes "a-0") (codes "a") ∷ two 22 42 (codes "b-0") (codes "b") ∷ [])
    ∷ shape_of_single 23
    ∷ [])

abbrev pub text_twice : Forms
text_twice = forms_of (defprotocol_of_single ∷ defskeleton_of_twice ∷ label_0_of_twice ∷ label_1_of_twice ∷ complete_status 24 2 0 1 ∷ [])

-- ---- keys, tags and inverses, and assumptions that roles give

abbrev defprotocol_of_keys : Form
defprotocol_of_keys =
    list (p 1 1) (forms_of (
    symbol (p 1 2) (codes "defprotocol") ∷ symbol (p 1 14) (codes "t") ∷ symbol (p 1 16) (codes "basic")
    ∷ headed 2 3 (codes "defrole") (symbol (p 2 12) (codes "s") ∷ headed 2 14 (codes "vars") (headed 2 20 (codes "a") (symbol (p 2 23) (codes "b") ∷ symbol (p 2 25) (codes "name") ∷ []) ∷ two 2 31 (codes "k") (codes "akey") ∷ two 2 40 (codes "y") (codes "skey") ∷ two 2 49 (codes "n") (codes "text") ∷ []) ∷ headed 2 59 (codes "trace") (headed 2 66 (codes "send") (headed 2 72 (codes "cat") (headed 2 77 (codes "enc") (symbol (p 2 82) (codes "n") ∷ string (p 2 84) (codes "x") ∷ headed 2 88 (codes "ltk") (symbol (p 2 93) (codes "a") ∷ symbol (p 2 95) (codes "b") ∷ []) ∷ []) ∷ headed 2 99 (codes "enc") (symbol (p 2 104) (codes "n") ∷ symbol (p 2 106) (codes "k") ∷ []) ∷ headed 2 109 (codes "enc") (symbol (p 2 114) (codes "n") ∷ symbol (p 2 116) (codes "y") ∷ []) ∷ []) ∷ []) ∷ headed 2 121 (codes "recv") (headed 2 127 (codes "enc") (symbol (p 2 132) (codes "n") ∷ headed 2 134 (codes "privk") (string (p 2 141) (codes "p") ∷ symbol (p 2 145) (codes "a") ∷ []) ∷ []) ∷ []) ∷ []) ∷ two 2 151 (codes "uniq-orig") (codes "n") ∷ headed 2 165 (codes "non-orig") (headed 2 175 (codes "ltk") (symbol (p 2 180) (codes "a") ∷ symbol (p 2 182) (codes "b") ∷ []) ∷ []) ∷ [])
    ∷ []))

abbrev defskeleton_of_keys : Form
defskeleton_of_keys =
    list (p 3 1) (forms_of (
    symbol (p 3 2) (codes "defskeleton") ∷ symbol (p 3 14) (codes "t")
    ∷ headed 3 16 (codes "vars") []
    ∷ headed 3 23 (codes "defstrand") (symbol (p 3 34) (codes "s") ∷ number (p 3 36) 1 ∷ [])
    ∷ []))

abbrev label_0_of_keys : Form
label_0_of_keys =
    label 4 0 (
    by_of_single 5
    ∷ headed 6 3 (codes "vars") (two 6 9 (codes "a") (codes "name") ∷ two 6 18 (codes "b") (codes "name") ∷ two 6 27 (codes "k") (codes "akey") ∷ two 6 36 (codes "y") (codes "skey") ∷ two 6 45 (codes "n") (codes "text") ∷ [])
    ∷ headed 7 3 (codes "defstrand") (symbol (p 7 14) (codes "s") ∷ number (p 7 16) 1 ∷ two 7 18 (codes "a") (codes "a") ∷ two 7 24 (codes "b") (codes "b") ∷ headed 7 30 (codes "k") (two 7 33 (codes "invk") (codes "k") ∷ []) ∷ two 7 43 (codes "y") (codes "y") ∷ two 7 49 (codes "n") (codes "n") ∷ [])
    ∷ headed 8 3 (codes "deflistener") (headed 8 16 (codes "cat") (symbol (p 8 21) (codes "a") ∷ headed 8 23 (codes "enc") (symbol (p 8 28) (codes "a") ∷ headed 8 30 (codes "cat") (symbol (p 8 35) (codes "a") ∷ symbol (p 8 37) (codes "b") ∷ []) ∷ string (p 8 40) (codes "x") ∷ two 8 44 (codes "invk") (codes "k") ∷ []) ∷ headed 8 54 (codes "pubk") (string (p 8 60) (codes "p") ∷ symbol (p 8 64) (codes "a") ∷ []) ∷ []) ∷ [])
    ∷ headed 9 3 (codes "non-orig") (headed 9 13 (codes "ltk") (symbol (p 9 18) (codes "a") ∷ symbol (p 9 20) (codes "b") ∷ []) ∷ [])
    ∷ headed 10 3 (codes "uniq-orig") (headed 10 14 (codes "n") (node 10 17 0 0 ∷ []) ∷ [])
    ∷ headed 11 3 (codes "map") (list (p 11 8) (forms_of (number (p 11 9) 0 ∷ [])) ∷ two 11 12 (codes "a") (codes "a") ∷ two 11 18 (codes "b") (codes "b") ∷ two 11 24 (codes "k") (codes "k") ∷ two 11 30 (codes "y") (codes "y") ∷ two 11 36 (codes "n") (codes "n") ∷ [])
    ∷ unrealised_of_exchange 12 ∷ two 13 3 (codes "limit") (codes "strands")
    ∷ [])

abbrev status_of_keys : Form
status_of_keys =
    list (p 14 1) (forms_of (
    symbol (p 14 2) (codes "status") ∷ symbol (p 14 9) (codes "limit") ∷ symbol (p 14 15) (codes "strands") ∷ symbol (p 14 23) (codes "labels") ∷ number (p 14 30) 1 ∷ symbol (p 14 32) (codes "expanded") ∷ number (p 14 41) 0 ∷ symbol (p 14 43) (codes "shapes") ∷ number (p 14 50) 0
    ∷ []))

abbrev pub text_keys : Forms
text_keys = forms_of (defprotocol_of_keys ∷ defskeleton_of_keys ∷ label_0_of_keys ∷ status_of_keys ∷ [])

-- ---- less

-- no form at all
abbrev pub text_nothing : Forms
text_nothing = none

-- no problem
abbrev pub text_protocol_alone : Forms
text_protocol_alone = forms_of (defprotocol_of_single ∷ [])

-- a problem without labels
abbrev pub text_no_labels : Forms
text_no_labels = forms_of (defprotocol_of_single ∷ defskeleton_of_single ∷ complete_status 8 0 0 0 ∷ [])
