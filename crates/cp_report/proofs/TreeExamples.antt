-- Reports, and others of which one piece is bent in a label form or beside it: whether they fit, and at which place they
-- do not. Each holds by computing the definitions.
use Rattle.std.specs.Prelude.{◌≡◌, List, [], ◌∷◌, map, codes, refl, Some}
use Rattle.std.specs.Fmt.{digits}
use Rattle.cp_base.specs.declared.place.Place.{Place}
use Rattle.cp_sexpr.specs.Syntax.{symbol, number, Forms}
use Rattle.cp_report.specs.ReadBack.{misfits}
use Rattle.cp_language.proofs.FirstFault.{p}
use Rattle.cp_report.proofs.Texts.{first, headed, two, bent, text_single, text_exchange, text_twice, text_keys, text_nothing, text_protocol_alone, text_no_labels}

-- These fit.
abbrev texts : List Forms
texts = text_single ∷ text_exchange ∷ text_twice ∷ text_keys ∷ text_nothing ∷ text_protocol_alone ∷ text_no_labels ∷ []

each_fits : map misfits texts ≡ map (λ (fs : Forms). []) texts
unfolding digits
each_fits = refl

-- Forms, and the first place at which they do not fit.
abbrev bent_texts : List (Forms × Place)
bent_texts =
    -- (label 1
    (bent 1 (2 ∷ 1 ∷ []) (number (p 8 8) 1 ∷ []) text_single, p 8 8)
    -- (label 0
    ∷ (bent 1 (2 ∷ 2 ∷ []) [] text_single, p 8 1)
    -- (label 0 (parent 0)
    ∷ (bent 0 (2 ∷ 2 ∷ []) (headed 8 10 (codes "parent") (number (p 8 18) 0 ∷ []) ∷ []) text_single, p 8 10)
    -- (shapes))
    ∷ (bent 1 (2 ∷ 7 ∷ 0 ∷ []) (symbol (p 14 4) (codes "shapes") ∷ []) text_single, p 14 3)
    -- (shape) (shape))
    ∷ (bent 0 (2 ∷ 8 ∷ []) (headed 14 11 (codes "shape") [] ∷ []) text_single, p 14 11)
    -- vars misplaced
    ∷ (bent 1 (2 ∷ 3 ∷ []) [] (bent 0 (2 ∷ 6 ∷ []) (headed 12 27 (codes "vars") (two 12 33 (codes "n1") (codes "text") ∷ two 12 43 (codes "a") (codes "name") ∷ two 12 52 (codes "b") (codes "name") ∷ []) ∷ []) text_single), p 12 27)
    -- (children 3 4) (dead))
    ∷ (bent 0 (3 ∷ 14 ∷ []) (headed 31 18 (codes "dead") [] ∷ []) text_exchange, p 31 18)
    -- (escape
    ∷ (bent 1 (4 ∷ 12 ∷ []) [] text_exchange, p 44 3)
    -- (escape)
    ∷ (bent 2 (4 ∷ 13 ∷ 1 ∷ []) [] text_exchange, p 44 3)
    -- (test (0 3)
    ∷ (bent 1 (2 ∷ 9 ∷ 1 ∷ 1 ∷ []) (number (p 17 12) 3 ∷ []) text_exchange, p 17 9)
    -- (parent 2) (by contracted 0 0)
    ∷ (bent 1 (5 ∷ 2 ∷ 1 ∷ []) (number (p 47 11) 2 ∷ []) text_exchange, p 31 13)
    -- (children 3)
    ∷ (bent 1 (3 ∷ 13 ∷ 2 ∷ []) [] text_exchange, p 58 11)
    -- (children 1 3)
    ∷ (bent 1 (2 ∷ 10 ∷ 2 ∷ []) (number (p 18 15) 3 ∷ []) text_exchange, p 18 15)
    -- (children 1 2 2)
    ∷ (bent 0 (2 ∷ 10 ∷ 3 ∷ []) (number (p 18 17) 2 ∷ []) text_exchange, p 18 17)
    -- (by contracted 2 0)
    ∷ (bent 1 (5 ∷ 3 ∷ 2 ∷ []) (number (p 48 18) 2 ∷ []) text_exchange, p 48 18)
    -- (by contracted 0 3)
    ∷ (bent 1 (5 ∷ 3 ∷ 3 ∷ []) (number (p 48 20) 3 ∷ []) text_exchange, p 48 20)
    -- (by added-strand 2)
    ∷ (bent 1 (3 ∷ 3 ∷ 2 ∷ []) (number (p 21 20) 2 ∷ []) text_exchange, p 21 20)
    -- (by added 1)
    ∷ (bent 1 (3 ∷ 3 ∷ 2 ∷ []) (number (p 21 13) 1 ∷ []) (bent 1 (3 ∷ 3 ∷ 1 ∷ []) (symbol (p 21 7) (codes "added") ∷ []) text_exchange), p 21 7)
    -- labels 5 expanded 3
    ∷ (bent 1 (7 ∷ 5 ∷ []) (number (p 72 36) 3 ∷ []) text_exchange, p 72 36)
    -- (seen 5))
    ∷ (bent 1 (4 ∷ 14 ∷ 0 ∷ []) (symbol (p 45 4) (codes "seen") ∷ number (p 45 9) 5 ∷ []) text_exchange, p 45 9)
    -- (enc n1 (any text 0) (pubk (any name 0)))
    ∷ (bent 1 (4 ∷ 13 ∷ 2 ∷ 3 ∷ 1 ∷ []) (headed 44 58 (codes "any") (symbol (p 44 63) (codes "name") ∷ number (p 44 68) 0 ∷ []) ∷ []) text_exchange, p 44 58)
    -- (deflistener (cat n1 (any text 0)))
    ∷ (bent 1 (4 ∷ 6 ∷ 1 ∷ 2 ∷ []) (headed 37 24 (codes "any") (symbol (p 37 29) (codes "text") ∷ number (p 37 34) 0 ∷ []) ∷ []) text_exchange, p 37 24)
    -- (escape n1 (enc n1 a (pubk b))
    ∷ (bent 2 (4 ∷ 13 ∷ 1 ∷ []) (symbol (p 44 11) (codes "n1") ∷ headed 44 14 (codes "enc") (symbol (p 44 19) (codes "n1") ∷ symbol (p 44 22) (codes "a") ∷ two 44 24 (codes "pubk") (codes "b") ∷ []) ∷ headed 44 34 (codes "enc") (symbol (p 44 39) (codes "n1") ∷ headed 44 42 (codes "any") (symbol (p 44 47) (codes "text") ∷ number (p 44 52) 0 ∷ []) ∷ two 44 55 (codes "pubk") (codes "a") ∷ []) ∷ []) text_exchange, p 44 11)
    -- (by collapsed 1 0)
    ∷ (bent 1 (3 ∷ 2 ∷ 2 ∷ []) (number (p 18 17) 1 ∷ []) text_twice, p 18 17)
    -- (by collapsed 0 2)
    ∷ (bent 1 (3 ∷ 2 ∷ 3 ∷ []) (number (p 18 19) 2 ∷ []) text_twice, p 18 19)
    -- (by collapsed 0)
    ∷ (bent 1 (3 ∷ 2 ∷ 3 ∷ []) [] text_twice, p 18 3)
    -- (by collapsed 0 0 0)
    ∷ (bent 0 (3 ∷ 2 ∷ 4 ∷ []) (number (p 18 21) 0 ∷ []) text_twice, p 18 21)
    -- no status form at the end
    ∷ (bent 1 (3 ∷ []) [] text_single, p 1 1)
    -- (defstrnd resp 2 (a a) (b b-0) (n1 n1) (n2 n2))
    ∷ (bent 1 (3 ∷ 6 ∷ []) (headed 24 3 (codes "defstrnd") (symbol (p 24 13) (codes "resp") ∷ number (p 24 18) 2 ∷ two 24 20 (codes "a") (codes "a") ∷ two 24 26 (codes "b") (codes "b-0") ∷ two 24 34 (codes "n1") (codes "n1") ∷ two 24 42 (codes "n2") (codes "n2") ∷ []) ∷ []) text_exchange, p 24 3)
    -- (defstrand initiator 3 (a a) (b b) (n1 n1) (n2 n2)) (defstrand resp 2 (a a) (b b) (n1 n1)
    ∷ (bent 1 (5 ∷ 5 ∷ 6 ∷ []) (two 50 46 (codes "n2") (codes "n2") ∷ []) (bent 1 (5 ∷ 5 ∷ 5 ∷ []) (two 50 38 (codes "n1") (codes "n1") ∷ []) (bent 1 (5 ∷ 5 ∷ 4 ∷ []) (two 50 32 (codes "b") (codes "b") ∷ []) (bent 1 (5 ∷ 5 ∷ 3 ∷ []) (two 50 26 (codes "a") (codes "a") ∷ []) (bent 1 (5 ∷ 5 ∷ 2 ∷ []) (number (p 50 24) 3 ∷ []) (bent 1 (5 ∷ 5 ∷ 1 ∷ []) (symbol (p 50 14) (codes "initiator") ∷ []) (bent 1 (5 ∷ 3 ∷ 3 ∷ []) (number (p 48 20) 2 ∷ []) text_exchange)))))), p 50 14)
    -- (lable 1
    ∷ (bent 1 (3 ∷ 0 ∷ []) (symbol (p 19 2) (codes "lable") ∷ []) text_exchange, p 19 1)
    -- (childern 3 4)
    ∷ (bent 1 (3 ∷ 13 ∷ 0 ∷ []) (symbol (p 31 4) (codes "childern") ∷ []) text_exchange, p 31 3)
    -- (comment) between label forms
    ∷ (bent 0 (5 ∷ []) (headed 45 11 (codes "comment") [] ∷ []) text_exchange, p 45 11)
    -- a status form before all others
    ∷ (bent 0 (0 ∷ []) (headed 1 1 (codes "status") (symbol (p 1 9) (codes "complete") ∷ symbol (p 1 18) (codes "labels") ∷ number (p 1 25) 1 ∷ symbol (p 1 27) (codes "expanded") ∷ number (p 1 36) 0 ∷ symbol (p 1 38) (codes "shapes") ∷ number (p 1 45) 1 ∷ []) ∷ []) text_single, p 1 1)
    -- a comment in place of the status form
    ∷ (bent 8 (3 ∷ 0 ∷ []) (symbol (p 15 2) (codes "comment") ∷ []) text_single, p 15 1)
    -- a second status form
    ∷ (bent 0 (4 ∷ []) (headed 16 1 (codes "status") (symbol (p 16 9) (codes "complete") ∷ symbol (p 16 18) (codes "labels") ∷ number (p 16 25) 1 ∷ symbol (p 16 27) (codes "expanded") ∷ number (p 16 36) 0 ∷ symbol (p 16 38) (codes "shapes") ∷ number (p 16 45) 1 ∷ []) ∷ []) text_single, p 16 1)
    -- input fault
    ∷ (bent 1 (1 ∷ 4 ∷ 1 ∷ []) (symbol (p 7 14) (codes "n3") ∷ []) text_single, p 7 14)
    ∷ []

each_refused : map (λ (e : Forms × Place). first (misfits e.0)) bent_texts ≡ map (λ (e : Forms × Place). Some e.1) bent_texts
unfolding digits
each_refused = refl
