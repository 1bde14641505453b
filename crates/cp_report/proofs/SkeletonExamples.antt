-- Reports of which one piece is bent in what a label form states of a skeleton: at which place they do not fit. Each
-- holds by computing the definitions.
use Rattle.std.specs.Prelude.{◌≡◌, List, [], ◌∷◌, map, codes, refl, Some}
use Rattle.std.specs.Fmt.{digits}
use Rattle.cp_base.specs.declared.place.Place.{Place}
use Rattle.cp_sexpr.specs.Syntax.{symbol, string, number, list, Forms, forms_of}
use Rattle.cp_report.specs.ReadBack.{misfits}
use Rattle.cp_language.proofs.FirstFault.{p}
use Rattle.cp_report.proofs.Texts.{first, headed, two, node, bent, text_single, text_exchange, text_keys}

-- Forms, and the first place at which they do not fit.
abbrev bent_texts : List (Forms × Place)
bent_texts =
    -- (a name) (a name))
    (bent 1 (2 ∷ 3 ∷ 3 ∷ 0 ∷ []) (symbol (p 10 29) (codes "a") ∷ []) text_single, p 10 29)
    -- (vars (n1 text) (a name) (b mesg))
    ∷ (bent 1 (2 ∷ 3 ∷ 3 ∷ 1 ∷ []) (symbol (p 10 31) (codes "mesg") ∷ []) text_single, p 10 31)
    -- (defstrand init 1 (a a) (b c) (n1 n1))
    ∷ (bent 1 (2 ∷ 4 ∷ 4 ∷ 1 ∷ []) (symbol (p 11 30) (codes "c") ∷ []) text_single, p 11 30)
    -- (defstrand init 1 (a a) (n1 n1))
    ∷ (bent 2 (2 ∷ 4 ∷ 4 ∷ []) (two 11 27 (codes "n1") (codes "n1") ∷ []) text_single, p 11 3)
    -- (defstrand init 1 (a a) (a b) (n1 n1))
    ∷ (bent 1 (2 ∷ 4 ∷ 4 ∷ 0 ∷ []) (symbol (p 11 28) (codes "a") ∷ []) text_single, p 11 28)
    -- (defstrand init 1 (a a) (b n1) (n1 n1))
    ∷ (bent 1 (2 ∷ 4 ∷ 5 ∷ []) (two 11 34 (codes "n1") (codes "n1") ∷ []) (bent 1 (2 ∷ 4 ∷ 4 ∷ 1 ∷ []) (symbol (p 11 30) (codes "n1") ∷ []) text_single), p 11 30)
    -- (defstrand init 1 (a a) (b b) (n1 n1) (n2 n1))
    ∷ (bent 0 (2 ∷ 4 ∷ 6 ∷ []) (two 11 41 (codes "n2") (codes "n1") ∷ []) text_single, p 11 42)
    -- (defstrand initiator 1 (a a)
    ∷ (bent 1 (2 ∷ 4 ∷ 5 ∷ []) (two 11 38 (codes "n1") (codes "n1") ∷ []) (bent 1 (2 ∷ 4 ∷ 4 ∷ []) (two 11 32 (codes "b") (codes "b") ∷ []) (bent 1 (2 ∷ 4 ∷ 3 ∷ []) (two 11 26 (codes "a") (codes "a") ∷ []) (bent 1 (2 ∷ 4 ∷ 2 ∷ []) (number (p 11 24) 1 ∷ []) (bent 1 (2 ∷ 4 ∷ 1 ∷ []) (symbol (p 11 14) (codes "initiator") ∷ []) text_single)))), p 11 14)
    -- (defstrand init 4 (a a)
    ∷ (bent 1 (2 ∷ 4 ∷ 2 ∷ []) (number (p 11 19) 4 ∷ []) text_single, p 11 19)
    -- (n1 (0 1))
    ∷ (bent 1 (2 ∷ 5 ∷ 1 ∷ 1 ∷ 1 ∷ []) (number (p 12 21) 1 ∷ []) text_single, p 12 18)
    -- (uniq-orig (n1 (0 1)))
    ∷ (bent 1 (2 ∷ 6 ∷ 1 ∷ 1 ∷ 1 ∷ []) (number (p 14 21) 1 ∷ []) text_exchange, p 14 18)
    -- (b (0 0))
    ∷ (bent 1 (2 ∷ 5 ∷ 1 ∷ 1 ∷ []) (node 12 17 0 0 ∷ []) (bent 1 (2 ∷ 5 ∷ 1 ∷ 0 ∷ []) (symbol (p 12 15) (codes "b") ∷ []) text_single), p 12 17)
    -- (uniq-orig (n1 (0 0)) (n1 (0 0)))
    ∷ (bent 0 (2 ∷ 5 ∷ 2 ∷ []) (headed 12 25 (codes "n1") (node 12 29 0 0 ∷ []) ∷ []) text_single, p 12 25)
    -- (map (1)
    ∷ (bent 1 (2 ∷ 6 ∷ 1 ∷ 0 ∷ []) (number (p 13 9) 1 ∷ []) text_single, p 13 9)
    -- (map ()
    ∷ (bent 1 (2 ∷ 6 ∷ 4 ∷ []) (two 13 25 (codes "b") (codes "b") ∷ []) (bent 1 (2 ∷ 6 ∷ 3 ∷ []) (two 13 19 (codes "a") (codes "a") ∷ []) (bent 1 (2 ∷ 6 ∷ 2 ∷ []) (two 13 11 (codes "n1") (codes "n1") ∷ []) (bent 1 (2 ∷ 6 ∷ 1 ∷ 0 ∷ []) [] text_single))), p 13 8)
    -- (map (0 0)
    ∷ (bent 1 (2 ∷ 6 ∷ 4 ∷ []) (two 13 28 (codes "b") (codes "b") ∷ []) (bent 1 (2 ∷ 6 ∷ 3 ∷ []) (two 13 22 (codes "a") (codes "a") ∷ []) (bent 1 (2 ∷ 6 ∷ 2 ∷ []) (two 13 14 (codes "n1") (codes "n1") ∷ []) (bent 0 (2 ∷ 6 ∷ 1 ∷ 1 ∷ []) (number (p 13 11) 0 ∷ []) text_single))), p 13 11)
    -- (map (0) (n1 n1) (a a) (a b))
    ∷ (bent 1 (2 ∷ 6 ∷ 4 ∷ 0 ∷ []) (symbol (p 13 27) (codes "a") ∷ []) text_single, p 13 27)
    -- (map (0) (n1 n1) (a a))
    ∷ (bent 1 (2 ∷ 6 ∷ 4 ∷ []) [] text_single, p 13 3)
    -- (deflistener (cat n1 (cat n1 n2)))
    ∷ (bent 1 (4 ∷ 6 ∷ 1 ∷ 2 ∷ []) (headed 37 24 (codes "cat") (symbol (p 37 29) (codes "n1") ∷ symbol (p 37 32) (codes "n2") ∷ []) ∷ []) text_exchange, p 37 24)
    -- (deflistener (cat n1))
    ∷ (bent 1 (4 ∷ 6 ∷ 1 ∷ 2 ∷ []) [] text_exchange, p 37 16)
    -- (test (1 0) (enc n1 a b-0))
    ∷ (bent 1 (3 ∷ 12 ∷ 2 ∷ 3 ∷ []) (symbol (p 30 25) (codes "b-0") ∷ []) text_exchange, p 30 25)
    -- (precedes ((0 0) (1 0)) ((0 1) (1 1)))
    ∷ (bent 1 (3 ∷ 7 ∷ 2 ∷ 1 ∷ 0 ∷ []) (number (p 25 35) 1 ∷ []) (bent 1 (3 ∷ 7 ∷ 2 ∷ 0 ∷ 0 ∷ []) (number (p 25 29) 0 ∷ []) text_exchange), p 25 27)
    -- ((0 0) (2 0)) ((1 1) (0 1)) ((2 1) (1 0)) ((2 1) (0 1)) ((0 2) (1 0))
    ∷ (bent 0 (6 ∷ 8 ∷ 4 ∷ []) (list (p 64 55) (forms_of (node 64 56 2 1 ∷ node 64 62 0 1 ∷ [])) ∷ list (p 64 69) (forms_of (node 64 70 0 2 ∷ node 64 76 1 0 ∷ [])) ∷ []) text_exchange, p 64 69)
    -- (precedes ((0 0) (1 0)) ((0 0) (1 0)))
    ∷ (bent 1 (3 ∷ 7 ∷ 2 ∷ 1 ∷ 1 ∷ []) (number (p 25 37) 0 ∷ []) (bent 1 (3 ∷ 7 ∷ 2 ∷ 1 ∷ 0 ∷ []) (number (p 25 35) 1 ∷ []) (bent 1 (3 ∷ 7 ∷ 2 ∷ 0 ∷ 1 ∷ []) (number (p 25 31) 0 ∷ []) (bent 1 (3 ∷ 7 ∷ 2 ∷ 0 ∷ 0 ∷ []) (number (p 25 29) 0 ∷ []) text_exchange))), p 25 27)
    -- (label 0 (by problem) (vars (a name) (b name) (n1 text) (n2 text)) (defstrand init 3 (a a) (b b) (n1 n1) (n2 n2)) (non-orig (privk a) (privk a))
    ∷ (bent 1 (2 ∷ 5 ∷ 2 ∷ 1 ∷ []) (symbol (p 13 30) (codes "a") ∷ []) text_exchange, p 13 23)
    -- given non
    ∷ (bent 1 (2 ∷ 6 ∷ []) [] text_keys, p 4 1)
    -- (non-orig (privk a))
    ∷ (bent 3 (2 ∷ 6 ∷ 1 ∷ 0 ∷ []) (symbol (p 9 14) (codes "privk") ∷ symbol (p 9 20) (codes "a") ∷ []) text_keys, p 9 3)
    -- given unique
    ∷ (bent 1 (2 ∷ 7 ∷ []) [] text_keys, p 4 1)
    -- (k (invk (pubk a)))
    ∷ (bent 1 (2 ∷ 4 ∷ 7 ∷ []) (two 7 56 (codes "n") (codes "n") ∷ []) (bent 1 (2 ∷ 4 ∷ 6 ∷ []) (two 7 50 (codes "y") (codes "y") ∷ []) (bent 1 (2 ∷ 4 ∷ 5 ∷ 1 ∷ 1 ∷ []) (two 7 39 (codes "pubk") (codes "a") ∷ []) text_keys)), p 7 39)
    -- (non-orig (ltk a b) "x")
    ∷ (bent 0 (0 ∷ 3 ∷ 5 ∷ 2 ∷ []) (string (p 2 185) (codes "x") ∷ []) text_keys, p 2 185)
    -- (non-origin (ltk a b))
    ∷ (bent 1 (2 ∷ 6 ∷ 1 ∷ []) (headed 9 15 (codes "ltk") (symbol (p 9 20) (codes "a") ∷ symbol (p 9 22) (codes "b") ∷ []) ∷ []) (bent 1 (2 ∷ 6 ∷ 0 ∷ []) (symbol (p 9 4) (codes "non-origin") ∷ []) text_keys), p 9 3)
    ∷ []

each_refused : map (λ (e : Forms × Place). first (misfits e.0)) bent_texts ≡ map (λ (e : Forms × Place). Some e.1) bent_texts
unfolding digits
each_refused = refl
