-- Examples of faults: texts whose first fault was worked out by hand, as forms with their places. Each holds by
-- computing the definitions.
use Rattle.std.specs.Prelude.{◌≡◌, List, [], ◌∷◌, map, codes, refl, Option, Some, None}
use Rattle.cp_base.specs.declared.place.Refusal.{Refusal}
use Rattle.cp_base.specs.declared.place.Code.TheVariants.{UnknownForm, OutOfProfile, BadShape, DuplicateProtocol, DuplicateRole, UnknownProtocol, UnknownRole, UnknownSort, MesgVar, DuplicateVar, BadHeight, UnknownVar, NotInPrefix, IllSorted, KeySort, RoleUniqNoOrigin, UniqNowhere, BadNode, CyclicOrder}
use Rattle.cp_sexpr.specs.Syntax.{Form, symbol, string, number, list, Forms, none, more}
use Rattle.cp_language.proofs.FirstFault.{p, first}
use Rattle.cp_language.specs.Input.{faults_of}

-- (defprotocol p basic (defrole r (vars (a name)) (trace (send))))
shape_send_empty : first (faults_of (more (list (p 1 1) (more (symbol (p 1 2) (codes "defprotocol")) (more (symbol (p 1 14) (codes "p")) (more (symbol (p 1 16) (codes "basic")) (more (list (p 1 22) (more (symbol (p 1 23) (codes "defrole")) (more (symbol (p 1 31) (codes "r")) (more (list (p 1 33) (more (symbol (p 1 34) (codes "vars")) (more (list (p 1 39) (more (symbol (p 1 40) (codes "a")) (more (symbol (p 1 42) (codes "name")) none))) none))) (more (list (p 1 49) (more (symbol (p 1 50) (codes "trace")) (more (list (p 1 56) (more (symbol (p 1 57) (codes "send")) none)) none))) none))))) none))))) none)) ≡ Some (record { place = p 1 56; code = BadShape })
shape_send_empty = refl

-- (defprotocol p basic (defrole r (vars (a b name) (n text) (k skey)) (trace (send (enc n a k)) (recv (enc n b (ltk a b))))) (defrole s (vars (a name) (n text)) (trace (recv n) (send (cat a n)))))
-- (defskeleton p (vars (n text)))
shape_skeleton_no_strand : first (faults_of (more (list (p 1 1) (more (symbol (p 1 2) (codes "defprotocol")) (more (symbol (p 1 14) (codes "p")) (more (symbol (p 1 16) (codes "basic")) (more (list (p 1 22) (more (symbol (p 1 23) (codes "defrole")) (more (symbol (p 1 31) (codes "r")) (more (list (p 1 33) (more (symbol (p 1 34) (codes "vars")) (more (list (p 1 39) (more (symbol (p 1 40) (codes "a")) (more (symbol (p 1 42) (codes "b")) (more (symbol (p 1 44) (codes "name")) none)))) (more (list (p 1 50) (more (symbol (p 1 51) (codes "n")) (more (symbol (p 1 53) (codes "text")) none))) (more (list (p 1 59) (more (symbol (p 1 60) (codes "k")) (more (symbol (p 1 62) (codes "skey")) none))) none))))) (more (list (p 1 69) (more (symbol (p 1 70) (codes "trace")) (more (list (p 1 76) (more (symbol (p 1 77) (codes "send")) (more (list (p 1 82) (more (symbol (p 1 83) (codes "enc")) (more (symbol (p 1 87) (codes "n")) (more (symbol (p 1 89) (codes "a")) (more (symbol (p 1 91) (codes "k")) none))))) none))) (more (list (p 1 95) (more (symbol (p 1 96) (codes "recv")) (more (list (p 1 101) (more (symbol (p 1 102) (codes "enc")) (more (symbol (p 1 106) (codes "n")) (more (symbol (p 1 108) (codes "b")) (more (list (p 1 110) (more (symbol (p 1 111) (codes "ltk")) (more (symbol (p 1 115) (codes "a")) (more (symbol (p 1 117) (codes "b")) none)))) none))))) none))) none)))) none))))) (more (list (p 1 124) (more (symbol (p 1 125) (codes "defrole")) (more (symbol (p 1 133) (codes "s")) (more (list (p 1 135) (more (symbol (p 1 136) (codes "vars")) (more (list (p 1 141) (more (symbol (p 1 142) (codes "a")) (more (symbol (p 1 144) (codes "name")) none))) (more (list (p 1 150) (more (symbol (p 1 151) (codes "n")) (more (symbol (p 1 153) (codes "text")) none))) none)))) (more (list (p 1 160) (more (symbol (p 1 161) (codes "trace")) (more (list (p 1 167) (more (symbol (p 1 168) (codes "recv")) (more (symbol (p 1 173) (codes "n")) none))) (more (list (p 1 176) (more (symbol (p 1 177) (codes "send")) (more (list (p 1 182) (more (symbol (p 1 183) (codes "cat")) (more (symbol (p 1 187) (codes "a")) (more (symbol (p 1 189) (codes "n")) none)))) none))) none)))) none))))) none)))))) (more (list (p 2 1) (more (symbol (p 2 2) (codes "defskeleton")) (more (symbol (p 2 14) (codes "p")) (more (list (p 2 16) (more (symbol (p 2 17) (codes "vars")) (more (list (p 2 22) (more (symbol (p 2 23) (codes "n")) (more (symbol (p 2 25) (codes "text")) none))) none))) none)))) none))) ≡ Some (record { place = p 2 1; code = BadShape })
shape_skeleton_no_strand = refl

-- (defprotocol p basic (defrole r (vars (a b name) (n text) (k skey)) (trace (send (enc n a k)) (recv (enc n b (ltk a b))))) (defrole s (vars (a name) (n text)) (trace (recv n) (send (cat a n)))))
-- (defskeleton p)
shape_skeleton_no_vars : first (faults_of (more (list (p 1 1) (more (symbol (p 1 2) (codes "defprotocol")) (more (symbol (p 1 14) (codes "p")) (more (symbol (p 1 16) (codes "basic")) (more (list (p 1 22) (more (symbol (p 1 23) (codes "defrole")) (more (symbol (p 1 31) (codes "r")) (more (list (p 1 33) (more (symbol (p 1 34) (codes "vars")) (more (list (p 1 39) (more (symbol (p 1 40) (codes "a")) (more (symbol (p 1 42) (codes "b")) (more (symbol (p 1 44) (codes "name")) none)))) (more (list (p 1 50) (more (symbol (p 1 51) (codes "n")) (more (symbol (p 1 53) (codes "text")) none))) (more (list (p 1 59) (more (symbol (p 1 60) (codes "k")) (more (symbol (p 1 62) (codes "skey")) none))) none))))) (more (list (p 1 69) (more (symbol (p 1 70) (codes "trace")) (more (list (p 1 76) (more (symbol (p 1 77) (codes "send")) (more (list (p 1 82) (more (symbol (p 1 83) (codes "enc")) (more (symbol (p 1 87) (codes "n")) (more (symbol (p 1 89) (codes "a")) (more (symbol (p 1 91) (codes "k")) none))))) none))) (more (list (p 1 95) (more (symbol (p 1 96) (codes "recv")) (more (list (p 1 101) (more (symbol (p 1 102) (codes "enc")) (more (symbol (p 1 106) (codes "n")) (more (symbol (p 1 108) (codes "b")) (more (list (p 1 110) (more (symbol (p 1 111) (codes "ltk")) (more (symbol (p 1 115) (codes "a")) (more (symbol (p 1 117) (codes "b")) none)))) none))))) none))) none)))) none))))) (more (list (p 1 124) (more (symbol (p 1 125) (codes "defrole")) (more (symbol (p 1 133) (codes "s")) (more (list (p 1 135) (more (symbol (p 1 136) (codes "vars")) (more (list (p 1 141) (more (symbol (p 1 142) (codes "a")) (more (symbol (p 1 144) (codes "name")) none))) (more (list (p 1 150) (more (symbol (p 1 151) (codes "n")) (more (symbol (p 1 153) (codes "text")) none))) none)))) (more (list (p 1 160) (more (symbol (p 1 161) (codes "trace")) (more (list (p 1 167) (more (symbol (p 1 168) (codes "recv")) (more (symbol (p 1 173) (codes "n")) none))) (more (list (p 1 176) (more (symbol (p 1 177) (codes "send")) (more (list (p 1 182) (more (symbol (p 1 183) (codes "cat")) (more (symbol (p 1 187) (codes "a")) (more (symbol (p 1 189) (codes "n")) none)))) none))) none)))) none))))) none)))))) (more (list (p 2 1) (more (symbol (p 2 2) (codes "defskeleton")) (more (symbol (p 2 14) (codes "p")) none))) none))) ≡ Some (record { place = p 2 1; code = BadShape })
shape_skeleton_no_vars = refl

-- (defprotocol p basic (defrole r (vars (a b name) (n text) (k skey)) (trace (send (enc n a k)) (recv (enc n b (ltk a b))))) (defrole s (vars (a name) (n text)) (trace (recv n) (send (cat a n)))))
-- (defskeleton p (vars (a b name) (n m text) (k skey) (e akey) (d data)) (defstrand r (a a)))
shape_strand_height_list : first (faults_of (more (list (p 1 1) (more (symbol (p 1 2) (codes "defprotocol")) (more (symbol (p 1 14) (codes "p")) (more (symbol (p 1 16) (codes "basic")) (more (list (p 1 22) (more (symbol (p 1 23) (codes "defrole")) (more (symbol (p 1 31) (codes "r")) (more (list (p 1 33) (more (symbol (p 1 34) (codes "vars")) (more (list (p 1 39) (more (symbol (p 1 40) (codes "a")) (more (symbol (p 1 42) (codes "b")) (more (symbol (p 1 44) (codes "name")) none)))) (more (list (p 1 50) (more (symbol (p 1 51) (codes "n")) (more (symbol (p 1 53) (codes "text")) none))) (more (list (p 1 59) (more (symbol (p 1 60) (codes "k")) (more (symbol (p 1 62) (codes "skey")) none))) none))))) (more (list (p 1 69) (more (symbol (p 1 70) (codes "trace")) (more (list (p 1 76) (more (symbol (p 1 77) (codes "send")) (more (list (p 1 82) (more (symbol (p 1 83) (codes "enc")) (more (symbol (p 1 87) (codes "n")) (more (symbol (p 1 89) (codes "a")) (more (symbol (p 1 91) (codes "k")) none))))) none))) (more (list (p 1 95) (more (symbol (p 1 96) (codes "recv")) (more (list (p 1 101) (more (symbol (p 1 102) (codes "enc")) (more (symbol (p 1 106) (codes "n")) (more (symbol (p 1 108) (codes "b")) (more (list (p 1 110) (more (symbol (p 1 111) (codes "ltk")) (more (symbol (p 1 115) (codes "a")) (more (symbol (p 1 117) (codes "b")) none)))) none))))) none))) none)))) none))))) (more (list (p 1 124) (more (symbol (p 1 125) (codes "defrole")) (more (symbol (p 1 133) (codes "s")) (more (list (p 1 135) (more (symbol (p 1 136) (codes "vars")) (more (list (p 1 141) (more (symbol (p 1 142) (codes "a")) (more (symbol (p 1 144) (codes "name")) none))) (more (list (p 1 150) (more (symbol (p 1 151) (codes "n")) (more (symbol (p 1 153) (codes "text")) none))) none)))) (more (list (p 1 160) (more (symbol (p 1 161) (codes "trace")) (more (list (p 1 167) (more (symbol (p 1 168) (codes "recv")) (more (symbol (p 1 173) (codes "n")) none))) (more (list (p 1 176) (more (symbol (p 1 177) (codes "send")) (more (list (p 1 182) (more (symbol (p 1 183) (codes "cat")) (more (symbol (p 1 187) (codes "a")) (more (symbol (p 1 189) (codes "n")) none)))) none))) none)))) none))))) none)))))) (more (list (p 2 1) (more (symbol (p 2 2) (codes "defskeleton")) (more (symbol (p 2 14) (codes "p")) (more (list (p 2 16) (more (symbol (p 2 17) (codes "vars")) (more (list (p 2 22) (more (symbol (p 2 23) (codes "a")) (more (symbol (p 2 25) (codes "b")) (more (symbol (p 2 27) (codes "name")) none)))) (more (list (p 2 33) (more (symbol (p 2 34) (codes "n")) (more (symbol (p 2 36) (codes "m")) (more (symbol (p 2 38) (codes "text")) none)))) (more (list (p 2 44) (more (symbol (p 2 45) (codes "k")) (more (symbol (p 2 47) (codes "skey")) none))) (more (list (p 2 53) (more (symbol (p 2 54) (codes "e")) (more (symbol (p 2 56) (codes "akey")) none))) (more (list (p 2 62) (more (symbol (p 2 63) (codes "d")) (more (symbol (p 2 65) (codes "data")) none))) none))))))) (more (list (p 2 72) (more (symbol (p 2 73) (codes "defstrand")) (more (symbol (p 2 83) (codes "r")) (more (list (p 2 85) (more (symbol (p 2 86) (codes "a")) (more (symbol (p 2 88) (codes "a")) none))) none)))) none))))) none))) ≡ Some (record { place = p 2 85; code = BadShape })
shape_strand_height_list = refl

-- (defprotocol p basic (defrole r (vars (a b name) (n text) (k skey)) (trace (send (enc n a k)) (recv (enc n b (ltk a b))))) (defrole s (vars (a name) (n text)) (trace (recv n) (send (cat a n)))))
-- (defskeleton p (vars (a b name) (n m text) (k skey) (e akey) (d data)) (defstrand r one))
shape_strand_height_symbol : first (faults_of (more (list (p 1 1) (more (symbol (p 1 2) (codes "defprotocol")) (more (symbol (p 1 14) (codes "p")) (more (symbol (p 1 16) (codes "basic")) (more (list (p 1 22) (more (symbol (p 1 23) (codes "defrole")) (more (symbol (p 1 31) (codes "r")) (more (list (p 1 33) (more (symbol (p 1 34) (codes "vars")) (more (list (p 1 39) (more (symbol (p 1 40) (codes "a")) (more (symbol (p 1 42) (codes "b")) (more (symbol (p 1 44) (codes "name")) none)))) (more (list (p 1 50) (more (symbol (p 1 51) (codes "n")) (more (symbol (p 1 53) (codes "text")) none))) (more (list (p 1 59) (more (symbol (p 1 60) (codes "k")) (more (symbol (p 1 62) (codes "skey")) none))) none))))) (more (list (p 1 69) (more (symbol (p 1 70) (codes "trace")) (more (list (p 1 76) (more (symbol (p 1 77) (codes "send")) (more (list (p 1 82) (more (symbol (p 1 83) (codes "enc")) (more (symbol (p 1 87) (codes "n")) (more (symbol (p 1 89) (codes "a")) (more (symbol (p 1 91) (codes "k")) none))))) none))) (more (list (p 1 95) (more (symbol (p 1 96) (codes "recv")) (more (list (p 1 101) (more (symbol (p 1 102) (codes "enc")) (more (symbol (p 1 106) (codes "n")) (more (symbol (p 1 108) (codes "b")) (more (list (p 1 110) (more (symbol (p 1 111) (codes "ltk")) (more (symbol (p 1 115) (codes "a")) (more (symbol (p 1 117) (codes "b")) none)))) none))))) none))) none)))) none))))) (more (list (p 1 124) (more (symbol (p 1 125) (codes "defrole")) (more (symbol (p 1 133) (codes "s")) (more (list (p 1 135) (more (symbol (p 1 136) (codes "vars")) (more (list (p 1 141) (more (symbol (p 1 142) (codes "a")) (more (symbol (p 1 144) (codes "name")) none))) (more (list (p 1 150) (more (symbol (p 1 151) (codes "n")) (more (symbol (p 1 153) (codes "text")) none))) none)))) (more (list (p 1 160) (more (symbol (p 1 161) (codes "trace")) (more (list (p 1 167) (more (symbol (p 1 168) (codes "recv")) (more (symbol (p 1 173) (codes "n")) none))) (more (list (p 1 176) (more (symbol (p 1 177) (codes "send")) (more (list (p 1 182) (more (symbol (p 1 183) (codes "cat")) (more (symbol (p 1 187) (codes "a")) (more (symbol (p 1 189) (codes "n")) none)))) none))) none)))) none))))) none)))))) (more (list (p 2 1) (more (symbol (p 2 2) (codes "defskeleton")) (more (symbol (p 2 14) (codes "p")) (more (list (p 2 16) (more (symbol (p 2 17) (codes "vars")) (more (list (p 2 22) (more (symbol (p 2 23) (codes "a")) (more (symbol (p 2 25) (codes "b")) (more (symbol (p 2 27) (codes "name")) none)))) (more (list (p 2 33) (more (symbol (p 2 34) (codes "n")) (more (symbol (p 2 36) (codes "m")) (more (symbol (p 2 38) (codes "text")) none)))) (more (list (p 2 44) (more (symbol (p 2 45) (codes "k")) (more (symbol (p 2 47) (codes "skey")) none))) (more (list (p 2 53) (more (symbol (p 2 54) (codes "e")) (more (symbol (p 2 56) (codes "akey")) none))) (more (list (p 2 62) (more (symbol (p 2 63) (codes "d")) (more (symbol (p 2 65) (codes "data")) none))) none))))))) (more (list (p 2 72) (more (symbol (p 2 73) (codes "defstrand")) (more (symbol (p 2 83) (codes "r")) (more (symbol (p 2 85) (codes "one")) none)))) none))))) none))) ≡ Some (record { place = p 2 85; code = BadShape })
shape_strand_height_symbol = refl

-- (defprotocol p basic (defrole r (vars (a b name) (n text) (k skey)) (trace (send (enc n a k)) (recv (enc n b (ltk a b))))) (defrole s (vars (a name) (n text)) (trace (recv n) (send (cat a n)))))
-- (defskeleton p (vars (a b name) (n m text) (k skey) (e akey) (d data)) (defstrand r))
shape_strand_no_height : first (faults_of (more (list (p 1 1) (more (symbol (p 1 2) (codes "defprotocol")) (more (symbol (p 1 14) (codes "p")) (more (symbol (p 1 16) (codes "basic")) (more (list (p 1 22) (more (symbol (p 1 23) (codes "defrole")) (more (symbol (p 1 31) (codes "r")) (more (list (p 1 33) (more (symbol (p 1 34) (codes "vars")) (more (list (p 1 39) (more (symbol (p 1 40) (codes "a")) (more (symbol (p 1 42) (codes "b")) (more (symbol (p 1 44) (codes "name")) none)))) (more (list (p 1 50) (more (symbol (p 1 51) (codes "n")) (more (symbol (p 1 53) (codes "text")) none))) (more (list (p 1 59) (more (symbol (p 1 60) (codes "k")) (more (symbol (p 1 62) (codes "skey")) none))) none))))) (more (list (p 1 69) (more (symbol (p 1 70) (codes "trace")) (more (list (p 1 76) (more (symbol (p 1 77) (codes "send")) (more (list (p 1 82) (more (symbol (p 1 83) (codes "enc")) (more (symbol (p 1 87) (codes "n")) (more (symbol (p 1 89) (codes "a")) (more (symbol (p 1 91) (codes "k")) none))))) none))) (more (list (p 1 95) (more (symbol (p 1 96) (codes "recv")) (more (list (p 1 101) (more (symbol (p 1 102) (codes "enc")) (more (symbol (p 1 106) (codes "n")) (more (symbol (p 1 108) (codes "b")) (more (list (p 1 110) (more (symbol (p 1 111) (codes "ltk")) (more (symbol (p 1 115) (codes "a")) (more (symbol (p 1 117) (codes "b")) none)))) none))))) none))) none)))) none))))) (more (list (p 1 124) (more (symbol (p 1 125) (codes "defrole")) (more (symbol (p 1 133) (codes "s")) (more (list (p 1 135) (more (symbol (p 1 136) (codes "vars")) (more (list (p 1 141) (more (symbol (p 1 142) (codes "a")) (more (symbol (p 1 144) (codes "name")) none))) (more (list (p 1 150) (more (symbol (p 1 151) (codes "n")) (more (symbol (p 1 153) (codes "text")) none))) none)))) (more (list (p 1 160) (more (symbol (p 1 161) (codes "trace")) (more (list (p 1 167) (more (symbol (p 1 168) (codes "recv")) (more (symbol (p 1 173) (codes "n")) none))) (more (list (p 1 176) (more (symbol (p 1 177) (codes "send")) (more (list (p 1 182) (more (symbol (p 1 183) (codes "cat")) (more (symbol (p 1 187) (codes "a")) (more (symbol (p 1 189) (codes "n")) none)))) none))) none)))) none))))) none)))))) (more (list (p 2 1) (more (symbol (p 2 2) (codes "defskeleton")) (more (symbol (p 2 14) (codes "p")) (more (list (p 2 16) (more (symbol (p 2 17) (codes "vars")) (more (list (p 2 22) (more (symbol (p 2 23) (codes "a")) (more (symbol (p 2 25) (codes "b")) (more (symbol (p 2 27) (codes "name")) none)))) (more (list (p 2 33) (more (symbol (p 2 34) (codes "n")) (more (symbol (p 2 36) (codes "m")) (more (symbol (p 2 38) (codes "text")) none)))) (more (list (p 2 44) (more (symbol (p 2 45) (codes "k")) (more (symbol (p 2 47) (codes "skey")) none))) (more (list (p 2 53) (more (symbol (p 2 54) (codes "e")) (more (symbol (p 2 56) (codes "akey")) none))) (more (list (p 2 62) (more (symbol (p 2 63) (codes "d")) (more (symbol (p 2 65) (codes "data")) none))) none))))))) (more (list (p 2 72) (more (symbol (p 2 73) (codes "defstrand")) (more (symbol (p 2 83) (codes "r")) none))) none))))) none))) ≡ Some (record { place = p 2 72; code = BadShape })
shape_strand_no_height = refl

-- (defprotocol p basic (defrole r (vars (a b name) (n text) (k skey) (e akey) (d data)) (trace (send (enc () k)))))
shape_term_empty : first (faults_of (more (list (p 1 1) (more (symbol (p 1 2) (codes "defprotocol")) (more (symbol (p 1 14) (codes "p")) (more (symbol (p 1 16) (codes "basic")) (more (list (p 1 22) (more (symbol (p 1 23) (codes "defrole")) (more (symbol (p 1 31) (codes "r")) (more (list (p 1 33) (more (symbol (p 1 34) (codes "vars")) (more (list (p 1 39) (more (symbol (p 1 40) (codes "a")) (more (symbol (p 1 42) (codes "b")) (more (symbol (p 1 44) (codes "name")) none)))) (more (list (p 1 50) (more (symbol (p 1 51) (codes "n")) (more (symbol (p 1 53) (codes "text")) none))) (more (list (p 1 59) (more (symbol (p 1 60) (codes "k")) (more (symbol (p 1 62) (codes "skey")) none))) (more (list (p 1 68) (more (symbol (p 1 69) (codes "e")) (more (symbol (p 1 71) (codes "akey")) none))) (more (list (p 1 77) (more (symbol (p 1 78) (codes "d")) (more (symbol (p 1 80) (codes "data")) none))) none))))))) (more (list (p 1 87) (more (symbol (p 1 88) (codes "trace")) (more (list (p 1 94) (more (symbol (p 1 95) (codes "send")) (more (list (p 1 100) (more (symbol (p 1 101) (codes "enc")) (more (list (p 1 105) none) (more (symbol (p 1 108) (codes "k")) none)))) none))) none))) none))))) none))))) none)) ≡ Some (record { place = p 1 105; code = BadShape })
shape_term_empty = refl

-- (defprotocol p basic (defrole r (vars (a b name) (n text) (k skey) (e akey) (d data)) (trace (send (cat a 5)))))
shape_term_number : first (faults_of (more (list (p 1 1) (more (symbol (p 1 2) (codes "defprotocol")) (more (symbol (p 1 14) (codes "p")) (more (symbol (p 1 16) (codes "basic")) (more (list (p 1 22) (more (symbol (p 1 23) (codes "defrole")) (more (symbol (p 1 31) (codes "r")) (more (list (p 1 33) (more (symbol (p 1 34) (codes "vars")) (more (list (p 1 39) (more (symbol (p 1 40) (codes "a")) (more (symbol (p 1 42) (codes "b")) (more (symbol (p 1 44) (codes "name")) none)))) (more (list (p 1 50) (more (symbol (p 1 51) (codes "n")) (more (symbol (p 1 53) (codes "text")) none))) (more (list (p 1 59) (more (symbol (p 1 60) (codes "k")) (more (symbol (p 1 62) (codes "skey")) none))) (more (list (p 1 68) (more (symbol (p 1 69) (codes "e")) (more (symbol (p 1 71) (codes "akey")) none))) (more (list (p 1 77) (more (symbol (p 1 78) (codes "d")) (more (symbol (p 1 80) (codes "data")) none))) none))))))) (more (list (p 1 87) (more (symbol (p 1 88) (codes "trace")) (more (list (p 1 94) (more (symbol (p 1 95) (codes "send")) (more (list (p 1 100) (more (symbol (p 1 101) (codes "cat")) (more (symbol (p 1 105) (codes "a")) (more (number (p 1 107) 5) none)))) none))) none))) none))))) none))))) none)) ≡ Some (record { place = p 1 107; code = BadShape })
shape_term_number = refl

-- (defprotocol p basic (defrole r (vars (a b name) (n text) (k skey) (e akey) (d data)) (trace (send ("cat" a)))))
shape_term_string_head : first (faults_of (more (list (p 1 1) (more (symbol (p 1 2) (codes "defprotocol")) (more (symbol (p 1 14) (codes "p")) (more (symbol (p 1 16) (codes "basic")) (more (list (p 1 22) (more (symbol (p 1 23) (codes "defrole")) (more (symbol (p 1 31) (codes "r")) (more (list (p 1 33) (more (symbol (p 1 34) (codes "vars")) (more (list (p 1 39) (more (symbol (p 1 40) (codes "a")) (more (symbol (p 1 42) (codes "b")) (more (symbol (p 1 44) (codes "name")) none)))) (more (list (p 1 50) (more (symbol (p 1 51) (codes "n")) (more (symbol (p 1 53) (codes "text")) none))) (more (list (p 1 59) (more (symbol (p 1 60) (codes "k")) (more (symbol (p 1 62) (codes "skey")) none))) (more (list (p 1 68) (more (symbol (p 1 69) (codes "e")) (more (symbol (p 1 71) (codes "akey")) none))) (more (list (p 1 77) (more (symbol (p 1 78) (codes "d")) (more (symbol (p 1 80) (codes "data")) none))) none))))))) (more (list (p 1 87) (more (symbol (p 1 88) (codes "trace")) (more (list (p 1 94) (more (symbol (p 1 95) (codes "send")) (more (list (p 1 100) (more (string (p 1 101) (codes "cat")) (more (symbol (p 1 107) (codes "a")) none))) none))) none))) none))))) none))))) none)) ≡ Some (record { place = p 1 100; code = BadShape })
shape_term_string_head = refl

-- ()
shape_top_empty : first (faults_of (more (list (p 1 1) none) none)) ≡ Some (record { place = p 1 1; code = BadShape })
shape_top_empty = refl

-- (defprotocol p basic (defrole r (vars (a b name) (n text) (k skey)) (trace (send (enc n a k)) (recv (enc n b (ltk a b))))) (defrole s (vars (a name) (n text)) (trace (recv n) (send (cat a n)))))
-- 42
shape_top_number : first (faults_of (more (list (p 1 1) (more (symbol (p 1 2) (codes "defprotocol")) (more (symbol (p 1 14) (codes "p")) (more (symbol (p 1 16) (codes "basic")) (more (list (p 1 22) (more (symbol (p 1 23) (codes "defrole")) (more (symbol (p 1 31) (codes "r")) (more (list (p 1 33) (more (symbol (p 1 34) (codes "vars")) (more (list (p 1 39) (more (symbol (p 1 40) (codes "a")) (more (symbol (p 1 42) (codes "b")) (more (symbol (p 1 44) (codes "name")) none)))) (more (list (p 1 50) (more (symbol (p 1 51) (codes "n")) (more (symbol (p 1 53) (codes "text")) none))) (more (list (p 1 59) (more (symbol (p 1 60) (codes "k")) (more (symbol (p 1 62) (codes "skey")) none))) none))))) (more (list (p 1 69) (more (symbol (p 1 70) (codes "trace")) (more (list (p 1 76) (more (symbol (p 1 77) (codes "send")) (more (list (p 1 82) (more (symbol (p 1 83) (codes "enc")) (more (symbol (p 1 87) (codes "n")) (more (symbol (p 1 89) (codes "a")) (more (symbol (p 1 91) (codes "k")) none))))) none))) (more (list (p 1 95) (more (symbol (p 1 96) (codes "recv")) (more (list (p 1 101) (more (symbol (p 1 102) (codes "enc")) (more (symbol (p 1 106) (codes "n")) (more (symbol (p 1 108) (codes "b")) (more (list (p 1 110) (more (symbol (p 1 111) (codes "ltk")) (more (symbol (p 1 115) (codes "a")) (more (symbol (p 1 117) (codes "b")) none)))) none))))) none))) none)))) none))))) (more (list (p 1 124) (more (symbol (p 1 125) (codes "defrole")) (more (symbol (p 1 133) (codes "s")) (more (list (p 1 135) (more (symbol (p 1 136) (codes "vars")) (more (list (p 1 141) (more (symbol (p 1 142) (codes "a")) (more (symbol (p 1 144) (codes "name")) none))) (more (list (p 1 150) (more (symbol (p 1 151) (codes "n")) (more (symbol (p 1 153) (codes "text")) none))) none)))) (more (list (p 1 160) (more (symbol (p 1 161) (codes "trace")) (more (list (p 1 167) (more (symbol (p 1 168) (codes "recv")) (more (symbol (p 1 173) (codes "n")) none))) (more (list (p 1 176) (more (symbol (p 1 177) (codes "send")) (more (list (p 1 182) (more (symbol (p 1 183) (codes "cat")) (more (symbol (p 1 187) (codes "a")) (more (symbol (p 1 189) (codes "n")) none)))) none))) none)))) none))))) none)))))) (more (number (p 2 1) 42) none))) ≡ Some (record { place = p 2 1; code = BadShape })
shape_top_number = refl

-- (herald)
-- herald
shape_top_symbol : first (faults_of (more (list (p 1 1) (more (symbol (p 1 2) (codes "herald")) none)) (more (symbol (p 2 1) (codes "herald")) none))) ≡ Some (record { place = p 2 1; code = BadShape })
shape_top_symbol = refl

-- (defprotocol p basic (defrole r (vars (a name)) (trace ())))
shape_trace_empty_event : first (faults_of (more (list (p 1 1) (more (symbol (p 1 2) (codes "defprotocol")) (more (symbol (p 1 14) (codes "p")) (more (symbol (p 1 16) (codes "basic")) (more (list (p 1 22) (more (symbol (p 1 23) (codes "defrole")) (more (symbol (p 1 31) (codes "r")) (more (list (p 1 33) (more (symbol (p 1 34) (codes "vars")) (more (list (p 1 39) (more (symbol (p 1 40) (codes "a")) (more (symbol (p 1 42) (codes "name")) none))) none))) (more (list (p 1 49) (more (symbol (p 1 50) (codes "trace")) (more (list (p 1 56) none) none))) none))))) none))))) none)) ≡ Some (record { place = p 1 56; code = BadShape })
shape_trace_empty_event = refl

-- (defprotocol p basic (defrole r (vars (a b name) (n text) (k skey) (e akey) (d data)) (trace (send (ltk a n)))))
sort_ltk : first (faults_of (more (list (p 1 1) (more (symbol (p 1 2) (codes "defprotocol")) (more (symbol (p 1 14) (codes "p")) (more (symbol (p 1 16) (codes "basic")) (more (list (p 1 22) (more (symbol (p 1 23) (codes "defrole")) (more (symbol (p 1 31) (codes "r")) (more (list (p 1 33) (more (symbol (p 1 34) (codes "vars")) (more (list (p 1 39) (more (symbol (p 1 40) (codes "a")) (more (symbol (p 1 42) (codes "b")) (more (symbol (p 1 44) (codes "name")) none)))) (more (list (p 1 50) (more (symbol (p 1 51) (codes "n")) (more (symbol (p 1 53) (codes "text")) none))) (more (list (p 1 59) (more (symbol (p 1 60) (codes "k")) (more (symbol (p 1 62) (codes "skey")) none))) (more (list (p 1 68) (more (symbol (p 1 69) (codes "e")) (more (symbol (p 1 71) (codes "akey")) none))) (more (list (p 1 77) (more (symbol (p 1 78) (codes "d")) (more (symbol (p 1 80) (codes "data")) none))) none))))))) (more (list (p 1 87) (more (symbol (p 1 88) (codes "trace")) (more (list (p 1 94) (more (symbol (p 1 95) (codes "send")) (more (list (p 1 100) (more (symbol (p 1 101) (codes "ltk")) (more (symbol (p 1 105) (codes "a")) (more (symbol (p 1 107) (codes "n")) none)))) none))) none))) none))))) none))))) none)) ≡ Some (record { place = p 1 107; code = IllSorted })
sort_ltk = refl

-- (defprotocol p basic (defrole r (vars (a b name) (n text) (k skey)) (trace (send (enc n a k)) (recv (enc n b (ltk a b))))) (defrole s (vars (a name) (n text)) (trace (recv n) (send (cat a n)))))
-- (defskeleton p (vars (a b name) (n m text) (k skey) (e akey) (d data)) (defstrand r 1 (a a) (n d) (b b)))
sort_maplet_data : first (faults_of (more (list (p 1 1) (more (symbol (p 1 2) (codes "defprotocol")) (more (symbol (p 1 14) (codes "p")) (more (symbol (p 1 16) (codes "basic")) (more (list (p 1 22) (more (symbol (p 1 23) (codes "defrole")) (more (symbol (p 1 31) (codes "r")) (more (list (p 1 33) (more (symbol (p 1 34) (codes "vars")) (more (list (p 1 39) (more (symbol (p 1 40) (codes "a")) (more (symbol (p 1 42) (codes "b")) (more (symbol (p 1 44) (codes "name")) none)))) (more (list (p 1 50) (more (symbol (p 1 51) (codes "n")) (more (symbol (p 1 53) (codes "text")) none))) (more (list (p 1 59) (more (symbol (p 1 60) (codes "k")) (more (symbol (p 1 62) (codes "skey")) none))) none))))) (more (list (p 1 69) (more (symbol (p 1 70) (codes "trace")) (more (list (p 1 76) (more (symbol (p 1 77) (codes "send")) (more (list (p 1 82) (more (symbol (p 1 83) (codes "enc")) (more (symbol (p 1 87) (codes "n")) (more (symbol (p 1 89) (codes "a")) (more (symbol (p 1 91) (codes "k")) none))))) none))) (more (list (p 1 95) (more (symbol (p 1 96) (codes "recv")) (more (list (p 1 101) (more (symbol (p 1 102) (codes "enc")) (more (symbol (p 1 106) (codes "n")) (more (symbol (p 1 108) (codes "b")) (more (list (p 1 110) (more (symbol (p 1 111) (codes "ltk")) (more (symbol (p 1 115) (codes "a")) (more (symbol (p 1 117) (codes "b")) none)))) none))))) none))) none)))) none))))) (more (list (p 1 124) (more (symbol (p 1 125) (codes "defrole")) (more (symbol (p 1 133) (codes "s")) (more (list (p 1 135) (more (symbol (p 1 136) (codes "vars")) (more (list (p 1 141) (more (symbol (p 1 142) (codes "a")) (more (symbol (p 1 144) (codes "name")) none))) (more (list (p 1 150) (more (symbol (p 1 151) (codes "n")) (more (symbol (p 1 153) (codes "text")) none))) none)))) (more (list (p 1 160) (more (symbol (p 1 161) (codes "trace")) (more (list (p 1 167) (more (symbol (p 1 168) (codes "recv")) (more (symbol (p 1 173) (codes "n")) none))) (more (list (p 1 176) (more (symbol (p 1 177) (codes "send")) (more (list (p 1 182) (more (symbol (p 1 183) (codes "cat")) (more (symbol (p 1 187) (codes "a")) (more (symbol (p 1 189) (codes "n")) none)))) none))) none)))) none))))) none)))))) (more (list (p 2 1) (more (symbol (p 2 2) (codes "defskeleton")) (more (symbol (p 2 14) (codes "p")) (more (list (p 2 16) (more (symbol (p 2 17) (codes "vars")) (more (list (p 2 22) (more (symbol (p 2 23) (codes "a")) (more (symbol (p 2 25) (codes "b")) (more (symbol (p 2 27) (codes "name")) none)))) (more (list (p 2 33) (more (symbol (p 2 34) (codes "n")) (more (symbol (p 2 36) (codes "m")) (more (symbol (p 2 38) (codes "text")) none)))) (more (list (p 2 44) (more (symbol (p 2 45) (codes "k")) (more (symbol (p 2 47) (codes "skey")) none))) (more (list (p 2 53) (more (symbol (p 2 54) (codes "e")) (more (symbol (p 2 56) (codes "akey")) none))) (more (list (p 2 62) (more (symbol (p 2 63) (codes "d")) (more (symbol (p 2 65) (codes "data")) none))) none))))))) (more (list (p 2 72) (more (symbol (p 2 73) (codes "defstrand")) (more (symbol (p 2 83) (codes "r")) (more (number (p 2 85) 1) (more (list (p 2 87) (more (symbol (p 2 88) (codes "a")) (more (symbol (p 2 90) (codes "a")) none))) (more (list (p 2 93) (more (symbol (p 2 94) (codes "n")) (more (symbol (p 2 96) (codes "d")) none))) (more (list (p 2 99) (more (symbol (p 2 100) (codes "b")) (more (symbol (p 2 102) (codes "b")) none))) none))))))) none))))) none))) ≡ Some (record { place = p 2 96; code = IllSorted })
sort_maplet_data = refl

-- (defprotocol p basic (defrole r (vars (a b name) (n text) (k skey)) (trace (send (enc n a k)) (recv (enc n b (ltk a b))))) (defrole s (vars (a name) (n text)) (trace (recv n) (send (cat a n)))))
-- (defskeleton p (vars (a b name) (n m text) (k skey) (e akey) (d data)) (defstrand r 1 (n (enc n k))))
sort_maplet_enc : first (faults_of (more (list (p 1 1) (more (symbol (p 1 2) (codes "defprotocol")) (more (symbol (p 1 14) (codes "p")) (more (symbol (p 1 16) (codes "basic")) (more (list (p 1 22) (more (symbol (p 1 23) (codes "defrole")) (more (symbol (p 1 31) (codes "r")) (more (list (p 1 33) (more (symbol (p 1 34) (codes "vars")) (more (list (p 1 39) (more (symbol (p 1 40) (codes "a")) (more (symbol (p 1 42) (codes "b")) (more (symbol (p 1 44) (codes "name")) none)))) (more (list (p 1 50) (more (symbol (p 1 51) (codes "n")) (more (symbol (p 1 53) (codes "text")) none))) (more (list (p 1 59) (more (symbol (p 1 60) (codes "k")) (more (symbol (p 1 62) (codes "skey")) none))) none))))) (more (list (p 1 69) (more (symbol (p 1 70) (codes "trace")) (more (list (p 1 76) (more (symbol (p 1 77) (codes "send")) (more (list (p 1 82) (more (symbol (p 1 83) (codes "enc")) (more (symbol (p 1 87) (codes "n")) (more (symbol (p 1 89) (codes "a")) (more (symbol (p 1 91) (codes "k")) none))))) none))) (more (list (p 1 95) (more (symbol (p 1 96) (codes "recv")) (more (list (p 1 101) (more (symbol (p 1 102) (codes "enc")) (more (symbol (p 1 106) (codes "n")) (more (symbol (p 1 108) (codes "b")) (more (list (p 1 110) (more (symbol (p 1 111) (codes "ltk")) (more (symbol (p 1 115) (codes "a")) (more (symbol (p 1 117) (codes "b")) none)))) none))))) none))) none)))) none))))) (more (list (p 1 124) (more (symbol (p 1 125) (codes "defrole")) (more (symbol (p 1 133) (codes "s")) (more (list (p 1 135) (more (symbol (p 1 136) (codes "vars")) (more (list (p 1 141) (more (symbol (p 1 142) (codes "a")) (more (symbol (p 1 144) (codes "name")) none))) (more (list (p 1 150) (more (symbol (p 1 151) (codes "n")) (more (symbol (p 1 153) (codes "text")) none))) none)))) (more (list (p 1 160) (more (symbol (p 1 161) (codes "trace")) (more (list (p 1 167) (more (symbol (p 1 168) (codes "recv")) (more (symbol (p 1 173) (codes "n")) none))) (more (list (p 1 176) (more (symbol (p 1 177) (codes "send")) (more (list (p 1 182) (more (symbol (p 1 183) (codes "cat")) (more (symbol (p 1 187) (codes "a")) (more (symbol (p 1 189) (codes "n")) none)))) none))) none)))) none))))) none)))))) (more (list (p 2 1) (more (symbol (p 2 2) (codes "defskeleton")) (more (symbol (p 2 14) (codes "p")) (more (list (p 2 16) (more (symbol (p 2 17) (codes "vars")) (more (list (p 2 22) (more (symbol (p 2 23) (codes "a")) (more (symbol (p 2 25) (codes "b")) (more (symbol (p 2 27) (codes "name")) none)))) (more (list (p 2 33) (more (symbol (p 2 34) (codes "n")) (more (symbol (p 2 36) (codes "m")) (more (symbol (p 2 38) (codes "text")) none)))) (more (list (p 2 44) (more (symbol (p 2 45) (codes "k")) (more (symbol (p 2 47) (codes "skey")) none))) (more (list (p 2 53) (more (symbol (p 2 54) (codes "e")) (more (symbol (p 2 56) (codes "akey")) none))) (more (list (p 2 62) (more (symbol (p 2 63) (codes "d")) (more (symbol (p 2 65) (codes "data")) none))) none))))))) (more (list (p 2 72) (more (symbol (p 2 73) (codes "defstrand")) (more (symbol (p 2 83) (codes "r")) (more (number (p 2 85) 1) (more (list (p 2 87) (more (symbol (p 2 88) (codes "n")) (more (list (p 2 90) (more (symbol (p 2 91) (codes "enc")) (more (symbol (p 2 95) (codes "n")) (more (symbol (p 2 97) (codes "k")) none)))) none))) none))))) none))))) none))) ≡ Some (record { place = p 2 90; code = IllSorted })
sort_maplet_enc = refl

-- (defprotocol p basic (defrole r (vars (a b name) (n text) (k skey)) (trace (send (enc n a k)) (recv (enc n b (ltk a b))))) (defrole s (vars (a name) (n text)) (trace (recv n) (send (cat a n)))))
-- (defskeleton p (vars (a b name) (n m text) (k skey) (e akey) (d data)) (defstrand r 1 (n "n")))
sort_maplet_tag : first (faults_of (more (list (p 1 1) (more (symbol (p 1 2) (codes "defprotocol")) (more (symbol (p 1 14) (codes "p")) (more (symbol (p 1 16) (codes "basic")) (more (list (p 1 22) (more (symbol (p 1 23) (codes "defrole")) (more (symbol (p 1 31) (codes "r")) (more (list (p 1 33) (more (symbol (p 1 34) (codes "vars")) (more (list (p 1 39) (more (symbol (p 1 40) (codes "a")) (more (symbol (p 1 42) (codes "b")) (more (symbol (p 1 44) (codes "name")) none)))) (more (list (p 1 50) (more (symbol (p 1 51) (codes "n")) (more (symbol (p 1 53) (codes "text")) none))) (more (list (p 1 59) (more (symbol (p 1 60) (codes "k")) (more (symbol (p 1 62) (codes "skey")) none))) none))))) (more (list (p 1 69) (more (symbol (p 1 70) (codes "trace")) (more (list (p 1 76) (more (symbol (p 1 77) (codes "send")) (more (list (p 1 82) (more (symbol (p 1 83) (codes "enc")) (more (symbol (p 1 87) (codes "n")) (more (symbol (p 1 89) (codes "a")) (more (symbol (p 1 91) (codes "k")) none))))) none))) (more (list (p 1 95) (more (symbol (p 1 96) (codes "recv")) (more (list (p 1 101) (more (symbol (p 1 102) (codes "enc")) (more (symbol (p 1 106) (codes "n")) (more (symbol (p 1 108) (codes "b")) (more (list (p 1 110) (more (symbol (p 1 111) (codes "ltk")) (more (symbol (p 1 115) (codes "a")) (more (symbol (p 1 117) (codes "b")) none)))) none))))) none))) none)))) none))))) (more (list (p 1 124) (more (symbol (p 1 125) (codes "defrole")) (more (symbol (p 1 133) (codes "s")) (more (list (p 1 135) (more (symbol (p 1 136) (codes "vars")) (more (list (p 1 141) (more (symbol (p 1 142) (codes "a")) (more (symbol (p 1 144) (codes "name")) none))) (more (list (p 1 150) (more (symbol (p 1 151) (codes "n")) (more (symbol (p 1 153) (codes "text")) none))) none)))) (more (list (p 1 160) (more (symbol (p 1 161) (codes "trace")) (more (list (p 1 167) (more (symbol (p 1 168) (codes "recv")) (more (symbol (p 1 173) (codes "n")) none))) (more (list (p 1 176) (more (symbol (p 1 177) (codes "send")) (more (list (p 1 182) (more (symbol (p 1 183) (codes "cat")) (more (symbol (p 1 187) (codes "a")) (more (symbol (p 1 189) (codes "n")) none)))) none))) none)))) none))))) none)))))) (more (list (p 2 1) (more (symbol (p 2 2) (codes "defskeleton")) (more (symbol (p 2 14) (codes "p")) (more (list (p 2 16) (more (symbol (p 2 17) (codes "vars")) (more (list (p 2 22) (more (symbol (p 2 23) (codes "a")) (more (symbol (p 2 25) (codes "b")) (more (symbol (p 2 27) (codes "name")) none)))) (more (list (p 2 33) (more (symbol (p 2 34) (codes "n")) (more (symbol (p 2 36) (codes "m")) (more (symbol (p 2 38) (codes "text")) none)))) (more (list (p 2 44) (more (symbol (p 2 45) (codes "k")) (more (symbol (p 2 47) (codes "skey")) none))) (more (list (p 2 53) (more (symbol (p 2 54) (codes "e")) (more (symbol (p 2 56) (codes "akey")) none))) (more (list (p 2 62) (more (symbol (p 2 63) (codes "d")) (more (symbol (p 2 65) (codes "data")) none))) none))))))) (more (list (p 2 72) (more (symbol (p 2 73) (codes "defstrand")) (more (symbol (p 2 83) (codes "r")) (more (number (p 2 85) 1) (more (list (p 2 87) (more (symbol (p 2 88) (codes "n")) (more (string (p 2 90) (codes "n")) none))) none))))) none))))) none))) ≡ Some (record { place = p 2 90; code = IllSorted })
sort_maplet_tag = refl

-- (defprotocol p basic (defrole r (vars (a b name) (n text) (k skey) (e akey) (d data)) (trace (send (privk "sig" d)))))
sort_privk_purpose : first (faults_of (more (list (p 1 1) (more (symbol (p 1 2) (codes "defprotocol")) (more (symbol (p 1 14) (codes "p")) (more (symbol (p 1 16) (codes "basic")) (more (list (p 1 22) (more (symbol (p 1 23) (codes "defrole")) (more (symbol (p 1 31) (codes "r")) (more (list (p 1 33) (more (symbol (p 1 34) (codes "vars")) (more (list (p 1 39) (more (symbol (p 1 40) (codes "a")) (more (symbol (p 1 42) (codes "b")) (more (symbol (p 1 44) (codes "name")) none)))) (more (list (p 1 50) (more (symbol (p 1 51) (codes "n")) (more (symbol (p 1 53) (codes "text")) none))) (more (list (p 1 59) (more (symbol (p 1 60) (codes "k")) (more (symbol (p 1 62) (codes "skey")) none))) (more (list (p 1 68) (more (symbol (p 1 69) (codes "e")) (more (symbol (p 1 71) (codes "akey")) none))) (more (list (p 1 77) (more (symbol (p 1 78) (codes "d")) (more (symbol (p 1 80) (codes "data")) none))) none))))))) (more (list (p 1 87) (more (symbol (p 1 88) (codes "trace")) (more (list (p 1 94) (more (symbol (p 1 95) (codes "send")) (more (list (p 1 100) (more (symbol (p 1 101) (codes "privk")) (more (string (p 1 107) (codes "sig")) (more (symbol (p 1 113) (codes "d")) none)))) none))) none))) none))))) none))))) none)) ≡ Some (record { place = p 1 113; code = IllSorted })
sort_privk_purpose = refl

-- (defprotocol p basic (defrole r (vars (a b name) (n text) (k skey) (e akey) (d data)) (trace (send (pubk (cat a b))))))
sort_pubk_pair : first (faults_of (more (list (p 1 1) (more (symbol (p 1 2) (codes "defprotocol")) (more (symbol (p 1 14) (codes "p")) (more (symbol (p 1 16) (codes "basic")) (more (list (p 1 22) (more (symbol (p 1 23) (codes "defrole")) (more (symbol (p 1 31) (codes "r")) (more (list (p 1 33) (more (symbol (p 1 34) (codes "vars")) (more (list (p 1 39) (more (symbol (p 1 40) (codes "a")) (more (symbol (p 1 42) (codes "b")) (more (symbol (p 1 44) (codes "name")) none)))) (more (list (p 1 50) (more (symbol (p 1 51) (codes "n")) (more (symbol (p 1 53) (codes "text")) none))) (more (list (p 1 59) (more (symbol (p 1 60) (codes "k")) (more (symbol (p 1 62) (codes "skey")) none))) (more (list (p 1 68) (more (symbol (p 1 69) (codes "e")) (more (symbol (p 1 71) (codes "akey")) none))) (more (list (p 1 77) (more (symbol (p 1 78) (codes "d")) (more (symbol (p 1 80) (codes "data")) none))) none))))))) (more (list (p 1 87) (more (symbol (p 1 88) (codes "trace")) (more (list (p 1 94) (more (symbol (p 1 95) (codes "send")) (more (list (p 1 100) (more (symbol (p 1 101) (codes "pubk")) (more (list (p 1 106) (more (symbol (p 1 107) (codes "cat")) (more (symbol (p 1 111) (codes "a")) (more (symbol (p 1 113) (codes "b")) none)))) none))) none))) none))) none))))) none))))) none)) ≡ Some (record { place = p 1 106; code = IllSorted })
sort_pubk_pair = refl

-- (defprotocol p basic (defrole r (vars (a b name) (n text) (k skey)) (trace (send (enc n a k)) (recv (enc n b (ltk a b))))) (defrole s (vars (a name) (n text)) (trace (recv n) (send (cat a n)))))
-- (defskeleton p (vars (a b name) (n m text) (k skey) (e akey) (d data)) (defstrand s 1 (n n)) (uniq-orig a))
uniq_beyond_prefix : first (faults_of (more (list (p 1 1) (more (symbol (p 1 2) (codes "defprotocol")) (more (symbol (p 1 14) (codes "p")) (more (symbol (p 1 16) (codes "basic")) (more (list (p 1 22) (more (symbol (p 1 23) (codes "defrole")) (more (symbol (p 1 31) (codes "r")) (more (list (p 1 33) (more (symbol (p 1 34) (codes "vars")) (more (list (p 1 39) (more (symbol (p 1 40) (codes "a")) (more (symbol (p 1 42) (codes "b")) (more (symbol (p 1 44) (codes "name")) none)))) (more (list (p 1 50) (more (symbol (p 1 51) (codes "n")) (more (symbol (p 1 53) (codes "text")) none))) (more (list (p 1 59) (more (symbol (p 1 60) (codes "k")) (more (symbol (p 1 62) (codes "skey")) none))) none))))) (more (list (p 1 69) (more (symbol (p 1 70) (codes "trace")) (more (list (p 1 76) (more (symbol (p 1 77) (codes "send")) (more (list (p 1 82) (more (symbol (p 1 83) (codes "enc")) (more (symbol (p 1 87) (codes "n")) (more (symbol (p 1 89) (codes "a")) (more (symbol (p 1 91) (codes "k")) none))))) none))) (more (list (p 1 95) (more (symbol (p 1 96) (codes "recv")) (more (list (p 1 101) (more (symbol (p 1 102) (codes "enc")) (more (symbol (p 1 106) (codes "n")) (more (symbol (p 1 108) (codes "b")) (more (list (p 1 110) (more (symbol (p 1 111) (codes "ltk")) (more (symbol (p 1 115) (codes "a")) (more (symbol (p 1 117) (codes "b")) none)))) none))))) none))) none)))) none))))) (more (list (p 1 124) (more (symbol (p 1 125) (codes "defrole")) (more (symbol (p 1 133) (codes "s")) (more (list (p 1 135) (more (symbol (p 1 136) (codes "vars")) (more (list (p 1 141) (more (symbol (p 1 142) (codes "a")) (more (symbol (p 1 144) (codes "name")) none))) (more (list (p 1 150) (more (symbol (p 1 151) (codes "n")) (more (symbol (p 1 153) (codes "text")) none))) none)))) (more (list (p 1 160) (more (symbol (p 1 161) (codes "trace")) (more (list (p 1 167) (more (symbol (p 1 168) (codes "recv")) (more (symbol (p 1 173) (codes "n")) none))) (more (list (p 1 176) (more (symbol (p 1 177) (codes "send")) (more (list (p 1 182) (more (symbol (p 1 183) (codes "cat")) (more (symbol (p 1 187) (codes "a")) (more (symbol (p 1 189) (codes "n")) none)))) none))) none)))) none))))) none)))))) (more (list (p 2 1) (more (symbol (p 2 2) (codes "defskeleton")) (more (symbol (p 2 14) (codes "p")) (more (list (p 2 16) (more (symbol (p 2 17) (codes "vars")) (more (list (p 2 22) (more (symbol (p 2 23) (codes "a")) (more (symbol (p 2 25) (codes "b")) (more (symbol (p 2 27) (codes "name")) none)))) (more (list (p 2 33) (more (symbol (p 2 34) (codes "n")) (more (symbol (p 2 36) (codes "m")) (more (symbol (p 2 38) (codes "text")) none)))) (more (list (p 2 44) (more (symbol (p 2 45) (codes "k")) (more (symbol (p 2 47) (codes "skey")) none))) (more (list (p 2 53) (more (symbol (p 2 54) (codes "e")) (more (symbol (p 2 56) (codes "akey")) none))) (more (list (p 2 62) (more (symbol (p 2 63) (codes "d")) (more (symbol (p 2 65) (codes "data")) none))) none))))))) (more (list (p 2 72) (more (symbol (p 2 73) (codes "defstrand")) (more (symbol (p 2 83) (codes "s")) (more (number (p 2 85) 1) (more (list (p 2 87) (more (symbol (p 2 88) (codes "n")) (more (symbol (p 2 90) (codes "n")) none))) none))))) (more (list (p 2 94) (more (symbol (p 2 95) (codes "uniq-orig")) (more (symbol (p 2 105) (codes "a")) none))) none)))))) none))) ≡ Some (record { place = p 2 105; code = UniqNowhere })
uniq_beyond_prefix = refl

-- (defprotocol p basic (defrole r (vars (a b name) (n text) (k skey)) (trace (send (enc n a k)) (recv (enc n b (ltk a b))))) (defrole s (vars (a name) (n text)) (trace (recv n) (send (cat a n)))))
-- (defskeleton p (vars (a b name) (n m text) (k skey) (e akey) (d data)) (defstrand r 1 (k k)) (uniq-orig k))
uniq_key : first (faults_of (more (list (p 1 1) (more (symbol (p 1 2) (codes "defprotocol")) (more (symbol (p 1 14) (codes "p")) (more (symbol (p 1 16) (codes "basic")) (more (list (p 1 22) (more (symbol (p 1 23) (codes "defrole")) (more (symbol (p 1 31) (codes "r")) (more (list (p 1 33) (more (symbol (p 1 34) (codes "vars")) (more (list (p 1 39) (more (symbol (p 1 40) (codes "a")) (more (symbol (p 1 42) (codes "b")) (more (symbol (p 1 44) (codes "name")) none)))) (more (list (p 1 50) (more (symbol (p 1 51) (codes "n")) (more (symbol (p 1 53) (codes "text")) none))) (more (list (p 1 59) (more (symbol (p 1 60) (codes "k")) (more (symbol (p 1 62) (codes "skey")) none))) none))))) (more (list (p 1 69) (more (symbol (p 1 70) (codes "trace")) (more (list (p 1 76) (more (symbol (p 1 77) (codes "send")) (more (list (p 1 82) (more (symbol (p 1 83) (codes "enc")) (more (symbol (p 1 87) (codes "n")) (more (symbol (p 1 89) (codes "a")) (more (symbol (p 1 91) (codes "k")) none))))) none))) (more (list (p 1 95) (more (symbol (p 1 96) (codes "recv")) (more (list (p 1 101) (more (symbol (p 1 102) (codes "enc")) (more (symbol (p 1 106) (codes "n")) (more (symbol (p 1 108) (codes "b")) (more (list (p 1 110) (more (symbol (p 1 111) (codes "ltk")) (more (symbol (p 1 115) (codes "a")) (more (symbol (p 1 117) (codes "b")) none)))) none))))) none))) none)))) none))))) (more (list (p 1 124) (more (symbol (p 1 125) (codes "defrole")) (more (symbol (p 1 133) (codes "s")) (more (list (p 1 135) (more (symbol (p 1 136) (codes "vars")) (more (list (p 1 141) (more (symbol (p 1 142) (codes "a")) (more (symbol (p 1 144) (codes "name")) none))) (more (list (p 1 150) (more (symbol (p 1 151) (codes "n")) (more (symbol (p 1 153) (codes "text")) none))) none)))) (more (list (p 1 160) (more (symbol (p 1 161) (codes "trace")) (more (list (p 1 167) (more (symbol (p 1 168) (codes "recv")) (more (symbol (p 1 173) (codes "n")) none))) (more (list (p 1 176) (more (symbol (p 1 177) (codes "send")) (more (list (p 1 182) (more (symbol (p 1 183) (codes "cat")) (more (symbol (p 1 187) (codes "a")) (more (symbol (p 1 189) (codes "n")) none)))) none))) none)))) none))))) none)))))) (more (list (p 2 1) (more (symbol (p 2 2) (codes "defskeleton")) (more (symbol (p 2 14) (codes "p")) (more (list (p 2 16) (more (symbol (p 2 17) (codes "vars")) (more (list (p 2 22) (more (symbol (p 2 23) (codes "a")) (more (symbol (p 2 25) (codes "b")) (more (symbol (p 2 27) (codes "name")) none)))) (more (list (p 2 33) (more (symbol (p 2 34) (codes "n")) (more (symbol (p 2 36) (codes "m")) (more (symbol (p 2 38) (codes "text")) none)))) (more (list (p 2 44) (more (symbol (p 2 45) (codes "k")) (more (symbol (p 2 47) (codes "skey")) none))) (more (list (p 2 53) (more (symbol (p 2 54) (codes "e")) (more (symbol (p 2 56) (codes "akey")) none))) (more (list (p 2 62) (more (symbol (p 2 63) (codes "d")) (more (symbol (p 2 65) (codes "data")) none))) none))))))) (more (list (p 2 72) (more (symbol (p 2 73) (codes "defstrand")) (more (symbol (p 2 83) (codes "r")) (more (number (p 2 85) 1) (more (list (p 2 87) (more (symbol (p 2 88) (codes "k")) (more (symbol (p 2 90) (codes "k")) none))) none))))) (more (list (p 2 94) (more (symbol (p 2 95) (codes "uniq-orig")) (more (symbol (p 2 105) (codes "k")) none))) none)))))) none))) ≡ Some (record { place = p 2 105; code = UniqNowhere })
uniq_key = refl

-- (defprotocol p basic (defrole r (vars (a b name) (n text) (k skey)) (trace (send (enc n a k)) (recv (enc n b (ltk a b))))) (defrole s (vars (a name) (n text)) (trace (recv n) (send (cat a n)))))
-- (defskeleton p (vars (a b name) (n m text) (k skey) (e akey) (d data)) (deflistener n) (uniq-orig n))
uniq_listener_only : first (faults_of (more (list (p 1 1) (more (symbol (p 1 2) (codes "defprotocol")) (more (symbol (p 1 14) (codes "p")) (more (symbol (p 1 16) (codes "basic")) (more (list (p 1 22) (more (symbol (p 1 23) (codes "defrole")) (more (symbol (p 1 31) (codes "r")) (more (list (p 1 33) (more (symbol (p 1 34) (codes "vars")) (more (list (p 1 39) (more (symbol (p 1 40) (codes "a")) (more (symbol (p 1 42) (codes "b")) (more (symbol (p 1 44) (codes "name")) none)))) (more (list (p 1 50) (more (symbol (p 1 51) (codes "n")) (more (symbol (p 1 53) (codes "text")) none))) (more (list (p 1 59) (more (symbol (p 1 60) (codes "k")) (more (symbol (p 1 62) (codes "skey")) none))) none))))) (more (list (p 1 69) (more (symbol (p 1 70) (codes "trace")) (more (list (p 1 76) (more (symbol (p 1 77) (codes "send")) (more (list (p 1 82) (more (symbol (p 1 83) (codes "enc")) (more (symbol (p 1 87) (codes "n")) (more (symbol (p 1 89) (codes "a")) (more (symbol (p 1 91) (codes "k")) none))))) none))) (more (list (p 1 95) (more (symbol (p 1 96) (codes "recv")) (more (list (p 1 101) (more (symbol (p 1 102) (codes "enc")) (more (symbol (p 1 106) (codes "n")) (more (symbol (p 1 108) (codes "b")) (more (list (p 1 110) (more (symbol (p 1 111) (codes "ltk")) (more (symbol (p 1 115) (codes "a")) (more (symbol (p 1 117) (codes "b")) none)))) none))))) none))) none)))) none))))) (more (list (p 1 124) (more (symbol (p 1 125) (codes "defrole")) (more (symbol (p 1 133) (codes "s")) (more (list (p 1 135) (more (symbol (p 1 136) (codes "vars")) (more (list (p 1 141) (more (symbol (p 1 142) (codes "a")) (more (symbol (p 1 144) (codes "name")) none))) (more (list (p 1 150) (more (symbol (p 1 151) (codes "n")) (more (symbol (p 1 153) (codes "text")) none))) none)))) (more (list (p 1 160) (more (symbol (p 1 161) (codes "trace")) (more (list (p 1 167) (more (symbol (p 1 168) (codes "recv")) (more (symbol (p 1 173) (codes "n")) none))) (more (list (p 1 176) (more (symbol (p 1 177) (codes "send")) (more (list (p 1 182) (more (symbol (p 1 183) (codes "cat")) (more (symbol (p 1 187) (codes "a")) (more (symbol (p 1 189) (codes "n")) none)))) none))) none)))) none))))) none)))))) (more (list (p 2 1) (more (symbol (p 2 2) (codes "defskeleton")) (more (symbol (p 2 14) (codes "p")) (more (list (p 2 16) (more (symbol (p 2 17) (codes "vars")) (more (list (p 2 22) (more (symbol (p 2 23) (codes "a")) (more (symbol (p 2 25) (codes "b")) (more (symbol (p 2 27) (codes "name")) none)))) (more (list (p 2 33) (more (symbol (p 2 34) (codes "n")) (more (symbol (p 2 36) (codes "m")) (more (symbol (p 2 38) (codes "text")) none)))) (more (list (p 2 44) (more (symbol (p 2 45) (codes "k")) (more (symbol (p 2 47) (codes "skey")) none))) (more (list (p 2 53) (more (symbol (p 2 54) (codes "e")) (more (symbol (p 2 56) (codes "akey")) none))) (more (list (p 2 62) (more (symbol (p 2 63) (codes "d")) (more (symbol (p 2 65) (codes "data")) none))) none))))))) (more (list (p 2 72) (more (symbol (p 2 73) (codes "deflistener")) (more (symbol (p 2 85) (codes "n")) none))) (more (list (p 2 88) (more (symbol (p 2 89) (codes "uniq-orig")) (more (symbol (p 2 99) (codes "n")) none))) none)))))) none))) ≡ Some (record { place = p 2 99; code = UniqNowhere })
uniq_listener_only = refl

-- (defprotocol p basic (defrole r (vars (a b name) (n text) (k skey)) (trace (send (enc n a k)) (recv (enc n b (ltk a b))))) (defrole s (vars (a name) (n text)) (trace (recv n) (send (cat a n)))))
-- (defskeleton p (vars (a b name) (n m text) (k skey) (e akey) (d data)) (defstrand r 1 (a a) (n n)) (uniq-orig n a b))
uniq_second_item : first (faults_of (more (list (p 1 1) (more (symbol (p 1 2) (codes "defprotocol")) (more (symbol (p 1 14) (codes "p")) (more (symbol (p 1 16) (codes "basic")) (more (list (p 1 22) (more (symbol (p 1 23) (codes "defrole")) (more (symbol (p 1 31) (codes "r")) (more (list (p 1 33) (more (symbol (p 1 34) (codes "vars")) (more (list (p 1 39) (more (symbol (p 1 40) (codes "a")) (more (symbol (p 1 42) (codes "b")) (more (symbol (p 1 44) (codes "name")) none)))) (more (list (p 1 50) (more (symbol (p 1 51) (codes "n")) (more (symbol (p 1 53) (codes "text")) none))) (more (list (p 1 59) (more (symbol (p 1 60) (codes "k")) (more (symbol (p 1 62) (codes "skey")) none))) none))))) (more (list (p 1 69) (more (symbol (p 1 70) (codes "trace")) (more (list (p 1 76) (more (symbol (p 1 77) (codes "send")) (more (list (p 1 82) (more (symbol (p 1 83) (codes "enc")) (more (symbol (p 1 87) (codes "n")) (more (symbol (p 1 89) (codes "a")) (more (symbol (p 1 91) (codes "k")) none))))) none))) (more (list (p 1 95) (more (symbol (p 1 96) (codes "recv")) (more (list (p 1 101) (more (symbol (p 1 102) (codes "enc")) (more (symbol (p 1 106) (codes "n")) (more (symbol (p 1 108) (codes "b")) (more (list (p 1 110) (more (symbol (p 1 111) (codes "ltk")) (more (symbol (p 1 115) (codes "a")) (more (symbol (p 1 117) (codes "b")) none)))) none))))) none))) none)))) none))))) (more (list (p 1 124) (more (symbol (p 1 125) (codes "defrole")) (more (symbol (p 1 133) (codes "s")) (more (list (p 1 135) (more (symbol (p 1 136) (codes "vars")) (more (list (p 1 141) (more (symbol (p 1 142) (codes "a")) (more (symbol (p 1 144) (codes "name")) none))) (more (list (p 1 150) (more (symbol (p 1 151) (codes "n")) (more (symbol (p 1 153) (codes "text")) none))) none)))) (more (list (p 1 160) (more (symbol (p 1 161) (codes "trace")) (more (list (p 1 167) (more (symbol (p 1 168) (codes "recv")) (more (symbol (p 1 173) (codes "n")) none))) (more (list (p 1 176) (more (symbol (p 1 177) (codes "send")) (more (list (p 1 182) (more (symbol (p 1 183) (codes "cat")) (more (symbol (p 1 187) (codes "a")) (more (symbol (p 1 189) (codes "n")) none)))) none))) none)))) none))))) none)))))) (more (list (p 2 1) (more (symbol (p 2 2) (codes "defskeleton")) (more (symbol (p 2 14) (codes "p")) (more (list (p 2 16) (more (symbol (p 2 17) (codes "vars")) (more (list (p 2 22) (more (symbol (p 2 23) (codes "a")) (more (symbol (p 2 25) (codes "b")) (more (symbol (p 2 27) (codes "name")) none)))) (more (list (p 2 33) (more (symbol (p 2 34) (codes "n")) (more (symbol (p 2 36) (codes "m")) (more (symbol (p 2 38) (codes "text")) none)))) (more (list (p 2 44) (more (symbol (p 2 45) (codes "k")) (more (symbol (p 2 47) (codes "skey")) none))) (more (list (p 2 53) (more (symbol (p 2 54) (codes "e")) (more (symbol (p 2 56) (codes "akey")) none))) (more (list (p 2 62) (more (symbol (p 2 63) (codes "d")) (more (symbol (p 2 65) (codes "data")) none))) none))))))) (more (list (p 2 72) (more (symbol (p 2 73) (codes "defstrand")) (more (symbol (p 2 83) (codes "r")) (more (number (p 2 85) 1) (more (list (p 2 87) (more (symbol (p 2 88) (codes "a")) (more (symbol (p 2 90) (codes "a")) none))) (more (list (p 2 93) (more (symbol (p 2 94) (codes "n")) (more (symbol (p 2 96) (codes "n")) none))) none)))))) (more (list (p 2 100) (more (symbol (p 2 101) (codes "uniq-orig")) (more (symbol (p 2 111) (codes "n")) (more (symbol (p 2 113) (codes "a")) (more (symbol (p 2 115) (codes "b")) none))))) none)))))) none))) ≡ Some (record { place = p 2 115; code = UniqNowhere })
uniq_second_item = refl

-- (defprotocol p basic (defrole r (vars (a b name) (n text) (k skey)) (trace (send (enc n a k)) (recv (enc n b (ltk a b))))) (defrole s (vars (a name) (n text)) (trace (recv n) (send (cat a n)))))
-- (defskeleton p (vars (a b name) (n m text) (k skey) (e akey) (d data)) (defstrand init 1))
unknown_role : first (faults_of (more (list (p 1 1) (more (symbol (p 1 2) (codes "defprotocol")) (more (symbol (p 1 14) (codes "p")) (more (symbol (p 1 16) (codes "basic")) (more (list (p 1 22) (more (symbol (p 1 23) (codes "defrole")) (more (symbol (p 1 31) (codes "r")) (more (list (p 1 33) (more (symbol (p 1 34) (codes "vars")) (more (list (p 1 39) (more (symbol (p 1 40) (codes "a")) (more (symbol (p 1 42) (codes "b")) (more (symbol (p 1 44) (codes "name")) none)))) (more (list (p 1 50) (more (symbol (p 1 51) (codes "n")) (more (symbol (p 1 53) (codes "text")) none))) (more (list (p 1 59) (more (symbol (p 1 60) (codes "k")) (more (symbol (p 1 62) (codes "skey")) none))) none))))) (more (list (p 1 69) (more (symbol (p 1 70) (codes "trace")) (more (list (p 1 76) (more (symbol (p 1 77) (codes "send")) (more (list (p 1 82) (more (symbol (p 1 83) (codes "enc")) (more (symbol (p 1 87) (codes "n")) (more (symbol (p 1 89) (codes "a")) (more (symbol (p 1 91) (codes "k")) none))))) none))) (more (list (p 1 95) (more (symbol (p 1 96) (codes "recv")) (more (list (p 1 101) (more (symbol (p 1 102) (codes "enc")) (more (symbol (p 1 106) (codes "n")) (more (symbol (p 1 108) (codes "b")) (more (list (p 1 110) (more (symbol (p 1 111) (codes "ltk")) (more (symbol (p 1 115) (codes "a")) (more (symbol (p 1 117) (codes "b")) none)))) none))))) none))) none)))) none))))) (more (list (p 1 124) (more (symbol (p 1 125) (codes "defrole")) (more (symbol (p 1 133) (codes "s")) (more (list (p 1 135) (more (symbol (p 1 136) (codes "vars")) (more (list (p 1 141) (more (symbol (p 1 142) (codes "a")) (more (symbol (p 1 144) (codes "name")) none))) (more (list (p 1 150) (more (symbol (p 1 151) (codes "n")) (more (symbol (p 1 153) (codes "text")) none))) none)))) (more (list (p 1 160) (more (symbol (p 1 161) (codes "trace")) (more (list (p 1 167) (more (symbol (p 1 168) (codes "recv")) (more (symbol (p 1 173) (codes "n")) none))) (more (list (p 1 176) (more (symbol (p 1 177) (codes "send")) (more (list (p 1 182) (more (symbol (p 1 183) (codes "cat")) (more (symbol (p 1 187) (codes "a")) (more (symbol (p 1 189) (codes "n")) none)))) none))) none)))) none))))) none)))))) (more (list (p 2 1) (more (symbol (p 2 2) (codes "defskeleton")) (more (symbol (p 2 14) (codes "p")) (more (list (p 2 16) (more (symbol (p 2 17) (codes "vars")) (more (list (p 2 22) (more (symbol (p 2 23) (codes "a")) (more (symbol (p 2 25) (codes "b")) (more (symbol (p 2 27) (codes "name")) none)))) (more (list (p 2 33) (more (symbol (p 2 34) (codes "n")) (more (symbol (p 2 36) (codes "m")) (more (symbol (p 2 38) (codes "text")) none)))) (more (list (p 2 44) (more (symbol (p 2 45) (codes "k")) (more (symbol (p 2 47) (codes "skey")) none))) (more (list (p 2 53) (more (symbol (p 2 54) (codes "e")) (more (symbol (p 2 56) (codes "akey")) none))) (more (list (p 2 62) (more (symbol (p 2 63) (codes "d")) (more (symbol (p 2 65) (codes "data")) none))) none))))))) (more (list (p 2 72) (more (symbol (p 2 73) (codes "defstrand")) (more (symbol (p 2 83) (codes "init")) (more (number (p 2 88) 1) none)))) none))))) none))) ≡ Some (record { place = p 2 83; code = UnknownRole })
unknown_role = refl

-- (defprotocol p basic (defrole r (vars (a b name) (n text) (k skey)) (trace (send (enc n a k)) (recv (enc n b (ltk a b))))) (defrole s (vars (a name) (n text)) (trace (recv n) (send (cat a n)))))
-- (defskeleton p (vars (a b name) (n m text) (k skey) (e akey) (d data)) (deflistener n) (defstrand R 0 (zz zz)))
unknown_role_before_height : first (faults_of (more (list (p 1 1) (more (symbol (p 1 2) (codes "defprotocol")) (more (symbol (p 1 14) (codes "p")) (more (symbol (p 1 16) (codes "basic")) (more (list (p 1 22) (more (symbol (p 1 23) (codes "defrole")) (more (symbol (p 1 31) (codes "r")) (more (list (p 1 33) (more (symbol (p 1 34) (codes "vars")) (more (list (p 1 39) (more (symbol (p 1 40) (codes "a")) (more (symbol (p 1 42) (codes "b")) (more (symbol (p 1 44) (codes "name")) none)))) (more (list (p 1 50) (more (symbol (p 1 51) (codes "n")) (more (symbol (p 1 53) (codes "text")) none))) (more (list (p 1 59) (more (symbol (p 1 60) (codes "k")) (more (symbol (p 1 62) (codes "skey")) none))) none))))) (more (list (p 1 69) (more (symbol (p 1 70) (codes "trace")) (more (list (p 1 76) (more (symbol (p 1 77) (codes "send")) (more (list (p 1 82) (more (symbol (p 1 83) (codes "enc")) (more (symbol (p 1 87) (codes "n")) (more (symbol (p 1 89) (codes "a")) (more (symbol (p 1 91) (codes "k")) none))))) none))) (more (list (p 1 95) (more (symbol (p 1 96) (codes "recv")) (more (list (p 1 101) (more (symbol (p 1 102) (codes "enc")) (more (symbol (p 1 106) (codes "n")) (more (symbol (p 1 108) (codes "b")) (more (list (p 1 110) (more (symbol (p 1 111) (codes "ltk")) (more (symbol (p 1 115) (codes "a")) (more (symbol (p 1 117) (codes "b")) none)))) none))))) none))) none)))) none))))) (more (list (p 1 124) (more (symbol (p 1 125) (codes "defrole")) (more (symbol (p 1 133) (codes "s")) (more (list (p 1 135) (more (symbol (p 1 136) (codes "vars")) (more (list (p 1 141) (more (symbol (p 1 142) (codes "a")) (more (symbol (p 1 144) (codes "name")) none))) (more (list (p 1 150) (more (symbol (p 1 151) (codes "n")) (more (symbol (p 1 153) (codes "text")) none))) none)))) (more (list (p 1 160) (more (symbol (p 1 161) (codes "trace")) (more (list (p 1 167) (more (symbol (p 1 168) (codes "recv")) (more (symbol (p 1 173) (codes "n")) none))) (more (list (p 1 176) (more (symbol (p 1 177) (codes "send")) (more (list (p 1 182) (more (symbol (p 1 183) (codes "cat")) (more (symbol (p 1 187) (codes "a")) (more (symbol (p 1 189) (codes "n")) none)))) none))) none)))) none))))) none)))))) (more (list (p 2 1) (more (symbol (p 2 2) (codes "defskeleton")) (more (symbol (p 2 14) (codes "p")) (more (list (p 2 16) (more (symbol (p 2 17) (codes "vars")) (more (list (p 2 22) (more (symbol (p 2 23) (codes "a")) (more (symbol (p 2 25) (codes "b")) (more (symbol (p 2 27) (codes "name")) none)))) (more (list (p 2 33) (more (symbol (p 2 34) (codes "n")) (more (symbol (p 2 36) (codes "m")) (more (symbol (p 2 38) (codes "text")) none)))) (more (list (p 2 44) (more (symbol (p 2 45) (codes "k")) (more (symbol (p 2 47) (codes "skey")) none))) (more (list (p 2 53) (more (symbol (p 2 54) (codes "e")) (more (symbol (p 2 56) (codes "akey")) none))) (more (list (p 2 62) (more (symbol (p 2 63) (codes "d")) (more (symbol (p 2 65) (codes "data")) none))) none))))))) (more (list (p 2 72) (more (symbol (p 2 73) (codes "deflistener")) (more (symbol (p 2 85) (codes "n")) none))) (more (list (p 2 88) (more (symbol (p 2 89) (codes "defstrand")) (more (symbol (p 2 99) (codes "R")) (more (number (p 2 101) 0) (more (list (p 2 103) (more (symbol (p 2 104) (codes "zz")) (more (symbol (p 2 107) (codes "zz")) none))) none))))) none)))))) none))) ≡ Some (record { place = p 2 99; code = UnknownRole })
unknown_role_before_height = refl

-- (defprotocol p basic (defrole r (vars (a b nonce)) (trace (send a))))
unknown_sort : first (faults_of (more (list (p 1 1) (more (symbol (p 1 2) (codes "defprotocol")) (more (symbol (p 1 14) (codes "p")) (more (symbol (p 1 16) (codes "basic")) (more (list (p 1 22) (more (symbol (p 1 23) (codes "defrole")) (more (symbol (p 1 31) (codes "r")) (more (list (p 1 33) (more (symbol (p 1 34) (codes "vars")) (more (list (p 1 39) (more (symbol (p 1 40) (codes "a")) (more (symbol (p 1 42) (codes "b")) (more (symbol (p 1 44) (codes "nonce")) none)))) none))) (more (list (p 1 52) (more (symbol (p 1 53) (codes "trace")) (more (list (p 1 59) (more (symbol (p 1 60) (codes "send")) (more (symbol (p 1 65) (codes "a")) none))) none))) none))))) none))))) none)) ≡ Some (record { place = p 1 44; code = UnknownSort })
unknown_sort = refl

-- (defprotocol p basic (defrole r (vars (a b name) (n text) (k skey) (e akey) (d data)) (trace (send (enc n (enc (ltk a c) k) zz)))))
var_role_nested : first (faults_of (more (list (p 1 1) (more (symbol (p 1 2) (codes "defprotocol")) (more (symbol (p 1 14) (codes "p")) (more (symbol (p 1 16) (codes "basic")) (more (list (p 1 22) (more (symbol (p 1 23) (codes "defrole")) (more (symbol (p 1 31) (codes "r")) (more (list (p 1 33) (more (symbol (p 1 34) (codes "vars")) (more (list (p 1 39) (more (symbol (p 1 40) (codes "a")) (more (symbol (p 1 42) (codes "b")) (more (symbol (p 1 44) (codes "name")) none)))) (more (list (p 1 50) (more (symbol (p 1 51) (codes "n")) (more (symbol (p 1 53) (codes "text")) none))) (more (list (p 1 59) (more (symbol (p 1 60) (codes "k")) (more (symbol (p 1 62) (codes "skey")) none))) (more (list (p 1 68) (more (symbol (p 1 69) (codes "e")) (more (symbol (p 1 71) (codes "akey")) none))) (more (list (p 1 77) (more (symbol (p 1 78) (codes "d")) (more (symbol (p 1 80) (codes "data")) none))) none))))))) (more (list (p 1 87) (more (symbol (p 1 88) (codes "trace")) (more (list (p 1 94) (more (symbol (p 1 95) (codes "send")) (more (list (p 1 100) (more (symbol (p 1 101) (codes "enc")) (more (symbol (p 1 105) (codes "n")) (more (list (p 1 107) (more (symbol (p 1 108) (codes "enc")) (more (list (p 1 112) (more (symbol (p 1 113) (codes "ltk")) (more (symbol (p 1 117) (codes "a")) (more (symbol (p 1 119) (codes "c")) none)))) (more (symbol (p 1 122) (codes "k")) none)))) (more (symbol (p 1 125) (codes "zz")) none))))) none))) none))) none))))) none))))) none)) ≡ Some (record { place = p 1 119; code = UnknownVar })
var_role_nested = refl

-- (defprotocol p basic (defrole r (vars (a b name) (n text) (k skey) (e akey) (d data)) (trace (send (enc n (privk z))))))
var_sort_unknown_key : first (faults_of (more (list (p 1 1) (more (symbol (p 1 2) (codes "defprotocol")) (more (symbol (p 1 14) (codes "p")) (more (symbol (p 1 16) (codes "basic")) (more (list (p 1 22) (more (symbol (p 1 23) (codes "defrole")) (more (symbol (p 1 31) (codes "r")) (more (list (p 1 33) (more (symbol (p 1 34) (codes "vars")) (more (list (p 1 39) (more (symbol (p 1 40) (codes "a")) (more (symbol (p 1 42) (codes "b")) (more (symbol (p 1 44) (codes "name")) none)))) (more (list (p 1 50) (more (symbol (p 1 51) (codes "n")) (more (symbol (p 1 53) (codes "text")) none))) (more (list (p 1 59) (more (symbol (p 1 60) (codes "k")) (more (symbol (p 1 62) (codes "skey")) none))) (more (list (p 1 68) (more (symbol (p 1 69) (codes "e")) (more (symbol (p 1 71) (codes "akey")) none))) (more (list (p 1 77) (more (symbol (p 1 78) (codes "d")) (more (symbol (p 1 80) (codes "data")) none))) none))))))) (more (list (p 1 87) (more (symbol (p 1 88) (codes "trace")) (more (list (p 1 94) (more (symbol (p 1 95) (codes "send")) (more (list (p 1 100) (more (symbol (p 1 101) (codes "enc")) (more (symbol (p 1 105) (codes "n")) (more (list (p 1 107) (more (symbol (p 1 108) (codes "privk")) (more (symbol (p 1 114) (codes "z")) none))) none)))) none))) none))) none))))) none))))) none)) ≡ Some (record { place = p 1 114; code = UnknownVar })
var_sort_unknown_key = refl

-- (defprotocol ns basic
--   (defrole init (vars (a b name) (n1 n2 text)) (trace (send (enc n1 a (pubk b))) (recv (enc n1 n2 (pubk a))) (send (enc n2 (pubk b)))))
--   (defrole resp (vars (a b name) (n1 n2 text)) (trace (recv (enc n1 a (pubk b))) (send (enc n1 n2 (pubk a))) (recv (enc n2 (pubk b))))))
abbrev needham_schroeder : Form
needham_schroeder = (list (p 1 1) (more (symbol (p 1 2) (codes "defprotocol")) (more (symbol (p 1 14) (codes "ns")) (more (symbol (p 1 17) (codes "basic")) (more (list (p 2 3) (more (symbol (p 2 4) (codes "defrole")) (more (symbol (p 2 12) (codes "init")) (more (list (p 2 17) (more (symbol (p 2 18) (codes "vars")) (more (list (p 2 23) (more (symbol (p 2 24) (codes "a")) (more (symbol (p 2 26) (codes "b")) (more (symbol (p 2 28) (codes "name")) none)))) (more (list (p 2 34) (more (symbol (p 2 35) (codes "n1")) (more (symbol (p 2 38) (codes "n2")) (more (symbol (p 2 41) (codes "text")) none)))) none)))) (more (list (p 2 48) (more (symbol (p 2 49) (codes "trace")) (more (list (p 2 55) (more (symbol (p 2 56) (codes "send")) (more (list (p 2 61) (more (symbol (p 2 62) (codes "enc")) (more (symbol (p 2 66) (codes "n1")) (more (symbol (p 2 69) (codes "a")) (more (list (p 2 71) (more (symbol (p 2 72) (codes "pubk")) (more (symbol (p 2 77) (codes "b")) none))) none))))) none))) (more (list (p 2 82) (more (symbol (p 2 83) (codes "recv")) (more (list (p 2 88) (more (symbol (p 2 89) (codes "enc")) (more (symbol (p 2 93) (codes "n1")) (more (symbol (p 2 96) (codes "n2")) (more (list (p 2 99) (more (symbol (p 2 100) (codes "pubk")) (more (symbol (p 2 105) (codes "a")) none))) none))))) none))) (more (list (p 2 110) (more (symbol (p 2 111) (codes "send")) (more (list (p 2 116) (more (symbol (p 2 117) (codes "enc")) (more (symbol (p 2 121) (codes "n2")) (more (list (p 2 124) (more (symbol (p 2 125) (codes "pubk")) (more (symbol (p 2 130) (codes "b")) none))) none)))) none))) none))))) none))))) (more (list (p 3 3) (more (symbol (p 3 4) (codes "defrole")) (more (symbol (p 3 12) (codes "resp")) (more (list (p 3 17) (more (symbol (p 3 18) (codes "vars")) (more (list (p 3 23) (more (symbol (p 3 24) (codes "a")) (more (symbol (p 3 26) (codes "b")) (more (symbol (p 3 28) (codes "name")) none)))) (more (list (p 3 34) (more (symbol (p 3 35) (codes "n1")) (more (symbol (p 3 38) (codes "n2")) (more (symbol (p 3 41) (codes "text")) none)))) none)))) (more (list (p 3 48) (more (symbol (p 3 49) (codes "trace")) (more (list (p 3 55) (more (symbol (p 3 56) (codes "recv")) (more (list (p 3 61) (more (symbol (p 3 62) (codes "enc")) (more (symbol (p 3 66) (codes "n1")) (more (symbol (p 3 69) (codes "a")) (more (list (p 3 71) (more (symbol (p 3 72) (codes "pubk")) (more (symbol (p 3 77) (codes "b")) none))) none))))) none))) (more (list (p 3 82) (more (symbol (p 3 83) (codes "send")) (more (list (p 3 88) (more (symbol (p 3 89) (codes "enc")) (more (symbol (p 3 93) (codes "n1")) (more (symbol (p 3 96) (codes "n2")) (more (list (p 3 99) (more (symbol (p 3 100) (codes "pubk")) (more (symbol (p 3 105) (codes "a")) none))) none))))) none))) (more (list (p 3 110) (more (symbol (p 3 111) (codes "recv")) (more (list (p 3 116) (more (symbol (p 3 117) (codes "enc")) (more (symbol (p 3 121) (codes "n2")) (more (list (p 3 124) (more (symbol (p 3 125) (codes "pubk")) (more (symbol (p 3 130) (codes "b")) none))) none)))) none))) none))))) none))))) none))))))

-- Texts, and the first of their faults.
abbrev texts : List (Forms × Option Refusal)
texts =
    --
    (none, None)
    -- (defprotocol p basic (defrole r (vars (a name)) (trace (send a))))
    ∷ ((more (list (p 1 1) (more (symbol (p 1 2) (codes "defprotocol")) (more (symbol (p 1 14) (codes "p")) (more (symbol (p 1 16) (codes "basic")) (more (list (p 1 22) (more (symbol (p 1 23) (codes "defrole")) (more (symbol (p 1 31) (codes "r")) (more (list (p 1 33) (more (symbol (p 1 34) (codes "vars")) (more (list (p 1 39) (more (symbol (p 1 40) (codes "a")) (more (symbol (p 1 42) (codes "name")) none))) none))) (more (list (p 1 49) (more (symbol (p 1 50) (codes "trace")) (more (list (p 1 56) (more (symbol (p 1 57) (codes "send")) (more (symbol (p 1 62) (codes "a")) none))) none))) none))))) none))))) none), None)
    -- (defprotocol p basic (defrole r (vars (a n name)) (trace (send (enc n a)))))
    ∷ ((more (list (p 1 1) (more (symbol (p 1 2) (codes "defprotocol")) (more (symbol (p 1 14) (codes "p")) (more (symbol (p 1 16) (codes "basic")) (more (list (p 1 22) (more (symbol (p 1 23) (codes "defrole")) (more (symbol (p 1 31) (codes "r")) (more (list (p 1 33) (more (symbol (p 1 34) (codes "vars")) (more (list (p 1 39) (more (symbol (p 1 40) (codes "a")) (more (symbol (p 1 42) (codes "n")) (more (symbol (p 1 44) (codes "name")) none)))) none))) (more (list (p 1 51) (more (symbol (p 1 52) (codes "trace")) (more (list (p 1 58) (more (symbol (p 1 59) (codes "send")) (more (list (p 1 64) (more (symbol (p 1 65) (codes "enc")) (more (symbol (p 1 69) (codes "n")) (more (symbol (p 1 71) (codes "a")) none)))) none))) none))) none))))) none))))) none), Some (record { place = p 1 71; code = KeySort }))
    -- (defprotocol p basic (defrole r (vars (a name)) (trace (send a))))
    -- (defskeleton p (vars) (defstrand r 2))
    ∷ ((more (list (p 1 1) (more (symbol (p 1 2) (codes "defprotocol")) (more (symbol (p 1 14) (codes "p")) (more (symbol (p 1 16) (codes "basic")) (more (list (p 1 22) (more (symbol (p 1 23) (codes "defrole")) (more (symbol (p 1 31) (codes "r")) (more (list (p 1 33) (more (symbol (p 1 34) (codes "vars")) (more (list (p 1 39) (more (symbol (p 1 40) (codes "a")) (more (symbol (p 1 42) (codes "name")) none))) none))) (more (list (p 1 49) (more (symbol (p 1 50) (codes "trace")) (more (list (p 1 56) (more (symbol (p 1 57) (codes "send")) (more (symbol (p 1 62) (codes "a")) none))) none))) none))))) none))))) (more (list (p 2 1) (more (symbol (p 2 2) (codes "defskeleton")) (more (symbol (p 2 14) (codes "p")) (more (list (p 2 16) (more (symbol (p 2 17) (codes "vars")) none)) (more (list (p 2 23) (more (symbol (p 2 24) (codes "defstrand")) (more (symbol (p 2 34) (codes "r")) (more (number (p 2 36) 2) none)))) none))))) none)), Some (record { place = p 2 36; code = BadHeight }))
    -- (defprotocol p basic (defrole r (vars (a name)) (trace (send a))))
    -- (defskeleton p (vars) (defstrand r 1 (a z)))
    ∷ ((more (list (p 1 1) (more (symbol (p 1 2) (codes "defprotocol")) (more (symbol (p 1 14) (codes "p")) (more (symbol (p 1 16) (codes "basic")) (more (list (p 1 22) (more (symbol (p 1 23) (codes "defrole")) (more (symbol (p 1 31) (codes "r")) (more (list (p 1 33) (more (symbol (p 1 34) (codes "vars")) (more (list (p 1 39) (more (symbol (p 1 40) (codes "a")) (more (symbol (p 1 42) (codes "name")) none))) none))) (more (list (p 1 49) (more (symbol (p 1 50) (codes "trace")) (more (list (p 1 56) (more (symbol (p 1 57) (codes "send")) (more (symbol (p 1 62) (codes "a")) none))) none))) none))))) none))))) (more (list (p 2 1) (more (symbol (p 2 2) (codes "defskeleton")) (more (symbol (p 2 14) (codes "p")) (more (list (p 2 16) (more (symbol (p 2 17) (codes "vars")) none)) (more (list (p 2 23) (more (symbol (p 2 24) (codes "defstrand")) (more (symbol (p 2 34) (codes "r")) (more (number (p 2 36) 1) (more (list (p 2 38) (more (symbol (p 2 39) (codes "a")) (more (symbol (p 2 41) (codes "z")) none))) none))))) none))))) none)), Some (record { place = p 2 41; code = UnknownVar }))
    -- (defprotocol p basic (defrole r (vars (a name)) (trace (send a))))
    -- (defskeleton p (vars (t text)) (defstrand r 1 (a t)))
    ∷ ((more (list (p 1 1) (more (symbol (p 1 2) (codes "defprotocol")) (more (symbol (p 1 14) (codes "p")) (more (symbol (p 1 16) (codes "basic")) (more (list (p 1 22) (more (symbol (p 1 23) (codes "defrole")) (more (symbol (p 1 31) (codes "r")) (more (list (p 1 33) (more (symbol (p 1 34) (codes "vars")) (more (list (p 1 39) (more (symbol (p 1 40) (codes "a")) (more (symbol (p 1 42) (codes "name")) none))) none))) (more (list (p 1 49) (more (symbol (p 1 50) (codes "trace")) (more (list (p 1 56) (more (symbol (p 1 57) (codes "send")) (more (symbol (p 1 62) (codes "a")) none))) none))) none))))) none))))) (more (list (p 2 1) (more (symbol (p 2 2) (codes "defskeleton")) (more (symbol (p 2 14) (codes "p")) (more (list (p 2 16) (more (symbol (p 2 17) (codes "vars")) (more (list (p 2 22) (more (symbol (p 2 23) (codes "t")) (more (symbol (p 2 25) (codes "text")) none))) none))) (more (list (p 2 32) (more (symbol (p 2 33) (codes "defstrand")) (more (symbol (p 2 43) (codes "r")) (more (number (p 2 45) 1) (more (list (p 2 47) (more (symbol (p 2 48) (codes "a")) (more (symbol (p 2 50) (codes "t")) none))) none))))) none))))) none)), Some (record { place = p 2 50; code = IllSorted }))
    -- (defprotocol p basic (defrole r (vars (a name)) (trace (send a))))
    -- (defskeleton p (vars (a b name)) (defstrand r 1 (a a)) (uniq-orig b))
    ∷ ((more (list (p 1 1) (more (symbol (p 1 2) (codes "defprotocol")) (more (symbol (p 1 14) (codes "p")) (more (symbol (p 1 16) (codes "basic")) (more (list (p 1 22) (more (symbol (p 1 23) (codes "defrole")) (more (symbol (p 1 31) (codes "r")) (more (list (p 1 33) (more (symbol (p 1 34) (codes "vars")) (more (list (p 1 39) (more (symbol (p 1 40) (codes "a")) (more (symbol (p 1 42) (codes "name")) none))) none))) (more (list (p 1 49) (more (symbol (p 1 50) (codes "trace")) (more (list (p 1 56) (more (symbol (p 1 57) (codes "send")) (more (symbol (p 1 62) (codes "a")) none))) none))) none))))) none))))) (more (list (p 2 1) (more (symbol (p 2 2) (codes "defskeleton")) (more (symbol (p 2 14) (codes "p")) (more (list (p 2 16) (more (symbol (p 2 17) (codes "vars")) (more (list (p 2 22) (more (symbol (p 2 23) (codes "a")) (more (symbol (p 2 25) (codes "b")) (more (symbol (p 2 27) (codes "name")) none)))) none))) (more (list (p 2 34) (more (symbol (p 2 35) (codes "defstrand")) (more (symbol (p 2 45) (codes "r")) (more (number (p 2 47) 1) (more (list (p 2 49) (more (symbol (p 2 50) (codes "a")) (more (symbol (p 2 52) (codes "a")) none))) none))))) (more (list (p 2 56) (more (symbol (p 2 57) (codes "uniq-orig")) (more (symbol (p 2 67) (codes "b")) none))) none)))))) none)), Some (record { place = p 2 67; code = UniqNowhere }))
    -- (defskeleton ns (vars) (defstrand init 3) (defstrand resp 3) (precedes ((0 2) (1 0)) ((1 1) (0 1))))
    ∷ ((more needham_schroeder (more (list (p 4 1) (more (symbol (p 4 2) (codes "defskeleton")) (more (symbol (p 4 14) (codes "ns")) (more (list (p 4 17) (more (symbol (p 4 18) (codes "vars")) none)) (more (list (p 4 24) (more (symbol (p 4 25) (codes "defstrand")) (more (symbol (p 4 35) (codes "init")) (more (number (p 4 40) 3) none)))) (more (list (p 4 43) (more (symbol (p 4 44) (codes "defstrand")) (more (symbol (p 4 54) (codes "resp")) (more (number (p 4 59) 3) none)))) (more (list (p 4 62) (more (symbol (p 4 63) (codes "precedes")) (more (list (p 4 72) (more (list (p 4 73) (more (number (p 4 74) 0) (more (number (p 4 76) 2) none))) (more (list (p 4 79) (more (number (p 4 80) 1) (more (number (p 4 82) 0) none))) none))) (more (list (p 4 86) (more (list (p 4 87) (more (number (p 4 88) 1) (more (number (p 4 90) 1) none))) (more (list (p 4 93) (more (number (p 4 94) 0) (more (number (p 4 96) 1) none))) none))) none)))) none))))))) none)), Some (record { place = p 4 86; code = CyclicOrder }))
    -- (defskeleton ns (vars) (defstrand init 3) (defstrand resp 3) (precedes ((0 0) (1 0)) ((1 1) (0 1))))
    ∷ ((more needham_schroeder (more (list (p 4 1) (more (symbol (p 4 2) (codes "defskeleton")) (more (symbol (p 4 14) (codes "ns")) (more (list (p 4 17) (more (symbol (p 4 18) (codes "vars")) none)) (more (list (p 4 24) (more (symbol (p 4 25) (codes "defstrand")) (more (symbol (p 4 35) (codes "init")) (more (number (p 4 40) 3) none)))) (more (list (p 4 43) (more (symbol (p 4 44) (codes "defstrand")) (more (symbol (p 4 54) (codes "resp")) (more (number (p 4 59) 3) none)))) (more (list (p 4 62) (more (symbol (p 4 63) (codes "precedes")) (more (list (p 4 72) (more (list (p 4 73) (more (number (p 4 74) 0) (more (number (p 4 76) 0) none))) (more (list (p 4 79) (more (number (p 4 80) 1) (more (number (p 4 82) 0) none))) none))) (more (list (p 4 86) (more (list (p 4 87) (more (number (p 4 88) 1) (more (number (p 4 90) 1) none))) (more (list (p 4 93) (more (number (p 4 94) 0) (more (number (p 4 96) 1) none))) none))) none)))) none))))))) none)), None)
    -- (defskeleton ns (vars) (defstrand init 3) (defstrand resp 3) (precedes ((0 1) (1 9))))
    ∷ ((more needham_schroeder (more (list (p 4 1) (more (symbol (p 4 2) (codes "defskeleton")) (more (symbol (p 4 14) (codes "ns")) (more (list (p 4 17) (more (symbol (p 4 18) (codes "vars")) none)) (more (list (p 4 24) (more (symbol (p 4 25) (codes "defstrand")) (more (symbol (p 4 35) (codes "init")) (more (number (p 4 40) 3) none)))) (more (list (p 4 43) (more (symbol (p 4 44) (codes "defstrand")) (more (symbol (p 4 54) (codes "resp")) (more (number (p 4 59) 3) none)))) (more (list (p 4 62) (more (symbol (p 4 63) (codes "precedes")) (more (list (p 4 72) (more (list (p 4 73) (more (number (p 4 74) 0) (more (number (p 4 76) 1) none))) (more (list (p 4 79) (more (number (p 4 80) 1) (more (number (p 4 82) 9) none))) none))) none))) none))))))) none)), Some (record { place = p 4 79; code = BadNode }))
    -- (defskeleton ns (vars) (defstrand init 3) (defstrand resp 3) (precedes ((0 1) (0 0) (0 0))))
    ∷ ((more needham_schroeder (more (list (p 4 1) (more (symbol (p 4 2) (codes "defskeleton")) (more (symbol (p 4 14) (codes "ns")) (more (list (p 4 17) (more (symbol (p 4 18) (codes "vars")) none)) (more (list (p 4 24) (more (symbol (p 4 25) (codes "defstrand")) (more (symbol (p 4 35) (codes "init")) (more (number (p 4 40) 3) none)))) (more (list (p 4 43) (more (symbol (p 4 44) (codes "defstrand")) (more (symbol (p 4 54) (codes "resp")) (more (number (p 4 59) 3) none)))) (more (list (p 4 62) (more (symbol (p 4 63) (codes "precedes")) (more (list (p 4 72) (more (list (p 4 73) (more (number (p 4 74) 0) (more (number (p 4 76) 1) none))) (more (list (p 4 79) (more (number (p 4 80) 0) (more (number (p 4 82) 0) none))) (more (list (p 4 85) (more (number (p 4 86) 0) (more (number (p 4 88) 0) none))) none)))) none))) none))))))) none)), Some (record { place = p 4 72; code = CyclicOrder }))
    -- (defskeleton ns (vars) (defstrand init 3) (defstrand resp 3) (precedes ((0 0) (0 2))))
    ∷ ((more needham_schroeder (more (list (p 4 1) (more (symbol (p 4 2) (codes "defskeleton")) (more (symbol (p 4 14) (codes "ns")) (more (list (p 4 17) (more (symbol (p 4 18) (codes "vars")) none)) (more (list (p 4 24) (more (symbol (p 4 25) (codes "defstrand")) (more (symbol (p 4 35) (codes "init")) (more (number (p 4 40) 3) none)))) (more (list (p 4 43) (more (symbol (p 4 44) (codes "defstrand")) (more (symbol (p 4 54) (codes "resp")) (more (number (p 4 59) 3) none)))) (more (list (p 4 62) (more (symbol (p 4 63) (codes "precedes")) (more (list (p 4 72) (more (list (p 4 73) (more (number (p 4 74) 0) (more (number (p 4 76) 0) none))) (more (list (p 4 79) (more (number (p 4 80) 0) (more (number (p 4 82) 2) none))) none))) none))) none))))))) none)), None)
    -- (defskeleton ns (vars) (defstrand init 3) (defstrand resp 3) (precedes ((9 0 0) (0 2))))
    ∷ ((more needham_schroeder (more (list (p 4 1) (more (symbol (p 4 2) (codes "defskeleton")) (more (symbol (p 4 14) (codes "ns")) (more (list (p 4 17) (more (symbol (p 4 18) (codes "vars")) none)) (more (list (p 4 24) (more (symbol (p 4 25) (codes "defstrand")) (more (symbol (p 4 35) (codes "init")) (more (number (p 4 40) 3) none)))) (more (list (p 4 43) (more (symbol (p 4 44) (codes "defstrand")) (more (symbol (p 4 54) (codes "resp")) (more (number (p 4 59) 3) none)))) (more (list (p 4 62) (more (symbol (p 4 63) (codes "precedes")) (more (list (p 4 72) (more (list (p 4 73) (more (number (p 4 74) 9) (more (number (p 4 76) 0) (more (number (p 4 78) 0) none)))) (more (list (p 4 81) (more (number (p 4 82) 0) (more (number (p 4 84) 2) none))) none))) none))) none))))))) none)), Some (record { place = p 4 73; code = BadNode }))
    -- (defskeleton ns (vars) (defstrand init 3) (defstrand resp 3) (precedes ((0 0 0) (0 2))))
    ∷ ((more needham_schroeder (more (list (p 4 1) (more (symbol (p 4 2) (codes "defskeleton")) (more (symbol (p 4 14) (codes "ns")) (more (list (p 4 17) (more (symbol (p 4 18) (codes "vars")) none)) (more (list (p 4 24) (more (symbol (p 4 25) (codes "defstrand")) (more (symbol (p 4 35) (codes "init")) (more (number (p 4 40) 3) none)))) (more (list (p 4 43) (more (symbol (p 4 44) (codes "defstrand")) (more (symbol (p 4 54) (codes "resp")) (more (number (p 4 59) 3) none)))) (more (list (p 4 62) (more (symbol (p 4 63) (codes "precedes")) (more (list (p 4 72) (more (list (p 4 73) (more (number (p 4 74) 0) (more (number (p 4 76) 0) (more (number (p 4 78) 0) none)))) (more (list (p 4 81) (more (number (p 4 82) 0) (more (number (p 4 84) 2) none))) none))) none))) none))))))) none)), Some (record { place = p 4 78; code = BadShape }))
    -- (defskeleton ns (vars) (defstrand init 3) (defstrand resp 3) (precedes ((0 1) (1 0))))
    ∷ ((more needham_schroeder (more (list (p 4 1) (more (symbol (p 4 2) (codes "defskeleton")) (more (symbol (p 4 14) (codes "ns")) (more (list (p 4 17) (more (symbol (p 4 18) (codes "vars")) none)) (more (list (p 4 24) (more (symbol (p 4 25) (codes "defstrand")) (more (symbol (p 4 35) (codes "init")) (more (number (p 4 40) 3) none)))) (more (list (p 4 43) (more (symbol (p 4 44) (codes "defstrand")) (more (symbol (p 4 54) (codes "resp")) (more (number (p 4 59) 3) none)))) (more (list (p 4 62) (more (symbol (p 4 63) (codes "precedes")) (more (list (p 4 72) (more (list (p 4 73) (more (number (p 4 74) 0) (more (number (p 4 76) 1) none))) (more (list (p 4 79) (more (number (p 4 80) 1) (more (number (p 4 82) 0) none))) none))) none))) none))))))) none)), Some (record { place = p 4 73; code = BadNode }))
    -- (defskeleton ns (vars) (defstrand init 3) (defstrand resp 3) (precedes ((0 0) (1 1))))
    ∷ ((more needham_schroeder (more (list (p 4 1) (more (symbol (p 4 2) (codes "defskeleton")) (more (symbol (p 4 14) (codes "ns")) (more (list (p 4 17) (more (symbol (p 4 18) (codes "vars")) none)) (more (list (p 4 24) (more (symbol (p 4 25) (codes "defstrand")) (more (symbol (p 4 35) (codes "init")) (more (number (p 4 40) 3) none)))) (more (list (p 4 43) (more (symbol (p 4 44) (codes "defstrand")) (more (symbol (p 4 54) (codes "resp")) (more (number (p 4 59) 3) none)))) (more (list (p 4 62) (more (symbol (p 4 63) (codes "precedes")) (more (list (p 4 72) (more (list (p 4 73) (more (number (p 4 74) 0) (more (number (p 4 76) 0) none))) (more (list (p 4 79) (more (number (p 4 80) 1) (more (number (p 4 82) 1) none))) none))) none))) none))))))) none)), Some (record { place = p 4 79; code = BadNode }))
    -- (defskeleton p (vars))
    ∷ ((more (list (p 1 1) (more (symbol (p 1 2) (codes "defskeleton")) (more (symbol (p 1 14) (codes "p")) (more (list (p 1 16) (more (symbol (p 1 17) (codes "vars")) none)) none)))) none), Some (record { place = p 1 1; code = BadShape }))
    -- (defprotocol p basic (defrole r (vars (a name)) (trace (send a))))
    -- (defskeleton p (defstrand r 1))
    ∷ ((more (list (p 1 1) (more (symbol (p 1 2) (codes "defprotocol")) (more (symbol (p 1 14) (codes "p")) (more (symbol (p 1 16) (codes "basic")) (more (list (p 1 22) (more (symbol (p 1 23) (codes "defrole")) (more (symbol (p 1 31) (codes "r")) (more (list (p 1 33) (more (symbol (p 1 34) (codes "vars")) (more (list (p 1 39) (more (symbol (p 1 40) (codes "a")) (more (symbol (p 1 42) (codes "name")) none))) none))) (more (list (p 1 49) (more (symbol (p 1 50) (codes "trace")) (more (list (p 1 56) (more (symbol (p 1 57) (codes "send")) (more (symbol (p 1 62) (codes "a")) none))) none))) none))))) none))))) (more (list (p 2 1) (more (symbol (p 2 2) (codes "defskeleton")) (more (symbol (p 2 14) (codes "p")) (more (list (p 2 16) (more (symbol (p 2 17) (codes "defstrand")) (more (symbol (p 2 27) (codes "r")) (more (number (p 2 29) 1) none)))) none)))) none)), Some (record { place = p 2 16; code = BadShape }))
    -- (defprotocol p diffie-hellman)
    ∷ ((more (list (p 1 1) (more (symbol (p 1 2) (codes "defprotocol")) (more (symbol (p 1 14) (codes "p")) (more (symbol (p 1 16) (codes "diffie-hellman")) none)))) none), Some (record { place = p 1 16; code = OutOfProfile }))
    -- (defprotocol p basic (defrole r (vars (x mesg)) (trace (send x))))
    ∷ ((more (list (p 1 1) (more (symbol (p 1 2) (codes "defprotocol")) (more (symbol (p 1 14) (codes "p")) (more (symbol (p 1 16) (codes "basic")) (more (list (p 1 22) (more (symbol (p 1 23) (codes "defrole")) (more (symbol (p 1 31) (codes "r")) (more (list (p 1 33) (more (symbol (p 1 34) (codes "vars")) (more (list (p 1 39) (more (symbol (p 1 40) (codes "x")) (more (symbol (p 1 42) (codes "mesg")) none))) none))) (more (list (p 1 49) (more (symbol (p 1 50) (codes "trace")) (more (list (p 1 56) (more (symbol (p 1 57) (codes "send")) (more (symbol (p 1 62) (codes "x")) none))) none))) none))))) none))))) none), Some (record { place = p 1 40; code = MesgVar }))
    -- (defprotocol p basic (defrole r (vars (a name)) (trace)))
    ∷ ((more (list (p 1 1) (more (symbol (p 1 2) (codes "defprotocol")) (more (symbol (p 1 14) (codes "p")) (more (symbol (p 1 16) (codes "basic")) (more (list (p 1 22) (more (symbol (p 1 23) (codes "defrole")) (more (symbol (p 1 31) (codes "r")) (more (list (p 1 33) (more (symbol (p 1 34) (codes "vars")) (more (list (p 1 39) (more (symbol (p 1 40) (codes "a")) (more (symbol (p 1 42) (codes "name")) none))) none))) (more (list (p 1 49) (more (symbol (p 1 50) (codes "trace")) none)) none))))) none))))) none), Some (record { place = p 1 49; code = BadShape }))
    -- (defprotocol p basic (defrole r (vars (a name)) (trace (send (cat)))))
    ∷ ((more (list (p 1 1) (more (symbol (p 1 2) (codes "defprotocol")) (more (symbol (p 1 14) (codes "p")) (more (symbol (p 1 16) (codes "basic")) (more (list (p 1 22) (more (symbol (p 1 23) (codes "defrole")) (more (symbol (p 1 31) (codes "r")) (more (list (p 1 33) (more (symbol (p 1 34) (codes "vars")) (more (list (p 1 39) (more (symbol (p 1 40) (codes "a")) (more (symbol (p 1 42) (codes "name")) none))) none))) (more (list (p 1 49) (more (symbol (p 1 50) (codes "trace")) (more (list (p 1 56) (more (symbol (p 1 57) (codes "send")) (more (list (p 1 62) (more (symbol (p 1 63) (codes "cat")) none)) none))) none))) none))))) none))))) none), Some (record { place = p 1 62; code = BadShape }))
    -- (defprotocol p basic (defrole r (vars (a name)) (trace (send a a))))
    ∷ ((more (list (p 1 1) (more (symbol (p 1 2) (codes "defprotocol")) (more (symbol (p 1 14) (codes "p")) (more (symbol (p 1 16) (codes "basic")) (more (list (p 1 22) (more (symbol (p 1 23) (codes "defrole")) (more (symbol (p 1 31) (codes "r")) (more (list (p 1 33) (more (symbol (p 1 34) (codes "vars")) (more (list (p 1 39) (more (symbol (p 1 40) (codes "a")) (more (symbol (p 1 42) (codes "name")) none))) none))) (more (list (p 1 49) (more (symbol (p 1 50) (codes "trace")) (more (list (p 1 56) (more (symbol (p 1 57) (codes "send")) (more (symbol (p 1 62) (codes "a")) (more (symbol (p 1 64) (codes "a")) none)))) none))) none))))) none))))) none), Some (record { place = p 1 56; code = OutOfProfile }))
    -- (defprotocol p basic (defrole r (vars (a name)) (trace (send a a a))))
    ∷ ((more (list (p 1 1) (more (symbol (p 1 2) (codes "defprotocol")) (more (symbol (p 1 14) (codes "p")) (more (symbol (p 1 16) (codes "basic")) (more (list (p 1 22) (more (symbol (p 1 23) (codes "defrole")) (more (symbol (p 1 31) (codes "r")) (more (list (p 1 33) (more (symbol (p 1 34) (codes "vars")) (more (list (p 1 39) (more (symbol (p 1 40) (codes "a")) (more (symbol (p 1 42) (codes "name")) none))) none))) (more (list (p 1 49) (more (symbol (p 1 50) (codes "trace")) (more (list (p 1 56) (more (symbol (p 1 57) (codes "send")) (more (symbol (p 1 62) (codes "a")) (more (symbol (p 1 64) (codes "a")) (more (symbol (p 1 66) (codes "a")) none))))) none))) none))))) none))))) none), Some (record { place = p 1 66; code = BadShape }))
    -- (defprotocol p basic (defrole r (vars (a name)) (trace (send (ltk a a a)))))
    ∷ ((more (list (p 1 1) (more (symbol (p 1 2) (codes "defprotocol")) (more (symbol (p 1 14) (codes "p")) (more (symbol (p 1 16) (codes "basic")) (more (list (p 1 22) (more (symbol (p 1 23) (codes "defrole")) (more (symbol (p 1 31) (codes "r")) (more (list (p 1 33) (more (symbol (p 1 34) (codes "vars")) (more (list (p 1 39) (more (symbol (p 1 40) (codes "a")) (more (symbol (p 1 42) (codes "name")) none))) none))) (more (list (p 1 49) (more (symbol (p 1 50) (codes "trace")) (more (list (p 1 56) (more (symbol (p 1 57) (codes "send")) (more (list (p 1 62) (more (symbol (p 1 63) (codes "ltk")) (more (symbol (p 1 67) (codes "a")) (more (symbol (p 1 69) (codes "a")) (more (symbol (p 1 71) (codes "a")) none))))) none))) none))) none))))) none))))) none), Some (record { place = p 1 71; code = BadShape }))
    -- (defprotocol p basic (defrole r (vars (a b foo) (a name)) (trace (send a))))
    ∷ ((more (list (p 1 1) (more (symbol (p 1 2) (codes "defprotocol")) (more (symbol (p 1 14) (codes "p")) (more (symbol (p 1 16) (codes "basic")) (more (list (p 1 22) (more (symbol (p 1 23) (codes "defrole")) (more (symbol (p 1 31) (codes "r")) (more (list (p 1 33) (more (symbol (p 1 34) (codes "vars")) (more (list (p 1 39) (more (symbol (p 1 40) (codes "a")) (more (symbol (p 1 42) (codes "b")) (more (symbol (p 1 44) (codes "foo")) none)))) (more (list (p 1 49) (more (symbol (p 1 50) (codes "a")) (more (symbol (p 1 52) (codes "name")) none))) none)))) (more (list (p 1 59) (more (symbol (p 1 60) (codes "trace")) (more (list (p 1 66) (more (symbol (p 1 67) (codes "send")) (more (symbol (p 1 72) (codes "a")) none))) none))) none))))) none))))) none), Some (record { place = p 1 44; code = UnknownSort }))
    -- (defprotocol p basic (defrole r (vars (a a foo)) (trace (send a))))
    ∷ ((more (list (p 1 1) (more (symbol (p 1 2) (codes "defprotocol")) (more (symbol (p 1 14) (codes "p")) (more (symbol (p 1 16) (codes "basic")) (more (list (p 1 22) (more (symbol (p 1 23) (codes "defrole")) (more (symbol (p 1 31) (codes "r")) (more (list (p 1 33) (more (symbol (p 1 34) (codes "vars")) (more (list (p 1 39) (more (symbol (p 1 40) (codes "a")) (more (symbol (p 1 42) (codes "a")) (more (symbol (p 1 44) (codes "foo")) none)))) none))) (more (list (p 1 50) (more (symbol (p 1 51) (codes "trace")) (more (list (p 1 57) (more (symbol (p 1 58) (codes "send")) (more (symbol (p 1 63) (codes "a")) none))) none))) none))))) none))))) none), Some (record { place = p 1 42; code = DuplicateVar }))
    -- (defprotocol p basic (defrole r (vars (a name)) (trace (send (pubk "p")))))
    ∷ ((more (list (p 1 1) (more (symbol (p 1 2) (codes "defprotocol")) (more (symbol (p 1 14) (codes "p")) (more (symbol (p 1 16) (codes "basic")) (more (list (p 1 22) (more (symbol (p 1 23) (codes "defrole")) (more (symbol (p 1 31) (codes "r")) (more (list (p 1 33) (more (symbol (p 1 34) (codes "vars")) (more (list (p 1 39) (more (symbol (p 1 40) (codes "a")) (more (symbol (p 1 42) (codes "name")) none))) none))) (more (list (p 1 49) (more (symbol (p 1 50) (codes "trace")) (more (list (p 1 56) (more (symbol (p 1 57) (codes "send")) (more (list (p 1 62) (more (symbol (p 1 63) (codes "pubk")) (more (string (p 1 68) (codes "p")) none))) none))) none))) none))))) none))))) none), Some (record { place = p 1 62; code = BadShape }))
    -- (defprotocol p basic (defrole r (vars (x a name)) (trace (send (pubk x a)))))
    ∷ ((more (list (p 1 1) (more (symbol (p 1 2) (codes "defprotocol")) (more (symbol (p 1 14) (codes "p")) (more (symbol (p 1 16) (codes "basic")) (more (list (p 1 22) (more (symbol (p 1 23) (codes "defrole")) (more (symbol (p 1 31) (codes "r")) (more (list (p 1 33) (more (symbol (p 1 34) (codes "vars")) (more (list (p 1 39) (more (symbol (p 1 40) (codes "x")) (more (symbol (p 1 42) (codes "a")) (more (symbol (p 1 44) (codes "name")) none)))) none))) (more (list (p 1 51) (more (symbol (p 1 52) (codes "trace")) (more (list (p 1 58) (more (symbol (p 1 59) (codes "send")) (more (list (p 1 64) (more (symbol (p 1 65) (codes "pubk")) (more (symbol (p 1 70) (codes "x")) (more (symbol (p 1 72) (codes "a")) none)))) none))) none))) none))))) none))))) none), Some (record { place = p 1 72; code = BadShape }))
    -- (5 a)
    ∷ ((more (list (p 1 1) (more (number (p 1 2) 5) (more (symbol (p 1 4) (codes "a")) none))) none), Some (record { place = p 1 1; code = BadShape }))
    -- ("x")
    ∷ ((more (list (p 1 1) (more (string (p 1 2) (codes "x")) none)) none), Some (record { place = p 1 1; code = BadShape }))
    -- ()
    ∷ ((more (list (p 1 1) none) none), Some (record { place = p 1 1; code = BadShape }))
    -- a
    ∷ ((more (symbol (p 1 1) (codes "a")) none), Some (record { place = p 1 1; code = BadShape }))
    -- (defprotocol p basic (defrole r (vars (a name)) (trace (send a)) (uniq-orig a) (non-orig (2 (privk a)))))
    ∷ ((more (list (p 1 1) (more (symbol (p 1 2) (codes "defprotocol")) (more (symbol (p 1 14) (codes "p")) (more (symbol (p 1 16) (codes "basic")) (more (list (p 1 22) (more (symbol (p 1 23) (codes "defrole")) (more (symbol (p 1 31) (codes "r")) (more (list (p 1 33) (more (symbol (p 1 34) (codes "vars")) (more (list (p 1 39) (more (symbol (p 1 40) (codes "a")) (more (symbol (p 1 42) (codes "name")) none))) none))) (more (list (p 1 49) (more (symbol (p 1 50) (codes "trace")) (more (list (p 1 56) (more (symbol (p 1 57) (codes "send")) (more (symbol (p 1 62) (codes "a")) none))) none))) (more (list (p 1 66) (more (symbol (p 1 67) (codes "uniq-orig")) (more (symbol (p 1 77) (codes "a")) none))) (more (list (p 1 80) (more (symbol (p 1 81) (codes "non-orig")) (more (list (p 1 90) (more (number (p 1 91) 2) (more (list (p 1 93) (more (symbol (p 1 94) (codes "privk")) (more (symbol (p 1 100) (codes "a")) none))) none))) none))) none))))))) none))))) none), Some (record { place = p 1 90; code = BadShape }))
    -- (defprotocol p basic (defrole r (vars (a b name)) (trace (send a)) (uniq-orig b)))
    ∷ ((more (list (p 1 1) (more (symbol (p 1 2) (codes "defprotocol")) (more (symbol (p 1 14) (codes "p")) (more (symbol (p 1 16) (codes "basic")) (more (list (p 1 22) (more (symbol (p 1 23) (codes "defrole")) (more (symbol (p 1 31) (codes "r")) (more (list (p 1 33) (more (symbol (p 1 34) (codes "vars")) (more (list (p 1 39) (more (symbol (p 1 40) (codes "a")) (more (symbol (p 1 42) (codes "b")) (more (symbol (p 1 44) (codes "name")) none)))) none))) (more (list (p 1 51) (more (symbol (p 1 52) (codes "trace")) (more (list (p 1 58) (more (symbol (p 1 59) (codes "send")) (more (symbol (p 1 64) (codes "a")) none))) none))) (more (list (p 1 68) (more (symbol (p 1 69) (codes "uniq-orig")) (more (symbol (p 1 79) (codes "b")) none))) none)))))) none))))) none), Some (record { place = p 1 79; code = RoleUniqNoOrigin }))
    -- (defprotocol p basic (defrole r (vars (a b name)) (trace (send a)) (non-orig (privk b))))
    ∷ ((more (list (p 1 1) (more (symbol (p 1 2) (codes "defprotocol")) (more (symbol (p 1 14) (codes "p")) (more (symbol (p 1 16) (codes "basic")) (more (list (p 1 22) (more (symbol (p 1 23) (codes "defrole")) (more (symbol (p 1 31) (codes "r")) (more (list (p 1 33) (more (symbol (p 1 34) (codes "vars")) (more (list (p 1 39) (more (symbol (p 1 40) (codes "a")) (more (symbol (p 1 42) (codes "b")) (more (symbol (p 1 44) (codes "name")) none)))) none))) (more (list (p 1 51) (more (symbol (p 1 52) (codes "trace")) (more (list (p 1 58) (more (symbol (p 1 59) (codes "send")) (more (symbol (p 1 64) (codes "a")) none))) none))) (more (list (p 1 68) (more (symbol (p 1 69) (codes "non-orig")) (more (list (p 1 78) (more (symbol (p 1 79) (codes "privk")) (more (symbol (p 1 85) (codes "b")) none))) none))) none)))))) none))))) none), None)
    -- (defprotocol p basic (defrole r (vars (a name)) (trace (send a))))
    -- (defprotocol p basic)
    ∷ ((more (list (p 1 1) (more (symbol (p 1 2) (codes "defprotocol")) (more (symbol (p 1 14) (codes "p")) (more (symbol (p 1 16) (codes "basic")) (more (list (p 1 22) (more (symbol (p 1 23) (codes "defrole")) (more (symbol (p 1 31) (codes "r")) (more (list (p 1 33) (more (symbol (p 1 34) (codes "vars")) (more (list (p 1 39) (more (symbol (p 1 40) (codes "a")) (more (symbol (p 1 42) (codes "name")) none))) none))) (more (list (p 1 49) (more (symbol (p 1 50) (codes "trace")) (more (list (p 1 56) (more (symbol (p 1 57) (codes "send")) (more (symbol (p 1 62) (codes "a")) none))) none))) none))))) none))))) (more (list (p 2 1) (more (symbol (p 2 2) (codes "defprotocol")) (more (symbol (p 2 14) (codes "p")) (more (symbol (p 2 16) (codes "basic")) none)))) none)), Some (record { place = p 2 14; code = DuplicateProtocol }))
    -- (defprotocol p basic (defrole r (vars (a name)) (trace (send a))) (defrole r (vars (a name)) (trace (send a))))
    ∷ ((more (list (p 1 1) (more (symbol (p 1 2) (codes "defprotocol")) (more (symbol (p 1 14) (codes "p")) (more (symbol (p 1 16) (codes "basic")) (more (list (p 1 22) (more (symbol (p 1 23) (codes "defrole")) (more (symbol (p 1 31) (codes "r")) (more (list (p 1 33) (more (symbol (p 1 34) (codes "vars")) (more (list (p 1 39) (more (symbol (p 1 40) (codes "a")) (more (symbol (p 1 42) (codes "name")) none))) none))) (more (list (p 1 49) (more (symbol (p 1 50) (codes "trace")) (more (list (p 1 56) (more (symbol (p 1 57) (codes "send")) (more (symbol (p 1 62) (codes "a")) none))) none))) none))))) (more (list (p 1 67) (more (symbol (p 1 68) (codes "defrole")) (more (symbol (p 1 76) (codes "r")) (more (list (p 1 78) (more (symbol (p 1 79) (codes "vars")) (more (list (p 1 84) (more (symbol (p 1 85) (codes "a")) (more (symbol (p 1 87) (codes "name")) none))) none))) (more (list (p 1 94) (more (symbol (p 1 95) (codes "trace")) (more (list (p 1 101) (more (symbol (p 1 102) (codes "send")) (more (symbol (p 1 107) (codes "a")) none))) none))) none))))) none)))))) none), Some (record { place = p 1 76; code = DuplicateRole }))
    -- (defskeleton q (vars) (defstrand r 1))
    ∷ ((more (list (p 1 1) (more (symbol (p 1 2) (codes "defskeleton")) (more (symbol (p 1 14) (codes "q")) (more (list (p 1 16) (more (symbol (p 1 17) (codes "vars")) none)) (more (list (p 1 23) (more (symbol (p 1 24) (codes "defstrand")) (more (symbol (p 1 34) (codes "r")) (more (number (p 1 36) 1) none)))) none))))) none), Some (record { place = p 1 14; code = UnknownProtocol }))
    -- (defprotocol p basic (defrole r (vars (a name)) (trace (send a))))
    -- (defskeleton p (vars) (defstrand q 1))
    ∷ ((more (list (p 1 1) (more (symbol (p 1 2) (codes "defprotocol")) (more (symbol (p 1 14) (codes "p")) (more (symbol (p 1 16) (codes "basic")) (more (list (p 1 22) (more (symbol (p 1 23) (codes "defrole")) (more (symbol (p 1 31) (codes "r")) (more (list (p 1 33) (more (symbol (p 1 34) (codes "vars")) (more (list (p 1 39) (more (symbol (p 1 40) (codes "a")) (more (symbol (p 1 42) (codes "name")) none))) none))) (more (list (p 1 49) (more (symbol (p 1 50) (codes "trace")) (more (list (p 1 56) (more (symbol (p 1 57) (codes "send")) (more (symbol (p 1 62) (codes "a")) none))) none))) none))))) none))))) (more (list (p 2 1) (more (symbol (p 2 2) (codes "defskeleton")) (more (symbol (p 2 14) (codes "p")) (more (list (p 2 16) (more (symbol (p 2 17) (codes "vars")) none)) (more (list (p 2 23) (more (symbol (p 2 24) (codes "defstrand")) (more (symbol (p 2 34) (codes "q")) (more (number (p 2 36) 1) none)))) none))))) none)), Some (record { place = p 2 34; code = UnknownRole }))
    -- (defprotocol p basic (defrole r (vars (a name)) (trace (send a))))
    -- (defskeleton p (vars) (defstrand r 0))
    ∷ ((more (list (p 1 1) (more (symbol (p 1 2) (codes "defprotocol")) (more (symbol (p 1 14) (codes "p")) (more (symbol (p 1 16) (codes "basic")) (more (list (p 1 22) (more (symbol (p 1 23) (codes "defrole")) (more (symbol (p 1 31) (codes "r")) (more (list (p 1 33) (more (symbol (p 1 34) (codes "vars")) (more (list (p 1 39) (more (symbol (p 1 40) (codes "a")) (more (symbol (p 1 42) (codes "name")) none))) none))) (more (list (p 1 49) (more (symbol (p 1 50) (codes "trace")) (more (list (p 1 56) (more (symbol (p 1 57) (codes "send")) (more (symbol (p 1 62) (codes "a")) none))) none))) none))))) none))))) (more (list (p 2 1) (more (symbol (p 2 2) (codes "defskeleton")) (more (symbol (p 2 14) (codes "p")) (more (list (p 2 16) (more (symbol (p 2 17) (codes "vars")) none)) (more (list (p 2 23) (more (symbol (p 2 24) (codes "defstrand")) (more (symbol (p 2 34) (codes "r")) (more (number (p 2 36) 0) none)))) none))))) none)), Some (record { place = p 2 36; code = BadHeight }))
    -- (defskeleton ns (vars (t text)) (defstrand init 1 (n2 t)))
    ∷ ((more needham_schroeder (more (list (p 4 1) (more (symbol (p 4 2) (codes "defskeleton")) (more (symbol (p 4 14) (codes "ns")) (more (list (p 4 17) (more (symbol (p 4 18) (codes "vars")) (more (list (p 4 23) (more (symbol (p 4 24) (codes "t")) (more (symbol (p 4 26) (codes "text")) none))) none))) (more (list (p 4 33) (more (symbol (p 4 34) (codes "defstrand")) (more (symbol (p 4 44) (codes "init")) (more (number (p 4 49) 1) (more (list (p 4 51) (more (symbol (p 4 52) (codes "n2")) (more (symbol (p 4 55) (codes "t")) none))) none))))) none))))) none)), Some (record { place = p 4 52; code = NotInPrefix }))
    -- (defskeleton ns (vars (t text)) (defstrand init 1 (n1 t) (n1 t)))
    ∷ ((more needham_schroeder (more (list (p 4 1) (more (symbol (p 4 2) (codes "defskeleton")) (more (symbol (p 4 14) (codes "ns")) (more (list (p 4 17) (more (symbol (p 4 18) (codes "vars")) (more (list (p 4 23) (more (symbol (p 4 24) (codes "t")) (more (symbol (p 4 26) (codes "text")) none))) none))) (more (list (p 4 33) (more (symbol (p 4 34) (codes "defstrand")) (more (symbol (p 4 44) (codes "init")) (more (number (p 4 49) 1) (more (list (p 4 51) (more (symbol (p 4 52) (codes "n1")) (more (symbol (p 4 55) (codes "t")) none))) (more (list (p 4 58) (more (symbol (p 4 59) (codes "n1")) (more (symbol (p 4 62) (codes "t")) none))) none)))))) none))))) none)), Some (record { place = p 4 59; code = DuplicateVar }))
    -- (defskeleton ns (vars (t text)) (defstrand init 1 (n1 (ltk a z))))
    ∷ ((more needham_schroeder (more (list (p 4 1) (more (symbol (p 4 2) (codes "defskeleton")) (more (symbol (p 4 14) (codes "ns")) (more (list (p 4 17) (more (symbol (p 4 18) (codes "vars")) (more (list (p 4 23) (more (symbol (p 4 24) (codes "t")) (more (symbol (p 4 26) (codes "text")) none))) none))) (more (list (p 4 33) (more (symbol (p 4 34) (codes "defstrand")) (more (symbol (p 4 44) (codes "init")) (more (number (p 4 49) 1) (more (list (p 4 51) (more (symbol (p 4 52) (codes "n1")) (more (list (p 4 55) (more (symbol (p 4 56) (codes "ltk")) (more (symbol (p 4 60) (codes "a")) (more (symbol (p 4 62) (codes "z")) none)))) none))) none))))) none))))) none)), Some (record { place = p 4 55; code = IllSorted }))
    -- (defprotocol p basic (defrole r (vars (a name)) (trace (send a))))
    -- (defskeleton p (vars) (non-orig) (defstrand r 1))
    ∷ ((more (list (p 1 1) (more (symbol (p 1 2) (codes "defprotocol")) (more (symbol (p 1 14) (codes "p")) (more (symbol (p 1 16) (codes "basic")) (more (list (p 1 22) (more (symbol (p 1 23) (codes "defrole")) (more (symbol (p 1 31) (codes "r")) (more (list (p 1 33) (more (symbol (p 1 34) (codes "vars")) (more (list (p 1 39) (more (symbol (p 1 40) (codes "a")) (more (symbol (p 1 42) (codes "name")) none))) none))) (more (list (p 1 49) (more (symbol (p 1 50) (codes "trace")) (more (list (p 1 56) (more (symbol (p 1 57) (codes "send")) (more (symbol (p 1 62) (codes "a")) none))) none))) none))))) none))))) (more (list (p 2 1) (more (symbol (p 2 2) (codes "defskeleton")) (more (symbol (p 2 14) (codes "p")) (more (list (p 2 16) (more (symbol (p 2 17) (codes "vars")) none)) (more (list (p 2 23) (more (symbol (p 2 24) (codes "non-orig")) none)) (more (list (p 2 34) (more (symbol (p 2 35) (codes "defstrand")) (more (symbol (p 2 45) (codes "r")) (more (number (p 2 47) 1) none)))) none)))))) none)), Some (record { place = p 2 23; code = UnknownForm }))
    -- (defprotocol p basic (defrole r (vars (a name)) (trace (send a))))
    -- (defskeleton p (vars) (defstrand r 1) (non-orig) (defstrand r 1))
    ∷ ((more (list (p 1 1) (more (symbol (p 1 2) (codes "defprotocol")) (more (symbol (p 1 14) (codes "p")) (more (symbol (p 1 16) (codes "basic")) (more (list (p 1 22) (more (symbol (p 1 23) (codes "defrole")) (more (symbol (p 1 31) (codes "r")) (more (list (p 1 33) (more (symbol (p 1 34) (codes "vars")) (more (list (p 1 39) (more (symbol (p 1 40) (codes "a")) (more (symbol (p 1 42) (codes "name")) none))) none))) (more (list (p 1 49) (more (symbol (p 1 50) (codes "trace")) (more (list (p 1 56) (more (symbol (p 1 57) (codes "send")) (more (symbol (p 1 62) (codes "a")) none))) none))) none))))) none))))) (more (list (p 2 1) (more (symbol (p 2 2) (codes "defskeleton")) (more (symbol (p 2 14) (codes "p")) (more (list (p 2 16) (more (symbol (p 2 17) (codes "vars")) none)) (more (list (p 2 23) (more (symbol (p 2 24) (codes "defstrand")) (more (symbol (p 2 34) (codes "r")) (more (number (p 2 36) 1) none)))) (more (list (p 2 39) (more (symbol (p 2 40) (codes "non-orig")) none)) (more (list (p 2 50) (more (symbol (p 2 51) (codes "defstrand")) (more (symbol (p 2 61) (codes "r")) (more (number (p 2 63) 1) none)))) none))))))) none)), Some (record { place = p 2 50; code = UnknownForm }))
    -- (defprotocol p basic (defrole r (vars (a name)) (trace (send a))))
    -- (defskeleton p (vars) (comment 1 "x") (defstrand r 1) (comment) (non-orig))
    ∷ ((more (list (p 1 1) (more (symbol (p 1 2) (codes "defprotocol")) (more (symbol (p 1 14) (codes "p")) (more (symbol (p 1 16) (codes "basic")) (more (list (p 1 22) (more (symbol (p 1 23) (codes "defrole")) (more (symbol (p 1 31) (codes "r")) (more (list (p 1 33) (more (symbol (p 1 34) (codes "vars")) (more (list (p 1 39) (more (symbol (p 1 40) (codes "a")) (more (symbol (p 1 42) (codes "name")) none))) none))) (more (list (p 1 49) (more (symbol (p 1 50) (codes "trace")) (more (list (p 1 56) (more (symbol (p 1 57) (codes "send")) (more (symbol (p 1 62) (codes "a")) none))) none))) none))))) none))))) (more (list (p 2 1) (more (symbol (p 2 2) (codes "defskeleton")) (more (symbol (p 2 14) (codes "p")) (more (list (p 2 16) (more (symbol (p 2 17) (codes "vars")) none)) (more (list (p 2 23) (more (symbol (p 2 24) (codes "comment")) (more (number (p 2 32) 1) (more (string (p 2 34) (codes "x")) none)))) (more (list (p 2 39) (more (symbol (p 2 40) (codes "defstrand")) (more (symbol (p 2 50) (codes "r")) (more (number (p 2 52) 1) none)))) (more (list (p 2 55) (more (symbol (p 2 56) (codes "comment")) none)) (more (list (p 2 65) (more (symbol (p 2 66) (codes "non-orig")) none)) none)))))))) none)), None)
    -- (defrun x)
    ∷ ((more (list (p 1 1) (more (symbol (p 1 2) (codes "defrun")) (more (symbol (p 1 9) (codes "x")) none))) none), Some (record { place = p 1 1; code = UnknownForm }))
    -- (defgoal x)
    ∷ ((more (list (p 1 1) (more (symbol (p 1 2) (codes "defgoal")) (more (symbol (p 1 10) (codes "x")) none))) none), Some (record { place = p 1 1; code = OutOfProfile }))
    -- (herald "x" (bound 4))
    ∷ ((more (list (p 1 1) (more (symbol (p 1 2) (codes "herald")) (more (string (p 1 9) (codes "x")) (more (list (p 1 13) (more (symbol (p 1 14) (codes "bound")) (more (number (p 1 20) 4) none))) none)))) none), None)
    -- (defprotocol p basic (defrole r (vars (a name)) (trace (gen a))))
    ∷ ((more (list (p 1 1) (more (symbol (p 1 2) (codes "defprotocol")) (more (symbol (p 1 14) (codes "p")) (more (symbol (p 1 16) (codes "basic")) (more (list (p 1 22) (more (symbol (p 1 23) (codes "defrole")) (more (symbol (p 1 31) (codes "r")) (more (list (p 1 33) (more (symbol (p 1 34) (codes "vars")) (more (list (p 1 39) (more (symbol (p 1 40) (codes "a")) (more (symbol (p 1 42) (codes "name")) none))) none))) (more (list (p 1 49) (more (symbol (p 1 50) (codes "trace")) (more (list (p 1 56) (more (symbol (p 1 57) (codes "gen")) (more (symbol (p 1 61) (codes "a")) none))) none))) none))))) none))))) none), Some (record { place = p 1 56; code = UnknownForm }))
    -- (defprotocol p basic (defrole r (vars (a name)) (trace (send (gen a)))))
    ∷ ((more (list (p 1 1) (more (symbol (p 1 2) (codes "defprotocol")) (more (symbol (p 1 14) (codes "p")) (more (symbol (p 1 16) (codes "basic")) (more (list (p 1 22) (more (symbol (p 1 23) (codes "defrole")) (more (symbol (p 1 31) (codes "r")) (more (list (p 1 33) (more (symbol (p 1 34) (codes "vars")) (more (list (p 1 39) (more (symbol (p 1 40) (codes "a")) (more (symbol (p 1 42) (codes "name")) none))) none))) (more (list (p 1 49) (more (symbol (p 1 50) (codes "trace")) (more (list (p 1 56) (more (symbol (p 1 57) (codes "send")) (more (list (p 1 62) (more (symbol (p 1 63) (codes "gen")) (more (symbol (p 1 67) (codes "a")) none))) none))) none))) none))))) none))))) none), Some (record { place = p 1 62; code = OutOfProfile }))
    -- (defprotocol p basic (defrole r (vars (k skey) (a name)) (trace (send (enc a (cat k))))))
    ∷ ((more (list (p 1 1) (more (symbol (p 1 2) (codes "defprotocol")) (more (symbol (p 1 14) (codes "p")) (more (symbol (p 1 16) (codes "basic")) (more (list (p 1 22) (more (symbol (p 1 23) (codes "defrole")) (more (symbol (p 1 31) (codes "r")) (more (list (p 1 33) (more (symbol (p 1 34) (codes "vars")) (more (list (p 1 39) (more (symbol (p 1 40) (codes "k")) (more (symbol (p 1 42) (codes "skey")) none))) (more (list (p 1 48) (more (symbol (p 1 49) (codes "a")) (more (symbol (p 1 51) (codes "name")) none))) none)))) (more (list (p 1 58) (more (symbol (p 1 59) (codes "trace")) (more (list (p 1 65) (more (symbol (p 1 66) (codes "send")) (more (list (p 1 71) (more (symbol (p 1 72) (codes "enc")) (more (symbol (p 1 76) (codes "a")) (more (list (p 1 78) (more (symbol (p 1 79) (codes "cat")) (more (symbol (p 1 83) (codes "k")) none))) none)))) none))) none))) none))))) none))))) none), None)
    -- (defprotocol p basic (defrole r (vars (k skey) (a name)) (trace (send (enc a (cat z))))))
    ∷ ((more (list (p 1 1) (more (symbol (p 1 2) (codes "defprotocol")) (more (symbol (p 1 14) (codes "p")) (more (symbol (p 1 16) (codes "basic")) (more (list (p 1 22) (more (symbol (p 1 23) (codes "defrole")) (more (symbol (p 1 31) (codes "r")) (more (list (p 1 33) (more (symbol (p 1 34) (codes "vars")) (more (list (p 1 39) (more (symbol (p 1 40) (codes "k")) (more (symbol (p 1 42) (codes "skey")) none))) (more (list (p 1 48) (more (symbol (p 1 49) (codes "a")) (more (symbol (p 1 51) (codes "name")) none))) none)))) (more (list (p 1 58) (more (symbol (p 1 59) (codes "trace")) (more (list (p 1 65) (more (symbol (p 1 66) (codes "send")) (more (list (p 1 71) (more (symbol (p 1 72) (codes "enc")) (more (symbol (p 1 76) (codes "a")) (more (list (p 1 78) (more (symbol (p 1 79) (codes "cat")) (more (symbol (p 1 83) (codes "z")) none))) none)))) none))) none))) none))))) none))))) none), Some (record { place = p 1 83; code = UnknownVar }))
    -- (defprotocol p basic (defrole r (vars (k akey) (a name)) (trace (send (invk (invk k))) (recv (invk a)))))
    ∷ ((more (list (p 1 1) (more (symbol (p 1 2) (codes "defprotocol")) (more (symbol (p 1 14) (codes "p")) (more (symbol (p 1 16) (codes "basic")) (more (list (p 1 22) (more (symbol (p 1 23) (codes "defrole")) (more (symbol (p 1 31) (codes "r")) (more (list (p 1 33) (more (symbol (p 1 34) (codes "vars")) (more (list (p 1 39) (more (symbol (p 1 40) (codes "k")) (more (symbol (p 1 42) (codes "akey")) none))) (more (list (p 1 48) (more (symbol (p 1 49) (codes "a")) (more (symbol (p 1 51) (codes "name")) none))) none)))) (more (list (p 1 58) (more (symbol (p 1 59) (codes "trace")) (more (list (p 1 65) (more (symbol (p 1 66) (codes "send")) (more (list (p 1 71) (more (symbol (p 1 72) (codes "invk")) (more (list (p 1 77) (more (symbol (p 1 78) (codes "invk")) (more (symbol (p 1 83) (codes "k")) none))) none))) none))) (more (list (p 1 88) (more (symbol (p 1 89) (codes "recv")) (more (list (p 1 94) (more (symbol (p 1 95) (codes "invk")) (more (symbol (p 1 100) (codes "a")) none))) none))) none)))) none))))) none))))) none), Some (record { place = p 1 100; code = IllSorted }))
    ∷ []

each_first : map (λ (e : Forms × Option Refusal). first (faults_of e.0)) texts ≡ map (λ (e : Forms × Option Refusal). e.1) texts
each_first = refl
