-- Examples of faults: texts whose first fault was worked out by hand, as forms with their places. Each holds by
-- computing the definitions.
use Rattle.std.specs.Prelude.{◌≡◌, [], ◌∷◌, codes, refl, Some, None}
use Rattle.cp_base.specs.declared.place.Code.TheVariants.{UnknownForm, OutOfProfile, BadShape, MesgVar, DuplicateVar, BadHeight, UnknownVar, IllSorted, KeySort, NotAtom, RoleUniqNoOrigin, UniqNowhere}
use Rattle.cp_sexpr.specs.Syntax.{symbol, string, number, list, none, more}
use Rattle.cp_language.proofs.FirstFault.{p, first}
use Rattle.cp_language.specs.Input.{faults_of}

-- (defprotocol p basic (defrole r (vars (a b name) (n text) (k skey) (e akey) (d data)) (trace (send (cat a b n d (enc n d k)))) (uniq-orig n (enc n k))))
atom_enc : first (faults_of (more (list (p 1 1) (more (symbol (p 1 2) (codes "defprotocol")) (more (symbol (p 1 14) (codes "p")) (more (symbol (p 1 16) (codes "basic")) (more (list (p 1 22) (more (symbol (p 1 23) (codes "defrole")) (more (symbol (p 1 31) (codes "r")) (more (list (p 1 33) (more (symbol (p 1 34) (codes "vars")) (more (list (p 1 39) (more (symbol (p 1 40) (codes "a")) (more (symbol (p 1 42) (codes "b")) (more (symbol (p 1 44) (codes "name")) none)))) (more (list (p 1 50) (more (symbol (p 1 51) (codes "n")) (more (symbol (p 1 53) (codes "text")) none))) (more (list (p 1 59) (more (symbol (p 1 60) (codes "k")) (more (symbol (p 1 62) (codes "skey")) none))) (more (list (p 1 68) (more (symbol (p 1 69) (codes "e")) (more (symbol (p 1 71) (codes "akey")) none))) (more (list (p 1 77) (more (symbol (p 1 78) (codes "d")) (more (symbol (p 1 80) (codes "data")) none))) none))))))) (more (list (p 1 87) (more (symbol (p 1 88) (codes "trace")) (more (list (p 1 94) (more (symbol (p 1 95) (codes "send")) (more (list (p 1 100) (more (symbol (p 1 101) (codes "cat")) (more (symbol (p 1 105) (codes "a")) (more (symbol (p 1 107) (codes "b")) (more (symbol (p 1 109) (codes "n")) (more (symbol (p 1 111) (codes "d")) (more (list (p 1 113) (more (symbol (p 1 114) (codes "enc")) (more (symbol (p 1 118) (codes "n")) (more (symbol (p 1 120) (codes "d")) (more (symbol (p 1 122) (codes "k")) none))))) none))))))) none))) none))) (more (list (p 1 128) (more (symbol (p 1 129) (codes "uniq-orig")) (more (symbol (p 1 139) (codes "n")) (more (list (p 1 141) (more (symbol (p 1 142) (codes "enc")) (more (symbol (p 1 146) (codes "n")) (more (symbol (p 1 148) (codes "k")) none)))) none)))) none)))))) none))))) none)) ≡ Some (record { place = p 1 141; code = NotAtom })
atom_enc = refl

-- (defprotocol p basic (defrole r (vars (a b name) (n text) (k skey)) (trace (send (enc n a k)) (recv (enc n b (ltk a b))))) (defrole s (vars (a name) (n text)) (trace (recv n) (send (cat a n)))))
-- (defskeleton p (vars (a b name) (n m text) (k skey) (e akey) (d data)) (defstrand r 1 (n n)) (uniq-orig n "n" zz))
atom_uniq_tag_problem : first (faults_of (more (list (p 1 1) (more (symbol (p 1 2) (codes "defprotocol")) (more (symbol (p 1 14) (codes "p")) (more (symbol (p 1 16) (codes "basic")) (more (list (p 1 22) (more (symbol (p 1 23) (codes "defrole")) (more (symbol (p 1 31) (codes "r")) (more (list (p 1 33) (more (symbol (p 1 34) (codes "vars")) (more (list (p 1 39) (more (symbol (p 1 40) (codes "a")) (more (symbol (p 1 42) (codes "b")) (more (symbol (p 1 44) (codes "name")) none)))) (more (list (p 1 50) (more (symbol (p 1 51) (codes "n")) (more (symbol (p 1 53) (codes "text")) none))) (more (list (p 1 59) (more (symbol (p 1 60) (codes "k")) (more (symbol (p 1 62) (codes "skey")) none))) none))))) (more (list (p 1 69) (more (symbol (p 1 70) (codes "trace")) (more (list (p 1 76) (more (symbol (p 1 77) (codes "send")) (more (list (p 1 82) (more (symbol (p 1 83) (codes "enc")) (more (symbol (p 1 87) (codes "n")) (more (symbol (p 1 89) (codes "a")) (more (symbol (p 1 91) (codes "k")) none))))) none))) (more (list (p 1 95) (more (symbol (p 1 96) (codes "recv")) (more (list (p 1 101) (more (symbol (p 1 102) (codes "enc")) (more (symbol (p 1 106) (codes "n")) (more (symbol (p 1 108) (codes "b")) (more (list (p 1 110) (more (symbol (p 1 111) (codes "ltk")) (more (symbol (p 1 115) (codes "a")) (more (symbol (p 1 117) (codes "b")) none)))) none))))) none))) none)))) none))))) (more (list (p 1 124) (more (symbol (p 1 125) (codes "defrole")) (more (symbol (p 1 133) (codes "s")) (more (list (p 1 135) (more (symbol (p 1 136) (codes "vars")) (more (list (p 1 141) (more (symbol (p 1 142) (codes "a")) (more (symbol (p 1 144) (codes "name")) none))) (more (list (p 1 150) (more (symbol (p 1 151) (codes "n")) (more (symbol (p 1 153) (codes "text")) none))) none)))) (more (list (p 1 160) (more (symbol (p 1 161) (codes "trace")) (more (list (p 1 167) (more (symbol (p 1 168) (codes "recv")) (more (symbol (p 1 173) (codes "n")) none))) (more (list (p 1 176) (more (symbol (p 1 177) (codes "send")) (more (list (p 1 182) (more (symbol (p 1 183) (codes "cat")) (more (symbol (p 1 187) (codes "a")) (more (symbol (p 1 189) (codes "n")) none)))) none))) none)))) none))))) none)))))) (more (list (p 2 1) (more (symbol (p 2 2) (codes "defskeleton")) (more (symbol (p 2 14) (codes "p")) (more (list (p 2 16) (more (symbol (p 2 17) (codes "vars")) (more (list (p 2 22) (more (symbol (p 2 23) (codes "a")) (more (symbol (p 2 25) (codes "b")) (more (symbol (p 2 27) (codes "name")) none)))) (more (list (p 2 33) (more (symbol (p 2 34) (codes "n")) (more (symbol (p 2 36) (codes "m")) (more (symbol (p 2 38) (codes "text")) none)))) (more (list (p 2 44) (more (symbol (p 2 45) (codes "k")) (more (symbol (p 2 47) (codes "skey")) none))) (more (list (p 2 53) (more (symbol (p 2 54) (codes "e")) (more (symbol (p 2 56) (codes "akey")) none))) (more (list (p 2 62) (more (symbol (p 2 63) (codes "d")) (more (symbol (p 2 65) (codes "data")) none))) none))))))) (more (list (p 2 72) (more (symbol (p 2 73) (codes "defstrand")) (more (symbol (p 2 83) (codes "r")) (more (number (p 2 85) 1) (more (list (p 2 87) (more (symbol (p 2 88) (codes "n")) (more (symbol (p 2 90) (codes "n")) none))) none))))) (more (list (p 2 94) (more (symbol (p 2 95) (codes "uniq-orig")) (more (symbol (p 2 105) (codes "n")) (more (string (p 2 107) (codes "n")) (more (symbol (p 2 111) (codes "zz")) none))))) none)))))) none))) ≡ Some (record { place = p 2 107; code = NotAtom })
atom_uniq_tag_problem = refl

-- (defprotocol p crypto (nonsense))
-- (defskeleton q)
compete_first_form : first (faults_of (more (list (p 1 1) (more (symbol (p 1 2) (codes "defprotocol")) (more (symbol (p 1 14) (codes "p")) (more (symbol (p 1 16) (codes "crypto")) (more (list (p 1 23) (more (symbol (p 1 24) (codes "nonsense")) none)) none))))) (more (list (p 2 1) (more (symbol (p 2 2) (codes "defskeleton")) (more (symbol (p 2 14) (codes "q")) none))) none))) ≡ Some (record { place = p 1 16; code = OutOfProfile })
compete_first_form = refl

-- (defprotocol p basic (defrole r (vars (a b name) (n text) (k skey) (e akey) (d data)) (trace (send (cat n (enc z))))))
compete_missing_before_inner : first (faults_of (more (list (p 1 1) (more (symbol (p 1 2) (codes "defprotocol")) (more (symbol (p 1 14) (codes "p")) (more (symbol (p 1 16) (codes "basic")) (more (list (p 1 22) (more (symbol (p 1 23) (codes "defrole")) (more (symbol (p 1 31) (codes "r")) (more (list (p 1 33) (more (symbol (p 1 34) (codes "vars")) (more (list (p 1 39) (more (symbol (p 1 40) (codes "a")) (more (symbol (p 1 42) (codes "b")) (more (symbol (p 1 44) (codes "name")) none)))) (more (list (p 1 50) (more (symbol (p 1 51) (codes "n")) (more (symbol (p 1 53) (codes "text")) none))) (more (list (p 1 59) (more (symbol (p 1 60) (codes "k")) (more (symbol (p 1 62) (codes "skey")) none))) (more (list (p 1 68) (more (symbol (p 1 69) (codes "e")) (more (symbol (p 1 71) (codes "akey")) none))) (more (list (p 1 77) (more (symbol (p 1 78) (codes "d")) (more (symbol (p 1 80) (codes "data")) none))) none))))))) (more (list (p 1 87) (more (symbol (p 1 88) (codes "trace")) (more (list (p 1 94) (more (symbol (p 1 95) (codes "send")) (more (list (p 1 100) (more (symbol (p 1 101) (codes "cat")) (more (symbol (p 1 105) (codes "n")) (more (list (p 1 107) (more (symbol (p 1 108) (codes "enc")) (more (symbol (p 1 112) (codes "z")) none))) none)))) none))) none))) none))))) none))))) none)) ≡ Some (record { place = p 1 107; code = BadShape })
compete_missing_before_inner = refl

-- (defprotocol p basic (defrole r (vars (a b name) (n text) (k skey) (e akey) (d data)) (trace (send (enc (pubk n) n)))))
compete_plain_before_key : first (faults_of (more (list (p 1 1) (more (symbol (p 1 2) (codes "defprotocol")) (more (symbol (p 1 14) (codes "p")) (more (symbol (p 1 16) (codes "basic")) (more (list (p 1 22) (more (symbol (p 1 23) (codes "defrole")) (more (symbol (p 1 31) (codes "r")) (more (list (p 1 33) (more (symbol (p 1 34) (codes "vars")) (more (list (p 1 39) (more (symbol (p 1 40) (codes "a")) (more (symbol (p 1 42) (codes "b")) (more (symbol (p 1 44) (codes "name")) none)))) (more (list (p 1 50) (more (symbol (p 1 51) (codes "n")) (more (symbol (p 1 53) (codes "text")) none))) (more (list (p 1 59) (more (symbol (p 1 60) (codes "k")) (more (symbol (p 1 62) (codes "skey")) none))) (more (list (p 1 68) (more (symbol (p 1 69) (codes "e")) (more (symbol (p 1 71) (codes "akey")) none))) (more (list (p 1 77) (more (symbol (p 1 78) (codes "d")) (more (symbol (p 1 80) (codes "data")) none))) none))))))) (more (list (p 1 87) (more (symbol (p 1 88) (codes "trace")) (more (list (p 1 94) (more (symbol (p 1 95) (codes "send")) (more (list (p 1 100) (more (symbol (p 1 101) (codes "enc")) (more (list (p 1 105) (more (symbol (p 1 106) (codes "pubk")) (more (symbol (p 1 111) (codes "n")) none))) (more (symbol (p 1 114) (codes "n")) none)))) none))) none))) none))))) none))))) none)) ≡ Some (record { place = p 1 111; code = IllSorted })
compete_plain_before_key = refl

-- (defprotocol p basic (defrole r (vars (a name)) (trace (send z)) (nonsense)))
compete_trace_before_items : first (faults_of (more (list (p 1 1) (more (symbol (p 1 2) (codes "defprotocol")) (more (symbol (p 1 14) (codes "p")) (more (symbol (p 1 16) (codes "basic")) (more (list (p 1 22) (more (symbol (p 1 23) (codes "defrole")) (more (symbol (p 1 31) (codes "r")) (more (list (p 1 33) (more (symbol (p 1 34) (codes "vars")) (more (list (p 1 39) (more (symbol (p 1 40) (codes "a")) (more (symbol (p 1 42) (codes "name")) none))) none))) (more (list (p 1 49) (more (symbol (p 1 50) (codes "trace")) (more (list (p 1 56) (more (symbol (p 1 57) (codes "send")) (more (symbol (p 1 62) (codes "z")) none))) none))) (more (list (p 1 66) (more (symbol (p 1 67) (codes "nonsense")) none)) none)))))) none))))) none)) ≡ Some (record { place = p 1 62; code = UnknownVar })
compete_trace_before_items = refl

-- (defprotocol p basic (defrole r (vars (a b name) (n text) (k skey)) (trace (send (enc n a k)) (recv (enc n b (ltk a b))))) (defrole s (vars (a name) (n text)) (trace (recv n) (send (cat a n)))))
-- (defskeleton p (vars (a b name) (n m text) (k skey) (e akey) (d data)) (defstrand r 1 (n n) (a a) (n n) (n n)))
dupvar_maplet_same : first (faults_of (more (list (p 1 1) (more (symbol (p 1 2) (codes "defprotocol")) (more (symbol (p 1 14) (codes "p")) (more (symbol (p 1 16) (codes "basic")) (more (list (p 1 22) (more (symbol (p 1 23) (codes "defrole")) (more (symbol (p 1 31) (codes "r")) (more (list (p 1 33) (more (symbol (p 1 34) (codes "vars")) (more (list (p 1 39) (more (symbol (p 1 40) (codes "a")) (more (symbol (p 1 42) (codes "b")) (more (symbol (p 1 44) (codes "name")) none)))) (more (list (p 1 50) (more (symbol (p 1 51) (codes "n")) (more (symbol (p 1 53) (codes "text")) none))) (more (list (p 1 59) (more (symbol (p 1 60) (codes "k")) (more (symbol (p 1 62) (codes "skey")) none))) none))))) (more (list (p 1 69) (more (symbol (p 1 70) (codes "trace")) (more (list (p 1 76) (more (symbol (p 1 77) (codes "send")) (more (list (p 1 82) (more (symbol (p 1 83) (codes "enc")) (more (symbol (p 1 87) (codes "n")) (more (symbol (p 1 89) (codes "a")) (more (symbol (p 1 91) (codes "k")) none))))) none))) (more (list (p 1 95) (more (symbol (p 1 96) (codes "recv")) (more (list (p 1 101) (more (symbol (p 1 102) (codes "enc")) (more (symbol (p 1 106) (codes "n")) (more (symbol (p 1 108) (codes "b")) (more (list (p 1 110) (more (symbol (p 1 111) (codes "ltk")) (more (symbol (p 1 115) (codes "a")) (more (symbol (p 1 117) (codes "b")) none)))) none))))) none))) none)))) none))))) (more (list (p 1 124) (more (symbol (p 1 125) (codes "defrole")) (more (symbol (p 1 133) (codes "s")) (more (list (p 1 135) (more (symbol (p 1 136) (codes "vars")) (more (list (p 1 141) (more (symbol (p 1 142) (codes "a")) (more (symbol (p 1 144) (codes "name")) none))) (more (list (p 1 150) (more (symbol (p 1 151) (codes "n")) (more (symbol (p 1 153) (codes "text")) none))) none)))) (more (list (p 1 160) (more (symbol (p 1 161) (codes "trace")) (more (list (p 1 167) (more (symbol (p 1 168) (codes "recv")) (more (symbol (p 1 173) (codes "n")) none))) (more (list (p 1 176) (more (symbol (p 1 177) (codes "send")) (more (list (p 1 182) (more (symbol (p 1 183) (codes "cat")) (more (symbol (p 1 187) (codes "a")) (more (symbol (p 1 189) (codes "n")) none)))) none))) none)))) none))))) none)))))) (more (list (p 2 1) (more (symbol (p 2 2) (codes "defskeleton")) (more (symbol (p 2 14) (codes "p")) (more (list (p 2 16) (more (symbol (p 2 17) (codes "vars")) (more (list (p 2 22) (more (symbol (p 2 23) (codes "a")) (more (symbol (p 2 25) (codes "b")) (more (symbol (p 2 27) (codes "name")) none)))) (more (list (p 2 33) (more (symbol (p 2 34) (codes "n")) (more (symbol (p 2 36) (codes "m")) (more (symbol (p 2 38) (codes "text")) none)))) (more (list (p 2 44) (more (symbol (p 2 45) (codes "k")) (more (symbol (p 2 47) (codes "skey")) none))) (more (list (p 2 53) (more (symbol (p 2 54) (codes "e")) (more (symbol (p 2 56) (codes "akey")) none))) (more (list (p 2 62) (more (symbol (p 2 63) (codes "d")) (more (symbol (p 2 65) (codes "data")) none))) none))))))) (more (list (p 2 72) (more (symbol (p 2 73) (codes "defstrand")) (more (symbol (p 2 83) (codes "r")) (more (number (p 2 85) 1) (more (list (p 2 87) (more (symbol (p 2 88) (codes "n")) (more (symbol (p 2 90) (codes "n")) none))) (more (list (p 2 93) (more (symbol (p 2 94) (codes "a")) (more (symbol (p 2 96) (codes "a")) none))) (more (list (p 2 99) (more (symbol (p 2 100) (codes "n")) (more (symbol (p 2 102) (codes "n")) none))) (more (list (p 2 105) (more (symbol (p 2 106) (codes "n")) (more (symbol (p 2 108) (codes "n")) none))) none)))))))) none))))) none))) ≡ Some (record { place = p 2 100; code = DuplicateVar })
dupvar_maplet_same = refl

-- (defprotocol p basic (defrole r (vars (a b name) (n text) (k skey)) (trace (send (enc n a k)) (recv (enc n b (ltk a b))))) (defrole s (vars (a name) (n text)) (trace (recv n) (send (cat a n)))))
-- (defskeleton p (vars (n m n text)) (defstrand r 9))
dupvar_problem : first (faults_of (more (list (p 1 1) (more (symbol (p 1 2) (codes "defprotocol")) (more (symbol (p 1 14) (codes "p")) (more (symbol (p 1 16) (codes "basic")) (more (list (p 1 22) (more (symbol (p 1 23) (codes "defrole")) (more (symbol (p 1 31) (codes "r")) (more (list (p 1 33) (more (symbol (p 1 34) (codes "vars")) (more (list (p 1 39) (more (symbol (p 1 40) (codes "a")) (more (symbol (p 1 42) (codes "b")) (more (symbol (p 1 44) (codes "name")) none)))) (more (list (p 1 50) (more (symbol (p 1 51) (codes "n")) (more (symbol (p 1 53) (codes "text")) none))) (more (list (p 1 59) (more (symbol (p 1 60) (codes "k")) (more (symbol (p 1 62) (codes "skey")) none))) none))))) (more (list (p 1 69) (more (symbol (p 1 70) (codes "trace")) (more (list (p 1 76) (more (symbol (p 1 77) (codes "send")) (more (list (p 1 82) (more (symbol (p 1 83) (codes "enc")) (more (symbol (p 1 87) (codes "n")) (more (symbol (p 1 89) (codes "a")) (more (symbol (p 1 91) (codes "k")) none))))) none))) (more (list (p 1 95) (more (symbol (p 1 96) (codes "recv")) (more (list (p 1 101) (more (symbol (p 1 102) (codes "enc")) (more (symbol (p 1 106) (codes "n")) (more (symbol (p 1 108) (codes "b")) (more (list (p 1 110) (more (symbol (p 1 111) (codes "ltk")) (more (symbol (p 1 115) (codes "a")) (more (symbol (p 1 117) (codes "b")) none)))) none))))) none))) none)))) none))))) (more (list (p 1 124) (more (symbol (p 1 125) (codes "defrole")) (more (symbol (p 1 133) (codes "s")) (more (list (p 1 135) (more (symbol (p 1 136) (codes "vars")) (more (list (p 1 141) (more (symbol (p 1 142) (codes "a")) (more (symbol (p 1 144) (codes "name")) none))) (more (list (p 1 150) (more (symbol (p 1 151) (codes "n")) (more (symbol (p 1 153) (codes "text")) none))) none)))) (more (list (p 1 160) (more (symbol (p 1 161) (codes "trace")) (more (list (p 1 167) (more (symbol (p 1 168) (codes "recv")) (more (symbol (p 1 173) (codes "n")) none))) (more (list (p 1 176) (more (symbol (p 1 177) (codes "send")) (more (list (p 1 182) (more (symbol (p 1 183) (codes "cat")) (more (symbol (p 1 187) (codes "a")) (more (symbol (p 1 189) (codes "n")) none)))) none))) none)))) none))))) none)))))) (more (list (p 2 1) (more (symbol (p 2 2) (codes "defskeleton")) (more (symbol (p 2 14) (codes "p")) (more (list (p 2 16) (more (symbol (p 2 17) (codes "vars")) (more (list (p 2 22) (more (symbol (p 2 23) (codes "n")) (more (symbol (p 2 25) (codes "m")) (more (symbol (p 2 27) (codes "n")) (more (symbol (p 2 29) (codes "text")) none))))) none))) (more (list (p 2 36) (more (symbol (p 2 37) (codes "defstrand")) (more (symbol (p 2 47) (codes "r")) (more (number (p 2 49) 9) none)))) none))))) none))) ≡ Some (record { place = p 2 27; code = DuplicateVar })
dupvar_problem = refl

-- (defprotocol p basic (herald "x"))
form_herald_in_protocol : first (faults_of (more (list (p 1 1) (more (symbol (p 1 2) (codes "defprotocol")) (more (symbol (p 1 14) (codes "p")) (more (symbol (p 1 16) (codes "basic")) (more (list (p 1 22) (more (symbol (p 1 23) (codes "herald")) (more (string (p 1 30) (codes "x")) none))) none))))) none)) ≡ Some (record { place = p 1 22; code = UnknownForm })
form_herald_in_protocol = refl

-- (defprotocol p basic (defrole r (vars (a b name) (n text) (k skey) (e akey) (d data)) (trace (send (tuple z 1)))))
form_operation_before_inner : first (faults_of (more (list (p 1 1) (more (symbol (p 1 2) (codes "defprotocol")) (more (symbol (p 1 14) (codes "p")) (more (symbol (p 1 16) (codes "basic")) (more (list (p 1 22) (more (symbol (p 1 23) (codes "defrole")) (more (symbol (p 1 31) (codes "r")) (more (list (p 1 33) (more (symbol (p 1 34) (codes "vars")) (more (list (p 1 39) (more (symbol (p 1 40) (codes "a")) (more (symbol (p 1 42) (codes "b")) (more (symbol (p 1 44) (codes "name")) none)))) (more (list (p 1 50) (more (symbol (p 1 51) (codes "n")) (more (symbol (p 1 53) (codes "text")) none))) (more (list (p 1 59) (more (symbol (p 1 60) (codes "k")) (more (symbol (p 1 62) (codes "skey")) none))) (more (list (p 1 68) (more (symbol (p 1 69) (codes "e")) (more (symbol (p 1 71) (codes "akey")) none))) (more (list (p 1 77) (more (symbol (p 1 78) (codes "d")) (more (symbol (p 1 80) (codes "data")) none))) none))))))) (more (list (p 1 87) (more (symbol (p 1 88) (codes "trace")) (more (list (p 1 94) (more (symbol (p 1 95) (codes "send")) (more (list (p 1 100) (more (symbol (p 1 101) (codes "tuple")) (more (symbol (p 1 107) (codes "z")) (more (number (p 1 109) 1) none)))) none))) none))) none))))) none))))) none)) ≡ Some (record { place = p 1 100; code = UnknownForm })
form_operation_before_inner = refl

-- (defprotocol p basic (defrole r (vars (a b name) (n text) (k skey) (e akey) (d data)) (trace (send (enc n (prvk a))))))
form_operation_key : first (faults_of (more (list (p 1 1) (more (symbol (p 1 2) (codes "defprotocol")) (more (symbol (p 1 14) (codes "p")) (more (symbol (p 1 16) (codes "basic")) (more (list (p 1 22) (more (symbol (p 1 23) (codes "defrole")) (more (symbol (p 1 31) (codes "r")) (more (list (p 1 33) (more (symbol (p 1 34) (codes "vars")) (more (list (p 1 39) (more (symbol (p 1 40) (codes "a")) (more (symbol (p 1 42) (codes "b")) (more (symbol (p 1 44) (codes "name")) none)))) (more (list (p 1 50) (more (symbol (p 1 51) (codes "n")) (more (symbol (p 1 53) (codes "text")) none))) (more (list (p 1 59) (more (symbol (p 1 60) (codes "k")) (more (symbol (p 1 62) (codes "skey")) none))) (more (list (p 1 68) (more (symbol (p 1 69) (codes "e")) (more (symbol (p 1 71) (codes "akey")) none))) (more (list (p 1 77) (more (symbol (p 1 78) (codes "d")) (more (symbol (p 1 80) (codes "data")) none))) none))))))) (more (list (p 1 87) (more (symbol (p 1 88) (codes "trace")) (more (list (p 1 94) (more (symbol (p 1 95) (codes "send")) (more (list (p 1 100) (more (symbol (p 1 101) (codes "enc")) (more (symbol (p 1 105) (codes "n")) (more (list (p 1 107) (more (symbol (p 1 108) (codes "prvk")) (more (symbol (p 1 113) (codes "a")) none))) none)))) none))) none))) none))))) none))))) none)) ≡ Some (record { place = p 1 107; code = UnknownForm })
form_operation_key = refl

-- (defprotocol p basic (defrole r (vars (a b name) (n text) (k skey) (e akey) (d data)) (trace (send (send n)))))
form_operation_send : first (faults_of (more (list (p 1 1) (more (symbol (p 1 2) (codes "defprotocol")) (more (symbol (p 1 14) (codes "p")) (more (symbol (p 1 16) (codes "basic")) (more (list (p 1 22) (more (symbol (p 1 23) (codes "defrole")) (more (symbol (p 1 31) (codes "r")) (more (list (p 1 33) (more (symbol (p 1 34) (codes "vars")) (more (list (p 1 39) (more (symbol (p 1 40) (codes "a")) (more (symbol (p 1 42) (codes "b")) (more (symbol (p 1 44) (codes "name")) none)))) (more (list (p 1 50) (more (symbol (p 1 51) (codes "n")) (more (symbol (p 1 53) (codes "text")) none))) (more (list (p 1 59) (more (symbol (p 1 60) (codes "k")) (more (symbol (p 1 62) (codes "skey")) none))) (more (list (p 1 68) (more (symbol (p 1 69) (codes "e")) (more (symbol (p 1 71) (codes "akey")) none))) (more (list (p 1 77) (more (symbol (p 1 78) (codes "d")) (more (symbol (p 1 80) (codes "data")) none))) none))))))) (more (list (p 1 87) (more (symbol (p 1 88) (codes "trace")) (more (list (p 1 94) (more (symbol (p 1 95) (codes "send")) (more (list (p 1 100) (more (symbol (p 1 101) (codes "send")) (more (symbol (p 1 106) (codes "n")) none))) none))) none))) none))))) none))))) none)) ≡ Some (record { place = p 1 100; code = UnknownForm })
form_operation_send = refl

-- (defprotocol p basic (comment) (defskeleton p (vars)))
form_skeleton_in_protocol : first (faults_of (more (list (p 1 1) (more (symbol (p 1 2) (codes "defprotocol")) (more (symbol (p 1 14) (codes "p")) (more (symbol (p 1 16) (codes "basic")) (more (list (p 1 22) (more (symbol (p 1 23) (codes "comment")) none)) (more (list (p 1 32) (more (symbol (p 1 33) (codes "defskeleton")) (more (symbol (p 1 45) (codes "p")) (more (list (p 1 47) (more (symbol (p 1 48) (codes "vars")) none)) none)))) none)))))) none)) ≡ Some (record { place = p 1 32; code = UnknownForm })
form_skeleton_in_protocol = refl

-- (defproto p basic)
form_top : first (faults_of (more (list (p 1 1) (more (symbol (p 1 2) (codes "defproto")) (more (symbol (p 1 11) (codes "p")) (more (symbol (p 1 13) (codes "basic")) none)))) none)) ≡ Some (record { place = p 1 1; code = UnknownForm })
form_top = refl

-- (defprotocol p basic (defrole r (vars (a b name) (n text) (k skey)) (trace (send (enc n a k)) (recv (enc n b (ltk a b))))) (defrole s (vars (a name) (n text)) (trace (recv n) (send (cat a n)))))
-- (non-orig a)
form_top_nonorig : first (faults_of (more (list (p 1 1) (more (symbol (p 1 2) (codes "defprotocol")) (more (symbol (p 1 14) (codes "p")) (more (symbol (p 1 16) (codes "basic")) (more (list (p 1 22) (more (symbol (p 1 23) (codes "defrole")) (more (symbol (p 1 31) (codes "r")) (more (list (p 1 33) (more (symbol (p 1 34) (codes "vars")) (more (list (p 1 39) (more (symbol (p 1 40) (codes "a")) (more (symbol (p 1 42) (codes "b")) (more (symbol (p 1 44) (codes "name")) none)))) (more (list (p 1 50) (more (symbol (p 1 51) (codes "n")) (more (symbol (p 1 53) (codes "text")) none))) (more (list (p 1 59) (more (symbol (p 1 60) (codes "k")) (more (symbol (p 1 62) (codes "skey")) none))) none))))) (more (list (p 1 69) (more (symbol (p 1 70) (codes "trace")) (more (list (p 1 76) (more (symbol (p 1 77) (codes "send")) (more (list (p 1 82) (more (symbol (p 1 83) (codes "enc")) (more (symbol (p 1 87) (codes "n")) (more (symbol (p 1 89) (codes "a")) (more (symbol (p 1 91) (codes "k")) none))))) none))) (more (list (p 1 95) (more (symbol (p 1 96) (codes "recv")) (more (list (p 1 101) (more (symbol (p 1 102) (codes "enc")) (more (symbol (p 1 106) (codes "n")) (more (symbol (p 1 108) (codes "b")) (more (list (p 1 110) (more (symbol (p 1 111) (codes "ltk")) (more (symbol (p 1 115) (codes "a")) (more (symbol (p 1 117) (codes "b")) none)))) none))))) none))) none)))) none))))) (more (list (p 1 124) (more (symbol (p 1 125) (codes "defrole")) (more (symbol (p 1 133) (codes "s")) (more (list (p 1 135) (more (symbol (p 1 136) (codes "vars")) (more (list (p 1 141) (more (symbol (p 1 142) (codes "a")) (more (symbol (p 1 144) (codes "name")) none))) (more (list (p 1 150) (more (symbol (p 1 151) (codes "n")) (more (symbol (p 1 153) (codes "text")) none))) none)))) (more (list (p 1 160) (more (symbol (p 1 161) (codes "trace")) (more (list (p 1 167) (more (symbol (p 1 168) (codes "recv")) (more (symbol (p 1 173) (codes "n")) none))) (more (list (p 1 176) (more (symbol (p 1 177) (codes "send")) (more (list (p 1 182) (more (symbol (p 1 183) (codes "cat")) (more (symbol (p 1 187) (codes "a")) (more (symbol (p 1 189) (codes "n")) none)))) none))) none)))) none))))) none)))))) (more (list (p 2 1) (more (symbol (p 2 2) (codes "non-orig")) (more (symbol (p 2 11) (codes "a")) none))) none))) ≡ Some (record { place = p 2 1; code = UnknownForm })
form_top_nonorig = refl

-- (defprotocol p basic (defrole r (vars (a b name) (n text) (k skey)) (trace (send (enc n a k)) (recv (enc n b (ltk a b))))) (defrole s (vars (a name) (n text)) (trace (recv n) (send (cat a n)))))
-- (defstrand r 1)
form_top_strand : first (faults_of (more (list (p 1 1) (more (symbol (p 1 2) (codes "defprotocol")) (more (symbol (p 1 14) (codes "p")) (more (symbol (p 1 16) (codes "basic")) (more (list (p 1 22) (more (symbol (p 1 23) (codes "defrole")) (more (symbol (p 1 31) (codes "r")) (more (list (p 1 33) (more (symbol (p 1 34) (codes "vars")) (more (list (p 1 39) (more (symbol (p 1 40) (codes "a")) (more (symbol (p 1 42) (codes "b")) (more (symbol (p 1 44) (codes "name")) none)))) (more (list (p 1 50) (more (symbol (p 1 51) (codes "n")) (more (symbol (p 1 53) (codes "text")) none))) (more (list (p 1 59) (more (symbol (p 1 60) (codes "k")) (more (symbol (p 1 62) (codes "skey")) none))) none))))) (more (list (p 1 69) (more (symbol (p 1 70) (codes "trace")) (more (list (p 1 76) (more (symbol (p 1 77) (codes "send")) (more (list (p 1 82) (more (symbol (p 1 83) (codes "enc")) (more (symbol (p 1 87) (codes "n")) (more (symbol (p 1 89) (codes "a")) (more (symbol (p 1 91) (codes "k")) none))))) none))) (more (list (p 1 95) (more (symbol (p 1 96) (codes "recv")) (more (list (p 1 101) (more (symbol (p 1 102) (codes "enc")) (more (symbol (p 1 106) (codes "n")) (more (symbol (p 1 108) (codes "b")) (more (list (p 1 110) (more (symbol (p 1 111) (codes "ltk")) (more (symbol (p 1 115) (codes "a")) (more (symbol (p 1 117) (codes "b")) none)))) none))))) none))) none)))) none))))) (more (list (p 1 124) (more (symbol (p 1 125) (codes "defrole")) (more (symbol (p 1 133) (codes "s")) (more (list (p 1 135) (more (symbol (p 1 136) (codes "vars")) (more (list (p 1 141) (more (symbol (p 1 142) (codes "a")) (more (symbol (p 1 144) (codes "name")) none))) (more (list (p 1 150) (more (symbol (p 1 151) (codes "n")) (more (symbol (p 1 153) (codes "text")) none))) none)))) (more (list (p 1 160) (more (symbol (p 1 161) (codes "trace")) (more (list (p 1 167) (more (symbol (p 1 168) (codes "recv")) (more (symbol (p 1 173) (codes "n")) none))) (more (list (p 1 176) (more (symbol (p 1 177) (codes "send")) (more (list (p 1 182) (more (symbol (p 1 183) (codes "cat")) (more (symbol (p 1 187) (codes "a")) (more (symbol (p 1 189) (codes "n")) none)))) none))) none)))) none))))) none)))))) (more (list (p 2 1) (more (symbol (p 2 2) (codes "defstrand")) (more (symbol (p 2 12) (codes "r")) (more (number (p 2 14) 1) none)))) none))) ≡ Some (record { place = p 2 1; code = UnknownForm })
form_top_strand = refl

-- (cat "a" "b")
form_top_term : first (faults_of (more (list (p 1 1) (more (symbol (p 1 2) (codes "cat")) (more (string (p 1 6) (codes "a")) (more (string (p 1 10) (codes "b")) none)))) none)) ≡ Some (record { place = p 1 1; code = UnknownForm })
form_top_term = refl

-- (defprotocol p basic (defrole r (vars (a b name) (n text) (k skey)) (trace (send (enc n a k)) (recv (enc n b (ltk a b))))) (defrole s (vars (a name) (n text)) (trace (recv n) (send (cat a n)))))
-- (defskeleton p (vars (a b name) (n m text) (k skey) (e akey) (d data)) (defstrand s 999999999))
height_huge : first (faults_of (more (list (p 1 1) (more (symbol (p 1 2) (codes "defprotocol")) (more (symbol (p 1 14) (codes "p")) (more (symbol (p 1 16) (codes "basic")) (more (list (p 1 22) (more (symbol (p 1 23) (codes "defrole")) (more (symbol (p 1 31) (codes "r")) (more (list (p 1 33) (more (symbol (p 1 34) (codes "vars")) (more (list (p 1 39) (more (symbol (p 1 40) (codes "a")) (more (symbol (p 1 42) (codes "b")) (more (symbol (p 1 44) (codes "name")) none)))) (more (list (p 1 50) (more (symbol (p 1 51) (codes "n")) (more (symbol (p 1 53) (codes "text")) none))) (more (list (p 1 59) (more (symbol (p 1 60) (codes "k")) (more (symbol (p 1 62) (codes "skey")) none))) none))))) (more (list (p 1 69) (more (symbol (p 1 70) (codes "trace")) (more (list (p 1 76) (more (symbol (p 1 77) (codes "send")) (more (list (p 1 82) (more (symbol (p 1 83) (codes "enc")) (more (symbol (p 1 87) (codes "n")) (more (symbol (p 1 89) (codes "a")) (more (symbol (p 1 91) (codes "k")) none))))) none))) (more (list (p 1 95) (more (symbol (p 1 96) (codes "recv")) (more (list (p 1 101) (more (symbol (p 1 102) (codes "enc")) (more (symbol (p 1 106) (codes "n")) (more (symbol (p 1 108) (codes "b")) (more (list (p 1 110) (more (symbol (p 1 111) (codes "ltk")) (more (symbol (p 1 115) (codes "a")) (more (symbol (p 1 117) (codes "b")) none)))) none))))) none))) none)))) none))))) (more (list (p 1 124) (more (symbol (p 1 125) (codes "defrole")) (more (symbol (p 1 133) (codes "s")) (more (list (p 1 135) (more (symbol (p 1 136) (codes "vars")) (more (list (p 1 141) (more (symbol (p 1 142) (codes "a")) (more (symbol (p 1 144) (codes "name")) none))) (more (list (p 1 150) (more (symbol (p 1 151) (codes "n")) (more (symbol (p 1 153) (codes "text")) none))) none)))) (more (list (p 1 160) (more (symbol (p 1 161) (codes "trace")) (more (list (p 1 167) (more (symbol (p 1 168) (codes "recv")) (more (symbol (p 1 173) (codes "n")) none))) (more (list (p 1 176) (more (symbol (p 1 177) (codes "send")) (more (list (p 1 182) (more (symbol (p 1 183) (codes "cat")) (more (symbol (p 1 187) (codes "a")) (more (symbol (p 1 189) (codes "n")) none)))) none))) none)))) none))))) none)))))) (more (list (p 2 1) (more (symbol (p 2 2) (codes "defskeleton")) (more (symbol (p 2 14) (codes "p")) (more (list (p 2 16) (more (symbol (p 2 17) (codes "vars")) (more (list (p 2 22) (more (symbol (p 2 23) (codes "a")) (more (symbol (p 2 25) (codes "b")) (more (symbol (p 2 27) (codes "name")) none)))) (more (list (p 2 33) (more (symbol (p 2 34) (codes "n")) (more (symbol (p 2 36) (codes "m")) (more (symbol (p 2 38) (codes "text")) none)))) (more (list (p 2 44) (more (symbol (p 2 45) (codes "k")) (more (symbol (p 2 47) (codes "skey")) none))) (more (list (p 2 53) (more (symbol (p 2 54) (codes "e")) (more (symbol (p 2 56) (codes "akey")) none))) (more (list (p 2 62) (more (symbol (p 2 63) (codes "d")) (more (symbol (p 2 65) (codes "data")) none))) none))))))) (more (list (p 2 72) (more (symbol (p 2 73) (codes "defstrand")) (more (symbol (p 2 83) (codes "s")) (more (number (p 2 85) 999999999) none)))) none))))) none))) ≡ Some (record { place = p 2 85; code = BadHeight })
height_huge = refl

-- (defprotocol p basic (defrole r (vars (a b name) (n text) (k skey) (e akey) (d data)) (trace (send (enc n (enc k k))))))
key_enc : first (faults_of (more (list (p 1 1) (more (symbol (p 1 2) (codes "defprotocol")) (more (symbol (p 1 14) (codes "p")) (more (symbol (p 1 16) (codes "basic")) (more (list (p 1 22) (more (symbol (p 1 23) (codes "defrole")) (more (symbol (p 1 31) (codes "r")) (more (list (p 1 33) (more (symbol (p 1 34) (codes "vars")) (more (list (p 1 39) (more (symbol (p 1 40) (codes "a")) (more (symbol (p 1 42) (codes "b")) (more (symbol (p 1 44) (codes "name")) none)))) (more (list (p 1 50) (more (symbol (p 1 51) (codes "n")) (more (symbol (p 1 53) (codes "text")) none))) (more (list (p 1 59) (more (symbol (p 1 60) (codes "k")) (more (symbol (p 1 62) (codes "skey")) none))) (more (list (p 1 68) (more (symbol (p 1 69) (codes "e")) (more (symbol (p 1 71) (codes "akey")) none))) (more (list (p 1 77) (more (symbol (p 1 78) (codes "d")) (more (symbol (p 1 80) (codes "data")) none))) none))))))) (more (list (p 1 87) (more (symbol (p 1 88) (codes "trace")) (more (list (p 1 94) (more (symbol (p 1 95) (codes "send")) (more (list (p 1 100) (more (symbol (p 1 101) (codes "enc")) (more (symbol (p 1 105) (codes "n")) (more (list (p 1 107) (more (symbol (p 1 108) (codes "enc")) (more (symbol (p 1 112) (codes "k")) (more (symbol (p 1 114) (codes "k")) none)))) none)))) none))) none))) none))))) none))))) none)) ≡ Some (record { place = p 1 107; code = KeySort })
key_enc = refl

-- (defprotocol p basic (defrole r (vars (a b name) (n text) (k skey) (e akey) (d data)) (trace (send (enc (enc n n) a)))))
key_of_inner : first (faults_of (more (list (p 1 1) (more (symbol (p 1 2) (codes "defprotocol")) (more (symbol (p 1 14) (codes "p")) (more (symbol (p 1 16) (codes "basic")) (more (list (p 1 22) (more (symbol (p 1 23) (codes "defrole")) (more (symbol (p 1 31) (codes "r")) (more (list (p 1 33) (more (symbol (p 1 34) (codes "vars")) (more (list (p 1 39) (more (symbol (p 1 40) (codes "a")) (more (symbol (p 1 42) (codes "b")) (more (symbol (p 1 44) (codes "name")) none)))) (more (list (p 1 50) (more (symbol (p 1 51) (codes "n")) (more (symbol (p 1 53) (codes "text")) none))) (more (list (p 1 59) (more (symbol (p 1 60) (codes "k")) (more (symbol (p 1 62) (codes "skey")) none))) (more (list (p 1 68) (more (symbol (p 1 69) (codes "e")) (more (symbol (p 1 71) (codes "akey")) none))) (more (list (p 1 77) (more (symbol (p 1 78) (codes "d")) (more (symbol (p 1 80) (codes "data")) none))) none))))))) (more (list (p 1 87) (more (symbol (p 1 88) (codes "trace")) (more (list (p 1 94) (more (symbol (p 1 95) (codes "send")) (more (list (p 1 100) (more (symbol (p 1 101) (codes "enc")) (more (list (p 1 105) (more (symbol (p 1 106) (codes "enc")) (more (symbol (p 1 110) (codes "n")) (more (symbol (p 1 112) (codes "n")) none)))) (more (symbol (p 1 115) (codes "a")) none)))) none))) none))) none))))) none))))) none)) ≡ Some (record { place = p 1 112; code = KeySort })
key_of_inner = refl

-- (defprotocol p basic (defrole r (vars (a b name) (n text) (k skey)) (trace (send (enc n a k)) (recv (enc n b (ltk a b))))) (defrole s (vars (a name) (n text)) (trace (recv n) (send (cat a n)))))
-- (defskeleton p (vars (a b name) (n m text) (k skey) (e akey) (d data)) (deflistener (enc n (ltk a b) n)))
key_problem : first (faults_of (more (list (p 1 1) (more (symbol (p 1 2) (codes "defprotocol")) (more (symbol (p 1 14) (codes "p")) (more (symbol (p 1 16) (codes "basic")) (more (list (p 1 22) (more (symbol (p 1 23) (codes "defrole")) (more (symbol (p 1 31) (codes "r")) (more (list (p 1 33) (more (symbol (p 1 34) (codes "vars")) (more (list (p 1 39) (more (symbol (p 1 40) (codes "a")) (more (symbol (p 1 42) (codes "b")) (more (symbol (p 1 44) (codes "name")) none)))) (more (list (p 1 50) (more (symbol (p 1 51) (codes "n")) (more (symbol (p 1 53) (codes "text")) none))) (more (list (p 1 59) (more (symbol (p 1 60) (codes "k")) (more (symbol (p 1 62) (codes "skey")) none))) none))))) (more (list (p 1 69) (more (symbol (p 1 70) (codes "trace")) (more (list (p 1 76) (more (symbol (p 1 77) (codes "send")) (more (list (p 1 82) (more (symbol (p 1 83) (codes "enc")) (more (symbol (p 1 87) (codes "n")) (more (symbol (p 1 89) (codes "a")) (more (symbol (p 1 91) (codes "k")) none))))) none))) (more (list (p 1 95) (more (symbol (p 1 96) (codes "recv")) (more (list (p 1 101) (more (symbol (p 1 102) (codes "enc")) (more (symbol (p 1 106) (codes "n")) (more (symbol (p 1 108) (codes "b")) (more (list (p 1 110) (more (symbol (p 1 111) (codes "ltk")) (more (symbol (p 1 115) (codes "a")) (more (symbol (p 1 117) (codes "b")) none)))) none))))) none))) none)))) none))))) (more (list (p 1 124) (more (symbol (p 1 125) (codes "defrole")) (more (symbol (p 1 133) (codes "s")) (more (list (p 1 135) (more (symbol (p 1 136) (codes "vars")) (more (list (p 1 141) (more (symbol (p 1 142) (codes "a")) (more (symbol (p 1 144) (codes "name")) none))) (more (list (p 1 150) (more (symbol (p 1 151) (codes "n")) (more (symbol (p 1 153) (codes "text")) none))) none)))) (more (list (p 1 160) (more (symbol (p 1 161) (codes "trace")) (more (list (p 1 167) (more (symbol (p 1 168) (codes "recv")) (more (symbol (p 1 173) (codes "n")) none))) (more (list (p 1 176) (more (symbol (p 1 177) (codes "send")) (more (list (p 1 182) (more (symbol (p 1 183) (codes "cat")) (more (symbol (p 1 187) (codes "a")) (more (symbol (p 1 189) (codes "n")) none)))) none))) none)))) none))))) none)))))) (more (list (p 2 1) (more (symbol (p 2 2) (codes "defskeleton")) (more (symbol (p 2 14) (codes "p")) (more (list (p 2 16) (more (symbol (p 2 17) (codes "vars")) (more (list (p 2 22) (more (symbol (p 2 23) (codes "a")) (more (symbol (p 2 25) (codes "b")) (more (symbol (p 2 27) (codes "name")) none)))) (more (list (p 2 33) (more (symbol (p 2 34) (codes "n")) (more (symbol (p 2 36) (codes "m")) (more (symbol (p 2 38) (codes "text")) none)))) (more (list (p 2 44) (more (symbol (p 2 45) (codes "k")) (more (symbol (p 2 47) (codes "skey")) none))) (more (list (p 2 53) (more (symbol (p 2 54) (codes "e")) (more (symbol (p 2 56) (codes "akey")) none))) (more (list (p 2 62) (more (symbol (p 2 63) (codes "d")) (more (symbol (p 2 65) (codes "data")) none))) none))))))) (more (list (p 2 72) (more (symbol (p 2 73) (codes "deflistener")) (more (list (p 2 85) (more (symbol (p 2 86) (codes "enc")) (more (symbol (p 2 90) (codes "n")) (more (list (p 2 92) (more (symbol (p 2 93) (codes "ltk")) (more (symbol (p 2 97) (codes "a")) (more (symbol (p 2 99) (codes "b")) none)))) (more (symbol (p 2 102) (codes "n")) none))))) none))) none))))) none))) ≡ Some (record { place = p 2 102; code = KeySort })
key_problem = refl

-- (defprotocol p basic (defrole r (vars (a b name) (n text) (k skey) (e akey) (d data)) (trace (send (enc a b n)))))
key_text : first (faults_of (more (list (p 1 1) (more (symbol (p 1 2) (codes "defprotocol")) (more (symbol (p 1 14) (codes "p")) (more (symbol (p 1 16) (codes "basic")) (more (list (p 1 22) (more (symbol (p 1 23) (codes "defrole")) (more (symbol (p 1 31) (codes "r")) (more (list (p 1 33) (more (symbol (p 1 34) (codes "vars")) (more (list (p 1 39) (more (symbol (p 1 40) (codes "a")) (more (symbol (p 1 42) (codes "b")) (more (symbol (p 1 44) (codes "name")) none)))) (more (list (p 1 50) (more (symbol (p 1 51) (codes "n")) (more (symbol (p 1 53) (codes "text")) none))) (more (list (p 1 59) (more (symbol (p 1 60) (codes "k")) (more (symbol (p 1 62) (codes "skey")) none))) (more (list (p 1 68) (more (symbol (p 1 69) (codes "e")) (more (symbol (p 1 71) (codes "akey")) none))) (more (list (p 1 77) (more (symbol (p 1 78) (codes "d")) (more (symbol (p 1 80) (codes "data")) none))) none))))))) (more (list (p 1 87) (more (symbol (p 1 88) (codes "trace")) (more (list (p 1 94) (more (symbol (p 1 95) (codes "send")) (more (list (p 1 100) (more (symbol (p 1 101) (codes "enc")) (more (symbol (p 1 105) (codes "a")) (more (symbol (p 1 107) (codes "b")) (more (symbol (p 1 109) (codes "n")) none))))) none))) none))) none))))) none))))) none)) ≡ Some (record { place = p 1 109; code = KeySort })
key_text = refl

-- (defprotocol p basic (defrole r (vars (a name) (a a mesg)) (trace (recv a))))
mesg_before_duplicate : first (faults_of (more (list (p 1 1) (more (symbol (p 1 2) (codes "defprotocol")) (more (symbol (p 1 14) (codes "p")) (more (symbol (p 1 16) (codes "basic")) (more (list (p 1 22) (more (symbol (p 1 23) (codes "defrole")) (more (symbol (p 1 31) (codes "r")) (more (list (p 1 33) (more (symbol (p 1 34) (codes "vars")) (more (list (p 1 39) (more (symbol (p 1 40) (codes "a")) (more (symbol (p 1 42) (codes "name")) none))) (more (list (p 1 48) (more (symbol (p 1 49) (codes "a")) (more (symbol (p 1 51) (codes "a")) (more (symbol (p 1 53) (codes "mesg")) none)))) none)))) (more (list (p 1 60) (more (symbol (p 1 61) (codes "trace")) (more (list (p 1 67) (more (symbol (p 1 68) (codes "recv")) (more (symbol (p 1 73) (codes "a")) none))) none))) none))))) none))))) none)) ≡ Some (record { place = p 1 49; code = MesgVar })
mesg_before_duplicate = refl

-- (defprotocol p basic (defrole r (vars (a name) (x y mesg)) (trace (recv x))))
mesg_second_decl : first (faults_of (more (list (p 1 1) (more (symbol (p 1 2) (codes "defprotocol")) (more (symbol (p 1 14) (codes "p")) (more (symbol (p 1 16) (codes "basic")) (more (list (p 1 22) (more (symbol (p 1 23) (codes "defrole")) (more (symbol (p 1 31) (codes "r")) (more (list (p 1 33) (more (symbol (p 1 34) (codes "vars")) (more (list (p 1 39) (more (symbol (p 1 40) (codes "a")) (more (symbol (p 1 42) (codes "name")) none))) (more (list (p 1 48) (more (symbol (p 1 49) (codes "x")) (more (symbol (p 1 51) (codes "y")) (more (symbol (p 1 53) (codes "mesg")) none)))) none)))) (more (list (p 1 60) (more (symbol (p 1 61) (codes "trace")) (more (list (p 1 67) (more (symbol (p 1 68) (codes "recv")) (more (symbol (p 1 73) (codes "x")) none))) none))) none))))) none))))) none)) ≡ Some (record { place = p 1 49; code = MesgVar })
mesg_second_decl = refl

--
n_empty : first (faults_of none) ≡ None
n_empty = refl

-- (defprotocol p basic (defrole r (vars (a b name) (n text) (k skey)) (trace (send (enc n a k)) (recv (enc n b (ltk a b))))) (defrole s (vars (a name) (n text)) (trace (recv n) (send (cat a n)))))
-- (defskeleton p (vars (a b name) (n m text) (k skey) (e akey) (d data)) (defstrand r 1 (k (ltk a b))) (uniq-orig))
n_mapped_to_ltk : first (faults_of (more (list (p 1 1) (more (symbol (p 1 2) (codes "defprotocol")) (more (symbol (p 1 14) (codes "p")) (more (symbol (p 1 16) (codes "basic")) (more (list (p 1 22) (more (symbol (p 1 23) (codes "defrole")) (more (symbol (p 1 31) (codes "r")) (more (list (p 1 33) (more (symbol (p 1 34) (codes "vars")) (more (list (p 1 39) (more (symbol (p 1 40) (codes "a")) (more (symbol (p 1 42) (codes "b")) (more (symbol (p 1 44) (codes "name")) none)))) (more (list (p 1 50) (more (symbol (p 1 51) (codes "n")) (more (symbol (p 1 53) (codes "text")) none))) (more (list (p 1 59) (more (symbol (p 1 60) (codes "k")) (more (symbol (p 1 62) (codes "skey")) none))) none))))) (more (list (p 1 69) (more (symbol (p 1 70) (codes "trace")) (more (list (p 1 76) (more (symbol (p 1 77) (codes "send")) (more (list (p 1 82) (more (symbol (p 1 83) (codes "enc")) (more (symbol (p 1 87) (codes "n")) (more (symbol (p 1 89) (codes "a")) (more (symbol (p 1 91) (codes "k")) none))))) none))) (more (list (p 1 95) (more (symbol (p 1 96) (codes "recv")) (more (list (p 1 101) (more (symbol (p 1 102) (codes "enc")) (more (symbol (p 1 106) (codes "n")) (more (symbol (p 1 108) (codes "b")) (more (list (p 1 110) (more (symbol (p 1 111) (codes "ltk")) (more (symbol (p 1 115) (codes "a")) (more (symbol (p 1 117) (codes "b")) none)))) none))))) none))) none)))) none))))) (more (list (p 1 124) (more (symbol (p 1 125) (codes "defrole")) (more (symbol (p 1 133) (codes "s")) (more (list (p 1 135) (more (symbol (p 1 136) (codes "vars")) (more (list (p 1 141) (more (symbol (p 1 142) (codes "a")) (more (symbol (p 1 144) (codes "name")) none))) (more (list (p 1 150) (more (symbol (p 1 151) (codes "n")) (more (symbol (p 1 153) (codes "text")) none))) none)))) (more (list (p 1 160) (more (symbol (p 1 161) (codes "trace")) (more (list (p 1 167) (more (symbol (p 1 168) (codes "recv")) (more (symbol (p 1 173) (codes "n")) none))) (more (list (p 1 176) (more (symbol (p 1 177) (codes "send")) (more (list (p 1 182) (more (symbol (p 1 183) (codes "cat")) (more (symbol (p 1 187) (codes "a")) (more (symbol (p 1 189) (codes "n")) none)))) none))) none)))) none))))) none)))))) (more (list (p 2 1) (more (symbol (p 2 2) (codes "defskeleton")) (more (symbol (p 2 14) (codes "p")) (more (list (p 2 16) (more (symbol (p 2 17) (codes "vars")) (more (list (p 2 22) (more (symbol (p 2 23) (codes "a")) (more (symbol (p 2 25) (codes "b")) (more (symbol (p 2 27) (codes "name")) none)))) (more (list (p 2 33) (more (symbol (p 2 34) (codes "n")) (more (symbol (p 2 36) (codes "m")) (more (symbol (p 2 38) (codes "text")) none)))) (more (list (p 2 44) (more (symbol (p 2 45) (codes "k")) (more (symbol (p 2 47) (codes "skey")) none))) (more (list (p 2 53) (more (symbol (p 2 54) (codes "e")) (more (symbol (p 2 56) (codes "akey")) none))) (more (list (p 2 62) (more (symbol (p 2 63) (codes "d")) (more (symbol (p 2 65) (codes "data")) none))) none))))))) (more (list (p 2 72) (more (symbol (p 2 73) (codes "defstrand")) (more (symbol (p 2 83) (codes "r")) (more (number (p 2 85) 1) (more (list (p 2 87) (more (symbol (p 2 88) (codes "k")) (more (list (p 2 90) (more (symbol (p 2 91) (codes "ltk")) (more (symbol (p 2 95) (codes "a")) (more (symbol (p 2 97) (codes "b")) none)))) none))) none))))) (more (list (p 2 102) (more (symbol (p 2 103) (codes "uniq-orig")) none)) none)))))) none))) ≡ None
n_mapped_to_ltk = refl

-- (defprotocol p basic (comment (anything 1 "x")))
n_no_roles_comment : first (faults_of (more (list (p 1 1) (more (symbol (p 1 2) (codes "defprotocol")) (more (symbol (p 1 14) (codes "p")) (more (symbol (p 1 16) (codes "basic")) (more (list (p 1 22) (more (symbol (p 1 23) (codes "comment")) (more (list (p 1 31) (more (symbol (p 1 32) (codes "anything")) (more (number (p 1 41) 1) (more (string (p 1 43) (codes "x")) none)))) none))) none))))) none)) ≡ None
n_no_roles_comment = refl

-- (herald 999999999 000000000 000000001 0)
n_number_nine : first (faults_of (more (list (p 1 1) (more (symbol (p 1 2) (codes "herald")) (more (number (p 1 9) 999999999) (more (number (p 1 19) 0) (more (number (p 1 29) 1) (more (number (p 1 39) 0) none)))))) none)) ≡ None
n_number_nine = refl

-- (defprotocol p basic (defrole r (vars) (trace (send "a")))) (defprotocol q basic (defrole r (vars) (trace (send "a"))))
n_same_role_two_protocols : first (faults_of (more (list (p 1 1) (more (symbol (p 1 2) (codes "defprotocol")) (more (symbol (p 1 14) (codes "p")) (more (symbol (p 1 16) (codes "basic")) (more (list (p 1 22) (more (symbol (p 1 23) (codes "defrole")) (more (symbol (p 1 31) (codes "r")) (more (list (p 1 33) (more (symbol (p 1 34) (codes "vars")) none)) (more (list (p 1 40) (more (symbol (p 1 41) (codes "trace")) (more (list (p 1 47) (more (symbol (p 1 48) (codes "send")) (more (string (p 1 53) (codes "a")) none))) none))) none))))) none))))) (more (list (p 1 61) (more (symbol (p 1 62) (codes "defprotocol")) (more (symbol (p 1 74) (codes "q")) (more (symbol (p 1 76) (codes "basic")) (more (list (p 1 82) (more (symbol (p 1 83) (codes "defrole")) (more (symbol (p 1 91) (codes "r")) (more (list (p 1 93) (more (symbol (p 1 94) (codes "vars")) none)) (more (list (p 1 100) (more (symbol (p 1 101) (codes "trace")) (more (list (p 1 107) (more (symbol (p 1 108) (codes "send")) (more (string (p 1 113) (codes "a")) none))) none))) none))))) none))))) none))) ≡ None
n_same_role_two_protocols = refl

-- (herald a"b"c"d";e
-- )
n_string_touches : first (faults_of (more (list (p 1 1) (more (symbol (p 1 2) (codes "herald")) (more (symbol (p 1 9) (codes "a")) (more (string (p 1 10) (codes "b")) (more (symbol (p 1 13) (codes "c")) (more (string (p 1 14) (codes "d")) none)))))) none)) ≡ None
n_string_touches = refl

-- (herald ~!#$%&*+,-./:<=>?@[]^_`{|} \ -1 +2 .5 a1 a\b)
n_token_edges : first (faults_of (more (list (p 1 1) (more (symbol (p 1 2) (codes "herald")) (more (symbol (p 1 9) (codes "~!#$%&*+,-./:<=>?@[]^_`{|}")) (more (symbol (p 1 36) (92 ∷ [])) (more (symbol (p 1 38) (codes "-1")) (more (symbol (p 1 41) (codes "+2")) (more (symbol (p 1 44) (codes ".5")) (more (symbol (p 1 47) (codes "a1")) (more (symbol (p 1 50) (97 ∷ 92 ∷ 98 ∷ [])) none))))))))) none)) ≡ None
n_token_edges = refl

-- (defprotocol p basic (defrole r (vars (a b name)) (trace (send (ltk a b)))))
-- (defskeleton p (vars (a b name)) (defstrand r 1 (a a) (b b)) (uniq-orig (ltk a b)))
n_uniq_ltk_carried : first (faults_of (more (list (p 1 1) (more (symbol (p 1 2) (codes "defprotocol")) (more (symbol (p 1 14) (codes "p")) (more (symbol (p 1 16) (codes "basic")) (more (list (p 1 22) (more (symbol (p 1 23) (codes "defrole")) (more (symbol (p 1 31) (codes "r")) (more (list (p 1 33) (more (symbol (p 1 34) (codes "vars")) (more (list (p 1 39) (more (symbol (p 1 40) (codes "a")) (more (symbol (p 1 42) (codes "b")) (more (symbol (p 1 44) (codes "name")) none)))) none))) (more (list (p 1 51) (more (symbol (p 1 52) (codes "trace")) (more (list (p 1 58) (more (symbol (p 1 59) (codes "send")) (more (list (p 1 64) (more (symbol (p 1 65) (codes "ltk")) (more (symbol (p 1 69) (codes "a")) (more (symbol (p 1 71) (codes "b")) none)))) none))) none))) none))))) none))))) (more (list (p 2 1) (more (symbol (p 2 2) (codes "defskeleton")) (more (symbol (p 2 14) (codes "p")) (more (list (p 2 16) (more (symbol (p 2 17) (codes "vars")) (more (list (p 2 22) (more (symbol (p 2 23) (codes "a")) (more (symbol (p 2 25) (codes "b")) (more (symbol (p 2 27) (codes "name")) none)))) none))) (more (list (p 2 34) (more (symbol (p 2 35) (codes "defstrand")) (more (symbol (p 2 45) (codes "r")) (more (number (p 2 47) 1) (more (list (p 2 49) (more (symbol (p 2 50) (codes "a")) (more (symbol (p 2 52) (codes "a")) none))) (more (list (p 2 55) (more (symbol (p 2 56) (codes "b")) (more (symbol (p 2 58) (codes "b")) none))) none)))))) (more (list (p 2 62) (more (symbol (p 2 63) (codes "uniq-orig")) (more (list (p 2 73) (more (symbol (p 2 74) (codes "ltk")) (more (symbol (p 2 78) (codes "a")) (more (symbol (p 2 80) (codes "b")) none)))) none))) none)))))) none))) ≡ None
n_uniq_ltk_carried = refl

-- (defprotocol p basic (defrole r (vars (a b c name) (k akey)) (trace (send a))))
-- (defskeleton p (vars (x y text)) (defstrand r 1))
n_unused_vars : first (faults_of (more (list (p 1 1) (more (symbol (p 1 2) (codes "defprotocol")) (more (symbol (p 1 14) (codes "p")) (more (symbol (p 1 16) (codes "basic")) (more (list (p 1 22) (more (symbol (p 1 23) (codes "defrole")) (more (symbol (p 1 31) (codes "r")) (more (list (p 1 33) (more (symbol (p 1 34) (codes "vars")) (more (list (p 1 39) (more (symbol (p 1 40) (codes "a")) (more (symbol (p 1 42) (codes "b")) (more (symbol (p 1 44) (codes "c")) (more (symbol (p 1 46) (codes "name")) none))))) (more (list (p 1 52) (more (symbol (p 1 53) (codes "k")) (more (symbol (p 1 55) (codes "akey")) none))) none)))) (more (list (p 1 62) (more (symbol (p 1 63) (codes "trace")) (more (list (p 1 69) (more (symbol (p 1 70) (codes "send")) (more (symbol (p 1 75) (codes "a")) none))) none))) none))))) none))))) (more (list (p 2 1) (more (symbol (p 2 2) (codes "defskeleton")) (more (symbol (p 2 14) (codes "p")) (more (list (p 2 16) (more (symbol (p 2 17) (codes "vars")) (more (list (p 2 22) (more (symbol (p 2 23) (codes "x")) (more (symbol (p 2 25) (codes "y")) (more (symbol (p 2 27) (codes "text")) none)))) none))) (more (list (p 2 34) (more (symbol (p 2 35) (codes "defstrand")) (more (symbol (p 2 45) (codes "r")) (more (number (p 2 47) 1) none)))) none))))) none))) ≡ None
n_unused_vars = refl

-- (defprotocol p basic (defrole r (vars) (trace (send "a"))))
n_vars_empty : first (faults_of (more (list (p 1 1) (more (symbol (p 1 2) (codes "defprotocol")) (more (symbol (p 1 14) (codes "p")) (more (symbol (p 1 16) (codes "basic")) (more (list (p 1 22) (more (symbol (p 1 23) (codes "defrole")) (more (symbol (p 1 31) (codes "r")) (more (list (p 1 33) (more (symbol (p 1 34) (codes "vars")) none)) (more (list (p 1 40) (more (symbol (p 1 41) (codes "trace")) (more (list (p 1 47) (more (symbol (p 1 48) (codes "send")) (more (string (p 1 53) (codes "a")) none))) none))) none))))) none))))) none)) ≡ None
n_vars_empty = refl

--  ..
n_white_space : first (faults_of none) ≡ None
n_white_space = refl

-- (defprotocol p "basic")
o_algebra_string : first (faults_of (more (list (p 1 1) (more (symbol (p 1 2) (codes "defprotocol")) (more (symbol (p 1 14) (codes "p")) (more (string (p 1 16) (codes "basic")) none)))) none)) ≡ Some (record { place = p 1 16; code = BadShape })
o_algebra_string = refl

-- (defprotocol p basic (defrole r (vars (a b name) (n text) (k skey) (e akey) (d data)) (trace (send (pubk (cat z a))))))
o_arg_pair_unknown : first (faults_of (more (list (p 1 1) (more (symbol (p 1 2) (codes "defprotocol")) (more (symbol (p 1 14) (codes "p")) (more (symbol (p 1 16) (codes "basic")) (more (list (p 1 22) (more (symbol (p 1 23) (codes "defrole")) (more (symbol (p 1 31) (codes "r")) (more (list (p 1 33) (more (symbol (p 1 34) (codes "vars")) (more (list (p 1 39) (more (symbol (p 1 40) (codes "a")) (more (symbol (p 1 42) (codes "b")) (more (symbol (p 1 44) (codes "name")) none)))) (more (list (p 1 50) (more (symbol (p 1 51) (codes "n")) (more (symbol (p 1 53) (codes "text")) none))) (more (list (p 1 59) (more (symbol (p 1 60) (codes "k")) (more (symbol (p 1 62) (codes "skey")) none))) (more (list (p 1 68) (more (symbol (p 1 69) (codes "e")) (more (symbol (p 1 71) (codes "akey")) none))) (more (list (p 1 77) (more (symbol (p 1 78) (codes "d")) (more (symbol (p 1 80) (codes "data")) none))) none))))))) (more (list (p 1 87) (more (symbol (p 1 88) (codes "trace")) (more (list (p 1 94) (more (symbol (p 1 95) (codes "send")) (more (list (p 1 100) (more (symbol (p 1 101) (codes "pubk")) (more (list (p 1 106) (more (symbol (p 1 107) (codes "cat")) (more (symbol (p 1 111) (codes "z")) (more (symbol (p 1 113) (codes "a")) none)))) none))) none))) none))) none))))) none))))) none)) ≡ Some (record { place = p 1 106; code = IllSorted })
o_arg_pair_unknown = refl

-- (defprotocol p basic (defrole r (vars (a b name) (n text) (k skey)) (trace (send (enc n a k)) (recv (enc n b (ltk a b))))) (defrole s (vars (a name) (n text)) (trace (recv n) (send (cat a n)))))
-- (defskeleton p (comment) (vars) (defstrand r 1))
o_comment_before_vars : first (faults_of (more (list (p 1 1) (more (symbol (p 1 2) (codes "defprotocol")) (more (symbol (p 1 14) (codes "p")) (more (symbol (p 1 16) (codes "basic")) (more (list (p 1 22) (more (symbol (p 1 23) (codes "defrole")) (more (symbol (p 1 31) (codes "r")) (more (list (p 1 33) (more (symbol (p 1 34) (codes "vars")) (more (list (p 1 39) (more (symbol (p 1 40) (codes "a")) (more (symbol (p 1 42) (codes "b")) (more (symbol (p 1 44) (codes "name")) none)))) (more (list (p 1 50) (more (symbol (p 1 51) (codes "n")) (more (symbol (p 1 53) (codes "text")) none))) (more (list (p 1 59) (more (symbol (p 1 60) (codes "k")) (more (symbol (p 1 62) (codes "skey")) none))) none))))) (more (list (p 1 69) (more (symbol (p 1 70) (codes "trace")) (more (list (p 1 76) (more (symbol (p 1 77) (codes "send")) (more (list (p 1 82) (more (symbol (p 1 83) (codes "enc")) (more (symbol (p 1 87) (codes "n")) (more (symbol (p 1 89) (codes "a")) (more (symbol (p 1 91) (codes "k")) none))))) none))) (more (list (p 1 95) (more (symbol (p 1 96) (codes "recv")) (more (list (p 1 101) (more (symbol (p 1 102) (codes "enc")) (more (symbol (p 1 106) (codes "n")) (more (symbol (p 1 108) (codes "b")) (more (list (p 1 110) (more (symbol (p 1 111) (codes "ltk")) (more (symbol (p 1 115) (codes "a")) (more (symbol (p 1 117) (codes "b")) none)))) none))))) none))) none)))) none))))) (more (list (p 1 124) (more (symbol (p 1 125) (codes "defrole")) (more (symbol (p 1 133) (codes "s")) (more (list (p 1 135) (more (symbol (p 1 136) (codes "vars")) (more (list (p 1 141) (more (symbol (p 1 142) (codes "a")) (more (symbol (p 1 144) (codes "name")) none))) (more (list (p 1 150) (more (symbol (p 1 151) (codes "n")) (more (symbol (p 1 153) (codes "text")) none))) none)))) (more (list (p 1 160) (more (symbol (p 1 161) (codes "trace")) (more (list (p 1 167) (more (symbol (p 1 168) (codes "recv")) (more (symbol (p 1 173) (codes "n")) none))) (more (list (p 1 176) (more (symbol (p 1 177) (codes "send")) (more (list (p 1 182) (more (symbol (p 1 183) (codes "cat")) (more (symbol (p 1 187) (codes "a")) (more (symbol (p 1 189) (codes "n")) none)))) none))) none)))) none))))) none)))))) (more (list (p 2 1) (more (symbol (p 2 2) (codes "defskeleton")) (more (symbol (p 2 14) (codes "p")) (more (list (p 2 16) (more (symbol (p 2 17) (codes "comment")) none)) (more (list (p 2 26) (more (symbol (p 2 27) (codes "vars")) none)) (more (list (p 2 33) (more (symbol (p 2 34) (codes "defstrand")) (more (symbol (p 2 44) (codes "r")) (more (number (p 2 46) 1) none)))) none)))))) none))) ≡ Some (record { place = p 2 16; code = BadShape })
o_comment_before_vars = refl

-- (defprotocol p basic (defrole r (vars (a b name) (n text) (k skey)) (trace (send (enc n a k)) (recv (enc n b (ltk a b))))) (defrole s (vars (a name) (n text)) (trace (recv n) (send (cat a n)))))
-- (defrule x)
o_defrule_top : first (faults_of (more (list (p 1 1) (more (symbol (p 1 2) (codes "defprotocol")) (more (symbol (p 1 14) (codes "p")) (more (symbol (p 1 16) (codes "basic")) (more (list (p 1 22) (more (symbol (p 1 23) (codes "defrole")) (more (symbol (p 1 31) (codes "r")) (more (list (p 1 33) (more (symbol (p 1 34) (codes "vars")) (more (list (p 1 39) (more (symbol (p 1 40) (codes "a")) (more (symbol (p 1 42) (codes "b")) (more (symbol (p 1 44) (codes "name")) none)))) (more (list (p 1 50) (more (symbol (p 1 51) (codes "n")) (more (symbol (p 1 53) (codes "text")) none))) (more (list (p 1 59) (more (symbol (p 1 60) (codes "k")) (more (symbol (p 1 62) (codes "skey")) none))) none))))) (more (list (p 1 69) (more (symbol (p 1 70) (codes "trace")) (more (list (p 1 76) (more (symbol (p 1 77) (codes "send")) (more (list (p 1 82) (more (symbol (p 1 83) (codes "enc")) (more (symbol (p 1 87) (codes "n")) (more (symbol (p 1 89) (codes "a")) (more (symbol (p 1 91) (codes "k")) none))))) none))) (more (list (p 1 95) (more (symbol (p 1 96) (codes "recv")) (more (list (p 1 101) (more (symbol (p 1 102) (codes "enc")) (more (symbol (p 1 106) (codes "n")) (more (symbol (p 1 108) (codes "b")) (more (list (p 1 110) (more (symbol (p 1 111) (codes "ltk")) (more (symbol (p 1 115) (codes "a")) (more (symbol (p 1 117) (codes "b")) none)))) none))))) none))) none)))) none))))) (more (list (p 1 124) (more (symbol (p 1 125) (codes "defrole")) (more (symbol (p 1 133) (codes "s")) (more (list (p 1 135) (more (symbol (p 1 136) (codes "vars")) (more (list (p 1 141) (more (symbol (p 1 142) (codes "a")) (more (symbol (p 1 144) (codes "name")) none))) (more (list (p 1 150) (more (symbol (p 1 151) (codes "n")) (more (symbol (p 1 153) (codes "text")) none))) none)))) (more (list (p 1 160) (more (symbol (p 1 161) (codes "trace")) (more (list (p 1 167) (more (symbol (p 1 168) (codes "recv")) (more (symbol (p 1 173) (codes "n")) none))) (more (list (p 1 176) (more (symbol (p 1 177) (codes "send")) (more (list (p 1 182) (more (symbol (p 1 183) (codes "cat")) (more (symbol (p 1 187) (codes "a")) (more (symbol (p 1 189) (codes "n")) none)))) none))) none)))) none))))) none)))))) (more (list (p 2 1) (more (symbol (p 2 2) (codes "defrule")) (more (symbol (p 2 10) (codes "x")) none))) none))) ≡ Some (record { place = p 2 1; code = OutOfProfile })
o_defrule_top = refl

-- ((herald) x)
o_head_not_symbol : first (faults_of (more (list (p 1 1) (more (list (p 1 2) (more (symbol (p 1 3) (codes "herald")) none)) (more (symbol (p 1 11) (codes "x")) none))) none)) ≡ Some (record { place = p 1 1; code = BadShape })
o_head_not_symbol = refl

-- (defprotocol p basic (defrole r (vars (a b name) (n text) (k skey)) (trace (send (enc n a k)) (recv (enc n b (ltk a b))))) (defrole s (vars (a name) (n text)) (trace (recv n) (send (cat a n)))))
-- (defskeleton p (vars (k skey)) (non-orig k))
o_item_before_strand : first (faults_of (more (list (p 1 1) (more (symbol (p 1 2) (codes "defprotocol")) (more (symbol (p 1 14) (codes "p")) (more (symbol (p 1 16) (codes "basic")) (more (list (p 1 22) (more (symbol (p 1 23) (codes "defrole")) (more (symbol (p 1 31) (codes "r")) (more (list (p 1 33) (more (symbol (p 1 34) (codes "vars")) (more (list (p 1 39) (more (symbol (p 1 40) (codes "a")) (more (symbol (p 1 42) (codes "b")) (more (symbol (p 1 44) (codes "name")) none)))) (more (list (p 1 50) (more (symbol (p 1 51) (codes "n")) (more (symbol (p 1 53) (codes "text")) none))) (more (list (p 1 59) (more (symbol (p 1 60) (codes "k")) (more (symbol (p 1 62) (codes "skey")) none))) none))))) (more (list (p 1 69) (more (symbol (p 1 70) (codes "trace")) (more (list (p 1 76) (more (symbol (p 1 77) (codes "send")) (more (list (p 1 82) (more (symbol (p 1 83) (codes "enc")) (more (symbol (p 1 87) (codes "n")) (more (symbol (p 1 89) (codes "a")) (more (symbol (p 1 91) (codes "k")) none))))) none))) (more (list (p 1 95) (more (symbol (p 1 96) (codes "recv")) (more (list (p 1 101) (more (symbol (p 1 102) (codes "enc")) (more (symbol (p 1 106) (codes "n")) (more (symbol (p 1 108) (codes "b")) (more (list (p 1 110) (more (symbol (p 1 111) (codes "ltk")) (more (symbol (p 1 115) (codes "a")) (more (symbol (p 1 117) (codes "b")) none)))) none))))) none))) none)))) none))))) (more (list (p 1 124) (more (symbol (p 1 125) (codes "defrole")) (more (symbol (p 1 133) (codes "s")) (more (list (p 1 135) (more (symbol (p 1 136) (codes "vars")) (more (list (p 1 141) (more (symbol (p 1 142) (codes "a")) (more (symbol (p 1 144) (codes "name")) none))) (more (list (p 1 150) (more (symbol (p 1 151) (codes "n")) (more (symbol (p 1 153) (codes "text")) none))) none)))) (more (list (p 1 160) (more (symbol (p 1 161) (codes "trace")) (more (list (p 1 167) (more (symbol (p 1 168) (codes "recv")) (more (symbol (p 1 173) (codes "n")) none))) (more (list (p 1 176) (more (symbol (p 1 177) (codes "send")) (more (list (p 1 182) (more (symbol (p 1 183) (codes "cat")) (more (symbol (p 1 187) (codes "a")) (more (symbol (p 1 189) (codes "n")) none)))) none))) none)))) none))))) none)))))) (more (list (p 2 1) (more (symbol (p 2 2) (codes "defskeleton")) (more (symbol (p 2 14) (codes "p")) (more (list (p 2 16) (more (symbol (p 2 17) (codes "vars")) (more (list (p 2 22) (more (symbol (p 2 23) (codes "k")) (more (symbol (p 2 25) (codes "skey")) none))) none))) (more (list (p 2 32) (more (symbol (p 2 33) (codes "non-orig")) (more (symbol (p 2 42) (codes "k")) none))) none))))) none))) ≡ Some (record { place = p 2 1; code = BadShape })
o_item_before_strand = refl

-- (defprotocol p basic (defrole r (vars (a b name) (n text) (k skey) (e akey) (d data)) (trace (send (enc n (cat z k))))))
o_key_pair_unknown : first (faults_of (more (list (p 1 1) (more (symbol (p 1 2) (codes "defprotocol")) (more (symbol (p 1 14) (codes "p")) (more (symbol (p 1 16) (codes "basic")) (more (list (p 1 22) (more (symbol (p 1 23) (codes "defrole")) (more (symbol (p 1 31) (codes "r")) (more (list (p 1 33) (more (symbol (p 1 34) (codes "vars")) (more (list (p 1 39) (more (symbol (p 1 40) (codes "a")) (more (symbol (p 1 42) (codes "b")) (more (symbol (p 1 44) (codes "name")) none)))) (more (list (p 1 50) (more (symbol (p 1 51) (codes "n")) (more (symbol (p 1 53) (codes "text")) none))) (more (list (p 1 59) (more (symbol (p 1 60) (codes "k")) (more (symbol (p 1 62) (codes "skey")) none))) (more (list (p 1 68) (more (symbol (p 1 69) (codes "e")) (more (symbol (p 1 71) (codes "akey")) none))) (more (list (p 1 77) (more (symbol (p 1 78) (codes "d")) (more (symbol (p 1 80) (codes "data")) none))) none))))))) (more (list (p 1 87) (more (symbol (p 1 88) (codes "trace")) (more (list (p 1 94) (more (symbol (p 1 95) (codes "send")) (more (list (p 1 100) (more (symbol (p 1 101) (codes "enc")) (more (symbol (p 1 105) (codes "n")) (more (list (p 1 107) (more (symbol (p 1 108) (codes "cat")) (more (symbol (p 1 112) (codes "z")) (more (symbol (p 1 114) (codes "k")) none)))) none)))) none))) none))) none))))) none))))) none)) ≡ Some (record { place = p 1 107; code = KeySort })
o_key_pair_unknown = refl

-- (defprotocol p basic (defrole r (vars (a b name) (n text) (k skey)) (trace (send (enc n a k)) (recv (enc n b (ltk a b))))) (defrole s (vars (a name) (n text)) (trace (recv n) (send (cat a n)))))
-- (defskeleton p (vars (a b name) (n m text) (k skey) (e akey) (d data)) (defstrand r 1 (n (enc z k))))
o_maplet_enc_unknown : first (faults_of (more (list (p 1 1) (more (symbol (p 1 2) (codes "defprotocol")) (more (symbol (p 1 14) (codes "p")) (more (symbol (p 1 16) (codes "basic")) (more (list (p 1 22) (more (symbol (p 1 23) (codes "defrole")) (more (symbol (p 1 31) (codes "r")) (more (list (p 1 33) (more (symbol (p 1 34) (codes "vars")) (more (list (p 1 39) (more (symbol (p 1 40) (codes "a")) (more (symbol (p 1 42) (codes "b")) (more (symbol (p 1 44) (codes "name")) none)))) (more (list (p 1 50) (more (symbol (p 1 51) (codes "n")) (more (symbol (p 1 53) (codes "text")) none))) (more (list (p 1 59) (more (symbol (p 1 60) (codes "k")) (more (symbol (p 1 62) (codes "skey")) none))) none))))) (more (list (p 1 69) (more (symbol (p 1 70) (codes "trace")) (more (list (p 1 76) (more (symbol (p 1 77) (codes "send")) (more (list (p 1 82) (more (symbol (p 1 83) (codes "enc")) (more (symbol (p 1 87) (codes "n")) (more (symbol (p 1 89) (codes "a")) (more (symbol (p 1 91) (codes "k")) none))))) none))) (more (list (p 1 95) (more (symbol (p 1 96) (codes "recv")) (more (list (p 1 101) (more (symbol (p 1 102) (codes "enc")) (more (symbol (p 1 106) (codes "n")) (more (symbol (p 1 108) (codes "b")) (more (list (p 1 110) (more (symbol (p 1 111) (codes "ltk")) (more (symbol (p 1 115) (codes "a")) (more (symbol (p 1 117) (codes "b")) none)))) none))))) none))) none)))) none))))) (more (list (p 1 124) (more (symbol (p 1 125) (codes "defrole")) (more (symbol (p 1 133) (codes "s")) (more (list (p 1 135) (more (symbol (p 1 136) (codes "vars")) (more (list (p 1 141) (more (symbol (p 1 142) (codes "a")) (more (symbol (p 1 144) (codes "name")) none))) (more (list (p 1 150) (more (symbol (p 1 151) (codes "n")) (more (symbol (p 1 153) (codes "text")) none))) none)))) (more (list (p 1 160) (more (symbol (p 1 161) (codes "trace")) (more (list (p 1 167) (more (symbol (p 1 168) (codes "recv")) (more (symbol (p 1 173) (codes "n")) none))) (more (list (p 1 176) (more (symbol (p 1 177) (codes "send")) (more (list (p 1 182) (more (symbol (p 1 183) (codes "cat")) (more (symbol (p 1 187) (codes "a")) (more (symbol (p 1 189) (codes "n")) none)))) none))) none)))) none))))) none)))))) (more (list (p 2 1) (more (symbol (p 2 2) (codes "defskeleton")) (more (symbol (p 2 14) (codes "p")) (more (list (p 2 16) (more (symbol (p 2 17) (codes "vars")) (more (list (p 2 22) (more (symbol (p 2 23) (codes "a")) (more (symbol (p 2 25) (codes "b")) (more (symbol (p 2 27) (codes "name")) none)))) (more (list (p 2 33) (more (symbol (p 2 34) (codes "n")) (more (symbol (p 2 36) (codes "m")) (more (symbol (p 2 38) (codes "text")) none)))) (more (list (p 2 44) (more (symbol (p 2 45) (codes "k")) (more (symbol (p 2 47) (codes "skey")) none))) (more (list (p 2 53) (more (symbol (p 2 54) (codes "e")) (more (symbol (p 2 56) (codes "akey")) none))) (more (list (p 2 62) (more (symbol (p 2 63) (codes "d")) (more (symbol (p 2 65) (codes "data")) none))) none))))))) (more (list (p 2 72) (more (symbol (p 2 73) (codes "defstrand")) (more (symbol (p 2 83) (codes "r")) (more (number (p 2 85) 1) (more (list (p 2 87) (more (symbol (p 2 88) (codes "n")) (more (list (p 2 90) (more (symbol (p 2 91) (codes "enc")) (more (symbol (p 2 95) (codes "z")) (more (symbol (p 2 97) (codes "k")) none)))) none))) none))))) none))))) none))) ≡ Some (record { place = p 2 90; code = IllSorted })
o_maplet_enc_unknown = refl

-- (defprotocol p basic (defrole r (vars (a b name) (n text) (k skey)) (trace (send (enc n a k)) (recv (enc n b (ltk a b))))) (defrole s (vars (a name) (n text)) (trace (recv n) (send (cat a n)))))
-- (defskeleton p (vars (a b name) (n m text) (k skey) (e akey) (d data)) (defstrand s 2 (n n)) (uniq-orig n) (uniq-orig a))
o_problem_unique_in_dead_order : first (faults_of (more (list (p 1 1) (more (symbol (p 1 2) (codes "defprotocol")) (more (symbol (p 1 14) (codes "p")) (more (symbol (p 1 16) (codes "basic")) (more (list (p 1 22) (more (symbol (p 1 23) (codes "defrole")) (more (symbol (p 1 31) (codes "r")) (more (list (p 1 33) (more (symbol (p 1 34) (codes "vars")) (more (list (p 1 39) (more (symbol (p 1 40) (codes "a")) (more (symbol (p 1 42) (codes "b")) (more (symbol (p 1 44) (codes "name")) none)))) (more (list (p 1 50) (more (symbol (p 1 51) (codes "n")) (more (symbol (p 1 53) (codes "text")) none))) (more (list (p 1 59) (more (symbol (p 1 60) (codes "k")) (more (symbol (p 1 62) (codes "skey")) none))) none))))) (more (list (p 1 69) (more (symbol (p 1 70) (codes "trace")) (more (list (p 1 76) (more (symbol (p 1 77) (codes "send")) (more (list (p 1 82) (more (symbol (p 1 83) (codes "enc")) (more (symbol (p 1 87) (codes "n")) (more (symbol (p 1 89) (codes "a")) (more (symbol (p 1 91) (codes "k")) none))))) none))) (more (list (p 1 95) (more (symbol (p 1 96) (codes "recv")) (more (list (p 1 101) (more (symbol (p 1 102) (codes "enc")) (more (symbol (p 1 106) (codes "n")) (more (symbol (p 1 108) (codes "b")) (more (list (p 1 110) (more (symbol (p 1 111) (codes "ltk")) (more (symbol (p 1 115) (codes "a")) (more (symbol (p 1 117) (codes "b")) none)))) none))))) none))) none)))) none))))) (more (list (p 1 124) (more (symbol (p 1 125) (codes "defrole")) (more (symbol (p 1 133) (codes "s")) (more (list (p 1 135) (more (symbol (p 1 136) (codes "vars")) (more (list (p 1 141) (more (symbol (p 1 142) (codes "a")) (more (symbol (p 1 144) (codes "name")) none))) (more (list (p 1 150) (more (symbol (p 1 151) (codes "n")) (more (symbol (p 1 153) (codes "text")) none))) none)))) (more (list (p 1 160) (more (symbol (p 1 161) (codes "trace")) (more (list (p 1 167) (more (symbol (p 1 168) (codes "recv")) (more (symbol (p 1 173) (codes "n")) none))) (more (list (p 1 176) (more (symbol (p 1 177) (codes "send")) (more (list (p 1 182) (more (symbol (p 1 183) (codes "cat")) (more (symbol (p 1 187) (codes "a")) (more (symbol (p 1 189) (codes "n")) none)))) none))) none)))) none))))) none)))))) (more (list (p 2 1) (more (symbol (p 2 2) (codes "defskeleton")) (more (symbol (p 2 14) (codes "p")) (more (list (p 2 16) (more (symbol (p 2 17) (codes "vars")) (more (list (p 2 22) (more (symbol (p 2 23) (codes "a")) (more (symbol (p 2 25) (codes "b")) (more (symbol (p 2 27) (codes "name")) none)))) (more (list (p 2 33) (more (symbol (p 2 34) (codes "n")) (more (symbol (p 2 36) (codes "m")) (more (symbol (p 2 38) (codes "text")) none)))) (more (list (p 2 44) (more (symbol (p 2 45) (codes "k")) (more (symbol (p 2 47) (codes "skey")) none))) (more (list (p 2 53) (more (symbol (p 2 54) (codes "e")) (more (symbol (p 2 56) (codes "akey")) none))) (more (list (p 2 62) (more (symbol (p 2 63) (codes "d")) (more (symbol (p 2 65) (codes "data")) none))) none))))))) (more (list (p 2 72) (more (symbol (p 2 73) (codes "defstrand")) (more (symbol (p 2 83) (codes "s")) (more (number (p 2 85) 2) (more (list (p 2 87) (more (symbol (p 2 88) (codes "n")) (more (symbol (p 2 90) (codes "n")) none))) none))))) (more (list (p 2 94) (more (symbol (p 2 95) (codes "uniq-orig")) (more (symbol (p 2 105) (codes "n")) none))) (more (list (p 2 108) (more (symbol (p 2 109) (codes "uniq-orig")) (more (symbol (p 2 119) (codes "a")) none))) none))))))) none))) ≡ Some (record { place = p 2 105; code = UniqNowhere })
o_problem_unique_in_dead_order = refl

-- (defprotocol p basic (defrole r (vars) (non-orig) (trace (send "a"))))
o_trace_after_item : first (faults_of (more (list (p 1 1) (more (symbol (p 1 2) (codes "defprotocol")) (more (symbol (p 1 14) (codes "p")) (more (symbol (p 1 16) (codes "basic")) (more (list (p 1 22) (more (symbol (p 1 23) (codes "defrole")) (more (symbol (p 1 31) (codes "r")) (more (list (p 1 33) (more (symbol (p 1 34) (codes "vars")) none)) (more (list (p 1 40) (more (symbol (p 1 41) (codes "non-orig")) none)) (more (list (p 1 51) (more (symbol (p 1 52) (codes "trace")) (more (list (p 1 58) (more (symbol (p 1 59) (codes "send")) (more (string (p 1 64) (codes "a")) none))) none))) none)))))) none))))) none)) ≡ Some (record { place = p 1 40; code = BadShape })
o_trace_after_item = refl

-- (defprotocol p basic (defrole r (vars (a b name) (n text) (k skey) (e akey) (d data)) (trace (tran a b))))
profile_event_tran : first (faults_of (more (list (p 1 1) (more (symbol (p 1 2) (codes "defprotocol")) (more (symbol (p 1 14) (codes "p")) (more (symbol (p 1 16) (codes "basic")) (more (list (p 1 22) (more (symbol (p 1 23) (codes "defrole")) (more (symbol (p 1 31) (codes "r")) (more (list (p 1 33) (more (symbol (p 1 34) (codes "vars")) (more (list (p 1 39) (more (symbol (p 1 40) (codes "a")) (more (symbol (p 1 42) (codes "b")) (more (symbol (p 1 44) (codes "name")) none)))) (more (list (p 1 50) (more (symbol (p 1 51) (codes "n")) (more (symbol (p 1 53) (codes "text")) none))) (more (list (p 1 59) (more (symbol (p 1 60) (codes "k")) (more (symbol (p 1 62) (codes "skey")) none))) (more (list (p 1 68) (more (symbol (p 1 69) (codes "e")) (more (symbol (p 1 71) (codes "akey")) none))) (more (list (p 1 77) (more (symbol (p 1 78) (codes "d")) (more (symbol (p 1 80) (codes "data")) none))) none))))))) (more (list (p 1 87) (more (symbol (p 1 88) (codes "trace")) (more (list (p 1 94) (more (symbol (p 1 95) (codes "tran")) (more (symbol (p 1 100) (codes "a")) (more (symbol (p 1 102) (codes "b")) none)))) none))) none))))) none))))) none)) ≡ Some (record { place = p 1 94; code = OutOfProfile })
profile_event_tran = refl

-- (defprotocol p basic (defrole r (vars (a b name) (n text) (k skey) (e akey) (d data)) (trace (send (enc n (bltk a b))))))
profile_op_bltk : first (faults_of (more (list (p 1 1) (more (symbol (p 1 2) (codes "defprotocol")) (more (symbol (p 1 14) (codes "p")) (more (symbol (p 1 16) (codes "basic")) (more (list (p 1 22) (more (symbol (p 1 23) (codes "defrole")) (more (symbol (p 1 31) (codes "r")) (more (list (p 1 33) (more (symbol (p 1 34) (codes "vars")) (more (list (p 1 39) (more (symbol (p 1 40) (codes "a")) (more (symbol (p 1 42) (codes "b")) (more (symbol (p 1 44) (codes "name")) none)))) (more (list (p 1 50) (more (symbol (p 1 51) (codes "n")) (more (symbol (p 1 53) (codes "text")) none))) (more (list (p 1 59) (more (symbol (p 1 60) (codes "k")) (more (symbol (p 1 62) (codes "skey")) none))) (more (list (p 1 68) (more (symbol (p 1 69) (codes "e")) (more (symbol (p 1 71) (codes "akey")) none))) (more (list (p 1 77) (more (symbol (p 1 78) (codes "d")) (more (symbol (p 1 80) (codes "data")) none))) none))))))) (more (list (p 1 87) (more (symbol (p 1 88) (codes "trace")) (more (list (p 1 94) (more (symbol (p 1 95) (codes "send")) (more (list (p 1 100) (more (symbol (p 1 101) (codes "enc")) (more (symbol (p 1 105) (codes "n")) (more (list (p 1 107) (more (symbol (p 1 108) (codes "bltk")) (more (symbol (p 1 113) (codes "a")) (more (symbol (p 1 115) (codes "b")) none)))) none)))) none))) none))) none))))) none))))) none)) ≡ Some (record { place = p 1 107; code = OutOfProfile })
profile_op_bltk = refl

-- (defprotocol p basic (defrole r (vars (a b name) (n text) (k skey) (e akey) (d data)) (trace (send (gen)))))
profile_op_gen : first (faults_of (more (list (p 1 1) (more (symbol (p 1 2) (codes "defprotocol")) (more (symbol (p 1 14) (codes "p")) (more (symbol (p 1 16) (codes "basic")) (more (list (p 1 22) (more (symbol (p 1 23) (codes "defrole")) (more (symbol (p 1 31) (codes "r")) (more (list (p 1 33) (more (symbol (p 1 34) (codes "vars")) (more (list (p 1 39) (more (symbol (p 1 40) (codes "a")) (more (symbol (p 1 42) (codes "b")) (more (symbol (p 1 44) (codes "name")) none)))) (more (list (p 1 50) (more (symbol (p 1 51) (codes "n")) (more (symbol (p 1 53) (codes "text")) none))) (more (list (p 1 59) (more (symbol (p 1 60) (codes "k")) (more (symbol (p 1 62) (codes "skey")) none))) (more (list (p 1 68) (more (symbol (p 1 69) (codes "e")) (more (symbol (p 1 71) (codes "akey")) none))) (more (list (p 1 77) (more (symbol (p 1 78) (codes "d")) (more (symbol (p 1 80) (codes "data")) none))) none))))))) (more (list (p 1 87) (more (symbol (p 1 88) (codes "trace")) (more (list (p 1 94) (more (symbol (p 1 95) (codes "send")) (more (list (p 1 100) (more (symbol (p 1 101) (codes "gen")) none)) none))) none))) none))))) none))))) none)) ≡ Some (record { place = p 1 100; code = OutOfProfile })
profile_op_gen = refl

-- (defprotocol p basic (defrole r (vars (a b name) (n text) (k skey) (e akey) (d data)) (trace (send (cat a b n d (enc n d k)))) (facts (neq a b))))
profile_role_facts : first (faults_of (more (list (p 1 1) (more (symbol (p 1 2) (codes "defprotocol")) (more (symbol (p 1 14) (codes "p")) (more (symbol (p 1 16) (codes "basic")) (more (list (p 1 22) (more (symbol (p 1 23) (codes "defrole")) (more (symbol (p 1 31) (codes "r")) (more (list (p 1 33) (more (symbol (p 1 34) (codes "vars")) (more (list (p 1 39) (more (symbol (p 1 40) (codes "a")) (more (symbol (p 1 42) (codes "b")) (more (symbol (p 1 44) (codes "name")) none)))) (more (list (p 1 50) (more (symbol (p 1 51) (codes "n")) (more (symbol (p 1 53) (codes "text")) none))) (more (list (p 1 59) (more (symbol (p 1 60) (codes "k")) (more (symbol (p 1 62) (codes "skey")) none))) (more (list (p 1 68) (more (symbol (p 1 69) (codes "e")) (more (symbol (p 1 71) (codes "akey")) none))) (more (list (p 1 77) (more (symbol (p 1 78) (codes "d")) (more (symbol (p 1 80) (codes "data")) none))) none))))))) (more (list (p 1 87) (more (symbol (p 1 88) (codes "trace")) (more (list (p 1 94) (more (symbol (p 1 95) (codes "send")) (more (list (p 1 100) (more (symbol (p 1 101) (codes "cat")) (more (symbol (p 1 105) (codes "a")) (more (symbol (p 1 107) (codes "b")) (more (symbol (p 1 109) (codes "n")) (more (symbol (p 1 111) (codes "d")) (more (list (p 1 113) (more (symbol (p 1 114) (codes "enc")) (more (symbol (p 1 118) (codes "n")) (more (symbol (p 1 120) (codes "d")) (more (symbol (p 1 122) (codes "k")) none))))) none))))))) none))) none))) (more (list (p 1 128) (more (symbol (p 1 129) (codes "facts")) (more (list (p 1 135) (more (symbol (p 1 136) (codes "neq")) (more (symbol (p 1 140) (codes "a")) (more (symbol (p 1 142) (codes "b")) none)))) none))) none)))))) none))))) none)) ≡ Some (record { place = p 1 128; code = OutOfProfile })
profile_role_facts = refl

-- (defprotocol p basic (defrole r (vars (a b name) (n text) (k skey) (e akey) (d data)) (trace (send (cat a b n d (enc n d k)))) (priority (0 5))))
profile_role_priority : first (faults_of (more (list (p 1 1) (more (symbol (p 1 2) (codes "defprotocol")) (more (symbol (p 1 14) (codes "p")) (more (symbol (p 1 16) (codes "basic")) (more (list (p 1 22) (more (symbol (p 1 23) (codes "defrole")) (more (symbol (p 1 31) (codes "r")) (more (list (p 1 33) (more (symbol (p 1 34) (codes "vars")) (more (list (p 1 39) (more (symbol (p 1 40) (codes "a")) (more (symbol (p 1 42) (codes "b")) (more (symbol (p 1 44) (codes "name")) none)))) (more (list (p 1 50) (more (symbol (p 1 51) (codes "n")) (more (symbol (p 1 53) (codes "text")) none))) (more (list (p 1 59) (more (symbol (p 1 60) (codes "k")) (more (symbol (p 1 62) (codes "skey")) none))) (more (list (p 1 68) (more (symbol (p 1 69) (codes "e")) (more (symbol (p 1 71) (codes "akey")) none))) (more (list (p 1 77) (more (symbol (p 1 78) (codes "d")) (more (symbol (p 1 80) (codes "data")) none))) none))))))) (more (list (p 1 87) (more (symbol (p 1 88) (codes "trace")) (more (list (p 1 94) (more (symbol (p 1 95) (codes "send")) (more (list (p 1 100) (more (symbol (p 1 101) (codes "cat")) (more (symbol (p 1 105) (codes "a")) (more (symbol (p 1 107) (codes "b")) (more (symbol (p 1 109) (codes "n")) (more (symbol (p 1 111) (codes "d")) (more (list (p 1 113) (more (symbol (p 1 114) (codes "enc")) (more (symbol (p 1 118) (codes "n")) (more (symbol (p 1 120) (codes "d")) (more (symbol (p 1 122) (codes "k")) none))))) none))))))) none))) none))) (more (list (p 1 128) (more (symbol (p 1 129) (codes "priority")) (more (list (p 1 138) (more (number (p 1 139) 0) (more (number (p 1 141) 5) none))) none))) none)))))) none))))) none)) ≡ Some (record { place = p 1 128; code = OutOfProfile })
profile_role_priority = refl

-- (defprotocol p basic (defrole r (vars (a b name) (n text) (k skey)) (trace (send (enc n a k)) (recv (enc n b (ltk a b))))) (defrole s (vars (a name) (n text)) (trace (recv n) (send (cat a n)))))
-- (defskeleton p (vars (a b name) (n m text) (k skey) (e akey) (d data)) (defstrand r 1) (facts (neq a b)))
profile_skeleton_facts : first (faults_of (more (list (p 1 1) (more (symbol (p 1 2) (codes "defprotocol")) (more (symbol (p 1 14) (codes "p")) (more (symbol (p 1 16) (codes "basic")) (more (list (p 1 22) (more (symbol (p 1 23) (codes "defrole")) (more (symbol (p 1 31) (codes "r")) (more (list (p 1 33) (more (symbol (p 1 34) (codes "vars")) (more (list (p 1 39) (more (symbol (p 1 40) (codes "a")) (more (symbol (p 1 42) (codes "b")) (more (symbol (p 1 44) (codes "name")) none)))) (more (list (p 1 50) (more (symbol (p 1 51) (codes "n")) (more (symbol (p 1 53) (codes "text")) none))) (more (list (p 1 59) (more (symbol (p 1 60) (codes "k")) (more (symbol (p 1 62) (codes "skey")) none))) none))))) (more (list (p 1 69) (more (symbol (p 1 70) (codes "trace")) (more (list (p 1 76) (more (symbol (p 1 77) (codes "send")) (more (list (p 1 82) (more (symbol (p 1 83) (codes "enc")) (more (symbol (p 1 87) (codes "n")) (more (symbol (p 1 89) (codes "a")) (more (symbol (p 1 91) (codes "k")) none))))) none))) (more (list (p 1 95) (more (symbol (p 1 96) (codes "recv")) (more (list (p 1 101) (more (symbol (p 1 102) (codes "enc")) (more (symbol (p 1 106) (codes "n")) (more (symbol (p 1 108) (codes "b")) (more (list (p 1 110) (more (symbol (p 1 111) (codes "ltk")) (more (symbol (p 1 115) (codes "a")) (more (symbol (p 1 117) (codes "b")) none)))) none))))) none))) none)))) none))))) (more (list (p 1 124) (more (symbol (p 1 125) (codes "defrole")) (more (symbol (p 1 133) (codes "s")) (more (list (p 1 135) (more (symbol (p 1 136) (codes "vars")) (more (list (p 1 141) (more (symbol (p 1 142) (codes "a")) (more (symbol (p 1 144) (codes "name")) none))) (more (list (p 1 150) (more (symbol (p 1 151) (codes "n")) (more (symbol (p 1 153) (codes "text")) none))) none)))) (more (list (p 1 160) (more (symbol (p 1 161) (codes "trace")) (more (list (p 1 167) (more (symbol (p 1 168) (codes "recv")) (more (symbol (p 1 173) (codes "n")) none))) (more (list (p 1 176) (more (symbol (p 1 177) (codes "send")) (more (list (p 1 182) (more (symbol (p 1 183) (codes "cat")) (more (symbol (p 1 187) (codes "a")) (more (symbol (p 1 189) (codes "n")) none)))) none))) none)))) none))))) none)))))) (more (list (p 2 1) (more (symbol (p 2 2) (codes "defskeleton")) (more (symbol (p 2 14) (codes "p")) (more (list (p 2 16) (more (symbol (p 2 17) (codes "vars")) (more (list (p 2 22) (more (symbol (p 2 23) (codes "a")) (more (symbol (p 2 25) (codes "b")) (more (symbol (p 2 27) (codes "name")) none)))) (more (list (p 2 33) (more (symbol (p 2 34) (codes "n")) (more (symbol (p 2 36) (codes "m")) (more (symbol (p 2 38) (codes "text")) none)))) (more (list (p 2 44) (more (symbol (p 2 45) (codes "k")) (more (symbol (p 2 47) (codes "skey")) none))) (more (list (p 2 53) (more (symbol (p 2 54) (codes "e")) (more (symbol (p 2 56) (codes "akey")) none))) (more (list (p 2 62) (more (symbol (p 2 63) (codes "d")) (more (symbol (p 2 65) (codes "data")) none))) none))))))) (more (list (p 2 72) (more (symbol (p 2 73) (codes "defstrand")) (more (symbol (p 2 83) (codes "r")) (more (number (p 2 85) 1) none)))) (more (list (p 2 88) (more (symbol (p 2 89) (codes "facts")) (more (list (p 2 95) (more (symbol (p 2 96) (codes "neq")) (more (symbol (p 2 100) (codes "a")) (more (symbol (p 2 102) (codes "b")) none)))) none))) none)))))) none))) ≡ Some (record { place = p 2 88; code = OutOfProfile })
profile_skeleton_facts = refl

-- (defprotocol p basic (defrole r (vars (a b name) (n text) (k skey)) (trace (send (enc n a k)) (recv (enc n b (ltk a b))))) (defrole s (vars (a name) (n text)) (trace (recv n) (send (cat a n)))))
-- (defskeleton p (vars (a b name) (n m text) (k skey) (e akey) (d data)) (defstrand r 1) (uniq-gen n))
profile_skeleton_uniq_gen : first (faults_of (more (list (p 1 1) (more (symbol (p 1 2) (codes "defprotocol")) (more (symbol (p 1 14) (codes "p")) (more (symbol (p 1 16) (codes "basic")) (more (list (p 1 22) (more (symbol (p 1 23) (codes "defrole")) (more (symbol (p 1 31) (codes "r")) (more (list (p 1 33) (more (symbol (p 1 34) (codes "vars")) (more (list (p 1 39) (more (symbol (p 1 40) (codes "a")) (more (symbol (p 1 42) (codes "b")) (more (symbol (p 1 44) (codes "name")) none)))) (more (list (p 1 50) (more (symbol (p 1 51) (codes "n")) (more (symbol (p 1 53) (codes "text")) none))) (more (list (p 1 59) (more (symbol (p 1 60) (codes "k")) (more (symbol (p 1 62) (codes "skey")) none))) none))))) (more (list (p 1 69) (more (symbol (p 1 70) (codes "trace")) (more (list (p 1 76) (more (symbol (p 1 77) (codes "send")) (more (list (p 1 82) (more (symbol (p 1 83) (codes "enc")) (more (symbol (p 1 87) (codes "n")) (more (symbol (p 1 89) (codes "a")) (more (symbol (p 1 91) (codes "k")) none))))) none))) (more (list (p 1 95) (more (symbol (p 1 96) (codes "recv")) (more (list (p 1 101) (more (symbol (p 1 102) (codes "enc")) (more (symbol (p 1 106) (codes "n")) (more (symbol (p 1 108) (codes "b")) (more (list (p 1 110) (more (symbol (p 1 111) (codes "ltk")) (more (symbol (p 1 115) (codes "a")) (more (symbol (p 1 117) (codes "b")) none)))) none))))) none))) none)))) none))))) (more (list (p 1 124) (more (symbol (p 1 125) (codes "defrole")) (more (symbol (p 1 133) (codes "s")) (more (list (p 1 135) (more (symbol (p 1 136) (codes "vars")) (more (list (p 1 141) (more (symbol (p 1 142) (codes "a")) (more (symbol (p 1 144) (codes "name")) none))) (more (list (p 1 150) (more (symbol (p 1 151) (codes "n")) (more (symbol (p 1 153) (codes "text")) none))) none)))) (more (list (p 1 160) (more (symbol (p 1 161) (codes "trace")) (more (list (p 1 167) (more (symbol (p 1 168) (codes "recv")) (more (symbol (p 1 173) (codes "n")) none))) (more (list (p 1 176) (more (symbol (p 1 177) (codes "send")) (more (list (p 1 182) (more (symbol (p 1 183) (codes "cat")) (more (symbol (p 1 187) (codes "a")) (more (symbol (p 1 189) (codes "n")) none)))) none))) none)))) none))))) none)))))) (more (list (p 2 1) (more (symbol (p 2 2) (codes "defskeleton")) (more (symbol (p 2 14) (codes "p")) (more (list (p 2 16) (more (symbol (p 2 17) (codes "vars")) (more (list (p 2 22) (more (symbol (p 2 23) (codes "a")) (more (symbol (p 2 25) (codes "b")) (more (symbol (p 2 27) (codes "name")) none)))) (more (list (p 2 33) (more (symbol (p 2 34) (codes "n")) (more (symbol (p 2 36) (codes "m")) (more (symbol (p 2 38) (codes "text")) none)))) (more (list (p 2 44) (more (symbol (p 2 45) (codes "k")) (more (symbol (p 2 47) (codes "skey")) none))) (more (list (p 2 53) (more (symbol (p 2 54) (codes "e")) (more (symbol (p 2 56) (codes "akey")) none))) (more (list (p 2 62) (more (symbol (p 2 63) (codes "d")) (more (symbol (p 2 65) (codes "data")) none))) none))))))) (more (list (p 2 72) (more (symbol (p 2 73) (codes "defstrand")) (more (symbol (p 2 83) (codes "r")) (more (number (p 2 85) 1) none)))) (more (list (p 2 88) (more (symbol (p 2 89) (codes "uniq-gen")) (more (symbol (p 2 98) (codes "n")) none))) none)))))) none))) ≡ Some (record { place = p 2 88; code = OutOfProfile })
profile_skeleton_uniq_gen = refl

-- (defprotocol p basic (defrole r (vars (x base)) (trace)))
profile_sort_base : first (faults_of (more (list (p 1 1) (more (symbol (p 1 2) (codes "defprotocol")) (more (symbol (p 1 14) (codes "p")) (more (symbol (p 1 16) (codes "basic")) (more (list (p 1 22) (more (symbol (p 1 23) (codes "defrole")) (more (symbol (p 1 31) (codes "r")) (more (list (p 1 33) (more (symbol (p 1 34) (codes "vars")) (more (list (p 1 39) (more (symbol (p 1 40) (codes "x")) (more (symbol (p 1 42) (codes "base")) none))) none))) (more (list (p 1 49) (more (symbol (p 1 50) (codes "trace")) none)) none))))) none))))) none)) ≡ Some (record { place = p 1 42; code = OutOfProfile })
profile_sort_base = refl

-- (defprotocol p basic (defrole r (vars (x y expt)) (trace (send "a"))))
profile_sort_expt : first (faults_of (more (list (p 1 1) (more (symbol (p 1 2) (codes "defprotocol")) (more (symbol (p 1 14) (codes "p")) (more (symbol (p 1 16) (codes "basic")) (more (list (p 1 22) (more (symbol (p 1 23) (codes "defrole")) (more (symbol (p 1 31) (codes "r")) (more (list (p 1 33) (more (symbol (p 1 34) (codes "vars")) (more (list (p 1 39) (more (symbol (p 1 40) (codes "x")) (more (symbol (p 1 42) (codes "y")) (more (symbol (p 1 44) (codes "expt")) none)))) none))) (more (list (p 1 51) (more (symbol (p 1 52) (codes "trace")) (more (list (p 1 58) (more (symbol (p 1 59) (codes "send")) (more (string (p 1 64) (codes "a")) none))) none))) none))))) none))))) none)) ≡ Some (record { place = p 1 44; code = OutOfProfile })
profile_sort_expt = refl

-- (defprotocol p basic (defrole r (vars (a b name) (n text) (k skey)) (trace (send (enc n a k)) (recv (enc n b (ltk a b))))) (defrole s (vars (a name) (n text)) (trace (recv n) (send (cat a n)))))
-- (defskeleton p (vars (l locn) (x zzz)) (defstrand r 1))
profile_sort_locn : first (faults_of (more (list (p 1 1) (more (symbol (p 1 2) (codes "defprotocol")) (more (symbol (p 1 14) (codes "p")) (more (symbol (p 1 16) (codes "basic")) (more (list (p 1 22) (more (symbol (p 1 23) (codes "defrole")) (more (symbol (p 1 31) (codes "r")) (more (list (p 1 33) (more (symbol (p 1 34) (codes "vars")) (more (list (p 1 39) (more (symbol (p 1 40) (codes "a")) (more (symbol (p 1 42) (codes "b")) (more (symbol (p 1 44) (codes "name")) none)))) (more (list (p 1 50) (more (symbol (p 1 51) (codes "n")) (more (symbol (p 1 53) (codes "text")) none))) (more (list (p 1 59) (more (symbol (p 1 60) (codes "k")) (more (symbol (p 1 62) (codes "skey")) none))) none))))) (more (list (p 1 69) (more (symbol (p 1 70) (codes "trace")) (more (list (p 1 76) (more (symbol (p 1 77) (codes "send")) (more (list (p 1 82) (more (symbol (p 1 83) (codes "enc")) (more (symbol (p 1 87) (codes "n")) (more (symbol (p 1 89) (codes "a")) (more (symbol (p 1 91) (codes "k")) none))))) none))) (more (list (p 1 95) (more (symbol (p 1 96) (codes "recv")) (more (list (p 1 101) (more (symbol (p 1 102) (codes "enc")) (more (symbol (p 1 106) (codes "n")) (more (symbol (p 1 108) (codes "b")) (more (list (p 1 110) (more (symbol (p 1 111) (codes "ltk")) (more (symbol (p 1 115) (codes "a")) (more (symbol (p 1 117) (codes "b")) none)))) none))))) none))) none)))) none))))) (more (list (p 1 124) (more (symbol (p 1 125) (codes "defrole")) (more (symbol (p 1 133) (codes "s")) (more (list (p 1 135) (more (symbol (p 1 136) (codes "vars")) (more (list (p 1 141) (more (symbol (p 1 142) (codes "a")) (more (symbol (p 1 144) (codes "name")) none))) (more (list (p 1 150) (more (symbol (p 1 151) (codes "n")) (more (symbol (p 1 153) (codes "text")) none))) none)))) (more (list (p 1 160) (more (symbol (p 1 161) (codes "trace")) (more (list (p 1 167) (more (symbol (p 1 168) (codes "recv")) (more (symbol (p 1 173) (codes "n")) none))) (more (list (p 1 176) (more (symbol (p 1 177) (codes "send")) (more (list (p 1 182) (more (symbol (p 1 183) (codes "cat")) (more (symbol (p 1 187) (codes "a")) (more (symbol (p 1 189) (codes "n")) none)))) none))) none)))) none))))) none)))))) (more (list (p 2 1) (more (symbol (p 2 2) (codes "defskeleton")) (more (symbol (p 2 14) (codes "p")) (more (list (p 2 16) (more (symbol (p 2 17) (codes "vars")) (more (list (p 2 22) (more (symbol (p 2 23) (codes "l")) (more (symbol (p 2 25) (codes "locn")) none))) (more (list (p 2 31) (more (symbol (p 2 32) (codes "x")) (more (symbol (p 2 34) (codes "zzz")) none))) none)))) (more (list (p 2 40) (more (symbol (p 2 41) (codes "defstrand")) (more (symbol (p 2 51) (codes "r")) (more (number (p 2 53) 1) none)))) none))))) none))) ≡ Some (record { place = p 2 25; code = OutOfProfile })
profile_sort_locn = refl

-- (defprotocol p basic (defrole r (vars (c state)) (trace (send "a"))))
profile_sort_state : first (faults_of (more (list (p 1 1) (more (symbol (p 1 2) (codes "defprotocol")) (more (symbol (p 1 14) (codes "p")) (more (symbol (p 1 16) (codes "basic")) (more (list (p 1 22) (more (symbol (p 1 23) (codes "defrole")) (more (symbol (p 1 31) (codes "r")) (more (list (p 1 33) (more (symbol (p 1 34) (codes "vars")) (more (list (p 1 39) (more (symbol (p 1 40) (codes "c")) (more (symbol (p 1 42) (codes "state")) none))) none))) (more (list (p 1 50) (more (symbol (p 1 51) (codes "trace")) (more (list (p 1 57) (more (symbol (p 1 58) (codes "send")) (more (string (p 1 63) (codes "a")) none))) none))) none))))) none))))) none)) ≡ Some (record { place = p 1 42; code = OutOfProfile })
profile_sort_state = refl

-- (defprotocol p basic (defrole r (vars (n m text)) (trace (send n)) (uniq-orig m)))
role_uniq_absent : first (faults_of (more (list (p 1 1) (more (symbol (p 1 2) (codes "defprotocol")) (more (symbol (p 1 14) (codes "p")) (more (symbol (p 1 16) (codes "basic")) (more (list (p 1 22) (more (symbol (p 1 23) (codes "defrole")) (more (symbol (p 1 31) (codes "r")) (more (list (p 1 33) (more (symbol (p 1 34) (codes "vars")) (more (list (p 1 39) (more (symbol (p 1 40) (codes "n")) (more (symbol (p 1 42) (codes "m")) (more (symbol (p 1 44) (codes "text")) none)))) none))) (more (list (p 1 51) (more (symbol (p 1 52) (codes "trace")) (more (list (p 1 58) (more (symbol (p 1 59) (codes "send")) (more (symbol (p 1 64) (codes "n")) none))) none))) (more (list (p 1 68) (more (symbol (p 1 69) (codes "uniq-orig")) (more (symbol (p 1 79) (codes "m")) none))) none)))))) none))))) none)) ≡ Some (record { place = p 1 79; code = RoleUniqNoOrigin })
role_uniq_absent = refl

-- (defprotocol p basic (defrole r (vars (n text) (k skey)) (trace (send (enc n k))) (uniq-orig n k)))
role_uniq_key_only : first (faults_of (more (list (p 1 1) (more (symbol (p 1 2) (codes "defprotocol")) (more (symbol (p 1 14) (codes "p")) (more (symbol (p 1 16) (codes "basic")) (more (list (p 1 22) (more (symbol (p 1 23) (codes "defrole")) (more (symbol (p 1 31) (codes "r")) (more (list (p 1 33) (more (symbol (p 1 34) (codes "vars")) (more (list (p 1 39) (more (symbol (p 1 40) (codes "n")) (more (symbol (p 1 42) (codes "text")) none))) (more (list (p 1 48) (more (symbol (p 1 49) (codes "k")) (more (symbol (p 1 51) (codes "skey")) none))) none)))) (more (list (p 1 58) (more (symbol (p 1 59) (codes "trace")) (more (list (p 1 65) (more (symbol (p 1 66) (codes "send")) (more (list (p 1 71) (more (symbol (p 1 72) (codes "enc")) (more (symbol (p 1 76) (codes "n")) (more (symbol (p 1 78) (codes "k")) none)))) none))) none))) (more (list (p 1 83) (more (symbol (p 1 84) (codes "uniq-orig")) (more (symbol (p 1 94) (codes "n")) (more (symbol (p 1 96) (codes "k")) none)))) none)))))) none))))) none)) ≡ Some (record { place = p 1 96; code = RoleUniqNoOrigin })
role_uniq_key_only = refl

-- (defprotocol p basic (defrole r (vars) (comment) (trace (send "a"))))
s_comment_in_role : first (faults_of (more (list (p 1 1) (more (symbol (p 1 2) (codes "defprotocol")) (more (symbol (p 1 14) (codes "p")) (more (symbol (p 1 16) (codes "basic")) (more (list (p 1 22) (more (symbol (p 1 23) (codes "defrole")) (more (symbol (p 1 31) (codes "r")) (more (list (p 1 33) (more (symbol (p 1 34) (codes "vars")) none)) (more (list (p 1 40) (more (symbol (p 1 41) (codes "comment")) none)) (more (list (p 1 50) (more (symbol (p 1 51) (codes "trace")) (more (list (p 1 57) (more (symbol (p 1 58) (codes "send")) (more (string (p 1 63) (codes "a")) none))) none))) none)))))) none))))) none)) ≡ Some (record { place = p 1 40; code = BadShape })
s_comment_in_role = refl

-- (defprotocol p basic (defrole r (vars (a a foo)) (trace (send a))))
s_duplicate_before_sort : first (faults_of (more (list (p 1 1) (more (symbol (p 1 2) (codes "defprotocol")) (more (symbol (p 1 14) (codes "p")) (more (symbol (p 1 16) (codes "basic")) (more (list (p 1 22) (more (symbol (p 1 23) (codes "defrole")) (more (symbol (p 1 31) (codes "r")) (more (list (p 1 33) (more (symbol (p 1 34) (codes "vars")) (more (list (p 1 39) (more (symbol (p 1 40) (codes "a")) (more (symbol (p 1 42) (codes "a")) (more (symbol (p 1 44) (codes "foo")) none)))) none))) (more (list (p 1 50) (more (symbol (p 1 51) (codes "trace")) (more (list (p 1 57) (more (symbol (p 1 58) (codes "send")) (more (symbol (p 1 63) (codes "a")) none))) none))) none))))) none))))) none)) ≡ Some (record { place = p 1 42; code = DuplicateVar })
s_duplicate_before_sort = refl

-- (defprotocol p basic (defrole r (vars (a b name) (n text) (k skey) (e akey) (d data)) (trace (gen a))))
s_gen_as_event : first (faults_of (more (list (p 1 1) (more (symbol (p 1 2) (codes "defprotocol")) (more (symbol (p 1 14) (codes "p")) (more (symbol (p 1 16) (codes "basic")) (more (list (p 1 22) (more (symbol (p 1 23) (codes "defrole")) (more (symbol (p 1 31) (codes "r")) (more (list (p 1 33) (more (symbol (p 1 34) (codes "vars")) (more (list (p 1 39) (more (symbol (p 1 40) (codes "a")) (more (symbol (p 1 42) (codes "b")) (more (symbol (p 1 44) (codes "name")) none)))) (more (list (p 1 50) (more (symbol (p 1 51) (codes "n")) (more (symbol (p 1 53) (codes "text")) none))) (more (list (p 1 59) (more (symbol (p 1 60) (codes "k")) (more (symbol (p 1 62) (codes "skey")) none))) (more (list (p 1 68) (more (symbol (p 1 69) (codes "e")) (more (symbol (p 1 71) (codes "akey")) none))) (more (list (p 1 77) (more (symbol (p 1 78) (codes "d")) (more (symbol (p 1 80) (codes "data")) none))) none))))))) (more (list (p 1 87) (more (symbol (p 1 88) (codes "trace")) (more (list (p 1 94) (more (symbol (p 1 95) (codes "gen")) (more (symbol (p 1 99) (codes "a")) none))) none))) none))))) none))))) none)) ≡ Some (record { place = p 1 94; code = UnknownForm })
s_gen_as_event = refl

-- (defprotocol p basic (defrole r (vars (a b name) (n text) (k skey)) (trace (send (enc n a k)) (recv (enc n b (ltk a b))))) (defrole s (vars (a name) (n text)) (trace (recv n) (send (cat a n)))))
-- (defskeleton p (vars (a b name) (n m text) (k skey) (e akey) (d data)) (defstrand r 1 (a zz a)))
s_maplet_too_many_after_fault : first (faults_of (more (list (p 1 1) (more (symbol (p 1 2) (codes "defprotocol")) (more (symbol (p 1 14) (codes "p")) (more (symbol (p 1 16) (codes "basic")) (more (list (p 1 22) (more (symbol (p 1 23) (codes "defrole")) (more (symbol (p 1 31) (codes "r")) (more (list (p 1 33) (more (symbol (p 1 34) (codes "vars")) (more (list (p 1 39) (more (symbol (p 1 40) (codes "a")) (more (symbol (p 1 42) (codes "b")) (more (symbol (p 1 44) (codes "name")) none)))) (more (list (p 1 50) (more (symbol (p 1 51) (codes "n")) (more (symbol (p 1 53) (codes "text")) none))) (more (list (p 1 59) (more (symbol (p 1 60) (codes "k")) (more (symbol (p 1 62) (codes "skey")) none))) none))))) (more (list (p 1 69) (more (symbol (p 1 70) (codes "trace")) (more (list (p 1 76) (more (symbol (p 1 77) (codes "send")) (more (list (p 1 82) (more (symbol (p 1 83) (codes "enc")) (more (symbol (p 1 87) (codes "n")) (more (symbol (p 1 89) (codes "a")) (more (symbol (p 1 91) (codes "k")) none))))) none))) (more (list (p 1 95) (more (symbol (p 1 96) (codes "recv")) (more (list (p 1 101) (more (symbol (p 1 102) (codes "enc")) (more (symbol (p 1 106) (codes "n")) (more (symbol (p 1 108) (codes "b")) (more (list (p 1 110) (more (symbol (p 1 111) (codes "ltk")) (more (symbol (p 1 115) (codes "a")) (more (symbol (p 1 117) (codes "b")) none)))) none))))) none))) none)))) none))))) (more (list (p 1 124) (more (symbol (p 1 125) (codes "defrole")) (more (symbol (p 1 133) (codes "s")) (more (list (p 1 135) (more (symbol (p 1 136) (codes "vars")) (more (list (p 1 141) (more (symbol (p 1 142) (codes "a")) (more (symbol (p 1 144) (codes "name")) none))) (more (list (p 1 150) (more (symbol (p 1 151) (codes "n")) (more (symbol (p 1 153) (codes "text")) none))) none)))) (more (list (p 1 160) (more (symbol (p 1 161) (codes "trace")) (more (list (p 1 167) (more (symbol (p 1 168) (codes "recv")) (more (symbol (p 1 173) (codes "n")) none))) (more (list (p 1 176) (more (symbol (p 1 177) (codes "send")) (more (list (p 1 182) (more (symbol (p 1 183) (codes "cat")) (more (symbol (p 1 187) (codes "a")) (more (symbol (p 1 189) (codes "n")) none)))) none))) none)))) none))))) none)))))) (more (list (p 2 1) (more (symbol (p 2 2) (codes "defskeleton")) (more (symbol (p 2 14) (codes "p")) (more (list (p 2 16) (more (symbol (p 2 17) (codes "vars")) (more (list (p 2 22) (more (symbol (p 2 23) (codes "a")) (more (symbol (p 2 25) (codes "b")) (more (symbol (p 2 27) (codes "name")) none)))) (more (list (p 2 33) (more (symbol (p 2 34) (codes "n")) (more (symbol (p 2 36) (codes "m")) (more (symbol (p 2 38) (codes "text")) none)))) (more (list (p 2 44) (more (symbol (p 2 45) (codes "k")) (more (symbol (p 2 47) (codes "skey")) none))) (more (list (p 2 53) (more (symbol (p 2 54) (codes "e")) (more (symbol (p 2 56) (codes "akey")) none))) (more (list (p 2 62) (more (symbol (p 2 63) (codes "d")) (more (symbol (p 2 65) (codes "data")) none))) none))))))) (more (list (p 2 72) (more (symbol (p 2 73) (codes "defstrand")) (more (symbol (p 2 83) (codes "r")) (more (number (p 2 85) 1) (more (list (p 2 87) (more (symbol (p 2 88) (codes "a")) (more (symbol (p 2 90) (codes "zz")) (more (symbol (p 2 93) (codes "a")) none)))) none))))) none))))) none))) ≡ Some (record { place = p 2 90; code = UnknownVar })
s_maplet_too_many_after_fault = refl

-- (defprotocol p basic (defrole r (vars (a name) (a x mesg)) (trace (send a))))
s_mesg_duplicate : first (faults_of (more (list (p 1 1) (more (symbol (p 1 2) (codes "defprotocol")) (more (symbol (p 1 14) (codes "p")) (more (symbol (p 1 16) (codes "basic")) (more (list (p 1 22) (more (symbol (p 1 23) (codes "defrole")) (more (symbol (p 1 31) (codes "r")) (more (list (p 1 33) (more (symbol (p 1 34) (codes "vars")) (more (list (p 1 39) (more (symbol (p 1 40) (codes "a")) (more (symbol (p 1 42) (codes "name")) none))) (more (list (p 1 48) (more (symbol (p 1 49) (codes "a")) (more (symbol (p 1 51) (codes "x")) (more (symbol (p 1 53) (codes "mesg")) none)))) none)))) (more (list (p 1 60) (more (symbol (p 1 61) (codes "trace")) (more (list (p 1 67) (more (symbol (p 1 68) (codes "send")) (more (symbol (p 1 73) (codes "a")) none))) none))) none))))) none))))) none)) ≡ Some (record { place = p 1 49; code = MesgVar })
s_mesg_duplicate = refl

-- (defprotocol p basic (defrole r (vars (a b name) (n text) (k skey) (e akey) (d data)) (trace (send (cat a b n d (enc n d k)))) (non-orig (exp a b))))
s_op_in_assumption : first (faults_of (more (list (p 1 1) (more (symbol (p 1 2) (codes "defprotocol")) (more (symbol (p 1 14) (codes "p")) (more (symbol (p 1 16) (codes "basic")) (more (list (p 1 22) (more (symbol (p 1 23) (codes "defrole")) (more (symbol (p 1 31) (codes "r")) (more (list (p 1 33) (more (symbol (p 1 34) (codes "vars")) (more (list (p 1 39) (more (symbol (p 1 40) (codes "a")) (more (symbol (p 1 42) (codes "b")) (more (symbol (p 1 44) (codes "name")) none)))) (more (list (p 1 50) (more (symbol (p 1 51) (codes "n")) (more (symbol (p 1 53) (codes "text")) none))) (more (list (p 1 59) (more (symbol (p 1 60) (codes "k")) (more (symbol (p 1 62) (codes "skey")) none))) (more (list (p 1 68) (more (symbol (p 1 69) (codes "e")) (more (symbol (p 1 71) (codes "akey")) none))) (more (list (p 1 77) (more (symbol (p 1 78) (codes "d")) (more (symbol (p 1 80) (codes "data")) none))) none))))))) (more (list (p 1 87) (more (symbol (p 1 88) (codes "trace")) (more (list (p 1 94) (more (symbol (p 1 95) (codes "send")) (more (list (p 1 100) (more (symbol (p 1 101) (codes "cat")) (more (symbol (p 1 105) (codes "a")) (more (symbol (p 1 107) (codes "b")) (more (symbol (p 1 109) (codes "n")) (more (symbol (p 1 111) (codes "d")) (more (list (p 1 113) (more (symbol (p 1 114) (codes "enc")) (more (symbol (p 1 118) (codes "n")) (more (symbol (p 1 120) (codes "d")) (more (symbol (p 1 122) (codes "k")) none))))) none))))))) none))) none))) (more (list (p 1 128) (more (symbol (p 1 129) (codes "non-orig")) (more (list (p 1 138) (more (symbol (p 1 139) (codes "exp")) (more (symbol (p 1 143) (codes "a")) (more (symbol (p 1 145) (codes "b")) none)))) none))) none)))))) none))))) none)) ≡ Some (record { place = p 1 138; code = OutOfProfile })
s_op_in_assumption = refl

-- (defprotocol p basic (defrole r (vars (a b name) (n text) (k skey) (e akey) (d data)) (trace (send (pubk "p" "q")))))
s_purpose_twice : first (faults_of (more (list (p 1 1) (more (symbol (p 1 2) (codes "defprotocol")) (more (symbol (p 1 14) (codes "p")) (more (symbol (p 1 16) (codes "basic")) (more (list (p 1 22) (more (symbol (p 1 23) (codes "defrole")) (more (symbol (p 1 31) (codes "r")) (more (list (p 1 33) (more (symbol (p 1 34) (codes "vars")) (more (list (p 1 39) (more (symbol (p 1 40) (codes "a")) (more (symbol (p 1 42) (codes "b")) (more (symbol (p 1 44) (codes "name")) none)))) (more (list (p 1 50) (more (symbol (p 1 51) (codes "n")) (more (symbol (p 1 53) (codes "text")) none))) (more (list (p 1 59) (more (symbol (p 1 60) (codes "k")) (more (symbol (p 1 62) (codes "skey")) none))) (more (list (p 1 68) (more (symbol (p 1 69) (codes "e")) (more (symbol (p 1 71) (codes "akey")) none))) (more (list (p 1 77) (more (symbol (p 1 78) (codes "d")) (more (symbol (p 1 80) (codes "data")) none))) none))))))) (more (list (p 1 87) (more (symbol (p 1 88) (codes "trace")) (more (list (p 1 94) (more (symbol (p 1 95) (codes "send")) (more (list (p 1 100) (more (symbol (p 1 101) (codes "pubk")) (more (string (p 1 106) (codes "p")) (more (string (p 1 110) (codes "q")) none)))) none))) none))) none))))) none))))) none)) ≡ Some (record { place = p 1 110; code = IllSorted })
s_purpose_twice = refl

-- (defprotocol p basic (defrole r (vars) (fn-of) (trace (send "a"))))
s_trace_place_fn_of : first (faults_of (more (list (p 1 1) (more (symbol (p 1 2) (codes "defprotocol")) (more (symbol (p 1 14) (codes "p")) (more (symbol (p 1 16) (codes "basic")) (more (list (p 1 22) (more (symbol (p 1 23) (codes "defrole")) (more (symbol (p 1 31) (codes "r")) (more (list (p 1 33) (more (symbol (p 1 34) (codes "vars")) none)) (more (list (p 1 40) (more (symbol (p 1 41) (codes "fn-of")) none)) (more (list (p 1 48) (more (symbol (p 1 49) (codes "trace")) (more (list (p 1 55) (more (symbol (p 1 56) (codes "send")) (more (string (p 1 61) (codes "a")) none))) none))) none)))))) none))))) none)) ≡ Some (record { place = p 1 40; code = OutOfProfile })
s_trace_place_fn_of = refl

-- (defprotocol p basic (defrole r (facts) (trace (send "a"))))
s_vars_place_facts : first (faults_of (more (list (p 1 1) (more (symbol (p 1 2) (codes "defprotocol")) (more (symbol (p 1 14) (codes "p")) (more (symbol (p 1 16) (codes "basic")) (more (list (p 1 22) (more (symbol (p 1 23) (codes "defrole")) (more (symbol (p 1 31) (codes "r")) (more (list (p 1 33) (more (symbol (p 1 34) (codes "facts")) none)) (more (list (p 1 41) (more (symbol (p 1 42) (codes "trace")) (more (list (p 1 48) (more (symbol (p 1 49) (codes "send")) (more (string (p 1 54) (codes "a")) none))) none))) none))))) none))))) none)) ≡ Some (record { place = p 1 33; code = OutOfProfile })
s_vars_place_facts = refl

-- (defprotocol p basic (defrole r (vars (a b name) (n text) (k skey)) (trace (send (enc n a k)) (recv (enc n b (ltk a b))))) (defrole s (vars (a name) (n text)) (trace (recv n) (send (cat a n)))))
-- (defskeleton p (defstrand r 1))
s_vars_place_strand : first (faults_of (more (list (p 1 1) (more (symbol (p 1 2) (codes "defprotocol")) (more (symbol (p 1 14) (codes "p")) (more (symbol (p 1 16) (codes "basic")) (more (list (p 1 22) (more (symbol (p 1 23) (codes "defrole")) (more (symbol (p 1 31) (codes "r")) (more (list (p 1 33) (more (symbol (p 1 34) (codes "vars")) (more (list (p 1 39) (more (symbol (p 1 40) (codes "a")) (more (symbol (p 1 42) (codes "b")) (more (symbol (p 1 44) (codes "name")) none)))) (more (list (p 1 50) (more (symbol (p 1 51) (codes "n")) (more (symbol (p 1 53) (codes "text")) none))) (more (list (p 1 59) (more (symbol (p 1 60) (codes "k")) (more (symbol (p 1 62) (codes "skey")) none))) none))))) (more (list (p 1 69) (more (symbol (p 1 70) (codes "trace")) (more (list (p 1 76) (more (symbol (p 1 77) (codes "send")) (more (list (p 1 82) (more (symbol (p 1 83) (codes "enc")) (more (symbol (p 1 87) (codes "n")) (more (symbol (p 1 89) (codes "a")) (more (symbol (p 1 91) (codes "k")) none))))) none))) (more (list (p 1 95) (more (symbol (p 1 96) (codes "recv")) (more (list (p 1 101) (more (symbol (p 1 102) (codes "enc")) (more (symbol (p 1 106) (codes "n")) (more (symbol (p 1 108) (codes "b")) (more (list (p 1 110) (more (symbol (p 1 111) (codes "ltk")) (more (symbol (p 1 115) (codes "a")) (more (symbol (p 1 117) (codes "b")) none)))) none))))) none))) none)))) none))))) (more (list (p 1 124) (more (symbol (p 1 125) (codes "defrole")) (more (symbol (p 1 133) (codes "s")) (more (list (p 1 135) (more (symbol (p 1 136) (codes "vars")) (more (list (p 1 141) (more (symbol (p 1 142) (codes "a")) (more (symbol (p 1 144) (codes "name")) none))) (more (list (p 1 150) (more (symbol (p 1 151) (codes "n")) (more (symbol (p 1 153) (codes "text")) none))) none)))) (more (list (p 1 160) (more (symbol (p 1 161) (codes "trace")) (more (list (p 1 167) (more (symbol (p 1 168) (codes "recv")) (more (symbol (p 1 173) (codes "n")) none))) (more (list (p 1 176) (more (symbol (p 1 177) (codes "send")) (more (list (p 1 182) (more (symbol (p 1 183) (codes "cat")) (more (symbol (p 1 187) (codes "a")) (more (symbol (p 1 189) (codes "n")) none)))) none))) none)))) none))))) none)))))) (more (list (p 2 1) (more (symbol (p 2 2) (codes "defskeleton")) (more (symbol (p 2 14) (codes "p")) (more (list (p 2 16) (more (symbol (p 2 17) (codes "defstrand")) (more (symbol (p 2 27) (codes "r")) (more (number (p 2 29) 1) none)))) none)))) none))) ≡ Some (record { place = p 2 16; code = BadShape })
s_vars_place_strand = refl

-- (defprotocol p basic (defrole r (vars (a b name) (n text) (k skey)) (trace (send (enc n a k)) (recv (enc n b (ltk a b))))) (defrole s (vars (a name) (n text)) (trace (recv n) (send (cat a n)))))
-- (defskeleton p (defstrand r 1) (vars))
s_vars_place_strand_then_vars : first (faults_of (more (list (p 1 1) (more (symbol (p 1 2) (codes "defprotocol")) (more (symbol (p 1 14) (codes "p")) (more (symbol (p 1 16) (codes "basic")) (more (list (p 1 22) (more (symbol (p 1 23) (codes "defrole")) (more (symbol (p 1 31) (codes "r")) (more (list (p 1 33) (more (symbol (p 1 34) (codes "vars")) (more (list (p 1 39) (more (symbol (p 1 40) (codes "a")) (more (symbol (p 1 42) (codes "b")) (more (symbol (p 1 44) (codes "name")) none)))) (more (list (p 1 50) (more (symbol (p 1 51) (codes "n")) (more (symbol (p 1 53) (codes "text")) none))) (more (list (p 1 59) (more (symbol (p 1 60) (codes "k")) (more (symbol (p 1 62) (codes "skey")) none))) none))))) (more (list (p 1 69) (more (symbol (p 1 70) (codes "trace")) (more (list (p 1 76) (more (symbol (p 1 77) (codes "send")) (more (list (p 1 82) (more (symbol (p 1 83) (codes "enc")) (more (symbol (p 1 87) (codes "n")) (more (symbol (p 1 89) (codes "a")) (more (symbol (p 1 91) (codes "k")) none))))) none))) (more (list (p 1 95) (more (symbol (p 1 96) (codes "recv")) (more (list (p 1 101) (more (symbol (p 1 102) (codes "enc")) (more (symbol (p 1 106) (codes "n")) (more (symbol (p 1 108) (codes "b")) (more (list (p 1 110) (more (symbol (p 1 111) (codes "ltk")) (more (symbol (p 1 115) (codes "a")) (more (symbol (p 1 117) (codes "b")) none)))) none))))) none))) none)))) none))))) (more (list (p 1 124) (more (symbol (p 1 125) (codes "defrole")) (more (symbol (p 1 133) (codes "s")) (more (list (p 1 135) (more (symbol (p 1 136) (codes "vars")) (more (list (p 1 141) (more (symbol (p 1 142) (codes "a")) (more (symbol (p 1 144) (codes "name")) none))) (more (list (p 1 150) (more (symbol (p 1 151) (codes "n")) (more (symbol (p 1 153) (codes "text")) none))) none)))) (more (list (p 1 160) (more (symbol (p 1 161) (codes "trace")) (more (list (p 1 167) (more (symbol (p 1 168) (codes "recv")) (more (symbol (p 1 173) (codes "n")) none))) (more (list (p 1 176) (more (symbol (p 1 177) (codes "send")) (more (list (p 1 182) (more (symbol (p 1 183) (codes "cat")) (more (symbol (p 1 187) (codes "a")) (more (symbol (p 1 189) (codes "n")) none)))) none))) none)))) none))))) none)))))) (more (list (p 2 1) (more (symbol (p 2 2) (codes "defskeleton")) (more (symbol (p 2 14) (codes "p")) (more (list (p 2 16) (more (symbol (p 2 17) (codes "defstrand")) (more (symbol (p 2 27) (codes "r")) (more (number (p 2 29) 1) none)))) (more (list (p 2 32) (more (symbol (p 2 33) (codes "vars")) none)) none))))) none))) ≡ Some (record { place = p 2 16; code = BadShape })
s_vars_place_strand_then_vars = refl

-- (defprotocol p basic (defrole r (vars (a b name) (n text) (k skey)) (trace (send (enc n a k)) (recv (enc n b (ltk a b))))) (defrole s (vars (a name) (n text)) (trace (recv n) (send (cat a n)))))
-- (defskeleton p (vars (a b name) (n m text) (k skey) (e akey) (d data)) (defstrand r 1) (uniq-orig (1 n)))
shape_assume_height_problem : first (faults_of (more (list (p 1 1) (more (symbol (p 1 2) (codes "defprotocol")) (more (symbol (p 1 14) (codes "p")) (more (symbol (p 1 16) (codes "basic")) (more (list (p 1 22) (more (symbol (p 1 23) (codes "defrole")) (more (symbol (p 1 31) (codes "r")) (more (list (p 1 33) (more (symbol (p 1 34) (codes "vars")) (more (list (p 1 39) (more (symbol (p 1 40) (codes "a")) (more (symbol (p 1 42) (codes "b")) (more (symbol (p 1 44) (codes "name")) none)))) (more (list (p 1 50) (more (symbol (p 1 51) (codes "n")) (more (symbol (p 1 53) (codes "text")) none))) (more (list (p 1 59) (more (symbol (p 1 60) (codes "k")) (more (symbol (p 1 62) (codes "skey")) none))) none))))) (more (list (p 1 69) (more (symbol (p 1 70) (codes "trace")) (more (list (p 1 76) (more (symbol (p 1 77) (codes "send")) (more (list (p 1 82) (more (symbol (p 1 83) (codes "enc")) (more (symbol (p 1 87) (codes "n")) (more (symbol (p 1 89) (codes "a")) (more (symbol (p 1 91) (codes "k")) none))))) none))) (more (list (p 1 95) (more (symbol (p 1 96) (codes "recv")) (more (list (p 1 101) (more (symbol (p 1 102) (codes "enc")) (more (symbol (p 1 106) (codes "n")) (more (symbol (p 1 108) (codes "b")) (more (list (p 1 110) (more (symbol (p 1 111) (codes "ltk")) (more (symbol (p 1 115) (codes "a")) (more (symbol (p 1 117) (codes "b")) none)))) none))))) none))) none)))) none))))) (more (list (p 1 124) (more (symbol (p 1 125) (codes "defrole")) (more (symbol (p 1 133) (codes "s")) (more (list (p 1 135) (more (symbol (p 1 136) (codes "vars")) (more (list (p 1 141) (more (symbol (p 1 142) (codes "a")) (more (symbol (p 1 144) (codes "name")) none))) (more (list (p 1 150) (more (symbol (p 1 151) (codes "n")) (more (symbol (p 1 153) (codes "text")) none))) none)))) (more (list (p 1 160) (more (symbol (p 1 161) (codes "trace")) (more (list (p 1 167) (more (symbol (p 1 168) (codes "recv")) (more (symbol (p 1 173) (codes "n")) none))) (more (list (p 1 176) (more (symbol (p 1 177) (codes "send")) (more (list (p 1 182) (more (symbol (p 1 183) (codes "cat")) (more (symbol (p 1 187) (codes "a")) (more (symbol (p 1 189) (codes "n")) none)))) none))) none)))) none))))) none)))))) (more (list (p 2 1) (more (symbol (p 2 2) (codes "defskeleton")) (more (symbol (p 2 14) (codes "p")) (more (list (p 2 16) (more (symbol (p 2 17) (codes "vars")) (more (list (p 2 22) (more (symbol (p 2 23) (codes "a")) (more (symbol (p 2 25) (codes "b")) (more (symbol (p 2 27) (codes "name")) none)))) (more (list (p 2 33) (more (symbol (p 2 34) (codes "n")) (more (symbol (p 2 36) (codes "m")) (more (symbol (p 2 38) (codes "text")) none)))) (more (list (p 2 44) (more (symbol (p 2 45) (codes "k")) (more (symbol (p 2 47) (codes "skey")) none))) (more (list (p 2 53) (more (symbol (p 2 54) (codes "e")) (more (symbol (p 2 56) (codes "akey")) none))) (more (list (p 2 62) (more (symbol (p 2 63) (codes "d")) (more (symbol (p 2 65) (codes "data")) none))) none))))))) (more (list (p 2 72) (more (symbol (p 2 73) (codes "defstrand")) (more (symbol (p 2 83) (codes "r")) (more (number (p 2 85) 1) none)))) (more (list (p 2 88) (more (symbol (p 2 89) (codes "uniq-orig")) (more (list (p 2 99) (more (number (p 2 100) 1) (more (symbol (p 2 102) (codes "n")) none))) none))) none)))))) none))) ≡ Some (record { place = p 2 99; code = BadShape })
shape_assume_height_problem = refl

-- (defprotocol p basic (defrole r (vars (a b name) (n text) (k skey) (e akey) (d data)) (trace (send (cat a b n d (enc n d k)))) (non-orig k 3)))
shape_assume_number : first (faults_of (more (list (p 1 1) (more (symbol (p 1 2) (codes "defprotocol")) (more (symbol (p 1 14) (codes "p")) (more (symbol (p 1 16) (codes "basic")) (more (list (p 1 22) (more (symbol (p 1 23) (codes "defrole")) (more (symbol (p 1 31) (codes "r")) (more (list (p 1 33) (more (symbol (p 1 34) (codes "vars")) (more (list (p 1 39) (more (symbol (p 1 40) (codes "a")) (more (symbol (p 1 42) (codes "b")) (more (symbol (p 1 44) (codes "name")) none)))) (more (list (p 1 50) (more (symbol (p 1 51) (codes "n")) (more (symbol (p 1 53) (codes "text")) none))) (more (list (p 1 59) (more (symbol (p 1 60) (codes "k")) (more (symbol (p 1 62) (codes "skey")) none))) (more (list (p 1 68) (more (symbol (p 1 69) (codes "e")) (more (symbol (p 1 71) (codes "akey")) none))) (more (list (p 1 77) (more (symbol (p 1 78) (codes "d")) (more (symbol (p 1 80) (codes "data")) none))) none))))))) (more (list (p 1 87) (more (symbol (p 1 88) (codes "trace")) (more (list (p 1 94) (more (symbol (p 1 95) (codes "send")) (more (list (p 1 100) (more (symbol (p 1 101) (codes "cat")) (more (symbol (p 1 105) (codes "a")) (more (symbol (p 1 107) (codes "b")) (more (symbol (p 1 109) (codes "n")) (more (symbol (p 1 111) (codes "d")) (more (list (p 1 113) (more (symbol (p 1 114) (codes "enc")) (more (symbol (p 1 118) (codes "n")) (more (symbol (p 1 120) (codes "d")) (more (symbol (p 1 122) (codes "k")) none))))) none))))))) none))) none))) (more (list (p 1 128) (more (symbol (p 1 129) (codes "non-orig")) (more (symbol (p 1 138) (codes "k")) (more (number (p 1 140) 3) none)))) none)))))) none))))) none)) ≡ Some (record { place = p 1 140; code = BadShape })
shape_assume_number = refl

-- (defprotocol p basic (defrole r (vars (a 5)) (trace (send "a"))))
shape_decl_number_sort : first (faults_of (more (list (p 1 1) (more (symbol (p 1 2) (codes "defprotocol")) (more (symbol (p 1 14) (codes "p")) (more (symbol (p 1 16) (codes "basic")) (more (list (p 1 22) (more (symbol (p 1 23) (codes "defrole")) (more (symbol (p 1 31) (codes "r")) (more (list (p 1 33) (more (symbol (p 1 34) (codes "vars")) (more (list (p 1 39) (more (symbol (p 1 40) (codes "a")) (more (number (p 1 42) 5) none))) none))) (more (list (p 1 46) (more (symbol (p 1 47) (codes "trace")) (more (list (p 1 53) (more (symbol (p 1 54) (codes "send")) (more (string (p 1 59) (codes "a")) none))) none))) none))))) none))))) none)) ≡ Some (record { place = p 1 42; code = BadShape })
shape_decl_number_sort = refl

-- (defprotocol p basic (defrole r (vars ("a" name)) (trace (send "a"))))
shape_decl_string_id : first (faults_of (more (list (p 1 1) (more (symbol (p 1 2) (codes "defprotocol")) (more (symbol (p 1 14) (codes "p")) (more (symbol (p 1 16) (codes "basic")) (more (list (p 1 22) (more (symbol (p 1 23) (codes "defrole")) (more (symbol (p 1 31) (codes "r")) (more (list (p 1 33) (more (symbol (p 1 34) (codes "vars")) (more (list (p 1 39) (more (string (p 1 40) (codes "a")) (more (symbol (p 1 44) (codes "name")) none))) none))) (more (list (p 1 51) (more (symbol (p 1 52) (codes "trace")) (more (list (p 1 58) (more (symbol (p 1 59) (codes "send")) (more (string (p 1 64) (codes "a")) none))) none))) none))))) none))))) none)) ≡ Some (record { place = p 1 40; code = BadShape })
shape_decl_string_id = refl

-- (defprotocol p basic (defrole r (vars (a b name) (n text) (k skey) (e akey) (d data)) (trace (send (enc)))))
shape_enc_none : first (faults_of (more (list (p 1 1) (more (symbol (p 1 2) (codes "defprotocol")) (more (symbol (p 1 14) (codes "p")) (more (symbol (p 1 16) (codes "basic")) (more (list (p 1 22) (more (symbol (p 1 23) (codes "defrole")) (more (symbol (p 1 31) (codes "r")) (more (list (p 1 33) (more (symbol (p 1 34) (codes "vars")) (more (list (p 1 39) (more (symbol (p 1 40) (codes "a")) (more (symbol (p 1 42) (codes "b")) (more (symbol (p 1 44) (codes "name")) none)))) (more (list (p 1 50) (more (symbol (p 1 51) (codes "n")) (more (symbol (p 1 53) (codes "text")) none))) (more (list (p 1 59) (more (symbol (p 1 60) (codes "k")) (more (symbol (p 1 62) (codes "skey")) none))) (more (list (p 1 68) (more (symbol (p 1 69) (codes "e")) (more (symbol (p 1 71) (codes "akey")) none))) (more (list (p 1 77) (more (symbol (p 1 78) (codes "d")) (more (symbol (p 1 80) (codes "data")) none))) none))))))) (more (list (p 1 87) (more (symbol (p 1 88) (codes "trace")) (more (list (p 1 94) (more (symbol (p 1 95) (codes "send")) (more (list (p 1 100) (more (symbol (p 1 101) (codes "enc")) none)) none))) none))) none))))) none))))) none)) ≡ Some (record { place = p 1 100; code = BadShape })
shape_enc_none = refl

-- (defprotocol p basic (defrole r (vars (a b name) (n text) (k skey) (e akey) (d data)) (trace (send (invk)))))
shape_invk_none : first (faults_of (more (list (p 1 1) (more (symbol (p 1 2) (codes "defprotocol")) (more (symbol (p 1 14) (codes "p")) (more (symbol (p 1 16) (codes "basic")) (more (list (p 1 22) (more (symbol (p 1 23) (codes "defrole")) (more (symbol (p 1 31) (codes "r")) (more (list (p 1 33) (more (symbol (p 1 34) (codes "vars")) (more (list (p 1 39) (more (symbol (p 1 40) (codes "a")) (more (symbol (p 1 42) (codes "b")) (more (symbol (p 1 44) (codes "name")) none)))) (more (list (p 1 50) (more (symbol (p 1 51) (codes "n")) (more (symbol (p 1 53) (codes "text")) none))) (more (list (p 1 59) (more (symbol (p 1 60) (codes "k")) (more (symbol (p 1 62) (codes "skey")) none))) (more (list (p 1 68) (more (symbol (p 1 69) (codes "e")) (more (symbol (p 1 71) (codes "akey")) none))) (more (list (p 1 77) (more (symbol (p 1 78) (codes "d")) (more (symbol (p 1 80) (codes "data")) none))) none))))))) (more (list (p 1 87) (more (symbol (p 1 88) (codes "trace")) (more (list (p 1 94) (more (symbol (p 1 95) (codes "send")) (more (list (p 1 100) (more (symbol (p 1 101) (codes "invk")) none)) none))) none))) none))))) none))))) none)) ≡ Some (record { place = p 1 100; code = BadShape })
shape_invk_none = refl

-- (defprotocol p basic (defrole r (vars (a b name) (n text) (k skey) (e akey) (d data)) (trace (send (invk e e)))))
shape_invk_two : first (faults_of (more (list (p 1 1) (more (symbol (p 1 2) (codes "defprotocol")) (more (symbol (p 1 14) (codes "p")) (more (symbol (p 1 16) (codes "basic")) (more (list (p 1 22) (more (symbol (p 1 23) (codes "defrole")) (more (symbol (p 1 31) (codes "r")) (more (list (p 1 33) (more (symbol (p 1 34) (codes "vars")) (more (list (p 1 39) (more (symbol (p 1 40) (codes "a")) (more (symbol (p 1 42) (codes "b")) (more (symbol (p 1 44) (codes "name")) none)))) (more (list (p 1 50) (more (symbol (p 1 51) (codes "n")) (more (symbol (p 1 53) (codes "text")) none))) (more (list (p 1 59) (more (symbol (p 1 60) (codes "k")) (more (symbol (p 1 62) (codes "skey")) none))) (more (list (p 1 68) (more (symbol (p 1 69) (codes "e")) (more (symbol (p 1 71) (codes "akey")) none))) (more (list (p 1 77) (more (symbol (p 1 78) (codes "d")) (more (symbol (p 1 80) (codes "data")) none))) none))))))) (more (list (p 1 87) (more (symbol (p 1 88) (codes "trace")) (more (list (p 1 94) (more (symbol (p 1 95) (codes "send")) (more (list (p 1 100) (more (symbol (p 1 101) (codes "invk")) (more (symbol (p 1 106) (codes "e")) (more (symbol (p 1 108) (codes "e")) none)))) none))) none))) none))))) none))))) none)) ≡ Some (record { place = p 1 108; code = BadShape })
shape_invk_two = refl

-- (defprotocol p basic (defrole r (vars (a b name) (n text) (k skey) (e akey) (d data)) (trace (send (ltk a b a)))))
shape_ltk_three : first (faults_of (more (list (p 1 1) (more (symbol (p 1 2) (codes "defprotocol")) (more (symbol (p 1 14) (codes "p")) (more (symbol (p 1 16) (codes "basic")) (more (list (p 1 22) (more (symbol (p 1 23) (codes "defrole")) (more (symbol (p 1 31) (codes "r")) (more (list (p 1 33) (more (symbol (p 1 34) (codes "vars")) (more (list (p 1 39) (more (symbol (p 1 40) (codes "a")) (more (symbol (p 1 42) (codes "b")) (more (symbol (p 1 44) (codes "name")) none)))) (more (list (p 1 50) (more (symbol (p 1 51) (codes "n")) (more (symbol (p 1 53) (codes "text")) none))) (more (list (p 1 59) (more (symbol (p 1 60) (codes "k")) (more (symbol (p 1 62) (codes "skey")) none))) (more (list (p 1 68) (more (symbol (p 1 69) (codes "e")) (more (symbol (p 1 71) (codes "akey")) none))) (more (list (p 1 77) (more (symbol (p 1 78) (codes "d")) (more (symbol (p 1 80) (codes "data")) none))) none))))))) (more (list (p 1 87) (more (symbol (p 1 88) (codes "trace")) (more (list (p 1 94) (more (symbol (p 1 95) (codes "send")) (more (list (p 1 100) (more (symbol (p 1 101) (codes "ltk")) (more (symbol (p 1 105) (codes "a")) (more (symbol (p 1 107) (codes "b")) (more (symbol (p 1 109) (codes "a")) none))))) none))) none))) none))))) none))))) none)) ≡ Some (record { place = p 1 109; code = BadShape })
shape_ltk_three = refl

-- (defprotocol p basic (defrole r (vars (a b name) (n text) (k skey)) (trace (send (enc n a k)) (recv (enc n b (ltk a b))))) (defrole s (vars (a name) (n text)) (trace (recv n) (send (cat a n)))))
-- (defskeleton p (vars (a b name) (n m text) (k skey) (e akey) (d data)) (defstrand r 1 (a)))
shape_maplet_one : first (faults_of (more (list (p 1 1) (more (symbol (p 1 2) (codes "defprotocol")) (more (symbol (p 1 14) (codes "p")) (more (symbol (p 1 16) (codes "basic")) (more (list (p 1 22) (more (symbol (p 1 23) (codes "defrole")) (more (symbol (p 1 31) (codes "r")) (more (list (p 1 33) (more (symbol (p 1 34) (codes "vars")) (more (list (p 1 39) (more (symbol (p 1 40) (codes "a")) (more (symbol (p 1 42) (codes "b")) (more (symbol (p 1 44) (codes "name")) none)))) (more (list (p 1 50) (more (symbol (p 1 51) (codes "n")) (more (symbol (p 1 53) (codes "text")) none))) (more (list (p 1 59) (more (symbol (p 1 60) (codes "k")) (more (symbol (p 1 62) (codes "skey")) none))) none))))) (more (list (p 1 69) (more (symbol (p 1 70) (codes "trace")) (more (list (p 1 76) (more (symbol (p 1 77) (codes "send")) (more (list (p 1 82) (more (symbol (p 1 83) (codes "enc")) (more (symbol (p 1 87) (codes "n")) (more (symbol (p 1 89) (codes "a")) (more (symbol (p 1 91) (codes "k")) none))))) none))) (more (list (p 1 95) (more (symbol (p 1 96) (codes "recv")) (more (list (p 1 101) (more (symbol (p 1 102) (codes "enc")) (more (symbol (p 1 106) (codes "n")) (more (symbol (p 1 108) (codes "b")) (more (list (p 1 110) (more (symbol (p 1 111) (codes "ltk")) (more (symbol (p 1 115) (codes "a")) (more (symbol (p 1 117) (codes "b")) none)))) none))))) none))) none)))) none))))) (more (list (p 1 124) (more (symbol (p 1 125) (codes "defrole")) (more (symbol (p 1 133) (codes "s")) (more (list (p 1 135) (more (symbol (p 1 136) (codes "vars")) (more (list (p 1 141) (more (symbol (p 1 142) (codes "a")) (more (symbol (p 1 144) (codes "name")) none))) (more (list (p 1 150) (more (symbol (p 1 151) (codes "n")) (more (symbol (p 1 153) (codes "text")) none))) none)))) (more (list (p 1 160) (more (symbol (p 1 161) (codes "trace")) (more (list (p 1 167) (more (symbol (p 1 168) (codes "recv")) (more (symbol (p 1 173) (codes "n")) none))) (more (list (p 1 176) (more (symbol (p 1 177) (codes "send")) (more (list (p 1 182) (more (symbol (p 1 183) (codes "cat")) (more (symbol (p 1 187) (codes "a")) (more (symbol (p 1 189) (codes "n")) none)))) none))) none)))) none))))) none)))))) (more (list (p 2 1) (more (symbol (p 2 2) (codes "defskeleton")) (more (symbol (p 2 14) (codes "p")) (more (list (p 2 16) (more (symbol (p 2 17) (codes "vars")) (more (list (p 2 22) (more (symbol (p 2 23) (codes "a")) (more (symbol (p 2 25) (codes "b")) (more (symbol (p 2 27) (codes "name")) none)))) (more (list (p 2 33) (more (symbol (p 2 34) (codes "n")) (more (symbol (p 2 36) (codes "m")) (more (symbol (p 2 38) (codes "text")) none)))) (more (list (p 2 44) (more (symbol (p 2 45) (codes "k")) (more (symbol (p 2 47) (codes "skey")) none))) (more (list (p 2 53) (more (symbol (p 2 54) (codes "e")) (more (symbol (p 2 56) (codes "akey")) none))) (more (list (p 2 62) (more (symbol (p 2 63) (codes "d")) (more (symbol (p 2 65) (codes "data")) none))) none))))))) (more (list (p 2 72) (more (symbol (p 2 73) (codes "defstrand")) (more (symbol (p 2 83) (codes "r")) (more (number (p 2 85) 1) (more (list (p 2 87) (more (symbol (p 2 88) (codes "a")) none)) none))))) none))))) none))) ≡ Some (record { place = p 2 87; code = BadShape })
shape_maplet_one = refl

-- (defprotocol p basic (defrole r (vars (a b name) (n text) (k skey)) (trace (send (enc n a k)) (recv (enc n b (ltk a b))))) (defrole s (vars (a name) (n text)) (trace (recv n) (send (cat a n)))))
-- (defskeleton p (vars (a b name) (n m text) (k skey) (e akey) (d data)) (defstrand r 1 ("a" a)))
shape_maplet_string : first (faults_of (more (list (p 1 1) (more (symbol (p 1 2) (codes "defprotocol")) (more (symbol (p 1 14) (codes "p")) (more (symbol (p 1 16) (codes "basic")) (more (list (p 1 22) (more (symbol (p 1 23) (codes "defrole")) (more (symbol (p 1 31) (codes "r")) (more (list (p 1 33) (more (symbol (p 1 34) (codes "vars")) (more (list (p 1 39) (more (symbol (p 1 40) (codes "a")) (more (symbol (p 1 42) (codes "b")) (more (symbol (p 1 44) (codes "name")) none)))) (more (list (p 1 50) (more (symbol (p 1 51) (codes "n")) (more (symbol (p 1 53) (codes "text")) none))) (more (list (p 1 59) (more (symbol (p 1 60) (codes "k")) (more (symbol (p 1 62) (codes "skey")) none))) none))))) (more (list (p 1 69) (more (symbol (p 1 70) (codes "trace")) (more (list (p 1 76) (more (symbol (p 1 77) (codes "send")) (more (list (p 1 82) (more (symbol (p 1 83) (codes "enc")) (more (symbol (p 1 87) (codes "n")) (more (symbol (p 1 89) (codes "a")) (more (symbol (p 1 91) (codes "k")) none))))) none))) (more (list (p 1 95) (more (symbol (p 1 96) (codes "recv")) (more (list (p 1 101) (more (symbol (p 1 102) (codes "enc")) (more (symbol (p 1 106) (codes "n")) (more (symbol (p 1 108) (codes "b")) (more (list (p 1 110) (more (symbol (p 1 111) (codes "ltk")) (more (symbol (p 1 115) (codes "a")) (more (symbol (p 1 117) (codes "b")) none)))) none))))) none))) none)))) none))))) (more (list (p 1 124) (more (symbol (p 1 125) (codes "defrole")) (more (symbol (p 1 133) (codes "s")) (more (list (p 1 135) (more (symbol (p 1 136) (codes "vars")) (more (list (p 1 141) (more (symbol (p 1 142) (codes "a")) (more (symbol (p 1 144) (codes "name")) none))) (more (list (p 1 150) (more (symbol (p 1 151) (codes "n")) (more (symbol (p 1 153) (codes "text")) none))) none)))) (more (list (p 1 160) (more (symbol (p 1 161) (codes "trace")) (more (list (p 1 167) (more (symbol (p 1 168) (codes "recv")) (more (symbol (p 1 173) (codes "n")) none))) (more (list (p 1 176) (more (symbol (p 1 177) (codes "send")) (more (list (p 1 182) (more (symbol (p 1 183) (codes "cat")) (more (symbol (p 1 187) (codes "a")) (more (symbol (p 1 189) (codes "n")) none)))) none))) none)))) none))))) none)))))) (more (list (p 2 1) (more (symbol (p 2 2) (codes "defskeleton")) (more (symbol (p 2 14) (codes "p")) (more (list (p 2 16) (more (symbol (p 2 17) (codes "vars")) (more (list (p 2 22) (more (symbol (p 2 23) (codes "a")) (more (symbol (p 2 25) (codes "b")) (more (symbol (p 2 27) (codes "name")) none)))) (more (list (p 2 33) (more (symbol (p 2 34) (codes "n")) (more (symbol (p 2 36) (codes "m")) (more (symbol (p 2 38) (codes "text")) none)))) (more (list (p 2 44) (more (symbol (p 2 45) (codes "k")) (more (symbol (p 2 47) (codes "skey")) none))) (more (list (p 2 53) (more (symbol (p 2 54) (codes "e")) (more (symbol (p 2 56) (codes "akey")) none))) (more (list (p 2 62) (more (symbol (p 2 63) (codes "d")) (more (symbol (p 2 65) (codes "data")) none))) none))))))) (more (list (p 2 72) (more (symbol (p 2 73) (codes "defstrand")) (more (symbol (p 2 83) (codes "r")) (more (number (p 2 85) 1) (more (list (p 2 87) (more (string (p 2 88) (codes "a")) (more (symbol (p 2 92) (codes "a")) none))) none))))) none))))) none))) ≡ Some (record { place = p 2 88; code = BadShape })
shape_maplet_string = refl

-- (defprotocol p basic (defrole r (vars (a b name) (n text) (k skey) (e akey) (d data)) (trace (send (privk "x" a b)))))
shape_pubk_three : first (faults_of (more (list (p 1 1) (more (symbol (p 1 2) (codes "defprotocol")) (more (symbol (p 1 14) (codes "p")) (more (symbol (p 1 16) (codes "basic")) (more (list (p 1 22) (more (symbol (p 1 23) (codes "defrole")) (more (symbol (p 1 31) (codes "r")) (more (list (p 1 33) (more (symbol (p 1 34) (codes "vars")) (more (list (p 1 39) (more (symbol (p 1 40) (codes "a")) (more (symbol (p 1 42) (codes "b")) (more (symbol (p 1 44) (codes "name")) none)))) (more (list (p 1 50) (more (symbol (p 1 51) (codes "n")) (more (symbol (p 1 53) (codes "text")) none))) (more (list (p 1 59) (more (symbol (p 1 60) (codes "k")) (more (symbol (p 1 62) (codes "skey")) none))) (more (list (p 1 68) (more (symbol (p 1 69) (codes "e")) (more (symbol (p 1 71) (codes "akey")) none))) (more (list (p 1 77) (more (symbol (p 1 78) (codes "d")) (more (symbol (p 1 80) (codes "data")) none))) none))))))) (more (list (p 1 87) (more (symbol (p 1 88) (codes "trace")) (more (list (p 1 94) (more (symbol (p 1 95) (codes "send")) (more (list (p 1 100) (more (symbol (p 1 101) (codes "privk")) (more (string (p 1 107) (codes "x")) (more (symbol (p 1 111) (codes "a")) (more (symbol (p 1 113) (codes "b")) none))))) none))) none))) none))))) none))))) none)) ≡ Some (record { place = p 1 113; code = BadShape })
shape_pubk_three = refl

-- (defprotocol p basic (defrole r (vars (a b name) (n text) (k skey) (e akey) (d data)) (trace (send (cat a b n d (enc n d k)))) (non-orig k) non-orig))
shape_role_item_symbol : first (faults_of (more (list (p 1 1) (more (symbol (p 1 2) (codes "defprotocol")) (more (symbol (p 1 14) (codes "p")) (more (symbol (p 1 16) (codes "basic")) (more (list (p 1 22) (more (symbol (p 1 23) (codes "defrole")) (more (symbol (p 1 31) (codes "r")) (more (list (p 1 33) (more (symbol (p 1 34) (codes "vars")) (more (list (p 1 39) (more (symbol (p 1 40) (codes "a")) (more (symbol (p 1 42) (codes "b")) (more (symbol (p 1 44) (codes "name")) none)))) (more (list (p 1 50) (more (symbol (p 1 51) (codes "n")) (more (symbol (p 1 53) (codes "text")) none))) (more (list (p 1 59) (more (symbol (p 1 60) (codes "k")) (more (symbol (p 1 62) (codes "skey")) none))) (more (list (p 1 68) (more (symbol (p 1 69) (codes "e")) (more (symbol (p 1 71) (codes "akey")) none))) (more (list (p 1 77) (more (symbol (p 1 78) (codes "d")) (more (symbol (p 1 80) (codes "data")) none))) none))))))) (more (list (p 1 87) (more (symbol (p 1 88) (codes "trace")) (more (list (p 1 94) (more (symbol (p 1 95) (codes "send")) (more (list (p 1 100) (more (symbol (p 1 101) (codes "cat")) (more (symbol (p 1 105) (codes "a")) (more (symbol (p 1 107) (codes "b")) (more (symbol (p 1 109) (codes "n")) (more (symbol (p 1 111) (codes "d")) (more (list (p 1 113) (more (symbol (p 1 114) (codes "enc")) (more (symbol (p 1 118) (codes "n")) (more (symbol (p 1 120) (codes "d")) (more (symbol (p 1 122) (codes "k")) none))))) none))))))) none))) none))) (more (list (p 1 128) (more (symbol (p 1 129) (codes "non-orig")) (more (symbol (p 1 138) (codes "k")) none))) (more (symbol (p 1 141) (codes "non-orig")) none))))))) none))))) none)) ≡ Some (record { place = p 1 141; code = BadShape })
shape_role_item_symbol = refl

-- (defprotocol p basic (defrole r (vars (a name))))
shape_role_no_trace : first (faults_of (more (list (p 1 1) (more (symbol (p 1 2) (codes "defprotocol")) (more (symbol (p 1 14) (codes "p")) (more (symbol (p 1 16) (codes "basic")) (more (list (p 1 22) (more (symbol (p 1 23) (codes "defrole")) (more (symbol (p 1 31) (codes "r")) (more (list (p 1 33) (more (symbol (p 1 34) (codes "vars")) (more (list (p 1 39) (more (symbol (p 1 40) (codes "a")) (more (symbol (p 1 42) (codes "name")) none))) none))) none)))) none))))) none)) ≡ Some (record { place = p 1 22; code = BadShape })
shape_role_no_trace = refl

-- (defprotocol p basic (defrole r (vars) trace))
shape_role_trace_symbol : first (faults_of (more (list (p 1 1) (more (symbol (p 1 2) (codes "defprotocol")) (more (symbol (p 1 14) (codes "p")) (more (symbol (p 1 16) (codes "basic")) (more (list (p 1 22) (more (symbol (p 1 23) (codes "defrole")) (more (symbol (p 1 31) (codes "r")) (more (list (p 1 33) (more (symbol (p 1 34) (codes "vars")) none)) (more (symbol (p 1 40) (codes "trace")) none))))) none))))) none)) ≡ Some (record { place = p 1 40; code = BadShape })
shape_role_trace_symbol = refl
