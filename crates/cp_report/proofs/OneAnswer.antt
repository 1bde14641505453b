-- Forms are read back with exactly one answer: the report that they are, or the first place at which they fit none.
use Rattle.std.proofs.Common.{◌≡◌, ℕ, List, [], ◌∷◌, Bool, true, false, refl, sym, ◌∙◌, ap, subst, arith}
use Rattle.std.specs.Prelude.{Result, Ok, Err, map, nat_lt, ◌==◌, ◌||◌, ◌&&◌}
use Rattle.std.proofs.lemmas.Bool.Decides.{nat_tests}
use Rattle.cp_base.specs.declared.place.Place.{Place}
use Rattle.cp_base.specs.declared.place.Code.TheVariants.{BadShape}
use Rattle.cp_base.specs.declared.place.Refusal.{Refusal}
use Rattle.cp_lists.specs.Lists.{IsIn}
use Rattle.cp_lists.proofs.Members.{into_map, from_map, none_in_empty}
use Rattle.cp_sexpr.specs.Syntax.{Forms}
use Rattle.cp_language.specs.FirstFault.{refusal_before, IsFirstFault}
use Rattle.cp_language.proofs.OneAnswer.{first_fault, one_first as one_first_fault}
use Rattle.cp_report.specs.Misfits.{place_before, IsFirstMisfit}
use Rattle.cp_report.specs.ReadBack.{misfits, Report, report_of, IsReadBack}

-- ---- the order of places

-- of three, what does not stand before the first, where the second does not and the third not before the second
pub not_before : (l m n c d e : ℕ) →
    (nat_lt m l || ((m == l) && nat_lt d c)) ≡ false → (nat_lt n m || ((n == m) && nat_lt e d)) ≡ false → (nat_lt n l || ((n == l) && nat_lt e c)) ≡ false
not_before l m n c d e g h = grind (arith, nat_tests)

-- ---- misfits in the order of faults

-- A place as that of a fault, which are all of one kind.
abbrev at_place : Place → Refusal
at_place p = record { place = p; code = BadShape }

-- faults of one kind stand in the order of their places
by_place : (a b c d : Bool) → (a || (b && (c || (d && false)))) ≡ (a || (b && c))
by_place true b c d = refl
by_place false false c d = refl
by_place false true true d = refl
by_place false true false true = refl
by_place false true false false = refl

same_order : (p q : Place) → refusal_before (at_place p) (at_place q) ≡ place_before p q
same_order p q = by_place (nat_lt p.line q.line) (p.line == q.line) (nat_lt p.col q.col) (p.col == q.col)

as_fault : (places : List Place) (p : Place) → IsFirstMisfit places p → IsFirstFault (map at_place places) (at_place p)
as_fault places p h = record { listed = into_map at_place h.listed; first = all }
  where
    all : (s : Refusal) → IsIn s (map at_place places) → refusal_before s (at_place p) ≡ false
    all s m = let r = from_map at_place places m in subst (λ (t : Refusal). refusal_before t (at_place p) ≡ false) r.2 (same_order r.0 p ∙ h.first r.0 r.1)

as_misfit : (places : List Place) (p : Place) → IsIn p places → IsFirstFault (map at_place places) (at_place p) → IsFirstMisfit places p
as_misfit places p m h = record { listed = m; first = λ q i. sym (same_order q p) ∙ h.first (at_place q) (into_map at_place i) }

-- a list of misfits has one first at most
pub one_first : (places : List Place) (p q : Place) → IsFirstMisfit places p → IsFirstMisfit places q → p ≡ q
one_first places p q g h = ap (λ (r : Refusal). r.place) (one_first_fault (map at_place places) (at_place p) (at_place q) (as_fault places p g) (as_fault places q h))

-- and one if it is not empty
pub first_misfit : (p : Place) (places : List Place) → (q : Place) × IsFirstMisfit (p ∷ places) q
first_misfit p places =
    let f = first_fault (at_place p) (map at_place places) in
    let r = from_map at_place (p ∷ places) f.1.listed in
    (r.0, as_misfit (p ∷ places) r.0 r.1 (subst (IsFirstFault (map at_place (p ∷ places))) (sym r.2) f.1))

-- ---- answers

pub one_answer : (fs : Forms) (a b : Result Report Place) → IsReadBack fs a → IsReadBack fs b → a ≡ b
one_answer fs (Ok r) (Ok s) g h = ap Ok (g.1 ∙ sym h.1)
one_answer fs (Ok r) (Err p) g h = absurd (none_in_empty g.0 h.listed)
one_answer fs (Err p) (Ok r) g h = absurd (none_in_empty h.0 g.listed)
one_answer fs (Err p) (Err q) g h = ap Err (one_first (misfits fs) p q g h)

some_by : (fs : Forms) (places : List Place) → misfits fs ≡ places → (a : Result Report Place) × IsReadBack fs a
some_by fs [] e = (Ok (report_of fs), (e, refl))
some_by fs (p ∷ ps) e = let f = first_misfit p ps in (Err f.0, subst (λ l. IsFirstMisfit l f.0) (sym e) f.1)

pub some_answer : (fs : Forms) → (a : Result Report Place) × IsReadBack fs a
some_answer fs = some_by fs (misfits fs) refl
