-- Whether a pair may follow others, test by test.
use Rattle.std.proofs.Common.{◌≡◌, List, length, Bool, true, false, not, ◌&&◌, refl}
use Rattle.std.specs.Prelude.{Some}
use Rattle.cp_model.specs.Skeleton.{SkeletonStrand, term_event_at}
use Rattle.cp_model.specs.OrderTests.{reaches_within}
use Rattle.cp_model.specs.declared.node.OrderPair.{OrderPair}
use Rattle.cp_language.specs.Problems.{on_one_strand, is_some_transmission, is_some_reception}
use Rattle.cp_report.specs.Skeletons.{has_pair, is_further_pair}

-- ---- the five tests

module _ (a b c d e : Bool) where
  abbrev all_tests : Bool
  all_tests = a && b && not c && not d && not e

not_first : (a b c d e : Bool) → a ≡ false → false ≡ all_tests a b c d e
not_first true b c d e h = absurd (cc)
not_first false b c d e h = refl

not_second : (a b c d e : Bool) → b ≡ false → false ≡ all_tests a b c d e
not_second a true c d e h = absurd (cc)
not_second true false c d e h = refl
not_second false false c d e h = refl

third : (a b c d e : Bool) → c ≡ true → false ≡ all_tests a b c d e
third a b false d e h = absurd (cc)
third true true true d e h = refl
third true false true d e h = refl
third false b true d e h = refl

fourth : (a b c d e : Bool) → d ≡ true → false ≡ all_tests a b c d e
fourth a b c false e h = absurd (cc)
fourth true true true true e h = refl
fourth true true false true e h = refl
fourth true false c true e h = refl
fourth false b c true e h = refl

fifth : (a b c d e : Bool) → a ≡ true → b ≡ true → c ≡ false → d ≡ false → not e ≡ all_tests a b c d e
fifth true true false false e h i j k = refl
fifth true true false true e h i j k = absurd (cc)
fifth true true true d e h i j k = absurd (cc)
fifth true false c d e h i j k = absurd (cc)
fifth false b c d e h i j k = absurd (cc)

-- ---- of a pair behind others

module _ (ks : List SkeletonStrand) (ps : List OrderPair) (p : OrderPair) where
  abbrev sends : Bool
  sends = is_some_transmission (term_event_at ks p.earlier)

  abbrev receives : Bool
  receives = is_some_reception (term_event_at ks p.later)

  abbrev leads_back : Bool
  leads_back = reaches_within (length ps) ps p.later p.earlier

  pub no-transmission : sends ≡ false → false ≡ is_further_pair ks ps (Some p)
  no-transmission = not_first sends receives (on_one_strand p) (has_pair ps p) leads_back

  pub no-reception : receives ≡ false → false ≡ is_further_pair ks ps (Some p)
  no-reception = not_second sends receives (on_one_strand p) (has_pair ps p) leads_back

  pub one-strand : on_one_strand p ≡ true → false ≡ is_further_pair ks ps (Some p)
  one-strand = third sends receives (on_one_strand p) (has_pair ps p) leads_back

  pub stood-before : has_pair ps p ≡ true → false ≡ is_further_pair ks ps (Some p)
  stood-before = fourth sends receives (on_one_strand p) (has_pair ps p) leads_back

  pub way-back : sends ≡ true → receives ≡ true → on_one_strand p ≡ false → has_pair ps p ≡ false → not leads_back ≡ is_further_pair ks ps (Some p)
  way-back = fifth sends receives (on_one_strand p) (has_pair ps p) leads_back
