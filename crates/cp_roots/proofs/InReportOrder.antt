-- A skeleton whose assumptions stand in the order of a report says what it said before: the assumptions are the same.
use Rattle.std.proofs.Common.{ℕ, List, length, refl, le_refl}
use Rattle.cp_lists.specs.Lists.{IsIn, one_step, more_steps}
use Rattle.cp_model.specs.Term.{AtomTerm}
use Rattle.cp_model.specs.Bindings.{Binding}
use Rattle.cp_model.specs.declared.variable.Variable.{Variable}
use Rattle.cp_model.specs.Strand.{Role, Protocol}
use Rattle.cp_model.specs.declared.variable.Declaration.{Declaration}
use Rattle.cp_model.specs.Bundle.{Bundle}
use Rattle.cp_model.specs.declared.node.Node.{Node}
use Rattle.cp_model.specs.Skeleton.{UniqueAt, Skeleton, OrderStep, along_strand_of, along_pair, Before, IsOrderPair, IsOrigin, GivesAssumptions, IsSkeleton}
use Rattle.cp_model.specs.declared.node.OrderPair.{OrderPair}
use Rattle.cp_model.specs.Realisation.{OriginatesAtTerm, KeepsAssumptions}
use Rattle.cp_model.specs.Standing.{Standing, StandsIn, StandsApart}
use Rattle.cp_model.specs.Homomorphism.{SkeletonMap, GoesToInstance, IsHomomorphism, map_from_problem, CarriesHomomorphism, FactorsThrough}
use Rattle.cp_model.specs.Problem.{IsDeclared, variables_of_atoms, variables_of_uniques, variables_of_assumptions}
use Rattle.cp_model.specs.PointOfView.{HasDeclaredVariables}
use Rattle.cp_model.specs.Given.{listed}
use Rattle.cp_model.specs.Stated.{KeepsStated}
use Rattle.cp_lists.proofs.Members.{in_append_left}
use Rattle.cp_model.proofs.StatedStays.{stated_stays}
use Rattle.cp_theory.specs.Normal.{SaysNoMore}
use Rattle.cp_theory.proofs.Weaker.{stands_too}
use Rattle.cp_skel.proofs.EachOnce.{listed-non, listed-penetrator-non, listed-unique}
use Rattle.cp_roots.specs.Roots.{in_report_order}
use Rattle.cp_model.proofs.OccurringVariables.{atom_with, unique_with}
use Rattle.cp_collapse.proofs.VariablesOfCollapses.{of_each_part, non_declared, penetrator_non_declared, unique_declared}

module _ (k : Skeleton) where
  -- ---- the same assumptions

  was_non : (v : AtomTerm) → IsIn v (listed k).non_originating → IsIn v k.assumptions.non_originating
  was_non v i = ((listed-non k).same v).0 i

  still_non : (v : AtomTerm) → IsIn v k.assumptions.non_originating → IsIn v (listed k).non_originating
  still_non v i = ((listed-non k).same v).1 i

  was_penetrator_non : (v : AtomTerm) → IsIn v (listed k).penetrator_non_originating → IsIn v k.assumptions.penetrator_non_originating
  was_penetrator_non v i = ((listed-penetrator-non k).same v).0 i

  still_penetrator_non : (v : AtomTerm) → IsIn v k.assumptions.penetrator_non_originating → IsIn v (listed k).penetrator_non_originating
  still_penetrator_non v i = ((listed-penetrator-non k).same v).1 i

  was_unique : (u : UniqueAt) → IsIn u (listed k).uniquely_originating → IsIn u k.assumptions.uniquely_originating
  was_unique u i = ((listed-unique k).same u).0 i

  still_unique : (u : UniqueAt) → IsIn u k.assumptions.uniquely_originating → IsIn u (listed k).uniquely_originating
  still_unique u i = ((listed-unique k).same u).1 i

  -- ---- the same order

  was_step : {x y : Node} → OrderStep (in_report_order k) x y → OrderStep k x y
  was_step (along_strand_of e) = along_strand_of e
  was_step (along_pair i) = along_pair i

  was_before : {x y : Node} → Before (in_report_order k) x y → Before k x y
  was_before (one_step s) = one_step (was_step s)
  was_before (more_steps s p) = more_steps (was_step s) (was_before p)

  still_step : {x y : Node} → OrderStep k x y → OrderStep (in_report_order k) x y
  still_step (along_strand_of e) = along_strand_of e
  still_step (along_pair i) = along_pair i

  still_before : {x y : Node} → Before k x y → Before (in_report_order k) x y
  still_before (one_step s) = one_step (still_step s)
  still_before (more_steps s p) = more_steps (still_step s) (still_before p)

  -- ---- a skeleton over a protocol, whose assumptions are true

  pair_listed : (p : OrderPair) → IsOrderPair k p → IsOrderPair (in_report_order k) p
  pair_listed p o = record { sent = o.sent; received = o.received; transmission = o.transmission; reception = o.reception; between_strands = o.between_strands }

  origin_listed : (u : UniqueAt) → IsOrigin k u → IsOrigin (in_report_order k) u
  origin_listed u o = record { role = o.role; height = o.height; terms = o.terms; on_instance = o.on_instance; sent = o.sent; transmission = o.transmission; carried = o.carried }

  given_listed : (s : ℕ) (role : Role) (height : ℕ) (terms : List Binding) → GivesAssumptions k s role height terms → GivesAssumptions (in_report_order k) s role height terms
  given_listed s role height terms g = record {
    non = λ v i applies. still_non _ (g.non v i applies);
    penetrator_non = λ v i applies. still_penetrator_non _ (g.penetrator_non v i applies);
    unique = λ v n i applies. still_unique _ (g.unique v n i applies);
  }

  pub skeleton_listed : (protocol : Protocol) → IsSkeleton protocol k → IsSkeleton protocol (in_report_order k)
  skeleton_listed protocol sk = record {
    of_role = sk.of_role;
    heights = sk.heights;
    order_pairs = λ p i. pair_listed p (sk.order_pairs p i);
    no_cycle = λ n before. sk.no_cycle n (was_before before);
    origins = λ u i. origin_listed u (sk.origins u (was_unique u i));
    given = λ s role height terms at. given_listed s role height terms (sk.given s role height terms at);
  }

  was_originating : (v : AtomTerm) (n : Node) → OriginatesAtTerm (in_report_order k) v n → OriginatesAtTerm k v n
  was_originating v n o = (record { role = o.0.role; height = o.0.height; terms = o.0.terms; on_instance = o.0.on_instance }, o.1)

  still_originating : (v : AtomTerm) (n : Node) → OriginatesAtTerm k v n → OriginatesAtTerm (in_report_order k) v n
  still_originating v n o = (record { role = o.0.role; height = o.0.height; terms = o.0.terms; on_instance = o.0.on_instance }, o.1)

  pub assumptions_listed : KeepsAssumptions k → KeepsAssumptions (in_report_order k)
  assumptions_listed keeps = record {
    non = λ v n i o. keeps.non v n (was_non v i) (was_originating v n o);
    unique = λ u i. still_originating u.value u.origin (keeps.unique u (was_unique u i));
    only = λ u n i o. keeps.only u n (was_unique u i) (was_originating u.value n o);
  }

  -- ---- maps from the problem, and standings

  goes_listed : (f : SkeletonMap) (s : ℕ) (role : Role) (height : ℕ) (terms : List Binding) → GoesToInstance k f s role height terms → GoesToInstance (in_report_order k) f s role height terms
  goes_listed f s role height terms g = record { to_height = g.to_height; to_terms = g.to_terms; on_instance = g.on_instance; at_least = g.at_least; equal_terms = g.equal_terms }

  homomorphism_listed : (problem : Skeleton) (f : SkeletonMap) → IsHomomorphism problem k f → IsHomomorphism problem (in_report_order k) f
  homomorphism_listed problem f hom = record {
    instances = λ s role height terms at. goes_listed f s role height terms (hom.instances s role height terms at);
    listeners = hom.listeners;
    ordered = λ x y before. still_before (hom.ordered x y before);
    non = λ v i. still_non _ (hom.non v i);
    penetrator_non = λ v i. still_penetrator_non _ (hom.penetrator_non v i);
    unique = λ u i. still_unique _ (hom.unique u i);
  }

  pub carries_listed : (problem : Skeleton) → CarriesHomomorphism problem k → CarriesHomomorphism problem (in_report_order k)
  carries_listed problem c = record { homomorphism = homomorphism_listed problem (map_from_problem k) c.homomorphism; strands = c.strands; values = c.values }

  pub stated_listed : (problem : Skeleton) → KeepsStated problem k → KeepsStated problem (in_report_order k)
  stated_listed problem =
      stated_stays problem k (in_report_order k) refl (le_refl (length k.strands)) (record { non = still_non; penetrator_non = still_penetrator_non; unique = still_unique }) (λ x y before. still_before before)

  says_no_more : SaysNoMore (in_report_order k) k
  says_no_more = record {
    strands = refl;
    ordered = λ p i. one_step (along_pair i);
    non = was_non;
    penetrator_non = was_penetrator_non;
    unique = was_unique;
    problem_strands = refl;
    problem_values = refl;
  }

  pub stands_listed : (b : Bundle) (g : Standing) → StandsIn k b g → StandsIn (in_report_order k) b g
  stands_listed = stands_too (in_report_order k) k says_no_more

  pub apart_listed : (g : Standing) → StandsApart k g → StandsApart (in_report_order k) g
  apart_listed g apart = apart

  pub factors_listed : (problem : Skeleton) (h g : Standing) → FactorsThrough problem h k g → FactorsThrough problem h (in_report_order k) g
  factors_listed problem h g f = record { strands = f.strands; values = f.values }

  -- ---- the same variables

  module _ (variables : List Declaration) (h : HasDeclaredVariables variables k) where
    non_in : (x : Variable) → IsIn x (variables_of_atoms (listed k).non_originating) → IsDeclared variables x
    non_in x i = let m = atom_with (listed k).non_originating x i in non_declared variables k h m.0 (was_non m.0 m.1) x m.2

    penetrator_non_in : (x : Variable) → IsIn x (variables_of_atoms (listed k).penetrator_non_originating) → IsDeclared variables x
    penetrator_non_in x i = let m = atom_with (listed k).penetrator_non_originating x i in penetrator_non_declared variables k h m.0 (was_penetrator_non m.0 m.1) x m.2

    unique_in : (x : Variable) → IsIn x (variables_of_uniques (listed k).uniquely_originating) → IsDeclared variables x
    unique_in x i = let m = unique_with (listed k).uniquely_originating x i in unique_declared variables k h m.0 (was_unique m.0 m.1) x m.2

    pub declared_listed : HasDeclaredVariables variables (in_report_order k)
    declared_listed = record {
      occurring = of_each_part (IsDeclared variables) (in_report_order k) (λ x i. h.occurring x (in_append_left (variables_of_assumptions k.assumptions) i)) non_in penetrator_non_in unique_in;
      mapped = h.mapped;
    }
