-- What is true of a skeleton is true of one that differs from it in its table alone.
use Rattle.std.proofs.Common.{ℕ, List, length, refl, sym, subst, le_refl}
use Rattle.cp_lists.specs.Lists.{one_step}
use Rattle.cp_model.specs.Term.{Term}
use Rattle.cp_model.specs.Bindings.{Binding}
use Rattle.cp_model.specs.Strand.{Role, Protocol}
use Rattle.cp_model.specs.declared.variable.Declaration.{Declaration}
use Rattle.cp_model.specs.Bundle.{Bundle}
use Rattle.cp_model.specs.declared.node.Node.{Node}
use Rattle.cp_model.specs.Skeleton.{Skeleton, along_pair, IsSkeleton}
use Rattle.cp_model.specs.Realisation.{AllDerivable}
use Rattle.cp_model.specs.Standing.{Standing, StandsIn, StandsApart}
use Rattle.cp_model.specs.Homomorphism.{SkeletonMap, GoesToInstance, IsHomomorphism, IsEmbedding, Embeds, map_from_problem, CarriesHomomorphism, FactorsThrough}
use Rattle.cp_model.specs.Stated.{KeepsStated}
use Rattle.cp_model.specs.PointOfView.{HasDeclaredVariables}
use Rattle.cp_model.specs.Tree.{Pattern}
use Rattle.cp_model.proofs.StatedStays.{stated_stays}
use Rattle.cp_theory.specs.Guards.{Guards}
use Rattle.cp_theory.specs.Lawful.{PassesOn}
use Rattle.cp_theory.specs.NoneLeftOut.{GoesOn, IsComplete}
use Rattle.cp_theory.specs.Normal.{SaysNoMore}
use Rattle.cp_theory.proofs.Weaker.{stands_too}
use Rattle.cp_skel.specs.Tables.{DiffersInTable}
use Rattle.cp_skel.proofs.TableAlone.{tabled, was_before, still_before, skeleton_tabled}
use Rattle.cp_derive.proofs.InTable.{was_on_instance, was_derivable}

module _ (k : Skeleton) (table : List Declaration) where
  -- ---- a skeleton over a protocol

  declared_tabled : (variables : List Declaration) → HasDeclaredVariables variables k → HasDeclaredVariables variables (tabled k table)
  declared_tabled variables h = record { occurring = h.occurring; mapped = h.mapped }

  -- ---- maps from the problem, and standings

  goes_tabled : (f : SkeletonMap) (s : ℕ) (role : Role) (height : ℕ) (terms : List Binding) → GoesToInstance k f s role height terms → GoesToInstance (tabled k table) f s role height terms
  goes_tabled f s role height terms g = record { to_height = g.to_height; to_terms = g.to_terms; on_instance = g.on_instance; at_least = g.at_least; equal_terms = g.equal_terms }

  homomorphism_tabled : (problem : Skeleton) (f : SkeletonMap) → IsHomomorphism problem k f → IsHomomorphism problem (tabled k table) f
  homomorphism_tabled problem f hom = record {
    instances = λ s role height terms at. goes_tabled f s role height terms (hom.instances s role height terms at);
    listeners = hom.listeners;
    ordered = λ x y before. still_before k table (hom.ordered x y before);
    non = hom.non;
    penetrator_non = hom.penetrator_non;
    unique = hom.unique;
  }

  carries_tabled : (problem : Skeleton) → CarriesHomomorphism problem k → CarriesHomomorphism problem (tabled k table)
  carries_tabled problem c = record { homomorphism = homomorphism_tabled problem (map_from_problem k) c.homomorphism; strands = c.strands; values = c.values }

  stated_tabled : (problem : Skeleton) → KeepsStated problem k → KeepsStated problem (tabled k table)
  stated_tabled problem =
      stated_stays problem k (tabled k table) refl (le_refl (length k.strands)) (record { non = λ v i. i; penetrator_non = λ v i. i; unique = λ u i. i }) (λ x y before. still_before k table before)

  tabled_says_no_more : SaysNoMore (tabled k table) k
  tabled_says_no_more = record { strands = refl; ordered = λ p i. one_step (along_pair i); non = λ v i. i; penetrator_non = λ v i. i; unique = λ u i. i; problem_strands = refl; problem_values = refl }

  says_no_more : SaysNoMore k (tabled k table)
  says_no_more = record { strands = refl; ordered = λ p i. one_step (along_pair i); non = λ v i. i; penetrator_non = λ v i. i; unique = λ u i. i; problem_strands = refl; problem_values = refl }

  stands_tabled : (b : Bundle) (g : Standing) → StandsIn k b g → StandsIn (tabled k table) b g
  stands_tabled = stands_too (tabled k table) k tabled_says_no_more

  stood : (b : Bundle) (g : Standing) → StandsIn (tabled k table) b g → StandsIn k b g
  stood = stands_too k (tabled k table) says_no_more

  factors_tabled : (problem : Skeleton) (h g : Standing) → FactorsThrough problem h k g → FactorsThrough problem h (tabled k table) g
  factors_tabled problem h g f = record { strands = f.strands; values = f.values }

  factored : (problem : Skeleton) (h g : Standing) → FactorsThrough problem h (tabled k table) g → FactorsThrough problem h k g
  factored problem h g f = record { strands = f.strands; values = f.values }

  passes_tabled : (protocol : Protocol) (problem : Skeleton) (ks : List Skeleton) → PassesOn protocol problem k ks → PassesOn protocol problem (tabled k table) ks
  passes_tabled protocol problem ks passes b f h is stands apart factors = passes b f h is (stood b h stands) apart (factored problem f h factors)

  went_on : (ks : List Skeleton) (b : Bundle) (h : Standing) → GoesOn ks (tabled k table) b h → GoesOn ks k b h
  went_on ks b h g = record {
    skeleton = g.skeleton;
    listed = g.listed;
    standing = g.standing;
    stands = g.stands;
    apart = g.apart;
    along = g.along;
    in_place = g.in_place;
    through = record { nodes = g.through.nodes; values = g.through.values; problem_strands = g.through.problem_strands; problem_values = g.through.problem_values };
  }

  was_complete : (protocol : Protocol) (ks : List Skeleton) → IsComplete protocol (tabled k table) ks → IsComplete protocol k ks
  was_complete protocol ks complete b h is stands apart = went_on ks b h (complete b h is (stands_tabled b h stands) apart)

  -- ---- tests

  were_derivable : AllDerivable (tabled k table) → AllDerivable k
  were_derivable all n t at = was_derivable k table (all n t at)

  guards_tabled : (ps : List Pattern) (n : Node) (c : Term) → Guards ps k n c → Guards ps (tabled k table) n c
  guards_tabled ps n c g = record {
    patterns = g.patterns;
    keys = g.keys;
    used_by_patterns = g.used_by_patterns;
    used_by_critical = g.used_by_critical;
    inside = λ m t on ev before. g.inside m t (was_on_instance k table m on) ev (was_before k table before);
  }

-- ---- skeletons that embed

embeds_with : (k l : Skeleton) (ds es : List Declaration) (f : SkeletonMap) → IsEmbedding k l f → IsEmbedding (tabled k ds) (tabled l es) f
embeds_with k l ds es f e =
    let hom = homomorphism_tabled l es k f e.homomorphism in
    record {
      homomorphism = record {
        instances = hom.instances;
        listeners = hom.listeners;
        ordered = λ x y before. hom.ordered x y (was_before k ds before);
        non = hom.non;
        penetrator_non = hom.penetrator_non;
        unique = hom.unique;
      };
      injective = e.injective;
      same_strands = e.same_strands;
      same_values = e.same_values;
    }

-- What embeds in another does so with other tables.
pub embeds_tabled : (k l : Skeleton) (ds es : List Declaration) → Embeds k l → Embeds (record k { variables = ds }) (record l { variables = es })
embeds_tabled k l ds es e = (e.0, embeds_with k l ds es e.0 e.1)

-- ---- skeletons that differ in the table alone

module _ (k l : Skeleton) (differs : DiffersInTable k l) where
  pub skeleton_in_table : (protocol : Protocol) → IsSkeleton protocol k → IsSkeleton protocol l
  skeleton_in_table protocol h = subst (IsSkeleton protocol) (sym differs) (skeleton_tabled k l.variables protocol h)

  pub declared_in_table : (variables : List Declaration) → HasDeclaredVariables variables k → HasDeclaredVariables variables l
  declared_in_table variables h = subst (HasDeclaredVariables variables) (sym differs) (declared_tabled k l.variables variables h)

  pub carries_in_table : (problem : Skeleton) → CarriesHomomorphism problem k → CarriesHomomorphism problem l
  carries_in_table problem h = subst (CarriesHomomorphism problem) (sym differs) (carries_tabled k l.variables problem h)

  pub stated_in_table : (problem : Skeleton) → KeepsStated problem k → KeepsStated problem l
  stated_in_table problem h = subst (KeepsStated problem) (sym differs) (stated_tabled k l.variables problem h)

  pub stands_in_table : (b : Bundle) (g : Standing) → StandsIn k b g → StandsIn l b g
  stands_in_table b g h = subst (λ (x : Skeleton). StandsIn x b g) (sym differs) (stands_tabled k l.variables b g h)

  pub stood_in_table : (b : Bundle) (g : Standing) → StandsIn l b g → StandsIn k b g
  stood_in_table b g h = stood k l.variables b g (subst (λ (x : Skeleton). StandsIn x b g) differs h)

  pub apart_in_table : (g : Standing) → StandsApart k g → StandsApart l g
  apart_in_table g h = subst (λ (x : Skeleton). StandsApart x g) (sym differs) h

  pub apart_from_table : (g : Standing) → StandsApart l g → StandsApart k g
  apart_from_table g h = subst (λ (x : Skeleton). StandsApart x g) differs h

  pub factors_in_table : (problem : Skeleton) (h g : Standing) → FactorsThrough problem h k g → FactorsThrough problem h l g
  factors_in_table problem h g f = subst (λ (x : Skeleton). FactorsThrough problem h x g) (sym differs) (factors_tabled k l.variables problem h g f)

  pub passes_in_table : (protocol : Protocol) (problem : Skeleton) (ks : List Skeleton) → PassesOn protocol problem k ks → PassesOn protocol problem l ks
  passes_in_table protocol problem ks passes = subst (λ (x : Skeleton). PassesOn protocol problem x ks) (sym differs) (passes_tabled k l.variables protocol problem ks passes)

  pub complete_from_table : (protocol : Protocol) (ks : List Skeleton) → IsComplete protocol l ks → IsComplete protocol k ks
  complete_from_table protocol ks complete = was_complete k l.variables protocol ks (subst (λ (x : Skeleton). IsComplete protocol x ks) differs complete)

  pub derivable_from_table : AllDerivable l → AllDerivable k
  derivable_from_table all = were_derivable k l.variables (subst AllDerivable differs all)

  pub guards_in_table : (ps : List Pattern) (n : Node) (c : Term) → Guards ps k n c → Guards ps l n c
  guards_in_table ps n c g = subst (λ (x : Skeleton). Guards ps x n c) (sym differs) (guards_tabled k l.variables ps n c g)
