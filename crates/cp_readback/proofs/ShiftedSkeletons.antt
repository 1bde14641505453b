-- A skeleton whose variables all have numbers that are greater by a constant: it is the same except for their names.
use Rattle.std.proofs.Common.{◌≡◌, ◌↔◌, ℕ, suc, ◌+◌, ◌-◌, ◌<◌, List, [], ◌∷◌, ◌++◌, refl, sym, ap, ap₂, ◌∙◌, subst, arith}
use Rattle.std.specs.Prelude.{Some, map, option_map}
use Rattle.std.proofs.lemmas.List.{length-map}
use Rattle.cp_lists.specs.Lists.{IsIn, one_step, more_steps}
use Rattle.cp_lists.proofs.Members.{into_map, from_map}
use Rattle.cp_model.specs.Identity.{unchanged}
use Rattle.cp_model.specs.Senders.{ArePaired}
use Rattle.cp_model.specs.Term.{variable_term, AtomTerm, Term, Substitution, apply_to, apply_to_atom, composed}
use Rattle.cp_model.specs.Bindings.{as_substitution, bindings_by}
use Rattle.cp_model.proofs.DeclaredTerms.{by_bindings}
use Rattle.cp_model.specs.declared.variable.Variable.{Variable}
use Rattle.cp_model.specs.Strand.{Protocol, event_map, variables_of_prefix}
use Rattle.cp_model.specs.declared.variable.Declaration.{Declaration}
use Rattle.cp_model.specs.declared.strand.Event.{Event}
use Rattle.cp_model.specs.declared.strand.Event.TheVariants.{Send as send, Receive as recv}
use Rattle.cp_model.specs.Bundle.{node_at}
use Rattle.cp_model.specs.declared.node.Node.{Node}
use Rattle.cp_model.specs.declared.node.OrderPair.{OrderPair}
use Rattle.cp_model.specs.Homomorphism.{substitution_by, map_from_problem}
use Rattle.cp_model.specs.Skeleton.{SkeletonStrand, instance, listener, term_event_at, IsNodeOf, UniqueAt, Assumptions, Skeleton, OrderStep, along_strand_of, along_pair, Before, IsOrderPair, IsSkeleton}
use Rattle.cp_model.specs.Stated.{unique_image, AreImages, IsImageOfOne, HasOwnAssumptions, KeepsStated}
use Rattle.cp_model.proofs.Images.{own_images, images_then}
use Rattle.cp_model.proofs.LawAgreement.{agree_atom, agree_term}
use Rattle.cp_model.proofs.LawTerms.{atom_composed, term_composed, atom_unchanged, term_unchanged}
use Rattle.cp_report.specs.FittingTrees.{HasSortOf}
use Rattle.cp_report.specs.UpToNames.{renamed, renaming, IsSameStrandUnder, unique_renamed, AreSameAssumptions, IsSameSkeleton}
use Rattle.cp_report.proofs.Inverses.{renamed_variable}
use Rattle.cp_report.proofs.OwnStated.{AreOver, assumptions_renamed, atom_image}
use Rattle.cp_report.proofs.RenamedStrands.{event_renamed}
use Rattle.cp_printable.proofs.SameMaps.{same_is_skeleton}

-- ---- images

-- The images of a list are what its items are mapped to.
pub images_of_map : {A B : Type 0} (h : A → B) (xs : List A) → AreImages h xs (map h xs)
images_of_map h xs y = (λ i. let r = from_map h xs i in record { item = r.0; listed = r.1; image = r.2 }, λ r. subst (λ z. IsIn z (map h xs)) r.image (into_map h r.listed))

-- What leads back from the images gives the list.
pub images_back : {A : Type 0} (h k : A → A) (xs : List A) → ((x : A) → k (h x) ≡ x) → AreImages k (map h xs) xs
images_back h k xs same y = (forth_of, back_of)
  where
    forth_of : IsIn y xs → IsImageOfOne k (map h xs) y
    forth_of i = record { item = h y; listed = into_map h i; image = same y }

    back_of : IsImageOfOne k (map h xs) y → IsIn y xs
    back_of r = let x = from_map h xs r.listed in subst (λ z. IsIn z xs) (sym (same x.0) ∙ ap k x.2 ∙ r.image) x.1

-- ---- the order

-- The event at a node of the first strands gives one at that node of the second.
pub node_kept : (s : Substitution) (ks ls : List SkeletonStrand) → ArePaired (IsSameStrandUnder s) ks ls → (n : Node) (e : Event Term) → term_event_at ks n ≡ Some e → term_event_at ls n ≡ Some (event_map (apply_to s) e)
node_kept s ks ls paired n e at = event_renamed s ks ls paired n ∙ ap (option_map (event_map (apply_to s))) at

module _ (s : Substitution) (k m : Skeleton) (paired : ArePaired (IsSameStrandUnder s) k.strands m.strands) (wider : (p : OrderPair) → IsIn p k.pairs → IsIn p m.pairs) where
  -- A step of the order is one of the other's,
  step_kept : {x y : Node} → OrderStep k x y → OrderStep m x y
  step_kept (along_strand_of {s = a} {i = i} {e = e} at) = along_strand_of (node_kept s k.strands m.strands paired (node_at a (suc i)) e at)
  step_kept (along_pair {p} i) = along_pair (wider p i)

  -- and so is the order.
  pub order_kept : (x y : Node) → Before k x y → Before m x y
  order_kept x y (one_step h) = one_step (step_kept h)
  order_kept x z (more_steps {y = y} h r) = more_steps (step_kept h) (order_kept y z r)

-- ---- numbers that are greater

module _ (n : ℕ) where
  -- The greater number.
  abbrev pub above : Variable → ℕ
  above x = x.number + n

  -- The number from which it came.
  abbrev pub below : Variable → ℕ
  below x = x.number - n

  -- The substitutions to greater numbers and back.
  abbrev pub up : Substitution
  up = renaming above

  abbrev pub down : Substitution
  down = renaming below

  -- They lead back.
  pub returned : (x : Variable) → renamed below (renamed above x) ≡ x
  returned x = let z : (x.number + n) - n ≡ x.number = omega arith in λ i. record { sort = x.sort; number = z i }

  -- A variable under both substitutions is itself;
  variable_back : (x : Variable) → apply_to (composed up down) (variable_term x) ≡ apply_to unchanged (variable_term x)
  variable_back x =
      term_composed up down (variable_term x) ∙ ap (apply_to down) (renamed_variable above x) ∙ renamed_variable below (renamed above x) ∙ ap variable_term (returned x) ∙ sym (term_unchanged (variable_term x))

  -- so is a term,
  pub term_back : (t : Term) → apply_to down (apply_to up t) ≡ t
  term_back t = sym (term_composed up down t) ∙ agree_term (composed up down) unchanged t (λ x m. variable_back x) ∙ term_unchanged t

  -- and an atom.
  pub atom_back : (v : AtomTerm) → apply_to_atom down (apply_to_atom up v) ≡ v
  atom_back v = sym (atom_composed up down v) ∙ agree_atom (composed up down) unchanged v (λ x m. variable_back x) ∙ atom_unchanged v

  -- ---- strands

  -- The strand with greater numbers.
  abbrev pub shifted_strand : SkeletonStrand → SkeletonStrand
  shifted_strand (instance role height terms) = instance role height (bindings_by (composed (as_substitution terms) up) (variables_of_prefix role height))
  shifted_strand (listener t) = listener (apply_to up t)

  -- A strand is the same as the shifted one,
  pub up_strand : (s : SkeletonStrand) → IsSameStrandUnder up s (shifted_strand s)
  up_strand (instance role height terms) = (refl, refl, λ x m. sym (by_bindings (composed (as_substitution terms) up) (variables_of_prefix role height) x m))
  up_strand (listener t) = refl

  -- and the other way round.
  down_strand : (s : SkeletonStrand) → IsSameStrandUnder down (shifted_strand s) s
  down_strand (instance role height terms) = (
    refl,
    refl,
    λ x m. let f = composed (as_substitution terms) up in
        let xs = variables_of_prefix role height in
        term_composed (as_substitution (bindings_by f xs)) down (variable_term x) ∙ ap (apply_to down) (by_bindings f xs x m ∙ term_composed (as_substitution terms) up (variable_term x)) ∙ term_back (apply_to (as_substitution terms) (variable_term x)),
  )
  down_strand (listener t) = term_back t

  -- The same of all strands.
  pub up_strands : (ss : List SkeletonStrand) → ArePaired (IsSameStrandUnder up) ss (map shifted_strand ss)
  up_strands [] = tt
  up_strands (s ∷ ss) = (up_strand s, up_strands ss)

  -- The same the other way round.
  down_strands : (ss : List SkeletonStrand) → ArePaired (IsSameStrandUnder down) (map shifted_strand ss) ss
  down_strands [] = tt
  down_strands (s ∷ ss) = (down_strand s, down_strands ss)

  -- ---- skeletons

  -- Assumptions are the same as the shifted ones,
  up_assumptions : (a : Assumptions) → AreSameAssumptions up a (assumptions_renamed up a)
  up_assumptions a = record {
    non = images_of_map (apply_to_atom up) a.non_originating;
    penetrator_non = images_of_map (apply_to_atom up) a.penetrator_non_originating;
    unique = images_of_map (unique_renamed up) a.uniquely_originating;
  }

  -- and the other way round.
  down_assumptions : (a : Assumptions) → AreSameAssumptions down (assumptions_renamed up a) a
  down_assumptions a = record {
    non = images_back (apply_to_atom up) (apply_to_atom down) a.non_originating atom_back;
    penetrator_non = images_back (apply_to_atom up) (apply_to_atom down) a.penetrator_non_originating atom_back;
    unique = images_back (unique_renamed up) (unique_renamed down) a.uniquely_originating (λ u. ap (λ (v : AtomTerm). record { value = v; origin = u.origin }) (atom_back u.value));
  }

  module _ (front : List Declaration) where
    -- The skeleton with greater numbers, behind these variables.
    abbrev pub shifted : Skeleton → Skeleton
    shifted k = record {
      variables = front ++ k.variables;
      strands = map shifted_strand k.strands;
      pairs = k.pairs;
      assumptions = assumptions_renamed up k.assumptions;
      from_problem = record {
        strands = k.from_problem.strands;
        values = map (apply_to up) k.from_problem.values;
        assumptions = assumptions_renamed up k.from_problem.assumptions;
        pairs = k.from_problem.pairs;
      };
    }

    -- The order of a skeleton is that of the shifted one.
    same_order : (k : Skeleton) (x y : Node) → Before k x y ↔ Before (shifted k) x y
    same_order k x y = (order_kept up k (shifted k) (up_strands k.strands) (λ p i. i) x y, order_kept down (shifted k) k (down_strands k.strands) (λ p i. i) x y)

    -- Terms that are shifted lead back.
    terms_back : (ts : List Term) → map (apply_to down) (map (apply_to up) ts) ≡ ts
    terms_back [] = refl
    terms_back (t ∷ ts) = ap₂ (λ (u : Term) (us : List Term). u ∷ us) (term_back t) (terms_back ts)

    -- A skeleton is the same as the shifted one,
    pub up_same : (k : Skeleton) → IsSameSkeleton up k (shifted k)
    up_same k = record {
      strands = up_strands k.strands;
      order = same_order k;
      assumptions = up_assumptions k.assumptions;
      mapped_strands = refl;
      mapped_values = refl;
      own_assumptions = up_assumptions k.from_problem.assumptions;
      own_pairs = own_images (λ p. p) k.from_problem.pairs (λ p. refl);
    }

    -- and the other way round.
    pub down_same : (k : Skeleton) → IsSameSkeleton down (shifted k) k
    down_same k = record {
      strands = down_strands k.strands;
      order = λ x y. ((same_order k x y).1, (same_order k x y).0);
      assumptions = down_assumptions k.assumptions;
      mapped_strands = refl;
      mapped_values = terms_back k.from_problem.values;
      own_assumptions = down_assumptions k.from_problem.assumptions;
      own_pairs = own_images (λ p. p) k.from_problem.pairs (λ p. refl);
    }

    -- A node of a skeleton is one of the shifted one.
    pub shifted_node : (k : Skeleton) (x : Node) → IsNodeOf k.strands x → IsNodeOf (shifted k).strands x
    shifted_node k x (e, at) = (event_map (apply_to up) e, node_kept up k.strands (map shifted_strand k.strands) (up_strands k.strands) x e at)

    -- The shifted skeleton is one over the same protocol.
    pub shifted_is_skeleton : (protocol : Protocol) (k : Skeleton) → IsSkeleton protocol k → IsSkeleton protocol (shifted k)
    shifted_is_skeleton protocol k is = same_is_skeleton up k (shifted k) (up_same k) protocol is pairs
      where
        at : (x : Node) (e : Event Term) → term_event_at k.strands x ≡ Some e → term_event_at (map shifted_strand k.strands) x ≡ Some (event_map (apply_to up) e)
        at x e h = node_kept up k.strands (map shifted_strand k.strands) (up_strands k.strands) x e h

        pairs : (p : OrderPair) → IsIn p k.pairs → IsOrderPair (shifted k) p
        pairs p i =
            let o = is.order_pairs p i in
            record { sent = apply_to up o.sent; received = apply_to up o.received; transmission = at p.earlier (send o.sent) o.transmission; reception = at p.later (recv o.received) o.reception; between_strands = o.between_strands }

    -- ---- what the problem states itself

    module _ (ds : List Declaration) (problem k : Skeleton) (paired : ArePaired HasSortOf ds k.from_problem.values) (over : AreOver ds problem.from_problem.assumptions) (keeps : KeepsStated problem k) where
      -- An own assumption of the shifted skeleton is one of its assumptions.
      own_assumed : HasOwnAssumptions (shifted k)
      own_assumed = record {
        non = λ v i. kept (apply_to_atom up) k.from_problem.assumptions.non_originating k.assumptions.non_originating keeps.assumed.non v i;
        penetrator_non = λ v i. kept (apply_to_atom up) k.from_problem.assumptions.penetrator_non_originating k.assumptions.penetrator_non_originating keeps.assumed.penetrator_non v i;
        unique = λ u i. kept (unique_renamed up) k.from_problem.assumptions.uniquely_originating k.assumptions.uniquely_originating keeps.assumed.unique u i;
      }
        where
          kept : {A : Type 0} (h : A → A) (xs ys : List A) → ((x : A) → IsIn x xs → IsIn x ys) → (y : A) → IsIn y (map h xs) → IsIn y (map h ys)
          kept h xs ys within y i = let r = from_map h xs i in subst (λ z. IsIn z (map h ys)) r.2 (into_map h (within r.0 r.1))

      -- The shifted skeleton keeps what the problem states.
      pub shifted_keeps : KeepsStated problem (shifted k)
      shifted_keeps =
          let values = k.from_problem.values in
          let own = problem.from_problem.assumptions in
          let had = k.from_problem.assumptions in
          let after = substitution_by (map (apply_to up) values) in
          record {
            in_range = λ s i. subst (λ (m : ℕ). s < m) (sym (length-map k.strands shifted_strand)) (keeps.in_range s i);
            non = images_then (apply_to_atom (substitution_by values)) (apply_to_atom up) (apply_to_atom after) own.non_originating had.non_originating (map (apply_to_atom up) had.non_originating)
                keeps.non (images_of_map (apply_to_atom up) had.non_originating) (λ v m. atom_image up ds values paired v (over.non v m));
            penetrator_non = images_then (apply_to_atom (substitution_by values)) (apply_to_atom up) (apply_to_atom after) own.penetrator_non_originating had.penetrator_non_originating (map (apply_to_atom up) had.penetrator_non_originating)
                keeps.penetrator_non (images_of_map (apply_to_atom up) had.penetrator_non_originating) (λ v m. atom_image up ds values paired v (over.penetrator_non v m));
            unique = images_then (unique_image (map_from_problem k)) (unique_renamed up) (unique_image (map_from_problem (shifted k))) own.uniquely_originating had.uniquely_originating (map (unique_renamed up) had.uniquely_originating)
                keeps.unique (images_of_map (unique_renamed up) had.uniquely_originating) same_unique;
            assumed = own_assumed;
            pairs = keeps.pairs;
            ordered = λ p i. (same_order k p.earlier p.later).0 (keeps.ordered p i);
          }
        where
          same_unique : (u : UniqueAt) → IsIn u problem.from_problem.assumptions.uniquely_originating → unique_image (map_from_problem (shifted k)) u ≡ unique_renamed up (unique_image (map_from_problem k) u)
          same_unique u m = let e = atom_image up ds k.from_problem.values paired u.value (over.unique u m) in λ i. record { value = e i; origin = (unique_image (map_from_problem k) u).origin }
