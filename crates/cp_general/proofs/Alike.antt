-- Whether a skeleton is fit depends on its strands, on what it assumes and on its order alone.
use Rattle.std.proofs.Common.{◌≡◌, ◌↔◌, ◌⊎◌, inl, inr, List, sym, subst}
use Rattle.std.specs.Prelude.{Some}
use Rattle.cp_lists.specs.Lists.{IsIn, one_step, more_steps}
use Rattle.cp_model.specs.Term.{AtomTerm, Term}
use Rattle.cp_model.specs.declared.variable.Declaration.{Declaration}
use Rattle.cp_model.specs.declared.strand.Event.TheVariants.{Send as send}
use Rattle.cp_model.specs.declared.node.Node.{Node}
use Rattle.cp_model.specs.declared.node.OrderPair.{OrderPair}
use Rattle.cp_model.specs.Skeleton.{SkeletonStrand, UniqueAt, Assumptions, FromProblem, Skeleton, term_event_at, OrderStep, along_strand_of, along_pair, Before}
use Rattle.cp_model.specs.Derivable.{IsSecret, IsOnInstance, DerivableAt, a_tag, an_atom, sent_before, paired, left_of, right_of, encrypted, decrypted}
use Rattle.cp_model.specs.Given.{listed}
use Rattle.cp_skel.proofs.EachOnce.{listed-non, listed-penetrator-non, listed-unique}
use Rattle.cp_normal.specs.Findings.{CarriesNonOriginating, HasTwoOrigins, LosesOrigin, IsAddedPair, AreNormalPairs, ClosesCycle, IsContradictory}
use Rattle.cp_normal.specs.NormalForms.{IsMisplaced, IsNormal}
use Rattle.cp_normal.proofs.NormalSkeletons.{closes_none}
use Rattle.cp_roots.specs.Roots.{in_report_order}
use Rattle.cp_general.specs.Fit.{IsFit}

-- The two assume the same.
pub record AssumeTheSame (a b : Assumptions) : Type 0 where
  pub non : (v : AtomTerm) → IsIn v a.non_originating ↔ IsIn v b.non_originating
  pub penetrator_non : (v : AtomTerm) → IsIn v a.penetrator_non_originating ↔ IsIn v b.penetrator_non_originating
  pub unique : (u : UniqueAt) → IsIn u a.uniquely_originating ↔ IsIn u b.uniquely_originating

pub assume_the_same : (a : Assumptions) → AssumeTheSame a a
assume_the_same a = record { non = λ v. (λ i. i, λ i. i); penetrator_non = λ v. (λ i. i, λ i. i); unique = λ u. (λ i. i, λ i. i) }

module _ (k : Skeleton) (variables : List Declaration) (pairs : List OrderPair) (assumed : Assumptions) (from : FromProblem) (alike : AssumeTheSame assumed k.assumptions) where
  -- the same strands, and the same is assumed
  abbrev other : Skeleton
  other = record { variables = variables; strands = k.strands; pairs = pairs; assumptions = assumed; from_problem = from }

  -- ---- what is derivable

  secret : (v : AtomTerm) → IsSecret other v → IsSecret k v
  secret v (inl i) = inl ((alike.non v).0 i)
  secret v (inr (inl i)) = inr (inl ((alike.penetrator_non v).0 i))
  secret v (inr (inr u)) = inr (inr (record { entry = u.entry; listed = (alike.unique u.entry).0 u.listed; same = u.same }))

  on_instance : (n : Node) → IsOnInstance k n → IsOnInstance other n
  on_instance n o = record { role = o.role; height = o.height; terms = o.terms; on_instance = o.on_instance }

  was_on_instance : (n : Node) → IsOnInstance other n → IsOnInstance k n
  was_on_instance n o = record { role = o.role; height = o.height; terms = o.terms; on_instance = o.on_instance }

  abbrev StillSent : Node → Type 0
  StillSent n = (m : Node) (t : Term) → term_event_at k.strands m ≡ Some (send t) → Before k m n → Before other m n

  pub derivable : (n : Node) → StillSent n → (t : Term) → DerivableAt k n t → DerivableAt other n t
  derivable n more _ a_tag = a_tag
  derivable n more _ (an_atom h) = an_atom (λ s. h (secret _ s))
  derivable n more _ (sent_before o e b) = sent_before (on_instance _ o) e (more _ _ e b)
  derivable n more _ (paired x y) = paired (derivable n more _ x) (derivable n more _ y)
  derivable n more _ (left_of x) = left_of (derivable n more _ x)
  derivable n more _ (right_of x) = right_of (derivable n more _ x)
  derivable n more _ (encrypted x y) = encrypted (derivable n more _ x) (derivable n more _ y)
  derivable n more _ (decrypted x y) = decrypted (derivable n more _ x) (derivable n more _ y)

  -- ---- what is normal

  carries : CarriesNonOriginating other → CarriesNonOriginating k
  carries c = record {
    value = c.value;
    listed = (alike.non c.value).0 c.listed;
    node = c.node;
    carried = record { event = c.carried.event; there = c.carried.there; carried = c.carried.carried };
  }

  two_origins : HasTwoOrigins other → HasTwoOrigins k
  two_origins t = record {
    first = t.first;
    second = t.second;
    first_listed = (alike.unique t.first).0 t.first_listed;
    second_listed = (alike.unique t.second).0 t.second_listed;
    same_value = t.same_value;
    elsewhere = t.elsewhere;
  }

  loses : LosesOrigin other → LosesOrigin k
  loses l = record { entry = l.entry; listed = (alike.unique l.entry).0 l.listed; lost = λ o. l.lost (on_instance l.entry.origin o.0, o.1) }

  pub was_added : (p : OrderPair) → IsAddedPair other p → IsAddedPair k p
  was_added p a = (
    record { entry = a.0.entry; listed = (alike.unique a.0.entry).0 a.0.listed; from_origin = a.0.from_origin; received = a.0.received; reception = a.0.reception; carried = a.0.carried },
    a.1,
  )

  pub is_added : (p : OrderPair) → IsAddedPair k p → IsAddedPair other p
  is_added p a = (
    record { entry = a.0.entry; listed = (alike.unique a.0.entry).1 a.0.listed; from_origin = a.0.from_origin; received = a.0.received; reception = a.0.reception; carried = a.0.carried },
    a.1,
  )

  misplaced : (u : UniqueAt) (x : Node) → IsMisplaced other u x → IsMisplaced k u x
  misplaced u x s = record { listed = (alike.unique u).0 s.listed; originates = (was_on_instance x s.originates.0, s.originates.1); elsewhere = s.elsewhere }

  contradicts : IsNormal k → (ClosesCycle other → ⊥) → IsContradictory other → ⊥
  contradicts n none (inl a) = n.consistent (inl (carries a))
  contradicts n none (inr (inl b)) = n.consistent (inr (inl (two_origins b)))
  contradicts n none (inr (inr (inl l))) = n.consistent (inr (inr (inl (loses l))))
  contradicts n none (inr (inr (inr c))) = none c

  pub normal : IsNormal k → (ClosesCycle other → ⊥) → ((p : OrderPair) → IsAddedPair other p → Before other p.earlier p.later) → IsNormal other
  normal n none before = record { consistent = contradicts n none; no_misplaced = λ u x s. n.no_misplaced u x (misplaced u x s); ordered = before }

-- ---- one that orders no less, and has no cycle

module _ (a : Skeleton) (f : IsFit a) where
  abbrev FitLike : Skeleton → Type 0
  FitLike b = ((x y : Node) → Before a x y → Before b x y) → ((n : Node) → Before b n n → ⊥) → IsFit b

  fit_literal : (variables : List Declaration) (pairs : List OrderPair) (from : FromProblem) → FitLike (record { variables = variables; strands = a.strands; pairs = pairs; assumptions = a.assumptions; from_problem = from })
  fit_literal variables pairs from more no_cycle =
      let b : Skeleton = record { variables = variables; strands = a.strands; pairs = pairs; assumptions = a.assumptions; from_problem = from } in
      let itself = assume_the_same a.assumptions in
      let before : (p : OrderPair) → IsAddedPair b p → Before b p.earlier p.later = λ p h. more p.earlier p.later (f.normal.ordered p (was_added a variables pairs a.assumptions from itself p h)) in
      record {
        normal = normal a variables pairs a.assumptions from itself f.normal (closes_none b before no_cycle) before;
        realised = λ n t e. derivable a variables pairs a.assumptions from itself n (λ m s sent h. more m n h) t (f.realised n t e);
      }

  pub respelled : (b : Skeleton) (strands : List SkeletonStrand) (assumed : Assumptions) → b.strands ≡ strands → b.assumptions ≡ assumed →
      b ≡ record { variables = b.variables; strands = strands; pairs = b.pairs; assumptions = assumed; from_problem = b.from_problem }
  respelled b strands assumed s m = λ i. record { variables = b.variables; strands = s i; pairs = b.pairs; assumptions = m i; from_problem = b.from_problem }

  fit_too : (b : Skeleton) → b.strands ≡ a.strands → b.assumptions ≡ a.assumptions → FitLike b
  fit_too b s m = subst FitLike (sym (respelled b a.strands a.assumptions s m)) (fit_literal b.variables b.pairs b.from_problem)

pub fit_alike : (a b : Skeleton) → b.strands ≡ a.strands → b.assumptions ≡ a.assumptions → ((x y : Node) → Before a x y → Before b x y) → ((n : Node) → Before b n n → ⊥) → IsFit a → IsFit b
fit_alike a b s m more no_cycle f = fit_too a f b s m more no_cycle

-- ---- the same with its assumptions in the order of a report

-- The order depends on strands and pairs alone.
module _ (variables : List Declaration) (strands : List SkeletonStrand) (pairs : List OrderPair) (a b : Assumptions) (f g : FromProblem) where
  step_alike : {x y : Node} → OrderStep (record { variables = variables; strands = strands; pairs = pairs; assumptions = a; from_problem = f }) x y → OrderStep (record { variables = variables; strands = strands; pairs = pairs; assumptions = b; from_problem = g }) x y
  step_alike (along_strand_of e) = along_strand_of e
  step_alike (along_pair m) = along_pair m

  pub way_alike : {x y : Node} → Before (record { variables = variables; strands = strands; pairs = pairs; assumptions = a; from_problem = f }) x y → Before (record { variables = variables; strands = strands; pairs = pairs; assumptions = b; from_problem = g }) x y
  way_alike (one_step s) = one_step (step_alike s)
  way_alike (more_steps s r) = more_steps (step_alike s) (way_alike r)

module _ (k : Skeleton) where
  listed_alike : AssumeTheSame (listed k) k.assumptions
  listed_alike = record { non = (listed-non k).same; penetrator_non = (listed-penetrator-non k).same; unique = (listed-unique k).same }

  normal_alike : (ps : List OrderPair) → AreNormalPairs (in_report_order k) ps → AreNormalPairs k ps
  normal_alike ps n p = (λ i. to ((n p).0 i), λ h. (n p).1 (from h))
    where
      to : IsIn p k.pairs ⊎ IsAddedPair (in_report_order k) p → IsIn p k.pairs ⊎ IsAddedPair k p
      to (inl i) = inl i
      to (inr a) = inr (was_added k k.variables k.pairs (listed k) k.from_problem listed_alike p a)

      from : IsIn p k.pairs ⊎ IsAddedPair k p → IsIn p k.pairs ⊎ IsAddedPair (in_report_order k) p
      from (inl i) = inl i
      from (inr a) = inr (is_added k k.variables k.pairs (listed k) k.from_problem listed_alike p a)

  closes_too : ClosesCycle (in_report_order k) → ClosesCycle k
  closes_too c = record {
    pairs = c.pairs;
    normal = normal_alike c.pairs c.normal;
    node = c.node;
    cycle = way_alike k.variables k.strands c.pairs (listed k) k.assumptions k.from_problem k.from_problem c.cycle;
  }

  still : {x y : Node} → Before k x y → Before (in_report_order k) x y
  still = way_alike k.variables k.strands k.pairs k.assumptions (listed k) k.from_problem k.from_problem

  pub fit_listed : IsFit k → IsFit (in_report_order k)
  fit_listed f = record {
    normal =
        normal k k.variables k.pairs (listed k) k.from_problem listed_alike f.normal (λ c. f.normal.consistent (inr (inr (inr (closes_too c)))))
        (λ p a. still (f.normal.ordered p (was_added k k.variables k.pairs (listed k) k.from_problem listed_alike p a)));
    realised = λ n t e. derivable k k.variables k.pairs (listed k) k.from_problem listed_alike n (λ m s sent b. still b) t (f.realised n t e);
  }
