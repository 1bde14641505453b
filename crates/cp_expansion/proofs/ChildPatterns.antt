-- Children that give patterns.
use Rattle.std.proofs.Common.{◌≡◌, ℕ, List, Option, Some, None, Result, Ok, Err, IfOk, IfNone, Bool, true, subst}
use Rattle.cp_model.specs.Skeleton.{Skeleton}
use Rattle.cp_model.specs.Tree.{Pattern}
use Rattle.cp_cohort.specs.declared.child.Child.{Child}
use Rattle.cp_cohort.specs.Widening as widening
use Rattle.cp_escape.specs.WidenedPattern.{WidensBy}
use Rattle.cp_expansion.specs.Widened.{GivesPattern, GivesWhileOpen, IsGiven}
use Rattle.cp_expansion.specs.declared.widening_child.Widenings.{Widenings}

pub none_given : {P E : Type 0} (k : Skeleton) (c : Child) (r : Result (Option P) E) → IfOk r (λ a. IfNone a ((p : Pattern) → WidensBy k c.skeleton c.path p → ⊥)) → IfOk r (λ a. IfNone a ((p : Pattern) → GivesPattern k c p → ⊥))
none_given k c (Ok None) h = λ p g. h p g.widens
none_given k c (Ok (Some x)) h = tt
none_given k c (Err e) h = tt

pub none_while_open : {P E : Type 0} (w : Widenings) (c : Child) (r : Result (Option P) E) → IfOk r (λ a. IfNone a ((p : Pattern) → GivesPattern w.skeleton.now c p → ⊥)) → IfOk r (λ a. IfNone a ((p : Pattern) → GivesWhileOpen w c p → ⊥))
none_while_open w c (Ok None) h = λ p g. h p g.1
none_while_open w c (Ok (Some x)) h = tt
none_while_open w c (Err e) h = tt

-- What is given while the set is open is given, and then the set is open.
pub given_while_open : (open_set : Bool) (k l : Skeleton) (cs : List Child) (place : ℕ) (p : Pattern) → k ≡ l → widening.IsGiven (λ c p. (open_set ≡ true) × GivesPattern k c p) cs place p → (open_set ≡ true) × IsGiven l cs place p
given_while_open open_set k l cs place p same g = (
  g.gives_it.0,
  subst (λ s. IsGiven s cs place p) same (record { child = g.child; at = g.at; gives_it = g.gives_it.1; first = λ i c p below at gives. g.first i c p below at (g.gives_it.0, gives) }),
)
