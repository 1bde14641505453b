-- Contracted children.
use Rattle.std.proofs.Common.{◌≡◌, ◌≢◌, List, [], ◌∷◌, ◌++◌, map, Some, refl, sym, ap, ◌∙◌, subst, false, Bool, ◌↔◌, IsTrue}
use Rattle.cp_lists.specs.Lists.{IsIn}
use Rattle.cp_model.specs.Term.{Term, Substitution}
use Rattle.cp_model.specs.Identity.{unchanged}
use Rattle.cp_model.specs.Strand.{payload}
use Rattle.cp_model.specs.declared.variable.Declaration.{Declaration}
use Rattle.cp_model.specs.Skeleton.{Skeleton, IsNodeOf}
use Rattle.cp_model.specs.declared.tree.Operation.TheVariants.{Contracted as by_contraction}
use Rattle.cp_theory.specs.Normal.{skeleton_under}
use Rattle.cp_collapse.specs.SameSkeletons.{SaysTheSame}
use Rattle.cp_theory.specs.Inside.{IsInside}
use Rattle.cp_normal.specs.Exact.{HasForms}
use Rattle.cp_pattern.specs.Candidates.{may_equal}
use Rattle.cp_pattern.specs.Unifiers.{UnifiesMostGenerally}
use Rattle.cp_pattern.proofs.DifferentTerms as differing
use Rattle.cp_skel.proofs.EventLists.{listed_event}
use Rattle.cp_skel.specs.Events.{LocatedEvent, events_of}
use Rattle.cp_skel.specs.Tables.{HaveTable}
use Rattle.cp_model.specs.declared.step.Step.{Step}
use Rattle.cp_model.specs.Positions.{term_at, positions_where}
use Rattle.cp_cohort.specs.GatheredLists.{EachGives, nothing_given, then_given, AreThoseWith, none_left, taken, left_out}
use Rattle.cp_cohort.specs.CoveringChildren.{Child, child, IsTransmissionBefore}
use Rattle.cp_cohort.specs.Cohort.{GuardedTest, positions, Contracts, never_equal, unified, AreContracted}
use Rattle.cp_cohort.specs.Children.{AreChildrenOfForms, ContractsEvent, not_before, is_before}
use Rattle.cp_cohort.specs.Views.{PutsChildren}
use Rattle.cp_cohort.proofs.Positions.{wider}
use Rattle.cp_model.specs.Tree.{Pattern}
use Rattle.cp_model.specs.declared.tree.Operation.{Operation}
use Rattle.cp_unify.specs.Bindings.{Binding, as_substitution}

-- An event that is listed is at a node.
pub listed_node : (k : Skeleton) (o : LocatedEvent) → IsIn o (events_of k) → IsNodeOf k.strands o.node
listed_node k o i = (o.event, listed_event k o i)

-- Normal forms with the variables of a skeleton are children of it.
pub forms_put : (k : Skeleton) (ks : List Skeleton) (operation : Operation) (path : List Step) (old new : List Child) → HaveTable k.variables ks →
    HasForms k ks → new ≡ old ++ map (child operation path) ks → PutsChildren (AreChildrenOfForms operation path k) old new
forms_put k ks operation path old new table forms p =
    record { added = map (child operation path) ks; behind = p; given = record { forms = ks; normal = forms; table = table; are_children = refl } }

module _ (q : GuardedTest) (o : LocatedEvent) where
  pub contracted_by : (path : List Step) (t : Term) (s : Substitution) (l : Skeleton) → (IsInside q.patterns unchanged (payload o.event) path → ⊥) → term_at (payload o.event) path ≡ Some t → t ≢ q.critical →
      UnifiesMostGenerally t q.critical s → SaysTheSame (skeleton_under s q.skeleton) l → l.variables ≡ q.skeleton.variables → (cs : List Child) → AreChildrenOfForms (by_contraction o.node) path l cs → Contracts q o path cs
  contracted_by path t s l outside at other u same variables cs f =
      subst (Contracts q o path) (sym f.are_children) (unified outside at other u same f.normal (subst (λ (ds : List Declaration). HaveTable ds f.forms) variables f.table))

  others_never : (path : List Step) (u : Term) → term_at (payload o.event) path ≡ Some u → may_equal q.critical u ≡ false → Contracts q o path []
  others_never path u at fails = never_equal at (differing.never_equal q.critical u fails)

  pub event_contracted : (paths : List (List Step)) → paths ≡ positions_where (may_equal q.critical) (payload o.event) → IsTransmissionBefore q.skeleton q.node o → (cs : List Child) → EachGives (Contracts q o) paths cs → ContractsEvent q o cs
  event_contracted paths all before cs e =
      is_before before (wider (may_equal q.critical) (payload o.event) (Contracts q o) others_never cs (subst (λ ps. EachGives (Contracts q o) ps cs) all e))

record Picked (q : GuardedTest) (os : List LocatedEvent) (cs : List Child) : Type 0 where
  sent : List LocatedEvent
  before : AreThoseWith (IsTransmissionBefore q.skeleton q.node) os sent
  each : EachGives (λ o. EachGives (Contracts q o) (positions (payload o.event))) sent cs

module _ (q : GuardedTest) where
  pick_one : (o : LocatedEvent) (os : List LocatedEvent) (cs ds : List Child) → ContractsEvent q o cs → Picked q os ds → Picked q (o ∷ os) (cs ++ ds)
  pick_one o os _ ds (not_before fails) p = record { sent = p.sent; before = left_out fails p.before; each = p.each }
  pick_one o os cs ds (is_before holds e) p = record { sent = o ∷ p.sent; before = taken holds p.before; each = then_given e p.each }

  pick : (os : List LocatedEvent) (cs : List Child) → EachGives (ContractsEvent q) os cs → Picked q os cs
  pick [] _ nothing_given = record { sent = []; before = none_left; each = nothing_given }
  pick (o ∷ os) _ (then_given {ys = ys} {zs = zs} h rest) = pick_one o os ys zs h (pick os zs rest)

  pub all_contracted : (os : List LocatedEvent) → os ≡ events_of q.skeleton → (cs : List Child) → EachGives (ContractsEvent q) os cs → AreContracted q cs
  all_contracted os all cs e =
      let p = pick (events_of q.skeleton) cs (subst (λ (xs : List LocatedEvent). EachGives (ContractsEvent q) xs cs) all e) in
      record { sent = p.sent; before = p.before; each = p.each }

-- Whether a position is inside, where nothing is substituted.
pub at_start : (ps : List Pattern) (b : Bool) (s : List Binding) (m t : Term) (p path : List Step) → IsTrue b ↔ IsInside ps (as_substitution s) m p → s ≡ [] → m ≡ t → p ≡ path → IsTrue b ↔ IsInside ps unchanged t path
at_start ps b s m t p path h none message steps =
    subst (λ (z : List Step). IsTrue b ↔ IsInside ps unchanged t z) steps
    (subst (λ (z : Term). IsTrue b ↔ IsInside ps unchanged z p) message (subst (λ (z : List Binding). IsTrue b ↔ IsInside ps (as_substitution z) m p) none h))

-- The position that is read.
pub read_at : (m t u : Term) (path : List Step) → Some u ≡ term_at m path → m ≡ t → term_at t path ≡ Some u
read_at m t u path e same = ap (λ (z : Term). term_at z path) (sym same) ∙ sym e
