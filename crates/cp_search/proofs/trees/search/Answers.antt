use Rattle.std.proofs.Common.{◌≡◌, ◌↔◌, ℕ, List, Some, IfOk}
use Rattle.cp_lists.specs.Lists.{item_at}
use Rattle.cp_model.specs.declared.variable.Declaration.{Declaration}
use Rattle.cp_model.specs.Skeleton.{Skeleton}
use Rattle.cp_model.specs.PointOfView.{HasDeclaredVariables}
use Rattle.cp_model.specs.Bundle.{Bundle, IsBundle}
use Rattle.cp_model.specs.Standing.{Standing, StandsIn, StandsApart}
use Rattle.cp_model.specs.Tree.{Label, Tree, ReachedSteps, ReachedStrands, IsTrueOf}
use Rattle.cp_model.specs.declared.tree.Mark.TheVariants.{Dead as dead}
use Rattle.cp_model.specs.declared.tree.Outcome.TheVariants.{LimitSteps as at_step_limit, LimitStrands as at_strand_limit}
use Rattle.cp_model.specs.declared.tree.Limits.{Limits}
use Rattle.cp_theory.specs.Lawful.{IsLawful}
use Rattle.cp_roots.specs.declared.root.Root.{Root}
use Rattle.cp_roots.proofs.Over.{skeleton_over}
use Rattle.cp_tree.specs.LabelVariables.{DeclaresItsOwn}
use Rattle.cp_tree.specs.Searched.{IsTreeFrom, IsTreeOf}
use Rattle.cp_tree.specs.Edges.{edges}
use Rattle.cp_tree.proofs.OwnVariables.{own_declared}
use Rattle.cp_search.proofs.FoundTrees.{sound_roots}
use Rattle.cp_search.proofs.MadeTrees.{if_made}
use Rattle.cp_search.proofs.trees.search.Goals as goal

pub search_from-requires : goal.search_from-requires
search_from-requires c =
    let k = c.args.problem.now in
    let variables = c.args.problem.now.variables in
    let roots = c.in_ok-roots.roots.items in
    record {
      sound = sound_roots c.args.protocol.now variables k roots (skeleton_over c.args.protocol.now k c.is_sound.ensures c.requires.over) c.requires.own c.in_ok-roots.ensures.sound c.in_ok-roots.ensures.variables
          (c.roots_have_declared_variables.ensures variables k roots (own_declared variables k c.requires.own) c.in_ok-roots.ensures.exact);
    }

-- ---- the tree that is made

abbrev Here : Type 0
Here = goal.After-tree_of

abbrev problem : Here → Skeleton
problem c = c.args.problem.now

abbrev variables : Here → List Declaration
variables c = c.args.problem.now.variables

abbrev limits : Here → Limits
limits c = c.args.limits

abbrev found_roots : Here → List Root
found_roots c = c.in_ok-roots.roots.items

declared : (c : Here) (i : ℕ) (root : Root) → item_at (found_roots c) i ≡ Some root → HasDeclaredVariables (variables c) root.skeleton
declared c = c.roots_have_declared_variables.ensures (variables c) (problem c) (found_roots c) (own_declared (variables c) (problem c) c.requires.own) c.in_ok-roots.ensures.exact

-- What holds of each tree from these roots holds of the one that is made.
each_tree : (c : Here) (is : Tree → Type 0) → ((t : Tree) → IsTreeFrom c.args.protocol.now (variables c) (limits c) (found_roots c) t → is t) → IfOk c.tree_of.result (λ t. is t)
each_tree c is law =
    let roots = c.in_ok-roots.roots.items in
    if_made c.args.protocol.now (variables c) (limits c) roots c.in_ok-search.search c.in_ok-search.ensures.searched c.in_ok-search.ensures.all c.in_ok-roots.ensures.variables
    is law c.tree_of.result c.tree_of.ensures.labels c.tree_of.ensures.outcome

pub returns-clause-true_tree : goal.returns-clause-true_tree
returns-clause-true_tree c =
    each_tree c (IsTrueOf c.args.protocol.now (problem c) (limits c))
    (λ t from. c.search_trees_are_true.ensures.truth c.args.protocol.now (variables c) (problem c) (limits c) (found_roots c) t c.is_sound-2.ensures c.in_ok-roots.ensures.sound (declared c) (skeleton_over c.args.protocol.now (problem c) c.is_sound.ensures c.requires.over) c.requires.own from)

pub returns-clause-exact : goal.returns-clause-exact
returns-clause-exact c = each_tree c (IsTreeOf c.args.protocol.now (problem c) (variables c) (limits c)) (λ t from. record { roots = found_roots c; are_roots = c.in_ok-roots.ensures.exact; from_roots = from })

pub returns-clause-variables : goal.returns-clause-variables
returns-clause-variables c =
    each_tree c (λ (t : Tree). (i : ℕ) (l : Label) → item_at t.labels i ≡ Some l → DeclaresItsOwn (variables c) l)
    (λ t from. c.search_trees_declare_their_variables.ensures c.args.protocol.now (variables c) (problem c) (limits c) (found_roots c) t c.is_sound-2.ensures c.in_ok-roots.ensures.sound (declared c) c.requires.own from)

pub returns-clause-lawful : goal.returns-clause-lawful
returns-clause-lawful c =
    each_tree c (λ (t : Tree). IsLawful c.args.protocol.now (problem c) t.labels (edges t.labels))
    (λ t from. c.search_trees_are_lawful.ensures.lawful c.args.protocol.now (variables c) (problem c) (limits c) (found_roots c) t c.is_sound-2.ensures c.in_ok-roots.ensures.sound (declared c) c.requires.own from)

pub returns-clause-dead_nowhere : goal.returns-clause-dead_nowhere
returns-clause-dead_nowhere c =
    each_tree c
    (λ (t : Tree). (i : ℕ) (l : Label) → item_at t.labels i ≡ Some l → l.mark ≡ Some dead → (b : Bundle) (h : Standing) → IsBundle c.args.protocol.now b → StandsIn l.skeleton b h → StandsApart l.skeleton h → ⊥)
    (λ t from. c.search_trees_are_lawful.ensures.dead_nowhere c.args.protocol.now (variables c) (problem c) (limits c) (found_roots c) t c.is_sound-2.ensures c.in_ok-roots.ensures.sound (declared c) c.requires.own from)

pub returns-clause-limits : goal.returns-clause-limits
returns-clause-limits c =
    each_tree c (λ (t : Tree). ((t.outcome ≡ at_step_limit) ↔ ReachedSteps (limits c) t) × ((t.outcome ≡ at_strand_limit) ↔ ReachedStrands (limits c) t))
    (λ t from. (c.limits_are_exact.ensures.steps c.args.protocol.now (variables c) (limits c) (found_roots c) t from, c.limits_are_exact.ensures.strands c.args.protocol.now (variables c) (limits c) (found_roots c) t from))
