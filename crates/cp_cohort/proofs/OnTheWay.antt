-- What comes next on the way is on the way too: a branch, and a normal form.
use Rattle.std.proofs.Common.{◌≡◌, ℕ, List, ◌++◌, Bool, true, false, refl, sym, subst}
use Rattle.cp_lists.specs.Lists.{IsIn}
use Rattle.cp_lists.proofs.Items.{map_of_item}
use Rattle.cp_lists.proofs.Members.{into_map}
use Rattle.cp_model.specs.Term.{Term, variables_of, value_of, Substitution, composed, variable_term, apply_to}
use Rattle.cp_model.specs.declared.variable.Variable.{Variable}
use Rattle.cp_model.specs.Strand.{Protocol}
use Rattle.cp_model.specs.declared.variable.Declaration.{Declaration}
use Rattle.cp_model.specs.Bundle.{node_at}
use Rattle.cp_model.specs.Skeleton.{instance, Skeleton, IsSkeleton}
use Rattle.cp_model.specs.Derivable.{IsOnInstance}
use Rattle.cp_model.specs.Problem.{IsDeclared}
use Rattle.cp_model.specs.PointOfView.{HasDeclaredVariables}
use Rattle.cp_model.specs.Tree.{Pattern}
use Rattle.cp_model.proofs.LawTerms.{term_composed}
use Rattle.cp_model.proofs.SameTests.{variable_in, in_has_variable}
use Rattle.cp_model.proofs.DeclaredVariables.{still_declared}
use Rattle.cp_model.specs.Same.{has_variable}
use Rattle.cp_theory.specs.Normal.{strand_under, skeleton_under, terms_under}
use Rattle.cp_theory.proofs.Skeletons.{skeleton_under_is_skeleton}
use Rattle.cp_collapse.specs.SameSkeletons.{AreSameStrands}
use Rattle.cp_collapse.proofs.SameStrands.{all_same_back, instance_at}
use Rattle.cp_collapse.proofs.SameSkeletons.{same_is_skeleton}
use Rattle.cp_collapse.proofs.NoNewVariables.{KeepsDeclared, made_equal, no_new, of_term}
use Rattle.cp_skel.proofs.DeclaredChanges.{more_declared}
use Rattle.cp_normal.specs.BySubstitution.{all_variables, StaysWithin}
use Rattle.cp_normal.specs.Formed.{Formed, AreFormedNormalForms, IsFormBeside}
use Rattle.cp_normal.specs.declared.form.Form.{Form}
use Rattle.cp_normal.proofs.FormsOf.{are_normal_forms}
use Rattle.cp_normal.proofs.FormSkeletons.{form_is_skeleton}
use Rattle.cp_normal.proofs.VariablesUnder.{all_declared, under_declared, agreeing_declared}
use Rattle.cp_normal.proofs.VariablesOfForms.{comes_declared}
use Rattle.cp_theory.specs.Matches.{IsFreeIn}
use Rattle.cp_pattern.specs.Unifiers.{UnifiesMostGenerally}
use Rattle.cp_pattern.specs.Opened.{declared_as}
use Rattle.cp_cohort.specs.Releases.{Release, PartialSolution, came_by}
use Rattle.cp_cohort.specs.Stages.{pattern_in, IsNextUnder, of_form}
use Rattle.cp_cohort.specs.Way.{AreUsedVariables, GivesDeclared, IsSoundPartial}
use Rattle.cp_cohort.proofs.OpenedPatterns.{opened_declared, only_itself}

-- A most general unifier of terms of declared variables gives declared variables such terms.
pub unifier_keeps : (ds : List Declaration) (a b : Term) (s : Substitution) → ((x : Variable) → IsIn x (variables_of a) → IsDeclared ds x) → ((x : Variable) → IsIn x (variables_of b) → IsDeclared ds x) → UnifiesMostGenerally a b s → KeepsDeclared ds s
unifier_keeps ds a b s of_a of_b m = no_new ds (λ g. value_of g a ≡ value_of g b) s (made_equal (IsDeclared ds) a b s of_a of_b m.unifies) m.general

-- One substitution after another.
pub then_gives : (ds : List Declaration) (first : Skeleton) (s t : Substitution) → GivesDeclared ds first s → KeepsDeclared ds t → GivesDeclared ds first (composed s t)
then_gives ds first s t gives keeps x y used i =
    of_term ds t keeps (apply_to s (variable_term x)) (λ z j. gives x z used j) y (subst (λ z. IsIn y (variables_of z)) (term_composed s t (variable_term x)) i)

pub more_given : (ds more : List Declaration) (first : Skeleton) (s : Substitution) → GivesDeclared ds first s → GivesDeclared (ds ++ more) first s
more_given ds more first s gives x y used i = still_declared ds more y.number y.sort (gives x y used i)

-- An instance stays where it is.
pub instance_under : (k l : Skeleton) (s : Substitution) (i : ℕ) → AreSameStrands (skeleton_under s k).strands l.strands → IsOnInstance k (node_at i 0) → IsOnInstance l (node_at i 0)
instance_under k l s i same on =
    let r = instance_at (all_same_back same) i on.role on.height (terms_under s on.role on.height on.terms) (map_of_item (strand_under s) k.strands i (instance on.role on.height on.terms) on.on_instance) in
    record { role = on.role; height = on.height; terms = r.0; on_instance = r.1 }

pub at_index : (k : Skeleton) (i j m : ℕ) → IsOnInstance k (node_at i j) → IsOnInstance k (node_at i m)
at_index k i j m on = record { role = on.role; height = on.height; terms = on.terms; on_instance = on.on_instance }

module _ (protocol : Protocol) (first : Skeleton) (r : Release) (used : AreUsedVariables first r) (x : PartialSolution) (w : IsSoundPartial protocol first r x) where
  -- ---- a branch

  module _ (e : Term) (p : Pattern) (of_e : (y : Variable) → IsIn y (variables_of e) → IsDeclared x.skeleton.variables y) (listed : IsIn p r.patterns) where
    abbrev all : List Declaration
    all = x.skeleton.variables ++ declared_as x.skeleton.variables p.locals

    of_free : (y z : Variable) → IsFreeIn y p → IsIn z (variables_of (apply_to (came_by x) (variable_term y))) → IsDeclared x.skeleton.variables z
    of_free y z is i = w.gives_declared y z (used p y listed is) i

    module _ (u : Substitution) (m : UnifiesMostGenerally e (pattern_in x p) u) where
      branch_keeps : KeepsDeclared all u
      branch_keeps = unifier_keeps all e (pattern_in x p) u (λ y i. still_declared x.skeleton.variables (declared_as x.skeleton.variables p.locals) y.number y.sort (of_e y i)) (opened_declared x.skeleton.variables p (came_by x) of_free) m

      pub branch_on_the_way : (y : PartialSolution) → IsNextUnder x p u y → IsSoundPartial protocol first r y
      branch_on_the_way y next = record {
        skeleton = same_is_skeleton (skeleton_under u x.skeleton) y.skeleton next.same protocol (skeleton_under_is_skeleton protocol u x.skeleton w.skeleton);
        on_instance = at_index y.skeleton r.strand 0 r.index (instance_under x.skeleton y.skeleton u r.strand next.same.strands (at_index x.skeleton r.strand r.index 0 w.on_instance));
        declared = subst (λ (ds : List Declaration). HasDeclaredVariables ds y.skeleton) (sym next.variables)
            (agreeing_declared all (skeleton_under u x.skeleton) y.skeleton next.same (under_declared all u x.skeleton branch_keeps (more_declared x.skeleton.variables (declared_as x.skeleton.variables p.locals) x.skeleton w.declared)));
        gives_declared = subst (λ (ds : List Declaration). GivesDeclared ds first (came_by y)) (sym next.variables)
            (subst (λ (s : Substitution). GivesDeclared all first s) (sym next.by)
            (then_gives all first (came_by x) u (more_given x.skeleton.variables (declared_as x.skeleton.variables p.locals) first (came_by x) w.gives_declared) branch_keeps));
      }

  -- ---- a normal form

  stays_keeps : (s : Substitution) → StaysWithin x.skeleton s → KeepsDeclared x.skeleton.variables s
  stays_keeps s stays y z is i = by_test (has_variable (all_variables x.skeleton) y) refl
    where
      by_test : (b : Bool) → has_variable (all_variables x.skeleton) y ≡ b → IsDeclared x.skeleton.variables z
      by_test true e = all_declared x.skeleton.variables x.skeleton w.declared z (stays.within y z (variable_in (all_variables x.skeleton) y e) i)
      by_test false e =
          let left = stays.leaves y (λ j. let has : has_variable (all_variables x.skeleton) y ≡ true = in_has_variable (all_variables x.skeleton) y j in absurd (cc)) in
          subst (IsDeclared x.skeleton.variables) (sym (only_itself y z (subst (λ v. IsIn z (variables_of v)) left i))) is

  pub form_on_the_way : (forms : List Formed) → AreFormedNormalForms x.skeleton forms → (f : Formed) → IsIn f forms → (a : Form) → IsFormBeside x.skeleton x.substitution a f → IsSoundPartial protocol first r (of_form a)
  form_on_the_way forms are f i a beside =
      let o = are.formed f i in
      let c = o.comes in
      let on = at_index f.skeleton r.strand 0 r.index (instance_under x.skeleton f.skeleton c.substitution r.strand c.same.strands (at_index x.skeleton r.strand r.index 0 w.on_instance)) in
      let gives = then_gives x.skeleton.variables first (came_by x) c.substitution w.gives_declared (stays_keeps c.substitution c.stays_within) in
      record {
        skeleton = subst (IsSkeleton protocol) (sym beside.skeleton) (form_is_skeleton protocol x.skeleton f.skeleton (are_normal_forms are.exact f.skeleton (into_map (λ (g : Formed). g.skeleton) i)) w.skeleton);
        on_instance = subst (λ (k : Skeleton). IsOnInstance k (node_at r.strand r.index)) (sym beside.skeleton) on;
        declared = subst (λ (ds : List Declaration). HasDeclaredVariables ds a.skeleton) (sym beside.variables)
            (subst (λ (k : Skeleton). HasDeclaredVariables x.skeleton.variables k) (sym beside.skeleton) (comes_declared x.skeleton.variables x.skeleton f.skeleton c w.declared));
        gives_declared = subst (λ (ds : List Declaration). GivesDeclared ds first (came_by (of_form a))) (sym beside.variables)
            (subst (λ (s : Substitution). GivesDeclared x.skeleton.variables first s) (sym beside.substitution)
            (subst (λ (s : Substitution). GivesDeclared x.skeleton.variables first (composed (came_by x) s)) o.by gives));
      }
