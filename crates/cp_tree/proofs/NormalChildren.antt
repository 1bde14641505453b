-- The children of a test are normal forms.
use Rattle.std.proofs.Common.{ℕ, List, [], ◌++◌, map, sym, subst, ⊎_elim}
use Rattle.cp_lists.specs.Lists.{IsIn, here, there}
use Rattle.cp_lists.proofs.Members.{not_in_none, in_append, into_map, from_map}
use Rattle.cp_model.specs.Skeleton.{Skeleton}
use Rattle.cp_model.specs.Strand.{Role, Protocol}
use Rattle.cp_model.specs.Term.{Term}
use Rattle.cp_model.specs.declared.tree.Operation.{Operation}
use Rattle.cp_model.specs.declared.step.Step.{Step}
use Rattle.cp_skel.specs.Events.{LocatedEvent}
use Rattle.cp_normal.specs.NormalForms.{IsNormal}
use Rattle.cp_normal.specs.Exact.{HasForms}
use Rattle.cp_normal.specs.Formed.{Formed}
use Rattle.cp_normal.proofs.FormsOf.{are_normal_forms}
use Rattle.cp_cohort.specs.declared.release.PartialSolution.{PartialSolution}
use Rattle.cp_cohort.specs.Releases.{Release}
use Rattle.cp_cohort.specs.Stages.{Choice, of_form, Stage, on_the_way, normal, SolvesRelease, released_inside, branching, normalising, settled, Branches, no_choices, never_matches, matches_by, EachSolvesRelease, no_forms, next_form}
use Rattle.cp_cohort.specs.declared.child.Child.{Child}
use Rattle.cp_cohort.specs.CoveringChildren.{child}
use Rattle.cp_cohort.specs.Cohort.{GuardedTest, Contracts, AreContracted, DisplacesEvent, DisplacesStrand, AddsAt, AddsEvent, Listens, IsCohort, is_before, is_displaced, is_added, of_listener, of_node, of_role, is_inside, is_critical, cyclic}
use Rattle.cp_cohort.specs.Cohort as cohort
use Rattle.cp_cohort.proofs.Listed.{given}
use Rattle.cp_cohort.proofs.PairedForms.{has_form}

-- The partial solution is normal where it is known to be.
abbrev IsNormalAt : Stage → PartialSolution → Type 0
IsNormalAt on_the_way x = Unit {0}
IsNormalAt normal x = IsNormal x.skeleton

module _ (r : Release) where
  mutual
    settles_normal : {stage : Stage} {x : PartialSolution} {ys : List PartialSolution} → SolvesRelease r stage x ys → IsNormalAt stage x → (y : PartialSolution) → IsIn y ys → IsNormal y.skeleton
    settles_normal (released_inside inside) n y i = absurd (not_in_none i)
    settles_normal (branching outside o branches) n y i = branches_normal branches y i
    settles_normal (normalising {x = x} {forms = forms} both are each) n y i =
        each_normal each (λ z j. let m = from_map of_form forms j in
        let f = has_form x.skeleton x.substitution forms are.forms are.each m.0 m.1 in
        subst (λ (w : PartialSolution). IsNormal w.skeleton) m.2 (subst IsNormal (sym f.beside.skeleton) (are_normal_forms are.normal.exact f.form.skeleton (into_map (λ (g : Formed). g.skeleton) f.listed)).normal)) y i
    settles_normal (settled {x = x} both) n y here = n
    settles_normal (settled {x = x} both) n y (there i) = absurd (not_in_none i)

    branches_normal : {x : PartialSolution} {cs : List Choice} {ys : List PartialSolution} → Branches r x cs ys → (y : PartialSolution) → IsIn y ys → IsNormal y.skeleton
    branches_normal no_choices y i = absurd (not_in_none i)
    branches_normal (never_matches never rest) y i = branches_normal rest y i
    branches_normal (matches_by {ys = ys} {zs = zs} m next first rest) y i =
        ⊎_elim (λ j. settles_normal first tt y j) (λ j. branches_normal rest y j) (in_append ys zs i)

    each_normal : {xs ys : List PartialSolution} → EachSolvesRelease r xs ys → ((x : PartialSolution) → IsIn x xs → IsNormal x.skeleton) → (y : PartialSolution) → IsIn y ys → IsNormal y.skeleton
    each_normal no_forms all y i = absurd (not_in_none i)
    each_normal (next_form {x = x} {xs = xs} {ys = ys} {zs = zs} one rest) all y i =
        ⊎_elim (λ j. settles_normal one (all x here) y j) (λ j. each_normal rest (λ z m. all z (there m)) y j) (in_append ys zs i)

module _ (q : GuardedTest) where
  forms_normal : (operation : Operation) (path : List Step) (l : Skeleton) (rs : List Skeleton) → HasForms l rs → (d : Child) → IsIn d (map (child operation path) rs) → IsNormal d.skeleton
  forms_normal operation path l rs forms d i =
      let m = from_map (child operation path) rs i in
      subst (λ (c : Child). IsNormal c.skeleton) m.2 (are_normal_forms forms m.0 m.1).normal

  contracts_normal : (o : LocatedEvent) (path : List Step) (children : List Child) → Contracts q o path children → (d : Child) → IsIn d children → IsNormal d.skeleton
  contracts_normal o path children (is_inside inside) d i = absurd (not_in_none i)
  contracts_normal o path children (is_critical at) d i = absurd (not_in_none i)
  contracts_normal o path children (cohort.never_equal at never) d i = absurd (not_in_none i)
  contracts_normal o path children (cohort.unified {l = l} {forms = forms} outside at ne unifies same has table) d i = forms_normal _ path l forms has d i

  contracted_normal : (children : List Child) → AreContracted q children → (d : Child) → IsIn d children → IsNormal d.skeleton
  contracted_normal children are d i =
      let event = given are.each d i in
      let path = given event.gives_it d event.among in
      contracts_normal event.giver path.giver path.given path.gives_it d path.among

  releases_normal : (operation : Operation) (r : Release) (grown : Skeleton) (children : List Child) → cohort.Releases q operation r grown children → (d : Child) → IsIn d children → IsNormal d.skeleton
  releases_normal operation r grown children (cyclic before) d i = absurd (not_in_none i)
  releases_normal operation r grown children (cohort.never_equal ev at never) d i = absurd (not_in_none i)
  releases_normal operation r grown children (cohort.unified {settled = ends} none ev at m same settles) d i =
      let o = from_map (λ (x : PartialSolution). child operation r.path x.skeleton) ends i in
      subst (λ (c : Child). IsNormal c.skeleton) o.2 (settles_normal r settles tt o.0 o.1)

  displaced_event : (s : ℕ) (role : Role) (height j : ℕ) (children : List Child) → DisplacesEvent q s role height j children → (d : Child) → IsIn d children → IsNormal d.skeleton
  displaced_event s role height j children (cohort.is_reception there_is) d i = absurd (not_in_none i)
  displaced_event s role height j children (is_before before) d i = absurd (not_in_none i)
  displaced_event s role height j children (is_displaced {grown = grown} there_is none grows sends each) d i =
      let one = given each d i in releases_normal _ _ grown one.given one.gives_it d one.among

  displaced_strand : (s : ℕ) (children : List Child) → DisplacesStrand q s children → (d : Child) → IsIn d children → IsNormal d.skeleton
  displaced_strand s children (of_listener there_is) d i = absurd (not_in_none i)
  displaced_strand s children (of_node same) d i = absurd (not_in_none i)
  displaced_strand s children (of_role {role = role} {height = height} there_is ne each) d i =
      let one = given each d i in displaced_event s role height one.giver one.given one.gives_it d one.among

  added_at : (role : Role) (j : ℕ) (path : List Step) (children : List Child) → AddsAt q role j path children → (d : Child) → IsIn d children → IsNormal d.skeleton
  added_at role j path children a d i = releases_normal _ _ a.grown children a.releases d i

  added_event : (role : Role) (j : ℕ) (children : List Child) → AddsEvent q role j children → (d : Child) → IsIn d children → IsNormal d.skeleton
  added_event role j children (cohort.is_reception there_is) d i = absurd (not_in_none i)
  added_event role j children (is_added there_is each) d i = let one = given each d i in added_at role j one.giver one.given one.gives_it d one.among

  listens_normal : (t : Term) (children : List Child) → Listens q t children → (d : Child) → IsIn d children → IsNormal d.skeleton
  listens_normal t children l d i = forms_normal _ [] _ l.forms l.normal d (subst (IsIn d) l.are_children i)

  pub normal_child : (protocol : Protocol) (children : List Child) → IsCohort protocol q children → (d : Child) → IsIn d children → IsNormal d.skeleton
  normal_child protocol children is d i =
      ⊎_elim
      (λ (j : IsIn d is.contracted). contracted_normal is.contracted is.are_contracted d j)
      (λ (j : IsIn d (is.displaced ++ (is.added ++ is.listeners))).
      ⊎_elim
      (λ (m : IsIn d is.displaced). let one = given is.are_displaced d m in displaced_strand one.giver one.given one.gives_it d one.among)
      (λ (m : IsIn d (is.added ++ is.listeners)).
      ⊎_elim
      (λ (n : IsIn d is.added). let role = given is.are_added d n in let event = given role.gives_it d role.among in added_event role.giver event.giver event.given event.gives_it d event.among)
      (λ (n : IsIn d is.listeners). let one = given is.are_listeners.each d n in listens_normal one.giver one.given one.gives_it d one.among)
      (in_append is.added is.listeners m))
      (in_append is.displaced (is.added ++ is.listeners) j))
      (in_append is.contracted (is.displaced ++ (is.added ++ is.listeners)) (subst (IsIn d) is.whole i))
