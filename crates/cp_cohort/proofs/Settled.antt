-- The test of a release that is solved is solved by its results.
use Rattle.std.proofs.Common.{◌≡◌, List, [], ◌∷◌, ◌++◌, length, map, Some, refl, sym, ap, ◌∙◌, subst, ◌⊎◌, inl, inr, ⊎_elim, append_assoc}
use Rattle.std.proofs.lemmas.List.{append-nil}
use Rattle.cp_lists.specs.Lists.{item_at, IsIn, here, there}
use Rattle.cp_lists.proofs.Members.{not_in_none, in_append_left, in_append_right, in_append, into_map, from_map}
use Rattle.cp_model.specs.Term.{KeyTerm, Term, pair_term, enc_term, tag_term, atom_term, variables_of, variables_of_key, Assignment, value_of, after, Substitution, apply_to, composed, variable_term}
use Rattle.cp_model.specs.declared.variable.Variable.{Variable}
use Rattle.cp_model.specs.Strand.{payload, Protocol}
use Rattle.cp_model.specs.declared.variable.Declaration.{Declaration}
use Rattle.cp_model.specs.declared.strand.Event.{Event}
use Rattle.cp_model.specs.Bundle.{node_at}
use Rattle.cp_model.specs.declared.node.Node.{Node}
use Rattle.cp_model.specs.Skeleton.{skeleton_trace, term_event_at, Skeleton}
use Rattle.cp_model.specs.Problem.{IsDeclared}
use Rattle.cp_model.specs.PointOfView.{HasDeclaredVariables}
use Rattle.cp_model.specs.Same.{same_term}
use Rattle.cp_model.specs.Tree.{Pattern}
use Rattle.cp_model.proofs.LawTerms.{value_after}
use Rattle.cp_model.proofs.LawAgreement.{agree_value}
use Rattle.cp_model.proofs.LawPrefixes.{in_trace}
use Rattle.cp_model.proofs.LawStandings.{strand_with_event}
use Rattle.cp_model.proofs.DeclaredVariables.{declared_below}
use Rattle.cp_model.specs.declared.step.Step.{Step}
use Rattle.cp_model.specs.declared.step.Step.TheVariants.{Left, Right, Plaintext}
use Rattle.cp_model.specs.Positions.{term_at, positions_where}
use Rattle.cp_term.proofs.PositionLaws.{part_found}
use Rattle.cp_theory.specs.Normal.{skeleton_under}
use Rattle.cp_model.proofs.OccurringVariables.{in_strands}
use Rattle.cp_theory.specs.Above.{encryptions_above}
use Rattle.cp_theory.specs.Critical.{used_variables}
use Rattle.cp_theory.specs.Inside.{IsBroughtInside}
use Rattle.cp_normal.specs.Formed.{Formed, IsFormBeside, AreFormsBeside}
use Rattle.cp_normal.specs.declared.form.Form.{Form as NormalForm}
use Rattle.cp_normal.proofs.VariablesUnder.{all_declared}
use Rattle.cp_theory.specs.Forms.{Form}
use Rattle.cp_theory.specs.Fresh.{AreBelow}
use Rattle.cp_theory.specs.FittingAssignments.{Fits}
use Rattle.cp_theory.specs.Trials.{ReleaseTest, IsCarriedEarlier, SolvesTest}
use Rattle.cp_theory.specs.Trials as trying
use Rattle.cp_theory.proofs.Built.{listed_comes_down}
use Rattle.cp_theory.proofs.NewValues.{beside, old_values}
use Rattle.cp_pattern.specs.Unifiers.{UnifiesMostGenerally, NeverEqual}
use Rattle.cp_pattern.specs.Opened.{declared_as}
use Rattle.cp_cohort.specs.Releases.{Release, PartialSolution, came_by, IsFirstOutside}
use Rattle.cp_cohort.specs.Stages.{Choice, choices, pattern_in, of_form, Stage, SolvesRelease, released_inside, branching, normalising, settled, Branches, no_choices, never_matches, matches_by, EachSolvesRelease, no_forms, next_form}
use Rattle.cp_cohort.specs.Way.{trial_of, AreUsedVariables, IsSoundPartial, DeclaresMore}
use Rattle.cp_cohort.proofs.PairedForms.{has_form, has_answer}
use Rattle.cp_cohort.proofs.EachSettled.{settles_each}
use Rattle.cp_cohort.proofs.OpenedPatterns.{opened_value}
use Rattle.cp_cohort.proofs.Alike.{alike_tried, as_form, formed_keep}
use Rattle.cp_cohort.proofs.OnTheWay.{branch_on_the_way, form_on_the_way, at_index}

-- ---- enclosing encryptions, and choices

-- What a term has where one of its parts does, it has where an enclosing encryption does.
pub above_has : {Has : Term → Type 0} → ((a b : Term) → Has a → Has (pair_term a b)) → ((a b : Term) → Has b → Has (pair_term a b)) → ((a : Term) (k : KeyTerm) → Has a → Has (enc_term a k))
    → (t : Term) (path : List Step) (e : Term) → IsIn e (encryptions_above t path) → Has e → Has t
above_has left right body (pair_term a b) (Left ∷ path) e i h = left a b (above_has left right body a path e i h)
above_has left right body (pair_term a b) (Right ∷ path) e i h = right a b (above_has left right body b path e i h)
above_has left right body (enc_term a k) (Plaintext ∷ path) e here h = h
above_has left right body (enc_term a k) (Plaintext ∷ path) e (there i) h = body a k (above_has left right body a path e i h)
above_has left right body (pair_term a b) (Plaintext ∷ path) e i h = absurd (not_in_none i)
above_has left right body (pair_term a b) [] e i h = absurd (not_in_none i)
above_has left right body (enc_term a k) (Left ∷ path) e i h = absurd (not_in_none i)
above_has left right body (enc_term a k) (Right ∷ path) e i h = absurd (not_in_none i)
above_has left right body (enc_term a k) [] e i h = absurd (not_in_none i)
above_has left right body (tag_term bytes) path e i h = absurd (not_in_none i)
above_has left right body (atom_term a) path e i h = absurd (not_in_none i)

-- The variables of an enclosing encryption are those of the term.
pub above_variables : (t : Term) (path : List Step) (e : Term) → IsIn e (encryptions_above t path) → (x : Variable) → IsIn x (variables_of e) → IsIn x (variables_of t)
above_variables t path e i x j = above_has {Has = λ (u : Term). IsIn x (variables_of u)} (λ a b m. in_append_left (variables_of b) m) (λ a b m. in_append_right (variables_of a) m) (λ a k m. in_append_left (variables_of_key k) m) t path e i j

abbrev pub choice : Term → Pattern → Choice
choice e p = record { encryption = e; pattern = p }

in_choices : (es : List Term) (ps : List Pattern) (e : Term) (p : Pattern) → IsIn e es → IsIn p ps → IsIn (choice e p) (choices es ps)
in_choices [] ps e p i j = absurd (not_in_none i)
in_choices (e ∷ es) ps f p here j = in_append_left (choices es ps) (into_map (choice e) j)
in_choices (d ∷ es) ps e p (there i) j = in_append_right (map (choice d) ps) (in_choices es ps e p i j)

pub of_choices : (es : List Term) (ps : List Pattern) (c : Choice) → IsIn c (choices es ps) → IsIn c.encryption es × IsIn c.pattern ps
of_choices [] ps c i = absurd (not_in_none i)
of_choices (e ∷ es) ps c i =
    ⊎_elim (λ j. let m = from_map (choice e) ps j in subst (λ (d : Choice). IsIn d.encryption (e ∷ es) × IsIn d.pattern ps) m.2 (here, m.1))
    (λ j. let r = of_choices es ps c j in (there r.0, r.1)) (in_append (map (choice e) ps) (choices es ps) i)

-- ---- the variables of an event

pub event_declared : (ds : List Declaration) (k : Skeleton) → HasDeclaredVariables ds k → (n : Node) (e : Event Term) → term_event_at k.strands n ≡ Some e → (x : Variable) → IsIn x (variables_of (payload e)) → IsDeclared ds x
event_declared ds k h n e at x i =
    let s = strand_with_event (item_at k.strands n.strand) n.index e at in
    h.occurring x (in_append_left _ (in_strands k.strands n.strand s.0 x s.1 (in_trace (skeleton_trace s.0) n.index e x s.2 i)))

pub used_below : (ds : List Declaration) (k : Skeleton) → HasDeclaredVariables ds k → AreBelow (length ds) (used_variables k)
used_below ds k h x i = declared_below ds x.number x.sort (all_declared ds k h x i)

module _ (protocol : Protocol) (first : Skeleton) (r : Release) (used : AreUsedVariables first r) where
  abbrev trial : ReleaseTest
  trial = trial_of protocol first r

  -- ---- values that bring an occurrence inside

  module _ (x : PartialSolution) (w : IsSoundPartial protocol first r x) (event : Event Term) (n : Node) (at : term_event_at x.skeleton.strands n ≡ Some event) (path : List Step) (g : Assignment)
      (inside : IsBroughtInside r.patterns (after g (came_by x)) g (payload event) path) where
    abbrev e : Term
    e = inside.encryption

    abbrev p : Pattern
    p = inside.protected.pattern

    abbrev filled : Assignment
    filled = inside.protected.matches.filled

    abbrev new : Assignment
    new = beside (length x.skeleton.variables) p.locals g filled

    below_given : (y : Variable) → IsIn y (used_variables first) → AreBelow (length x.skeleton.variables) (variables_of (apply_to (came_by x) (variable_term y)))
    below_given y is z i = declared_below x.skeleton.variables z.number z.sort (w.gives_declared y z is i)

    e_declared : (y : Variable) → IsIn y (variables_of e) → IsDeclared x.skeleton.variables y
    e_declared y i = event_declared x.skeleton.variables x.skeleton w.declared n event at y (above_variables (payload event) path e inside.above y i)

    same_e : value_of g e ≡ value_of new e
    same_e = agree_value g new e (old_values (length x.skeleton.variables) p.locals g filled (variables_of e) (λ y i. declared_below x.skeleton.variables y.number y.sort (e_declared y i)))

    pub made_equal : value_of new e ≡ value_of new (pattern_in x p)
    made_equal =
        sym same_e ∙ sym inside.protected.matches.same
        ∙ sym (opened_value p (came_by x) (length x.skeleton.variables) g filled (λ y free. inside.protected.matches.as_said y free) (λ y free. below_given y (used p y inside.protected.listed free)))

    pub made_fits : (u : Substitution) → UnifiesMostGenerally e (pattern_in x p) u → Fits first (came_by x) x.skeleton g u
    made_fits u m = record {
      values = new;
      same_inside = old_values (length x.skeleton.variables) p.locals g filled (used_variables x.skeleton) (used_below x.skeleton.variables x.skeleton w.declared);
      same_of_first = λ y is.
          let v = apply_to (came_by x) (variable_term y) in
          value_after g (came_by x) (variable_term y)
          ∙ agree_value g new v (old_values (length x.skeleton.variables) p.locals g filled (variables_of v) (below_given y is))
          ∙ sym (value_after new (came_by x) (variable_term y));
      fits = m.general new made_equal;
    }

  -- ---- along the way

  -- Of a choice of the partial solution: its two are never equal, or the test is solved under a unifier of them.
  abbrev IsDone : List Skeleton → PartialSolution → Choice → Type 0
  IsDone ks x c = NeverEqual c.encryption (pattern_in x c.pattern) ⊎ ((u : Substitution) × UnifiesMostGenerally c.encryption (pattern_in x c.pattern) u × SolvesTest trial ks (composed (came_by x) u) (skeleton_under u x.skeleton))

  -- The choices are of encryptions over variables of the partial solution, with patterns of the release.
  abbrev IsChoiceOf : PartialSolution → Choice → Type 0
  IsChoiceOf x c = ((y : Variable) → IsIn y (variables_of c.encryption) → IsDeclared x.skeleton.variables y) × IsIn c.pattern r.patterns

  abbrev AreListed : List Skeleton → List PartialSolution → Type 0
  AreListed ks ys = (y : PartialSolution) → IsIn y ys → IsIn y.skeleton ks

  record IsBranched (ks : List Skeleton) (x : PartialSolution) (g : Assignment) : Type 0 where
    substitution : Substitution
    fits : Fits first (came_by x) x.skeleton g substitution
    tried : SolvesTest trial ks (composed (came_by x) substitution) (skeleton_under substitution x.skeleton)

  module _ (ks : List Skeleton) (x : PartialSolution) (w : IsSoundPartial protocol first r x) (t : Term) (path : List Step) (o : IsFirstOutside r x t path) where
    abbrev occurrence : IsCarriedEarlier trial (came_by x) x.skeleton
    occurrence = record {
      index = o.index;
      earlier = o.earlier;
      on_instance = at_index x.skeleton r.strand r.index o.index w.on_instance;
      event = o.event;
      there = o.there;
      path = path;
      carried = subst (λ (u : Term). term_at u path ≡ Some (apply_to (came_by x) r.critical)) o.of_event
          ((part_found (apply_to (came_by x) r.critical) t (positions_where (same_term (apply_to (came_by x) r.critical)) t) refl path).0
          (subst (IsIn path) (sym o.first.among) (in_append_right o.first.before here)));
    }

    are_choices : (c : Choice) → IsIn c (choices (encryptions_above t path) r.patterns) → IsChoiceOf x c
    are_choices c i =
        let m = of_choices (encryptions_above t path) r.patterns c i in (
          λ y j. event_declared x.skeleton.variables x.skeleton w.declared (node_at r.strand o.index) o.event o.there y
              (above_variables (payload o.event) path c.encryption (subst (λ (u : Term). IsIn c.encryption (encryptions_above u path)) o.of_event m.0) y j),
          m.1,
        )

    branched_by : ((c : Choice) → IsIn c (choices (encryptions_above t path) r.patterns) → IsDone ks x c) → (g : Assignment) → IsBroughtInside r.patterns (after g (came_by x)) g (payload o.event) path → IsBranched ks x g
    branched_by done g inside =
        ⊎_elim
        (λ never. absurd (never (new x w o.event (node_at r.strand o.index) o.there path g inside) (made_equal x w o.event (node_at r.strand o.index) o.there path g inside)))
        (λ d. record { substitution = d.0; fits = made_fits x w o.event (node_at r.strand o.index) o.there path g inside d.0 d.1; tried = d.2 })
        (done (choice inside.encryption inside.protected.pattern)
        (in_choices (encryptions_above t path) r.patterns inside.encryption inside.protected.pattern
        (subst (λ (u : Term). IsIn inside.encryption (encryptions_above u path)) (sym o.of_event) inside.above) inside.protected.listed))

    pub branched_tried : ((c : Choice) → IsIn c (choices (encryptions_above t path) r.patterns) → IsDone ks x c) → SolvesTest trial ks (came_by x) x.skeleton
    branched_tried done = trying.branched occurrence (λ g inside. (branched_by done g inside).substitution) (λ g inside. (branched_by done g inside).fits) (λ g inside. (branched_by done g inside).tried)

  pub forms_are_on_the_way : (x : PartialSolution) → IsSoundPartial protocol first r x → (answers : List NormalForm) → AreFormsBeside x.skeleton x.substitution answers → (y : PartialSolution) → IsIn y (map of_form answers) → IsSoundPartial protocol first r y
  forms_are_on_the_way x w answers are y i =
      let m = from_map of_form answers i in
      let h = has_form x.skeleton x.substitution answers are.forms are.each m.0 m.1 in
      subst (IsSoundPartial protocol first r) m.2 (form_on_the_way protocol first r used x w are.forms are.normal h.form h.listed m.0 h.beside)

  form_tried : (ks : List Skeleton) (x : PartialSolution) (f : Formed) (a : NormalForm) → IsFormBeside x.skeleton x.substitution a f → SolvesTest trial ks (came_by (of_form a)) a.skeleton → SolvesTest trial ks (composed (came_by x) f.substitution) f.skeleton
  form_tried ks x f a beside tried = subst (SolvesTest trial ks (composed (came_by x) f.substitution)) beside.skeleton (subst (λ (s : Substitution). SolvesTest trial ks s a.skeleton) beside.substitution tried)

  forms_tried : (ks : List Skeleton) (x : PartialSolution) → IsSoundPartial protocol first r x → (answers : List NormalForm) → AreFormsBeside x.skeleton x.substitution answers →
      ((y : PartialSolution) → IsIn y (map of_form answers) → SolvesTest trial ks (came_by y) y.skeleton) → SolvesTest trial ks (came_by x) x.skeleton
  forms_tried ks x w answers are each = trying.normalised (map as_form are.forms) (formed_keep protocol x.skeleton are.forms w.skeleton are.normal)
      (λ form i.
      let m = from_map as_form are.forms i in
      let h = has_answer x.skeleton x.substitution answers are.forms are.each m.0 m.1 in
      subst (λ (f : Form). SolvesTest trial ks (composed (came_by x) f.substitution) f.skeleton) m.2 (form_tried ks x m.0 h.answer h.beside (each (of_form h.answer) (into_map of_form h.listed))))

  mutual
    pub settles_tried : (ks : List Skeleton) {stage : Stage} {x : PartialSolution} {ys : List PartialSolution} → SolvesRelease r stage x ys → IsSoundPartial protocol first r x → AreListed ks ys → SolvesTest trial ks (came_by x) x.skeleton
    settles_tried ks (released_inside inside) w listed = trying.never (record { on_instance = w.on_instance; event = inside.event; there = inside.there; inside = inside.inside })
    settles_tried ks (branching {x = x} {t = t} {path = path} outside o branches) w listed = branched_tried ks x w t path o (branches_done ks branches w (are_choices ks x w t path o) listed)
    settles_tried ks (normalising {x = x} {forms = answers} both are each) w listed = forms_tried ks x w answers are (each_tried ks each (forms_are_on_the_way x w answers are) listed)
    settles_tried ks (settled {x = x} both) w listed = trying.settled (listed_comes_down protocol ks x.skeleton (listed x here))

    branches_done : (ks : List Skeleton) {x : PartialSolution} {cs : List Choice} {ys : List PartialSolution} → Branches r x cs ys → IsSoundPartial protocol first r x → ((c : Choice) → IsIn c cs → IsChoiceOf x c) → AreListed ks ys →
        (c : Choice) → IsIn c cs → IsDone ks x c
    branches_done ks no_choices w are listed c i = absurd (not_in_none i)
    branches_done ks (never_matches never rest) w are listed c here = inl never
    branches_done ks (never_matches never rest) w are listed c (there i) = branches_done ks rest w (λ d j. are d (there j)) listed c i
    branches_done ks (matches_by {x = x} {u = u} {y = b} {ys = ys} {zs = zs} m next first_settles rest) w are listed c here =
        let a = are c here in
        inr (
          u,
          m,
          alike_tried trial ks (composed (came_by x) u) (skeleton_under u x.skeleton) b.skeleton next.same
              (subst (λ (s : Substitution). SolvesTest trial ks s b.skeleton) next.by
              (settles_tried ks first_settles (branch_on_the_way protocol first r used x w c.encryption c.pattern a.0 a.1 u m b next) (λ y j. listed y (in_append_left zs j)))),
        )
    branches_done ks (matches_by {ys = ys} m next first_settles rest) w are listed c (there i) = branches_done ks rest w (λ d j. are d (there j)) (λ y j. listed y (in_append_right ys j)) c i

    each_tried : (ks : List Skeleton) {xs ys : List PartialSolution} → EachSolvesRelease r xs ys → ((x : PartialSolution) → IsIn x xs → IsSoundPartial protocol first r x) → AreListed ks ys → (x : PartialSolution) → IsIn x xs → SolvesTest trial ks (came_by x) x.skeleton
    each_tried ks no_forms are listed x i = absurd (not_in_none i)
    each_tried ks (next_form {zs = zs} one rest) are listed x here = settles_tried ks one (are x here) (λ y j. listed y (in_append_left zs j))
    each_tried ks (next_form {ys = ys} one rest) are listed x (there i) = each_tried ks rest (λ z j. are z (there j)) (λ y j. listed y (in_append_right ys j)) x i

  -- ---- its results

  abbrev IsLater : PartialSolution → PartialSolution → Type 0
  IsLater x y = IsSoundPartial protocol first r y × DeclaresMore x.skeleton.variables y.skeleton.variables

  pub settles_later : {stage : Stage} {x : PartialSolution} {ys : List PartialSolution} → SolvesRelease r stage x ys → IsSoundPartial protocol first r x → (y : PartialSolution) → IsIn y ys → IsLater x y
  settles_later {x = x} settles w y i =
      (settles_each r (IsLater x) (record {
        branch = λ z later c choice u m b next.
            let new = declared_as z.skeleton.variables c.pattern.locals in
            let a = are_choices [] z later.0 choice.term choice.path choice.outside c choice.listed in (
              branch_on_the_way protocol first r used z later.0 c.encryption c.pattern a.0 a.1 u m b next,
              record { more = later.1.more ++ new; behind = next.variables ∙ ap (λ (ds : List Declaration). ds ++ new) later.1.behind ∙ append_assoc x.skeleton.variables later.1.more new },
            );
        form = λ z later forms are f listed a beside. (form_on_the_way protocol first r used z later.0 forms are f listed a beside, record { more = later.1.more; behind = beside.variables ∙ later.1.behind });
      }) settles (w, record { more = []; behind = sym (append-nil x.skeleton.variables) }) y i).0
