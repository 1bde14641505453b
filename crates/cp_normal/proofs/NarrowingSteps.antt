-- Steps of narrowing, and the normal forms to which they lead.
use Rattle.std.proofs.Common.{◌≡◌, ◌⊎◌, inl, inr, ◌<◌, Bool, true, false, List, [], ◌∷◌, map, refl, sym, ap, ◌∙◌, subst, ⊎_elim}
use Rattle.std.specs.Prelude.{not}
use Rattle.std.proofs.lemmas.List.{map-append}
use Rattle.cp_lists.specs.Lists.{IsIn, here, there}
use Rattle.cp_lists.proofs.Items.{at_place}
use Rattle.cp_lists.proofs.Members.{in_append, from_map, only_item, not_in_none}
use Rattle.cp_normal.specs.declared.rewriting.Candidate.{Candidate}
use Rattle.cp_normal.specs.declared.rewriting.Candidate.TheVariants.{Open, Done}
use Rattle.cp_normal.specs.Leaves.{LeavesOf, of_result, of_item, EachHasLeaves, of_none, of_first, HasOpen}
use Rattle.cp_model.specs.Term.{AtomTerm, atom_term}
use Rattle.cp_model.specs.declared.node.Node.{Node}
use Rattle.cp_model.specs.declared.node.OrderPair.{OrderPair}
use Rattle.cp_model.specs.Skeleton.{UniqueAt, Skeleton}
use Rattle.cp_model.specs.Problem.{variables_of_skeleton}
use Rattle.cp_skel.proofs.EachOnce.{listed-unique}
use Rattle.cp_theory.specs.Normal.{with_pairs}
use Rattle.cp_unify.specs.Unifiers.{IsMostGeneralUnifier}
use Rattle.cp_normal.specs.declared.form.Form.{Form}
use Rattle.cp_normal.specs.NormalForms.{IsMisplaced, IsReceivedBefore}
use Rattle.cp_normal.specs.Branches.{HasFewerVariables, IsSettled}
use Rattle.cp_normal.specs.Branched.{IsBranch}
use Rattle.cp_normal.specs.Candidates.{ComesOn, IsNormalFormOfSettled, AreOpenBranches, NarrowsInto, none_if_refuted, into_branches, none_if_cyclic, into_form}
use Rattle.cp_normal.specs.Exact.{IsRefuted, HasForms, refuted, branching, cyclic, normal, EachHasForms, no_more, and_then}
use Rattle.cp_normal.specs.Findings.{AreNormalPairs, IsContradictory}
use Rattle.cp_normal.specs.Formed.{AreFormsBeside, Keeps}
use Rattle.cp_normal.specs.MisplacedValues.{IsFirstMisplaced}
use Rattle.cp_normal.specs.ReceivedAtomLists.{heard_before}
use Rattle.cp_normal.proofs.Distinct.{distinct}
use Rattle.cp_normal.proofs.Fewer.{narrowed_has_fewer, fewer_counted}
use Rattle.cp_normal.proofs.FormedBeside.{IsMadeFrom, are_forms_beside}
use Rattle.cp_normal.proofs.Heard.{heard_if_listed}
use Rattle.cp_normal.proofs.UnifierSteps.{comes_itself, comes_by, comes_then}

-- ---- one step

-- g follows on f: it has fewer variables that occur, the same table, and comes from it by steps.
record FollowsByNarrowing (f g : Form) : Type 0 where
  pub fewer : HasFewerVariables f.skeleton g.skeleton
  pub variables : g.skeleton.variables ≡ f.skeleton.variables
  pub comes_on : ComesOn f g

module _ (f : Form) (v : AtomTerm) (x : Node) (misplaced : IsFirstMisplaced f.skeleton v x) where
  abbrev entry : UniqueAt
  entry = misplaced.here.entry

  is_misplaced : IsMisplaced f.skeleton entry x
  is_misplaced = record {
    listed = ((listed-unique f.skeleton).same entry).0 (at_place _ misplaced.here.place entry misplaced.here.at_place);
    originates = misplaced.here.originates_elsewhere.1;
    elsewhere = misplaced.here.originates_elsewhere.0;
  }

  branch_follows : (g : Form) → IsBranch f v (heard_before f.skeleton x) g → FollowsByNarrowing f g
  branch_follows g b =
      let heard : IsReceivedBefore f.skeleton b.heard x = heard_if_listed f.skeleton x (heard_before f.skeleton x) b.heard refl b.listed in
      let most_general : IsMostGeneralUnifier (atom_term entry.value) (atom_term b.heard) [] b.bindings =
      subst (λ (u : AtomTerm). IsMostGeneralUnifier (atom_term u) (atom_term b.heard) [] b.bindings) (sym misplaced.here.is_value) b.most_general in
      record {
        fewer = narrowed_has_fewer f.skeleton g.skeleton entry x b.heard b.bindings is_misplaced heard most_general b.same;
        variables = b.variables;
        comes_on = comes_by f g entry x b.heard b.bindings is_misplaced heard most_general b.same b.followed;
      }

abbrev to_narrow : Form → Candidate Form Form
to_narrow f = Open f

abbrev result_of : Form → Candidate Form Form
result_of r = Done r

same_form : (f g : Form) → to_narrow f ≡ to_narrow g → f ≡ g
same_form f g e = cc

no_result : (g r : Form) → to_narrow g ≡ result_of r → ⊥
no_result g r e = cc

-- A branch is one of the skeletons.
from_open : (g : Form) (made : List (Candidate Form Form)) (branches : List Form) → made ≡ map Open branches → IsIn (Open g) made → IsIn g branches
from_open g made branches e i =
    let o = from_map Open branches (subst (λ (cs : List (Candidate Form Form)). IsIn (Open g) cs) e i) in
    subst (λ (h : Form). IsIn h branches) (same_form o.0 g o.2) o.1

step_follows : (f g : Form) (made : List (Candidate Form Form)) → NarrowsInto f made → IsIn (Open g) made → FollowsByNarrowing f g
step_follows f g _ (none_if_refuted r) i = elim i [ ]
step_follows f g made (into_branches {v = v} {x = x} n m are) i = branch_follows f v x m g (are.are.each g (from_open g made are.branches are.all_open i))
step_follows f g _ (none_if_cyclic s c) i = elim i [ ]
step_follows f g _ (into_form {r = r} n) i = absurd (no_result g r (only_item i))

pub narrowing_falls : (f g : Form) (made : List (Candidate Form Form)) → NarrowsInto f made → IsIn (Open g) made → distinct (variables_of_skeleton g.skeleton) < distinct (variables_of_skeleton f.skeleton)
narrowing_falls f g made n i = fewer_counted f.skeleton g.skeleton (step_follows f g made n i).fewer

-- ---- all steps: the results are the normal forms, in order

abbrev skeletons : List Form → List Skeleton
skeletons fs = map (λ (f : Form). f.skeleton) fs

-- What the results of a candidate are.
abbrev AreFormsOf : Candidate Form Form → List Form → Type 0
AreFormsOf (Open f) rs = HasForms f.skeleton (skeletons rs)
AreFormsOf (Done r) rs = Unit {0}

mutual
  leaves_are_forms : {c : Candidate Form Form} {rs : List Form} → LeavesOf NarrowsInto c rs → AreFormsOf c rs
  leaves_are_forms of_result = tt
  leaves_are_forms (of_item (none_if_refuted r) of_none) = refuted r
  leaves_are_forms (of_item {ds = rs} (into_branches n m are) each) = branching n m are.are.in_order (each_are_forms are.branches rs are.all_open each)
  leaves_are_forms (of_item (none_if_cyclic s c) of_none) = cyclic s c
  leaves_are_forms (of_item {x = f} (into_form {r = r} n) (of_first of_result of_none)) =
      subst (λ (k : Skeleton). HasForms f.skeleton (k ∷ [])) (sym n.same) (normal n.settled n.normal n.consistent)

  each_are_forms : {cs : List (Candidate Form Form)} (fs rs : List Form) → cs ≡ map Open fs → EachHasLeaves NarrowsInto cs rs → EachHasForms (skeletons fs) (skeletons rs)
  each_are_forms [] _ e of_none = no_more
  each_are_forms (f ∷ fs) _ e of_none = absurd (cc)
  each_are_forms [] _ e (of_first one rest) = absurd (cc)
  each_are_forms (f ∷ fs) _ e (of_first {c = c} {cs = cs} {ds = rs} {es = ss} one rest) =
      let q : c ≡ Open f = cc in
      let t : cs ≡ map Open fs = cc in
      subst (EachHasForms (skeletons (f ∷ fs))) (sym (map-append (λ (g : Form). g.skeleton) rs ss))
      (and_then (subst (λ (d : Candidate Form Form). AreFormsOf d rs) q (leaves_are_forms one)) (each_are_forms fs ss t rest))

-- ---- all steps: how each result is made

-- How a result of a candidate is made.
abbrev IsMadeOf : Candidate Form Form → Form → Type 0
IsMadeOf (Open f) r = IsMadeFrom f r
IsMadeOf (Done g) r = r ≡ g

abbrev IsMadeOfOne : List (Candidate Form Form) → Form → Type 0
IsMadeOfOne cs r = (c : Candidate Form Form) × IsIn c cs × IsMadeOf c r

made_further : (f g r : Form) → FollowsByNarrowing f g → IsMadeFrom g r → IsMadeFrom f r
made_further f g r follows m = record { last = m.last; comes_on = comes_then f g m.last follows.comes_on m.comes_on; form = m.form; variables = m.variables ∙ follows.variables }

made_at_once : (f r : Form) → IsNormalFormOfSettled f r → IsMadeFrom f r
made_at_once f r n = record { last = f; comes_on = comes_itself f; form = n; variables = n.variables }

-- A result among what f becomes is its normal form.
done_settles : (f g : Form) (made : List (Candidate Form Form)) → NarrowsInto f made → IsIn (Done g) made → IsNormalFormOfSettled f g
done_settles f g _ (none_if_refuted q) i = elim i [ ]
done_settles f g made (into_branches n q are) i = absurd (none_done (from_map Open are.branches (subst (λ (cs : List (Candidate Form Form)). IsIn (Done g) cs) are.all_open i)))
  where
    none_done : (h : Form) × IsIn h are.branches × (to_narrow h ≡ result_of g) → ⊥
    none_done o = no_result o.0 g o.2
done_settles f g _ (none_if_cyclic s q) i = elim i [ ]
done_settles f g _ (into_form {r = s} n) i = subst (λ (h : Form). IsNormalFormOfSettled f h) (same_result g s (only_item i)) n
  where
    same_result : (g s : Form) → result_of g ≡ result_of s → s ≡ g
    same_result g s e = cc

-- A result of what f becomes is one of f.
made_by_step : (f r : Form) (made : List (Candidate Form Form)) → NarrowsInto f made → (c : Candidate Form Form) → IsIn c made → IsMadeOf c r → IsMadeFrom f r
made_by_step f r made n (Open g) i m = made_further f g r (step_follows f g made n i) m
made_by_step f r made n (Done g) i m = made_at_once f r (subst (λ (h : Form). IsNormalFormOfSettled f h) (sym m) (done_settles f g made n i))

mutual
  leaf_is_made : {c : Candidate Form Form} {rs : List Form} → LeavesOf NarrowsInto c rs → (r : Form) → IsIn r rs → IsMadeOf c r
  leaf_is_made of_result r i = only_item i
  leaf_is_made (of_item {x = f} {made = made} n each) r i = let m : IsMadeOfOne made r = each_is_made each r i in made_by_step f r made n m.0 m.1 m.2

  each_is_made : {cs : List (Candidate Form Form)} {rs : List Form} → EachHasLeaves NarrowsInto cs rs → (r : Form) → IsIn r rs → IsMadeOfOne cs r
  each_is_made of_none r i = elim i [ ]
  each_is_made (of_first {c = c} {cs = cs} {ds = rs} {es = ss} one rest) r i =
      ⊎_elim (λ j. (c, here, leaf_is_made one r j)) (λ j. let m : IsMadeOfOne cs r = each_is_made rest r j in (m.0, there m.1, m.2)) (in_append rs ss i)

pub leaves_are_beside : (f : Form) (rs : List Form) → LeavesOf NarrowsInto (Open f) rs → AreFormsBeside f.skeleton f.substitution rs
leaves_are_beside f rs leaves = are_forms_beside f rs (leaves_are_forms leaves) (λ r i. leaf_is_made leaves r i)

pub is_shut : (is_open : Bool) → not is_open ≡ true → is_open ≡ true → ⊥
is_shut true settled open_too = let e : false ≡ true = settled in cc
is_shut false settled open_too = let e : false ≡ true = open_too in cc

-- Where nothing is left to narrow, the results keep strands and substitution.
kept_by : (f r : Form) (made : List (Candidate Form Form)) → NarrowsInto f made → (HasOpen made → ⊥) → (c : Candidate Form Form) → IsIn c made → IsMadeOf c r → Keeps f.skeleton f.substitution r
kept_by f r made n shut (Open g) i m = absurd (shut (Open g, i, tt))
kept_by f r made n shut (Done g) i m =
    let settled = subst (λ (h : Form). IsNormalFormOfSettled f h) (sym m) (done_settles f g made n i) in
    record { strands = ap (λ (k : Skeleton). k.strands) settled.same; substitution = settled.substitution }

pub settled_keep : (f : Form) (made : List (Candidate Form Form)) (rs : List Form) → NarrowsInto f made → EachHasLeaves NarrowsInto made rs → (HasOpen made → ⊥) → (r : Form) → IsIn r rs → Keeps f.skeleton f.substitution r
settled_keep f made rs n each shut r i = let m : IsMadeOfOne made r = each_is_made each r i in kept_by f r made n shut m.0 m.1 m.2

-- ---- what the program makes

pub ends_narrowed : (f : Form) (made : List (Candidate Form Form)) → IsRefuted f.skeleton ⊎ (IsSettled f.skeleton × IsContradictory f.skeleton) → made ≡ [] → NarrowsInto f made
ends_narrowed f made (inl r) e = subst (NarrowsInto f) (sym e) (none_if_refuted r)
ends_narrowed f made (inr s) e = subst (NarrowsInto f) (sym e) (none_if_cyclic s.0 s.1)

pub branches_narrowed : (f : Form) (v : AtomTerm) (x : Node) (atoms : List AtomTerm) (made : List (Candidate Form Form)) → (IsRefuted f.skeleton → ⊥) → IsFirstMisplaced f.skeleton v x → atoms ≡ heard_before f.skeleton x →
    AreOpenBranches f v atoms made → NarrowsInto f made
branches_narrowed f v x atoms made consistent misplaced in_order are = into_branches consistent misplaced (subst (λ (vs : List AtomTerm). AreOpenBranches f v vs made) in_order are)

pub form_narrowed : (f r : Form) (pairs : List OrderPair) → IsSettled f.skeleton → AreNormalPairs f.skeleton pairs × (IsContradictory f.skeleton → ⊥) → r.skeleton ≡ with_pairs f.skeleton pairs → r.substitution ≡ f.substitution → IsNormalFormOfSettled f r
form_narrowed f r pairs settled are same substitution =
    record { settled = settled; pairs = pairs; normal = are.0; consistent = are.1; same = same; variables = ap (λ (k : Skeleton). k.variables) same; substitution = substitution }

pub settled_narrowed : (f r : Form) (made : List (Candidate Form Form)) → IsNormalFormOfSettled f r → made ≡ Done r ∷ [] → NarrowsInto f made
settled_narrowed f r made n is = subst (NarrowsInto f) (sym is) (into_form n)

-- ---- the normal forms, where a step tells them

pub ends_beside : (f : Form) (rs : List Form) → IsRefuted f.skeleton ⊎ (IsSettled f.skeleton × IsContradictory f.skeleton) → rs ≡ [] → AreFormsBeside f.skeleton f.substitution rs
ends_beside f rs ends e = subst (AreFormsBeside f.skeleton f.substitution) (sym e) (leaves_are_beside f [] (of_item (ends_narrowed f [] ends refl) of_none))

pub settled_beside : (f r : Form) (rs : List Form) → IsNormalFormOfSettled f r → rs ≡ r ∷ [] → AreFormsBeside f.skeleton f.substitution rs
settled_beside f r rs n e = subst (AreFormsBeside f.skeleton f.substitution) (sym e) (leaves_are_beside f (r ∷ []) (of_item (into_form n) (of_first of_result of_none)))

pub none_kept : (f : Form) (rs : List Form) → rs ≡ [] → (g : Form) → IsIn g rs → Keeps f.skeleton f.substitution g
none_kept f rs e g i = absurd (not_in_none (subst (IsIn g) e i))

pub settled_kept : (f r : Form) (rs : List Form) → IsNormalFormOfSettled f r → rs ≡ r ∷ [] → (g : Form) → IsIn g rs → Keeps f.skeleton f.substitution g
settled_kept f r rs n e g i =
    let same : g ≡ r = only_item (subst (IsIn g) e i) in
    subst (Keeps f.skeleton f.substitution) (sym same) (record { strands = ap (λ (k : Skeleton). k.strands) n.same; substitution = n.substitution })
