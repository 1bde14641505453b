-- Skeletons that come from others by steps of narrowing, with the unifiers of the steps.
use Rattle.std.proofs.Common.{◌≡◌, List, [], sym, ap, ◌∙◌}
use Rattle.cp_model.specs.Term.{AtomTerm, Term, atom_term, apply_to}
use Rattle.cp_model.specs.Identity.{unchanged}
use Rattle.cp_model.specs.declared.node.Node.{Node}
use Rattle.cp_model.specs.Skeleton.{UniqueAt, Skeleton}
use Rattle.cp_model.proofs.LawTerms.{term_composed, term_unchanged}
use Rattle.cp_theory.specs.Normal.{skeleton_under}
use Rattle.cp_unify.specs.Bindings.{Binding, as_substitution}
use Rattle.cp_unify.specs.Unifiers.{IsMostGeneralUnifier}
use Rattle.cp_collapse.specs.SameSkeletons.{SaysTheSame}
use Rattle.cp_normal.specs.NormalForms.{IsMisplaced, IsReceivedBefore, IsNarrowed, NarrowsTo, none, one}
use Rattle.cp_normal.specs.Candidates.{unifiers_of, ComesOn}
use Rattle.cp_normal.specs.declared.form.Form.{Form}
use Rattle.cp_collapse.proofs.AtomUnifiers.{most_general_for}

-- No step changes nothing.
pub comes_itself : (f : Form) → ComesOn f f
comes_itself f = record { steps = none; followed = λ t. sym (term_unchanged (apply_to (as_substitution f.substitution) t)) }

-- One step, by a unifier.
module _ (f g : Form) (u : UniqueAt) (x : Node) (heard : AtomTerm) (r : List Binding) (misplaced : IsMisplaced f.skeleton u x) (h : IsReceivedBefore f.skeleton heard x) (m : IsMostGeneralUnifier (atom_term u.value) (atom_term heard) [] r)
    (same : SaysTheSame (skeleton_under (as_substitution r) f.skeleton) g.skeleton)
    (followed : (t : Term) → apply_to (as_substitution g.substitution) t ≡ apply_to (as_substitution r) (apply_to (as_substitution f.substitution) t)) where
  abbrev step : IsNarrowed f.skeleton g.skeleton
  step = record {
    entry = u;
    node = x;
    heard = heard;
    unifier = as_substitution r;
    misplaced = misplaced;
    heard_before = h;
    most_general = most_general_for u.value heard r m;
    same = same;
  }

  pub comes_by : ComesOn f g
  comes_by = record {
    steps = one step none;
    followed = λ t.
        let v : Term = apply_to (as_substitution f.substitution) t in
        followed t
        ∙ sym (term_unchanged (apply_to (as_substitution r) v))
        ∙ sym (term_composed (as_substitution r) unchanged v);
  }

-- Steps behind steps.
narrows_then : {k l m : Skeleton} → NarrowsTo k l → NarrowsTo l m → NarrowsTo k m
narrows_then none q = q
narrows_then (one s p) q = one s (narrows_then p q)

unifiers_then : {k l m : Skeleton} (p : NarrowsTo k l) (q : NarrowsTo l m) (t : Term) → apply_to (unifiers_of (narrows_then p q)) t ≡ apply_to (unifiers_of q) (apply_to (unifiers_of p) t)
unfolding narrows_then
unifiers_then none q t = ap (apply_to (unifiers_of q)) (sym (term_unchanged t))
unifiers_then (one step p) q t =
    term_composed step.unifier (unifiers_of (narrows_then p q)) t
    ∙ unifiers_then p q (apply_to step.unifier t)
    ∙ ap (apply_to (unifiers_of q)) (sym (term_composed step.unifier (unifiers_of p) t))

pub comes_then : (f g h : Form) → ComesOn f g → ComesOn g h → ComesOn f h
comes_then f g h p q = record {
  steps = narrows_then p.steps q.steps;
  followed = λ t.
      q.followed t
      ∙ ap (apply_to (unifiers_of q.steps)) (p.followed t)
      ∙ sym (unifiers_then p.steps q.steps (apply_to (as_substitution f.substitution) t));
}
