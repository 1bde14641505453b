-- The pattern that a child gives; and that patterns which guard a test guard it still with it.
use Rattle.std.proofs.Common.{◌≡◌, Bool, true, false, List, [], ◌∷◌, ◌++◌, refl, sym, ◌∙◌, subst, ⊎_elim}
use Rattle.cp_lists.specs.Lists.{IsIn}
use Rattle.cp_lists.proofs.Members.{in_append_left, in_pushed}
use Rattle.cp_model.proofs.CarriedParts.{not_both}
use Rattle.cp_model.specs.Term.{KeyTerm, Term, enc_term, variables_of_key}
use Rattle.cp_model.specs.declared.variable.Variable.{Variable}
use Rattle.cp_model.specs.Identity.{unchanged}
use Rattle.cp_model.specs.declared.node.Node.{Node}
use Rattle.cp_model.specs.Pattern.{IsPattern}
use Rattle.cp_model.specs.Same.{has_variable}
use Rattle.cp_model.specs.Skeleton.{Skeleton}
use Rattle.cp_model.specs.Tree.{Pattern}
use Rattle.cp_model.proofs.SameTests.{variable_in, in_has_variable}
use Rattle.cp_model.specs.declared.step.Step.{Step}
use Rattle.cp_theory.specs.Above.{encryptions_above}
use Rattle.cp_theory.specs.Critical.{used_variables}
use Rattle.cp_theory.specs.Guards.{HoldsNoLocalInItsKey, Guards}
use Rattle.cp_theory.specs.Inside.{IsInside}
use Rattle.cp_theory.specs.Matches.{IsFreeIn}
use Rattle.cp_escape.specs.Escape.{IsFirstWith}
use Rattle.cp_escape.specs.WidenedPattern.{BindsNothing, EndsBySending, StaysClosed, AreNewVariables, WidensBy}
use Rattle.cp_escape.proofs.PartsAbove.{part_above}
use Rattle.cp_escape.proofs.EscapeGuards.{first_is_in, first_has}

module _ (k l : Skeleton) (path : List Step) (message : Term) (sends : EndsBySending k l message) (e : Term) (first : IsFirstWith (StaysClosed k) (encryptions_above message path) e) (locals : List Variable) (new : AreNewVariables k e locals) where
  pub new_is_pattern : IsPattern (record { term = e; locals = locals })
  new_is_pattern = record {
    encryption = (part_above message path e (first_is_in first)).encryption;
    locals_occur = λ x i. ((new.exactly x).0 i).0;
  }

  pub new_widens : BindsNothing k l → (p : Pattern) → p ≡ record { term = e; locals = locals } → WidensBy k l path p
  new_widens binds p is = subst (WidensBy k l path) (sym is) (record { binds_nothing = binds; message = message; sends = sends; outermost = first; locals = new })

-- ---- guarding

module _ (k l : Skeleton) (n : Node) (c : Term) (path : List Step) (p : Pattern) (w : WidensBy k l path p) where
  free_used : (x : Variable) (b : Bool) → has_variable (used_variables k) x ≡ b → IsFreeIn x p → IsIn x (used_variables k)
  free_used x true h f = variable_in (used_variables k) x h
  free_used x false h f = absurd (f.no_local ((w.locals.exactly x).1 (f.occurs, λ i. not_both h (in_has_variable (used_variables k) x i))))

  own_key : HoldsNoLocalInItsKey p
  own_key body key x is i j =
      let s = first_has w.outermost in
      let both : enc_term body key ≡ enc_term s.body s.key = sym is ∙ s.is_encryption in
      let same : key ≡ s.key = cc in
      ((w.locals.exactly x).0 j).1 (s.own_key x (subst (λ (z : KeyTerm). IsIn x (variables_of_key z)) same i))

  more_inside : (ps : List Pattern) (t : Term) (steps : List Step) → IsInside ps unchanged t steps → IsInside (ps ++ p ∷ []) unchanged t steps
  more_inside ps t steps i = record { encryption = i.encryption; above = i.above; pattern = i.pattern; listed = in_append_left (p ∷ []) i.listed; matches = i.matches }

  pub guards_still : (ps : List Pattern) → Guards ps k n c → Guards (ps ++ p ∷ []) k n c
  guards_still ps g = record {
    patterns = λ q i. ⊎_elim (g.patterns q) (λ same. subst IsPattern same (new_is_pattern k l path w.message w.sends p.term w.outermost p.locals w.locals)) (in_pushed ps p q i);
    keys = λ q i. ⊎_elim (g.keys q) (λ same. subst HoldsNoLocalInItsKey same own_key) (in_pushed ps p q i);
    used_by_patterns = λ q x i f. ⊎_elim (λ j. g.used_by_patterns q x j f) (λ same. free_used x (has_variable (used_variables k) x) refl (subst (IsFreeIn x) (sym same) f)) (in_pushed ps p q i);
    used_by_critical = g.used_by_critical;
    inside = λ m t on at before steps stands. more_inside ps t steps (g.inside m t on at before steps stands);
  }
