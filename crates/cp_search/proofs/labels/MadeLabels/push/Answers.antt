use Rattle.std.proofs.Common.{◌≡◌, List, [], ◌∷◌, ◌++◌, ◌∙◌, refl, sym, ap, subst}
use Rattle.cp_search.specs.declared.made.Made.{Made}
use Rattle.cp_search.specs.IndexedLabels.{Indexes}
use Rattle.cp_search.specs.MadeLabels.{AreFound, AddsFound}
use Rattle.cp_search.specs.Reachability.{IsReachability}
use Rattle.cp_search.proofs.Behind.{adds_found}
use Rattle.cp_search.proofs.labels.MadeLabels.push.Goals.{In_ok-add, In_ok-push}
use Rattle.cp_search.proofs.labels.MadeLabels.push.Goals as goal

-- the label comes behind the others
adding : (c : In_ok-add) → AddsFound c.args.made c.args.self.now (c.args.self.now ++ c.args.made ∷ [])
adding c = adds_found c.args.self.now _ c.args.made (subst AreFound (c.all.view_is ∙ c.replace.ensures.value) c.all.invariant.1) c.requires.apart c.requires.parent c.requires.seen refl

behind : (c : In_ok-push) → c.push.new.self.items ≡ c.args.self.now ++ c.args.made ∷ []
behind c = c.in_ok-push.ensures.items ∙ ap (λ (ms : List Made). ms ++ c.args.made ∷ []) (c.all.view_is ∙ c.replace.ensures.value)

pub add-requires-2-clause-found : goal.add-requires-2-clause-found
add-requires-2-clause-found c =
    subst (λ (ms : List Made). AreFound (ms ++ c.args.made ∷ [])) (sym (c.deref-2.ensures.value ∙ (c.all.view_is ∙ c.replace.ensures.value)))
    (adding (goal.at.add-requires-2-clause-found c).In_ok-add).found

pub invariant_of-drop : goal.invariant_of-drop
invariant_of-drop c = (
  subst (Indexes c.add.new.self) (ap (λ (ms : List Made). ms ++ c.args.made ∷ []) c.deref.ensures.value ∙ sym c.in_ok-push.ensures.items)
      (c.in_ok-add.ensures (subst (Indexes c.all.inside.index) (sym c.deref.ensures.value) c.all.invariant.0)),
  subst AreFound (sym (behind c)) (adding (goal.at.invariant_of-drop c).In_ok-add).found,
  subst (IsReachability c.add-2.new.self) (ap (λ (ms : List Made). ms ++ c.args.made ∷ []) c.deref-2.ensures.value ∙ sym c.in_ok-push.ensures.items) c.in_ok-add-2.ensures,
)

pub returns : goal.returns
returns c = record { pushed = subst (AddsFound c.args.made c.args.self.now) (sym (behind (goal.at.returns c).In_ok-push)) (adding (goal.at.returns c).In_ok-add) }
