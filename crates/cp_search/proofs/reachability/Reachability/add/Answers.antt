use Rattle.std.proofs.Common.{◌<◌, ◌++◌, ◌∷◌, [], ◌∙◌, List, Vec, ℕ, length, IfSome, refl, sym, ap, subst, subst₂}
use Rattle.std.proofs.lemmas.Result.{on_ok_weaker}
use Rattle.cp_lists.specs.Lists.{IsIn}
use Rattle.cp_search.specs.declared.reachability.Reachability.{Reachability}
use Rattle.cp_search.specs.Reachability.{given_row, AreBelow, IsDistinct, AddsToRows, Joins}
use Rattle.cp_skel.proofs.EachOnce.{if_pushed}
use Rattle.cp_search.proofs.KeptReachability.{seen_row, IsToJoin, to_join, IsToPut, to_put, none_there}
use Rattle.cp_search.proofs.reachability.Reachability.add.Goals.{In_ok-push, In_ok-push-3}
use Rattle.cp_search.proofs.reachability.Reachability.add.Goals as goal

pub row_with-requires-2 : goal.row_with-requires-2
row_with-requires-2 c =
    subst (λ (rows : List (Vec ℕ _)). IfSome c.args.new.now.seen_in (λ n. n < length rows)) (sym c.deref-2.ensures.value) (seen_row c.args.made.now c.args.new.now c.requires.found c.args.self.now c.requires.reachability)

-- seen in no other
last : (c : In_ok-push) → IsToPut c.args.made.now c.args.new.now c.args.self.now c.push.new.self.items c.in_ok-sources.sources.items
last c =
    to_put c.args.made.now c.args.new.now c.requires.found c.args.self.now c.requires.reachability (none_there c.args.new.now.seen_in c.is_none.result c.is_none.ensures c.if-is_none.true)
    c.in_ok-sources.sources.items (c.in_ok-sources.ensures ∙ ap (λ rows. given_row rows c.args.new.now.parent ++ length c.args.made.now ∷ []) c.deref.ensures.value)
    c.push.new.self.items c.new.result c.in_ok-push.ensures.items c.new.ensures.items

pub put_each-requires-clause-within : goal.put_each-requires-clause-within
put_each-requires-clause-within c = subst (AreBelow (length c.push.new.self.items)) (sym c.deref-then-is_none.ensures.value) (last (goal.at.put_each-requires-clause-within c).In_ok-push).within

pub put_each-requires-clause-distinct : goal.put_each-requires-clause-distinct
put_each-requires-clause-distinct c = subst IsDistinct (sym c.deref-then-is_none.ensures.value) (last (goal.at.put_each-requires-clause-distinct c).In_ok-push).distinct

pub put_each-requires-clause-apart : goal.put_each-requires-clause-apart
put_each-requires-clause-apart c = (last (goal.at.put_each-requires-clause-apart c).In_ok-push).apart

pub returns-then-is_none : goal.returns-then-is_none
returns-then-is_none c =
    let at = (goal.at.returns-then-is_none c).In_ok-push in
    let new : Reachability = record { reaches = c.put_each.new.rows; reached_from = c.push-then-is_none.new.self } in
    if_pushed c.args.self.now.reached_from.items c.push-then-is_none.result c.map_err.result c.push-then-is_none.ensures.items c.map_err.ensures.variant
    (λ pushed. (last at).kept new c.in_ok-sources.sources
    (subst (λ (ns : List ℕ). AddsToRows (λ n k. IsIn n ns × IsIn k (length c.args.made.now ∷ [])) c.push.new.self.items c.put_each.new.rows.items) c.deref-then-is_none.ensures.value c.in_ok-put_each.ensures)
    refl pushed)

-- with an empty row more
abbrev mid : (c : In_ok-push-3) → Reachability
mid c = record { reaches = c.push-2.new.self; reached_from = c.push-3.new.self }

ready : (c : In_ok-push-3) → IsToJoin c.args.made.now c.args.new.now (mid c) c.in_ok-sources.sources.items c.in_ok-targets.targets.items
ready c =
    let self = c.args.self.now in
    to_join c.args.made.now c.args.new.now c.requires.found self c.requires.reachability c.in_ok-sources.sources.items c.in_ok-targets.targets.items
    (c.in_ok-sources.ensures ∙ ap (λ rows. given_row rows c.args.new.now.parent ++ length c.args.made.now ∷ []) c.deref.ensures.value)
    (c.in_ok-targets.ensures ∙ ap (λ rows. given_row rows c.args.new.now.seen_in ++ length c.args.made.now ∷ []) c.deref-2.ensures.value)
    (mid c) c.new-2.result c.new-3.result c.in_ok-push-2.ensures.items c.in_ok-push-3.ensures.items c.new-2.ensures.items c.new-3.ensures.items

pub join_all-requires-clause-transposed : goal.join_all-requires-clause-transposed
join_all-requires-clause-transposed c = (ready (goal.at.join_all-requires-clause-transposed c).In_ok-push-3).transposed

pub join_all-requires-clause-sources : goal.join_all-requires-clause-sources
join_all-requires-clause-sources c = subst (AreBelow (length c.push-2.new.self.items)) (sym c.deref-3.ensures.value) (ready (goal.at.join_all-requires-clause-sources c).In_ok-push-3).have_rows

pub join_all-requires-clause-targets : goal.join_all-requires-clause-targets
join_all-requires-clause-targets c = subst (AreBelow (length c.push-3.new.self.items)) (sym c.deref-4.ensures.value) (ready (goal.at.join_all-requires-clause-targets c).In_ok-push-3).have_columns

pub returns : goal.returns
returns c =
    let at = (goal.at.returns c).In_ok-push-3 in
    on_ok_weaker c.join_all.result
    (λ joined. (ready at).kept c.join_all.new.self
    (subst₂ (λ (sources targets : List ℕ). Joins (λ n k. IsIn n sources × IsIn k targets) (mid at) c.join_all.new.self) c.deref-3.ensures.value c.deref-4.ensures.value joined))
    c.join_all.ensures
