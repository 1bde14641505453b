use Rattle.std.proofs.Common.{◌≡◌, ◌+◌, ◌∷◌, [], ◌++◌, drop, refl, sym, ap, ◌∙◌, subst}
use Rattle.std.proofs.lemmas.Bool.{both_ways}
use Rattle.std.proofs.lemmas.List.{drop_all}
use Rattle.cp_lists.specs.Lists.{IsIn}
use Rattle.cp_lists.proofs.Members.{drop_read, in_append_left, in_append_right}
use Rattle.cp_skel.specs.KeyTable.{HasKey}
use Rattle.cp_skel.proofs.EachOnce.{put-known, put-behind, put-next}
use Rattle.cp_skel.proofs.KeyLaws.{keyed-onto}
use Rattle.cp_skel.proofs.gathered.add_missing.Goals as goal
use Rattle.cp_skel.proofs.gathered.add_missing.Goals.{then-is_new+in_ok-clone+in_ok-push, then-is_new-via-then-is_new, then-is_new-via-else-is_new+then-not-is_there, else-is_new+else-not-is_there}

pub loop-item-init : goal.loop-item-init
loop-item-init g c = record {
  put = refl;
  keyed = subst (λ more. (v : _) → IsIn v (c.args.old.now ++ more) → HasKey c.keys_for-keys.result (g.T.Gathered.key v)) c.deref.ensures.value c.keys_for-keys.ensures;
}

pub loop-item-preserved : goal.loop-item-preserved
loop-item-preserved g c =
    let n = c.loop-item.item-index in
    let given = c.args.given.now in
    let old = c.args.old.now in
    let more = c.loop-item.more.items in
    let item = c.item-item.result in
    let onto = g.T.Gathered.onto in
    let key = g.T.Gathered.key in
    let put : old ++ c.if-is_new.more.items ≡ onto (old ++ more) (item ∷ []) = elim c.if-is_new.branch [
      | then-is_new+in_ok-clone+in_ok-push w ↦
          let apart : IsIn item (old ++ more) → ⊥ = elim w.then-is_new.branch [
            | then-is_new-via-then-is_new v ↦ λ i. c.in_ok-is_new.ensures.new v.if-is_new.true (subst (HasKey c.loop-item.keys) (sym c.key.ensures) (c.loop-item.invariant.keyed item i))
            | then-is_new-via-else-is_new+then-not-is_there v ↦
                λ i. both_ways v.is_there.result v.if-not-is_there.true (v.is_there.ensures.1 (subst (λ ms. IsIn item (old ++ ms)) (sym v.deref-else-is_new.ensures.value) i))
          ] in
          put-behind g.met.T.Gathered.gathers old more c.if-is_new.more.items item (λ i. apart (in_append_left more i)) (λ i. apart (in_append_right old i))
          (ap (λ l. l.items) w.more-is ∙ w.in_ok-push.ensures.items ∙ ap (λ v. more ++ v ∷ []) (g.met.T.Gathered.same_clone item _ w.in_ok-clone.ensures.cases))
      | else-is_new+else-not-is_there w ↦
          ap (λ l. old ++ l.items) w.more-is
          ∙ put-known g.met.T.Gathered.gathers (old ++ more) (old ++ more) item w.is_there.result refl
          (λ e. subst (λ ms. IsIn item (old ++ ms)) w.deref-else-is_new.ensures.value (w.is_there.ensures.0 e)) w.if-not-is_there.false
    ] in
    record {
      put = put-next g.met.T.Gathered.gathers (old ++ more) (old ++ c.if-is_new.more.items) (drop n given) (drop (n + 1) given) _ item item
          (drop_read given n item c.loop-item-test.true c.item-item.is) refl put c.loop-item.invariant.put;
      keyed = keyed-onto g.met.T.Gathered.gathers (λ v. HasKey c.put.new.self (key v)) (old ++ more) (old ++ c.if-is_new.more.items) item put
          (λ v i. c.in_ok-is_new.ensures.kept (key v) (c.loop-item.invariant.keyed v i)) (subst (HasKey c.put.new.self) c.key.ensures c.in_ok-is_new.ensures.there);
    }

pub returns : goal.returns
returns g c =
    let now = c.args.old.now ++ c.loop-item.more.items in
    sym (g.met.T.Gathered.gathers.ends now) ∙ sym (ap (g.T.Gathered.onto now) (drop_all c.loop-item.item-index c.args.given.now c.loop-item-test.false)) ∙ c.loop-item.invariant.put
