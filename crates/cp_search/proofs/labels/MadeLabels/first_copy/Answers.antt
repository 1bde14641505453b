use Rattle.std.proofs.Common.{get_or, ap, subst, ◌∙◌}
use Rattle.cp_lists.proofs.Items.{item_below}
use Rattle.cp_model.proofs.CarriedParts.{not_both}
use Rattle.cp_search.specs.IndexedLabels.{Indexes}
use Rattle.cp_search.specs.LabelsByNumber.{with_key}
use Rattle.cp_search.specs.MadeLabels.{AreFound}
use Rattle.cp_search.specs.Reachability.{IsReachability}
use Rattle.cp_search.proofs.AllowedCopies.{signatures_of, copies_listed, copies_behind, label_there, none_below, none_left_over, copy_here, no_copy_here, kept_apart, reached_no_copy, is_allowed}
use Rattle.cp_search.proofs.KeptReachability.{asked_row}
use Rattle.cp_search.proofs.labels.MadeLabels.first_copy.Goals as goal

pub loop-number-init : goal.loop-number-init
loop-number-init c =
    let ms = c.args.self.now in
    let indexes = subst (Indexes c.self.inside.index) c.self.view_is c.self.invariant.0 in
    let found = subst AreFound c.self.view_is c.self.invariant.1 in
    copies_listed ms c.args.made.now.parent c.args.made.now.skeleton c.args.made.now.signature c.requires.signature (signatures_of ms found) c.with_key-numbers.result.now
    (c.with_key-numbers.ensures ∙ indexes c.bucket_key.result ∙ ap (λ s. with_key s 0 ms) c.bucket_key.ensures)

pub leads-requires : goal.leads-requires
leads-requires c =
    let kept = subst (IsReachability c.self.inside.reachability) c.self.view_is c.self.invariant.2 in
    asked_row c.self.inside.reachability c.args.self.now kept c.args.made.now.parent c.requires.parent

pub loop-number-preserved-then-leads : goal.loop-number-preserved-then-leads
loop-number-preserved-then-leads c =
    let ms = c.args.self.now in
    let kept = subst (IsReachability c.self.inside.reachability) c.self.view_is c.self.invariant.2 in
    copies_behind ms c.args.made.now.parent c.args.made.now.skeleton c.with_key-numbers.result.now c.loop-number.number-index c.loop-number-test.true
    (reached_no_copy ms _ _ _ ((c.leads.ensures ms kept).0 c.if-leads.true)) c.loop-number.invariant

pub label-other-requires : goal.label-other-requires
label-other-requires c =
    let indexes = subst (Indexes c.self.inside.index) c.self.view_is c.self.invariant.0 in
    label_there c.args.self.now c.args.made.now.parent c.args.made.now.skeleton c.with_key-numbers.result.now c.loop-number.number-index c.loop-number-test.true c.bucket_key.result (c.with_key-numbers.ensures ∙ indexes c.bucket_key.result)

pub loop-number-preserved-then-not-may_be_isomorphic : goal.loop-number-preserved-then-not-may_be_isomorphic
loop-number-preserved-then-not-may_be_isomorphic c =
    let ms = c.args.self.now in
    let ns = c.with_key-numbers.result.now in
    let k = c.args.made.now.skeleton in
    let signatures = signatures_of ms (subst AreFound c.self.view_is c.self.invariant.1) in
    copies_behind ms c.args.made.now.parent k ns c.loop-number.number-index c.loop-number-test.true
    (kept_apart ms (get_or ns c.loop-number.number-index 0) c.label-other.result.now c.label-other.ensures c.args.made.now.parent k signatures c.args.made.now.signature c.may_be_isomorphic.result c.requires.signature c.if-not-may_be_isomorphic.true c.may_be_isomorphic.ensures.kept)
    c.loop-number.invariant

pub returns-then-branch : goal.returns-then-branch
returns-then-branch c =
    let ms = c.args.self.now in
    let ns = c.with_key-numbers.result.now in
    let k = c.args.made.now.skeleton in
    let parent = c.args.made.now.parent in
    let number = get_or ns c.loop-number.number-index 0 in
    let indexes = subst (Indexes c.self.inside.index) c.self.view_is c.self.invariant.0 in
    let kept = subst (IsReachability c.self.inside.reachability) c.self.view_is c.self.invariant.2 in
    record {
      holds = copy_here ms number c.label-other.result.now c.label-other.ensures parent k
          (is_allowed ms parent number (item_below ms number c.label-other.result.now c.label-other.ensures) c.requires.parent (λ reaches. not_both c.if-leads.false ((c.leads.ensures ms kept).1 reaches)))
          (c.in_ok-are_isomorphic.ensures.exact.0 c.if-branch.true);
      least = none_below ms parent k ns c.loop-number.number-index c.loop-number-test.true c.bucket_key.result (c.with_key-numbers.ensures ∙ indexes c.bucket_key.result) c.loop-number.invariant;
    }

pub loop-number-preserved : goal.loop-number-preserved
loop-number-preserved c =
    let ms = c.args.self.now in
    let ns = c.with_key-numbers.result.now in
    let k = c.args.made.now.skeleton in
    copies_behind ms c.args.made.now.parent k ns c.loop-number.number-index c.loop-number-test.true
    (no_copy_here ms (get_or ns c.loop-number.number-index 0) c.label-other.result.now c.label-other.ensures c.args.made.now.parent k (λ h. not_both c.if-branch.false (c.in_ok-are_isomorphic.ensures.exact.1 h)))
    c.loop-number.invariant

pub returns : goal.returns
returns c = none_left_over c.args.self.now c.args.made.now.parent c.args.made.now.skeleton c.with_key-numbers.result.now c.loop-number.number-index c.loop-number-test.false c.loop-number.invariant
