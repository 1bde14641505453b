-- To which labels one may point does not depend on tables.
use Rattle.std.proofs.Common.{◌≡◌, inl, inr, ℕ, zero, suc, ◌+◌, List, [], ◌∷◌, map, take, Option, Some, refl, sym, ap, subst, ◌∙◌}
use Rattle.cp_lists.specs.Lists.{item_at, Steps, one_step, more_steps}
use Rattle.cp_lists.proofs.Items.{item_of_map, map_of_item}
use Rattle.cp_model.specs.Strand.{Protocol}
use Rattle.cp_model.specs.Skeleton.{Skeleton}
use Rattle.cp_model.specs.Homomorphism.{Embeds}
use Rattle.cp_model.specs.Tree.{Label, is_expanded}
use Rattle.cp_model.specs.declared.tree.Mark.{Mark}
use Rattle.cp_model.specs.declared.tree.Limits.{Limits}
use Rattle.cp_shapes.specs.Shapes.{EmbedsAt}
use Rattle.cp_expansion.proofs.Tables.{embeds_tabled}
use Rattle.cp_tree.specs.Made.{Made, LabelLink, IsEdge, to_child, to_seen, Reaches, MayPointTo}
use Rattle.cp_tree.specs.Searched.{AreResolved, all_settled, then_settled}
use Rattle.cp_search.specs.MadeLabels.{untabled}
use Rattle.cp_search.proofs.Links.{finds_alike, resolves_alike}

-- ---- one link for another

abbrev skeleton_of : LabelLink → Skeleton
skeleton_of w = w.skeleton

embeds_alike : (w x v y : LabelLink) → untabled v ≡ untabled w → untabled y ≡ untabled x → Embeds w.skeleton x.skeleton → Embeds v.skeleton y.skeleton
embeds_alike w x v y same other e =
    let bare : Embeds (untabled w).skeleton (untabled x).skeleton = embeds_tabled w.skeleton x.skeleton [] [] e in
    let there : Embeds (untabled v).skeleton (untabled y).skeleton = subst (λ (z : LabelLink). Embeds (untabled v).skeleton z.skeleton) (sym other) (subst (λ (z : LabelLink). Embeds z.skeleton (untabled x).skeleton) (sym same) bare) in
    embeds_tabled (untabled v).skeleton (untabled y).skeleton v.skeleton.variables y.skeleton.variables there

map_take : (n : ℕ) (links : List LabelLink) → map untabled (take n links) ≡ take n (map untabled links)
map_take zero links = refl
map_take (suc n) [] = refl
map_take (suc n) (w ∷ links) = ap (λ (ws : List LabelLink). untabled w ∷ ws) (map_take n links)

-- What stands at the same place of other links.
record IsOther (links : List LabelLink) (j : ℕ) (w : LabelLink) : Type 0 where
  link : LabelLink
  at : item_at links j ≡ Some link
  same : untabled link ≡ untabled w

-- ---- edges

module _ (links others : List LabelLink) (alike : map untabled links ≡ map untabled others) where
  other : (j : ℕ) (w : LabelLink) → item_at links j ≡ Some w → IsOther others j w
  other j w at =
      let v = item_of_map untabled others j (untabled w) (ap (λ (ws : List LabelLink). item_at ws j) (sym alike) ∙ map_of_item untabled links j w at) in
      record { link = v.0; at = v.1; same = v.2 }

  edge_alike : {i j : ℕ} → IsEdge links i j → IsEdge others i j
  edge_alike {j = j} (to_child {w = w} at parent) = let v = other j w at in to_child {w = v.link} v.at (ap (λ (x : LabelLink). x.parent) v.same ∙ parent)
  edge_alike {i = i} (to_seen {w = w} at seen) = let v = other i w at in to_seen {w = v.link} v.at (ap (λ (x : LabelLink). x.seen_in) v.same ∙ seen)

  steps_alike : {i j : ℕ} → Steps (IsEdge links) i j → Steps (IsEdge others) i j
  steps_alike (one_step e) = one_step (edge_alike e)
  steps_alike (more_steps e s) = more_steps (edge_alike e) (steps_alike s)

  reaches_alike : (i j : ℕ) → Reaches links i j → Reaches others i j
  reaches_alike i j (inl e) = inl e
  reaches_alike i j (inr s) = inr (steps_alike s)

-- ---- labels to which one may point

module _ (links others : List LabelLink) (alike : map untabled links ≡ map untabled others) where
  embeds_there : (n m : ℕ) → EmbedsAt (map skeleton_of links) n m → EmbedsAt (map skeleton_of others) n m
  embeds_there n m e =
      let w = item_of_map skeleton_of links n e.first e.at_first in
      let x = item_of_map skeleton_of links m e.second e.at_second in
      let v = other links others alike n w.0 w.1 in
      let y = other links others alike m x.0 x.1 in
      let first : skeleton_of w.0 ≡ e.first = w.2 in
      let second : skeleton_of x.0 ≡ e.second = x.2 in
      record {
        first = v.link.skeleton;
        second = y.link.skeleton;
        at_first = map_of_item skeleton_of others n v.link v.at;
        at_second = map_of_item skeleton_of others m y.link y.at;
        embeds = embeds_alike w.0 x.0 v.link y.link v.same y.same (subst (Embeds (skeleton_of w.0)) (sym second) (subst (λ (k : Skeleton). Embeds k e.second) (sym first) e.embeds));
      }

  front : (n : ℕ) → map untabled (take n others) ≡ map untabled (take n links)
  front n = map_take n others ∙ (ap (take n) (sym alike) ∙ sym (map_take n links))

  points_there : (i n : ℕ) → MayPointTo links i n → MayPointTo others i n
  points_there i n h = record {
    earlier = h.earlier;
    embeds = embeds_there n i h.embeds;
    embeds_back = embeds_there i n h.embeds_back;
    no_return = λ w p at parent reaches.
        let v = other others links (sym alike) i w at in
        h.no_return v.link p v.at (ap (λ (x : LabelLink). x.parent) v.same ∙ parent) (reaches_alike (take i others) (take i links) (front i) n p reaches);
  }

module _ (links others : List LabelLink) (alike : map untabled links ≡ map untabled others) where
  -- What becomes of labels is the same where their links are, but for the tables.
  module _ (protocol : Protocol) (limits : Limits) (marks : ℕ → Option Mark → Type 0) where
    pub resolved_there : (i before : ℕ) (made : List Made) (labels : List Label) (given : List Made) → AreResolved protocol limits links marks i before made labels given → AreResolved protocol limits others marks i before made labels given
    resolved_there i before made labels given all_settled = all_settled
    resolved_there i before made labels given (then_settled {m = m} {l = l} {made = ms} {labels = ls} {from_this = fs} {from_others = gs} b s) =
        let alike_here = finds_alike (MayPointTo links i) (MayPointTo others i) (points_there links others alike i) (points_there others links (sym alike) i) in
        then_settled (resolves_alike protocol limits marks links others i before m l fs alike_here b) (resolved_there (suc i) (before + is_expanded l.test) ms ls gs s)
