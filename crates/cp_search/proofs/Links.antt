-- To which labels one may point, and what the rule says, where labels come behind.
use Rattle.std.proofs.Common.{◌≡◌, ◌∙◌, ℕ, ◌<◌, ◌≤◌, List, ◌++◌, length, map, option_map, take, Option, Some, None, sym, ap, subst, arith}
use Rattle.std.proofs.lemmas.List.{take-append-le}
use Rattle.cp_lists.specs.Lists.{item_at}
use Rattle.cp_lists.proofs.Items.{item_in_front, mapped_item}
use Rattle.cp_model.specs.Strand.{Protocol}
use Rattle.cp_model.specs.Skeleton.{Skeleton}
use Rattle.cp_model.specs.Tree.{Label}
use Rattle.cp_model.specs.declared.tree.Mark.{Mark}
use Rattle.cp_model.specs.declared.tree.Limits.{Limits}
use Rattle.cp_shapes.specs.Shapes.{EmbedsAt, FindsLeast}
use Rattle.cp_tree.specs.Made.{Made, LabelLink, Reaches, MayPointTo}
use Rattle.cp_tree.specs.Resolves.{Resolves}

-- ---- the least of numbers

-- Of two properties of the same numbers the least number is the same.
pub finds_alike : (P Q : ℕ → Type 0) → ((n : ℕ) → P n → Q n) → ((n : ℕ) → Q n → P n) → (found : Option ℕ) → FindsLeast P found → FindsLeast Q found
finds_alike P Q there back None none = λ n h. none n (back n h)
finds_alike P Q there back (Some n) first = record { holds = there n first.holds; least = λ m l h. first.least m l (back m h) }

-- ---- labels with the same labels before them

abbrev pub skeleton_of : LabelLink → Skeleton
skeleton_of w = w.skeleton

module _ (first second : List LabelLink) (m : ℕ) (buckets : (i : ℕ) → i ≤ m → item_at first i ≡ item_at second i) where
  skeletons_alike : (i : ℕ) → i ≤ m → item_at (map skeleton_of first) i ≡ item_at (map skeleton_of second) i
  skeletons_alike i l = mapped_item skeleton_of first i ∙ (ap (option_map skeleton_of) (buckets i l) ∙ sym (mapped_item skeleton_of second i))

  embed_alike : (i j : ℕ) → i ≤ m → j ≤ m → EmbedsAt (map skeleton_of first) i j → EmbedsAt (map skeleton_of second) i j
  embed_alike i j k l h = record {
    first = h.first;
    second = h.second;
    at_first = sym (skeletons_alike i k) ∙ h.at_first;
    at_second = sym (skeletons_alike j l) ∙ h.at_second;
    embeds = h.embeds;
  }

  point_alike : take m first ≡ take m second → (n : ℕ) → MayPointTo first m n → MayPointTo second m n
  point_alike e n h =
      let l : n < m = h.earlier in
      let k : n ≤ m = omega arith in
      let same : m ≤ m = omega arith in
      record {
        earlier = h.earlier;
        embeds = embed_alike n m k same h.embeds;
        embeds_back = embed_alike m n same k h.embeds_back;
        no_return = λ w p at parent reaches. h.no_return w p (buckets m same ∙ at) parent (subst (λ (links : List LabelLink). Reaches links n p) (sym e) reaches);
      }

module _ (links more : List LabelLink) (m : ℕ) (l : m < length links) where
  in_front : (i : ℕ) → i ≤ m → item_at (links ++ more) i ≡ item_at links i
  in_front i h = item_in_front links more i (omega arith)

  front : take m (links ++ more) ≡ take m links
  front = take-append-le m links more (omega arith)

  -- To what a label may point is told by the labels before it.
  pub still_found : (found : Option ℕ) → FindsLeast (MayPointTo links m) found → FindsLeast (MayPointTo (links ++ more) m) found
  still_found = finds_alike (MayPointTo links m) (MayPointTo (links ++ more) m)
      (point_alike links (links ++ more) m (λ i h. sym (in_front i h)) (sym front))
      (point_alike (links ++ more) links m in_front front)

-- ---- the rule, with other links

module _ (protocol : Protocol) (limits : Limits) (marks : ℕ → Option Mark → Type 0) (links others : List LabelLink) where
  -- Of the links the rule asks only for the least label to which one may point.
  pub resolves_alike : (i before : ℕ) (m : Made) (l : Label) (gives : List Made) → ((found : Option ℕ) → FindsLeast (MayPointTo links i) found → FindsLeast (MayPointTo others i) found)
      → Resolves protocol limits links marks i before m l gives → Resolves protocol limits others marks i before m l gives
  resolves_alike i before m l gives alike r =
      let a = r.are_facts in
      record {
        facts = r.facts;
        are_facts = record { dead = a.dead; dead_none = a.dead_none; listed = a.listed; copy = λ lives. alike r.facts.copy (a.copy lives); strands = a.strands };
        within = r.within;
        by_rule = r.by_rule;
      }
