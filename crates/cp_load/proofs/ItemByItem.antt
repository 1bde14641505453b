-- The items of problems, one after another.
use Rattle.std.proofs.Common.{◌≡◌, ℕ, ◌+◌, ◌<◌, List, ◌++◌, length, get_or, map, drop, sym, ap, ◌∙◌}
use Rattle.std.specs.Prelude.{Option}
use Rattle.cp_lists.proofs.Members.{drop_read}
use Rattle.cp_base.specs.declared.place.Refusal.{Refusal}
use Rattle.cp_model.specs.Strand.{Role}
use Rattle.cp_model.specs.declared.variable.Declaration.{Declaration}
use Rattle.cp_model.specs.Skeleton.{SkeletonStrand}
use Rattle.cp_model.specs.declared.node.OrderPair.{OrderPair}
use Rattle.cp_sexpr.specs.View.{view}
use Rattle.cp_sexpr.specs.declared.form.Form as program
use Rattle.cp_language.specs.Roles.{headed, item_or_none, items_behind, item_faults}
use Rattle.cp_language.specs.Problems.{ItemStage, stage_after, pairs_if, is_precedes_item, problem_item_faults, body_faults}
use Rattle.cp_scope.specs.FirstFault.{first_onto}
use Rattle.cp_scope.proofs.Firsts.{first_onto-append}

module _ (roles : List Role) (ds : List Declaration) (strands : List SkeletonStrand) (fs : List program.Form) (k : ℕ) where
  pub body-taken : (f : program.Form) → k < length fs → f ≡ get_or fs k f → (ps qs : List OrderPair) (s t : ItemStage) (o p all : Option Refusal)
      → p ≡ first_onto o (item_faults (problem_item_faults roles ds strands ps s) (view f))
      → qs ≡ ps ++ pairs_if (is_precedes_item (item_or_none (headed (view f)))) (items_behind (headed (view f)))
      → t ≡ stage_after s (item_or_none (headed (view f)))
      → first_onto o (body_faults roles ds strands ps s (map view (drop k fs))) ≡ all
      → first_onto p (body_faults roles ds strands qs t (map view (drop (k + 1) fs))) ≡ all
  body-taken f lt is ps qs s t o p all e g h i =
      let rest = map view (drop (k + 1) fs) in
      let behind = ps ++ pairs_if (is_precedes_item (item_or_none (headed (view f)))) (items_behind (headed (view f))) in
      let after = stage_after s (item_or_none (headed (view f))) in
      ap (λ xs. first_onto p (body_faults roles ds strands xs t rest)) g
      ∙ ap (λ x. first_onto p (body_faults roles ds strands behind x rest)) h
      ∙ ap (λ x. first_onto x (body_faults roles ds strands behind after rest)) e
      ∙ sym (first_onto-append o (item_faults (problem_item_faults roles ds strands ps s) (view f)) (body_faults roles ds strands behind after rest))
      ∙ sym (ap (λ gs. first_onto o (body_faults roles ds strands ps s (map view gs))) (drop_read fs k f lt is)) ∙ i
