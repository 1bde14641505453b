-- The faults of nodes, part by part.
use Rattle.std.proofs.Common.{◌≡◌, List, [], ◌∷◌, ◌++◌, map, Vec, Global, refl, sym, ap, ◌∙◌}
use Rattle.std.specs.Prelude.{Option}
use Rattle.std.proofs.lemmas.List.{append-nil}
use Rattle.cp_base.specs.declared.place.Place.{Place}
use Rattle.cp_base.specs.declared.place.Refusal.{Refusal}
use Rattle.cp_lists.specs.Lists.{item_at}
use Rattle.cp_model.specs.declared.node.Node.{Node}
use Rattle.cp_model.specs.Skeleton.{SkeletonStrand}
use Rattle.cp_sexpr.specs.Syntax.{Form, list}
use Rattle.cp_sexpr.specs.View.{view, views}
use Rattle.cp_sexpr.specs.declared.form.Form as program
use Rattle.cp_language.specs.Terms.{lacks}
use Rattle.cp_language.specs.Problems.{number_faults, two_number_faults, range_faults, node_of, node_faults}
use Rattle.cp_scope.specs.FirstFault.{first_onto}
use Rattle.cp_load.specs.Directions.{number_faults_if}
use Rattle.cp_scope.proofs.Firsts.{first_then, first_then_three}
use Rattle.cp_scope.proofs.Views.{view-List, items_of-forms_of}

two-numbers : (fs : List Form) → number_faults_if (item_at fs 0) ++ number_faults_if (item_at fs 1) ≡ two_number_faults fs
two-numbers [] = refl
two-numbers (f ∷ []) = append-nil (number_faults f)
two-numbers (f ∷ g ∷ fs) = refl

pub two-read : (fs : List Form) (a b : Option Form) (o p q : Option Refusal) → a ≡ item_at fs 0 → b ≡ item_at fs 1
    → p ≡ first_onto o (number_faults_if a) → q ≡ first_onto p (number_faults_if b) → q ≡ first_onto o (two_number_faults fs)
two-read fs a b o p q e f g h =
    first_then o p q (number_faults_if a) (number_faults_if b) g h
    ∙ ap (λ x. first_onto o (number_faults_if x ++ number_faults_if b)) e ∙ ap (λ x. first_onto o (number_faults_if (item_at fs 0) ++ number_faults_if x)) f ∙ ap (first_onto o) (two-numbers fs)

pub node-read : (strands : List SkeletonStrand) (f : program.Form) (at : Place) (v : Vec program.Form Global) (fs : List program.Form) (n : Option Node) (o p q r : Option Refusal)
    → f ≡ program.List at v → fs ≡ v.items → n ≡ node_of (view f)
    → p ≡ first_onto o (lacks 2 at (map view fs)) → q ≡ first_onto p (range_faults strands at n) → r ≡ first_onto q (two_number_faults (map view fs))
    → r ≡ first_onto o (node_faults strands (view f))
node-read strands f at v fs n o p q r e g m hp hq hr =
    let seen : view f ≡ list at (views v.items) = ap view e ∙ view-List at v in
    first_then_three o p q r (lacks 2 at (map view fs)) (range_faults strands at n) (two_number_faults (map view fs)) hp hq hr
    ∙ ap (λ x. first_onto o (lacks 2 at (map view fs) ++ range_faults strands at x ++ two_number_faults (map view fs))) (m ∙ ap node_of seen)
    ∙ ap (λ gs. first_onto o (lacks 2 at gs ++ range_faults strands at (node_of (list at (views v.items))) ++ two_number_faults gs)) (ap (map view) g ∙ sym (items_of-forms_of (map view v.items)))
    ∙ ap (λ x. first_onto o (node_faults strands x)) (sym seen)
