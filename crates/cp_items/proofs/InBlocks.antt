-- The entries of a partition one after another.
use Rattle.std.proofs.Common.{◌≡◌, ℕ, zero, suc, ◌+◌, ◌<◌, ◌≤◌, List, [], ◌∷◌, length, map, drop, refl, sym, ap, ◌∙◌, arith, subst, add-one}
use Rattle.std.specs.Prelude.{Option, Some, None}
use Rattle.cp_lists.specs.Lists.{item_at}
use Rattle.cp_lists.proofs.Items.{drop_of_item, item_of_map}
use Rattle.cp_base.specs.declared.place.Place.{Place}
use Rattle.cp_sexpr.specs.Syntax.{Form}
use Rattle.cp_sexpr.specs.View.{view}
use Rattle.cp_sexpr.specs.declared.form.Form as program
use Rattle.cp_model.specs.Skeleton.{SkeletonStrand}
use Rattle.cp_language.specs.Roles.{text_of_symbol}
use Rattle.cp_language.specs.Problems.{number_of, Problem}
use Rattle.cp_report.specs.Misfits.{place_before, misfit, unless_misfit, entries_misfits, symbol_misfits}
use Rattle.cp_report.specs.declared.operations.OperationWord.{OperationWord}
use Rattle.cp_report.specs.Labels.{operation_word, is_operation, kinds_after, operation_kinds, operation_misfits, block_misfits, block_checks}
use Rattle.cp_spelled.specs.FirstMisfit.{first_onto}
use Rattle.cp_scope.proofs.FirstOf.{first_onto-append}
use Rattle.cp_items.specs.Parts.{blocks_of, kinds_behind, operation_item_misfits}

-- what is left of mapped forms
left_of : (fs : List program.Form) (k : ℕ) (f : Form) → item_at (map view fs) k ≡ Some f → map view (drop k fs) ≡ f ∷ map view (drop (suc k) fs)
left_of fs k f e =
    let found = item_of_map view fs k f e in
    ap (map view) (drop_of_item fs k found.0 found.1) ∙ ap (λ g. g ∷ map view (drop (suc k) fs)) found.2

none_left_of : (fs : List program.Form) (k : ℕ) → item_at (map view fs) k ≡ None → map view (drop k fs) ≡ []
none_left_of [] zero e = refl
none_left_of [] (suc k) e = refl
none_left_of (f ∷ fs) zero e = absurd (cc)
none_left_of (f ∷ fs) (suc k) e = none_left_of fs k e

module _ (ns : List ℕ) (at : Place) (fs : List program.Form) where
  pub block-taken : (k left n : ℕ) → k + left ≡ n → k < n → (o all : Option Place) → first_onto o (entries_misfits (blocks_of ns k left) at (map view (drop k fs))) ≡ all
      → (f : Form) → item_at (map view fs) k ≡ Some f → (p : Option Place) → p ≡ first_onto o (block_misfits ns k f)
      → (m : ℕ) × ((k + 1) + m ≡ n) × (first_onto p (entries_misfits (blocks_of ns (k + 1) m) at (map view (drop (k + 1) fs))) ≡ all)
  block-taken k zero n sum less o all inv f is p noted = absurd (omega arith)
  block-taken k (suc m) n sum less o all inv f is p noted =
      let rest = entries_misfits (blocks_of ns (suc k) m) at (map view (drop (suc k) fs)) in
      let one : (k + 1) + m ≡ n = omega arith in
      let now : first_onto p rest ≡ all = ap (λ q. first_onto q rest) noted ∙ sym (first_onto-append place_before o (block_misfits ns k f) rest)
      ∙ sym (ap (λ gs. first_onto o (entries_misfits (blocks_of ns k (suc m)) at gs)) (left_of fs k f is)) ∙ inv in
      (m, one, subst (λ i. first_onto p (entries_misfits (blocks_of ns i m) at (map view (drop i fs))) ≡ all) (sym (add-one k)) now)

  pub block-missing : (k left n : ℕ) → k + left ≡ n → k < n → (o all : Option Place) → first_onto o (entries_misfits (blocks_of ns k left) at (map view (drop k fs))) ≡ all
      → item_at (map view fs) k ≡ None → (p : Option Place) → p ≡ first_onto o (misfit at) → p ≡ all
  block-missing k zero n sum less o all inv is p noted = absurd (omega arith)
  block-missing k (suc m) n sum less o all inv is p noted =
      noted ∙ sym (ap (λ gs. first_onto o (entries_misfits (blocks_of ns k (suc m)) at gs)) (none_left_of fs k is)) ∙ inv

  pub blocks-done : (k left n : ℕ) → k + left ≡ n → n ≤ k → (o all : Option Place) → first_onto o (entries_misfits (blocks_of ns k left) at (map view (drop k fs))) ≡ all
      → (rest : List Form) → rest ≡ drop n (map view fs) → (p : Option Place) → p ≡ first_onto o (entries_misfits [] at rest) → p ≡ all
  blocks-done k (suc m) n sum more o all inv rest is p noted = absurd (omega arith)
  blocks-done k zero n sum more o all inv rest is p noted =
      let same : n ≡ k = omega arith in
      noted ∙ ap (λ gs. first_onto o (entries_misfits [] at gs)) (is ∙ ap (λ i. drop i (map view fs)) same ∙ drop_map k fs) ∙ inv
    where
      drop_map : (i : ℕ) (gs : List program.Form) → drop i (map view gs) ≡ map view (drop i gs)
      drop_map zero gs = refl
      drop_map (suc i) [] = refl
      drop_map (suc i) (g ∷ gs) = drop_map i gs

-- the kinds of the entries see only how many strands there are
pub blocks-counted : (ns : List ℕ) (i : ℕ) (ks : List SkeletonStrand) → blocks_of ns i (length ks) ≡ block_checks ns i ks
blocks-counted ns i [] = refl
blocks-counted ns i (k ∷ ks) = ap (λ bs. block_misfits ns i ∷ bs) (blocks-counted ns (suc i) ks)

kinds-counted : (p : Problem) (w : OperationWord) (fs : List Form) → kinds_behind (length p.skeleton.strands) w fs ≡ operation_kinds p w fs
kinds-counted p w fs = ap (kinds_after w) (blocks-counted (map number_of fs) 0 p.skeleton.strands)

-- an operation sees of the problem only how many strands there are
pub operation-counted : (p : Problem) (at : Place) (fs : List Form) → operation_item_misfits (length p.skeleton.strands) at fs ≡ operation_misfits p at fs
operation-counted p at [] = refl
operation-counted p at (f ∷ fs) =
    ap (λ kinds. unless_misfit (symbol_misfits (λ t. is_operation (operation_word t)) f) (entries_misfits kinds at fs)) (kinds-counted p (operation_word (text_of_symbol f)) fs)
