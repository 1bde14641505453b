-- What the index of copies holds of the labels.
use Rattle.std.specs.Prelude.{◌≡◌, ℕ, List}
use Rattle.cp_search.specs.declared.made.Made.{Made}
use Rattle.cp_search.specs.declared.copy_index.CopyIndex.{CopyIndex}
use Rattle.cp_search.specs.LabelsByNumber.{with_key, numbers_by}

-- The index is of these labels: it has their numbers by bucket key.
abbrev pub Indexes : CopyIndex → List Made → Type 0
Indexes index ms = (q : ℕ) → numbers_by index.buckets (λ v. v.items) q ≡ with_key q 0 ms
