-- A list in another order has the same items.
use Rattle.std.proofs.Common.{List}
use Rattle.std.specs.List.Sorted.{IsPermutation}
use Rattle.std.proofs.lemmas.List.Sorted.{All-permutation, IsPermutation-sym}
use Rattle.cp_lists.specs.Lists.{IsIn}
use Rattle.cp_lists.proofs.Members.{item_in, each_in}

pub in_permuted : {A : Type 0} (xs ys : List A) (x : A) → IsPermutation xs ys → IsIn x xs → IsIn x ys
in_permuted xs ys x p h = each_in ys xs x (All-permutation (λ z. IsIn z ys) ys xs (IsPermutation-sym xs ys p) (λ i d l. item_in ys i d l)) h
