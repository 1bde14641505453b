-- Patterns that are opened.
use Rattle.std.proofs.Common.{◌≡◌, Result, Ok, Err, ℕ, suc, ◌+◌, ◌<◌, List, [], ◌∷◌, ◌++◌, Some, length, drop, take, refl, sym, ap, ap₂, ◌∙◌, arith, append_assoc}
use Rattle.std.specs.Prelude.{slice_get, OnOk, OnErr}
use Rattle.std.proofs.lemmas.List.{map-append, length-append}
use Rattle.std.proofs.Math.Seq.{take-append_seam}
use Rattle.cp_lists.specs.Lists.{item_at}
use Rattle.cp_lists.proofs.Items.{slice_get_item, item_of_map, take_of_item, drop_of_item}
use Rattle.cp_lists.proofs.Fronts.{taken_more}
use Rattle.cp_model.specs.declared.variable.Declaration.{Declaration}
use Rattle.cp_model.specs.Term.{Term, variable_term, apply_to}
use Rattle.cp_model.specs.declared.variable.Variable.{Variable}
use Rattle.cp_model.specs.Tree.{Pattern}
use Rattle.cp_model.specs.Data.{roots}
use Rattle.cp_model.specs.Skeleton.{Skeleton}
use Rattle.cp_skel.specs.Tables.{DiffersInTable}
use Rattle.cp_skel.proofs.TableAlone.{table_alone, same_alone}
use Rattle.cp_term.specs.Variables.{variable_of_sort}
use Rattle.cp_unify.specs.Bindings.{Binding, put_term, as_substitution}
use Rattle.cp_pattern.specs.Opened.{with_new, opened_pattern, identifier_or_x, declared_after, declared_as, new_bindings, HasDeclared}

-- ---- what a new variable is named after

pub named_alike : (ds : List Declaration) (count n : ℕ) (root : List ℕ) → n < count → slice_get (roots ds) n ≡ Some root → root ≡ identifier_or_x (item_at (take count ds) n)
named_alike ds count n root below e =
    let d = item_of_map (λ (z : Declaration). z.identifier) ds n root (sym (slice_get_item (roots ds) n) ∙ e) in
    sym (ap identifier_or_x (take_of_item count ds n d.0 below d.1) ∙ d.2)

pub declared_alone : {T E : Type 0} (old new : Skeleton) (variables : List Declaration) (r : Result T E) → OnOk r (new ≡ record old { variables = variables }) → OnErr r (new ≡ old) → DiffersInTable old new
declared_alone old new variables (Ok v) e f = table_alone old new variables e
declared_alone old new variables (Err x) e f = same_alone old new f

-- ---- the substitution of the bindings

pub bindings_give : (n : ℕ) (xs : List Variable) (from : List Binding) → as_substitution (new_bindings n xs ++ from) ≡ with_new n xs (as_substitution from)
bindings_give n [] from = refl
bindings_give n (x ∷ xs) from = ap (put_term x (variable_term (record { sort = x.sort; number = n }))) (bindings_give (suc n) xs from)

-- ---- the loop over the locals

-- So many of the locals have new variables.
pub record IsDeclaredSoFar (old : List Declaration) (xs : List Variable) (i : ℕ) (new : List Declaration) : Type 0 where
  pub declared : new ≡ old ++ declared_as old (take i xs)
  pub grown : length new ≡ length old + i

pub declared_some : (old : List Declaration) (xs : List Variable) (i : ℕ) (new : List Declaration) → IsDeclaredSoFar old xs i new → HasDeclared old xs new
declared_some old xs i new d = record { count = i; declared = d.declared }

one_more : (i : ℕ) → i + 1 ≡ suc i
one_more i = omega arith

module _ (old : List Declaration) (xs : List Variable) (i : ℕ) (k : List Declaration) (so_far : IsDeclaredSoFar old xs i k) (x : Variable) (listed : item_at xs i ≡ Some x) (count : ℕ) (counted : count ≡ length old) where
  old_ones : take count k ≡ old
  old_ones =
      ap (λ (m : ℕ). take m k) counted ∙ ap (take (length old)) so_far.declared
      ∙ take-append_seam old (declared_as old (take i xs))

  pub next_declared : (next : List Declaration) → next ≡ k ++ (declared_after (take count k) x ∷ []) → IsDeclaredSoFar old xs (i + 1) next
  next_declared next e =
      let one : Declaration = declared_after old x in
      let same : next ≡ k ++ (one ∷ []) = e ∙ ap (λ (ds : List Declaration). k ++ (declared_after ds x ∷ [])) old_ones in
      let more : take (i + 1) xs ≡ take i xs ++ (x ∷ []) = ap (λ (m : ℕ). take m xs) (one_more i) ∙ taken_more xs i x (drop_of_item xs i x listed) in
      let lengths : length next ≡ length k + 1 = ap length same ∙ length-append k (one ∷ []) in
      record {
        declared = same ∙ ap (λ (ds : List Declaration). ds ++ (one ∷ [])) so_far.declared
            ∙ append_assoc old (declared_as old (take i xs)) (one ∷ [])
            ∙ ap (λ (ds : List Declaration). old ++ ds) (sym (map-append (declared_after old) (take i xs) (x ∷ [])) ∙ ap (declared_as old) (sym more));
        grown = omega (arith, lengths, so_far.grown);
      }

-- The bindings so far, with those of the locals that are left.
abbrev pub AreBoundSoFar : ℕ → List Variable → ℕ → List Binding → Type 0
AreBoundSoFar n xs i bs = bs ++ new_bindings (n + i) (drop i xs) ≡ new_bindings n xs

pub next_bound : (n : ℕ) (xs : List Variable) (i : ℕ) (bs : List Binding) → AreBoundSoFar n xs i bs → (x : Variable) → item_at xs i ≡ Some x →
    (v : ℕ) → v ≡ n + i → (image : Term) → image ≡ variable_of_sort x.sort v → (next : List Binding) → next ≡ bs ++ (record { variable = x; term = image } ∷ []) → AreBoundSoFar n xs (i + 1) next
next_bound n xs i bs so_far x listed v is_v image is_image next e =
    let one : Binding = record { variable = x; term = variable_of_sort x.sort (n + i) } in
    let same : next ≡ bs ++ (one ∷ []) =
    e ∙ ap (λ (t : Term). bs ++ (record { variable = x; term = t } ∷ [])) (is_image ∙ ap (variable_of_sort x.sort) is_v) in
    let sum : n + (i + 1) ≡ suc (n + i) = omega arith in
    let rest : new_bindings (n + i) (drop i xs) ≡ one ∷ new_bindings (n + (i + 1)) (drop (i + 1) xs) =
    ap (new_bindings (n + i)) (drop_of_item xs i x listed)
    ∙ ap₂ (λ (k j : ℕ). one ∷ new_bindings k (drop j xs)) (sym sum) (sym (one_more i)) in
    ap (λ (cs : List Binding). cs ++ new_bindings (n + (i + 1)) (drop (i + 1) xs)) same
    ∙ append_assoc bs (one ∷ []) (new_bindings (n + (i + 1)) (drop (i + 1) xs))
    ∙ ap (λ (cs : List Binding). bs ++ cs) (sym rest) ∙ so_far

-- ---- the pattern under all of them

pub opened_by : (p : Pattern) (n : ℕ) (from copy bs all : List Binding) (term : Term) → bs ≡ new_bindings n p.locals → copy ≡ from → all ≡ bs ++ copy → term ≡ p.term →
    (t : Term) → t ≡ apply_to (as_substitution all) term → t ≡ opened_pattern p (as_substitution from) n
opened_by p n from copy bs all term are_new same joined is_term t e =
    let given : as_substitution all ≡ with_new n p.locals (as_substitution from) =
    ap as_substitution (joined ∙ ap₂ (λ (xs ys : List Binding). xs ++ ys) are_new same) ∙ bindings_give n p.locals from in
    e ∙ ap₂ apply_to given is_term
