-- What one strand more asks of an assignment: nothing where it is alone, and where it joins a block, equal values with each
-- strand of the block.
use Rattle.std.proofs.Common.{◌≡◌, ◌⊎◌, inl, inr, ℕ, suc, ◌<◌, ◌≤◌, List, [], ◌∷◌, ◌++◌, Some, length, sym, ap, ◌∙◌, subst, subst₂, arith, eq-or-lt_of_le}
use Rattle.cp_lists.specs.Lists.{item_at, IsIn}
use Rattle.cp_model.specs.Term.{Assignment, after, variable_term, value_of}
use Rattle.cp_model.specs.Bindings.{Binding, as_substitution}
use Rattle.cp_model.specs.Strand.{Role, variables_of_prefix}
use Rattle.cp_model.specs.Skeleton.{instance, Skeleton}
use Rattle.cp_lists.proofs.Items.{item_below, item_in_front, item_last, end_cases}
use Rattle.cp_collapse.specs.Partitions.{HaveEqualValues, IdentifiesValues}
use Rattle.cp_collapse.specs.Collapses.{IsNeverIdentified}
use Rattle.cp_collapse.specs.FirstPartitions.{IsPartitionOfFirst, EqualAt, EqualsBlock}
use Rattle.cp_collapse.proofs.RuledOut.{identifies_first}

-- A strand has equal values with itself.
pub equal_itself : (k : Skeleton) (s : ℕ) (g : Assignment) → EqualAt k s s g
equal_itself k s g role height terms height' terms' at au x i j =
    let e : Some (instance role height terms) ≡ Some (instance role height' terms') = sym at ∙ au in
    let f : terms ≡ terms' = cc in
    ap (λ (d : List Binding). value_of (after g (as_substitution d)) (variable_term x)) f

pub equal_at_back : (k : Skeleton) (s t : ℕ) (g : Assignment) → EqualAt k s t g → EqualAt k t s g
equal_at_back k s t g a role height terms height' terms' at au x i j = sym (a role height' terms' height terms au at x j i)

-- Of two instances.
pub equal_at_instances : (k : Skeleton) (s t : ℕ) (g : Assignment) (role : Role) (height : ℕ) (terms : List Binding) (height' : ℕ) (terms' : List Binding) →
    item_at k.strands s ≡ Some (instance role height terms) → item_at k.strands t ≡ Some (instance role height' terms') → HaveEqualValues role height terms height' terms' g → EqualAt k s t g
equal_at_instances k s t g role height terms height' terms' at au a role2 height2 terms2 height3 terms3 at2 au2 =
    let e : Some (instance role height terms) ≡ Some (instance role2 height2 terms2) = sym at ∙ at2 in
    let f : Some (instance role height' terms') ≡ Some (instance role2 height3 terms3) = sym au ∙ au2 in
    let r : role ≡ role2 = cc in
    let h : height ≡ height2 = cc in
    let d : terms ≡ terms2 = cc in
    let h' : height' ≡ height3 = cc in
    let d' : terms' ≡ terms3 = cc in
    λ x i j.
    ap (λ (w : List Binding). value_of (after g (as_substitution w)) (variable_term x)) (sym d)
    ∙ a x (subst₂ (λ (y : Role) (m : ℕ). IsIn x (variables_of_prefix y m)) (sym r) (sym h) i) (subst₂ (λ (y : Role) (m : ℕ). IsIn x (variables_of_prefix y m)) (sym r) (sym h') j)
    ∙ ap (λ (w : List Binding). value_of (after g (as_substitution w)) (variable_term x)) d'

module _ (k : Skeleton) (n : ℕ) (p : List ℕ) (part : IsPartitionOfFirst k n p) where
  -- Alone.
  alone_at : (g : Assignment) → IdentifiesValues k p g → (s t l : ℕ) → ((s < length p) × (item_at p s ≡ Some l)) ⊎ ((s ≡ length p) × (n ≡ l)) → ((t < length p) × (item_at p t ≡ Some l)) ⊎ ((t ≡ length p) × (n ≡ l)) → EqualAt k s t g
  alone_at g f s t l (inl a) (inl b) = λ role height terms height' terms' at au. f s t role height terms height' terms' at au (l, a.1, b.1)
  alone_at g f s t l (inl a) (inr b) = absurd (let q = (part.lowest s l a.1).0 in let c = a.0 in let d = b.1 in let e = part.each in omega (arith, q, c, d, e))
  alone_at g f s t l (inr a) (inl b) = absurd (let q = (part.lowest t l b.1).0 in let c = b.0 in let d = a.1 in let e = part.each in omega (arith, q, c, d, e))
  alone_at g f s t l (inr a) (inr b) = subst (λ (m : ℕ). EqualAt k s m g) (a.0 ∙ sym b.0) (equal_itself k s g)

  pub identifies_alone : (g : Assignment) → IdentifiesValues k p g → IdentifiesValues k (p ++ (n ∷ [])) g
  identifies_alone g f s t role height terms height' terms' at au a =
      alone_at g f s t a.0 (end_cases p n s a.0 a.1) (end_cases p n t a.0 a.2) role height terms height' terms' at au

  pub alone_identifies : (g : Assignment) → IdentifiesValues k (p ++ (n ∷ [])) g → IdentifiesValues k p g
  alone_identifies g f = identifies_first k p n g f

  -- In the block of strand l.
  module _ (l : ℕ) where
    joined_at : (g : Assignment) → EqualsBlock k p n l n g → (s t m : ℕ) → ((s < length p) × (item_at p s ≡ Some m)) ⊎ ((s ≡ length p) × (l ≡ m)) → ((t < length p) × (item_at p t ≡ Some m)) ⊎ ((t ≡ length p) × (l ≡ m)) → EqualAt k s t g
    joined_at g f s t m (inl a) (inl b) = λ role height terms height' terms' at au. f.0 s t role height terms height' terms' at au (m, a.1, b.1)
    joined_at g f s t m (inl a) (inr b) =
        subst (λ (w : ℕ). EqualAt k s w g) (sym part.each ∙ sym b.0) (f.1 s (let c = a.0 in let e = part.each in omega (arith, c, e)) (a.1 ∙ ap Some (sym b.1)))
    joined_at g f s t m (inr a) (inl b) =
        equal_at_back k t s g (subst (λ (w : ℕ). EqualAt k t w g) (sym part.each ∙ sym a.0) (f.1 t (let c = b.0 in let e = part.each in omega (arith, c, e)) (b.1 ∙ ap Some (sym a.1))))
    joined_at g f s t m (inr a) (inr b) = subst (λ (w : ℕ). EqualAt k s w g) (a.0 ∙ sym b.0) (equal_itself k s g)

    -- Equal values with each strand of the block.
    pub block_identifies : (g : Assignment) → EqualsBlock k p n l n g → IdentifiesValues k (p ++ (l ∷ [])) g
    block_identifies g f s t role height terms height' terms' at au a =
        joined_at g f s t a.0 (end_cases p l s a.0 a.1) (end_cases p l t a.0 a.2) role height terms height' terms' at au

    pub identifies_block : (g : Assignment) (i : ℕ) → IdentifiesValues k (p ++ (l ∷ [])) g → EqualsBlock k p n l i g
    identifies_block g i f = (
      identifies_first k p l g f,
      λ t less e role height terms height' terms' at au.
          f t n role height terms height' terms' at au (l, item_in_front p (l ∷ []) t (item_below p t l e) ∙ e, ap (item_at (p ++ (l ∷ []))) (sym part.each) ∙ item_last p l),
    )

    pub block_at_first : (g : Assignment) → IdentifiesValues k p g → EqualsBlock k p n l l g
    block_at_first g f = (f, λ t less e. absurd (let q = (part.lowest t l e).0 in omega (arith, less, q)))

    up_to : (g : Assignment) (i : ℕ) → ((t : ℕ) → t < i → item_at p t ≡ Some l → EqualAt k t n g) → (item_at p i ≡ Some l → EqualAt k i n g) → (t : ℕ) → (t ≡ i) ⊎ (t < i) → item_at p t ≡ Some l → EqualAt k t n g
    up_to g i below last t (inl e) at = subst (λ (w : ℕ). EqualAt k w n g) (sym e) (last (ap (item_at p) (sym e) ∙ at))
    up_to g i below last t (inr less) at = below t less at

    -- The next strand is in another block, or in this one.
    pub block_passes : (g : Assignment) (i : ℕ) → (item_at p i ≡ Some l → ⊥) → EqualsBlock k p n l i g → EqualsBlock k p n l (suc i) g
    block_passes g i other f = (f.0, λ t less e. up_to g i f.1 (λ a. absurd (other a)) t (eq-or-lt_of_le (omega (arith, less))) e)

    pub block_takes : (g : Assignment) (i : ℕ) → EqualsBlock k p n l i g → EqualAt k i n g → EqualsBlock k p n l (suc i) g
    block_takes g i f a = (f.0, λ t less e. up_to g i f.1 (λ at. a) t (eq-or-lt_of_le (omega (arith, less))) e)

    pub block_before : (g : Assignment) (i j : ℕ) → i ≤ j → EqualsBlock k p n l j g → EqualsBlock k p n l i g
    block_before g i j le f = (f.0, λ t less e. f.1 t (omega (arith, less, le)) e)

    pub block_has : (g : Assignment) (i : ℕ) → item_at p i ≡ Some l → EqualsBlock k p n l (suc i) g → EqualAt k i n g
    block_has g i at f = f.1 i (omega arith) at

    -- Where equal values with a strand of the block are never had beside the block so far, the extension is impossible.
    pub never_joined : (i : ℕ) → item_at p i ≡ Some l → ((g : Assignment) → EqualsBlock k p n l i g → EqualAt k i n g → ⊥) → IsNeverIdentified k (p ++ (l ∷ []))
    never_joined i at never g f = let b = identifies_block g (suc i) f in never g (block_before g i (suc i) (omega arith) b) (block_has g i at b)
