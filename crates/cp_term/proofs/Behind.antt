-- Positions behind the steps that led to a part.
use Rattle.std.proofs.Common.{ℕ, ◌≤◌, length, take, arith, length-take, Bool, true, false, List, [], ◌∷◌, ◌++◌, ◌≡◌, refl, sym, ap, ap₂, ◌∙◌, append_assoc}
use Rattle.std.proofs.lemmas.List.{append-nil, map-append, take-append-le}
use Rattle.std.proofs.Math.Seq.{take-append_seam}
use Rattle.cp_model.specs.Term.{KeyTerm, Term, pair_term, enc_term}
use Rattle.cp_model.specs.Positions.{here_if, paths_below, prefixed, positions_where}
use Rattle.cp_model.specs.declared.step.Step.{Step}
use Rattle.cp_model.specs.declared.step.Step.TheVariants.{Left, Right, Plaintext}

-- Behind some steps and below one more is behind all of them.
pub behind_below : (h : List Step) (s : Step) (paths : List (List Step)) → prefixed h (paths_below s paths) ≡ prefixed (h ++ (s ∷ [])) paths
behind_below h s [] = refl
behind_below h s (path ∷ paths) = ap₂ ◌∷◌ (sym (append_assoc h (s ∷ []) path)) (behind_below h s paths)

pub here_true : (h : List Step) → prefixed h (here_if true) ≡ h ∷ []
here_true h = ap (λ path. path ∷ []) (append-nil h)

pub pair_positions : (test : Term → Bool) (found : List (List Step)) (h : List Step) (a b : Term) →
    found ++ prefixed h (positions_where test (pair_term a b))
    ≡ ((found ++ prefixed h (here_if (test (pair_term a b)))) ++ prefixed (h ++ (Left ∷ [])) (positions_where test a)) ++ prefixed (h ++ (Right ∷ [])) (positions_where test b)
pair_positions test found h a b =
    ap (λ paths. found ++ paths)
    (map-append (λ path. h ++ path) (here_if (test (pair_term a b))) (paths_below Left (positions_where test a) ++ paths_below Right (positions_where test b))
    ∙ ap (λ paths. prefixed h (here_if (test (pair_term a b))) ++ paths)
    (map-append (λ path. h ++ path) (paths_below Left (positions_where test a)) (paths_below Right (positions_where test b))
    ∙ ap₂ ◌++◌ (behind_below h Left (positions_where test a)) (behind_below h Right (positions_where test b))))
    ∙ sym (append_assoc found (prefixed h (here_if (test (pair_term a b)))) (prefixed (h ++ (Left ∷ [])) (positions_where test a) ++ prefixed (h ++ (Right ∷ [])) (positions_where test b)))
    ∙ sym (append_assoc (found ++ prefixed h (here_if (test (pair_term a b)))) (prefixed (h ++ (Left ∷ [])) (positions_where test a)) (prefixed (h ++ (Right ∷ [])) (positions_where test b)))

pub plaintext_positions : (test : Term → Bool) (found : List (List Step)) (h : List Step) (a : Term) (k : KeyTerm) →
    found ++ prefixed h (positions_where test (enc_term a k))
    ≡ (found ++ prefixed h (here_if (test (enc_term a k)))) ++ prefixed (h ++ (Plaintext ∷ [])) (positions_where test a)
plaintext_positions test found h a k =
    ap (λ paths. found ++ paths)
    (map-append (λ path. h ++ path) (here_if (test (enc_term a k))) (paths_below Plaintext (positions_where test a))
    ∙ ap (λ paths. prefixed h (here_if (test (enc_term a k))) ++ paths) (behind_below h Plaintext (positions_where test a)))
    ∙ sym (append_assoc found (prefixed h (here_if (test (enc_term a k)))) (prefixed (h ++ (Plaintext ∷ [])) (positions_where test a)))

pub added_here : (found : List (List Step)) (h : List Step) (b : Bool) → b ≡ true → found ++ prefixed h (here_if b) ≡ found ++ (h ∷ [])
added_here found h b e = ap (λ t. found ++ prefixed h (here_if t)) e ∙ ap (λ paths. found ++ paths) (here_true h)

pub none_here : (found : List (List Step)) (h : List Step) (b : Bool) → b ≡ false → found ++ prefixed h (here_if b) ≡ found
none_here found h b e = ap (λ t. found ++ prefixed h (here_if t)) e ∙ append-nil found

-- The paths behind no step.
pub behind_none : (paths : List (List Step)) → prefixed [] paths ≡ paths
behind_none [] = refl
behind_none (path ∷ paths) = ap (λ rest. path ∷ rest) (behind_none paths)

-- Steps added behind the first ones keep these.
pub first_kept : (start : ℕ) (first h more : List Step) → start ≡ length first → take start h ≡ first → take start (h ++ more) ≡ first
first_kept start first h more n e =
    let within : start ≤ length h = omega (arith, length-take start h, ap length e) in
    take-append-le start h more within ∙ e

-- The last step taken back and another made.
pub turned : (h left back kept right : List Step) (level : ℕ) → left ≡ h ++ (Left ∷ []) → back ≡ left → level ≡ length h → kept ≡ take level back →
    right ≡ kept ++ (Right ∷ []) → right ≡ h ++ (Right ∷ [])
turned h left back kept right level l b n k r =
    let whole : take level back ≡ h = ap (λ p. take level p) (b ∙ l) ∙ ap (λ m. take m (h ++ (Left ∷ []))) n ∙ take-append_seam h (Left ∷ []) in
    r ∙ ap (λ p. p ++ (Right ∷ [])) (k ∙ whole)

module _ (test : Term → Bool) (all : List (List Step)) (h : List Step) (rest : Term) (found here_found : List (List Step))
    (so_far : found ++ prefixed h (positions_where test rest) ≡ all) (added : here_found ≡ found ++ prefixed h (here_if (test rest))) where
  pub after_pair : (a b : Term) (left right : List Step) (left_found : List (List Step)) → rest ≡ pair_term a b → left ≡ h ++ (Left ∷ []) → right ≡ h ++ (Right ∷ []) →
      left_found ≡ here_found ++ prefixed left (positions_where test a) → left_found ++ prefixed right (positions_where test b) ≡ all
  after_pair a b left right left_found e l r f =
      let split = pair_positions test found h a b in
      let start = rw e at so_far in
      let first = rw e at added in
      ap₂ (λ fs p. fs ++ prefixed p (positions_where test b)) (f ∙ ap₂ (λ fs p. fs ++ prefixed p (positions_where test a)) first l) r ∙ sym split ∙ start

  pub after_encryption : (a : Term) (k : KeyTerm) (inner : List Step) → rest ≡ enc_term a k → inner ≡ h ++ (Plaintext ∷ []) →
      here_found ++ prefixed inner (positions_where test a) ≡ all
  after_encryption a k inner e l =
      let split = plaintext_positions test found h a k in
      let start = rw e at so_far in
      let first = rw e at added in
      ap₂ (λ fs p. fs ++ prefixed p (positions_where test a)) first l ∙ sym split ∙ start
