-- The encryptions that enclose a carried position.
use Rattle.std.specs.Prelude.{List, [], ◌∷◌}
use Rattle.cp_model.specs.Term.{Term, pair_term, enc_term}
use Rattle.cp_model.specs.declared.step.Step.{Step}
use Rattle.cp_model.specs.declared.step.Step.TheVariants.{Left, Right, Plaintext}

-- The proper enclosing encryptions of a carried position, outermost first: each encryption whose plaintext the way to the
-- position leads into.
abbrev pub encryptions_above : Term → List Step → List Term
encryptions_above (pair_term a b) (Left ∷ path) = encryptions_above a path
encryptions_above (pair_term a b) (Right ∷ path) = encryptions_above b path
encryptions_above (enc_term a k) (Plaintext ∷ path) = enc_term a k ∷ encryptions_above a path
encryptions_above _ _ = []
