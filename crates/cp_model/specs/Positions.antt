-- Carried positions: paths through the parts of pairs and the plaintexts of encryptions.
use Rattle.std.specs.Prelude.{ℕ, ◌+◌, max, Bool, true, false, List, [], ◌∷◌, ◌++◌, map, Option, Some, None, option_and_then}
use Rattle.cp_model.specs.Term.{Term, tag_term, atom_term, pair_term, enc_term}
use Rattle.cp_model.specs.declared.step.Step.{Step}
use Rattle.cp_model.specs.declared.step.Step.TheVariants.{Left, Right, Plaintext}

-- The part of a term that one step leads to, if there is one.
abbrev pub part_at : Step → Term → Option Term
part_at Left (pair_term a b) = Some a
part_at Right (pair_term a b) = Some b
part_at Plaintext (enc_term a k) = Some a
part_at _ _ = None

-- The term at a path, if the path is a carried position.
abbrev pub term_at : Term → List Step → Option Term
term_at t [] = Some t
term_at t (s ∷ path) = option_and_then (λ part. term_at part path) (part_at s t)

-- The position of the whole, if it is to be listed.
abbrev pub here_if : Bool → List (List Step)
here_if true = [] ∷ []
here_if false = []

-- Paths that begin with one step more.
abbrev pub paths_below : Step → List (List Step) → List (List Step)
paths_below s paths = map (λ path. s ∷ path) paths

-- The carried positions at which a term stands that passes the test, in preorder, left before right.
abbrev pub positions_where : (Term → Bool) → Term → List (List Step)
positions_where test (tag_term bytes) = here_if (test (tag_term bytes))
positions_where test (atom_term a) = here_if (test (atom_term a))
positions_where test (pair_term a b) = here_if (test (pair_term a b)) ++ (paths_below Left (positions_where test a) ++ paths_below Right (positions_where test b))
positions_where test (enc_term a k) = here_if (test (enc_term a k)) ++ paths_below Plaintext (positions_where test a)

-- The depth of a term: 1 of a tag and of an atom, else one more than the greatest depth of its parts.
abbrev pub depth_of : Term → ℕ
depth_of (tag_term bytes) = 1
depth_of (atom_term a) = 1
depth_of (pair_term a b) = max (depth_of a) (depth_of b) + 1
depth_of (enc_term a k) = max (depth_of a) 1 + 1

-- Paths behind some steps.
abbrev pub prefixed : List Step → List (List Step) → List (List Step)
prefixed steps paths = map (λ path. steps ++ path) paths
