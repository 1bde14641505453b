-- The protocols that stand above a form.
use Rattle.std.specs.Prelude.{ℕ, List, [], ◌∷◌, map}
use Rattle.std.specs.declared.rc.Rc.{Rc}
use Rattle.std.specs.declared.alloc.Global.{Global}
use Rattle.cp_model.specs.Strand as strand

abbrev pub protocols_view : List (Rc strand.Protocol Global) → List strand.Protocol
protocols_view = map (λ p. p.value)

abbrev pub names_of_protocols : List strand.Protocol → List (List ℕ)
names_of_protocols [] = []
names_of_protocols (p ∷ ps) = p.name ∷ names_of_protocols ps

-- These protocols, the last first, and then others.
abbrev pub turned : List strand.Protocol → List strand.Protocol → List strand.Protocol
turned [] others = others
turned (p ∷ ps) others = turned ps (p ∷ others)
