-- Lists of items that are being made, step by step.
use Rattle.std.proofs.Common.{◌≡◌, List, [], ◌∷◌, ◌++◌}
use Rattle.cp_base.specs.Growing.{Growth, Grows}
use Rattle.cp_hom.specs.Grown.{UnlessOut}

module _ {T : Type 0} where
  pub unless_same : (fact : List T → List T → Type 0) (a : Growth T) → fact a.items a.items → UnlessOut fact a a
  unless_same fact a h = λ out. (out, h)

  -- One more item.
  pub unless_one : (fact next : List T → List T → Type 0) (a b c : Growth T) (x : T) → ((new : List T) → new ≡ b.items ++ (x ∷ []) → fact a.items b.items → next a.items new) →
      UnlessOut fact a b → Grows b c (x ∷ []) → UnlessOut next a c
  unless_one fact next a b c x step h g = λ out.
      let more = g.whole out in
      let before = h more.0 in
      (before.0, step c.items more.1 before.1)

  -- What was done to it after that.
  pub unless_then : (fact more next : List T → List T → Type 0) (a b c : Growth T) → (fact a.items b.items → more b.items c.items → next a.items c.items) →
      UnlessOut fact a b → UnlessOut more b c → UnlessOut next a c
  unless_then fact more next a b c step h g = λ out.
      let after = g out in
      let before = h after.0 in
      (before.0, step before.1 after.1)
