-- Forms that stand in front of others.
use Rattle.std.specs.Prelude.{ℕ, suc, List, [], ◌∷◌, Bool, if◌then◌else◌}
use Rattle.cp_sexpr.specs.Syntax.{Form}

-- How many forms that pass the test stand first.
abbrev pub leading : (Form → Bool) → List Form → ℕ
leading test [] = 0
leading test (f ∷ fs) = if test f then suc (leading test fs) else 0
