-- Lists by their heads.
use Rattle.std.proofs.Common.{◌≡◌, ℕ, List, [], ◌∷◌, false, ap, ◌∙◌}
use Rattle.std.specs.Prelude.{Some, None}
use Rattle.cp_model.specs.Same.{same_text}
use Rattle.cp_sexpr.specs.Syntax.{Form}
use Rattle.cp_language.specs.Roles.{Headed, headed}
use Rattle.cp_report.specs.Heads.{has_head, is_headed_by}
use Rattle.cp_spelled.proofs.InOrder.{or_false}

pub head-is : (w : List ℕ) (f : Form) (h : Headed) → Some h ≡ headed f → same_text h.head w ≡ has_head (w ∷ []) f
head-is w f h e = or_false (same_text h.head w) ∙ ap (is_headed_by (w ∷ [])) e

pub head-none : (w : List ℕ) (f : Form) → None ≡ headed f → false ≡ has_head (w ∷ []) f
head-none w f e = ap (is_headed_by (w ∷ [])) e
