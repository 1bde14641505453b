-- What a fingerprint keeps, and how two are compared.
use Rattle.std.specs.Prelude.{◌≤◌, ℕ, refl, Bool, true, false, List, [], ◌∷◌, if◌then◌else◌}
use Rattle.std.specs.Coded.{Coded, code_by, coded_ℕ, coded_list, coded×}
use Rattle.cp_lists.specs.Lists.{IsIn}
use Rattle.cp_fingerprint.specs.Sorted.{IsAscending}
use Rattle.cp_fingerprint.specs.Fingerprints.{by_name_and_height, is_as_high}
use Rattle.cp_fingerprint.specs.declared.heights.RoleHeight.{RoleHeight}

abbrev coded_height : Coded RoleHeight
coded_height = code_by (List ℕ × ℕ) (coded× (coded_list coded_ℕ) coded_ℕ) (λ h. (h.name, h.height)) (λ p. record { name = p.0; height = p.1 }) (λ _. refl)

abbrev pub coded_fingerprint : Coded (List RoleHeight)
coded_fingerprint = coded_list coded_height

-- It is in order, and its heights are from 1.
pub record IsInOrder (xs : List RoleHeight) : Type 0 where
  pub ascending : IsAscending by_name_and_height xs
  pub from_one : (x : RoleHeight) → IsIn x xs → 1 ≤ x.height

-- Whether, in one pass through the second list, each of the first finds in turn one of its name that is at least as high.
abbrev pub find_in_turn : List RoleHeight → List RoleHeight → Bool
find_in_turn [] ys = true
find_in_turn (x ∷ xs) [] = false
find_in_turn (x ∷ xs) (y ∷ ys) = if is_as_high x.name x.height y then find_in_turn xs ys else find_in_turn (x ∷ xs) ys
