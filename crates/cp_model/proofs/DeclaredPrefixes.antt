-- Roles that declare the variables of their events have closed prefixes.
use Rattle.std.proofs.Common.{ℕ}
use Rattle.cp_model.specs.Strand.{Role, Protocol}
use Rattle.cp_model.specs.Bundle.{Bundle, IsBundle}
use Rattle.cp_model.specs.Skeleton.{Skeleton, IsSkeleton}
use Rattle.cp_model.specs.Standing.{Standing, StandsIn}
use Rattle.cp_model.specs.Declares.{DeclaresItsVariables, HasDeclaringRoles, HasDeclaredPrefixes}
use Rattle.cp_model.specs.Extensions.{IsClosedPrefix}
use Rattle.cp_model.proofs.LawPrefixes.{in_front_of_trace}

-- The prefixes of a role that declares its variables are closed.
pub closed_prefix : (role : Role) (height : ℕ) → DeclaresItsVariables role → IsClosedPrefix role height
closed_prefix role height declares x i = declares x (in_front_of_trace height role.trace x i)

-- Skeletons over a protocol whose roles declare their variables have declared prefixes, and so have those that stand in a bundle
-- over it.
pub skeleton_prefixes : (protocol : Protocol) (k : Skeleton) → HasDeclaringRoles protocol → IsSkeleton protocol k → HasDeclaredPrefixes k
skeleton_prefixes protocol k declares is s role height terms at = closed_prefix role height (declares role (is.of_role s role height terms at))

pub standing_prefixes : (protocol : Protocol) (k : Skeleton) (b : Bundle) (h : Standing) → HasDeclaringRoles protocol → IsBundle protocol b → StandsIn k b h → HasDeclaredPrefixes k
standing_prefixes protocol k b h declares is stands s role height terms at =
    let st = stands.instances s role height terms at in
    closed_prefix role height (declares role (is.of_protocol.of_role (h.nodes s).strand role st.to_height st.to_values st.on_regular))
