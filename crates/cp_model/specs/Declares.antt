-- Roles that declare the variables of their events, and skeletons whose strands have such prefixes.
use Rattle.std.specs.Prelude.{◌≡◌, ℕ, List, Some}
use Rattle.cp_lists.specs.Lists.{item_at, IsIn}
use Rattle.cp_model.specs.Term.{Variable}
use Rattle.cp_model.specs.Bindings.{Binding}
use Rattle.cp_model.specs.Strand.{Role, Protocol, variables_of_trace}
use Rattle.cp_model.specs.Skeleton.{SkeletonStrand, instance, Skeleton}
use Rattle.cp_model.specs.Problem.{IsDeclared}
use Rattle.cp_model.specs.Extensions.{IsClosedPrefix}

-- The role declares the variables of its events.
abbrev pub DeclaresItsVariables : Role → Type 0
DeclaresItsVariables role = (x : Variable) → IsIn x (variables_of_trace role.trace) → IsDeclared role.variables x

-- Each role of the protocol does.
abbrev pub HasDeclaringRoles : Protocol → Type 0
HasDeclaringRoles protocol = (role : Role) → IsIn role protocol.roles → DeclaresItsVariables role

-- The role of each instance declares the variables of its prefix.
abbrev pub ArePrefixesDeclared : List SkeletonStrand → Type 0
ArePrefixesDeclared strands = (s : ℕ) (role : Role) (height : ℕ) (terms : List Binding) → item_at strands s ≡ Some (instance role height terms) → IsClosedPrefix role height

abbrev pub HasDeclaredPrefixes : Skeleton → Type 0
HasDeclaredPrefixes k = ArePrefixesDeclared k.strands
