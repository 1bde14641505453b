-- Ways of steps, one behind another.
use Rattle.cp_lists.specs.Lists.{Steps, one_step, more_steps}

pub steps_append : {A : Type 0} {step : A → A → Type 0} {x y z : A} → Steps step x y → Steps step y z → Steps step x z
steps_append (one_step s) q = more_steps s q
steps_append (more_steps s p) q = more_steps s (steps_append p q)

-- Where each step of one kind is one of another, so is each way.
pub steps_alike : {A : Type 0} {first second : A → A → Type 0} → ((x y : A) → first x y → second x y) → {x y : A} → Steps first x y → Steps second x y
steps_alike h {x} {y} (one_step s) = one_step (h x y s)
steps_alike h {x} {y} (more_steps {y = mid} s rest) = more_steps (h x mid s) (steps_alike h rest)
