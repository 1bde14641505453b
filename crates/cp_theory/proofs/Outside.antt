-- Standing outside the protecting encryptions, and being carried.
use Rattle.std.proofs.Common.{◌≡◌, Bool, true, false, refl, sym, ◌∙◌}
use Rattle.cp_model.specs.Message.{Key, Message, IsCarriedBy, itself, in_left, in_right, in_plaintext}
use Rattle.cp_theory.specs.AuthenticationTest.{IsOutside, is_whole, outside_left, outside_right, outside_plaintext}

carried_if : {protects : Message → Key → Bool} {c m : Message} → IsOutside protects c m → IsCarriedBy c m
carried_if is_whole = itself
carried_if (outside_left o) = in_left (carried_if o)
carried_if (outside_right o) = in_right (carried_if o)
carried_if (outside_plaintext e o) = in_plaintext (carried_if o)

outside_if : (protects : Message → Key → Bool) → ((x : Message) (k : Key) → protects x k ≡ false) → {c m : Message} → IsCarriedBy c m → IsOutside protects c m
outside_if protects never itself = is_whole
outside_if protects never (in_left p) = outside_left (outside_if protects never p)
outside_if protects never (in_right p) = outside_right (outside_if protects never p)
outside_if protects never (in_plaintext {a = a} {k = k} p) = outside_plaintext (never a k) (outside_if protects never p)

not_protected : (x y : Bool) → (x ≡ true → y ≡ true) → y ≡ false → x ≡ false
not_protected false y f e = refl
not_protected true y f e = sym (f refl) ∙ e

fewer_if : (more fewer : Message → Key → Bool) → ((x : Message) (k : Key) → fewer x k ≡ true → more x k ≡ true) → {c m : Message} → IsOutside more c m → IsOutside fewer c m
fewer_if more fewer within is_whole = is_whole
fewer_if more fewer within (outside_left o) = outside_left (fewer_if more fewer within o)
fewer_if more fewer within (outside_right o) = outside_right (fewer_if more fewer within o)
fewer_if more fewer within (outside_plaintext {x = x} {k = k} e o) = outside_plaintext (not_protected (fewer x k) (more x k) (within x k) e) (fewer_if more fewer within o)

pub outside_is_carried : (protects : Message → Key → Bool) (c m : Message) → IsOutside protects c m → IsCarriedBy c m
outside_is_carried protects c m o = carried_if o

pub carried_is_outside : (protects : Message → Key → Bool) (c m : Message) → ((x : Message) (k : Key) → protects x k ≡ false) → IsCarriedBy c m → IsOutside protects c m
carried_is_outside protects c m never p = outside_if protects never p

pub outside_fewer : (more fewer : Message → Key → Bool) (c m : Message) → ((x : Message) (k : Key) → fewer x k ≡ true → more x k ≡ true) → IsOutside more c m → IsOutside fewer c m
outside_fewer more fewer c m within o = fewer_if more fewer within o
