-- Variables that are among others.
use Rattle.std.proofs.Common.{◌⊎◌, inl, inr, List, ◌∷◌, ◌++◌, subst}
use Rattle.cp_lists.specs.Lists.{IsIn}
use Rattle.cp_lists.proofs.Members.{in_cases, in_append_left, in_append_right, in_append}
use Rattle.cp_model.specs.declared.variable.Variable.{Variable}
use Rattle.cp_unify.specs.Unifiers.{AreVariablesAmong}

either_among : (x : Variable) (xs ys zs : List Variable) → AreVariablesAmong xs zs → AreVariablesAmong ys zs → IsIn x xs ⊎ IsIn x ys → IsIn x zs
either_among x xs ys zs p q (inl h) = p x h
either_among x xs ys zs p q (inr h) = q x h

-- Lists that are put together of what is among others.
pub among_cons : (x : Variable) (xs zs : List Variable) → IsIn x zs → AreVariablesAmong xs zs → AreVariablesAmong (x ∷ xs) zs
among_cons x xs zs h k y i = elim (in_cases i) [ inl e ↦ subst (λ (z : Variable). IsIn z zs) e h | inr j ↦ k y j ]

pub among_append : (xs ys zs : List Variable) → AreVariablesAmong xs zs → AreVariablesAmong ys zs → AreVariablesAmong (xs ++ ys) zs
among_append xs ys zs p q x h = either_among x xs ys zs p q (in_append xs ys h)

pub among_left : (xs ys : List Variable) → AreVariablesAmong xs (xs ++ ys)
among_left xs ys x h = in_append_left ys h

pub among_right : (xs ys : List Variable) → AreVariablesAmong ys (xs ++ ys)
among_right xs ys x h = in_append_right xs h

-- The parts of two pairs of lists.
pub among_both : (ks bs cs ds : List Variable) → AreVariablesAmong ks cs → AreVariablesAmong bs ds → AreVariablesAmong (ks ++ bs) (cs ++ ds)
among_both ks bs cs ds p q =
    among_append ks bs (cs ++ ds) (λ x h. in_append_left ds (p x h)) (λ x h. in_append_right cs (q x h))
