use Rattle.cp_unify.proofs.Steps.{between_all, names_all}
use Rattle.cp_unify.proofs.difference.is_all.Goals as goal

pub returns-in-Pubk-Pubk : goal.returns-in-Pubk-Pubk
returns-in-Pubk-Pubk c = λ _. names_all _ _ _ _ _ _ _ _ _ c.in-Pubk-Pubk.ensures c.in-Pubk-Pubk.ensures'

pub returns-in_default : goal.returns-in_default
returns-in_default c = λ same. between_all _ _ _ (c.is_between.ensures same)
