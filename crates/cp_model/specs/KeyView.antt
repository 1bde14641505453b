-- What keys of the program stand for.
use Rattle.cp_model.specs.Message.{skey, ltk, akey, pubk, Key, symmetric, asymmetric}
use Rattle.cp_model.specs.declared.key.KeyKind.{KeyKind}
use Rattle.cp_model.specs.declared.key.KeyKind.TheVariants.{Skey, Ltk, Akey, Pubk}

-- The key that is made so.
abbrev pub key_of_kind : KeyKind → Key
key_of_kind (Skey n) = symmetric (skey n)
key_of_kind (Ltk a b) = symmetric (ltk a b)
key_of_kind (Akey flag n) = asymmetric flag (akey n)
key_of_kind (Pubk flag purpose a) = asymmetric flag (pubk purpose a)
