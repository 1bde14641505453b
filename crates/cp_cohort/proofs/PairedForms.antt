-- The normal forms that the program makes, each beside one of those of the skeleton.
use Rattle.std.proofs.Common.{List, [], ◌∷◌}
use Rattle.cp_lists.specs.Lists.{IsIn, here, there}
use Rattle.cp_lists.proofs.Members.{not_in_none}
use Rattle.cp_model.specs.Bindings.{Binding}
use Rattle.cp_model.specs.Senders.{ArePaired}
use Rattle.cp_model.specs.Skeleton.{Skeleton}
use Rattle.cp_normal.specs.Formed.{Formed, IsFormBeside}
use Rattle.cp_normal.specs.declared.form.Form.{Form}

-- Something on the list that is related to x.
record HasPartner {A B : Type 0} (related : A → B → Type 0) (ys : List B) (x : A) : Type 0 where
  item : B
  listed : IsIn item ys
  are_related : related x item

partner : {A B : Type 0} (related : A → B → Type 0) (xs : List A) (ys : List B) → ArePaired related xs ys → (x : A) → IsIn x xs → HasPartner related ys x
partner related (x ∷ xs) (y ∷ ys) are z here = record { item = y; listed = here; are_related = are.0 }
partner related (x ∷ xs) (y ∷ ys) are z (there i) = let h = partner related xs ys are.1 z i in record { item = h.item; listed = there h.listed; are_related = h.are_related }
partner related [] ys are z i = absurd (not_in_none i)
partner related (x ∷ xs) [] are z i = absurd are

-- Pairs, the other way round.
turned : {A B : Type 0} (related : A → B → Type 0) (xs : List A) (ys : List B) → ArePaired related xs ys → ArePaired (λ y x. related x y) ys xs
turned related [] [] are = are
turned related (x ∷ xs) (y ∷ ys) are = (are.0, turned related xs ys are.1)
turned related [] (y ∷ ys) are = absurd are
turned related (x ∷ xs) [] are = absurd are

module _ (k : Skeleton) (given : List Binding) where
  -- Beside each of the program's stands one of the skeleton's.
  pub record HasForm (forms : List Formed) (answer : Form) : Type 0 where
    pub form : Formed
    pub listed : IsIn form forms
    pub beside : IsFormBeside k given answer form

  pub has_form : (answers : List Form) (forms : List Formed) → ArePaired (IsFormBeside k given) answers forms → (a : Form) → IsIn a answers → HasForm forms a
  has_form answers forms are a i = let h = partner (IsFormBeside k given) answers forms are a i in record { form = h.item; listed = h.listed; beside = h.are_related }

  -- And the other way round.
  pub record HasAnswer (answers : List Form) (form : Formed) : Type 0 where
    pub answer : Form
    pub listed : IsIn answer answers
    pub beside : IsFormBeside k given answer form

  pub has_answer : (answers : List Form) (forms : List Formed) → ArePaired (IsFormBeside k given) answers forms → (f : Formed) → IsIn f forms → HasAnswer answers f
  has_answer answers forms are f i =
      let h = partner (λ g a. IsFormBeside k given a g) forms answers (turned (IsFormBeside k given) answers forms are) f i in
      record { answer = h.item; listed = h.listed; beside = h.are_related }
