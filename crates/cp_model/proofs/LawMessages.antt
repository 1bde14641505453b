-- Equality of messages, and whether a message carries another, are decidable.
use Rattle.std.proofs.Common.{◌≡◌, ℕ, List, [], ◌∷◌, Option, Some, None, Bool, true, false, refl, ap, ap₂, subst, ◌⊎◌, inl, inr, ⊎_elim}
use native.Mathlib.Decide.{ℕ_discrete}
use Rattle.cp_model.specs.Message.{SymmetricKey, skey, ltk, KeyPair, akey, pubk, Key, symmetric, asymmetric, Atom, text, datum, name, key, Message, tag, atom, pair, enc, IsCarriedBy, itself, in_left, in_right, in_plaintext}

-- From decisions on parts.
dec_one : {A B : Type 0} {a a' : A} {b b' : B} → (a ≡ a' → b ≡ b') → (b ≡ b' → a ≡ a') → Dec (a ≡ a') → Dec (b ≡ b')
dec_one f g (yes e) = yes (f e)
dec_one f g (no n) = no (λ e. n (g e))

dec_two : {A B C : Type 0} {a a' : A} {b b' : B} {c c' : C} → (a ≡ a' → b ≡ b' → c ≡ c') → (c ≡ c' → a ≡ a') → (c ≡ c' → b ≡ b') → Dec (a ≡ a') → Dec (b ≡ b') → Dec (c ≡ c')
dec_two f g h (yes e) (yes d) = yes (f e d)
dec_two f g h (no n) d = no (λ e. n (g e))
dec_two f g h (yes e) (no n) = no (λ d. n (h d))

dec_bool : (a b : Bool) → Dec (a ≡ b)
dec_bool true true = yes refl
dec_bool false false = yes refl
dec_bool true false = no (λ e. cc)
dec_bool false true = no (λ e. cc)

pub dec_list : (xs ys : List ℕ) → Dec (xs ≡ ys)
dec_list [] [] = yes refl
dec_list [] (y ∷ ys) = no (λ e. cc)
dec_list (x ∷ xs) [] = no (λ e. cc)
dec_list (x ∷ xs) (y ∷ ys) = dec_two (ap₂ ◌∷◌) (λ e. cc) (λ e. cc) (ℕ_discrete x y) (dec_list xs ys)

dec_option : (a b : Option (List ℕ)) → Dec (a ≡ b)
dec_option None None = yes refl
dec_option None (Some y) = no (λ e. cc)
dec_option (Some x) None = no (λ e. cc)
dec_option (Some x) (Some y) = dec_one (ap Some) (λ e. cc) (dec_list x y)

dec_symmetric : (a b : SymmetricKey) → Dec (a ≡ b)
dec_symmetric (skey m) (skey n) = dec_one (ap skey) (λ e. cc) (ℕ_discrete m n)
dec_symmetric (ltk a b) (ltk c d) = dec_two (ap₂ ltk) (λ e. cc) (λ e. cc) (ℕ_discrete a c) (ℕ_discrete b d)
dec_symmetric _ _ = no (λ e. cc)

dec_key_pair : (a b : KeyPair) → Dec (a ≡ b)
dec_key_pair (akey m) (akey n) = dec_one (ap akey) (λ e. cc) (ℕ_discrete m n)
dec_key_pair (pubk a b) (pubk c d) = dec_two (ap₂ pubk) (λ e. cc) (λ e. cc) (dec_option a c) (ℕ_discrete b d)
dec_key_pair _ _ = no (λ e. cc)

dec_key : (a b : Key) → Dec (a ≡ b)
dec_key (symmetric a) (symmetric b) = dec_one (ap symmetric) (λ e. cc) (dec_symmetric a b)
dec_key (asymmetric a b) (asymmetric c d) = dec_two (ap₂ asymmetric) (λ e. cc) (λ e. cc) (dec_bool a c) (dec_key_pair b d)
dec_key _ _ = no (λ e. cc)

dec_atom : (a b : Atom) → Dec (a ≡ b)
dec_atom (text m) (text n) = dec_one (ap text) (λ e. cc) (ℕ_discrete m n)
dec_atom (datum m) (datum n) = dec_one (ap datum) (λ e. cc) (ℕ_discrete m n)
dec_atom (name m) (name n) = dec_one (ap name) (λ e. cc) (ℕ_discrete m n)
dec_atom (key a) (key b) = dec_one (ap key) (λ e. cc) (dec_key a b)
dec_atom _ _ = no (λ e. cc)

pub dec_message : (a b : Message) → Dec (a ≡ b)
dec_message (tag a) (tag b) = dec_one (ap tag) (λ e. cc) (dec_list a b)
dec_message (atom a) (atom b) = dec_one (ap atom) (λ e. cc) (dec_atom a b)
dec_message (pair a b) (pair c d) = dec_two (ap₂ pair) (λ e. cc) (λ e. cc) (dec_message a c) (dec_message b d)
dec_message (enc a k) (enc b l) = dec_two (ap₂ enc) (λ e. cc) (λ e. cc) (dec_message a b) (dec_key k l)
dec_message _ _ = no (λ e. cc)

-- What a message carries: itself, or what its parts carry.
abbrev pub InParts : Message → Message → Type 0
InParts v (tag bytes) = ⊥
InParts v (atom a) = ⊥
InParts v (pair a b) = IsCarriedBy v a ⊎ IsCarriedBy v b
InParts v (enc a k) = IsCarriedBy v a

pub carried_cases : {v m : Message} → IsCarriedBy v m → (v ≡ m) ⊎ InParts v m
carried_cases itself = inl refl
carried_cases (in_left p) = inr (inl p)
carried_cases (in_right p) = inr (inr p)
carried_cases (in_plaintext p) = inr p

same_is_carried : (v m : Message) → v ≡ m → IsCarriedBy v m
same_is_carried v m e = subst (IsCarriedBy v) e itself

dec_parts : (v m : Message) → (InParts v m → IsCarriedBy v m) → Dec (v ≡ m) → Dec (InParts v m) → Dec (IsCarriedBy v m)
dec_parts v m back (yes e) d = yes (same_is_carried v m e)
dec_parts v m back (no n) (yes p) = yes (back p)
dec_parts v m back (no n) (no q) = no (λ c. ⊎_elim n q (carried_cases c))

-- One of two decidable facts.
pub dec_or : {A B : Type 0} → Dec A → Dec B → Dec (A ⊎ B)
dec_or (yes a) d = yes (inl a)
dec_or (no n) (yes b) = yes (inr b)
dec_or (no n) (no m) = no (⊎_elim n m)

pub dec_carried : (v m : Message) → Dec (IsCarriedBy v m)
dec_carried v (tag bytes) = dec_parts v (tag bytes) absurd (dec_message v (tag bytes)) (no (λ p. p))
dec_carried v (atom a) = dec_parts v (atom a) absurd (dec_message v (atom a)) (no (λ p. p))
dec_carried v (pair a b) = dec_parts v (pair a b) (⊎_elim in_left in_right) (dec_message v (pair a b)) (dec_or (dec_carried v a) (dec_carried v b))
dec_carried v (enc a k) = dec_parts v (enc a k) in_plaintext (dec_message v (enc a k)) (dec_carried v a)
