-- The pairs of a skeleton without one of its strands.
use Rattle.std.proofs.Common.{◌≡◌, ◌≢◌, ◌⊎◌, inl, inr, ℕ, ◌≤◌, List, [], ◌∷◌, Bool, true, false, refl, arith}
use Rattle.std.specs.Prelude.{◌==◌, ◌&&◌, nat_le, not}
use Rattle.std.proofs.lemmas.Bool.Decides.{nat_tests}
use Rattle.cp_lists.specs.Lists.{IsIn, here, there}
use Rattle.cp_model.specs.declared.node.OrderPair.{OrderPair}
use Rattle.cp_lists.proofs.Members.{in_append, in_append_left, in_append_right}
use Rattle.cp_skel.specs.Deletion.{LeavesOut, all_left, is_gone, is_left}
use Rattle.cp_skel.specs.Bridges.{is_through, bridge, bridge_if, bridges_from, bridges}

-- ---- what is left of a list

pub in_left : {A : Type 0} (gone : A → Type 0) (form : A → A) (xs ys : List A) (x : A) → LeavesOut gone form xs ys → IsIn x xs → (gone x → ⊥) → IsIn (form x) ys
in_left gone form [] ys x all_left m h = elim m [ ]
in_left gone form (y ∷ xs) ys x (is_gone g l) here h = absurd (h g)
in_left gone form (y ∷ xs) ys x (is_gone g l) (there m) h = in_left gone form xs ys x l m h
in_left gone form (y ∷ xs) ys x (is_left g l) here h = here
in_left gone form (y ∷ xs) ys x (is_left {ys = zs} g l) (there m) h = there (in_left gone form xs zs x l m h)

pub record WasLeft {A : Type 0} (gone : A → Type 0) (form : A → A) (xs : List A) (y : A) : Type 0 where
  pub item : A
  pub listed : IsIn item xs
  pub not_gone : gone item → ⊥
  pub same : y ≡ form item

was_later : {A : Type 0} (gone : A → Type 0) (form : A → A) (xs : List A) (x y : A) → WasLeft gone form xs y → WasLeft gone form (x ∷ xs) y
was_later gone form xs x y w = record { item = w.item; listed = there w.listed; not_gone = w.not_gone; same = w.same }

pub was_left : {A : Type 0} (gone : A → Type 0) (form : A → A) (xs ys : List A) (y : A) → LeavesOut gone form xs ys → IsIn y ys → WasLeft gone form xs y
was_left gone form [] ys y all_left m = elim m [ ]
was_left gone form (x ∷ xs) ys y (is_gone g l) m = was_later gone form xs x y (was_left gone form xs ys y l m)
was_left gone form (x ∷ xs) ys y (is_left g l) here = record { item = x; listed = here; not_gone = g; same = refl }
was_left gone form (x ∷ xs) ys y (is_left {ys = zs} g l) (there m) = was_later gone form xs x y (was_left gone form xs zs y l m)

-- ---- pairs through the strand

in_if : (b : Bool) (p : OrderPair) (rest : List OrderPair) → b ≡ true → IsIn p (bridge_if b p rest)
in_if true p rest e = here
in_if false p rest e = absurd (cc)

in_if_rest : (b : Bool) (p r : OrderPair) (rest : List OrderPair) → IsIn r rest → IsIn r (bridge_if b p rest)
in_if_rest true p r rest m = there m
in_if_rest false p r rest m = m

in_bridges_from : (d : ℕ) (p q : OrderPair) (qs : List OrderPair) → IsIn q qs → is_through d p q ≡ true → IsIn (bridge d p q) (bridges_from d p qs)
in_bridges_from d p q [] m e = elim m [ ]
in_bridges_from d p q (x ∷ qs) here e = in_if (is_through d p q) (bridge d p q) (bridges_from d p qs) e
in_bridges_from d p q (x ∷ qs) (there m) e = in_if_rest (is_through d p x) (bridge d p x) (bridge d p q) (bridges_from d p qs) (in_bridges_from d p q qs m e)

pub in_bridges : (d : ℕ) (p q : OrderPair) (ps qs : List OrderPair) → IsIn p ps → IsIn q qs → is_through d p q ≡ true → IsIn (bridge d p q) (bridges d qs ps)
in_bridges d p q [] qs h m e = elim h [ ]
in_bridges d p q (x ∷ ps) qs here m e = in_append_left (bridges d qs ps) (in_bridges_from d p q qs m e)
in_bridges d p q (x ∷ ps) qs (there h) m e = in_append_right (bridges_from d x qs) (in_bridges d p q ps qs h m e)

-- A pair is put from where one begins to where another ends.
pub record IsBridge (d : ℕ) (ps qs : List OrderPair) (r : OrderPair) : Type 0 where
  pub into : OrderPair
  pub out : OrderPair
  pub into_listed : IsIn into ps
  pub out_listed : IsIn out qs
  pub through : is_through d into out ≡ true
  pub same : r ≡ bridge d into out

bridge_or_rest : (d : ℕ) (p q r : OrderPair) (qs : List OrderPair) (b : Bool) → is_through d p q ≡ b → IsIn r (bridge_if b (bridge d p q) (bridges_from d p qs)) →
    ((is_through d p q ≡ true) × (r ≡ bridge d p q)) ⊎ IsIn r (bridges_from d p qs)
bridge_or_rest d p q r qs true e here = inl (e, refl)
bridge_or_rest d p q r qs true e (there m) = inr m
bridge_or_rest d p q r qs false e m = inr m

of_bridges_from : (d : ℕ) (p r : OrderPair) (qs : List OrderPair) → IsIn r (bridges_from d p qs) → IsBridge d (p ∷ []) qs r
of_bridges_from d p r [] m = elim m [ ]
of_bridges_from d p r (q ∷ qs) m = elim (bridge_or_rest d p q r qs (is_through d p q) refl m) as (λ _. IsBridge d (p ∷ []) (q ∷ qs) r) [
  | inl h ↦ record { into = p; out = q; into_listed = here; out_listed = here; through = h.0; same = h.1 }
  | inr h ↦ let b = of_bridges_from d p r qs h in record { into = b.into; out = b.out; into_listed = b.into_listed; out_listed = there b.out_listed; through = b.through; same = b.same }
]

first_of : (p q : OrderPair) (ps : List OrderPair) → IsIn q (p ∷ []) → IsIn q (p ∷ ps)
first_of p q ps here = here
first_of p q ps (there m) = elim m [ ]

pub of_bridges : (d : ℕ) (ps qs : List OrderPair) (r : OrderPair) → IsIn r (bridges d qs ps) → IsBridge d ps qs r
of_bridges d [] qs r m = elim m [ ]
of_bridges d (p ∷ ps) qs r m = elim (in_append (bridges_from d p qs) (bridges d qs ps) m) as (λ _. IsBridge d (p ∷ ps) qs r) [
  | inl h ↦ let b = of_bridges_from d p r qs h in record { into = b.into; out = b.out; into_listed = first_of p b.into ps b.into_listed; out_listed = b.out_listed; through = b.through; same = b.same }
  | inr h ↦ let b = of_bridges d ps qs r h in record { into = b.into; out = b.out; into_listed = there b.into_listed; out_listed = b.out_listed; through = b.through; same = b.same }
]

-- What the test says.
pub record LeadsThrough (d : ℕ) (p q : OrderPair) : Type 0 where
  pub into : p.later.strand ≡ d
  pub out : q.earlier.strand ≡ d
  pub onward : p.later.index ≤ q.earlier.index
  pub apart : p.earlier.strand ≢ q.later.strand

test_says : (a b c e i j d : ℕ) → ((a == d) && (b == d) && nat_le i j && not (c == e)) ≡ true → (a ≡ d) × (b ≡ d) × (i ≤ j) × (c ≢ e)
test_says a b c e i j d h = (grind (arith, nat_tests), grind (arith, nat_tests), grind (arith, nat_tests), λ same. grind (arith, nat_tests))

says_test : (a b c e i j d : ℕ) → a ≡ d → b ≡ d → i ≤ j → c ≢ e → ((a == d) && (b == d) && nat_le i j && not (c == e)) ≡ true
says_test a b c e i j d p q l h = grind (arith, nat_tests)

pub through_says : (d : ℕ) (p q : OrderPair) → is_through d p q ≡ true → LeadsThrough d p q
through_says d p q h = let t = test_says p.later.strand q.earlier.strand p.earlier.strand q.later.strand p.later.index q.earlier.index d h in
    record { into = t.0; out = t.1; onward = t.2; apart = t.3 }

pub says_through : (d : ℕ) (p q : OrderPair) → LeadsThrough d p q → is_through d p q ≡ true
says_through d p q t = says_test p.later.strand q.earlier.strand p.earlier.strand q.later.strand p.later.index q.earlier.index d t.into t.out t.onward t.apart
