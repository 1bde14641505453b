-- The events gone through from behind, and what is picked of them.
use Rattle.std.proofs.Common.{ℕ, ◌<◌, ◌≤◌, List, [], ◌++◌, length, take, drop, reverse, ◌≡◌, arith, refl, sym, subst, ap, ◌∙◌, append_assoc}
use Rattle.std.proofs.lemmas.List.{append-nil, length-take-le, reverse-append, reverse-reverse, take-append-drop, take-take, take_all}
use Rattle.cp_lists.proofs.Members.{in_append_left, in_append_right}
use Rattle.cp_lists.specs.Lists.{IsIn}
use Rattle.cp_model.specs.declared.node.Node.{Node}
use Rattle.cp_model.specs.Skeleton.{Skeleton}
use Rattle.cp_skel.specs.Events.{LocatedEvent, events_of}
use Rattle.cp_derive.specs.Picked.{AreEventsAmong, Picks, no_more}
use Rattle.cp_derive.specs.Unrealised.{ListsUnrealised}
use Rattle.cp_derive.proofs.PickedReceptions.{lists_unrealised, picked_both}

-- The first events are those that are left, and end with those of a strand.
pub left_length : (all left : List LocatedEvent) (end : ℕ) → left ≡ take end all → end ≤ length all → length left ≡ end
left_length all left end is within = ap length is ∙ length-take-le end all within

pub start_within : (all left : List LocatedEvent) (end start : ℕ) → left ≡ take end all → start < length left → end ≤ length all → start ≤ length all
start_within all left end start is less within = let l : length left ≡ end = left_length all left end is within in omega (arith, less, within)

start_of_start : (all left before : List LocatedEvent) (end start : ℕ) → left ≡ take end all → before ≡ take start left → start < length left → end ≤ length all → before ≡ take start all
start_of_start all left before end start l b less within =
    let n : length left ≡ end = left_length all left end l within in
    let smaller : start ≤ end = omega (arith, less) in
    b ∙ ap (take start) l ∙ take-take start end all smaller

module _ (k : Skeleton) (all : List LocatedEvent) (end start : ℕ) (left before on : List LocatedEvent) (is_left : left ≡ take end all) where
  pub on_among : left ≡ before ++ on → all ≡ events_of k → AreEventsAmong on (events_of k)
  on_among split listed o i =
      let among : IsIn o (take end all) = subst (IsIn o) is_left (subst (IsIn o) (sym split) (in_append_right before i)) in
      subst (IsIn o) listed (subst (IsIn o) (take-append-drop end all) (in_append_left (drop end all) among))

  pub picked_in_front : before ≡ take start left → left ≡ before ++ on → start < length left → end ≤ length all → (nodes more turned new : List Node) → Picks k on more →
      turned ≡ reverse more → new ≡ nodes ++ turned →
      ((ns : List Node) → Picks k (take end all) ns → Picks k all (ns ++ reverse nodes)) → (ns : List Node) →
      Picks k (take start all) ns → Picks k all (ns ++ reverse new)
  picked_in_front is_before split less within nodes more turned new p t n so_far ns h =
      let back : reverse new ≡ more ++ reverse nodes =
      ap reverse n ∙ reverse-append nodes turned ∙ ap (λ xs. xs ++ reverse nodes) (ap reverse t ∙ reverse-reverse more) in
      let whole : (ns ++ more) ++ reverse nodes ≡ ns ++ reverse new = append_assoc ns more (reverse nodes) ∙ ap (λ xs. ns ++ xs) (sym back) in
      let there : Picks k before ns = subst (λ os. Picks k os ns) (sym (start_of_start all left before end start is_left is_before less within)) h in
      subst (Picks k all) whole
      (so_far (ns ++ more) (subst (λ os. Picks k os (ns ++ more)) (sym split ∙ is_left) (picked_both k before on ns more there p)))

-- The events of a range are among those of the skeleton.
pub range_among : (k : Skeleton) (all left on : List LocatedEvent) (start end : ℕ) → all ≡ events_of k → left ≡ take end all → on ≡ drop start left → AreEventsAmong on (events_of k)
range_among k all left on start end listed l o =
    on_among k all end start left (take start left) on l (sym (take-append-drop start left) ∙ ap (λ xs. take start left ++ xs) (sym o)) listed

-- What is picked of a range, put in front.
pub picked_between : (k l : Skeleton) (all left : List LocatedEvent) (end start : ℕ) → left ≡ take end all → all ≡ events_of k → l ≡ k → start < length left → end ≤ length all →
    (nodes more turned new : List Node) → Picks l (drop start (take end (events_of l))) more → turned ≡ reverse more → new ≡ nodes ++ turned →
    ((ns : List Node) → Picks k (take end all) ns → Picks k all (ns ++ reverse nodes)) → (ns : List Node) → Picks k (take start all) ns → Picks k all (ns ++ reverse new)
picked_between k l all left end start is_left listed same less within nodes more turned new p =
    let on : Picks k (drop start (take end (events_of k))) more = subst (λ (x : Skeleton). Picks x (drop start (take end (events_of x))) more) same p in
    let among : take end (events_of k) ≡ left = ap (take end) (sym listed) ∙ sym is_left in
    picked_in_front k all end start left (take start left) (drop start left) is_left refl (sym (take-append-drop start left)) less within nodes more turned new
    (subst (λ xs. Picks k (drop start xs) more) among on)

-- All are left.
pub whole_picked : (k : Skeleton) (all : List LocatedEvent) (end : ℕ) (nodes : List Node) → end ≡ length all → nodes ≡ [] → (ns : List Node) → Picks k (take end all) ns → Picks k all (ns ++ reverse nodes)
whole_picked k all end nodes is none ns h =
    subst (Picks k all) (sym (ap (λ xs. ns ++ reverse xs) none ∙ append-nil ns)) (subst (λ os. Picks k os ns) (ap (λ n. take n all) is ∙ take_all (length all) all (omega arith)) h)

-- None is left.
pub all_gone_through : (k : Skeleton) (all : List LocatedEvent) (end : ℕ) (nodes turned : List Node) → end ≡ 0 → all ≡ events_of k → turned ≡ reverse nodes →
    ((ns : List Node) → Picks k (take end all) ns → Picks k all (ns ++ reverse nodes)) → ListsUnrealised k turned
all_gone_through k all end nodes turned none listed t so_far =
    lists_unrealised k turned
    (subst (λ os. Picks k os turned) listed
    (subst (Picks k all) (sym t) (so_far [] (subst (λ n. Picks k (take n all) []) (sym none) no_more))))
