-- A run makes a bundle.
use Rattle.std.proofs.Common.{◌≡◌, ℕ, ◌<◌, ◌≤◌, List, Some, sym, subst, subst₂, arith}
use Rattle.cp_lists.specs.Lists.{item_at}
use Rattle.cp_model.specs.Message.{Message}
use Rattle.cp_model.specs.Strand.{send, recv, Protocol, Strand}
use Rattle.cp_model.specs.Bundle.{event_at, AreOfProtocol, Bundle, BundleStep, along_strand, along_link, IsListing, IsBundle}
use Rattle.cp_model.specs.declared.node.Node.{Node}
use Rattle.cp_model.specs.Run.{Run, IsRun, IsFirstSender, IsBundleOf}

-- The numbering rises from the first sender of a message to its reception.
link_rises : (r : Run) → IsRun r → (x n : Node) (m : Message) (i j : ℕ) → IsFirstSender r m x → event_at r.strands n ≡ Some (recv m) →
    item_at r.events i ≡ Some x → item_at r.events j ≡ Some n → i < j
link_rises r run x n m i j fs ev at au =
    let earlier = run.sent_before n m j ev au in
    let le : fs.place ≤ earlier.0 = fs.first earlier.0 earlier.1 earlier.3 earlier.4 in
    let lt : earlier.0 < j = earlier.2 in
    let same : i ≡ fs.place = run.listing.once i fs.place x at fs.listed in
    omega arith

step_rises : (r : Run) (b : Bundle) → IsRun r → IsBundleOf r b → {x y : Node} → BundleStep b x y → (i j : ℕ) → item_at r.events i ≡ Some x → item_at r.events j ≡ Some y → i < j
step_rises r b run of (along_strand {s = s} {i = k} ev) i j at au = run.in_order s k i j at au
step_rises r b run of (along_link {n = n} {m = m} ev) i j at au =
    let here' : event_at r.strands n ≡ Some (recv m) = subst (λ (l : List Strand). event_at l n ≡ Some (recv m)) of.strands ev in
    link_rises r run (b.sender n) n m i j (of.first_sender n m here') here' at au

pub bundle_of_run : (protocol : Protocol) (r : Run) (b : Bundle) → IsRun r → IsBundleOf r b → AreOfProtocol protocol r.strands → IsBundle protocol b
bundle_of_run protocol r b run of prot = record {
  of_protocol = subst (AreOfProtocol protocol) (sym of.strands) prot;
  linked = λ n m ev.
      let there' : event_at r.strands n ≡ Some (recv m) = subst (λ (l : List Strand). event_at l n ≡ Some (recv m)) of.strands ev in
      subst (λ (l : List Strand). event_at l (b.sender n) ≡ Some (send m)) (sym of.strands) (of.first_sender n m there').sends;
  listing = subst₂ IsListing (sym of.strands) (sym of.order) run.listing;
  rises = λ x y i j s at au.
      step_rises r b run of s i j (subst (λ (l : List Node). item_at l i ≡ Some x) of.order at) (subst (λ (l : List Node). item_at l j ≡ Some y) of.order au);
}
