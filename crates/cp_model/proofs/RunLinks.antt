-- The bundle that a run of the program makes, and the run along a bundle.
use Rattle.std.proofs.Common.{◌≡◌, ℕ, zero, suc, ◌<◌, List, [], ◌∷◌, Option, Some, None, map, refl, sym, ap, ◌∙◌, subst}
use Rattle.std.specs.Option.{option_and_then, unwrap_or}
use Rattle.cp_lists.specs.Lists.{item_at}
use Rattle.cp_model.specs.Message.{Message}
use Rattle.cp_model.specs.Strand.{Event, send, recv, Protocol, Strand, trace_of}
use Rattle.cp_model.specs.Bundle.{node_at, trace_or_none, event_at, AreOfProtocol, Bundle, along_strand, along_link, IsBundle}
use Rattle.cp_model.specs.declared.node.Node.{Node}
use Rattle.cp_model.specs.Run.{Run, IsRun, IsFirstSender, IsBundleOf}
use Rattle.cp_model.specs.RunView.{trace_view, items_or_none, event_in, link_in, if_reception, StandsForRun, StandsForBundle, run_along, row_view}
use Rattle.cp_model.specs.Senders.{IsFirst, ArePaired, Sends, IsSenderOf, AreSendersOf}
use Rattle.cp_model.specs.declared.node.Node as program_node
use Rattle.cp_model.specs.declared.strand.Strand as program_strand
use Rattle.cp_model.specs.declared.bundle.Run as program_run
use Rattle.cp_model.specs.declared.bundle.Bundle as program_bundle
use Rattle.cp_lists.proofs.Items.{at_place, place_of}
use Rattle.cp_model.proofs.LawRuns.{bundle_of_run}
use Rattle.cp_model.proofs.Paired.{paired_item, first_found, FirstPlace, first_place}

pub trace_there : (plain : List Strand) (s : ℕ) → trace_or_none (item_at plain s) ≡ items_or_none (item_at (map trace_of plain) s)
trace_there [] s = refl
trace_there (p ∷ plain) zero = refl
trace_there (p ∷ plain) (suc s) = trace_there plain s

-- At each node of the plain strands stands the event of their traces.
pub same_event : (plain : List Strand) (traces : List (List (Event Message))) → map trace_of plain ≡ traces → (n : Node) → event_at plain n ≡ event_in traces n
same_event plain traces e n = ap (λ t. item_at t n.index) (trace_there plain n.strand) ∙ ap (λ ts. event_in ts n) e

link_there : (rows : List (List (Option Node))) (n : Node) (row : List (Option Node)) (o : Option Node) → item_at rows n.strand ≡ Some row → item_at row n.index ≡ Some o → link_in rows n ≡ o
link_there rows n row o e f =
    ap (λ (r : Option (List (Option Node))). option_and_then (λ o. o) (item_at (items_or_none r) n.index)) e
    ∙ ap (λ (r : Option (Option Node)). option_and_then (λ o. o) r) f

module _ (traces : List (List (Event Message))) (nodes : List Node) (rows : List (List (Option Node))) (paired : ArePaired (AreSendersOf traces nodes) traces rows) where
  link_on : (n : Node) (m : Message) (t : Option (List (Event Message))) → item_at traces n.strand ≡ t → item_at (items_or_none t) n.index ≡ Some (recv m) → IsFirst (Sends traces m) nodes (link_in rows n)
  link_on n m None e ev = absurd (cc)
  link_on n m (Some t) e ev =
      let row = paired_item (AreSendersOf traces nodes) traces rows paired n.strand t e in
      let sender = paired_item (IsSenderOf traces nodes) t row.0 row.2 n.index (recv m) ev in
      subst (IsFirst (Sends traces m) nodes) (sym (link_there rows n row.0 sender.0 row.1 sender.1)) sender.2

  -- A reception is linked to the first of the nodes that sends its message.
  pub link_is_first : (n : Node) (m : Message) → event_in traces n ≡ Some (recv m) → IsFirst (Sends traces m) nodes (link_in rows n)
  link_is_first n m ev = link_on n m (item_at traces n.strand) refl ev

  module _ (r : Run) (same : map trace_of r.strands ≡ traces) (events : r.events ≡ nodes) (run : IsRun r) where
    abbrev pub sender : Node → Node
    sender n = unwrap_or (link_in rows n) n

    link_found : (n : Node) (m : Message) → event_at r.strands n ≡ Some (recv m) → (x : Node) × (link_in rows n ≡ Some x)
    link_found n m ev =
        let place = place_of (run.listing.each n (recv m) ev) in
        let before = run.sent_before n m place.0 ev place.1 in
        first_found (Sends traces m) nodes (link_in rows n) (link_is_first n m (sym (same_event r.strands traces same n) ∙ ev))
        before.0 before.1 (subst (λ (ns : List Node). item_at ns before.0 ≡ Some before.1) events before.3) (sym (same_event r.strands traces same before.1) ∙ before.4)

    sender_of_first : (m : Message) (x : Node) → FirstPlace (Sends traces m) nodes x → IsFirstSender r m x
    sender_of_first m x f = record {
      sends = same_event r.strands traces same x ∙ f.is_so;
      place = f.place;
      listed = subst (λ (ns : List Node). item_at ns f.place ≡ Some x) (sym events) f.listed;
      first = λ j y at ev. f.first j y (subst (λ (ns : List Node). item_at ns j ≡ Some y) events at) (sym (same_event r.strands traces same y) ∙ ev);
    }

    pub link_is_sender : (n : Node) (m : Message) → event_at r.strands n ≡ Some (recv m) → link_in rows n ≡ Some (sender n)
    link_is_sender n m ev = let x = link_found n m ev in x.1 ∙ ap Some (sym (ap (λ (o : Option Node). unwrap_or o n) x.1))

    pub sender_is_first : (n : Node) (m : Message) → event_at r.strands n ≡ Some (recv m) → IsFirstSender r m (sender n)
    sender_is_first n m ev =
        sender_of_first m (sender n) (first_place (Sends traces m) nodes (sender n)
        (subst (IsFirst (Sends traces m) nodes) (link_is_sender n m ev) (link_is_first n m (sym (same_event r.strands traces same n) ∙ ev))))

-- The bundle of a run of the program.
pub makes_bundle : (run : program_run.Run) (b : program_bundle.Bundle) (ss : List program_strand.Strand) (ns : List program_node.Node) → ss ≡ run.strands.items → ns ≡ run.events.items →
    ArePaired (AreSendersOf (map trace_view ss) ns) (map trace_view ss) (map row_view b.senders.items) →
    map trace_view b.strands.items ≡ map trace_view run.strands.items → b.order.items ≡ run.events.items →
    (r : Run) → StandsForRun run r → IsRun r → (p : Bundle) × StandsForBundle b p × IsBundleOf r p × ((protocol : Protocol) → AreOfProtocol protocol r.strands → IsBundle protocol p)
makes_bundle run b ss ns s n paired strands order r stands is =
    let traces = map trace_view ss in
    let nodes = ns in
    let rows = map row_view b.senders.items in
    let same : map trace_of r.strands ≡ traces = stands.strands ∙ ap (map trace_view) (sym s) in
    let events : r.events ≡ nodes = stands.events ∙ (sym n) in
    let own : map trace_of r.strands ≡ map trace_view b.strands.items = stands.strands ∙ sym strands in
    let p : Bundle = record { strands = r.strands; sender = sender traces nodes rows paired r same events is; order = r.events } in
    let of : IsBundleOf r p = record { strands = refl; order = refl; first_sender = sender_is_first traces nodes rows paired r same events is } in (
      p,
      record {
        strands = own;
        senders = λ x m ev.
            ap (λ o. if_reception o (link_in rows x)) (sym (same_event r.strands (map trace_view b.strands.items) own x) ∙ ev)
            ∙ link_is_sender traces nodes rows paired r same events is x m ev;
        order = stands.events ∙ (sym order);
      },
      of,
      λ protocol kept. bundle_of_run protocol r p is of kept,
    )

-- A bundle has a run.
run_of_bundle : (protocol : Protocol) (b : Bundle) → IsBundle protocol b → IsRun (run_along b)
run_of_bundle protocol b is = record { listing = is.listing; in_order = in_order; sent_before = sent_before }
  where
    in_order : (s i j k : ℕ) → item_at b.order j ≡ Some (node_at s i) → item_at b.order k ≡ Some (node_at s (suc i)) → j < k
    in_order s i j k at au =
        let ev = is.listing.only (node_at s (suc i)) (at_place b.order k (node_at s (suc i)) au) in
        is.rises (node_at s i) (node_at s (suc i)) j k (along_strand ev.1) at au

    sent_before : (n : Node) (m : Message) (k : ℕ) → event_at b.strands n ≡ Some (recv m) → item_at b.order k ≡ Some n →
        (j : ℕ) × (x : Node) × (j < k) × (item_at b.order j ≡ Some x) × (event_at b.strands x ≡ Some (send m))
    sent_before n m k ev at =
        let sent = is.linked n m ev in
        let place = place_of (is.listing.each (b.sender n) (send m) sent) in
        (place.0, b.sender n, is.rises (b.sender n) n place.0 k (along_link ev) place.1 at, place.1, sent)

-- The run of the program along a bundle stands for the run along it, which is one.
pub makes_run : (b : program_bundle.Bundle) (r : program_run.Run) → map trace_view r.strands.items ≡ map trace_view b.strands.items → r.events.items ≡ b.order.items →
    (protocol : Protocol) (p : Bundle) → StandsForBundle b p → IsBundle protocol p → StandsForRun r (run_along p) × IsRun (run_along p)
makes_run b r strands events protocol p stands is =
    (record { strands = stands.strands ∙ sym strands; events = stands.order ∙ (sym events) }, run_of_bundle protocol p is)
