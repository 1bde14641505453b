use Rattle.std.proofs.Common.{◌≡◌, ◌<◌, ◌-◌, ◌^◌, ℕ, List, length, get_or, sym, ap₂, ◌∙◌, subst, subst₂, arith}
use Rattle.std.proofs.lemmas.List.{take_at}
use Rattle.cp_model.specs.declared.node.OrderPair.{OrderPair}
use Rattle.cp_fingerprint.specs.ChainTable.{starts_from, EndWithin, Settles, weights_from}
use Rattle.cp_fingerprint.proofs.ChainWeights.{table_fits, all_zeros, settled_chains}
use Rattle.cp_fingerprint.proofs.chains.chains_of.Goals as goal

pub settle-requires : goal.settle-requires
settle-requires c =
    let k = c.args.k.now in
    let count : c.number_at.result ≡ get_or (starts_from 0 k.strands) (length k.strands) 0 = cc (c.in_ok-starts.ensures) in
    let small : c.number_at.result < 2 ^ 64 - 1 = omega (arith, c.in_ok-resize.ensures.len, c.resize.new.self.ok.1, c.resize.new.self.small) in
    let long : c.number_at.result ≡ length c.deref_mut.result.now = omega (arith, c.in_ok-resize.ensures.len, c.deref_mut.ensures.len) in
    let starts : c.deref-2.result.now ≡ starts_from 0 k.strands = cc (c.in_ok-starts.ensures) in
    let pairs : c.pairs.result.now ≡ k.pairs = c.pairs.ensures ∙ c.order.ensures in
    let fits = subst (λ (n : ℕ). EndWithin n (starts_from 0 k.strands) k.pairs) long (table_fits k c.is_sound.ensures c.number_at.result small count) in
    record { within = subst₂ (λ (ss : List ℕ) (ps : List OrderPair). EndWithin (length c.deref_mut.result.now) ss ps) (sym starts) (sym pairs) fits }

pub returns : goal.returns
returns c =
    let long : length c.settle.new.weights ≡ c.resize.new.self.len = c.settle.ensures.risen.count ∙ c.deref_mut.ensures.len in
    let written : c.deref-3.result.now ≡ c.settle.new.weights = c.deref-3.ensures.value ∙ take_at c.settle.new.weights _ c.resize.new.self.len long in
    let k = c.args.k.now in
    let starts : c.deref-2.result.now ≡ starts_from 0 k.strands = cc (c.in_ok-starts.ensures) in
    let pairs : c.pairs.result.now ≡ k.pairs = c.pairs.ensures ∙ c.order.ensures in
    let settled = subst₂ (λ (ss : List ℕ) (ps : List OrderPair). Settles ss ps c.deref_mut.result.now c.settle.new.weights) starts pairs c.settle.ensures in
    let zeros = all_zeros c.number_at.result _ c.new-weights.result.items c.deref_mut.result.now c.new-weights.ensures.items (c.deref_mut.ensures.value ∙ c.in_ok-resize.ensures.items) in
    let count : c.number_at.result ≡ get_or (starts_from 0 k.strands) (length k.strands) 0 = cc (c.in_ok-starts.ensures) in
    let small : c.number_at.result < 2 ^ 64 - 1 = omega (arith, c.in_ok-resize.ensures.len, c.resize.new.self.ok.1, c.resize.new.self.small) in
    let sum : c.weights_from.result ≡ weights_from c.settle.new.weights 0 0 k.strands = c.weights_from.ensures ∙ ap₂ (λ ws ss. weights_from ws 0 0 ss) written c.strands-3.ensures in
    record { exact = sum ∙ settled_chains k c.is_sound.ensures c.number_at.result small count c.deref_mut.result.now c.settle.new.weights zeros settled }
