use Rattle.cp_scope.proofs.DeclaredIdentifiers.{declarations-taken, all-declared-taken}
use Rattle.cp_scope.proofs.declarations.declarations.Goals as goal

pub loop-item-preserved : goal.loop-item-preserved
loop-item-preserved c =
    let ds = c.loop-item.variables in
    let es = c.declaration.new.variables in (
      declarations-taken c.args.items.now c.loop-item.item-index c.item-item.result c.loop-item-test.true c.item-item.is ds es
          c.loop-item.first c.declaration.new.first _ c.in_ok-declaration.ensures.declared c.in_ok-declaration.ensures.faults c.loop-item.invariant.0,
      all-declared-taken c.args.items.now c.loop-item.item-index c.item-item.result c.loop-item-test.true c.item-item.is ds es _ c.in_ok-declaration.ensures.declared c.loop-item.invariant.1,
    )
