use Rattle.std.proofs.Common.{rules}
use Rattle.std.proofs.lemmas.List.Sorted.{IsPartitionPoint-from_clause}
use Rattle.cp_model.specs.Strand.{variables_of_trace}
use Rattle.cp_escape.specs.UsedVariables.{variable_before}
use Rattle.cp_escape.proofs.NewVariables.{partitioned, found_there, found_used, put_now}
use Rattle.cp_escape.proofs.used.put_new.Goals as goal
use Rattle.cp_escape.proofs.used.put_new.Goals.{then-has_variable-via-then-has_variable, then-has_variable-via-else-has_variable+then-occurs}

pub returns-then-has_variable : goal.returns-then-has_variable
returns-then-has_variable c =
    elim c.then-has_variable.branch [
      | then-has_variable-via-then-has_variable w ↦ found_there (variables_of_trace c.args.uses.now) c.args.new.now.items c.deref.result.now c.args.sort c.args.id c.number.result c.number.ensures c.deref.ensures.value
          c.has_variable.result c.has_variable.ensures w.if-has_variable.true
      | then-has_variable-via-else-has_variable+then-occurs w ↦ found_used (variables_of_trace c.args.uses.now) c.args.new.now.items c.deref.result.now c.args.sort c.args.id c.number.result c.number.ensures c.deref.ensures.value
          c.has_variable.result c.has_variable.ensures w.occurs.result w.occurs.ensures w.if-occurs.true
    ]

pub returns : goal.returns
returns c =
    put_now (variables_of_trace c.args.uses.now) c.args.new.now.items c.deref.result.now c.args.sort c.args.id c.number.result c.number.ensures c.deref.ensures.value c.has_variable.result c.has_variable.ensures
    c.occurs.result c.occurs.ensures c.if-has_variable.false c.if-occurs.false c.deref-2.result.now c.deref-2.ensures.value c.partition_point-place.result c.partition_point-place.ensures.bound
    (λ r. IsPartitionPoint-from_clause (λ y. variable_before y (record { sort = c.args.sort; number = c.number.result })) _ _ c.partition_point-place.ensures.partitioned
    (partitioned (record { sort = c.args.sort; number = c.number.result }) c.deref-2.result.now r) (λ a q f k. search rules))
    c.insert.new.self.items c.in_ok-insert.ensures.items
