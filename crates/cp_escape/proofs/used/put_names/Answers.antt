use Rattle.std.proofs.lemmas.Result.{on_ok_weaker}
use Rattle.cp_model.specs.Strand.{variables_of_trace}
use Rattle.cp_model.specs.declared.sort.Sort.TheVariants.{Name}
use Rattle.cp_escape.proofs.NewVariables.{two_put}
use Rattle.cp_escape.proofs.used.put_names.Goals as goal

pub returns : goal.returns
returns c =
    on_ok_weaker c.put_new-2.result
    (two_put (variables_of_trace c.args.uses.now) (record { sort = Name; number = c.args.a }) (record { sort = Name; number = c.args.b }) c.args.new.now.items c.put_new.new.new.items c.put_new-2.new.new.items c.in_ok-put_new.ensures)
    c.put_new-2.ensures
