use Rattle.std.proofs.Common.{[], ◌∷◌, ap, ◌∙◌, arith}
use Rattle.std.proofs.lemmas.Result.{on_ok_weaker}
use Rattle.cp_model.specs.Strand.{variables_of_trace}
use Rattle.cp_model.specs.Term.{variables_of}
use Rattle.cp_model.specs.declared.sort.Sort.TheVariants.{Name, Akey}
use Rattle.cp_term.specs.Size.{term_size}
use Rattle.cp_escape.proofs.NewVariables.{all_put, nothing_to_put, left_put, key_put, variables_of_itself}
use Rattle.cp_escape.proofs.used.+put_all_new.Goals as goal

pub loop-id-init : goal.loop-id-init
loop-id-init t c = ((λ new p. p), omega arith)

pub returns-in-Tag : goal.returns-in-Tag
returns-in-Tag t c = nothing_to_put (variables_of_trace c.args.uses.now) (variables_of c.args.term.now) c.args.new.now.items c.loop-id.new.items c.loop-id.rest.now c.loop-id.invariant.0 (ap variables_of c.in-Tag.ensures)

pub returns-in-Variable : goal.returns-in-Variable
returns-in-Variable t c =
    on_ok_weaker c.put_new.result (all_put (variables_of_trace c.args.uses.now) (variables_of c.args.term.now) c.args.new.now.items c.loop-id.new.items c.loop-id.rest.now c.loop-id.invariant.0 (record { sort = c.in-Variable.sort; number = c.in-Variable.id } ∷ []) c.put_new.new.new.items (ap variables_of c.in-Variable.ensures ∙ variables_of_itself c.in-Variable.sort c.in-Variable.id))
    c.put_new.ensures

pub returns-in-Inverse : goal.returns-in-Inverse
returns-in-Inverse t c =
    on_ok_weaker c.put_new-in-Inverse.result (all_put (variables_of_trace c.args.uses.now) (variables_of c.args.term.now) c.args.new.now.items c.loop-id.new.items c.loop-id.rest.now c.loop-id.invariant.0 (record { sort = Akey; number = c.in-Inverse.id } ∷ []) c.put_new-in-Inverse.new.new.items (ap variables_of c.in-Inverse.ensures)) c.put_new-in-Inverse.ensures

pub returns-in-Ltk : goal.returns-in-Ltk
returns-in-Ltk t c =
    on_ok_weaker c.put_names.result
    (all_put (variables_of_trace c.args.uses.now) (variables_of c.args.term.now) c.args.new.now.items c.loop-id.new.items c.loop-id.rest.now c.loop-id.invariant.0 (record { sort = Name; number = c.in-Ltk.a } ∷ record { sort = Name; number = c.in-Ltk.b } ∷ []) c.put_names.new.new.items (ap variables_of c.in-Ltk.ensures))
    c.put_names.ensures

pub returns-in-Pubk : goal.returns-in-Pubk
returns-in-Pubk t c =
    on_ok_weaker c.put_new-in-Pubk.result (all_put (variables_of_trace c.args.uses.now) (variables_of c.args.term.now) c.args.new.now.items c.loop-id.new.items c.loop-id.rest.now c.loop-id.invariant.0 (record { sort = Name; number = c.in-Pubk.name } ∷ []) c.put_new-in-Pubk.new.new.items (ap variables_of c.in-Pubk.ensures)) c.put_new-in-Pubk.ensures

pub loop-id-preserved-in-Pair : goal.loop-id-preserved-in-Pair
loop-id-preserved-in-Pair t c =
    let size = ap term_size c.in-Pair.ensures in (
      left_put (variables_of_trace c.args.uses.now) (variables_of c.args.term.now) c.args.new.now.items c.loop-id.new.items c.loop-id.rest.now c.loop-id.invariant.0 c.in-Pair.left.now c.in-Pair.right.now c.in-Pair.ensures c.put_all_new.new.new.items c.in_ok-put_all_new-in-Pair.ensures,
      omega (arith, size, c.loop-id.invariant.1),
    )

pub loop-id-preserved : goal.loop-id-preserved
loop-id-preserved t c =
    let size = ap term_size c.in-Encryption.ensures.2 in (
      key_put (variables_of_trace c.args.uses.now) (variables_of c.args.term.now) c.args.new.now.items c.loop-id.new.items c.loop-id.rest.now c.loop-id.invariant.0 c.in-Encryption.body.now c.in-Encryption.key.now c.in-Encryption.ensures c.put_all_new-in-Encryption.new.new.items c.in_ok-put_all_new-in-Encryption.ensures,
      omega (arith, size, c.loop-id.invariant.1),
    )
