use Rattle.std.proofs.Common.{[], ◌∷◌}
use Rattle.cp_base.proofs.Grown.{grows_then}
use Rattle.cp_sexpr.specs.Pieces.{line_feed}
use Rattle.cp_sexpr.specs.Spelling.{top_text}
use Rattle.cp_sexpr.specs.View.{view}
use Rattle.cp_sexpr.proofs.GrownText.{all_put_back, front_put_back}
use Rattle.cp_sexpr.proofs.writer.write_top.Goals as goal

pub returns-clause-ok : goal.returns-clause-ok
returns-clause-ok c =
    let grown = grows_then c.taken-text.result c.append_top_text.new.out c.push.new.self (top_text (view c.args.form.now)) (line_feed ∷ []) c.append_top_text.ensures c.push.ensures in
    all_put_back c.put_back.result _ _ _ c.taken-text.result c.push.new.self c.taken-text.ensures grown c.put_back.ensures.items c.put_back.ensures.ok

pub returns-clause-err : goal.returns-clause-err
returns-clause-err c =
    let grown = grows_then c.taken-text.result c.append_top_text.new.out c.push.new.self (top_text (view c.args.form.now)) (line_feed ∷ []) c.append_top_text.ensures c.push.ensures in
    front_put_back c.put_back.result _ _ _ c.taken-text.result c.push.new.self c.taken-text.ensures grown c.put_back.ensures.items
