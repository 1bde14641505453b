use Rattle.cp_sexpr.proofs.GrownText.{all_put_back, front_put_back}
use Rattle.cp_sexpr.proofs.writer.write.Goals as goal

pub returns-clause-ok : goal.returns-clause-ok
returns-clause-ok c = all_put_back c.put_back.result _ _ _ c.taken-text.result c.append_form.new.out c.taken-text.ensures c.append_form.ensures c.put_back.ensures.items c.put_back.ensures.ok

pub returns-clause-err : goal.returns-clause-err
returns-clause-err c = front_put_back c.put_back.result _ _ _ c.taken-text.result c.append_form.new.out c.taken-text.ensures c.append_form.ensures c.put_back.ensures.items
