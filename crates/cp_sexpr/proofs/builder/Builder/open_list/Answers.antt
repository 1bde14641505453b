use Rattle.std.proofs.Common.{refl, ap, ◌∙◌, arith}
use Rattle.cp_sexpr.specs.View.{views}
use Rattle.cp_sexpr.proofs.Stacks.{opened_is, length-open}
use Rattle.cp_sexpr.proofs.builder.Builder.open_list.Goals as goal

pub returns-then-len-ge-MAX_DEPTH-clause-refused : goal.returns-then-len-ge-MAX_DEPTH-clause-refused
returns-then-len-ge-MAX_DEPTH-clause-refused c =
    let open_now = length-open c.args.self.now.lists.items in
    let len = c.args.self.now.lists.ok.0 in
    ((omega (arith, open_now, len), refl), refl)

pub returns-clause-ok : goal.returns-clause-ok
returns-clause-ok c =
    opened_is c.args.self.now.lists.items c.push.new.self.items (record { place = c.args.place; before = c.replace-before.result }) (views c.replace-before.new.dest.items) (views c.args.self.now.items.items)
    c.in_ok-push.ensures.items (ap (λ v. views v.items) c.replace-before.ensures.value)
    (ap (λ v. views v.items) c.replace-before.ensures.after ∙ ap views c.new.ensures.items)

pub returns-clause-accepted : goal.returns-clause-accepted
returns-clause-accepted c code r =
    let open_now = length-open c.args.self.now.lists.items in
    let len = c.args.self.now.lists.ok.0 in
    omega (arith, open_now, len, r.0)
