use Rattle.std.proofs.Common.{◌+◌, ◌++◌, length, refl, ap, ◌∙◌}
use Rattle.cp_generate.specs.Generated.{protocol_text, problem_text, problem_texts_from, generated_parts, generated_text, part_ends}
use Rattle.cp_generate.proofs.StillToPut.{left, all_left, next_left, lack_as, one_put, all_put}
use Rattle.cp_generate.proofs.generator.generate_pieces.Goals as goal

pub loop-number-init : goal.loop-number-init
loop-number-init c =
    let n = c.args.n in
    let text = c.args.text.now.items in
    let ends = c.args.ends.now.items in
    let whole = text ++ generated_text n in
    let whole_ends = ends ++ part_ends (length text) (generated_parts n) in
    lack_as c.put.new.text.items c.put.new.ends.items whole whole_ends (problem_texts_from 0 n) (left n 0) (all_left n)
    (one_put text ends whole whole_ends protocol_text (problem_texts_from 0 n) c.put.new.text.items c.put.new.ends.items (record { of_text = refl; of_ends = refl }) c.in_ok-put.ensures.text c.in_ok-put.ensures.ends)

pub loop-number-preserved : goal.loop-number-preserved
loop-number-preserved c =
    let n = c.args.n in
    let i = c.loop-number.number in
    let text = c.loop-number.text.items in
    let ends = c.loop-number.ends.items in
    let next = lack_as text ends _ _ (left n i) _ (next_left n i c.loop-number-test.true) c.loop-number.invariant in
    one_put text ends _ _ (problem_text i) (left n (i + 1)) c.put-in-loop-number.new.text.items c.put-in-loop-number.new.ends.items next
    (c.in_ok-put-2.ensures.text ∙ ap (λ t. text ++ t) c.problem.ensures) c.in_ok-put-2.ensures.ends

pub returns-clause-text : goal.returns-clause-text
returns-clause-text c = (all_put c.loop-number.text.items c.loop-number.ends.items _ _ c.args.n c.loop-number.number c.loop-number-test.false c.loop-number.invariant).0

pub returns-clause-ends : goal.returns-clause-ends
returns-clause-ends c = (all_put c.loop-number.text.items c.loop-number.ends.items _ _ c.args.n c.loop-number.number c.loop-number-test.false c.loop-number.invariant).1
