use Rattle.std.proofs.Common.{rules, false, ◌≡◌, ◌≤◌, [], ◌∷◌, ◌++◌, codes, sym, ap, ◌∙◌, arith, refl}
use Rattle.cp_base.proofs.Grown.{grows_by_none}
use Rattle.cp_language.specs.Printed.{no_place, atom_form, spine}
use Rattle.cp_sexpr.specs.Pieces.{space, close_parenthesis}
use Rattle.cp_sexpr.specs.Spelling.{spelling, next_spelling}
use Rattle.cp_sexpr.specs.Syntax.{string, none, more}
use Rattle.cp_strand.specs.Atoms.{atom_of}
use Rattle.cp_term.specs.Size.{term_size}
use Rattle.cp_print.specs.Named.{named_in}
use Rattle.cp_print.specs.Spelled.{item_text}
use Rattle.cp_print.proofs.SpelledItems.{then, same_text}
use Rattle.cp_print.proofs.Spines.{part_more, part_last, part_is, cat_is, encryption_of, encryption_is, encryption_made}
use Rattle.cp_print.proofs.terms.+spine.Goals as goal

pub put_spine-loop-left-init : goal.put_spine-loop-left-init
put_spine-loop-left-init t c = (([], grows_by_none c.args.out.now, refl), omega arith)

pub put_spine-loop-left-preserved : goal.put_spine-loop-left-preserved
put_spine-loop-left-preserved t c =
    let l = c.loop-left in
    let here = ap term_size c.in-Pair.ensures in
    let before = l.invariant.1 in
    let smaller : term_size c.in-Pair.right.now ≤ term_size c.args.term.now = omega (arith, here, before) in
    (part_more (named_in c.args.naming.now) l.rest.now c.args.term.now l.invariant.0 c.in-Pair.left.now c.in-Pair.right.now c.in-Pair.ensures c.put_term.ensures, smaller)

pub put_spine-returns-in-Encryption : goal.put_spine-returns-in-Encryption
put_spine-returns-in-Encryption t c =
    let named = named_in c.args.naming.now in
    let l = c.loop-left in
    let k = c.in-Encryption.ensures in
    let body = c.in-Encryption.body.now in
    let key = atom_form named (atom_of c.in-Encryption.key.now) in
    part_last named l.rest.now c.args.term.now l.invariant.0 (encryption_of named body key) (encryption_is named l.rest.now body c.in-Encryption.key.now k.0 k.2 k.1)
    (encryption_made named body key c.append.ensures c.put_spine.ensures c.push.ensures c.put_atom.ensures c.push-in-Encryption.ensures)

pub put_spine-returns-in-Tag : goal.put_spine-returns-in-Tag
put_spine-returns-in-Tag t c =
    let named = named_in c.args.naming.now in
    let l = c.loop-left in
    part_last named l.rest.now c.args.term.now l.invariant.0 (string no_place c.in-Tag.text.now) (ap (spine named) c.in-Tag.ensures) c.put_quoted.ensures

pub put_spine-returns-in-Variable : goal.put_spine-returns-in-Variable
put_spine-returns-in-Variable t c =
    let named = named_in c.args.naming.now in
    let l = c.loop-left in
    let form = atom_form named (atom_of l.rest.now) in
    let is : spine named l.rest.now ≡ more form none = search rules in
    part_last named l.rest.now c.args.term.now l.invariant.0 form is (then (space ∷ []) (spelling form) c.push-in-Variable.ensures c.put_atom-in-Variable.ensures)

pub put_term-returns-then-not-is_pair : goal.put_term-returns-then-not-is_pair
put_term-returns-then-not-is_pair t c = same_text (part_is (named_in c.args.naming.now) c.args.term.now (sym c.is_pair.ensures ∙ c.if-not-is_pair.true)) c.put_spine.ensures

pub put_term-returns : goal.put_term-returns
put_term-returns t c =
    let named = named_in c.args.naming.now in
    let parts = next_spelling (spine named c.args.term.now) in
    same_text (ap (item_text false) (sym (cat_is named c.args.term.now (sym c.is_pair.ensures ∙ c.if-not-is_pair.false))))
    (then (codes " (cat" ++ parts) (close_parenthesis ∷ []) (then (codes " (cat") parts c.append.ensures c.put_spine-2.ensures) c.push.ensures)
