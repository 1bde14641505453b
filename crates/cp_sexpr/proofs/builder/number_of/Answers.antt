use Rattle.std.proofs.Common.{◌<◌, length, get_or, arith, below_more}
use Rattle.cp_sexpr.specs.Written.{IsDigit}
use Rattle.cp_sexpr.proofs.Numbers.{value_small, value_more, value_all}
use Rattle.cp_sexpr.proofs.Runs.{all_of_kind}
use Rattle.cp_sexpr.proofs.builder.number_of.Goals as goal

pub overflow_mul-number : goal.overflow_mul-number
overflow_mul-number c =
    let l = c.loop-byte in
    let small = value_small c.args.digits.now l.byte-index (omega arith) (omega arith) l.invariant.digits in
    omega (arith, small)

pub overflow_add-number : goal.overflow_add-number
overflow_add-number c =
    let l = c.loop-byte in
    let small = value_small c.args.digits.now l.byte-index (omega arith) (omega arith) l.invariant.digits in
    omega (arith, small)

pub loop-byte-preserved : goal.loop-byte-preserved
loop-byte-preserved c =
    let l = c.loop-byte in
    let digit : IsDigit (get_or c.args.digits.now l.byte-index 0) = grind arith in
    record {
      digits = below_more _ _ l.invariant.digits digit;
      value = value_more c.args.digits.now l.byte-index l.number c.from.result (omega arith) digit l.invariant.value (grind arith);
    }

pub returns-clause-number : goal.returns-clause-number
returns-clause-number c =
    let l = c.loop-byte in
    let not_empty : 0 < length c.args.digits.now = grind arith in
    let all = all_of_kind IsDigit c.args.digits.now (λ k h. l.invariant.digits k (omega arith)) in
    ((not_empty, omega arith, all), value_all c.args.digits.now l.byte-index l.number (omega arith) l.invariant.value)
