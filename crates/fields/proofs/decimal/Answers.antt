-- `fields::decimal` meets its contract: what overflows on the way is no number. Assumes nothing.
use Rattle.std.proofs.Common.{◌≤◌, get_or, arith, rules}
use Rattle.fields.proofs.Decimals.{too_large}
use Rattle.fields.proofs.decimal.Goals as goal

pub loop-byte-preserved : goal.loop-byte-preserved
loop-byte-preserved c =
    let digit : get_or c.args.field.now c.loop-byte.byte-index 0 ≤ 57 = omega (arith, c.in_ok-digit.ensures.cases, c.in_ok-digit.ensures.value) in
    search rules

pub returns-in_err-checked_mul : goal.returns-in_err-checked_mul
returns-in_err-checked_mul c =
    let m = c.in_err-checked_mul.ensures in
    let t = too_large c.loop-byte.invariant (omega arith) (omega arith) in
    search rules

pub returns-in_err-value : goal.returns-in_err-value
returns-in_err-value c =
    let m = c.in_err-value.ensures in
    let d = c.in_ok-digit.ensures.cases in
    let v = c.in_ok-digit.ensures.value in
    let t = too_large c.loop-byte.invariant (omega arith) (omega (arith, d, v, m)) in
    search rules
