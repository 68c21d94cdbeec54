use Rattle.std.proofs.Common.{◌≡◌, ◌^◌, ◌≤◌, [], ◌++◌, length, take, ap, ◌∙◌, arith}
use Rattle.std.proofs.Math.Nat.{pow-le-pow_right}
use Rattle.std.proofs.Math.Seq.{take-length}
use Rattle.std.proofs.lemmas.List.{append-nil}
use Rattle.std.proofs.lemmas.Int.Digits.{digits_value-lt}
use Rattle.std.specs.Str.Parse.{digits_value}
use Rattle.box_import.proofs.number.power_of.Goals as goal

pub returns-clause-value : goal.returns-clause-value
returns-clause-value c =
    let digits = c.args.digits.now in
    let all : take (length digits) (digits ++ []) ≡ digits
    = ap (take (length digits)) (append-nil digits) ∙ take-length digits in
    let value = ap (digits_value 10) all in
    let small = digits_value-lt 10 digits c.requires.digits in
    let tens : 10 ^ length digits ≤ 10 ^ 3 = pow-le-pow_right (omega arith) c.requires.short in
    omega (arith, value, small, tens, c.first_digits.ensures)

pub returns-clause-small : goal.returns-clause-small
returns-clause-small c =
    let digits = c.args.digits.now in
    let value = returns-clause-value c in
    let small = digits_value-lt 10 digits c.requires.digits in
    let tens : 10 ^ length digits ≤ 10 ^ 3 = pow-le-pow_right (omega arith) c.requires.short in
    omega (arith, value, small, tens)
