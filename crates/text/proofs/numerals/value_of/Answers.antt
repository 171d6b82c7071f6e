use Rattle.std.proofs.Common.{◌+◌, ◌-◌, ◌*◌, ◌<◌, ◌≡◌, drop, get_or, ap, arith}
use Rattle.std.proofs.lemmas.Grind.{common_steps}
use Rattle.std.proofs.lemmas.List.{drop_all}
use Rattle.std.proofs.lemmas.Bool.Decides.{nat_tests}
use Rattle.text.specs.Numerals.{worth_from}
use Rattle.text.proofs.Digits.{too_large}
use Rattle.text.proofs.numerals.value_of.Goals as goal

pub returns-in_err-value : goal.returns-in_err-value
returns-in_err-value c =
    let past : 65535 < c.loop-byte.value * 10 + (get_or c.args.part.now c.loop-byte.byte-index 0 - 48) = grind (arith, common_steps) in
    let e = too_large c.loop-byte.value _ c.args.part.now c.loop-byte.byte-index (omega arith) past c.loop-byte.invariant.worth in
    grind (arith, common_steps)

pub returns : goal.returns
returns c =
    let e : worth_from c.loop-byte.value (drop c.loop-byte.byte-index c.args.part.now) ≡ c.loop-byte.value = ap (worth_from c.loop-byte.value) (drop_all c.loop-byte.byte-index c.args.part.now (omega arith)) in
    let i = c.loop-byte.invariant.worth in
    grind (arith, nat_tests)
