use Rattle.std.proofs.Common.{◌+◌, get_or, arith}
use Rattle.lrc_lex.proofs.DecimalLemmas.{digit_range, natural_value_more, natural_value_take_le}
use Rattle.lrc_lex.proofs.decimal.value_of.Goals as goal

-- the value of the digits so far and one more is too great already
pub returns-then-value-limit : goal.returns-then-value-limit
returns-then-value-limit c =
    let digits = c.args.digits.now in
    let i = c.loop-byte.byte-index in
    omega (arith, c.from-digit.ensures, digit_range (get_or digits i 0) (c.requires.digits i 0 c.loop-byte-test.true), natural_value_more digits i c.loop-byte-test.true, natural_value_take_le digits (i + 1))
