use Rattle.std.proofs.Common.{sym, arith}
use Rattle.std.proofs.lemmas.Bool.Decides.{nat_tests}
use Rattle.game.proofs.Below.{bit_past}
use Rattle.game.proofs.Digits.{bit_added}
use Rattle.game.proofs.bits.with_bit.Goals as goal
use Rattle.game.proofs.bits.with_bit.Goals.{else-i-lt8-via-then-i-lt8+else-not-has_bit, else-i-lt8-via-else-i-lt8}

pub overflow_add-result : goal.overflow_add-result
overflow_add-result c = record { fits = (bit_added c.args.byte c.args.i (omega arith) c.if-i-lt8.true (sym c.if-not-has_bit.ensures)).0 }

pub returns-then-not-has_bit : goal.returns-then-not-has_bit
returns-then-not-has_bit c = (bit_added c.args.byte c.args.i (omega arith) c.if-i-lt8.true (sym c.if-not-has_bit.ensures)).1

pub returns-else-i-lt8 : goal.returns-else-i-lt8
returns-else-i-lt8 c j = grind (arith, nat_tests, bit_past c.args.byte 8 c.args.i)
