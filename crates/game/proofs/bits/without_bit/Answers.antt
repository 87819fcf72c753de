use Rattle.std.proofs.Common.{sym, arith}
use Rattle.game.proofs.Below.{bit_in_byte}
use Rattle.game.proofs.Digits.{bit_taken}
use Rattle.game.proofs.bits.without_bit.Goals as goal

pub overflow_shl-result : goal.overflow_shl-result
overflow_shl-result c = bit_in_byte c.args.byte c.args.i (omega arith) (sym c.if-has_bit.ensures)

pub returns-then-has_bit : goal.returns-then-has_bit
returns-then-has_bit c = bit_taken c.args.byte c.args.i (omega arith) (sym c.if-has_bit.ensures)
