use Rattle.std.proofs.Common.{arith}
use Rattle.std.proofs.lemmas.Bool.Decides.{nat_tests}
use Rattle.game.proofs.Below.{bit_past}
use Rattle.game.proofs.bits.has_bit.Goals as goal

pub returns-else-i-lt8 : goal.returns-else-i-lt8
returns-else-i-lt8 c = grind (arith, nat_tests, bit_past c.args.byte 8 c.args.i)
