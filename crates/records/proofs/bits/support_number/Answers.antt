use Rattle.std.proofs.Common.{◌+◌, ◌*◌, sym, ap₂, arith}
use Rattle.game.proofs.Below.{bit_in_byte}
use Rattle.layout.specs.Reading.{support_index}
use Rattle.records.proofs.bits.support_number.Goals as goal

pub count_below-requires : goal.count_below-requires
count_below-requires c = omega (arith, c.from-2.ensures, bit_in_byte c.args.first c.args.a (omega arith) (sym c.if-not-has_bit.ensures))

pub count_below-requires-2 : goal.count_below-requires-2
count_below-requires-2 c = omega (arith, c.from-4.ensures, bit_in_byte c.args.second c.args.b (omega arith) (sym c.if-not-has_bit-2.ensures))

pub returns : goal.returns
unfolding support_index
returns c =
    let before = rw (c.from.ensures, c.from-2.ensures) at c.count_below.ensures.count in
    let behind = rw (c.from-3.ensures, c.from-4.ensures) at c.count_below-2.ensures.count in
    (sym c.if-not-has_bit.ensures, sym c.if-not-has_bit-2.ensures, ap₂ ◌+◌ (ap₂ ◌*◌ before c.count_bits.ensures.count) behind)
