use Rattle.std.proofs.Common.{arith}
use Rattle.layout.proofs.Places.{set_end_le}
use Rattle.records.proofs.set.WholeSet.new.Goals as goal

pub new-requires : goal.new-requires
new-requires c = omega (arith, set_end_le c.args.bytes.now c.args.at)
