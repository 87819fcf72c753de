use Rattle.std.proofs.Common.{rules}
use Rattle.layout.specs.Reading.{moves_in}
use Rattle.records.proofs.bits.count_bits.Goals as goal

pub returns-clause-count : goal.returns-clause-count
unfolding moves_in
returns-clause-count c = search rules
