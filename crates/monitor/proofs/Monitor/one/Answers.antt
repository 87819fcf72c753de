use Rattle.std.proofs.Common.{arith, lit≤}
use Rattle.monitor.proofs.Products.{zeros}
use Rattle.monitor.proofs.Monitor.one.Goals as goal

pub invariant_of-result : goal.invariant_of-result
invariant_of-result c = record { some = lit≤ tt; few = lit≤ tt; entries = λ k h. omega (arith, zeros 256 k) }

pub returns-clause-table : goal.returns-clause-table
returns-clause-table c = zeros 256
