use Rattle.std.proofs.Common.{rules}
use Rattle.bench.proofs.Edits.{opened_is, opened_sound}
use Rattle.bench.proofs.bench.Bench.open.Goals as goal

pub invariant_of-result : goal.invariant_of-result
invariant_of-result g c = search (rules, opened_sound, opened_is)

pub returns : goal.returns
returns g c = search (rules, opened_is)
