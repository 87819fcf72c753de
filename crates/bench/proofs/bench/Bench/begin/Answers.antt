use Rattle.std.proofs.Common.{rules}
use Rattle.bench.proofs.Begins.{not_begun, begun_here}
use Rattle.bench.proofs.bench.Bench.begin.Goals as goal

pub returns-in_err-check_solved : goal.returns-in_err-check_solved
returns-in_err-check_solved g c = search (rules, not_begun)

pub returns : goal.returns
returns g c = search (rules, begun_here)
