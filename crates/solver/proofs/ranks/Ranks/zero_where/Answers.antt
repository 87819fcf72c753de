use Rattle.solver.proofs.Zeros.{zeros_none}
use Rattle.solver.proofs.ranks.Ranks.zero_where.Goals as goal

pub loop-state-init : goal.loop-state-init
loop-state-init g c = zeros_none (goal.F-post g c.args.test)
