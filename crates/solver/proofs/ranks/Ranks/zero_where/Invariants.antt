use Rattle.solver.specs.Ranks.{ZeroWhere}
use Rattle.solver.proofs.ranks.Ranks.zero_where.Given as goal

-- the states so far have rank 0 where they pass, and no other state has a rank
abbrev pub invariant-loop-state : goal.invariant-loop-state
invariant-loop-state g l = ZeroWhere (goal.F-post g l.test) l.state l.ranks.at
