use Rattle.solver.proofs.Held.{Held}
use Rattle.solver.proofs.verdicts.work_out.Given as goal

-- the verdicts on the states so far are put in
abbrev pub invariant-loop-state : goal.invariant-loop-state
invariant-loop-state g l = Held (g.S.Source.game l.source) l.initial.entries.at l.sure.at l.almost.at l.stay l.state l.entries.at
