use Rattle.std.proofs.Common.{◌+◌}
use Rattle.theory.specs.Ranking.{layers_of}
use Rattle.theory.proofs.Ranking.{Swept}
use Rattle.solver.proofs.Marks.{Noted}
use Rattle.solver.proofs.levels.sweep.Given as goal

-- the states seen so far have their ranks up to the next level, and those are marked from which one that entered can come next
abbrev pub invariant-loop-state : goal.invariant-loop-state
invariant-loop-state g l = record {
  noted : Noted l.links.before.now (l.level + 1) l.ranks.at l.next;
  swept : Swept (layers_of (g.T.Step.position l.step) (g.T.Step.set l.step)) l.level l.state l.ranks.at l.entered;
}
