use Rattle.std.proofs.Common.{◌≡◌}
use Rattle.theory.specs.Positions.{Playable}
use Rattle.theory.proofs.OuterSets.{Round}
use Rattle.solver.specs.Positions.{meant}
use Rattle.solver.specs.Steps.{HasStates}
use Rattle.solver.proofs.outer.AlmostSure.new.Given as goal

-- the set of this round, and the ranks of its levels
abbrev pub invariant-loop-rounds : goal.invariant-loop-rounds
invariant-loop-rounds g l = record {
  position : l.outer.links.now.position ≡ l.links.position;
  states : HasStates (meant g.S.Source.game l.links.position) l.inner.at;
  round : Playable (meant g.S.Source.game l.links.position) → Round (meant g.S.Source.game l.links.position) l.rounds l.outer.ranks.at l.inner.at;
}
