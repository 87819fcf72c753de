use Rattle.std.proofs.Common.{ℕ}
use Rattle.theory.specs.Ranking.{layers_of, rank_at, RankUpto}
use Rattle.solver.specs.Links.{Spares}
use Rattle.solver.proofs.levels.levels.Given as goal

-- the ranks up to the level, and marks for the next one
abbrev pub invariant-loop-level : goal.invariant-loop-level
invariant-loop-level g l = record {
  marks : Spares (layers_of (g.T.Step.position l.step) (g.T.Step.set l.step)) l.level l.marks;
  ranks : (s : ℕ) → RankUpto (layers_of (g.T.Step.position l.step) (g.T.Step.set l.step)) l.level s (rank_at l.ranks.at s);
}
