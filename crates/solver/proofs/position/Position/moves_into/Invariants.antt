use Rattle.std.proofs.Common.{ℕ, ◌<◌, get_or}
use Rattle.game.specs.declared.player.Player.TheVariants.{Two}
use Rattle.theory.specs.Positions.{Keeps, Leads}
use Rattle.theory.specs.Ranking.{Within}
use Rattle.theory.specs.Verdicts.{Stay}
use Rattle.theory.proofs.Supports.{Gathers}
use Rattle.solver.specs.Positions.{meant}
use Rattle.solver.proofs.position.Position.moves_into.Given as goal

-- the moves found so far
abbrev pub invariant-moves : goal.invariant-moves
invariant-moves g l = Gathers (Stay (meant g.S.Source.game l.self) (Within l.ranks.at l.level) l.state) l.a l.moves

-- each reply so far leads into the ranks
abbrev pub invariant-loop-b : goal.invariant-loop-b
invariant-loop-b g l =
    let x = meant g.S.Source.game l.self in
    (b : ℕ) → b < l.b → Keeps x Two l.state b → (t : ℕ) → Leads x l.state l.a b t → Within l.ranks.at l.level t

-- each member of the support so far is in the ranks
abbrev pub invariant-loop-k : goal.invariant-loop-k
invariant-loop-k g l = (k : ℕ) → k < l.k → Within l.ranks.at l.level (get_or ((g.S.Source.game l.self.source.now).support l.state l.a l.b) k 0)
