use Rattle.std.proofs.Common.{◌≡◌, ℕ, ◌<◌, true, length, get_or}
use Rattle.game.specs.Below.{bit}
use Rattle.theory.specs.Laws.{Exactly}
use Rattle.theory.specs.Ranking.{Within}
use Rattle.theory.specs.Verdicts.{Stay}
use Rattle.solver.specs.Positions.{meant}
use Rattle.solver.proofs.outer.Outer.new.Given as goal

-- the moves of each state so far that has a rank are those that stay in the set
abbrev pub invariant-loop-state : goal.invariant-loop-state
invariant-loop-state g l =
    (length l.stay ≡ 256)
    × ((s : ℕ) → s < l.state → Within l.ranks.at 255 s → (a : ℕ) → Exactly (bit (get_or l.stay s 0) a ≡ true) (Stay (meant g.S.Source.game l.links.position) (Within l.ranks.at 255) s a))
